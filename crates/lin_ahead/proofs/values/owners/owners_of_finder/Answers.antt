use Rattle.std.proofs.Common.{◌≡◌, rules, subst, to_z, of_z, w64}
use Rattle.std.specs.Prelude.{ℤ}
use Rattle.lin_ahead.specs.Values.PossibleOwners.{IsNotFromStart}
use Rattle.lin_ahead.proofs.values.PossibleOwnerLemmas.{are_owners}
use Rattle.lin_ahead.proofs.values.owners.owners_of_finder.Goals as goal

pub returns-in-Some : goal.returns-in-Some
returns-in-Some c =
    let f = c.args.finder.now in
    let listed = rw c.in-Some.is at c.in_ok-sought.ensures.listed in
    let same : to_z w64 (of_z w64 c.args.start) ≡ c.args.start = search rules in
    λ told. are_owners c.args.calls.now c.args.start f c.args.writers.now.rows.items _ c.requires.finder c.requires.all listed
    (λ e. subst (λ (v : ℤ). IsNotFromStart c.args.calls.now v f.value f.call) same (c.may_be_from_start.ensures e))
