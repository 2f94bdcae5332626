use Rattle.std.proofs.Common.{◌≡◌, ◌∷◌, ◌++◌, [], Bool, length, sym, ap, subst, ◌∙◌, rules, Some}
use Rattle.atomic_table.specs.Table.{rest}
use Rattle.lin_table.proofs.StepLemmas.{pair_of, has_more, adds_pair, some_same, value_at}
use Rattle.lin_search.specs.declared.longest.Longest.{Longest}
use Rattle.lin_search.specs.declared.memo.Noted.{Noted}
use Rattle.lin_search.specs.Configuration.{Configuration}
use Rattle.lin_search.specs.Store.{Holds, IsNoted}
use Rattle.lin_table.specs.Rule.{Pairs, known_in}
use Rattle.lin_table.proofs.steps.note_out.Goals as goal

pub slot_mut-it-requires : goal.slot_mut-it-requires
slot_mut-it-requires g c = let o = c.requires.out in (c.requires.table.0, (o.0, o.1 ∙ ap (λ l. (c.args.shard, o.0) ∷ rest l) (sym o.1)))

pub add_within-noted-requires : goal.add_within-noted-requires
add_within-noted-requires g c =
    let o = c.requires.out in
    let is = ap (value_at o.0) (sym c.slot_mut-it.ensures.value ∙ o.1) in
    rw (is, some_same (o.2 ∙ c.requires.here.1)) c.requires.here.2

pub give_more-requires-clause-out : goal.give_more-requires-clause-out
give_more-requires-clause-out g c =
    let o = c.requires.out in
    let is = ap (value_at o.0) (sym c.slot_mut-it.ensures.value ∙ o.1) in
    let pair = pair_of c.args.refutation.config c.args.refutation.longest in
    let new = c.add_within-noted.ensures.new (search rules) in
    has_more (Holds g.O.State.PartialEq.eq (known_in c.args.shards.now.key.known)) c.args.shard c.args.shards.now.key.shards c.args.token.now.me o.0 c.add_within-noted.new.self pair o.1 o.2 o.3 (c.add_within-noted.ensures.problem ∙ ap (λ y. y.problem) is) (new ∙ ap (λ y. y.pairs ++ pair ∷ []) is) c.requires.home c.requires.fresh

pub give_back-requires-clause-out : goal.give_back-requires-clause-out
give_back-requires-clause-out g c =
    let o = c.requires.out in
    let is = ap (value_at o.0) (sym c.slot_mut-it.ensures.value ∙ o.1) in
    let same = c.add_within-noted.ensures.same (search rules) in (
      c.add_within-noted.new.self,
      ap (λ l. (c.args.shard, c.add_within-noted.new.self) ∷ rest l) o.1,
      ap Some (ap (λ y. y.problem) same ∙ ap (λ y. y.problem) is) ∙ o.2,
      o.3 ∙ ap (λ y. Some (record { shard = c.args.shard; pairs = y.pairs })) (sym (same ∙ is)),
    )

pub returns-then-eq-clause-new : goal.returns-then-eq-clause-new
returns-then-eq-clause-new g c =
    let o = c.requires.out in
    let is = ap (value_at o.0) (sym c.slot_mut-it.ensures.value ∙ o.1) in
    let pair = pair_of c.args.refutation.config c.args.refutation.longest in
    let new = c.add_within-noted.ensures.new (search rules) in
    let adds = adds_pair (Holds g.O.State.PartialEq.eq (known_in c.args.shards.now.key.known)) c.args.shard c.args.shards.now.key.shards c.args.token.now.me o.0 c.add_within-noted.new.self pair o.1 o.2 o.3 (c.add_within-noted.ensures.problem ∙ ap (λ y. y.problem) is) (new ∙ ap (λ y. y.pairs ++ pair ∷ []) is) c.requires.home c.requires.fresh in
    λ _. (length o.0.pairs, ap (λ m. m.0) c.give_more.ensures.me ∙ adds)

-- the answer is told of the pairs of the shard that is out
told : {S : Type 0} (same : S → S → Bool) (config : Configuration S) (longest : Longest) (noted : Noted) (it now pairs : Pairs S) → it ≡ pairs → IsNoted same (Unit {0}) it now config longest noted → (after : Pairs S) × IsNoted same (Unit {0}) pairs after config longest noted
told same config longest noted it now pairs is exact = (now, subst (λ l. IsNoted same (Unit {0}) l now config longest noted) is exact)

pub returns-then-eq-clause-told : goal.returns-then-eq-clause-told
returns-then-eq-clause-told g c =
    λ y out. told g.O.State.PartialEq.eq _ _ _ _ _ y.pairs (ap (λ s. s.pairs) (ap (value_at y) (sym c.slot_mut-it.ensures.value ∙ out))) c.add_within-noted.ensures.exact

pub returns-else-eq-clause-told : goal.returns-else-eq-clause-told
returns-else-eq-clause-told g c =
    λ y out. told g.O.State.PartialEq.eq _ _ _ _ _ y.pairs (ap (λ s. s.pairs) (ap (value_at y) (sym c.slot_mut-it.ensures.value ∙ out))) c.add_within-noted.ensures.exact
