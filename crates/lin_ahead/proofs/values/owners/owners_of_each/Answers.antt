use Rattle.std.proofs.Common.{◌≡◌, ◌+◌, List, length, length-append, rules, sym, ◌∙◌, ap, subst, to_z, of_z, w64, arith}
use Rattle.std.specs.Prelude.{ℤ}
use Rattle.lin_ahead.specs.declared.values.owners.Owners.{Owners}
use Rattle.lin_ahead.specs.Values.PossibleOwners.{AreOwnerRows}
use Rattle.lin_ahead.proofs.values.PossibleOwnerLemmas.{AreToldTo, rows_pushed, few_pushed, few_all}
use Rattle.lin_ahead.proofs.values.owners.owners_of_each.Goals as goal

pub loop-call-preserved : goal.loop-call-preserved
loop-call-preserved c =
    let calls = c.args.calls.now in
    let start = to_z w64 (of_z w64 c.args.start) in
    let rows = c.loop-call.rows.items in
    let size : length rows ≡ c.loop-call.call = c.loop-call.invariant.each in
    record {
      each = ap (λ (l : List Owners). length l) c.in_ok-push.ensures.items ∙ simp length-append (omega (arith, size));
      told = subst (λ (l : List Owners). AreOwnerRows calls start l) (sym {A = List Owners} c.in_ok-push.ensures.items) (rows_pushed calls start rows c.loop-call.call c.in_ok-owners_of_call.field-0 size c.in_ok-owners_of_call.ensures.told c.loop-call.invariant.told);
      few = subst (λ (l : List Owners). AreToldTo calls (c.loop-call.call + 1) l) (sym {A = List Owners} c.in_ok-push.ensures.items) (few_pushed calls rows c.loop-call.call c.in_ok-owners_of_call.field-0 size c.in_ok-owners_of_call.ensures.few c.loop-call.invariant.few);
    }

pub returns-clause-told : goal.returns-clause-told
returns-clause-told c =
    let same : to_z w64 (of_z w64 c.args.start) ≡ c.args.start = search rules in
    subst (λ (v : ℤ). AreOwnerRows c.args.calls.now v c.loop-call.rows.items) same c.loop-call.invariant.told

pub returns-clause-few : goal.returns-clause-few
returns-clause-few c = few_all c.args.calls.now c.loop-call.call c.loop-call.rows.items c.loop-call-test.false c.loop-call.invariant.few
