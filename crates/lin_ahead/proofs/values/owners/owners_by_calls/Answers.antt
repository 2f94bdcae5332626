use Rattle.std.proofs.Common.{◌≡◌, ◌+◌, ℕ, List, inl, inr, rules, sym, ap, subst, true≢false, to_z, of_z, w64, ◌∙◌, arith}
use Rattle.std.specs.Prelude.{ℤ}
use Rattle.lin_ahead.specs.Values.PossibleOwners.{AreTooMany}
use Rattle.lin_ahead.proofs.values.PossibleOwnerLemmas.{AreListedTo, listed_more, listed_same, listed_too_many, listed_told}
use Rattle.lin_ahead.proofs.values.owners.owners_by_calls.Goals as goal
use Rattle.lin_ahead.proofs.values.owners.owners_by_calls.Goals.{then-writes+else-len-ge-MOST_OWNERS+in_ok-push, else-writes}

pub returns-then-len-ge-MOST_OWNERS-clause-few : goal.returns-then-len-ge-MOST_OWNERS-clause-few
returns-then-len-ge-MOST_OWNERS-clause-few c =
    let value = to_z w64 (of_z w64 c.args.value) in
    let same : to_z w64 (of_z w64 c.args.value) ≡ c.args.value = search rules in
    let size = c.len.ensures.value in
    let full = c.if-len-ge-MOST_OWNERS.true in
    inr (subst (λ (v : ℤ). AreTooMany c.args.calls.now v) same (listed_too_many c.args.calls.now value c.loop-writer.writer c.loop-writer.owners.items (c.writes.ensures.is c.if-writes.true) (omega (arith, size, full)) c.loop-writer.invariant))

pub loop-writer-preserved : goal.loop-writer-preserved
loop-writer-preserved c =
    let calls = c.args.calls.now in
    let value = to_z w64 (of_z w64 c.args.value) in
    let writer = c.loop-writer.writer in
    elim c.if-writes.branch [
      | then-writes+else-len-ge-MOST_OWNERS+in_ok-push w ↦ rw w.owners-is (subst (λ (l : List ℕ). AreListedTo calls value (writer + 1) l) (sym w.in_ok-push.ensures.ok)
          (listed_more calls value writer c.loop-writer.owners.items (c.writes.ensures.is w.if-writes.true) (let size = w.len.ensures.value in let room = w.if-len-ge-MOST_OWNERS.false in omega (arith, size, room)) c.loop-writer.invariant))
      | else-writes w ↦ rw w.owners-is (listed_same calls value writer c.loop-writer.owners.items (λ own. true≢false (sym (c.writes.ensures.all own) ∙ w.if-writes.false)) c.loop-writer.invariant)
    ]

pub returns-clause-told : goal.returns-clause-told
returns-clause-told c =
    let value = to_z w64 (of_z w64 c.args.value) in
    let same : to_z w64 (of_z w64 c.args.value) ≡ c.args.value = search rules in
    λ told. listed_told c.args.calls.now c.args.start c.args.value c.args.call c.loop-writer.writer _ c.requires c.loop-writer-test.false (subst (λ (v : ℤ). AreListedTo c.args.calls.now v c.loop-writer.writer c.loop-writer.owners.items) same c.loop-writer.invariant) (λ e. inl (λ is. c.are_same.ensures e (ap (λ (v : ℤ). to_z w64 (of_z w64 v)) is)))
