use Rattle.std.proofs.Common.{◌≡◌, ◌+◌, ◌<◌, ℕ, Some, List, length, sym, subst, arith}
use Rattle.std.specs.List.{slice_get}
use Rattle.std.specs.Prelude.{slice_index_or}
use Rattle.std.proofs.lemmas.Option.{slice_get-get_or}
use Rattle.lin_ahead.proofs.values.NarrowedLemmas.{LeftTo, left_kept, left_out, left_all}
use Rattle.lin_ahead.proofs.values.narrowing.owners_left.Goals as goal
use Rattle.lin_ahead.proofs.values.narrowing.owners_left.Goals.{then-not-is_taken_out+in_ok-push, else-not-is_taken_out}

pub loop-at-preserved : goal.loop-at-preserved
loop-at-preserved c =
    let calls = c.args.calls.now in
    let rows = c.args.rows.now in
    let owners = c.args.owners.now in
    let at = c.loop-at.at in
    let within : at < length owners = (let a = c.loop-at-test.true in let b = c.loop-at.auto.at-end in omega (arith, a, b)) in
    let there : slice_get owners at ≡ Some (slice_index_or owners at 0) = slice_get-get_or owners at 0 within in
    elim c.if-not-is_taken_out.branch [
      | then-not-is_taken_out+in_ok-push w ↦ rw w.left-is (subst (λ (l : List ℕ). LeftTo calls rows c.args.call (at + 1) owners l) (sym w.in_ok-push.ensures.ok) (left_kept calls rows c.args.call at owners c.loop-at.left.items (slice_index_or owners at 0) there c.loop-at.invariant))
      | else-not-is_taken_out w ↦ rw w.left-is (left_out calls rows c.args.call at owners c.loop-at.left.items (slice_index_or owners at 0) there (c.is_taken_out.ensures w.if-not-is_taken_out.false) c.loop-at.invariant)
    ]

pub returns : goal.returns
returns c = left_all c.args.calls.now c.args.rows.now c.args.call c.loop-at.at c.args.owners.now c.loop-at.left.items (let a = c.loop-at-test.false in let b = c.loop-at.auto.at-end in omega (arith, a, b)) c.loop-at.invariant
