use Rattle.std.proofs.Common.{◌≡◌, ◌-◌, ◌<◌, ◌≤◌, ℕ, Some, List, length, sym, subst, arith}
use Rattle.std.specs.List.{slice_get}
use Rattle.lin_ahead.specs.declared.values.writers.Writer.{Writer}
use Rattle.lin_ahead.specs.Values.Writers.{AreListedFrom}
use Rattle.lin_ahead.proofs.values.PossibleOwnerLemmas.{listed_none, listed_passed, listed_pushed, listed_all}
use Rattle.lin_ahead.proofs.values.owners.list_owners.Goals as goal
use Rattle.lin_ahead.proofs.values.owners.list_owners.Goals.{in-Some-passed, in-None+else-len-ge-MOST_OWNERS+in_ok-push-in-None}

pub loop-init : goal.loop-init
loop-init c = record {
  within = c.end-place.ensures.within;
  since = λ some. absurd (omega (arith, some));
  listed = listed_none c.args.calls.now c.args.finder.now c.args.writers.now.rows.items c.end-place.result c.args.owners.now.items c.requires.finder c.end-place.ensures.behind;
}

pub loop-preserved : goal.loop-preserved
loop-preserved c =
    let calls = c.args.calls.now in
    let finder = c.args.finder.now in
    let rows = c.args.writers.now.rows.items in
    let here : slice_get rows (c.loop.place - 1) ≡ Some c.in-Some.row = subst (λ (l : List Writer). slice_get l (c.loop.place - 1) ≡ Some c.in-Some.row) c.as_slice.ensures.value c.in-Some.ensures.some.1 in
    let first : 0 < c.loop.place = c.in-Some.ensures.some.0 in
    let within : c.loop.place ≤ length rows = c.loop.invariant.within in
    elim c.match-passed.branch [
      | in-Some-passed w ↦ rw (w.place-is, w.owners-is) (record {
        within = let low = w.in-Some-passed.ensures.0 in omega (arith, low, within);
        since = c.look_on-sought.ensures;
        listed = listed_passed calls finder rows w.in-Some-passed.next c.loop.place c.loop.owners.items w.in-Some-passed.ensures.1 c.loop.invariant.listed;
      })
      | in-None+else-len-ge-MOST_OWNERS+in_ok-push-in-None w ↦ rw (w.place-is, w.owners-is) (record {
        within = omega (arith, within);
        since = c.look_on-sought.ensures;
        listed = subst (λ (l : List ℕ). AreListedFrom calls finder rows (c.loop.place - 1) l) (sym w.in_ok-push-in-None.ensures.ok) (listed_pushed calls finder rows c.loop.place c.in-Some.row c.loop.owners.items first here c.loop.invariant.listed);
      })
    ]

pub returns-in_default-clause-listed : goal.returns-in_default-clause-listed
returns-in_default-clause-listed c = listed_all c.args.calls.now c.args.finder.now c.args.writers.now.rows.items c.loop.place c.loop.owners.items (λ i r less at. c.in_default.ensures.none i r less (subst (λ (l : List Writer). slice_get l i ≡ Some r) (sym c.as_slice.ensures.value) at)) c.loop.invariant.listed
