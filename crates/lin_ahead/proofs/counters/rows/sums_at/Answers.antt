use Rattle.std.proofs.Common.{◌≡◌, ◌<◌, ◌^◌, Some, Bool, false, ◌∙◌, rules, ap, arith, length}
use Rattle.std.specs.Prelude.{slice_get}
use Rattle.lin_history.specs.Problems.AnyProblem.{any_problem}
use Rattle.lin_ahead.specs.Counters.Sums.{event_of}
use Rattle.lin_ahead.proofs.counters.SumRowLemmas.{asked_within, so_far_counts, so_far_asks, so_far_all, read_at}
use Rattle.lin_ahead.proofs.counters.rows.sums_at.Goals.{then-turn, else-turn}
use Rattle.lin_ahead.proofs.counters.rows.sums_at.Goals as goal

pub index_mut-requires : goal.index_mut-requires
index_mut-requires c =
    let inside : c.loop-place.place < length c.args.events.now = search rules in
    let here = read_at c.args.events.now c.loop-place.place _ _ inside c.turn_of-turn.ensures in
    let asks : slice_get c.args.events.now c.loop-place.place ≡ Some (event_of false c.args.returns c.turn_of-turn.result.call) = here ∙ ap (λ (b : Bool). Some (event_of b c.args.returns c.turn_of-turn.result.call)) c.if-turn.false in
    let within = asked_within (any_problem c.args.problem.now) c.args.returns c.args.events.now c.requires c.loop-place.place c.turn_of-turn.result.call asks in
    let each = c.loop-place.invariant.each in
    omega (arith, within, each)

pub loop-place-preserved : goal.loop-place-preserved
loop-place-preserved c =
    let inside : c.loop-place.place < length c.args.events.now = search rules in
    let here = read_at c.args.events.now c.loop-place.place _ _ inside c.turn_of-turn.ensures in
    let small : c.loop-place.place < 2 ^ 64 = search rules in
    elim c.if-turn.branch [
      | then-turn w ↦ rw (w.row-is, w.sum-is) (so_far_counts (any_problem c.args.problem.now) c.args.up c.args.returns c.args.events.now c.requires c.loop-place.place c.loop-place.sum w.share_at.result c.turn_of-turn.result.call c.loop-place.row.items c.loop-place.invariant (here ∙ ap (λ (b : Bool). Some (event_of b c.args.returns c.turn_of-turn.result.call)) w.if-turn.true) w.share_at.ensures.share w.share_at.ensures.few)
      | else-turn w ↦ rw (w.row-is, w.sum-is) (so_far_asks (any_problem c.args.problem.now) c.args.up c.args.returns c.args.events.now c.requires c.loop-place.place c.loop-place.sum c.turn_of-turn.result.call c.loop-place.row.items c.loop-place.invariant (here ∙ ap (λ (b : Bool). Some (event_of b c.args.returns c.turn_of-turn.result.call)) w.if-turn.false) small)
    ]

pub returns : goal.returns
returns c = so_far_all (any_problem c.args.problem.now) c.args.up c.args.returns c.args.events.now c.requires c.loop-place.sum c.loop-place.row.items (let e : c.loop-place.place ≡ length c.args.events.now = search rules in rw e at c.loop-place.invariant)
