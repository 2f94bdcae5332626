use Rattle.std.proofs.Common.{◌≡◌, ◌∙◌}
use Rattle.std.specs.List.{slice_get}
use Rattle.std.proofs.lemmas.Result.{on_ok_weaker}
use Rattle.lin_history.specs.Locality.RecordedWhole.{start_at, part_of}
use Rattle.lin_history.specs.Problems.AnyProblem.{any_problem}
use Rattle.lin_explain.specs.RunExplained.{object_name}
use Rattle.lin_explain.proofs.RunLemmas.{placed_known, numbers_are, part_same, start_same, legal_same, name_is, lines_are}
use Rattle.lin_explain.proofs.run_explained.write_run_explained.Goals as goal

pub order_of-requires : goal.order_of-requires
order_of-requires c =
    placed_known c.args.history.now c.args.object c.requires.run.0 c.args.run.now _ c.requires.run.2

pub replies_of-requires : goal.replies_of-requires
replies_of-requires c =
    placed_known c.args.history.now c.args.object c.requires.run.0 c.args.run.now _ c.requires.run.2

pub explain-requires : goal.explain-requires
explain-requires c =
    legal_same (any_problem c.in_ok-problem.problem) (part_of c.args.history.now c.args.object) c.in_ok-problem.problem.start (start_at c.args.history.now c.args.object) c.in_ok-order.order c.requires.run.0
    (part_same c.args.history.now c.args.object c.in_ok-problem.problem c.in_ok-problem.ensures.start c.in_ok-problem.ensures.calls)
    (start_same c.args.history.now c.args.object c.in_ok-problem.problem c.in_ok-problem.ensures.start c.in_ok-problem.ensures.calls)
    (c.in_ok-order.ensures ∙ numbers_are c.args.history.now c.args.object c.requires.run.0 c.args.run.now _ c.requires.run.2)
    c.requires.run.1

pub returns : goal.returns
returns c =
    let part = part_same c.args.history.now c.args.object c.in_ok-problem.problem c.in_ok-problem.ensures.start c.in_ok-problem.ensures.calls in
    let named : c.object.result.name.now ≡ object_name c.args.history.now c.args.object = name_is (slice_get c.args.history.now.objects c.args.object) _ c.object.ensures in
    on_ok_weaker c.write_explanation.result (λ written. (
      _,
      lines_are c.args.history.now c.args.object c.in_ok-problem.problem part c.in_ok-problem.ensures.calls c.object.result.name.now c.in_ok-order.order c.args.run.now c.in_ok-replies.replies.items c.args.lines.now c.in_ok-explanation.explanation named
          c.in_ok-order.ensures (rw c.calls.ensures.calls at c.in_ok-replies.ensures) c.in_ok-explanation.ensures,
      written,
    ))
    (rw (c.calls-2.ensures.calls, c.calls-3.ensures, c.as_slice.ensures.value, c.as_slice-2.ensures.value) at c.write_explanation.ensures)
