use Rattle.std.proofs.Common.{◌≡◌, List, ℕ, Some, false, subst, sym}
use Rattle.std.specs.Prelude.{◌↔◌, slice_get}
use Rattle.std.specs.Ordering.{int_eq}
use Rattle.indexmap.specs.IndexMap.{get}
use Rattle.lin_object.specs.declared.op.Op.{Op}
use Rattle.lin_object.specs.declared.reply.Reply.{Reply}
use Rattle.lin_history.specs.declared.problems.problem.ProblemCall.{ProblemCall}
use Rattle.lin_history.specs.Problems.Lists.{In}
use Rattle.lin_history.specs.Problems.AnyProblem.{any_problem}
use Rattle.lin_parts.specs.Parts.{AreSomeCalls}
use Rattle.lin_lost.specs.Counts.{count_in}
use Rattle.lin_lost.specs.Lost.{HoldsNothing, is_left_out}
use Rattle.lin_lost.proofs.RestLemmas.{rest_left, without_lost}
use Rattle.lin_lost.proofs.rest.without_lost.Goals as goal

pub part_of-requires : goal.part_of-requires
part_of-requires c = subst (AreSomeCalls (any_problem c.args.problem.now)) (sym c.as_slice.ensures.value) c.in_ok-kept.ensures.some

pub returns : goal.returns
returns c =
    let p = any_problem c.args.problem.now in
    let rest = c.in_ok-part_of.field-0 in
    let takes = rw c.calls.ensures.calls at c.in_ok-takes.ensures in
    let as_often = rw c.calls-3.ensures.calls at c.are_taken_as_often.ensures in
    let empty : HoldsNothing c.args.problem.now.start = rw c.start.ensures at (c.holds_nothing.ensures.0 c.if-not-holds_nothing.false) in
    let without = without_lost p c.as_slice.result.now rest.calls (count_in (get int_eq c.in_ok-takes.takes)) empty (as_often.0 c.if-not-are_taken_as_often.false) c.in_ok-part_of.ensures.part takes (subst (λ (kept : List ℕ). (d : ℕ) (x : ProblemCall Op Reply) → slice_get c.args.problem.now.calls d ≡ Some x → In d kept ↔ (is_left_out (count_in (get int_eq c.in_ok-takes.takes)) x.op x.returned ≡ false)) (sym c.as_slice.ensures.value) c.in_ok-kept.ensures.each) in
    record {
      exact = (c.in_ok-part_of.ensures.start, (c.as_slice.result.now, without));
      left = rest_left c.args.problem.now rest c.in_ok-part_of.ensures.start c.as_slice.result.now without;
    }
