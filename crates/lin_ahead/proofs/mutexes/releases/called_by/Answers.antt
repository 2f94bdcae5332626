use Rattle.std.proofs.Common.{rules, of_calls, sym, subst, ◌≡◌, List, true, false}
use Rattle.lin_object.specs.declared.op.Op.{Op}
use Rattle.lin_object.specs.declared.reply.Reply.{Reply}
use Rattle.lin_history.specs.declared.problems.problem.ProblemCall.{ProblemCall}
use Rattle.std.specs.List.Sorted.{IsPartitionPoint}
use Rattle.std.proofs.lemmas.Fn.{always_returns_same}
use Rattle.lin_history.specs.Problems.ProblemParts.{AreTimed}
use Rattle.lin_ahead.proofs.mutexes.ReleaseLemmas.{is_called_by, called_before, called_after, calls_in_two}
use Rattle.lin_ahead.proofs.mutexes.releases.called_by.Goals as goal

point : (c : goal.After-partition_point) → IsPartitionPoint (λ x. is_called_by c.args.event x ≡ true) (λ x. is_called_by c.args.event x ≡ false) c.args.problem.now.calls c.partition_point.result
point c = subst (λ (l : List (ProblemCall Op Reply)). IsPartitionPoint (λ x. is_called_by c.args.event x ≡ true) (λ x. is_called_by c.args.event x ≡ false) l c.partition_point.result) c.calls.ensures.calls
    (c.partition_point.ensures.partitioned (is_called_by c.args.event) (always_returns_same _ _ _ (λ a r f k. search (rules, of_calls))) (calls_in_two c.calls.result.now c.args.event (subst AreTimed (sym c.calls.ensures.calls) c.calls.ensures.timed)))

-- src/mutexes/releases.rt:17:1
pub returns-clause-each : goal.returns-clause-each
returns-clause-each c = λ k x e less. called_before c.args.problem.now.calls c.args.event c.partition_point.result (point c) k x e less

-- src/mutexes/releases.rt:17:1
pub returns-clause-no_other : goal.returns-clause-no_other
returns-clause-no_other c = λ k x e more. called_after c.args.problem.now.calls c.args.event c.partition_point.result (point c) k x e more
