use Rattle.lin_history.specs.Problems.Problem.{problem_of}
use Rattle.lin_ahead.specs.Items.Late.{IsHeldTo}
use Rattle.lin_ahead.proofs.items.late_pushes.held_to.Given as goal

-- the push is held so far
abbrev pub invariant-loop-count : goal.invariant-loop-count
invariant-loop-count g l = IsHeldTo (problem_of g.O.SeqObject.after g.O.State.PartialEq.eq g.O.Reply.PartialEq.eq l.problem) l.late l.config.lifted l.push l.held
