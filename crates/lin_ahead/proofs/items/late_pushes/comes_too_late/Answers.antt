use Rattle.lin_history.specs.Problems.Problem.{problem_of}
use Rattle.lin_search.specs.SameLemmas.{alike_itself}
use Rattle.lin_ahead.proofs.items.LateLemmas.{late_begins_none}
use Rattle.lin_ahead.proofs.items.late_pushes.comes_too_late.Goals as goal

pub returns : goal.returns
returns g c = λ late.
    late_begins_none (problem_of g.O.SeqObject.after g.O.State.PartialEq.eq g.O.Reply.PartialEq.eq c.args.problem.now) (alike_itself c.lawful.ensures _)
    c.args.late.now c.requires.right _ _ c.requires.reachable c.args.call
    (c.is_late.ensures late)
