use Rattle.std.proofs.Common.{subst, IfOk}
use Rattle.lin_history.specs.Problems.Problem.{problem_of}
use Rattle.lin_search.specs.Answer.{IsAnswer}
use Rattle.lin_workers.proofs.searches.deciding.outcome_of.Goals as goal

pub returns-in-None-clause-answer : goal.returns-in-None-clause-answer
returns-in-None-clause-answer g c =
    subst (λ t. IfOk c.search_unless_starved.result (IsAnswer (problem_of g.O.SeqObject.after g.O.State.PartialEq.eq g.O.Reply.PartialEq.eq c.args.problem.now) t.config.lifted t.config.state c.args.bounds.now.limit (λ told. ⊥))) c.task.view_is c.search_unless_starved.ensures.answer
