-- Problems of the object that histories are judged by.
use Rattle.lin_object.specs.declared.op.Op.{Op}
use Rattle.lin_object.specs.declared.reply.Reply.{Reply}
use Rattle.lin_object.specs.declared.state.ObjState.{ObjState}
use Rattle.lin_object.specs.contracts.reply.ReplyPartialEq.TheImpl.{eq-value as reply_eq}
use Rattle.lin_object.specs.contracts.state.ObjStatePartialEq.TheImpl.{eq-value as state_eq}
use Rattle.lin_object.specs.Kinds.{after}
use Rattle.lin_history.specs.Problems.ProblemParts.{ProblemParts}
use Rattle.lin_history.specs.Problems.Problem.{Problem, problem_of}

-- The problem under the tables of the kinds, with the replies' and the states' own equality.
abbrev pub any_problem : {Object : Type 0} → ProblemParts Object ObjState Op Reply → Problem ObjState Op Reply
any_problem {Object} p = problem_of (λ (o : Object). after) state_eq.it reply_eq.it p
