-- What searches of one problem found out of its configurations (this project's own).
use Rattle.lin_object.specs.declared.op.Op.{Op}
use Rattle.lin_object.specs.declared.reply.Reply.{Reply}
use Rattle.lin_object.specs.declared.state.ObjState.{ObjState}
use Rattle.lin_history.specs.Problems.Problem.{Problem}
use Rattle.lin_ahead.specs.First.FirstProgress.{AreRefuted}
use Rattle.lin_fewer.specs.Knowledge.{AreJudged}
use Rattle.lin_decide.specs.declared.begun.Begun.{Begun}

-- The configurations that were refuted are refuted, and the others rightly judged.
pub record IsBegunOf (p : Problem ObjState Op Reply) (begun : Begun) : Type 0 where
  pub refuted : AreRefuted p begun.refuted
  pub judged : AreJudged p begun.judged
