-- Problems whose steps are those of the tables (this project's own).
use Rattle.std.specs.Prelude.{◌≡◌, ℕ, true}
use Rattle.lin_object.specs.Kinds.{after}
use Rattle.lin_object.specs.declared.op.Op.{Op}
use Rattle.lin_object.specs.declared.reply.Reply.{Reply}
use Rattle.lin_object.specs.declared.state.ObjState.{ObjState}
use Rattle.lin_history.specs.Problems.Problem.{Problem}

-- A problem under the tables of the kinds, whose replies are equal where its test says so.
pub record IsExact (p : Problem ObjState Op Reply) : Type 0 where
  pub after_is : (s : ObjState) (process : ℕ) (op : Op) → p.after s process op ≡ after s process op
  pub exact : (r q : Reply) → p.same_reply r q ≡ true → r ≡ q
