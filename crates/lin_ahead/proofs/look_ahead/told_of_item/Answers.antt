use Rattle.std.proofs.Common.{◌∙◌, subst}
use Rattle.std.specs.Prelude.{List}
use Rattle.lin_object.specs.declared.op.Op.{Op}
use Rattle.lin_object.specs.declared.reply.Reply.{Reply}
use Rattle.lin_history.specs.declared.problems.problem.ProblemCall.{ProblemCall}
use Rattle.lin_ahead.specs.declared.values.item_value.TheConstants.{ITEM_OUT}
use Rattle.lin_ahead.specs.Values.ToldOfRegister.{IsToldOfRegister}
use Rattle.lin_ahead.proofs.look_ahead.told_of_item.Goals as goal

pub returns-clause-rows : goal.returns-clause-rows
returns-clause-rows c =
    subst (λ (l : List (ProblemCall Op Reply)). IsToldOfRegister ITEM_OUT l c.in_ok-told_of_register.field-0) (c.as_slice.ensures.value ∙ c.in_ok-on_item.ensures) c.in_ok-told_of_register.ensures
