use Rattle.std.proofs.Common.{OnOk, IsSomeAnd, subst}
use Rattle.lin_history.specs.Recorder.Events.{calls}
use Rattle.lin_history.specs.Recorder.Recording.{index_named}
use Rattle.lin_history.specs.Recorder.NextEvents.{Adds}
use Rattle.lin_history.proofs.recorder.builder.Builder.call.Goals as goal

pub returns-clause-history : goal.returns-clause-history
returns-clause-history c =
    subst (λ name. OnOk c.call_on.result (IsSomeAnd (index_named c.args.self.now name) (λ object. Adds c.args.self.now (calls c.args.process object c.args.op) c.call_on.new.self)))
    c.in_ok-found.ensures.name c.call_on.ensures.history
