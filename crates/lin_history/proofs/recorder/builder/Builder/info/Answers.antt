use Rattle.std.proofs.Common.{OnOk, IsSomeAnd, subst}
use Rattle.lin_history.specs.Recorder.Events.{ends}
use Rattle.lin_history.specs.Recorder.Recording.{index_named}
use Rattle.lin_history.specs.Recorder.NextEvents.{Adds}
use Rattle.lin_history.proofs.recorder.builder.Builder.info.Goals as goal

pub returns-clause-history : goal.returns-clause-history
returns-clause-history c =
    subst (λ name. OnOk c.info_on.result (IsSomeAnd (index_named c.args.self.now name) (λ object. Adds c.args.self.now (ends c.args.process object) c.info_on.new.self)))
    c.in_ok-found.ensures.name c.info_on.ensures.history
