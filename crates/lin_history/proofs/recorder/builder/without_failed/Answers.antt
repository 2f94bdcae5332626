use Rattle.std.proofs.Common.{rules}
use Rattle.std.proofs.lemmas.List.Elements.{filter_from_retain}
use Rattle.lin_history.specs.declared.recorder.history.CallInfo.{CallInfo}
use Rattle.lin_history.specs.Recorder.Events.{is_kept}
use Rattle.lin_history.specs.Recorder.BuilderState.{made_view}
use Rattle.lin_history.proofs.recorder.builder.without_failed.Goals as goal

pub returns : goal.returns
returns c = filter_from_retain _ (λ (x : CallInfo). is_kept (made_view x)) (λ p x b q e. search rules) _ c.args.calls.items _ c.retain.ensures.filtered
