use Rattle.std.proofs.Common.{rules}
use Rattle.lin_history.proofs.recorder.builder.process_fault.Goals as goal

pub returns-then-has_ended-clause-idle : goal.returns-then-has_ended-clause-idle
returns-then-has_ended-clause-idle c = search rules depth 3
