use Rattle.std.proofs.Common.{rules}
use Rattle.lin_text.proofs.text.take_event.Goals as goal

pub returns-in-Return-clause-sound : goal.returns-in-Return-clause-sound
returns-in-Return-clause-sound c = search rules depth 3
