use Rattle.lincheck.proofs.known.Known.refute.Goals as goal

pub returns : goal.returns
returns c p none is = record { refuted = λ yes. none; order = is.order; fault = is.fault; begun = c.nothing.ensures p }
