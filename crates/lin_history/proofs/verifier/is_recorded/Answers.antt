use Rattle.lin_history.proofs.verifier.is_recorded.Goals as goal

pub returns-in-Some : goal.returns-in-Some
returns-in-Some c = rw c.in-Some.is c.eq.ensures
