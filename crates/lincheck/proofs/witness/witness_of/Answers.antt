use Rattle.std.proofs.lemmas.Result.{IfOk-weaker}
use Rattle.lincheck.proofs.witness.witness_of.Goals as goal

pub returns-in-Some : goal.returns-in-Some
returns-in-Some g c =
    IfOk-weaker c.shown_fault.result _ _ (λ witness told. told c.args.history.now c.args.object c.requires.start c.requires.calls (rw c.in-Some.is at c.in_ok-fault.ensures.fault)) c.shown_fault.ensures
