use Rattle.lincheck.proofs.witness.witness_known.Goals as goal

pub returns-in_ok-witness-in-Found : goal.returns-in_ok-witness-in-Found
returns-in_ok-witness-in-Found c =
    c.in_ok-witness-in-Found.ensures c.args.history.now c.args.object c.requires.start c.requires.calls (rw c.in-Found.is at c.requires.fault)
