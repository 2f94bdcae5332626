use Rattle.lin_object.proofs.object.lawful.Goals as goal

pub returns : goal.returns
returns g c =
    record {
      objects = (g.met.O.Eq).laws;
      states = (g.met.O.State.Eq).laws;
      ops = (g.met.O.Op.Eq).laws;
      replies = (g.met.O.Reply.Eq).laws;
      steps_alike = (g.met.O.SeqObject).steps_alike;
    }
