use Rattle.std.proofs.Common.{subst}
use Rattle.lin_history.specs.Problems.SameProblem.{SameProblem}
use Rattle.lin_search.specs.Store.{IsNoted}
use Rattle.lin_table.proofs.shard.Shard.add.Goals as goal

pub returns-clause-exact : goal.returns-clause-exact
returns-clause-exact g c =
    let told = c.args.refutation in
    subst
    (λ s. IsNoted g.O.State.PartialEq.eq (SameProblem g.O.PartialEq.eq g.O.State.PartialEq.eq g.O.Op.PartialEq.eq g.O.Reply.PartialEq.eq s.problem told.problem) s.pairs c.note.new.self.pairs told.config told.longest c.note.result) c.self.view_is c.note.ensures.exact
