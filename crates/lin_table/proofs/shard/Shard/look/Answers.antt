use Rattle.std.proofs.Common.{◌↔◌, IsSome, subst}
use Rattle.lin_history.specs.Problems.SameProblem.{SameProblem}
use Rattle.lin_search.specs.Store.{Holds}
use Rattle.lin_table.proofs.shard.Shard.look.Goals as goal

pub returns-clause-exact : goal.returns-clause-exact
returns-clause-exact g c =
    subst
    (λ s. IsSome c.look.result ↔ (SameProblem g.O.PartialEq.eq g.O.State.PartialEq.eq g.O.Op.PartialEq.eq g.O.Reply.PartialEq.eq s.problem c.args.problem.now × Holds g.O.State.PartialEq.eq s.pairs c.args.config.now.lifted c.args.config.now.state)) c.self.view_is c.look.ensures.exact
