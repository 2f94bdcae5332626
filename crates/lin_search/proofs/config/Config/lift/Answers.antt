use Rattle.std.proofs.Common.{◌≡◌, ap}
use Rattle.lin_search.specs.Configuration.{Configuration}
use Rattle.lin_search.specs.ReachableLemmas.{reachable_child}
use Rattle.lin_search.specs.SameLemmas.{alike_itself}
use Rattle.lin_search.proofs.config.Config.lift.Goals as goal

pub returns-clause-reachable : goal.returns-clause-reachable
returns-clause-reachable g c =
    let state : c.self.inside.state ≡ c.args.self.now.state = ap (λ (k : Configuration g.row.O-State.Denot). k.state) c.self.view_is in
    let step = rw c.in-Some.is at c.in_ok-back.ensures.next in
    reachable_child _ (alike_itself c.lawful.ensures c.args.problem.now) _ _ _ _ c.requires.reachable (record { outside = c.requires.minimal.outside; preceded = c.requires.minimal.preceded; step = rw state at step })
