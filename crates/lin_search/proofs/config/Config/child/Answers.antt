use Rattle.std.proofs.Common.{◌≡◌, ap}
use Rattle.lin_search.specs.CallSet.{with_call}
use Rattle.lin_search.specs.Configuration.{Configuration}
use Rattle.lin_search.proofs.config.Config.child.Goals as goal

pub returns-clause-some : goal.returns-clause-some
returns-clause-some g c =
    let copied : c.self.inside.lifted ≡ c.args.self.now.lifted = ap (λ (k : Configuration g.row.O-State.Denot). k.lifted) c.self.view_is in
    (rw copied at c.in_ok-lifted.ensures, rw c.in-Some.is at c.in_ok-state.ensures.next)

pub returns-clause-reachable : goal.returns-clause-reachable
returns-clause-reachable g c =
    let copied : c.self.inside.lifted ≡ c.args.self.now.lifted = ap (λ (k : Configuration g.row.O-State.Denot). k.lifted) c.self.view_is in
    let more : c.in_ok-lifted.lifted ≡ with_call c.args.self.now.lifted c.args.call = rw copied at c.in_ok-lifted.ensures in
    rw more (rw c.in-Some.is at c.in_ok-state.ensures.reachable)
