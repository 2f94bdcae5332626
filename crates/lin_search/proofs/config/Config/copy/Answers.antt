use Rattle.std.proofs.Common.{◌≡◌, ◌∙◌, true, ap}
use Rattle.lin_search.specs.AlikeLemmas.{alike_reachable}
use Rattle.lin_search.specs.Configuration.{Configuration}
use Rattle.lin_search.specs.SameLemmas.{alike_itself}
use Rattle.lin_search.proofs.config.Config.copy.Goals as goal

pub returns-clause-reachable : goal.returns-clause-reachable
returns-clause-reachable g c =
    let lifted : c.self.inside.lifted ≡ c.args.self.now.lifted = ap (λ (k : Configuration g.row.O-State.Denot). k.lifted) c.self.view_is in
    let state : c.self.inside.state ≡ c.args.self.now.state = ap (λ (k : Configuration g.row.O-State.Denot). k.state) c.self.view_is in
    let same : g.O.State.PartialEq.eq c.args.self.now.state c.in_ok-copy_state.field-0 ≡ true = c.lawful.ensures.states.symm c.args.self.now.state c.in_ok-copy_state.field-0 ∙ (rw state at c.in_ok-copy_state.ensures.copy) in
    rw (c.in_ok-copy.ensures ∙ lifted)
    (alike_reachable (alike_itself c.lawful.ensures c.args.problem.now) c.args.self.now.lifted c.args.self.now.state c.in_ok-copy_state.field-0 same c.requires)
