use Rattle.std.proofs.Common.{◌≡◌, Result, Ok, Err, Option, Some, None, sym, ap}
use Rattle.std.specs.Prelude.{IfOk, IfSome}
use Rattle.lin_search.specs.Configuration.{Configuration}
use Rattle.lin_search.specs.ReachableLemmas.{reachable_child}
use Rattle.lin_search.specs.SameLemmas.{alike_itself}
use Rattle.lin_search.proofs.config.Config.next_state.Goals as goal

-- what holds of the state that a step gives, where there is one
of_step : {State E : Type 0} (P : State → Type 0) (step : Option State) (r : Result (Option State) E) → ((t : State) → step ≡ Some t → P t) → IfOk r (λ answer. answer ≡ step) → IfOk r (λ answer. IfSome answer P)
of_step P step (Ok (Some t)) f e = f t (sym e)
of_step P step (Ok None) f e = tt
of_step P step (Err x) f e = tt

pub returns-clause-reachable : goal.returns-clause-reachable
returns-clause-reachable g c =
    let state : c.self.inside.state ≡ c.args.self.now.state = ap (λ (k : Configuration g.row.O-State.Denot). k.state) c.self.view_is in
    of_step _ _ c.state_after.result
    (λ t step. reachable_child _ (alike_itself c.lawful.ensures c.args.problem.now) _ _ _ _ c.requires.reachable (record { outside = c.requires.minimal.outside; preceded = c.requires.minimal.preceded; step = rw state at step }))
    c.state_after.ensures
