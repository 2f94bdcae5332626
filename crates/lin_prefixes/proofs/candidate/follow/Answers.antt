use Rattle.std.proofs.Common.{◌≡◌, ◌++◌, ◌∷◌, []}
use Rattle.lin_history.specs.Problems.Problem.{problem_of}
use Rattle.lin_history.specs.Problems.Configurations.{IsReachable}
use Rattle.lin_search.specs.CallSet.{with_call}
use Rattle.lin_prefixes.proofs.WalkLemmas.{where_some, lifted_more}
use Rattle.lin_prefixes.proofs.candidate.follow.Goals as goal

pub returns-clause-lifted : goal.returns-clause-lifted
returns-clause-lifted g c =
    λ yes.
    let last = where_some c.in_ok-lift.field-0 c.is_some.result (c.lift.new.self.entries.lifted ≡ c.args.path.now.entries.lifted ++ c.args.call ∷ []) c.is_some.ensures yes c.in_ok-lift.ensures.last in
    let set = where_some c.in_ok-lift.field-0 c.is_some.result (c.lift.new.self.config.lifted ≡ with_call c.args.path.now.config.lifted c.args.call) c.is_some.ensures yes c.in_ok-lift.ensures.lifted in
    lifted_more (problem_of g.O.SeqObject.after g.O.State.PartialEq.eq g.O.Reply.PartialEq.eq c.args.path.now.entries.problem) c.args.path.now.entries.lifted _ _ c.args.path.now.config.lifted _ last c.requires.lifted set

pub returns-clause-reachable : goal.returns-clause-reachable
returns-clause-reachable g c =
    λ yes.
    let set = where_some c.in_ok-lift.field-0 c.is_some.result (c.lift.new.self.config.lifted ≡ with_call c.args.path.now.config.lifted c.args.call) c.is_some.ensures yes c.in_ok-lift.ensures.lifted in
    rw set (where_some c.in_ok-lift.field-0 c.is_some.result (IsReachable (problem_of g.O.SeqObject.after g.O.State.PartialEq.eq g.O.Reply.PartialEq.eq c.args.path.now.entries.problem) (with_call c.args.path.now.config.lifted c.args.call) c.lift.new.self.config.state) c.is_some.ensures yes c.in_ok-lift.ensures.reachable)
