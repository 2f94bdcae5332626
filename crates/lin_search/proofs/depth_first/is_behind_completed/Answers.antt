use Rattle.lin_search.proofs.PathLemmas.{ok_map}
use Rattle.lin_search.proofs.depth_first.is_behind_completed.Goals as goal

pub returns : goal.returns
returns g c =
    ok_map _ _ c.can_follow_before.result
    (λ known k told. let n = k told in (rw c.problem.ensures at (c.adds_nothing.ensures.nothing c.if-not-adds_nothing.false)) c.args.path.now.config.lifted c.args.path.now.config.state n.0 n.1)
    c.can_follow_before.ensures.follows
