use Rattle.lin_fewer.proofs.pending_calls.is_no_worse_at.Goals as goal

pub returns : goal.returns
returns g c = λ yes. (c.args.index, c.at.result.now, c.if-index-base.false, c.if-index-nodes.false, c.at.ensures, rw c.config.ensures at (c.is_no_worse.ensures yes))
