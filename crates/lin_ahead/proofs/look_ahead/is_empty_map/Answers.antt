use Rattle.lin_ahead.proofs.values.KeyLemmas.{empty_map}
use Rattle.lin_ahead.proofs.look_ahead.is_empty_map.Goals as goal

pub returns : goal.returns
returns c = empty_map c.args.state.now c.start_state.result c.eq.result c.eq.ensures c.start_state.ensures
