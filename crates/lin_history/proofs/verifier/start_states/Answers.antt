use Rattle.std.proofs.Common.{rules}
use Rattle.lin_history.proofs.VerifierLemmas.{states_more}
use Rattle.lin_history.proofs.verifier.start_states.Goals as goal

pub loop-object-preserved : goal.loop-object-preserved
loop-object-preserved c =
    states_more c.args.history.now.objects c.loop-object.states.items c.push.new.self.items c.loop-object.object _ _ c.start_state.result c.object-info.ensures (search rules) c.start_state.ensures c.in_ok-push.ensures.items c.loop-object.invariant
