use Rattle.lin_fewer.proofs.borne.note_base.Goals as goal

pub note_borne-requires-clause-flags : goal.note_borne-requires-clause-flags
note_borne-requires-clause-flags g c = (c.requires.borne c.at-node.result.now c.at-node.ensures).flags

pub note_borne-requires-clause-completes : goal.note_borne-requires-clause-completes
note_borne-requires-clause-completes g c = rw (c.state.ensures, c.config-2.ensures) (c.requires.borne c.at-node.result.now c.at-node.ensures).completes
