use Rattle.std.proofs.Common.{sym, ◌∙◌}
use Rattle.lin_core.proofs.SinceLemmas.{write_leaves}
use Rattle.lin_core.proofs.begins_anew.leaves_one_state.Goals as goal

pub returns-in-Register-Write : goal.returns-in-Register-Write
returns-in-Register-Write c = λ yes. write_leaves c.args.problem.now c.args.call.now _ _ (sym c.start.ensures ∙ c.in-Register-Write.is-0) c.in-Register-Write.is-1
