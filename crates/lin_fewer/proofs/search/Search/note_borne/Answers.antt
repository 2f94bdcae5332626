use Rattle.lin_history.specs.Problems.Problem.{problem_of}
use Rattle.lin_search.specs.SameLemmas.{alike_itself}
use Rattle.lin_fewer.proofs.KnowledgeLemmas.{good_more}
use Rattle.lin_fewer.proofs.search.Search.note_borne.Goals as goal

pub invariant_of-self : goal.invariant_of-self
invariant_of-self g c = (record { are_pending = c.self.invariant.0.are_pending; every = c.self.invariant.0.every; none = c.self.invariant.0.none; complete = rw c.in_err-add.ensures.err c.self.invariant.0.complete }, c.self.invariant.1, c.self.invariant.2)

pub invariant_of-self-2 : goal.invariant_of-self-2
invariant_of-self-2 g c = (record { are_pending = c.self.invariant.0.are_pending; every = c.self.invariant.0.every; none = c.self.invariant.0.none; complete = rw (c.in_ok-add.ensures.ok, c.from_parts.ensures) (good_more (problem_of g.O.SeqObject.after g.O.State.PartialEq.eq g.O.Reply.PartialEq.eq c.self.inside.problem.now) (alike_itself c.lawful.ensures c.self.inside.problem.now) c.self.inside.good c.self.invariant.0.complete c.args.borne.now c.args.state.now (rw (← c.self.view_is) at c.requires.flags) (rw (← c.self.view_is) at c.requires.completes) (record { lifted = c.in_ok-set.set; state = c.in_ok-state.state }) c.in_ok-set.ensures c.in_ok-state.ensures.copy) }, c.self.invariant.1, c.self.invariant.2)
