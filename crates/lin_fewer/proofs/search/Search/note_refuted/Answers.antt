use Rattle.lin_history.specs.Problems.Problem.{problem_of}
use Rattle.lin_fewer.proofs.KnowledgeLemmas.{refuted_more}
use Rattle.lin_fewer.proofs.search.Search.note_refuted.Goals as goal

pub invariant_of-self : goal.invariant_of-self
invariant_of-self g c = (record { are_pending = c.self.invariant.0.are_pending; every = c.self.invariant.0.every; none = rw c.in_err-add.ensures.err c.self.invariant.0.none; complete = c.self.invariant.0.complete }, c.self.invariant.1, c.self.invariant.2)

pub invariant_of-self-2 : goal.invariant_of-self-2
invariant_of-self-2 g c = (record { are_pending = c.self.invariant.0.are_pending; every = c.self.invariant.0.every; none = rw c.in_ok-add.ensures.ok (refuted_more (problem_of g.O.SeqObject.after g.O.State.PartialEq.eq g.O.Reply.PartialEq.eq c.self.inside.problem.now) c.fewer_law.ensures c.lawful.ensures.states c.self.inside.refuted c.self.invariant.0.none c.args.config.now.lifted c.args.config.now.state (rw (← c.self.view_is) at c.requires.none) c.in_ok-copy.copy c.in_ok-copy.ensures.lifted c.in_ok-copy.ensures.state); complete = c.self.invariant.0.complete }, c.self.invariant.1, c.self.invariant.2)

pub copy-requires : goal.copy-requires
copy-requires g c = rw (← c.self.view_is) at c.requires.reachable
