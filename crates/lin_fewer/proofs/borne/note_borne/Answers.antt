use Rattle.std.proofs.Common.{◌≡◌, ℕ, Some, sym, subst, ◌∙◌, arith}
use Rattle.std.specs.Prelude.{slice_get}
use Rattle.lin_history.specs.Problems.Problem.{problem_of}
use Rattle.lin_fewer.specs.Nodes.{Node}
use Rattle.lin_fewer.specs.Knowledge.{IsBorne}
use Rattle.lin_fewer.proofs.KnowledgeLemmas.{borne_completes}
use Rattle.lin_fewer.proofs.SearchLemmas.{at_one, came_bears}
use Rattle.lin_fewer.proofs.borne.note_borne.Goals as goal

pub take_out-requires-clause-reachable : goal.take_out-requires-clause-reachable
take_out-requires-clause-reachable g c = (c.requires.nodes c.args.index c.at.result.now c.at.ensures).reachable

pub take_out-requires-clause-first : goal.take_out-requires-clause-first
take_out-requires-clause-first g c = (c.requires.nodes c.args.index c.at.result.now c.at.ensures).first

pub take_out-requires-in-loop-k-clause-first : goal.take_out-requires-in-loop-k-clause-first
take_out-requires-in-loop-k-clause-first g c = rw c.loop-k.invariant.search (c.requires.nodes c.link-link.result.from c.at-in-loop-k-2.result.now c.at-in-loop-k-2.ensures).first

pub at-requires-in-loop-k-2 : goal.at-requires-in-loop-k-2
at-requires-in-loop-k-2 g c = (let l = ((c.requires.nodes c.loop-k.k c.at-in-loop-k.result.now c.at-in-loop-k.ensures).came (let e = c.loop-k-test.true in omega (arith, e))).less in let e = c.link-link.ensures.from in let w = c.loop-k.invariant.within in omega (arith, l, e, w))

pub take_out-requires-in-loop-k-clause-reachable : goal.take_out-requires-in-loop-k-clause-reachable
take_out-requires-in-loop-k-clause-reachable g c = rw c.loop-k.invariant.search (c.requires.nodes c.link-link.result.from c.at-in-loop-k-2.result.now c.at-in-loop-k-2.ensures).reachable

pub take_out-requires-in-loop-k-clause-bears : goal.take_out-requires-in-loop-k-clause-bears
take_out-requires-in-loop-k-clause-bears g c = rw c.loop-k.invariant.search (came_bears (problem_of g.O.SeqObject.after g.O.State.PartialEq.eq g.O.Reply.PartialEq.eq c.args.search.now) c.args.nodes.now c.loop-k.k c.at-in-loop-k.result.now ((c.requires.nodes c.loop-k.k c.at-in-loop-k.result.now c.at-in-loop-k.ensures).came (let e = c.loop-k-test.true in omega (arith, e))) c.link-link.result.from c.link-link.result.by c.at-in-loop-k-2.result.now c.at-in-loop-k-2.ensures c.link-link.ensures.from c.link-link.ensures.by c.loop-k.borne (c.loop-k.invariant.borne c.at-in-loop-k.result.now c.at-in-loop-k.ensures))

pub note_base-requires-in-loop-k-clause-index : goal.note_base-requires-in-loop-k-clause-index
note_base-requires-in-loop-k-clause-index g c = (let l = ((c.requires.nodes c.loop-k.k c.at-in-loop-k.result.now c.at-in-loop-k.ensures).came (let e = c.loop-k-test.true in omega (arith, e))).less in let e = c.link-link.ensures.from in let w = c.loop-k.invariant.within in omega (arith, l, e, w))

pub loop-k-smaller : goal.loop-k-smaller
loop-k-smaller g c = (let l = ((c.requires.nodes c.loop-k.k c.at-in-loop-k.result.now c.at-in-loop-k.ensures).came (let e = c.loop-k-test.true in omega (arith, e))).less in let e = c.link-link.ensures.from in omega (arith, l, e))

pub loop-k-preserved : goal.loop-k-preserved
loop-k-preserved g c = record { search = c.note_base-in-loop-k.ensures ∙ c.loop-k.invariant.search; within = (let l = ((c.requires.nodes c.loop-k.k c.at-in-loop-k.result.now c.at-in-loop-k.ensures).came (let e = c.loop-k-test.true in omega (arith, e))).less in let e = c.link-link.ensures.from in let w = c.loop-k.invariant.within in omega (arith, l, e, w)); borne = at_one c.args.nodes.now c.link-link.result.from c.at-in-loop-k-2.result.now (λ (x : Node g.row.O-State.Denot). IsBorne (problem_of g.O.SeqObject.after g.O.State.PartialEq.eq g.O.Reply.PartialEq.eq c.args.search.now) x.config.lifted x.config.state c.take_out-in-loop-k.new.borne) c.at-in-loop-k-2.ensures (rw c.loop-k.invariant.search at c.in_ok-take_out-2.ensures) }

pub returns-clause-completes : goal.returns-clause-completes
returns-clause-completes g c = λ x at. borne_completes (problem_of g.O.SeqObject.after g.O.State.PartialEq.eq g.O.Reply.PartialEq.eq c.args.search.now) (rw c.problem.ensures at c.fewer_law.ensures) c.lawful.ensures.states x.config.lifted x.config.state c.loop-k.borne (c.loop-k.invariant.borne x (let e : c.loop-k.k ≡ 0 = (let h = c.loop-k-test.false in omega (arith, h)) in subst (λ (i : ℕ). slice_get c.args.nodes.now i ≡ Some x) (sym e) at))
