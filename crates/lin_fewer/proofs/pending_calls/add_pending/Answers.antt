use Rattle.std.proofs.Common.{arith, ℕ, ◌+◌, inl, inr, length}
use Rattle.lin_history.specs.Problems.Problem.{problem_of}
use Rattle.lin_fewer.specs.Nodes.{Node, IsCoveredAt, NoneBegins}
use Rattle.lin_history.specs.Problems.Precedence.{IsCompleted}
use Rattle.lin_fewer.specs.Fronts.{IsLeastReturn}
use Rattle.lin_fewer.proofs.ReadLemmas.{below_more}
use Rattle.lin_fewer.proofs.FrontLemmas.{least_or, late_begins, past_begins}
use Rattle.lin_fewer.proofs.NodeLemmas.{covered_none}
use Rattle.lin_fewer.proofs.SearchLemmas.{covered_to, more_itself, more_more, at_more, more_within, covered_more}
use Rattle.lin_fewer.proofs.pending_calls.add_pending.Goals as goal

pub calls-init : goal.calls-init
calls-init g c = record {
  more = more_itself (problem_of g.O.SeqObject.after g.O.State.PartialEq.eq g.O.Reply.PartialEq.eq c.args.search.now) c.args.nodes.now.items c.args.index c.requires.nodes;
  covered = covered_to (problem_of g.O.SeqObject.after g.O.State.PartialEq.eq g.O.Reply.PartialEq.eq c.args.search.now) c.args.nodes.now.items c.args.index 0 c.from-call.result (λ d h. absurd (omega (arith, h))) (rw c.waiting-waiting.ensures at c.from-call.ensures.between) c.requires.none;
  turn = omega arith;
}

pub add_call-requires-clause-nodes : goal.add_call-requires-clause-nodes
add_call-requires-clause-nodes g c = c.calls.invariant.more.are

pub add_call-requires-clause-index : goal.add_call-requires-clause-index
add_call-requires-clause-index g c = more_within (problem_of g.O.SeqObject.after g.O.State.PartialEq.eq g.O.Reply.PartialEq.eq c.args.search.now) c.args.nodes.now.items c.calls.nodes.items c.args.index c.calls.invariant.more c.requires.index

pub add_call-requires-clause-none : goal.add_call-requires-clause-none
add_call-requires-clause-none g c = λ x at. at_more (problem_of g.O.SeqObject.after g.O.State.PartialEq.eq g.O.Reply.PartialEq.eq c.args.search.now) c.args.nodes.now.items c.calls.nodes.items c.args.index c.calls.invariant.more (λ (x : Node g.row.O-State.Denot). (d : ℕ) → IsCompleted (problem_of g.O.SeqObject.after g.O.State.PartialEq.eq g.O.Reply.PartialEq.eq c.args.search.now) d → NoneBegins (problem_of g.O.SeqObject.after g.O.State.PartialEq.eq g.O.Reply.PartialEq.eq c.args.search.now) x.config.lifted x.config.state d) c.requires.index c.requires.none x at c.calls.call

pub add_call-requires-clause-bound : goal.add_call-requires-clause-bound
add_call-requires-clause-bound g c = at_more (problem_of g.O.SeqObject.after g.O.State.PartialEq.eq g.O.Reply.PartialEq.eq c.args.search.now) c.args.nodes.now.items c.calls.nodes.items c.args.index c.calls.invariant.more (λ (x : Node g.row.O-State.Denot). IsLeastReturn (problem_of g.O.SeqObject.after g.O.State.PartialEq.eq g.O.Reply.PartialEq.eq c.args.search.now) x.config.lifted c.args.bound) c.requires.index c.requires.bound

pub add_call-requires-clause-covered : goal.add_call-requires-clause-covered
add_call-requires-clause-covered g c = c.calls.invariant.covered

pub calls-preserved : goal.calls-preserved
calls-preserved g c = (let within = more_within (problem_of g.O.SeqObject.after g.O.State.PartialEq.eq g.O.Reply.PartialEq.eq c.args.search.now) c.args.nodes.now.items c.calls.nodes.items c.args.index c.calls.invariant.more c.requires.index in record {
  more = more_more (problem_of g.O.SeqObject.after g.O.State.PartialEq.eq g.O.Reply.PartialEq.eq c.args.search.now) c.args.nodes.now.items c.calls.nodes.items c.add_call.new.nodes.items c.args.index c.requires.index c.calls.invariant.more c.in_ok-add_call.ensures.more;
  covered = covered_to (problem_of g.O.SeqObject.after g.O.State.PartialEq.eq g.O.Reply.PartialEq.eq c.args.search.now) c.add_call.new.nodes.items c.args.index (c.calls.call + 1) c.from-call-in-calls.result (below_more (λ (d : ℕ). IsCoveredAt (problem_of g.O.SeqObject.after g.O.State.PartialEq.eq g.O.Reply.PartialEq.eq c.args.search.now) c.add_call.new.nodes.items c.args.index d) c.calls.call (λ d h. covered_more (problem_of g.O.SeqObject.after g.O.State.PartialEq.eq g.O.Reply.PartialEq.eq c.args.search.now) c.calls.nodes.items c.add_call.new.nodes.items c.args.index c.in_ok-add_call.ensures.more within d (c.calls.invariant.covered d h)) c.in_ok-add_call.ensures.covered) (rw c.waiting-waiting.ensures at c.from-call-in-calls.ensures.between)
      (at_more (problem_of g.O.SeqObject.after g.O.State.PartialEq.eq g.O.Reply.PartialEq.eq c.args.search.now) c.calls.nodes.items c.add_call.new.nodes.items c.args.index c.in_ok-add_call.ensures.more (λ (x : Node g.row.O-State.Denot). (d : ℕ) → IsCompleted (problem_of g.O.SeqObject.after g.O.State.PartialEq.eq g.O.Reply.PartialEq.eq c.args.search.now) d → NoneBegins (problem_of g.O.SeqObject.after g.O.State.PartialEq.eq g.O.Reply.PartialEq.eq c.args.search.now) x.config.lifted x.config.state d) within (at_more (problem_of g.O.SeqObject.after g.O.State.PartialEq.eq g.O.Reply.PartialEq.eq c.args.search.now) c.args.nodes.now.items c.calls.nodes.items c.args.index c.calls.invariant.more (λ (x : Node g.row.O-State.Denot). (d : ℕ) → IsCompleted (problem_of g.O.SeqObject.after g.O.State.PartialEq.eq g.O.Reply.PartialEq.eq c.args.search.now) d → NoneBegins (problem_of g.O.SeqObject.after g.O.State.PartialEq.eq g.O.Reply.PartialEq.eq c.args.search.now) x.config.lifted x.config.state d) c.requires.index c.requires.none));
  turn = (let t = c.calls.invariant.turn in let u = c.from-call-in-calls.ensures.up in omega (arith, t, u));
})

pub returns-then-is_later-clause-more : goal.returns-then-is_later-clause-more
returns-then-is_later-clause-more g c = c.calls.invariant.more

pub returns-then-is_later-clause-covered : goal.returns-then-is_later-clause-covered
returns-then-is_later-clause-covered g c = λ k. elim (least_or k c.calls.call) [
  | inl h ↦ c.calls.invariant.covered k h
  | inr h ↦ (λ x at. covered_none (problem_of g.O.SeqObject.after g.O.State.PartialEq.eq g.O.Reply.PartialEq.eq c.args.search.now) c.calls.nodes.items x.base (length c.calls.nodes.items) x.config k (late_begins (problem_of g.O.SeqObject.after g.O.State.PartialEq.eq g.O.Reply.PartialEq.eq c.args.search.now) x.config.lifted x.config.state c.args.bound c.calls.call k (at_more (problem_of g.O.SeqObject.after g.O.State.PartialEq.eq g.O.Reply.PartialEq.eq c.args.search.now) c.args.nodes.now.items c.calls.nodes.items c.args.index c.calls.invariant.more (λ (x : Node g.row.O-State.Denot). IsLeastReturn (problem_of g.O.SeqObject.after g.O.State.PartialEq.eq g.O.Reply.PartialEq.eq c.args.search.now) x.config.lifted c.args.bound) c.requires.index c.requires.bound x at) (rw c.problem-problem.ensures at (c.is_later.ensures.yes c.if-is_later.true)) h))
]

pub returns-clause-covered : goal.returns-clause-covered
returns-clause-covered g c = λ k. elim (least_or k c.calls.call) [
  | inl h ↦ c.calls.invariant.covered k h
  | inr h ↦ (λ x at. covered_none (problem_of g.O.SeqObject.after g.O.State.PartialEq.eq g.O.Reply.PartialEq.eq c.args.search.now) c.calls.nodes.items x.base (length c.calls.nodes.items) x.config k (past_begins (problem_of g.O.SeqObject.after g.O.State.PartialEq.eq g.O.Reply.PartialEq.eq c.args.search.now) x.config.lifted x.config.state k (let t = c.calls.invariant.turn in let e = c.calls-test.false in let n = rw c.problem-problem.ensures at c.len-turn-end.ensures in omega (arith, h, e, n, t))))
]

pub returns-then-call-len-clause-covered : goal.returns-then-call-len-clause-covered
returns-then-call-len-clause-covered g c = λ k. elim (least_or k c.calls.call) [
  | inl h ↦ c.calls.invariant.covered k h
  | inr h ↦ (λ x at. covered_none (problem_of g.O.SeqObject.after g.O.State.PartialEq.eq g.O.Reply.PartialEq.eq c.args.search.now) c.calls.nodes.items x.base (length c.calls.nodes.items) x.config k (past_begins (problem_of g.O.SeqObject.after g.O.State.PartialEq.eq g.O.Reply.PartialEq.eq c.args.search.now) x.config.lifted x.config.state k (let e = c.if-call-len.true in let n = rw c.problem-problem.ensures at c.len.ensures in omega (arith, h, e, n))))
]

pub add_call-requires-clause-called : goal.add_call-requires-clause-called
add_call-requires-clause-called g c = rw c.problem-problem.ensures at (c.is_later.ensures.no c.if-is_later.false)
