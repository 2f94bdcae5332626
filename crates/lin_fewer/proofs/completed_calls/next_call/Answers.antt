use Rattle.std.proofs.Common.{ℕ, inl, inr, arith}
use Rattle.lin_history.specs.Problems.Problem.{problem_of}
use Rattle.lin_history.specs.Problems.Precedence.{IsCompleted}
use Rattle.lin_fewer.specs.Nodes.{Node, NoneBegins, NoneBeginsBelow}
use Rattle.lin_fewer.proofs.ReadLemmas.{below_more}
use Rattle.lin_fewer.proofs.FrontLemmas.{least_or, minimal_by, lifted_begins, late_begins, completed_within}
use Rattle.lin_fewer.proofs.SearchLemmas.{at_one}
use Rattle.lin_fewer.proofs.completed_calls.next_call.Goals as goal

pub loop-call-init : goal.loop-call-init
loop-call-init g c = at_one c.args.nodes.now c.args.place.index c.at-node.result.now (λ (x : Node g.row.O-State.Denot). NoneBeginsBelow (problem_of g.O.SeqObject.after g.O.State.PartialEq.eq g.O.Reply.PartialEq.eq c.args.search.now) x.config c.max-call.result) c.at-node.ensures (λ k less done. elim (least_or k c.args.place.next) [
  | inl h ↦ c.requires.search.below c.at-node.result.now c.at-node.ensures k h done
  | inr h ↦ lifted_begins (problem_of g.O.SeqObject.after g.O.State.PartialEq.eq g.O.Reply.PartialEq.eq c.args.search.now) c.at-node.result.now.config.lifted c.at-node.result.now.config.state k ((c.requires.search.are c.args.place.index c.at-node.result.now c.at-node.ensures).first.below k (let a = c.max-call.ensures in let b = c.first.ensures in omega (arith, less, h, a, b)) done)
])

pub returns-then-is_later-clause-none : goal.returns-then-is_later-clause-none
returns-then-is_later-clause-none g c = λ x at k done. elim (least_or k c.loop-call.call) [
  | inl h ↦ c.loop-call.invariant x at k h done
  | inr h ↦ late_begins (problem_of g.O.SeqObject.after g.O.State.PartialEq.eq g.O.Reply.PartialEq.eq c.args.search.now) x.config.lifted x.config.state c.args.bound c.loop-call.call k (c.requires.bound x at) (rw c.problem-problem.ensures at (c.is_later.ensures.yes c.if-is_later.true)) h
]

pub returns-then-is_to_be_tried-clause-minimal : goal.returns-then-is_to_be_tried-clause-minimal
returns-then-is_to_be_tried-clause-minimal g c = λ x at. minimal_by (problem_of g.O.SeqObject.after g.O.State.PartialEq.eq g.O.Reply.PartialEq.eq c.args.search.now) x.config.lifted c.args.bound c.loop-call.call (c.requires.bound x at) (rw c.problem-problem.ensures at (c.is_later.ensures.no c.if-is_later.false)) (rw c.problem-problem.ensures at (rw c.len-call-end.ensures at c.loop-call-test.true)) (c.is_to_be_tried.ensures.yes c.if-is_to_be_tried.true x at)

pub loop-call-preserved : goal.loop-call-preserved
loop-call-preserved g c = λ x at. below_more (λ (k : ℕ). IsCompleted (problem_of g.O.SeqObject.after g.O.State.PartialEq.eq g.O.Reply.PartialEq.eq c.args.search.now) k → NoneBegins (problem_of g.O.SeqObject.after g.O.State.PartialEq.eq g.O.Reply.PartialEq.eq c.args.search.now) x.config.lifted x.config.state k) c.loop-call.call (c.loop-call.invariant x at) (λ done. c.is_to_be_tried.ensures.no c.if-is_to_be_tried.false done x at)

pub returns-clause-none : goal.returns-clause-none
returns-clause-none g c = λ x at k done. c.loop-call.invariant x at k (let w = completed_within (problem_of g.O.SeqObject.after g.O.State.PartialEq.eq g.O.Reply.PartialEq.eq c.args.search.now) k done in let e = c.loop-call-test.false in let n = rw c.problem-problem.ensures at c.len-call-end.ensures in omega (arith, w, e, n)) done
