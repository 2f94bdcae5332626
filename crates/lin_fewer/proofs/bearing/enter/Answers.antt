use Rattle.std.proofs.Common.{◌≡◌, inl, inr, refl, sym, length, arith}
use Rattle.lin_history.specs.Problems.Problem.{problem_of}
use Rattle.lin_search.specs.SameLemmas.{alike_itself}
use Rattle.lin_search.specs.CallSetLemmas.{true_or_false}
use Rattle.lin_search.specs.FirstCallLemmas.{next_within}
use Rattle.lin_fewer.proofs.SearchLemmas.{get_append, passed_alone, passed_other, entered, child_below, bears_at}
use Rattle.lin_fewer.proofs.bearing.enter.Goals as goal

pub known_of-requires-clause-reachable : goal.known_of-requires-clause-reachable
known_of-requires-clause-reachable g c = (c.requires.child c.at-node.result.now (rw c.as_slice.ensures.value at c.at-node.ensures)).reachable

pub known_of-requires-clause-below : goal.known_of-requires-clause-below
known_of-requires-clause-below g c = rw c.first.ensures (child_below (problem_of g.O.SeqObject.after g.O.State.PartialEq.eq g.O.Reply.PartialEq.eq c.args.search.now) (alike_itself c.lawful.ensures c.args.search.now) c.args.nodes.now.items c.args.place.now.base c.args.place.now.index c.args.place.now.next c.args.tried.call c.requires.search c.requires.index c.at-node.result.now (rw c.as_slice.ensures.value at c.at-node.ensures) c.args.child (c.requires.child c.at-node.result.now (rw c.as_slice.ensures.value at c.at-node.ensures)))

pub note_borne-requires-clause-nodes : goal.note_borne-requires-clause-nodes
note_borne-requires-clause-nodes g c = rw c.as_slice-in-Bears.ensures.value c.requires.search.are

pub note_borne-requires-clause-bears : goal.note_borne-requires-clause-bears
note_borne-requires-clause-bears g c = rw c.as_slice-in-Bears.ensures.value (bears_at (problem_of g.O.SeqObject.after g.O.State.PartialEq.eq g.O.Reply.PartialEq.eq c.args.search.now) (alike_itself c.lawful.ensures c.args.search.now) c.args.nodes.now.items c.args.place.now.base c.args.place.now.index c.args.place.now.next c.args.tried.call c.requires.search c.requires.index c.at-node.result.now (rw c.as_slice.ensures.value at c.at-node.ensures) c.args.child (c.requires.child c.at-node.result.now (rw c.as_slice.ensures.value at c.at-node.ensures)) c.in-Bears.borne (rw c.in-Bears.is at c.in_ok-borne.ensures))

pub after-requires-clause-call : goal.after-requires-clause-call
after-requires-clause-call g c = (let w = next_within (problem_of g.O.SeqObject.after g.O.State.PartialEq.eq g.O.Reply.PartialEq.eq c.args.search.now) c.at-node.result.now.config.state c.args.child.state c.args.tried.call (c.requires.child c.at-node.result.now (rw c.as_slice.ensures.value at c.at-node.ensures)).next.step in let f = rw c.problem.ensures at c.calls-calls.ensures.few in omega (arith, w, f))

pub returns-in-Refuted-clause-goes_on : goal.returns-in-Refuted-clause-goes_on
returns-in-Refuted-clause-goes_on g c = elim (true_or_false c.args.tried.alone) [
  | inl h ↦ rw (c.after.ensures.alone h) (passed_alone (problem_of g.O.SeqObject.after g.O.State.PartialEq.eq g.O.Reply.PartialEq.eq c.args.search.now) (alike_itself c.lawful.ensures c.args.search.now) c.args.nodes.now.items c.args.place.now.base c.args.place.now.index c.args.place.now.next c.args.tried.call c.requires.search c.requires.index c.at-node.result.now (rw c.as_slice.ensures.value at c.at-node.ensures) c.args.child (c.requires.child c.at-node.result.now (rw c.as_slice.ensures.value at c.at-node.ensures)) (c.requires.alone h) (rw c.in-Refuted.is at c.in_ok-borne.ensures))
  | inr h ↦ rw (c.after.ensures.other h) (passed_other (problem_of g.O.SeqObject.after g.O.State.PartialEq.eq g.O.Reply.PartialEq.eq c.args.search.now) (alike_itself c.lawful.ensures c.args.search.now) c.args.nodes.now.items c.args.place.now.base c.args.place.now.index c.args.place.now.next c.args.tried.call c.requires.search c.requires.index c.at-node.result.now (rw c.as_slice.ensures.value at c.at-node.ensures) c.args.child (c.requires.child c.at-node.result.now (rw c.as_slice.ensures.value at c.at-node.ensures)) (c.requires.below h) (rw c.in-Refuted.is at c.in_ok-borne.ensures))
]

pub returns-in_ok-push-in-Open-clause-goes_on : goal.returns-in_ok-push-in-Open-clause-goes_on
returns-in_ok-push-in-Open-clause-goes_on g c = (let count : c.len-base.result ≡ length c.args.nodes.now.items = (let a = c.len-base.ensures in let b = c.args.nodes.now.ok.0 in omega (arith, a, b)) in rw (c.in_ok-push-in-Open.ensures.items, c.new.ensures, count) (entered (problem_of g.O.SeqObject.after g.O.State.PartialEq.eq g.O.Reply.PartialEq.eq c.args.search.now) (alike_itself c.lawful.ensures c.args.search.now) c.args.nodes.now.items c.args.place.now.base c.args.place.now.index c.args.place.now.next c.args.tried.call c.requires.search c.requires.index c.at-node.result.now (rw c.as_slice.ensures.value at c.at-node.ensures) (record { config = c.args.child; first = c.in-Open.first; from = c.args.place.now.index; by = c.args.tried.call; alone = c.args.tried.alone; base = length c.args.nodes.now.items }) (c.requires.child c.at-node.result.now (rw c.as_slice.ensures.value at c.at-node.ensures)) (rw c.in-Open.is at c.in_ok-borne.ensures) refl refl refl c.requires.alone c.requires.below))

pub returns-in_ok-push-in-Open-clause-first : goal.returns-in_ok-push-in-Open-clause-first
returns-in_ok-push-in-Open-clause-first g c = rw c.in_ok-push-in-Open.ensures.items (sym (get_append c.args.nodes.now.items _ 0 (let i = c.requires.index in omega (arith, i))))
