use Rattle.std.proofs.Common.{inl, inr, sym, ◌∙◌, arith}
use Rattle.lin_history.specs.Problems.Problem.{problem_of}
use Rattle.lin_search.specs.SameLemmas.{alike_itself}
use Rattle.lin_search.specs.CallSetLemmas.{true_or_false}
use Rattle.lin_search.specs.FirstCallLemmas.{next_within}
use Rattle.lin_fewer.proofs.ReadLemmas.{get_within}
use Rattle.lin_fewer.proofs.SearchLemmas.{closed_none, closed_alone, closed_other, get_taken}
use Rattle.lin_fewer.proofs.bearing.close.Goals as goal

pub note_refuted-requires-clause-reachable : goal.note_refuted-requires-clause-reachable
note_refuted-requires-clause-reachable g c = rw c.config.ensures (c.requires.search.are c.args.place.now.base c.at-base.result.now (rw c.as_slice.ensures.value at c.at-base.ensures)).reachable

pub note_refuted-requires-clause-none : goal.note_refuted-requires-clause-none
note_refuted-requires-clause-none g c = rw c.config.ensures (closed_none (problem_of g.O.SeqObject.after g.O.State.PartialEq.eq g.O.Reply.PartialEq.eq c.args.search.now) c.args.nodes.now.items c.args.place.now.base c.args.place.now.next (rw c.requires.index at c.requires.search) c.at-base.result.now (rw c.as_slice.ensures.value at c.at-base.ensures))

pub returns-then-place-eq0-clause-verdict : goal.returns-then-place-eq0-clause-verdict
returns-then-place-eq0-clause-verdict g c = λ x at. closed_none (problem_of g.O.SeqObject.after g.O.State.PartialEq.eq g.O.Reply.PartialEq.eq c.args.search.now) c.args.nodes.now.items c.args.place.now.base c.args.place.now.next (rw c.requires.index at c.requires.search) x (rw c.if-place-eq0.true at)

pub at-requires : goal.at-requires
at-requires g c = (let l = ((c.requires.search.are c.args.place.now.base c.at-base.result.now (rw c.as_slice.ensures.value at c.at-base.ensures)).came (let e = c.if-place-eq0.false in omega (arith, e))).less in let h = get_within c.args.nodes.now.items c.args.place.now.base c.at-base.result.now (rw c.as_slice.ensures.value at c.at-base.ensures) in let e = c.link-link.ensures.from in rw c.as_slice-2.ensures.value (omega (arith, l, h, e)))

pub after-requires-clause-index : goal.after-requires-clause-index
after-requires-clause-index g c = (let l = ((c.requires.search.are c.args.place.now.base c.at-base.result.now (rw c.as_slice.ensures.value at c.at-base.ensures)).came (let e = c.if-place-eq0.false in omega (arith, e))).less in let h = get_within c.args.nodes.now.items c.args.place.now.base c.at-base.result.now (rw c.as_slice.ensures.value at c.at-base.ensures) in let e = c.link-link.ensures.from in let n = c.len-count.ensures in let r = c.len-count.type_inv in omega (arith, l, h, e, n, r))

pub after-requires-clause-call : goal.after-requires-clause-call
after-requires-clause-call g c = (let came = (c.requires.search.are c.args.place.now.base c.at-base.result.now (rw c.as_slice.ensures.value at c.at-base.ensures)).came (let e = c.if-place-eq0.false in omega (arith, e)) in let w = next_within (problem_of g.O.SeqObject.after g.O.State.PartialEq.eq g.O.Reply.PartialEq.eq c.args.search.now) came.node.config.state c.at-base.result.now.config.state c.at-base.result.now.by came.next.step in let f = rw (c.problem.ensures, c.note_refuted.ensures) at c.calls-calls.ensures.few in let e = c.link-link.ensures.by in omega (arith, w, f, e))

pub returns-clause-goes_on : goal.returns-clause-goes_on
returns-clause-goes_on g c = elim (true_or_false c.link-link.result.alone) [
  | inl h ↦ rw (c.after.ensures.alone h, c.truncate.ensures.items, c.link-below.ensures.base, c.link-link.ensures.from) (closed_alone (problem_of g.O.SeqObject.after g.O.State.PartialEq.eq g.O.Reply.PartialEq.eq c.args.search.now) (alike_itself c.lawful.ensures c.args.search.now) c.args.nodes.now.items c.args.place.now.base c.args.place.now.next (rw c.requires.index at c.requires.search) c.at-base.result.now (rw c.as_slice.ensures.value at c.at-base.ensures) (let e = c.if-place-eq0.false in omega (arith, e)) c.at.result.now (rw (c.as_slice-2.ensures.value, c.link-link.ensures.from) at c.at.ensures) (sym c.link-link.ensures.alone ∙ h))
  | inr h ↦ rw (c.after.ensures.other h, c.truncate.ensures.items, c.link-below.ensures.base, c.link-link.ensures.from, c.link-link.ensures.by) (closed_other (problem_of g.O.SeqObject.after g.O.State.PartialEq.eq g.O.Reply.PartialEq.eq c.args.search.now) (alike_itself c.lawful.ensures c.args.search.now) c.args.nodes.now.items c.args.place.now.base c.args.place.now.next (rw c.requires.index at c.requires.search) c.at-base.result.now (rw c.as_slice.ensures.value at c.at-base.ensures) (let e = c.if-place-eq0.false in omega (arith, e)) c.at.result.now (rw (c.as_slice-2.ensures.value, c.link-link.ensures.from) at c.at.ensures) (sym c.link-link.ensures.alone ∙ h))
]

pub returns-clause-first : goal.returns-clause-first
returns-clause-first g c = rw c.truncate.ensures.items (get_taken c.args.place.now.base c.args.nodes.now.items 0 (let e = c.if-place-eq0.false in omega (arith, e)))
