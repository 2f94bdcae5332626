use Rattle.std.proofs.Common.{None, refl}
use Rattle.lin_history.specs.Problems.Problem.{problem_of}
use Rattle.lin_search.specs.Store.{Holds}
use Rattle.lin_search.specs.StoreLemmas.{held_at_equal}
use Rattle.lin_search.specs.AlikeLemmas.{alike_answer}
use Rattle.lin_search.specs.SameLemmas.{alike_itself, same_itself}
use Rattle.lin_search.proofs.MemoLemmas.{closed_has_all, was_true}
use Rattle.lin_search.proofs.own_search.search_root.Goals as goal

pub search_from-requires-clause-of : goal.search_from-requires-clause-of
search_from-requires-clause-of g c = λ h. rw c.requires (same_itself c.lawful.ensures c.args.problem.now)

pub returns-clause-answer : goal.returns-clause-answer
returns-clause-answer g c =
    alike_answer (alike_itself c.lawful.ensures c.args.problem.now) _ c.in_ok-root.root.state c.args.problem.now.start None (λ n. ⊥) c.in_ok-root.ensures.state c.in_ok-ended.ended.outcome
    (rw c.in_ok-root.ensures.lifted at c.in_ok-ended.ensures.answer)

pub returns-clause-all : goal.returns-clause-all
returns-clause-all g c =
    λ refuted closed.
    let held = c.in_ok-ended.ensures.closed (was_true _ c.if-not-ended.false) refl refuted closed in
    let root = held_at_equal g.O.State.PartialEq.eq c.lawful.ensures.states _ _ _ _ c.in_ok-root.ensures.state (rw c.in_ok-root.ensures.lifted at held.1) in
    closed_has_all (problem_of g.O.SeqObject.after g.O.State.PartialEq.eq g.O.Reply.PartialEq.eq c.args.problem.now) (Holds g.O.State.PartialEq.eq c.search_from.new.memo.pairs) (held_at_equal g.O.State.PartialEq.eq c.lawful.ensures.states c.search_from.new.memo.pairs) held.0 root
