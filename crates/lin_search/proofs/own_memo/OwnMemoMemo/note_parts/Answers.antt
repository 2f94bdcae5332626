use Rattle.std.proofs.Common.{true≢false, sym, ◌∙◌, refl}
use Rattle.lin_history.specs.Problems.SameProblem.{SameProblem}
use Rattle.lin_search.specs.AlikeLemmas.{alike_refuted}
use Rattle.lin_search.specs.SameLemmas.{alike_of_same, same_back}
use Rattle.lin_search.proofs.LookupLemmas.{noted_held, noted_only, noted_ours}
use Rattle.lin_search.proofs.own_memo.OwnMemoMemo.note_parts.Goals as goal

pub add-requires : goal.add-requires
add-requires g c =
    rw (← c.self.view_is, c.from_parts.ensures) (alike_refuted (alike_of_same c.lawful.ensures _ _ (same_back c.lawful.ensures _ _ (c.same.ensures.0 c.if-not-same.false))) _ _ _ _ (c.lawful.ensures.states.refl _) c.requires)

pub returns-clause-held : goal.returns-clause-held
returns-clause-held g c = noted_held _ c.lawful.ensures.states _ _ _ _ _ _ (rw c.from_parts.ensures at c.add.ensures.exact)

pub returns-clause-exact : goal.returns-clause-exact
returns-clause-exact g c =
    let ours : SameProblem g.O.PartialEq.eq g.O.State.PartialEq.eq g.O.Op.PartialEq.eq g.O.Reply.PartialEq.eq c.args.self.now.problem c.args.problem.now = rw (← c.self.view_is) (c.same.ensures.0 c.if-not-same.false) in
    noted_ours _ _ _ _ _ _ _ ours (rw c.from_parts.ensures at c.add.ensures.exact)

pub returns-clause-only : goal.returns-clause-only
returns-clause-only g c = noted_only _ c.lawful.ensures.states _ _ _ _ _ _ (rw c.from_parts.ensures at c.add.ensures.exact)

pub returns-then-not-same-clause-exact : goal.returns-then-not-same-clause-exact
returns-then-not-same-clause-exact g c =
    rw (← c.self.view_is) (λ ours. true≢false (sym (c.same.ensures.1 ours) ∙ c.if-not-same.true), refl)
