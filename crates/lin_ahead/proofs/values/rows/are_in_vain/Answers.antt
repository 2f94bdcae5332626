use Rattle.std.proofs.Common.{◌∙◌, ◌⊎◌, inl, inr, sym, true≢false, Result, Ok, Err}
use Rattle.std.specs.Prelude.{Bool, IfOk, IsTrue}
use Rattle.lin_ahead.specs.Values.Clusters.{FoundNowhere, NeedEachOther}
use Rattle.lin_ahead.proofs.values.VainLemmas.{pair_is, pair_shown, nowhere_is, nowhere_shown}
use Rattle.lin_ahead.proofs.values.rows.are_in_vain.Goals as goal

pub returns-then-some_found_nowhere-clause-is : goal.returns-then-some_found_nowhere-clause-is
returns-then-some_found_nowhere-clause-is c = λ is. inl (nowhere_is c.args.owners.now (sym c.some_found_nowhere.ensures ∙ c.if-some_found_nowhere.true))

pub returns-then-branch-clause-is : goal.returns-then-branch-clause-is
returns-then-branch-clause-is c = λ is. inr (inl (pair_is c.args.calls.now c.args.owners.now c.args.numbers.now c.requires (sym c.in_ok-some_pair.ensures ∙ c.if-branch.true)))

if_ok : {E : Type 0} (A : Type 0) (r : Result Bool E) → (A → ⊥) → IfOk r (λ found. A → IsTrue found)
if_ok A (Ok found) none = λ is. absurd (none is)
if_ok A (Err e) none = tt

pub returns-clause-told : goal.returns-clause-told
returns-clause-told c = if_ok (FoundNowhere c.args.owners.now ⊎ NeedEachOther c.args.calls.now c.args.owners.now) c.some_rank_is_broken.result (λ shown. elim shown [
  | inl nowhere ↦ true≢false (sym (c.some_found_nowhere.ensures ∙ nowhere_shown c.args.owners.now nowhere) ∙ c.if-some_found_nowhere.false)
  | inr pair ↦ true≢false (sym (c.in_ok-some_pair.ensures ∙ pair_shown c.args.calls.now c.args.owners.now c.args.numbers.now c.requires pair) ∙ c.if-branch.false)
])
