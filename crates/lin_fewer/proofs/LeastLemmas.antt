-- The least completion, by its first call.
use Rattle.std.proofs.Common.{◌≡◌, ℕ, ◌<◌, Bool, true, List, [], ◌∷◌, ◌++◌, length, ◌⊎◌, inl, inr, refl, sym, ◌∙◌, ap, subst, arith}
use Rattle.std.specs.Cmp.{IsEquivalence}
use Rattle.lin_history.specs.Problems.Lists.{IsLeast, IsUpTo}
use Rattle.lin_history.specs.Problems.Problem.{Problem}
use Rattle.lin_history.specs.Problems.Continuations.{IsCompletion}
use Rattle.lin_search.specs.Configuration.{Configuration}
use Rattle.lin_search.specs.Entries.{IsMinimal}
use Rattle.lin_search.specs.NextCall.{HasEveryCompleted}
use Rattle.lin_search.specs.FirstCallLemmas.{completion_join, completion_split, complete_none, next_within, none_completes}
use Rattle.lin_search.specs.Answer.{HasNoCompletion}
use Rattle.lin_fewer.specs.declared.verdict.Verdict.{Verdict}
use Rattle.lin_fewer.specs.declared.verdict.Verdict.TheVariants.{Completes, Refuted, Unknown}
use Rattle.lin_fewer.specs.Fewer.{IsNoWorse, FewerLaw}
use Rattle.lin_fewer.specs.Nodes.{IsChild, NoneBegins}
use Rattle.lin_fewer.specs.Answers.{IsVerdict, IsVerdictBy, IsLeastCall}
use Rattle.lin_fewer.proofs.KnowledgeLemmas.{used_fewer_itself}
use Rattle.lin_fewer.proofs.NodeLemmas.{none_by_child, child_completes}

three : (a b : ℕ) → (a < b) ⊎ ((a ≡ b) ⊎ (b < a))
three a b = grind arith

-- the least of what is left, behind the calls so far
pub least_behind : (P : List ℕ → Type 0) (calls new : List ℕ) (c : ℕ) → new ≡ calls ++ c ∷ [] → (l : List ℕ) → P (calls ++ c ∷ l) → P (new ++ l)
least_behind P calls new c e l h = subst P (moved calls ∙ ap (λ (k : List ℕ). k ++ l) (sym e)) h
  where
    moved : (xs : List ℕ) → xs ++ c ∷ l ≡ (xs ++ c ∷ []) ++ l
    moved [] = refl
    moved (x ∷ xs) = ap (λ (k : List ℕ). x ∷ k) (moved xs)

module _ {State Op Reply : Type 0} (p : Problem State Op Reply) where
  -- ---- what the verdict on a child says of the call

  module _ (x : Configuration State) (c : ℕ) (flags : length x.lifted ≡ length p.calls) (child : Configuration State) (is : IsChild p x c child) where
    pub begins_by : (l : List ℕ) → IsCompletion p child.lifted child.state l → IsCompletion p x.lifted x.state (c ∷ l)
    begins_by l k = completion_join p x.lifted x.state c l child.state flags is.next (subst (λ (a : List Bool). IsCompletion p a child.state l) is.lifted k)

    pub verdict_by : (told : Verdict) → IsVerdict p child told → IsVerdictBy p x c told
    verdict_by Completes h = (h.0, begins_by h.0 h.1)
    verdict_by Refuted h = none_by_child p x c flags child is h
    verdict_by Unknown h = tt

  pub begins_told : (x : Configuration State) (c : ℕ) (told : Verdict) → told ≡ Completes → IsVerdictBy p x c told → (l : List ℕ) × IsCompletion p x.lifted x.state (c ∷ l)
  begins_told x c told e h = subst (λ (v : Verdict). IsVerdictBy p x c v) e h

  pub none_told : (x : Configuration State) (c : ℕ) (told : Verdict) → told ≡ Refuted → IsVerdictBy p x c told → NoneBegins p x.lifted x.state c
  none_told x c told e h = subst (λ (v : Verdict). IsVerdictBy p x c v) e h

  -- a call with which a completion begins is minimal
  pub minimal_begins : (x : Configuration State) (c : ℕ) → length x.lifted ≡ length p.calls → IsLeastCall p x c → IsMinimal p x.lifted c
  minimal_begins x c flags lowest =
      let parts = completion_split p x.lifted x.state c lowest.begins.0 flags lowest.begins.1 in
      record { within = next_within p x.state parts.0 c parts.1.step; outside = parts.1.outside; preceded = parts.1.preceded }

  -- ---- the least completion

  pub least_end : (set : List Bool) (s : State) → HasEveryCompleted p set → IsLeast (IsCompletion p set s) []
  least_end set s every = (none_completes p set s every, λ m k. tt)

  pub least_step : (x : Configuration State) (c : ℕ) → length x.lifted ≡ length p.calls → (HasEveryCompleted p x.lifted → ⊥) → (child : Configuration State) → IsChild p x c child → IsLeastCall p x c
      → (l : List ℕ) → IsLeast (IsCompletion p child.lifted child.state) l → IsLeast (IsCompletion p x.lifted x.state) (c ∷ l)
  least_step x c flags incomplete child is lowest l least = (begins_by x c flags child is l least.0, up_to)
    where
      up_to : (m : List ℕ) → IsCompletion p x.lifted x.state m → IsUpTo (c ∷ l) m
      up_to [] k = absurd (incomplete (complete_none p x.lifted x.state k))
      up_to (d ∷ m) k = elim (three c d) [
        | inl less ↦ inl less
        | inr (inl e) ↦ inr (e, least.1 m (child_completes p x c flags child is m (subst (λ (n : ℕ). IsCompletion p x.lifted x.state (n ∷ m)) (sym e) k)))
        | inr (inr more) ↦ absurd (lowest.least d more m k)
      ]

  -- from a configuration with the same calls and an equal state
  module _ (equal : IsEquivalence p.same_state) (fewer : FewerLaw p) (a : List Bool) (s : State) (b : List Bool) (t : State) (lifted : a ≡ b) (same : p.same_state s t ≡ true) where
    there : IsNoWorse p b t a s
    there = subst (λ (x : List Bool). IsNoWorse p b t x s) (sym lifted) (record { fewer = used_fewer_itself p b; state = equal.symm t s ∙ same })

    back : IsNoWorse p a s b t
    back = subst (λ (x : List Bool). IsNoWorse p x s b t) (sym lifted) (record { fewer = used_fewer_itself p b; state = same })

    pub least_same : (l : List ℕ) → IsLeast (IsCompletion p a s) l → IsLeast (IsCompletion p b t) l
    least_same l least = ((fewer b a t s there).completions l least.0, λ m k. least.1 m ((fewer a b s t back).completions m k))

    pub some_same : ((l : List ℕ) × IsCompletion p a s l) → (l : List ℕ) × IsCompletion p b t l
    some_same some = (some.0, (fewer b a t s there).completions some.0 some.1)

    pub none_same : HasNoCompletion p a s → HasNoCompletion p b t
    none_same none = (fewer a b s t back).none none
