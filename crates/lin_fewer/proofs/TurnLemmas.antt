-- Two calls that stand in each other's place.
use Rattle.std.proofs.Common.{◌≡◌, ◌≢◌, ℕ, ◌<◌, Bool, true, Some, List, [], ◌∷◌, length, inl, inr, sym, ◌∙◌, subst, arith}
use Rattle.lin_history.specs.Problems.Problem.{Problem}
use Rattle.lin_history.specs.Problems.LegalLists.{next}
use Rattle.lin_history.specs.Problems.Precedence.{IsCompleted}
use Rattle.lin_history.specs.Problems.Continuations.{has, IsCompletion}
use Rattle.lin_search.specs.CallSet.{with_call}
use Rattle.lin_search.specs.CallSetLemmas.{true_or_false, has_same, has_other, has_still, has_with, length_calls}
use Rattle.lin_search.specs.FirstCallLemmas.{completion_join, next_within}
use Rattle.lin_search.specs.NextCall.{IsNext}
use Rattle.lin_fewer.specs.Fewer.{FewerLaw}
use Rattle.lin_fewer.proofs.FewerLemmas.{before_completed}

has_either : (set : List Bool) (c d a : ℕ) → c < length set → d < length set → has (with_call (with_call set c) d) a ≡ true → has (with_call (with_call set d) c) a ≡ true
has_either set c d a in_c in_d h = elim (has_with (with_call set c) d a h) [
  | inl e ↦ subst (λ (n : ℕ). has (with_call (with_call set d) c) n ≡ true) (sym e) (has_still (with_call set d) c d (let n = length_calls set (d ∷ []) in omega (arith, n, in_c)) (has_same set d in_d))
  | inr more ↦ elim (has_with set c a more) [
    | inl e ↦ subst (λ (n : ℕ). has (with_call (with_call set d) c) n ≡ true) (sym e) (has_same (with_call set d) c (let n = length_calls set (d ∷ []) in omega (arith, n, in_c)))
    | inr old ↦ has_still (with_call set d) c a (let n = length_calls set (d ∷ []) in omega (arith, n, in_c)) (has_still set d a in_d old)
  ]
]

module _ {State Op Reply : Type 0} (p : Problem State Op Reply) where
  -- a pending call lifted: what can follow could follow before
  pub next_before : (set : List Bool) (e c : ℕ) (s t : State) → e < length set → (IsCompleted p e → ⊥) → IsNext p (with_call set e) s c t → IsNext p set s c t
  next_before set e c s t within pending is = record {
    outside = elim (true_or_false (has set c)) [
      | inl h ↦ absurd (let k = has_still set e c within h in let o = is.outside in cc)
      | inr h ↦ h
    ];
    preceded = λ a before. elim (has_with set e a (is.preceded a before)) [
      | inl same ↦ absurd (pending (subst (λ (n : ℕ). IsCompleted p n) same (before_completed p a c before)))
      | inr h ↦ h
    ];
    step = is.step;
  }

  -- the second call in front of the pending one
  pub turned_completion : FewerLaw p → (set : List Bool) (e c : ℕ) (s t u v w : State) (l : List ℕ) → length set ≡ length p.calls → (IsCompleted p e → ⊥) → IsNext p set s e t → IsNext p (with_call set e) t c u → next p s c ≡ Some v → next p v e ≡ Some w → p.same_state w u ≡ true
      → IsCompletion p (with_call (with_call set e) c) u l → IsCompletion p set s (c ∷ e ∷ l)
  turned_completion fewer set e c s t u v w l flags pending first second step_c step_e same rest =
      completion_join p set s c (e ∷ l) v flags next_c (completion_join p (with_call set c) v e l w (let n = length_calls set (c ∷ []) in omega (arith, n, flags)) next_e moved)
    where
      in_e : e < length set
      in_e = let h = next_within p s t e first.step in omega (arith, h, flags)

      in_c : c < length set
      in_c = let h = next_within p t u c second.step in omega (arith, h, flags)

      other : c ≢ e
      other same_ = let o = second.outside in let h : has (with_call set e) c ≡ true = subst (λ (n : ℕ). has (with_call set e) n ≡ true) (sym same_) (has_same set e in_e) in cc

      next_c : IsNext p set s c v
      next_c =
          let n = next_before set e c t u in_e pending second in
          record { outside = n.outside; preceded = n.preceded; step = step_c }

      next_e : IsNext p (with_call set c) v e w
      next_e = record {
        outside = has_other set c e (λ same_. other (sym same_)) ∙ first.outside;
        preceded = λ a before. has_still set c a in_c (first.preceded a before);
        step = step_e;
      }

      moved : IsCompletion p (with_call (with_call set c) e) w l
      moved = (fewer (with_call (with_call set c) e) (with_call (with_call set e) c) w u (record {
        fewer = record {
          subset = λ d h. has_either set c e d in_c in_e h;
          completed = λ d done h. has_either set e c d in_e in_c h;
        };
        state = same;
      })).completions l rest
