-- For each call the first one from it on that is pending.
use Rattle.std.proofs.Common.{◌≡◌, ℕ, ◌+◌, ◌<◌, ◌≤◌, Some, List, [], ◌∷◌, ◌++◌, length, ◌⊎◌, inl, inr, sym, subst, arith}
use Rattle.std.specs.Prelude.{slice_get}
use Rattle.lin_history.specs.Problems.Problem.{Problem}
use Rattle.lin_history.specs.Problems.Precedence.{IsCompleted}
use Rattle.lin_search.specs.CallSetLemmas.{below_or_last}
use Rattle.lin_fewer.specs.Fronts.{AreCompletedTo, AreNextPending}
use Rattle.lin_fewer.proofs.FrontLemmas.{least_or}
use Rattle.lin_fewer.proofs.ReadLemmas.{get_end, get_before, get_within}
use Rattle.lin_fewer.proofs.SearchLemmas.{length_last}

get_last_index : {X : Type 0} (xs : List X) (y x : X) (k : ℕ) → slice_get (xs ++ y ∷ []) k ≡ Some x → (slice_get xs k ≡ Some x) ⊎ ((y ≡ x) × (k ≡ length xs))
get_last_index xs y x k e = elim (get_end xs y k x e) [
  | inl early ↦ inl early
  | inr same ↦ (elim (least_or k (length xs)) [
    | inl less ↦ inl (get_before xs (y ∷ []) k x less e)
    | inr more ↦ (let w = get_within (xs ++ y ∷ []) k x e in let n = length_last xs y in inr (same, omega (arith, w, n, more)))
  ])
]

module _ {State Op Reply : Type 0} (p : Problem State Op Reply) where
  pub next_none : AreNextPending p [] 0
  next_none = record { up = λ c d e. absurd (cc); between = λ c d e. absurd (cc); behind = λ c from less within. absurd (omega (arith, less)); few = omega arith }

  module _ (next : List ℕ) (to : ℕ) (are : AreNextPending p next to) where
    pub next_completed : IsCompleted p to → AreNextPending p next (to + 1)
    next_completed done = record {
      up = are.up;
      between = are.between;
      behind = λ c from less within. elim (below_or_last c to less) [
        | inl early ↦ are.behind c from early within
        | inr same ↦ subst (λ (n : ℕ). IsCompleted p n) (sym same) done
      ];
      few = (let h = are.few in omega (arith, h));
    }

    module _ (short : length next ≤ to) where
      entry_up : (c d : ℕ) → slice_get (next ++ to ∷ []) c ≡ Some d → c ≤ d
      entry_up c d e = elim (get_last_index next to d c e) [
        | inl early ↦ are.up c d early
        | inr last ↦ (let a = last.0 in let b = last.1 in omega (arith, a, b, short))
      ]

      entry_between : (c d : ℕ) → slice_get (next ++ to ∷ []) c ≡ Some d → AreCompletedTo p c d
      entry_between c d e = elim (get_last_index next to d c e) [
        | inl early ↦ are.between c d early
        | inr last ↦ (λ a from less within. are.behind a (let b = last.1 in omega (arith, b, from)) (let b = last.0 in omega (arith, b, less)) within)
      ]

      -- one entry more, and further ones to come, or none
      pub entry_short : length (next ++ to ∷ []) ≤ to → AreNextPending p (next ++ to ∷ []) to
      entry_short still = record {
        up = entry_up;
        between = entry_between;
        behind = λ c from less within. (let n = length_last next to in are.behind c (omega (arith, n, from)) less within);
        few = still;
      }

      pub entry_full : to < length (next ++ to ∷ []) → AreNextPending p (next ++ to ∷ []) (to + 1)
      entry_full full = record {
        up = entry_up;
        between = entry_between;
        behind = λ c from less within. absurd (omega (arith, full, from, less));
        few = (let n = length_last next to in omega (arith, n, short));
      }
