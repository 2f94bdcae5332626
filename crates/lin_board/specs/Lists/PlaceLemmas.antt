-- Lemmas on what holds of the element at each place of a list.
use Rattle.std.proofs.Common.{◌≡◌, ℕ, zero, suc, List, [], ◌∷◌, ◌++◌, set, sym, subst}
use mathlib.Core.Option.{some, some-ne-none, some-injective}
use lib.ListN.{get_elem?}

module _ {X : Type 0} (P : X → Type 0) where
  -- it holds of each after one was replaced by another of which it holds
  pub each_set : (l : List X) (i : ℕ) (w : X) → ((j : ℕ) (u : X) → get_elem? l j ≡ some u → P u) → P w → (j : ℕ) (u : X) → get_elem? (set l i w) j ≡ some u → P u
  each_set [] i w all mine j u e = all j u e
  each_set (x ∷ xs) zero w all mine zero u e = subst P (some-injective w u e) mine
  each_set (x ∷ xs) zero w all mine (suc j) u e = all (suc j) u e
  each_set (x ∷ xs) (suc i) w all mine zero u e = all zero u e
  each_set (x ∷ xs) (suc i) w all mine (suc j) u e = each_set xs i w (λ k. all (suc k)) mine j u e

  -- it holds of each where one more was put at the end
  pub each_push : (l : List X) (w : X) → ((j : ℕ) (u : X) → get_elem? l j ≡ some u → P u) → P w → (j : ℕ) (u : X) → get_elem? (l ++ w ∷ []) j ≡ some u → P u
  each_push [] w all mine zero u e = subst P (some-injective w u e) mine
  each_push [] w all mine (suc j) u e = absurd (some-ne-none u (sym e))
  each_push (x ∷ xs) w all mine zero u e = all zero u e
  each_push (x ∷ xs) w all mine (suc j) u e = each_push xs w (λ k. all (suc k)) mine j u e
