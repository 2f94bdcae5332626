-- The calls of each key, as the loop over the calls builds them.
use Rattle.std.proofs.Common.{◌≡◌, ◌≢◌, ℕ, zero, suc, ◌+◌, ◌<◌, List, [], ◌∷◌, ◌++◌, length, get_or, set, inl, inr, refl, sym, ◌∙◌, ap, subst, arith, get_or-set_other}
use Rattle.lin_decide.specs.Keys.Products.{AreCallsOf}
use Rattle.lin_decide.specs.Keys.Merging.{order_at}
use Rattle.lin_parts.specs.PartLemmas.{three}
use Rattle.lin_parts.specs.ListLemmas.{rising_more, last_or, in_more}
use Rattle.lin_history.specs.Problems.ListLemmas.{in_early, in_either, in_late}

pub no_calls_of : (key : ℕ → ℕ) (k : ℕ) → AreCallsOf key 0 k []
no_calls_of key k = record {
  rises = tt;
  there = λ c h e. absurd (omega (arith, h));
  below = λ c h. absurd h;
  own = λ c h. absurd h;
}

module _ (key : ℕ → ℕ) (n k : ℕ) (l : List ℕ) (a : AreCallsOf key n k l) where
  pub call_of_key : key n ≡ k → AreCallsOf key (n + 1) k (l ++ n ∷ [])
  call_of_key e = record {
    rises = rising_more l n a.rises a.below;
    there = λ c h f. elim (last_or c n h) [ inl x ↦ in_early c l (n ∷ []) (a.there c x f) | inr x ↦ in_late c l (n ∷ []) (inl x) ];
    below = λ c h. in_more l c n n a.below refl h;
    own = λ c h. elim (in_either c l (n ∷ []) h) [ inl x ↦ a.own c x | inr (inl x) ↦ ap key x ∙ e | inr (inr none) ↦ absurd none ];
  }

  pub call_of_other : (key n ≡ k → ⊥) → AreCallsOf key (n + 1) k l
  call_of_other other = record {
    rises = a.rises;
    there = λ c h f. elim (last_or c n h) [ inl x ↦ a.there c x f | inr x ↦ absurd (other (sym (ap key x) ∙ f)) ];
    below = λ c h. (let less = a.below c h in omega (arith, less));
    own = a.own;
  }

set_here : (lists : List (List ℕ)) (i : ℕ) (l : List ℕ) → i < length lists → get_or (set lists i l) i [] ≡ l
set_here [] i l h = absurd (omega (arith, h))
set_here (x ∷ xs) zero l h = refl
set_here (x ∷ xs) (suc i) l h = set_here xs i l (omega (arith, h))

pub lists_more : (key : ℕ → ℕ) (n count : ℕ) (old new : List (List ℕ)) → length old ≡ count → key n < count → new ≡ set old (key n) (order_at old (key n) ++ n ∷ []) → ((k : ℕ) → k < count → AreCallsOf key n k (order_at old k)) → (k : ℕ) → k < count → AreCallsOf key (n + 1) k (order_at new k)
lists_more key n count old new e within is calls k below = subst (λ (x : List (List ℕ)). AreCallsOf key (n + 1) k (order_at x k)) (sym is) (elim (three (key n) k) [
  | inl less ↦ other (omega (arith, less))
  | inr (inl same) ↦ own same
  | inr (inr more) ↦ other (omega (arith, more))
])
  where
    own : key n ≡ k → AreCallsOf key (n + 1) k (order_at (set old (key n) (order_at old (key n) ++ n ∷ [])) k)
    own same = subst (λ (j : ℕ). AreCallsOf key (n + 1) j (order_at (set old (key n) (order_at old (key n) ++ n ∷ [])) j)) same (subst (λ (x : List ℕ). AreCallsOf key (n + 1) (key n) x) (sym (set_here old (key n) (order_at old (key n) ++ n ∷ []) (omega (arith, e, within)))) (call_of_key key n (key n) (order_at old (key n)) (calls (key n) within) refl))

    other : key n ≢ k → AreCallsOf key (n + 1) k (order_at (set old (key n) (order_at old (key n) ++ n ∷ [])) k)
    other apart = (let far : k ≢ key n = λ f. apart (sym f) in subst (λ (x : List ℕ). AreCallsOf key (n + 1) k x) (sym (get_or-set_other old (key n) k (order_at old (key n) ++ n ∷ []) [] far)) (call_of_other key n k (order_at old k) (calls k below) apart))

pub empty_more : (lists new : List (List ℕ)) (x : List ℕ) → x ≡ [] → new ≡ lists ++ x ∷ [] → ((k : ℕ) → order_at lists k ≡ []) → (k : ℕ) → order_at new k ≡ []
empty_more lists new x e is empty k = ap (λ (z : List (List ℕ)). order_at z k) is ∙ go lists empty k
  where
    go : (ys : List (List ℕ)) → ((j : ℕ) → order_at ys j ≡ []) → (j : ℕ) → order_at (ys ++ x ∷ []) j ≡ []
    go [] none zero = e
    go [] none (suc j) = refl
    go (y ∷ ys) none zero = none zero
    go (y ∷ ys) none (suc j) = go ys (λ i. none (suc i)) j

pub order_front : (lists : List (List ℕ)) (x : List ℕ) (k : ℕ) → k < length lists → order_at (lists ++ x ∷ []) k ≡ order_at lists k
order_front [] x k h = absurd (omega (arith, h))
order_front (y ∷ ys) x zero h = refl
order_front (y ∷ ys) x (suc k) h = order_front ys x k (omega (arith, h))

pub order_last : (lists : List (List ℕ)) (x : List ℕ) → order_at (lists ++ x ∷ []) (length lists) ≡ x
order_last [] x = refl
order_last (y ∷ ys) x = order_last ys x

pub one_longer : {A : Type 0} (xs : List A) (x : A) → length (xs ++ x ∷ []) ≡ length xs + 1
one_longer [] x = refl
one_longer (y ∷ ys) x = (let e = one_longer ys x in omega (arith, e))

-- what holds of each order holds with one more
pub orders_more : (P : ℕ → List ℕ → Type 0) (orders new : List (List ℕ)) (x : List ℕ) (n : ℕ) → length orders ≡ n → new ≡ orders ++ x ∷ [] → ((k : ℕ) → k < n → P k (order_at orders k)) → P n x → (k : ℕ) → k < n + 1 → P k (order_at new k)
orders_more P orders new x n count is each last k h = subst (λ (z : List (List ℕ)). P k (order_at z k)) (sym is) (elim (last_or k n h) [
  | inl less ↦ subst (λ (z : List ℕ). P k z) (sym (order_front orders x k (omega (arith, less, count)))) (each k less)
  | inr same ↦ subst (λ (j : ℕ). P j (order_at (orders ++ x ∷ []) j)) (sym same) (subst (λ (z : List ℕ). P n z) (sym (ap (order_at (orders ++ x ∷ [])) (sym count) ∙ order_last orders x)) last)
])
