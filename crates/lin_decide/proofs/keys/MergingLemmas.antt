-- A merge of the keys' orders, call by call: what a loop that takes the least next call keeps.
use Rattle.std.proofs.Common.{◌≡◌, ℕ, ◌≤◌, List, [], ◌∷◌, ◌++◌, ◌⊎◌, inl, inr, refl, sym, ◌∙◌, ap, subst, append_assoc, append-nil, arith}
use Rattle.lin_history.specs.Problems.Lists.{In}
use Rattle.lin_history.specs.Problems.Problem.{Problem}
use Rattle.lin_history.specs.Problems.Precedence.{IsCompleted}
use Rattle.lin_search.specs.FirstCallLemmas.{no_part}
use Rattle.lin_decide.specs.Keys.Products.{with_key}
use Rattle.lin_decide.specs.Keys.Merging.{IsMerging, IsMerged}
use Rattle.lin_parts.specs.PartLemmas.{three}
use Rattle.lin_decide.proofs.keys.KeyLemmas.{key_on, key_off, key_append, same_key_or_not}

-- a place in a list with one call more is the last, or one in the list
last_or_in : (l : List ℕ) (x : ℕ) (early : List ℕ) (y : ℕ) (late : List ℕ) → l ++ x ∷ [] ≡ early ++ y ∷ late → ((early ≡ l) × (y ≡ x)) ⊎ ((rest : List ℕ) × (l ≡ early ++ y ∷ rest))
last_or_in [] x [] y late e = inl (refl, cc)
last_or_in [] x (d ∷ early) y late e = absurd (no_part early y late (let f : [] ≡ early ++ y ∷ late = cc in f))
last_or_in (c ∷ l) x [] y late e = inr (l, (let f : c ≡ y = cc in ap (λ (d : ℕ). d ∷ l) f))
last_or_in (c ∷ l) x (d ∷ early) y late e =
    let head : c ≡ d = cc in
    let tail : l ++ x ∷ [] ≡ early ++ y ∷ late = cc in
    elim (last_or_in l x early y late tail) [
      | inl last ↦ inl ((let g = last.0 in cc), last.1)
      | inr more ↦ inr (more.0, (let g = more.1 in cc))
    ]

pub same_behind : (l xs ys : List ℕ) → l ++ xs ≡ l ++ ys → xs ≡ ys
same_behind [] xs ys e = e
same_behind (c ∷ l) xs ys e = same_behind l xs ys (let f : c ∷ (l ++ xs) ≡ c ∷ (l ++ ys) = e in cc)

pub heads_same : (x h : ℕ) (xs ys : List ℕ) → x ∷ xs ≡ h ∷ ys → x ≡ h
heads_same x h xs ys e = cc

module _ (key : ℕ → ℕ) (orders : ℕ → List ℕ) where
  pub merging_start : IsMerging key orders []
  merging_start = record {
    fronts = λ k. (orders k, refl);
    least = λ early x late e k h rest f. absurd (no_part early x late e);
  }

  -- The least of the calls with which the keys' orders go on is put behind.
  pub merging_step : (l : List ℕ) (x : ℕ) → IsMerging key orders l → (own : List ℕ) → orders (key x) ≡ with_key key (key x) l ++ x ∷ own
      → ((k h : ℕ) (rest : List ℕ) → orders k ≡ with_key key k l ++ h ∷ rest → x ≤ h) → IsMerging key orders (l ++ x ∷ [])
  merging_step l x m own goes lowest = record {
    fronts = λ k. elim (same_key_or_not key k x) [
      | inl e ↦ subst (λ (j : ℕ). (rest : List ℕ) × (orders j ≡ with_key key j (l ++ x ∷ []) ++ rest)) e (own, goes ∙ sym (ap (λ (z : List ℕ). z ++ own) (key_append key (key x) l (x ∷ []) ∙ ap (λ (z : List ℕ). with_key key (key x) l ++ z) (key_on key (key x) x [] refl)) ∙ append_assoc (with_key key (key x) l) (x ∷ []) own))
      | inr n ↦ ((m.fronts k).0, (m.fronts k).1 ∙ ap (λ (z : List ℕ). z ++ (m.fronts k).0) (sym (key_append key k l (x ∷ []) ∙ ap (λ (z : List ℕ). with_key key k l ++ z) (key_off key k x [] n) ∙ append-nil (with_key key k l))))
    ];
    least = λ early y late e k h rest f. elim (last_or_in l x early y late e) [
      | inl last ↦ subst (λ (z : ℕ). z ≤ h) (sym last.1) (lowest k h rest (subst (λ (z : List ℕ). orders k ≡ with_key key k z ++ h ∷ rest) last.0 f))
      | inr more ↦ m.least early y more.0 more.1 k h rest f
    ];
  }

  pub merging_end : {State Op Reply : Type 0} (p : Problem State Op Reply) (l : List ℕ) → IsMerging key orders l → ((early : List ℕ) (x : ℕ) (late : List ℕ) → l ≡ early ++ x ∷ late → ((c : ℕ) → IsCompleted p c → In c early) → ⊥) → IsMerged p key orders l
  merging_end p l m ends = record { fronts = m.fronts; least = m.least; ends = ends }

  -- Calls with which a key's order goes on are put behind, where none of them is greater than any with which the others go on.
  pub merging_run : (k n : ℕ) (xs rest l : List ℕ) → IsMerging key orders l → orders k ≡ with_key key k l ++ (xs ++ rest)
      → ((c : ℕ) → In c xs → key c ≡ k) → ((c : ℕ) → In c xs → c ≤ n)
      → ((j h : ℕ) (late : List ℕ) → (j ≡ k → ⊥) → orders j ≡ with_key key j l ++ h ∷ late → n ≤ h)
      → IsMerging key orders (l ++ xs)
  merging_run k n [] rest l m goes own low others = subst (λ (z : List ℕ). IsMerging key orders z) (sym (append-nil l)) m
  merging_run k n (x ∷ xs) rest l m goes own low others =
      subst (λ (z : List ℕ). IsMerging key orders z) (append_assoc l (x ∷ []) xs)
      (merging_run k n xs rest (l ++ x ∷ []) (merging_step l x m (xs ++ rest) (subst (λ (j : ℕ). orders j ≡ with_key key j l ++ x ∷ (xs ++ rest)) (sym here) goes) lowest)
      (goes ∙ sym (ap (λ (z : List ℕ). z ++ (xs ++ rest)) (key_append key k l (x ∷ []) ∙ ap (λ (z : List ℕ). with_key key k l ++ z) (key_on key k x [] here)) ∙ append_assoc (with_key key k l) (x ∷ []) (xs ++ rest)))
      (λ c h. own c (inr h)) (λ c h. low c (inr h))
      (λ j h late apart e. others j h late apart (e ∙ ap (λ (z : List ℕ). z ++ h ∷ late) (key_append key j l (x ∷ []) ∙ ap (λ (z : List ℕ). with_key key j l ++ z) (key_off key j x [] (λ f. apart (sym f ∙ here))) ∙ append-nil (with_key key j l)))))
    where
      here : key x ≡ k
      here = own x (inl refl)

      far : (j h : ℕ) (late : List ℕ) → orders j ≡ with_key key j l ++ h ∷ late → (j ≡ k → ⊥) → x ≤ h
      far j h late e apart = (let a = low x (inl refl) in let b = others j h late apart e in omega (arith, a, b))

      lowest : (j h : ℕ) (late : List ℕ) → orders j ≡ with_key key j l ++ h ∷ late → x ≤ h
      lowest j h late e = elim (three j k) [
        | inl less ↦ far j h late e (λ f. omega (arith, f, less))
        | inr (inl same) ↦ (let f = heads_same x h (xs ++ rest) late (same_behind (with_key key k l) (x ∷ (xs ++ rest)) (h ∷ late) (sym goes ∙ subst (λ (i : ℕ). orders i ≡ with_key key i l ++ h ∷ late) same e)) in omega (arith, f))
        | inr (inr more) ↦ far j h late e (λ f. omega (arith, f, more))
      ]
