-- A merge with the place in each key's order from which it goes on.
use Rattle.std.proofs.Common.{◌≡◌, ◌≢◌, ℕ, zero, suc, ◌+◌, ◌-◌, ◌<◌, ◌≤◌, List, [], ◌∷◌, ◌++◌, length, drop, replicate, get_or, set, inl, inr, refl, sym, ◌∙◌, ap, subst, append_assoc, append-nil, arith, get_or-set_other}
use Rattle.std.specs.Prelude.{slice_index}
use Rattle.std.proofs.lemmas.Bool.{cases_lt}
use Rattle.std.proofs.Math.ListN.{length-set}
use Rattle.std.proofs.lemmas.List.{length-replicate}
use Rattle.lin_history.specs.Problems.Lists.{In}
use Rattle.lin_history.specs.Problems.ListLemmas.{in_early, in_either, in_late}
use Rattle.lin_decide.specs.Keys.Products.{with_key}
use Rattle.lin_decide.specs.Keys.Merging.{order_at, AreOrdersOfKeys, IsMergedWhole, IsMerging, IsTakenUpTo}
use Rattle.lin_parts.specs.PartLemmas.{three}
use Rattle.lin_parts.specs.ListLemmas.{drop_at, drop_none}
use Rattle.lin_decide.proofs.keys.KeyLemmas.{key_on, key_off, key_append}
use Rattle.lin_decide.proofs.keys.MergingLemmas.{merging_start, merging_run, same_behind, heads_same}

-- The calls so far are merged, and each order goes on from its place, with no call below n.
pub record IsMergeAt (numbers : List ℕ) (orders : List (List ℕ)) (places : List ℕ) (n : ℕ) (l : List ℕ) : Type 0 where
  pub merging : IsMerging (slice_index numbers) (order_at orders) l
  pub count : length places ≡ length orders
  pub from : (k : ℕ) → order_at orders k ≡ with_key (slice_index numbers) k l ++ drop (slice_index places k) (order_at orders k)
  pub within : (k : ℕ) → k < length orders → slice_index places k ≤ length (order_at orders k)
  pub high : (k h : ℕ) (rest : List ℕ) → drop (slice_index places k) (order_at orders k) ≡ h ∷ rest → n ≤ h

no_place : (m k : ℕ) → slice_index (replicate m 0) k ≡ 0
no_place zero k = refl
no_place (suc m) zero = refl
no_place (suc m) (suc k) = no_place m k

drop_zero : (l : List ℕ) → drop 0 l ≡ l
drop_zero [] = refl
drop_zero (c ∷ l) = refl

place_here : (xs : List ℕ) (i n : ℕ) → i < length xs → slice_index (set xs i n) i ≡ n
place_here [] i n h = absurd (omega (arith, h))
place_here (x ∷ xs) zero n h = refl
place_here (x ∷ xs) (suc i) n h = place_here xs i n (omega (arith, h))

module _ (key : ℕ → ℕ) (k : ℕ) where
  key_all : (l : List ℕ) → ((c : ℕ) → In c l → key c ≡ k) → with_key key k l ≡ l
  key_all [] own = refl
  key_all (c ∷ l) own = key_on key k c l (own c (inl refl)) ∙ ap (λ (z : List ℕ). c ∷ z) (key_all l (λ d h. own d (inr h)))

  key_none : (l : List ℕ) → ((c : ℕ) → In c l → key c ≡ k → ⊥) → with_key key k l ≡ []
  key_none [] other = refl
  key_none (c ∷ l) other = key_off key k c l (other c (inl refl)) ∙ key_none l (λ d h. other d (inr h))

module _ (numbers : List ℕ) (orders : List (List ℕ)) (own : AreOrdersOfKeys numbers orders) where
  abbrev key : ℕ → ℕ
  key c = slice_index numbers c

  pub merge_start : (places l : List ℕ) → places ≡ replicate (length orders) 0 → l ≡ [] → IsMergeAt numbers orders places 0 l
  merge_start places l e f = rw (e, f) (record {
    merging = merging_start (slice_index numbers) (order_at orders);
    count = length-replicate (length orders) 0;
    from = λ k. sym (ap (λ (i : ℕ). drop i (order_at orders k)) (no_place (length orders) k) ∙ drop_zero (order_at orders k));
    within = λ k h. (let e = no_place (length orders) k in omega (arith, e));
    high = λ k h rest e. omega arith;
  })

  module _ (places : List ℕ) (n : ℕ) (l new : List ℕ) (next : ℕ) (below : n < length numbers) (m : IsMergeAt numbers orders places n l)
      (t : IsTakenUpTo (order_at orders (key n)) (slice_index places (key n)) n l new next) where
    known : key n < length places
    known = (let a = own.within n below in let b = m.count in omega (arith, a, b))

    goes : order_at orders (key n) ≡ with_key (slice_index numbers) (key n) l ++ (t.taken ++ drop next (order_at orders (key n)))
    goes = m.from (key n) ∙ ap (λ (z : List ℕ). with_key (slice_index numbers) (key n) l ++ z) t.is

    taken_own : (c : ℕ) → In c t.taken → key c ≡ key n
    taken_own c h = own.own (key n) c (subst (λ (z : List ℕ). In c z) (sym goes) (in_late c (with_key (slice_index numbers) (key n) l) (t.taken ++ drop next (order_at orders (key n))) (in_early c t.taken (drop next (order_at orders (key n))) h)))

    in_order : (k h : ℕ) (rest : List ℕ) → drop (slice_index places k) (order_at orders k) ≡ h ∷ rest → In h (order_at orders k)
    in_order k h rest e = subst (λ (z : List ℕ). In h z) (sym (m.from k)) (in_late h (with_key (slice_index numbers) k l) (drop (slice_index places k) (order_at orders k)) (subst (λ (z : List ℕ). In h z) (sym e) (inl refl)))

    others : (j h : ℕ) (late : List ℕ) → (j ≡ key n → ⊥) → order_at orders j ≡ with_key (slice_index numbers) j l ++ h ∷ late → n ≤ h
    others j h late apart e = m.high j h late (same_behind (with_key (slice_index numbers) j l) (drop (slice_index places j) (order_at orders j)) (h ∷ late) (sym (m.from j) ∙ e))

    -- what holds of the new places, by whether it is the key whose turn it was
    at_place : (P : ℕ → ℕ → Type 0) → P (key n) next → ((j : ℕ) → (j ≡ key n → ⊥) → P j (slice_index places j)) → (j : ℕ) → P j (slice_index (set places (key n) next) j)
    at_place P here other j = elim (three j (key n)) [
      | inl less ↦ far (λ e. omega (arith, e, less))
      | inr (inl same) ↦ subst (λ (i : ℕ). P i (slice_index (set places (key n) next) i)) (sym same) (subst (λ (z : ℕ). P (key n) z) (sym (place_here places (key n) next known)) here)
      | inr (inr more) ↦ far (λ e. omega (arith, e, more))
    ]
      where
        far : (j ≡ key n → ⊥) → P j (slice_index (set places (key n) next) j)
        far apart = (let different : j ≢ key n = apart in subst (λ (z : ℕ). P j z) (sym (get_or-set_other places (key n) j next 0 different)) (other j apart))

    pub merge_step : IsMergeAt numbers orders (set places (key n) next) (n + 1) new
    merge_step = record {
      merging = subst (λ (z : List ℕ). IsMerging (slice_index numbers) (order_at orders) z) (sym t.behind) (merging_run (slice_index numbers) (order_at orders) (key n) n t.taken (drop next (order_at orders (key n))) l m.merging goes taken_own t.low others);
      count = length-set places (key n) next ∙ m.count;
      from = at_place (λ (j i : ℕ). order_at orders j ≡ with_key (slice_index numbers) j new ++ drop i (order_at orders j)) here there;
      within = at_place (λ (j i : ℕ). j < length orders → i ≤ length (order_at orders j)) (λ h. t.within) (λ j apart. m.within j);
      high = at_place (λ (j i : ℕ). (h : ℕ) (rest : List ℕ) → drop i (order_at orders j) ≡ h ∷ rest → n + 1 ≤ h) (λ h rest e. (let a = t.high h rest e in omega (arith, a))) above;
    }
      where
        here : order_at orders (key n) ≡ with_key (slice_index numbers) (key n) new ++ drop next (order_at orders (key n))
        here = goes ∙ sym (append_assoc (with_key (slice_index numbers) (key n) l) t.taken (drop next (order_at orders (key n)))) ∙ ap (λ (z : List ℕ). z ++ drop next (order_at orders (key n))) (sym (ap (with_key (slice_index numbers) (key n)) t.behind ∙ key_append (slice_index numbers) (key n) l t.taken ∙ ap (λ (z : List ℕ). with_key (slice_index numbers) (key n) l ++ z) (key_all (slice_index numbers) (key n) t.taken taken_own)))

        there : (j : ℕ) → (j ≡ key n → ⊥) → order_at orders j ≡ with_key (slice_index numbers) j new ++ drop (slice_index places j) (order_at orders j)
        there j apart = m.from j ∙ ap (λ (z : List ℕ). z ++ drop (slice_index places j) (order_at orders j)) (sym (ap (with_key (slice_index numbers) j) t.behind ∙ key_append (slice_index numbers) j l t.taken ∙ ap (λ (z : List ℕ). with_key (slice_index numbers) j l ++ z) (key_none (slice_index numbers) j t.taken (λ c h e. apart (sym e ∙ taken_own c h))) ∙ append-nil (with_key (slice_index numbers) j l)))

        above : (j : ℕ) → (j ≡ key n → ⊥) → (h : ℕ) (rest : List ℕ) → drop (slice_index places j) (order_at orders j) ≡ h ∷ rest → n + 1 ≤ h
        above j apart h rest e = (
            let a = m.high j h rest e in
            elim (three n h) [
              | inl less ↦ omega (arith, less)
              | inr (inl same) ↦ absurd (apart (sym (own.own j h (in_order j h rest e)) ∙ ap key (sym same)))
              | inr (inr more) ↦ absurd (omega (arith, a, more))
            ]
            )

  pub merge_end : (places : List ℕ) (n : ℕ) (l : List ℕ) → length numbers ≤ n → IsMergeAt numbers orders places n l → IsMergedWhole numbers orders l
  merge_end places n l last m = record { merging = m.merging; whole = λ k. from k (drop (slice_index places k) (order_at orders k)) refl }
    where
      from : (k : ℕ) (rest : List ℕ) → drop (slice_index places k) (order_at orders k) ≡ rest → order_at orders k ≡ with_key (slice_index numbers) k l
      from k [] e = m.from k ∙ ap (λ (z : List ℕ). with_key (slice_index numbers) k l ++ z) e ∙ append-nil (with_key (slice_index numbers) k l)
      from k (h ∷ rest) e = absurd (
          let a = m.high k h rest e in
          let b = own.below k h (subst (λ (z : List ℕ). In h z) (sym (m.from k)) (in_late h (with_key (slice_index numbers) k l) (drop (slice_index places k) (order_at orders k)) (subst (λ (z : List ℕ). In h z) (sym e) (inl refl)))) in
          omega (arith, a, b, last)
          )

-- ---- the end

pub held_more : (P : ℕ → Type 0) (l : List ℕ) (end : ℕ) → 0 < end → end ≤ length l → ((i : ℕ) → end ≡ suc i → P (slice_index l i)) → ((c : ℕ) → In c (drop end l) → P c) → (c : ℕ) → In c (drop (end - 1) l) → P c
held_more P l zero some within last behind c h = absurd (omega (arith, some))
held_more P l (suc i) some within last behind c h = elim (subst (λ (z : List ℕ). In c z) (ap (λ (n : ℕ). drop n l) less ∙ drop_at l i (omega (arith, within))) h) [
  | inl same ↦ subst P (sym same) (last i refl)
  | inr more ↦ behind c (subst (λ (n : ℕ). In c (drop n l)) step more)
]
  where
    less : suc i - 1 ≡ i
    less = omega arith

    step : i + 1 ≡ suc i
    step = omega arith

-- ---- one turn

-- The calls of the order from the place up to the next one were put behind.
pub record IsTaking (order : List ℕ) (place call : ℕ) (old new : List ℕ) (next : ℕ) : Type 0 where
  pub taken : List ℕ
  pub is : drop place order ≡ taken ++ drop next order
  pub behind : new ≡ old ++ taken
  pub within : next ≤ length order
  pub low : (c : ℕ) → In c taken → c ≤ call

pub taking_start : (order : List ℕ) (place call : ℕ) (old : List ℕ) → place ≤ length order → IsTaking order place call old old place
taking_start order place call old h = record { taken = []; is = refl; behind = sym (append-nil old); within = h; low = λ c h. absurd h }

pub taking_more : (order : List ℕ) (place call : ℕ) (old new more : List ℕ) (next : ℕ) → IsTaking order place call old new next → next < length order → slice_index order next ≤ call → more ≡ new ++ slice_index order next ∷ [] → IsTaking order place call old more (next + 1)
taking_more order place call old new more next t h low e = record {
  taken = t.taken ++ slice_index order next ∷ [];
  is = t.is ∙ ap (λ (z : List ℕ). t.taken ++ z) (drop_at order next h) ∙ sym (append_assoc t.taken (slice_index order next ∷ []) (drop (next + 1) order));
  behind = e ∙ ap (λ (z : List ℕ). z ++ slice_index order next ∷ []) t.behind ∙ append_assoc old t.taken (slice_index order next ∷ []);
  within = omega (arith, h);
  low = λ c there. elim (in_either c t.taken (slice_index order next ∷ []) there) [ inl a ↦ t.low c a | inr (inl same) ↦ rw same low | inr (inr none) ↦ absurd none ];
}

pub taking_end : (order : List ℕ) (place call : ℕ) (old new : List ℕ) (next : ℕ) → IsTaking order place call old new next → (next < length order → slice_index order next ≤ call → ⊥) → IsTakenUpTo order place call old new next
taking_end order place call old new next t stops = record {
  taken = t.taken;
  is = t.is;
  behind = t.behind;
  within = t.within;
  low = t.low;
  high = λ h rest e. elim (cases_lt next (length order)) [
    | inl less ↦ elim (cases_lt call (slice_index order next)) [
      | inl above ↦ (let f = heads_same (slice_index order next) h (drop (next + 1) order) rest (sym (drop_at order next less) ∙ e) in omega (arith, above, f))
      | inr low ↦ absurd (stops less low)
    ]
    | inr past ↦ absurd (no_head h rest (sym (drop_none order next past) ∙ e))
  ];
}
  where
    no_head : (h : ℕ) (rest : List ℕ) → [] ≡ h ∷ rest → ⊥
    no_head h rest e = cc

-- ---- what is read in the loop

pub place_read : (xs : List ℕ) (i r : ℕ) → i < length xs → r ≡ get_or xs i r → r ≡ slice_index xs i
place_read [] i r h e = absurd (omega (arith, h))
place_read (x ∷ xs) zero r h e = e
place_read (x ∷ xs) (suc i) r h e = place_read xs i r (omega (arith, h)) e

pub taken_at : (order own : List ℕ) (place at call : ℕ) (old new : List ℕ) (next : ℕ) → order ≡ own → place ≡ at → IsTakenUpTo order place call old new next → IsTakenUpTo own at call old new next
taken_at order own place at call old new next e f t = subst (λ (z : List ℕ). IsTakenUpTo z at call old new next) e (subst (λ (i : ℕ). IsTakenUpTo order i call old new next) f t)
