-- Keys in the order in which they come.
use Rattle.std.proofs.Common.{◌≡◌, ℕ, zero, suc, ◌+◌, ◌<◌, Bool, true, false, Option, Some, None, List, [], ◌∷◌, ◌++◌, length, ◌⊎◌, inl, inr, refl, sym, ◌∙◌, ap, subst, arith, if◌then◌else◌, true≢false, ◌||◌}
use Rattle.std.specs.Prelude.{ℤ, slice_index}
use Rattle.std.proofs.lemmas.Option.{slice_get_cases}
use Rattle.lin_object.specs.declared.op.Op.{Op}
use Rattle.lin_object.specs.declared.reply.Reply.{Reply}
use Rattle.lin_object.specs.declared.state.ObjState.{ObjState}
use Rattle.lin_history.specs.declared.problems.problem.ProblemCall.{ProblemCall}
use Rattle.lin_history.specs.Problems.ProblemParts.{ProblemParts}
use Rattle.lin_decide.specs.Keys.KeyedCalls.{AreKeyNumbers, IsOnKey, StartsEmpty}
use Rattle.lin_parts.specs.ListLemmas.{last_or}
use Rattle.std.specs.List.{slice_get, list_any}
use Rattle.std.specs.Ordering.{int_eq}
use Rattle.std.proofs.lemmas.Cmp.{int_eq_equiv}
use Rattle.indexmap.specs.IndexSet.{insert_key}

-- no key stands at two places
abbrev pub AreApart : List ℤ → Type 0
AreApart keys = (i j : ℕ) (v : ℤ) → slice_get keys i ≡ Some v → slice_get keys j ≡ Some v → i ≡ j

get_front : (ks : List ℤ) (k : ℤ) (i : ℕ) (v : ℤ) → slice_get ks i ≡ Some v → slice_get (ks ++ k ∷ []) i ≡ Some v
get_front [] k i v e = absurd (cc)
get_front (x ∷ xs) k zero v e = e
get_front (x ∷ xs) k (suc i) v e = get_front xs k i v e

get_either : (ks : List ℤ) (k : ℤ) (i : ℕ) (v : ℤ) → slice_get (ks ++ k ∷ []) i ≡ Some v → (slice_get ks i ≡ Some v) ⊎ ((i ≡ length ks) × (k ≡ v))
get_either [] k zero v e = inr (refl, (let f : ◌≡◌ {A = Option ℤ} (Some k) (Some v) = e in cc))
get_either [] k (suc i) v e = absurd (cc)
get_either (x ∷ xs) k zero v e = inl e
get_either (x ∷ xs) k (suc i) v e = elim (get_either xs k i v e) [ inl f ↦ inl f | inr f ↦ inr ((let g = f.0 in omega (arith, g)), f.1) ]

there : (ks : List ℤ) (k : ℤ) (i : ℕ) → slice_get ks i ≡ Some k → list_any (int_eq k) ks ≡ true
there [] k i e = absurd (cc)
there (x ∷ xs) k zero e = (let f : x ≡ k = (let g : ◌≡◌ {A = Option ℤ} (Some x) (Some k) = e in cc) in ap (λ (y : ℤ). int_eq k y || list_any (int_eq k) xs) f ∙ ap (λ (b : Bool). b || list_any (int_eq k) xs) (int_eq_equiv.refl k))
there (x ∷ xs) k (suc i) e = either (int_eq k x) (there xs k i e)
  where
    either : (b : Bool) → list_any (int_eq k) xs ≡ true → (b || list_any (int_eq k) xs) ≡ true
    either true h = refl
    either false h = h

module _ (ks : List ℤ) (k : ℤ) where
  by_inserted : (P : List ℤ → Type 0) → P ks → (list_any (int_eq k) ks ≡ false → P (ks ++ k ∷ [])) → P (insert_key int_eq ks k)
  by_inserted P old new = go (list_any (int_eq k) ks) refl
    where
      go : (b : Bool) → list_any (int_eq k) ks ≡ b → P (if b then ks else ks ++ k ∷ [])
      go true e = old
      go false e = new e

  -- what has a place keeps it
  pub key_kept : (i : ℕ) (v : ℤ) → slice_get ks i ≡ Some v → slice_get (insert_key int_eq ks k) i ≡ Some v
  key_kept i v e = by_inserted (λ (x : List ℤ). slice_get x i ≡ Some v) e (λ none. get_front ks k i v e)

  pub still_apart : AreApart ks → AreApart (insert_key int_eq ks k)
  still_apart h = by_inserted AreApart h new
    where
      new : list_any (int_eq k) ks ≡ false → AreApart (ks ++ k ∷ [])
      new none i j v e f = elim (get_either ks k i v e) [
        | inl a ↦ elim (get_either ks k j v f) [
          | inl b ↦ h i j v a b
          | inr b ↦ absurd (true≢false (sym (there ks k i (a ∙ ap (λ (x : ℤ). Some x) (sym b.1))) ∙ none))
        ]
        | inr a ↦ elim (get_either ks k j v f) [
          | inl b ↦ absurd (true≢false (sym (there ks k j (b ∙ ap (λ (x : ℤ). Some x) (sym a.1))) ∙ none))
          | inr b ↦ a.0 ∙ sym b.0
        ]
      ]

pub none_apart : AreApart []
none_apart i j v e f = absurd (cc)

-- ---- numbers of calls

-- the calls below n have the numbers of their keys
abbrev pub AreKeyed : {Object : Type 0} → ProblemParts Object ObjState Op Reply → ℕ → List ℤ → List ℕ → Type 0
AreKeyed parts n keys numbers = (c : ℕ) (x : ProblemCall Op Reply) → c < n → slice_get parts.calls c ≡ Some x → (v : ℤ) × (slice_get keys (slice_index numbers c) ≡ Some v) × IsOnKey parts.start x.op v

index_front : (xs : List ℕ) (n i : ℕ) → i < length xs → slice_index (xs ++ n ∷ []) i ≡ slice_index xs i
index_front [] n i h = absurd (omega (arith, h))
index_front (x ∷ xs) n zero h = refl
index_front (x ∷ xs) n (suc i) h = index_front xs n i (omega (arith, h))

index_last : (xs : List ℕ) (n : ℕ) → slice_index (xs ++ n ∷ []) (length xs) ≡ n
index_last [] n = refl
index_last (x ∷ xs) n = index_last xs n

one_value : {A : Type 0} (o : Option A) (x y : A) → o ≡ Some x → o ≡ Some y → x ≡ y
one_value o x y e f = (let g : Some x ≡ Some y = sym e ∙ f in cc)

module _ {Object : Type 0} (parts : ProblemParts Object ObjState Op Reply) where
  pub none_keyed : (keys : List ℤ) (numbers : List ℕ) → AreKeyed parts 0 keys numbers
  none_keyed keys numbers c x h e = absurd (omega (arith, h))

  pub keyed_more : (n : ℕ) (keys more : List ℤ) (numbers new : List ℕ) (key passed : ℤ) (number : ℕ) (x : ProblemCall Op Reply) → length numbers ≡ n → more ≡ insert_key int_eq keys passed → passed ≡ key → new ≡ numbers ++ number ∷ []
      → slice_get more number ≡ Some passed → AreKeyed parts n keys numbers → slice_get parts.calls n ≡ Some x → IsOnKey parts.start x.op key → AreKeyed parts (n + 1) more new
  keyed_more n keys more numbers new key passed number x count is same_key behind at keyed here on c y h e = elim (last_or c n h) [
    | inl less ↦ (
        let k = keyed c y less e in
        (k.0, subst (λ (i : ℕ). slice_get more i ≡ Some k.0) (sym (ap (λ (z : List ℕ). slice_index z c) behind ∙ index_front numbers number c (omega (arith, less, count)))) (subst (λ (z : List ℤ). slice_get z (slice_index numbers c) ≡ Some k.0) (sym is) (key_kept keys passed (slice_index numbers c) k.0 k.1)), k.2)
        )
    | inr same ↦ (
        let i : slice_index new c ≡ number = ap (slice_index new) (same ∙ sym count) ∙ ap (λ (z : List ℕ). slice_index z (length numbers)) behind ∙ index_last numbers number in
        (passed, subst (λ (j : ℕ). slice_get more j ≡ Some passed) (sym i) at, subst (λ (v : ℤ). IsOnKey parts.start y.op v) (sym same_key) (subst (λ (z : ProblemCall Op Reply). IsOnKey parts.start z.op key) (one_value (slice_get parts.calls n) x y here (ap (slice_get parts.calls) (sym same) ∙ e)) on))
        )
  ]

  pub all_keyed : (n : ℕ) (keys : List ℤ) (numbers : List ℕ) → StartsEmpty parts.start → AreApart keys → length numbers ≡ n → AreKeyed parts n keys numbers → n ≡ length parts.calls → AreKeyNumbers parts keys numbers
  all_keyed n keys numbers empty apart count keyed all = record {
    empty = empty;
    distinct = apart;
    count = count ∙ all;
    keyed = λ c x e. keyed c x (let b = there_below c x e in omega (arith, b, all)) e;
  }
    where
      some_not_none : (x : ProblemCall Op Reply) → Some x ≡ None → ⊥
      some_not_none x f = cc

      there_below : (c : ℕ) (x : ProblemCall Op Reply) → slice_get parts.calls c ≡ Some x → c < length parts.calls
      there_below c x e = elim (slice_get_cases parts.calls c).1 [ inl k ↦ k.1 | inr q ↦ absurd (some_not_none x (sym e ∙ q.1)) ]

pub one_longer : (xs : List ℕ) (n : ℕ) → length (xs ++ n ∷ []) ≡ length xs + 1
one_longer [] n = refl
one_longer (x ∷ xs) n = (let e = one_longer xs n in omega (arith, e))
