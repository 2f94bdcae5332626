-- What the look-ups of a map say of a store, and what each answer of the store says to a search.
use Rattle.std.proofs.Common.{◌≡◌, ℕ, arith, length, Bool, true, false, Option, Some, None, List, [], ◌∷◌, ◌++◌, ◌⊎◌, inl, inr, refl, sym, ap, subst, ◌∙◌, cond}
use Rattle.std.specs.Prelude.{◌↔◌, is_some, IfSome, IsSome}
use Rattle.std.specs.Map.{lookup}
use Rattle.std.specs.Cmp.{IsEquivalence}
use lib.Pointwise.{pointwise}
use mathlib.Core.Bool.{beq}
use Rattle.indexmap.specs.IndexMap.{insert_entry}
use Rattle.indexmap.proofs.MapLemmas.{insert_entry-absent, absent_from_lookup}
use Rattle.lin_history.specs.Problems.Problem.{Problem}
use Rattle.lin_history.specs.Problems.Lists.{IsLongest, first_of}
use Rattle.lin_history.specs.Problems.Continuations.{IsContinuation}
use Rattle.lin_search.specs.declared.longest.Longest.{Longest}
use Rattle.lin_search.specs.declared.memo.Noted.{Noted}
use Rattle.lin_search.specs.declared.memo.Noted.TheVariants.{New, Known, Busy, NoRoom, Stranger}
use Rattle.lin_search.specs.CallSetLemmas.{flags_same, flags_itself}
use Rattle.lin_search.specs.Configuration.{Configuration, same_configuration}
use Rattle.lin_search.specs.ConfigurationLemmas.{both_true}
use Rattle.lin_search.specs.Refutation.{IsRefutedWith}
use Rattle.lin_search.specs.Memo.{IsKept}
use Rattle.lin_search.specs.Count.{AllApart}
use Rattle.lin_search.specs.Store.{configurations, Holds, AllRefuted, IsStore, IsNoted}
use Rattle.lin_search.specs.StoreLemmas.{held_last, held_split}
use Rattle.lin_search.specs.AlikeLemmas.{AreAlike, alike_refuted}

module _ {State : Type 0} (same : State → State → Bool) where
  pub parts_same : (a b : Configuration State) → same_configuration same a b ≡ true → (a.lifted ≡ b.lifted) × (same a.state b.state ≡ true)
  parts_same a b e = let h = both_true (pointwise beq a.lifted b.lifted) (same a.state b.state) e in (flags_same a.lifted b.lifted h.0, h.1)

  pub same_parts : (a b : Configuration State) → a.lifted ≡ b.lifted → same a.state b.state ≡ true → same_configuration same a b ≡ true
  same_parts a b e f = rw (e, flags_itself b.lifted, f) refl

  -- what a look-up finds is held, and what it does not find is not
  pub found_held : (k : Configuration State) (es : List (Configuration State × Longest)) (l : Longest) → lookup (same_configuration same k) es ≡ Some l → Holds same es k.lifted k.state
  found_held k [] l e = absurd (cc)
  found_held k (x ∷ es) l e = by (same_configuration same k x.0) refl e (λ f. found_held k es l f)
    where
      by : (b : Bool) → same_configuration same k x.0 ≡ b → cond b (Some x.1) (lookup (same_configuration same k) es) ≡ Some l → (lookup (same_configuration same k) es ≡ Some l → Holds same es k.lifted k.state) → Holds same (x ∷ es) k.lifted k.state
      by true f e rest = inl (parts_same k x.0 f)
      by false f e rest = inr (rest e)

  pub held_found : (k : Configuration State) (es : List (Configuration State × Longest)) → Holds same es k.lifted k.state → lookup (same_configuration same k) es ≡ None → ⊥
  held_found k [] h e = h
  held_found k (x ∷ es) h e = by (same_configuration same k x.0) refl e (λ q f. held_found k es q f)
    where
      by : (b : Bool) → same_configuration same k x.0 ≡ b → cond b (Some x.1) (lookup (same_configuration same k) es) ≡ None → (Holds same es k.lifted k.state → lookup (same_configuration same k) es ≡ None → ⊥) → ⊥
      by true f e rest = cc
      by false f e rest = elim h [ inl q ↦ (let g = same_parts k x.0 q.0 q.1 in cc) | inr q ↦ rest q e ]

  module _ (equal : IsEquivalence same) where
    pub apart_more : (es : List (Configuration State × Longest)) (e : Configuration State × Longest) → AllApart same (configurations es) → (Holds same es e.0.lifted e.0.state → ⊥) → AllApart same (configurations (es ++ e ∷ []))
    apart_more [] e apart fresh = (λ h. h, tt)
    apart_more (x ∷ es) e apart fresh = (
      λ h. elim (held_split same es e x.0.lifted x.0.state h) [ inl q ↦ apart.0 q | inr q ↦ fresh (inl (sym q.0, equal.symm e.0.state x.0.state ∙ q.1)) ],
      apart_more es e apart.1 (λ h. fresh (inr h)),
    )

none_of : {X : Type 0} (o : Option X) → is_some o ≡ false → o ≡ None
none_of None e = refl
none_of (Some x) e = absurd (cc)

some_is : {X : Type 0} (o : Option X) → is_some o ≡ true → (x : X) × (o ≡ Some x)
some_is None e = absurd (cc)
some_is (Some x) e = (x, refl)

module _ {State : Type 0} (same : State → State → Bool) (k : Configuration State) (es : List (Configuration State × Longest)) where
  pub held_if : is_some (lookup (same_configuration same k) es) ≡ true → Holds same es k.lifted k.state
  held_if e = let q = some_is (lookup (same_configuration same k) es) e in found_held same k es q.0 q.1

  pub not_held_if : is_some (lookup (same_configuration same k) es) ≡ false → Holds same es k.lifted k.state → ⊥
  not_held_if e h = held_found same k es h (none_of (lookup (same_configuration same k) es) e)

  pub if_held : Holds same es k.lifted k.state → is_some (lookup (same_configuration same k) es) ≡ true
  if_held h = by (is_some (lookup (same_configuration same k) es)) refl
    where
      by : (b : Bool) → is_some (lookup (same_configuration same k) es) ≡ b → is_some (lookup (same_configuration same k) es) ≡ true
      by true e = e
      by false e = absurd (held_found same k es h (none_of (lookup (same_configuration same k) es) e))

  pub inserted : (l : Longest) → is_some (lookup (same_configuration same k) es) ≡ false → insert_entry (same_configuration same) es k l ≡ es ++ (k, l) ∷ []
  inserted l e = insert_entry-absent (same_configuration same) k l es (absent_from_lookup (same_configuration same k) es (none_of (lookup (same_configuration same k) es) e))

-- what the longest lists tell is one
longest_one : (P : List ℕ → Type 0) (m n : ℕ) (f h : Option ℕ) → IsLongest P m f → IsLongest P n h → (m ≡ n) × (f ≡ h)
longest_one P m n f h a b = (same, firsts f h refl refl)
  where
    same : m ≡ n
    same =
        let q = a.greatest b.there.0 b.there.1 in
        let r = b.greatest a.there.0 a.there.1 in
        omega (arith, q, r, a.there.2, b.there.2)

    empty : (l : List ℕ) → first_of l ≡ None → length l ≡ 0
    empty [] e = refl
    empty (c ∷ cs) e = absurd (cc)

    full : (l : List ℕ) (c : ℕ) → first_of l ≡ Some c → length l ≡ 0 → ⊥
    full [] c e k = cc
    full (d ∷ ds) c e k = omega (arith, k)

    firsts : (x y : Option ℕ) → x ≡ f → y ≡ h → f ≡ h
    firsts None None e k = sym e ∙ k
    firsts None (Some d) e k = absurd (full b.there.0 d (b.there.3 ∙ sym k) (let q = empty a.there.0 (a.there.3 ∙ sym e) in omega (arith, q, same, a.there.2, b.there.2)))
    firsts (Some c) None e k = absurd (full a.there.0 c (a.there.3 ∙ sym e) (let q = empty b.there.0 (b.there.3 ∙ sym k) in omega (arith, q, same, a.there.2, b.there.2)))
    firsts (Some c) (Some d) e k =
        let low = a.least b.there.0 b.there.1 (b.there.2 ∙ sym same) c d (sym e) (b.there.3 ∙ sym k) in
        let high = b.least a.there.0 a.there.1 (a.there.2 ∙ same) d c (sym k) (a.there.3 ∙ sym e) in
        let one : c ≡ d = omega (arith, low, high) in
        sym e ∙ (ap (λ (x : ℕ). Some x) one ∙ k)

-- what is told, by its two parts
abbrev told : ℕ → Option ℕ → Longest
told m g = record { more = m; first = g }

same_longest : (a b : Longest) → a.more ≡ b.more → a.first ≡ b.first → a ≡ b
same_longest a b e f = by a.more b.more a.first b.first e f
  where
    by : (m n : ℕ) (g h : Option ℕ) → m ≡ n → g ≡ h → told m g ≡ told n h
    by m n g h e f = rw (e, f) refl

-- a configuration is refuted with one longest
refuted_one : {State Op Reply : Type 0} (p : Problem State Op Reply) (set : List Bool) (s : State) (a b : Longest) → IsRefutedWith p set s a → IsRefutedWith p set s b → a ≡ b
refuted_one p set s a b k h = let q = longest_one (IsContinuation p set s) a.more b.more a.first b.first k.longest_is h.longest_is in same_longest a b q.0 q.1

-- to store again what is stored changes nothing
module _ {State : Type 0} (same : State → State → Bool) (k : Configuration State) where
  inserted_again : (es : List (Configuration State × Longest)) (l : Longest) → lookup (same_configuration same k) es ≡ Some l → insert_entry (same_configuration same) es k l ≡ es
  inserted_again [] l e = absurd (cc)
  inserted_again (x ∷ es) l e = by (same_configuration same k x.0) refl e (λ f. inserted_again es l f)
    where
      by : (b : Bool) → same_configuration same k x.0 ≡ b → cond b (Some x.1) (lookup (same_configuration same k) es) ≡ Some l → (lookup (same_configuration same k) es ≡ Some l → insert_entry (same_configuration same) es k l ≡ es) → insert_entry (same_configuration same) (x ∷ es) k l ≡ x ∷ es
      by true f e rest = let one : x.1 ≡ l = cc in rw (f, ← one) refl
      by false f e rest = rw (f, rest e) refl

module _ {State Op Reply : Type 0} (p : Problem State Op Reply) where
  refuted_more : (es : List (Configuration State × Longest)) (e : Configuration State × Longest) → AllRefuted p es → IsRefutedWith p e.0.lifted e.0.state e.1 → AllRefuted p (es ++ e ∷ [])
  refuted_more [] e all r = (r, tt)
  refuted_more (x ∷ es) e all r = (all.0, refuted_more es e all.1 r)

  pub store_more : IsEquivalence p.same_state → (es : List (Configuration State × Longest)) (e : Configuration State × Longest) → IsStore p es → IsRefutedWith p e.0.lifted e.0.state e.1 → (Holds p.same_state es e.0.lifted e.0.state → ⊥) → IsStore p (es ++ e ∷ [])
  store_more equal es e k r fresh = record { refuted = refuted_more es e k.refuted r; apart = apart_more p.same_state equal es e k.apart fresh }

  pub store_added : IsEquivalence p.same_state → (es new : List (Configuration State × Longest)) (e : Configuration State × Longest) → new ≡ es ++ e ∷ [] → IsStore p es → IsRefutedWith p e.0.lifted e.0.state e.1 → (Holds p.same_state es e.0.lifted e.0.state → ⊥) → IsStore p new
  store_added equal es new e eq k r fresh = rw eq (store_more equal es e k r fresh)

  pub store_kept : (es new : List (Configuration State × Longest)) → new ≡ es → IsStore p es → IsStore p new
  store_kept es new eq k = rw eq k

  -- what a look-up finds is an entry of an equal configuration
  pub found_pair : (k : Configuration State) (es : List (Configuration State × Longest)) (l : Longest) → AllRefuted p es → lookup (same_configuration p.same_state k) es ≡ Some l → (s : State) × (p.same_state k.state s ≡ true) × IsRefutedWith p k.lifted s l
  found_pair k [] l all e = absurd (cc)
  found_pair k (x ∷ es) l all e = by (same_configuration p.same_state k x.0) refl e (λ f. found_pair k es l all.1 f)
    where
      by : (b : Bool) → same_configuration p.same_state k x.0 ≡ b → cond b (Some x.1) (lookup (same_configuration p.same_state k) es) ≡ Some l → (lookup (same_configuration p.same_state k) es ≡ Some l → (s : State) × (p.same_state k.state s ≡ true) × IsRefutedWith p k.lifted s l) → (s : State) × (p.same_state k.state s ≡ true) × IsRefutedWith p k.lifted s l
      by true f e rest =
          let q = parts_same p.same_state k x.0 f in
          let same : x.1 ≡ l = cc in
          (x.0.state, q.1, rw (q.0) (subst (λ (m : Longest). IsRefutedWith p x.0.lifted x.0.state m) same all.0))
      by false f e rest = rest e

pub some_by : {X : Type 0} (o n : Option X) (B : Type 0) → o ≡ n → (is_some n ≡ true → B) → (B → is_some n ≡ true) → IsSome o ↔ B
some_by o n B e to from = (λ h. to (ap is_some (sym e) ∙ h), λ h. ap is_some e ∙ from h)

module _ {State Op Reply : Type 0} {p q : Problem State Op Reply} (alike : AreAlike p q) where
  pub found_refuted : (k : Configuration State) (es : List (Configuration State × Longest)) → AllRefuted p es → (o : Option Longest) → o ≡ lookup (same_configuration p.same_state k) es → IfSome o (λ (l : Longest). IsRefutedWith q k.lifted k.state l)
  found_refuted k es all None e = tt
  found_refuted k es all (Some l) e =
      let f = found_pair p k es l all (sym e) in
      alike_refuted alike k.lifted f.0 k.state l (alike.equal_states.symm f.0 k.state ∙ f.1) f.2

module _ {State : Type 0} (same : State → State → Bool) (equal : IsEquivalence same) (ours : Type 0) (old new : List (Configuration State × Longest)) (config : Configuration State) (longest : Longest) where
  -- what an exact answer of a store says to a search
  pub noted_held : (n : Noted) → IsNoted same ours old new config longest n → IsKept n → Holds same new config.lifted config.state
  noted_held New k h = rw k.2 (held_last same old (config, longest) config.lifted config.state refl (equal.refl config.state))
  noted_held Known k h = rw k.2 (k.1)
  noted_held Busy k h = absurd k
  noted_held NoRoom k h = absurd h
  noted_held Stranger k h = absurd h

  pub noted_only : (n : Noted) → IsNoted same ours old new config longest n → (set : List Bool) (s : State) → Holds same new set s → Holds same old set s ⊎ ((n ≡ New) × (set ≡ config.lifted) × (same s config.state ≡ true))
  noted_only New k set s h = elim (held_split same old (config, longest) set s (rw k.2 at h)) [ inl q ↦ inl q | inr q ↦ inr (refl, q.0, q.1) ]
  noted_only Known k set s h = inl (rw k.2 at h)
  noted_only Busy k set s h = absurd k
  noted_only NoRoom k set s h = inl (rw k.2 at h)
  noted_only Stranger k set s h = inl (rw k.1 at h)

-- An answer to one whose problem is known to be the store's.
pub noted_ours : {State : Type 0} (same : State → State → Bool) (ours : Type 0) (old new : List (Configuration State × Longest)) (config : Configuration State) (longest : Longest) (n : Noted) → ours → IsNoted same (Unit {0}) old new config longest n → IsNoted same ours old new config longest n
noted_ours same ours old new config longest New o k = (o, k.1, k.2)
noted_ours same ours old new config longest Known o k = (o, k.1, k.2)
noted_ours same ours old new config longest NoRoom o k = (o, k.1, k.2)
noted_ours same ours old new config longest Stranger o k = absurd (k.0 tt)
noted_ours same ours old new config longest Busy o k = absurd k

module _ {State Op Reply : Type 0} {p : Problem State Op Reply} (alike : AreAlike p p) where
  -- a refuted configuration that is stored is stored with its longest
  pub stored_again : (k : Configuration State) (es : List (Configuration State × Longest)) (o : Option Longest) (l m : Longest) → AllRefuted p es → IsRefutedWith p k.lifted k.state l → o ≡ lookup (same_configuration p.same_state k) es → o ≡ Some m → insert_entry (same_configuration p.same_state) es k l ≡ es
  stored_again k es o l m all r there e =
      let stored = sym there ∙ e in
      let one = refuted_one p k.lifted k.state m l (found_refuted alike k es all (Some m) (sym stored)) r in
      inserted_again p.same_state k es l (stored ∙ ap (λ (x : Longest). Some x) one)
