-- Real time by the greatest call event so far.
use Rattle.std.proofs.Common.{◌≡◌, ℕ, ◌<◌, ◌≤◌, max, List, [], ◌∷◌, Option, Some, None, ◌⊎◌, inl, inr, refl, sym, subst, arith}
use Rattle.std.specs.Prelude.{IsSomeAnd}
use Rattle.std.specs.List.{slice_get}
use Rattle.std.specs.Option.{option_map_or}
use Rattle.std.proofs.lemmas.Bool.Decides.{leb_tells}
use Rattle.lin_history.specs.declared.locality.placed.Placed.{Placed}
use Rattle.lin_history.specs.Recorder.Events.{Call}
use Rattle.lin_history.specs.Locality.Whole.{Whole, Precedes, Has, KeepsOrder}
use Rattle.lin_history.specs.Locality.JoinedOrder.{called_at}
use Rattle.lin_history.specs.OptionLemmas.{some_more}

some_none : {A : Type 0} (o : Option A) (P : A → Type 0) → ((x : A) → P x → ⊥) → IsSomeAnd o P → ⊥
some_none None P f p = p
some_none (Some x) P f p = f x p

some_either : {A : Type 0} (o : Option A) (P Q R : A → Type 0) → ((x : A) → P x → Q x ⊎ R x) → IsSomeAnd o P → IsSomeAnd o Q ⊎ IsSomeAnd o R
some_either None P Q R f p = absurd p
some_either (Some x) P Q R f p = f x p

below_max : (r m n : ℕ) → r < max m n → (r < m) ⊎ (r < n)
below_max r m n below = elim (leb_tells m n) [ inl up ↦ inr (let e = up.1 in omega (arith, e, below)) | inr down ↦ inl (let e = down.1 in omega (arith, e, below)) ]

module _ {State Op Reply : Type 0} (h : Whole State Op Reply) where
  -- the event of a call that is there
  pub called_is : (a : ℕ) (c : Call Op Reply) → slice_get h.calls a ≡ Some c → called_at h a ≡ c.called
  called_is a c e = rw e refl

  -- Call a returned before the event of this number.
  abbrev pub ReturnsBefore : ℕ → ℕ → Type 0
  ReturnsBefore a n = IsSomeAnd (slice_get h.calls a) (λ c. IsSomeAnd c.returned (λ r. r.0 < n))

  pub before_more : (a m n : ℕ) → m ≤ n → ReturnsBefore a m → ReturnsBefore a n
  before_more a m n up p =
      some_more (slice_get h.calls a) (λ c. IsSomeAnd c.returned (λ r. r.0 < m)) (λ c. IsSomeAnd c.returned (λ r. r.0 < n))
      (λ c q. some_more c.returned (λ r. r.0 < m) (λ r. r.0 < n) (λ r below. omega (arith, below, up)) q) p

  pub before_none : (a : ℕ) → ReturnsBefore a 0 → ⊥
  before_none a p =
      some_none (slice_get h.calls a) (λ c. IsSomeAnd c.returned (λ r. r.0 < 0))
      (λ c q. some_none c.returned (λ r. r.0 < 0) (λ r below. omega (arith, below)) q) p

  pub before_max : (a m n : ℕ) → ReturnsBefore a (max m n) → ReturnsBefore a m ⊎ ReturnsBefore a n
  before_max a m n p =
      some_either (slice_get h.calls a) (λ c. IsSomeAnd c.returned (λ r. r.0 < max m n)) (λ c. IsSomeAnd c.returned (λ r. r.0 < m)) (λ c. IsSomeAnd c.returned (λ r. r.0 < n))
      (λ c q. some_either c.returned (λ r. r.0 < max m n) (λ r. r.0 < m) (λ r. r.0 < n) (λ r below. below_max r.0 m n below) q) p

  called_some : (o : Option (Call Op Reply)) (r : ℕ) → IsSomeAnd o (λ y. r < y.called) → r < option_map_or (λ x. x.called) o 0
  called_some None r p = absurd p
  called_some (Some c) r p = p

  some_called : (o : Option (Call Op Reply)) (r : ℕ) → r < option_map_or (λ x. x.called) o 0 → IsSomeAnd o (λ y. r < y.called)
  some_called None r p = absurd (omega (arith, p))
  some_called (Some c) r p = p

  pub precedes_before : (a b : ℕ) → Precedes h a b → ReturnsBefore a (called_at h b)
  precedes_before a b p =
      some_more (slice_get h.calls a) (λ x. IsSomeAnd x.returned (λ r. IsSomeAnd (slice_get h.calls b) (λ y. r.0 < y.called))) (λ c. IsSomeAnd c.returned (λ r. r.0 < called_at h b))
      (λ c q. some_more c.returned (λ r. IsSomeAnd (slice_get h.calls b) (λ y. r.0 < y.called)) (λ r. r.0 < called_at h b) (λ r below. called_some (slice_get h.calls b) r.0 below) q) p

  pub before_precedes : (a b : ℕ) → ReturnsBefore a (called_at h b) → Precedes h a b
  before_precedes a b p =
      some_more (slice_get h.calls a) (λ c. IsSomeAnd c.returned (λ r. r.0 < called_at h b)) (λ x. IsSomeAnd x.returned (λ r. IsSomeAnd (slice_get h.calls b) (λ y. r.0 < y.called)))
      (λ c q. some_more c.returned (λ r. r.0 < called_at h b) (λ r. IsSomeAnd (slice_get h.calls b) (λ y. r.0 < y.called)) (λ r below. some_called (slice_get h.calls b) r.0 below) q) p

  -- No call of the list returned before the event n, or before the call event of one that comes before it, or its own.
  abbrev pub IsTimely : ℕ → List (Placed Reply) → Type 0
  IsTimely n [] = Unit {0}
  IsTimely n (x ∷ xs) = (ReturnsBefore x.call (max n (called_at h x.call)) → ⊥) × IsTimely (max n (called_at h x.call)) xs

  -- the first part of what a timely list gives
  abbrev NoneBefore : ℕ → List (Placed Reply) → Type 0
  NoneBefore n l = (a : ℕ) → Has h a l → ReturnsBefore a n → ⊥

  -- no call of x and what follows returned before the event m, which is not after the greatest so far
  timely_first : (x : Placed Reply) (xs : List (Placed Reply)) (g m : ℕ) → m ≤ g → (ReturnsBefore x.call g → ⊥) → NoneBefore g xs → NoneBefore m (x ∷ xs)
  timely_first x xs g m up own rest a there p = elim there [
    | inl same ↦ own (subst (λ n. ReturnsBefore n g) (sym same) (before_more a m g up p))
    | inr more ↦ rest a more (before_more a m g up p)
  ]

  pub timely_gives : (n : ℕ) (l : List (Placed Reply)) → IsTimely n l → NoneBefore n l × KeepsOrder h l
  timely_gives n [] t = ((λ a there. absurd there), tt)
  timely_gives n (x ∷ xs) t =
      let r = timely_gives (max n (called_at h x.call)) xs t.1 in (
        timely_first x xs (max n (called_at h x.call)) n (omega arith) t.0 r.0,
        ((λ a there p. timely_first x xs (max n (called_at h x.call)) (called_at h x.call) (omega arith) t.0 r.0 a there (precedes_before a x.call p)), r.1),
      )

  pub gives_timely : (n : ℕ) (l : List (Placed Reply)) → NoneBefore n l → KeepsOrder h l → IsTimely n l
  gives_timely n [] none keeps = tt
  gives_timely n (x ∷ xs) none keeps = (
    (λ p. either x.call (inl refl) p),
    gives_timely (max n (called_at h x.call)) xs (λ a more p. either a (inr more) p) keeps.1,
  )
    where
      either : NoneBefore (max n (called_at h x.call)) (x ∷ xs)
      either a there p = elim (before_max a n (called_at h x.call) p) [
        | inl q ↦ none a there q
        | inr q ↦ keeps.0 a there (before_precedes a x.call q)
      ]
