-- The indices of the calls of each object, found by one walk over the calls.
use Rattle.std.proofs.Common.{◌≡◌, ℕ, ◌+◌, ◌<◌, ◌≤◌, List, [], ◌∷◌, ◌++◌, take, drop, length, get_or, Some, inl, inr, refl, sym, subst, ◌∙◌, append-nil, arith}
use Rattle.std.specs.List.{slice_get}
use Rattle.std.proofs.lemmas.Bool.Decides.{eqb_tells}
use Rattle.std.proofs.lemmas.List.{drop_all, take_all, take-append-le}
use Rattle.std.proofs.lemmas.Option.{slice_get-get_or}
use Rattle.lin_history.specs.Recorder.Events.{Call}
use Rattle.lin_history.specs.Locality.JoinedOrder.{indices_from}
use Rattle.lin_history.proofs.ListLemmas.{slice_get-push}
use Rattle.lin_history.proofs.JoinLemmas.PlacementLemmas.{index_pushed, index_kept}

module _ {A : Type 0} where
  -- what holds of each element, and of one that is appended
  pub each_pushed : (P : A → Type 0) (old new : List A) (x : A) → ((i : ℕ) (v : A) → slice_get old i ≡ Some v → P v) → P x → new ≡ old ++ x ∷ [] → (i : ℕ) (v : A) → slice_get new i ≡ Some v → P v
  each_pushed P old new x each last pushed i v there = elim (slice_get-push old x i v (rw pushed at there)) [
    | inl early ↦ each i v early
    | inr at_end ↦ subst P at_end.1 last
  ]

  -- what stands in a list that another of its length was written over
  pub written_over : (n : ℕ) (new rest : List A) → length new ≡ n → take n (new ++ rest) ≡ new
  written_over n new rest count = take-append-le n new rest (omega (arith, count)) ∙ take_all n new (omega (arith, count))

module _ {A Op Reply : Type 0} (items : A → List ℕ) (calls : List (Call Op Reply)) where
  -- the list of each object has its indices below n, so that those from n on are what it lacks
  abbrev pub AreIndicesBelow : ℕ → List A → Type 0
  AreIndicesBelow n lists = (object : ℕ) (v : A) → slice_get lists object ≡ Some v → items v ++ indices_from object n (drop n calls) ≡ indices_from object 0 calls

  pub indices_none : (lists : List A) → ((object : ℕ) (v : A) → slice_get lists object ≡ Some v → items v ≡ []) → AreIndicesBelow 0 lists
  indices_none lists empty object v there = rw (empty object v there) refl

  -- the index of one call more is appended to its object's list
  pub indices_next : (n : ℕ) (c : Call Op Reply) (old new : List A) → slice_get calls n ≡ Some c → c.object < length old
      → ((v w : A) → slice_get old c.object ≡ Some v → slice_get new c.object ≡ Some w → items w ≡ items v ++ n ∷ []) → ((other : ℕ) → (other ≡ c.object → ⊥) → slice_get new other ≡ slice_get old other)
      → AreIndicesBelow n old → AreIndicesBelow (n + 1) new
  indices_next n c old new there within own others below object w is = elim (eqb_tells object c.object) [
    | inl same ↦ (
        let was : slice_get old object ≡ Some (get_or old object w) = slice_get-get_or old object w (let e = same.1 in omega (arith, e, within)) in
        let own_was : slice_get old c.object ≡ Some (get_or old object w) = rw (← same.1) was in
        let own_is : slice_get new c.object ≡ Some w = rw (← same.1) is in
        rw (own (get_or old object w) w own_was own_is) (index_pushed object calls n c (items (get_or old object w)) _ there (sym same.1) (below object (get_or old object w) was)))
    | inr apart ↦ index_kept object calls n c (items w) _ there (λ e. apart.1 (sym e)) (below object w (sym (others object apart.1) ∙ is))
  ]

  pub indices_done : (n : ℕ) (lists : List A) → length calls ≤ n → AreIndicesBelow n lists → (object : ℕ) (v : A) → slice_get lists object ≡ Some v → items v ≡ indices_from object 0 calls
  indices_done n lists over below object v there =
      sym (append-nil (items v)) ∙ subst (λ (rest : List (Call Op Reply)). items v ++ indices_from object n rest ≡ indices_from object 0 calls) (drop_all n calls over) (below object v there)
