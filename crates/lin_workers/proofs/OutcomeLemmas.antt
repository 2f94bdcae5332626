-- The outcomes of the tasks, place by place.
use Rattle.std.proofs.Common.{◌≡◌, ℕ, zero, suc, ◌<◌, Option, Some, None, List, [], ◌∷◌, ◌++◌, length, slice_index_or, slice_set, take, ◌⊎◌, inl, inr, refl, ◌∙◌, ap, subst, arith, replicate}
use Rattle.std.specs.Prelude.{Contains, IfSome, slice_get}
use Rattle.std.proofs.lemmas.List.{length-replicate, length-set}
use Rattle.lin_history.specs.Problems.Problem.{Problem}
use Rattle.lin_search.specs.declared.outcome.Outcome.{Outcome}
use Rattle.lin_search.specs.declared.outcome.Outcome.TheVariants.{Found, Refuted, Undecided, Stopped}
use Rattle.lin_search.specs.Answer.{IsAnswer}
use Rattle.lin_board.specs.Facts.{SeatFacts}
use Rattle.lin_workers.specs.Cut.{Task}
use Rattle.lin_workers.specs.Heard.{IsTold}
use Rattle.lin_workers.specs.Values.{IsValue, AreValues}
use Rattle.lin_workers.specs.Outcomes.{WasNotStopped, AreOutcomes, ArePlaced}
use Rattle.lin_workers.proofs.RunLemmas.{some_once}

abbrev nothing : Option Outcome
nothing = None

-- no outcome stands at places that have none
none_there : (n i : ℕ) (o : Outcome) → slice_get (replicate n nothing) i ≡ Some (Some o) → ⊥
none_there zero i o e = absurd (cc)
none_there (suc n) zero o e = absurd (cc)
none_there (suc n) (suc i) o e = none_there n i o e

pub outcomes_none : {State Op Reply : Type 0} (p : Problem State Op Reply) (ts : List (Task State)) (limit : Option ℕ) (outcomes : List (Option Outcome)) → outcomes ≡ replicate (length ts) nothing → AreOutcomes p ts limit outcomes
outcomes_none p ts limit outcomes e = record {
  places = ap length e ∙ length-replicate (length ts) nothing;
  answers = λ i t o at h. absurd (none_there (length ts) i o (subst (λ (os : List (Option Outcome)). slice_get os i ≡ Some (Some o)) e h));
}

-- the value at a place of the values
value_at : {State Op Reply : Type 0} (p : Problem State Op Reply) (ts : List (Task State)) (limit : Option ℕ) (seat : SeatFacts) (vs : List (ℕ × Outcome)) (v : ℕ × Outcome) (k : ℕ) → k < length vs → slice_index_or vs k v ≡ v → AreValues p ts limit seat vs → IsValue p ts limit seat v
value_at p ts limit seat [] v k lt e h = absurd (omega (arith, lt))
value_at p ts limit seat (u ∷ vs) v zero lt e h = subst (λ (w : ℕ × Outcome). IsValue p ts limit seat w) e h.0
value_at p ts limit seat (u ∷ vs) v (suc k) lt e h = value_at p ts limit seat vs v k (omega (arith, lt)) e h.1

module _ {State Op Reply : Type 0} (p : Problem State Op Reply) (limit : Option ℕ) where
  -- the answer of a search that was not stopped needs no stop
  not_stopped : (t : Task State) (tells : ℕ → Type 0) (o : Outcome) → WasNotStopped o → IsAnswer p t.config.lifted t.config.state limit tells o → IsAnswer p t.config.lifted t.config.state limit (λ told. ⊥) o
  not_stopped t tells (Found order) w h = h
  not_stopped t tells (Refuted longest) w h = h
  not_stopped t tells Undecided w h = h
  not_stopped t tells (Stopped told) w h = absurd w

  -- values of tasks put at their places are outcomes of these tasks
  pub outcomes_placed : (ts : List (Task State)) (seat : SeatFacts) (old new : List (Option Outcome)) (vs : List (ℕ × Outcome)) → ArePlaced old vs new → AreValues p ts limit seat vs → AreOutcomes p ts limit old → AreOutcomes p ts limit new
  outcomes_placed ts seat old new vs placed values before = record {
    places = placed.places ∙ before.places;
    answers = λ i t o at h. elim (placed.each i o h) [
      | inl q ↦ before.answers i t o at q
      | inr q ↦ (
          let c = q.0 in
          let v = value_at p ts limit seat vs (i, o) c.0 c.1 c.2 values in
          let same = some_once (slice_get ts i) v.task t v.at at in
          not_stopped t (IsTold i seat) o q.1 (subst (λ (u : Task State). IsAnswer p u.config.lifted u.config.state limit (IsTold i seat) o) same v.answer)
          )
    ];
  }

only : (v w : ℕ × Outcome) (k : ℕ) → k < 1 → slice_index_or (v ∷ []) k w ≡ w → v ≡ w
only v w zero h e = e
only v w (suc k) h e = absurd (omega (arith, h))

-- the outcome of a task's search put at its place
pub outcome_placed : {State Op Reply : Type 0} (p : Problem State Op Reply) (limit : Option ℕ) (ts : List (Task State)) (old new : List (Option Outcome)) (i : ℕ) (t : Task State) (tells : ℕ → Type 0) (o : Outcome) → slice_get ts i ≡ Some t → IsAnswer p t.config.lifted t.config.state limit tells o → ArePlaced old ((i, o) ∷ []) new → AreOutcomes p ts limit old → AreOutcomes p ts limit new
outcome_placed {State} p limit ts old new i t tells o at answer placed before = record {
  places = placed.places ∙ before.places;
  answers = λ j u x there h. elim (placed.each j x h) [
    | inl q ↦ before.answers j u x there q
    | inr q ↦ (let same = only (i, o) (j, x) q.0.0 q.0.1 q.0.2 in put j u x there q.1 (ap (λ (v : ℕ × Outcome). v.0) same) (ap (λ (v : ℕ × Outcome). v.1) same))
  ];
}
  where
    put : (j : ℕ) (u : Task State) (x : Outcome) → slice_get ts j ≡ Some u → WasNotStopped x → i ≡ j → o ≡ x → IsAnswer p u.config.lifted u.config.state limit (λ told. ⊥) x
    put j u x there w e f =
        let same : t ≡ u = some_once (slice_get ts j) t u (subst (λ (k : ℕ). slice_get ts k ≡ Some t) e at) there in
        not_stopped p limit u tells x w (subst (λ (y : Outcome). IsAnswer p u.config.lifted u.config.state limit tells y) f (subst (λ (v : Task State). IsAnswer p v.config.lifted v.config.state limit tells o) same answer))

-- an outcome that is none of a search that was stopped
pub by_not_stopped : (o : Outcome) → ((told : ℕ) → o ≡ Stopped told → ⊥) → WasNotStopped o
by_not_stopped (Found order) h = tt
by_not_stopped (Refuted longest) h = tt
by_not_stopped Undecided h = tt
by_not_stopped (Stopped told) h = h told refl

-- an outcome at a place, where a place was written: it was there, or was written there
written_or_there : (os : List (Option Outcome)) (i j : ℕ) (x : Option Outcome) (o : Outcome) → slice_get (slice_set os i x) j ≡ Some (Some o) → (slice_get os j ≡ Some (Some o)) ⊎ ((j ≡ i) × (x ≡ Some o))
written_or_there [] i j x o h = inl h
written_or_there (y ∷ os) zero zero x o h = inr (refl, cc)
written_or_there (y ∷ os) zero (suc j) x o h = inl h
written_or_there (y ∷ os) (suc i) zero x o h = inl h
written_or_there (y ∷ os) (suc i) (suc j) x o h = elim (written_or_there os i j x o h) [ inl q ↦ inl q | inr q ↦ inr (ap suc q.0, q.1) ]

-- where no outcome was written, it was there
pub none_put : (os : List (Option Outcome)) (i j : ℕ) (o : Outcome) → slice_get (slice_set os i nothing) j ≡ Some (Some o) → slice_get os j ≡ Some (Some o)
none_put os i j o h = elim (written_or_there os i j nothing o h) [ inl q ↦ q | inr q ↦ absurd (let e = q.1 in cc) ]

-- an outcome put at a place
pub placed_at : (os : List (Option Outcome)) (i : ℕ) (o : Outcome) → WasNotStopped o → ArePlaced os ((i, o) ∷ []) (slice_set os i (Some o))
placed_at os i o w = record {
  places = length-set os i (Some o);
  each = λ j u h. elim (written_or_there os i j (Some o) u h) [
    | inl q ↦ inl q
    | inr q ↦ inr (there j u q.0 q.1)
  ];
}
  where
    there : (j : ℕ) (u : Outcome) → j ≡ i → Some o ≡ Some u → Contains {X = ℕ × Outcome} ((i, o) ∷ []) (j, u) × WasNotStopped u
    there j u e f =
        let one : 0 < 1 = omega arith in
        let g : o ≡ u = cc in
        let v : (i, o) ≡ (j, u) = (rw (e, g) refl) in
        ((0, one, v), subst (λ (x : Outcome). WasNotStopped x) g w)

module _ {State Op Reply : Type 0} (p : Problem State Op Reply) (ts : List (Task State)) (limit : Option ℕ) (os : List (Option Outcome)) (outcomes : AreOutcomes p ts limit os) where
  -- what is taken from its place is the answer of the task
  pub outcome_at : (i : ℕ) (t : Task State) (x : Option Outcome) → slice_get ts i ≡ Some t → slice_get os i ≡ Some x → IfSome x (IsAnswer p t.config.lifted t.config.state limit (λ told. ⊥))
  outcome_at i t None at h = tt
  outcome_at i t (Some o) at h = outcomes.answers i t o at h

  -- and what is left are outcomes of the tasks
  pub outcomes_left : (i : ℕ) (x : Option Outcome) → x ≡ nothing → AreOutcomes p ts limit (slice_set os i x)
  outcomes_left i x e = record {
    places = length-set os i x ∙ outcomes.places;
    answers = λ j t o at h. outcomes.answers j t o at (none_put os i j o (subst (λ (y : Option Outcome). slice_get (slice_set os i y) j ≡ Some (Some o)) e h));
  }

-- what was placed is placed among more values
pub placed_more : (a b c : List (Option Outcome)) (all : List (ℕ × Outcome)) (v : ℕ × Outcome) → ArePlaced a all b → Contains all v → ArePlaced b (v ∷ []) c → ArePlaced a all c
placed_more a b c all v first has second = record {
  places = second.places ∙ first.places;
  each = λ i o h. elim (second.each i o h) [
    | inl q ↦ first.each i o q
    | inr q ↦ inr (subst (λ (w : ℕ × Outcome). Contains all w) (only v (i, o) q.0.0 q.0.1 q.0.2) has, q.1)
  ];
}

-- a vector whose items were all written anew
pub written : {X : Type 0} (n : ℕ) (xs zs : List X) → length xs ≡ n → take n (xs ++ zs) ≡ xs
written zero [] zs e = refl
written zero (x ∷ xs) zs e = absurd (omega (arith, e))
written (suc n) [] zs e = absurd (omega (arith, e))
written (suc n) (x ∷ xs) zs e = ap (λ (ys : List _). x ∷ ys) (written n xs zs (omega (arith, e)))

-- what has some has a first
pub has_first : {X : Type 0} (xs : List X) → (xs ≡ [] → ⊥) → 0 < length xs
has_first [] h = absurd (h refl)
has_first (x ∷ xs) h = omega arith
