-- The part of a linearization of the whole on one object, and what is legal on one object alone.
use Rattle.std.proofs.Common.{◌≡◌, ℕ, ◌==◌, Bool, true, false, cond, List, [], ◌∷◌, inl, inr, refl, subst, eqb-true}
use Rattle.lin_history.specs.declared.locality.placed.Placed.{Placed}
use Rattle.lin_history.specs.Recorder.Events.{Call}
use Rattle.lin_history.specs.Locality.Whole.{Whole, is_call_on, Has, AreDistinct, KeepsOrder, Steps, with_state, Replays, Runs, IsLinearizationOfWhole, IsLinearizationOfPart, part}

module _ {State Op Reply : Type 0} (h : Whole State Op Reply) (object : ℕ) where
  -- what the part has, the whole has, and it is on the object
  has_both : (x : Placed Reply) (xs : List (Placed Reply)) (t : Bool) (a : ℕ) → is_call_on h object x.call ≡ t
      → Has h a (cond t (x ∷ part h object xs) (part h object xs)) → (Has h a (part h object xs) → Has h a xs × (is_call_on h object a ≡ true)) → Has h a (x ∷ xs) × (is_call_on h object a ≡ true)
  has_both x xs true a e (inl same) ih = (inl same, subst (λ n. is_call_on h object n ≡ true) same e)
  has_both x xs true a e (inr more) ih = (inr (ih more).0, (ih more).1)
  has_both x xs false a e more ih = (inr (ih more).0, (ih more).1)

  pub part_has : (l : List (Placed Reply)) (a : ℕ) → Has h a (part h object l) → Has h a l × (is_call_on h object a ≡ true)
  part_has [] a p = absurd p
  part_has (x ∷ xs) a p = has_both x xs (is_call_on h object x.call) a refl p (part_has xs a)

  has_one : (x : Placed Reply) (xs : List (Placed Reply)) (t : Bool) (a : ℕ) → is_call_on h object x.call ≡ t → is_call_on h object a ≡ true
      → Has h a (x ∷ xs) → (Has h a xs → Has h a (part h object xs)) → Has h a (cond t (x ∷ part h object xs) (part h object xs))
  has_one x xs true a e on (inl same) ih = inl same
  has_one x xs true a e on (inr more) ih = inr (ih more)
  has_one x xs false a e on (inl same) ih = let both : is_call_on h object a ≡ false = subst (λ n. is_call_on h object n ≡ false) same e in cc
  has_one x xs false a e on (inr more) ih = ih more

  pub has_part : (l : List (Placed Reply)) (a : ℕ) → is_call_on h object a ≡ true → Has h a l → Has h a (part h object l)
  has_part [] a on p = absurd p
  has_part (x ∷ xs) a on p = has_one x xs (is_call_on h object x.call) a refl on p (has_part xs a on)

  keep_distinct : (x : Placed Reply) (xs : List (Placed Reply)) (t : Bool) → AreDistinct h (x ∷ xs) → AreDistinct h (part h object xs)
      → AreDistinct h (cond t (x ∷ part h object xs) (part h object xs))
  keep_distinct x xs true d rest = ((λ p. d.0 (part_has xs x.call p).0), rest)
  keep_distinct x xs false d rest = rest

  pub part_distinct : (l : List (Placed Reply)) → AreDistinct h l → AreDistinct h (part h object l)
  part_distinct [] d = tt
  part_distinct (x ∷ xs) d = keep_distinct x xs (is_call_on h object x.call) d (part_distinct xs d.1)

  in_part : (x : Placed Reply) (xs : List (Placed Reply)) (a : ℕ) → Has h a (x ∷ part h object xs) → Has h a (x ∷ xs)
  in_part x xs a (inl same) = inl same
  in_part x xs a (inr more) = inr (part_has xs a more).0

  keep_order : (x : Placed Reply) (xs : List (Placed Reply)) (t : Bool) → KeepsOrder h (x ∷ xs) → KeepsOrder h (part h object xs)
      → KeepsOrder h (cond t (x ∷ part h object xs) (part h object xs))
  keep_order x xs true k rest = ((λ a p. k.0 a (in_part x xs a p)), rest)
  keep_order x xs false k rest = rest

  pub part_order : (l : List (Placed Reply)) → KeepsOrder h l → KeepsOrder h (part h object l)
  part_order [] k = tt
  part_order (x ∷ xs) k = keep_order x xs (is_call_on h object x.call) k (part_order xs k.1)

  -- the object of a placed call decides whether the call is on the object
  on_is : (s : State) (c : Call Op Reply) (x : Placed Reply) (m : State) → Steps h s c x m → is_call_on h object x.call ≡ (c.object == object)
  on_is s c x m st = rw st.call refl

  run_step : (states : ℕ → State) (x : Placed Reply) (xs : List (Placed Reply)) (c : Call Op Reply) (m : State) (t : Bool) → (c.object == object) ≡ t
      → Steps h (states c.object) c x m → Runs h (cond t m (states object)) (part h object xs)
      → Runs h (states object) (cond t (x ∷ part h object xs) (part h object xs))
  run_step states x xs c m true e st rest =
      let same : c.object ≡ object = eqb-true c.object object e in
      (c, m, subst (λ n. Steps h (states n) c x m) same st, rest)
  run_step states x xs c m false e st rest = rest

  pub part_runs : (l : List (Placed Reply)) (states : ℕ → State) → Replays h states l → Runs h (states object) (part h object l)
  part_runs [] states r = tt
  part_runs (x ∷ xs) states r =
      rw (on_is (states r.0.object) r.0 x r.1 r.2)
      (run_step states x xs r.0 r.1 (r.0.object == object) refl r.2 (part_runs xs (with_state h states r.0.object r.1) r.3))

  -- The part of a linearization of the whole is a linearization of the part.
  pub part_of_whole : (l : List (Placed Reply)) → IsLinearizationOfWhole h l → IsLinearizationOfPart h object (part h object l)
  part_of_whole l w = record {
    on = λ a p. (part_has l a p).1;
    distinct = part_distinct l w.distinct;
    complete = λ a done on. has_part l a on (w.complete a done);
    ordered = part_order l w.ordered;
    legal = part_runs l h.starts w.legal;
  }
