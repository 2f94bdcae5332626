-- The calls of one object by their numbers among them, and by their indices in the history.
use Rattle.std.proofs.Common.{◌≡◌, ℕ, zero, suc, ◌+◌, ◌==◌, Bool, true, false, cond, List, [], ◌∷◌, map, filter, Some, refl, ap, ◌∙◌, arith}
use Rattle.std.specs.List.{slice_get}
use Rattle.lin_history.specs.declared.problems.problem.ProblemCall.{ProblemCall}
use Rattle.lin_history.specs.Recorder.Events.{Call}
use Rattle.lin_history.specs.Recorder.Parts.{problem_call}
use Rattle.lin_history.specs.Locality.JoinedOrder.{indices_from}

module _ {Op Reply : Type 0} (object : ℕ) where
  -- The calls on the object, as the calls of its problem.
  abbrev pub calls_of_part : List (Call Op Reply) → List (ProblemCall Op Reply)
  calls_of_part calls = map problem_call (filter (λ c. c.object == object) calls)

  -- The number k of the part stands for the call c, which has index a where the first of these calls has index n.
  pub record IsAt (n : ℕ) (calls : List (Call Op Reply)) (k a : ℕ) (c : Call Op Reply) : Type 0 where
    pub place : ℕ
    pub index : a ≡ n + place
    pub whole : slice_get calls place ≡ Some c
    pub on : (c.object == object) ≡ true
    pub part : slice_get (calls_of_part calls) k ≡ Some (problem_call c)

  later : (n : ℕ) (x : Call Op Reply) (xs : List (Call Op Reply)) (k a : ℕ) (c : Call Op Reply) → (x.object == object) ≡ false → IsAt (n + 1) xs k a c → IsAt n (x ∷ xs) k a c
  later n x xs k a c e h = record {
    place = suc h.place;
    index = (let f = h.index in omega (arith, f));
    whole = h.whole;
    on = h.on;
    part = rw e h.part;
  }

  later_on : (n : ℕ) (x : Call Op Reply) (xs : List (Call Op Reply)) (k a : ℕ) (c : Call Op Reply) → (x.object == object) ≡ true → IsAt (n + 1) xs k a c → IsAt n (x ∷ xs) (suc k) a c
  later_on n x xs k a c e h = record {
    place = suc h.place;
    index = (let f = h.index in omega (arith, f));
    whole = h.whole;
    on = h.on;
    part = rw e h.part;
  }

  first_on : (n : ℕ) (x : Call Op Reply) (xs : List (Call Op Reply)) (a : ℕ) → (x.object == object) ≡ true → n ≡ a → IsAt n (x ∷ xs) 0 a x
  first_on n x xs a e same = record {
    place = 0;
    index = omega (arith, same);
    whole = refl;
    on = e;
    part = rw e refl;
  }

  -- the call that a number of the part stands for
  pub at_number : (n : ℕ) (calls : List (Call Op Reply)) (k a : ℕ) → slice_get (indices_from object n calls) k ≡ Some a → (c : Call Op Reply) × IsAt n calls k a c
  at_number n [] k a e = absurd (cc)
  at_number n (x ∷ xs) k a e = by_test (x.object == object) refl k (at_number (n + 1) xs) e
    where
      by_test : (t : Bool) → (x.object == object) ≡ t → (k : ℕ) → ((k a : ℕ) → slice_get (indices_from object (n + 1) xs) k ≡ Some a → (c : Call Op Reply) × IsAt (n + 1) xs k a c)
          → slice_get (cond t (n ∷ indices_from object (n + 1) xs) (indices_from object (n + 1) xs)) k ≡ Some a → (c : Call Op Reply) × IsAt n (x ∷ xs) k a c
      by_test true t zero ih e = (x, first_on n x xs a t (cc))
      by_test true t (suc k) ih e = let r = ih k a e in (r.0, later_on n x xs k a r.0 t r.1)
      by_test false t k ih e = let r = ih k a e in (r.0, later n x xs k a r.0 t r.1)

  -- the number of a call on the object
  pub number_at : (n : ℕ) (calls : List (Call Op Reply)) (i : ℕ) (c : Call Op Reply) → slice_get calls i ≡ Some c → (c.object == object) ≡ true → (k : ℕ) × (slice_get (indices_from object n calls) k ≡ Some (n + i))
  number_at n [] i c e on = absurd (cc)
  number_at n (x ∷ xs) zero c e on =
      let same : x ≡ c = cc in
      let here : (x.object == object) ≡ true = rw same on in
      (0, rw here (let z : n ≡ n + 0 = omega arith in ap Some z))
  number_at n (x ∷ xs) (suc i) c e on = by_test (x.object == object) refl (number_at (n + 1) xs i c e on)
    where
      shift : (n + 1) + i ≡ n + suc i
      shift = omega arith

      by_test : (t : Bool) → (x.object == object) ≡ t → (k : ℕ) × (slice_get (indices_from object (n + 1) xs) k ≡ Some ((n + 1) + i)) → (k : ℕ) × (slice_get (cond (x.object == object) (n ∷ indices_from object (n + 1) xs) (indices_from object (n + 1) xs)) k ≡ Some (n + suc i))
      by_test true t ih = (suc ih.0, rw t (ih.1 ∙ ap Some shift))
      by_test false t ih = (ih.0, rw t (ih.1 ∙ ap Some shift))

  -- each call of the part has an index
  pub index_at : (n : ℕ) (calls : List (Call Op Reply)) (k : ℕ) (d : ProblemCall Op Reply) → slice_get (calls_of_part calls) k ≡ Some d → (a : ℕ) × (slice_get (indices_from object n calls) k ≡ Some a)
  index_at n [] k d e = absurd (cc)
  index_at n (x ∷ xs) k d e = by_test (x.object == object) refl k (index_at (n + 1) xs) e
    where
      by_test : (t : Bool) → (x.object == object) ≡ t → (k : ℕ) → ((k : ℕ) (d : ProblemCall Op Reply) → slice_get (calls_of_part xs) k ≡ Some d → (a : ℕ) × (slice_get (indices_from object (n + 1) xs) k ≡ Some a))
          → slice_get (map problem_call (cond t (x ∷ filter (λ c. c.object == object) xs) (filter (λ c. c.object == object) xs))) k ≡ Some d
          → (a : ℕ) × (slice_get (cond (x.object == object) (n ∷ indices_from object (n + 1) xs) (indices_from object (n + 1) xs)) k ≡ Some a)
      by_test true t zero ih e = (n, rw t refl)
      by_test true t (suc k) ih e = let r = ih k d e in (r.0, rw t r.1)
      by_test false t k ih e = let r = ih k d e in (r.0, rw t r.1)

  -- two numbers of the part do not stand for one call
  pub one_number : (n : ℕ) (calls : List (Call Op Reply)) (j k a : ℕ) → slice_get (indices_from object n calls) j ≡ Some a → slice_get (indices_from object n calls) k ≡ Some a → j ≡ k
  one_number n [] j k a e f = absurd (cc)
  one_number n (x ∷ xs) j k a e f = by_test (x.object == object) j k (one_number (n + 1) xs) e f
    where
      not_first : (k : ℕ) → slice_get (indices_from object (n + 1) xs) k ≡ Some a → n ≡ a → ⊥
      not_first k e same = let r = (at_number (n + 1) xs k a e).1.index in omega (arith, r, same)

      by_test : (t : Bool) (j k : ℕ) → ((j k a : ℕ) → slice_get (indices_from object (n + 1) xs) j ≡ Some a → slice_get (indices_from object (n + 1) xs) k ≡ Some a → j ≡ k)
          → slice_get (cond t (n ∷ indices_from object (n + 1) xs) (indices_from object (n + 1) xs)) j ≡ Some a → slice_get (cond t (n ∷ indices_from object (n + 1) xs) (indices_from object (n + 1) xs)) k ≡ Some a → j ≡ k
      by_test true zero zero ih e f = refl
      by_test true zero (suc k) ih e f = absurd (not_first k f (cc))
      by_test true (suc j) zero ih e f = absurd (not_first j e (cc))
      by_test true (suc j) (suc k) ih e f = ap suc (ih j k a e f)
      by_test false j k ih e f = ih j k a e f
