-- Locality (Herlihy and Wing 1990): one linearization for each object, joined by points, is a linearization of the whole;
-- where an object has none, the whole has none.
use Rattle.std.proofs.Common.{◌≡◌, ℕ, ◌≤◌, ◌==◌, max, Bool, true, false, cond, List, [], ◌∷◌, ◌++◌, Option, Some, None, IsSome, inl, inr, refl, sym, ap, subst, ◌∙◌, eqb-true, eq-eqb, append_assoc, arith}
use Rattle.std.specs.List.{slice_get}
use Rattle.lin_history.specs.declared.locality.placed.Placed.{Placed}
use Rattle.lin_history.specs.Recorder.Events.{Call}
use Rattle.lin_history.specs.Problems.Linearizations.{IsLinearization}
use Rattle.lin_history.specs.Locality.Whole.{Whole, Precedes, HasReturned, Has, AreDistinct, KeepsOrder, Steps, with_state, Replays, Runs, is_call_on, part, IsLinearizationOfWhole, IsLinearizationOfPart}
use Rattle.lin_history.specs.Locality.JoinedOrder.{called_at, point, object_of, point_after, IsJoined}
use Rattle.lin_history.specs.Locality.PartProblem.{part_problem}
use Rattle.lin_history.specs.Locality.PartLemmas.{part_has, has_part, part_of_whole}
use Rattle.lin_history.specs.Locality.OrderLemmas.{part_by_order, order_of, order_by_part}
use Rattle.lin_history.specs.Locality.TimeLemmas.{ReturnsBefore, before_more, before_max, before_none, precedes_before, before_precedes}
use Rattle.lin_history.specs.OptionLemmas.{none_has_none}

module _ {State Op Reply : Type 0} (h : Whole State Op Reply) where
  -- ---- the part of a list

  on_of : (s : State) (c : Call Op Reply) (x : Placed Reply) (m : State) (object : ℕ) → Steps h s c x m → c.object ≡ object → is_call_on h object x.call ≡ true
  on_of s c x m object st e = rw st.call (eq-eqb c.object object e)

  pub part_on : (object : ℕ) (x : Placed Reply) (xs : List (Placed Reply)) → is_call_on h object x.call ≡ true → part h object (x ∷ xs) ≡ x ∷ part h object xs
  part_on object x xs e = rw e refl

  pub part_off : (object : ℕ) (x : Placed Reply) (xs : List (Placed Reply)) → is_call_on h object x.call ≡ false → part h object (x ∷ xs) ≡ part h object xs
  part_off object x xs e = rw e refl

  part_append_by : (object : ℕ) (t : Bool) (x : Placed Reply) (a b c : List (Placed Reply)) → a ≡ b ++ c → cond t (x ∷ a) a ≡ cond t (x ∷ b) b ++ c
  part_append_by object true x a b c e = ap (λ (l : List (Placed Reply)). x ∷ l) e
  part_append_by object false x a b c e = e

  pub part_append : (object : ℕ) (xs ys : List (Placed Reply)) → part h object (xs ++ ys) ≡ part h object xs ++ part h object ys
  part_append object [] ys = refl
  part_append object (x ∷ xs) ys = part_append_by object (is_call_on h object x.call) x (part h object (xs ++ ys)) (part h object xs) (part h object ys) (part_append object xs ys)

  -- ---- the object of a call

  pub on_known : (a : ℕ) (o : Option (Call Op Reply)) → slice_get h.calls a ≡ o → IsSome o → is_call_on h (object_of h a) a ≡ true
  on_known a None e some = absurd (cc)
  on_known a (Some c) e some = rw e (eq-eqb c.object c.object refl)

  object_is : (a : ℕ) (c : Call Op Reply) → slice_get h.calls a ≡ Some c → object_of h a ≡ c.object
  object_is a c e = rw e refl

  pub on_unique : (object a : ℕ) (o : Option (Call Op Reply)) → slice_get h.calls a ≡ o → is_call_on h object a ≡ true → object_of h a ≡ object
  on_unique object a None e on = absurd (let f : false ≡ true = rw e at on in cc)
  on_unique object a (Some c) e on = rw e (eqb-true c.object object (rw e at on))

  -- ---- legal lists

  -- the states of the objects fit the parts of the list
  abbrev RunEach : (ℕ → State) → List (Placed Reply) → Type 0
  RunEach states l = (object : ℕ) → Runs h (states object) (part h object l)

  run_rest : (states : ℕ → State) (x : Placed Reply) (xs : List (Placed Reply)) (c : Call Op Reply) (m : State) → slice_get h.calls x.call ≡ Some c → Runs h m (part h c.object xs)
      → RunEach states (x ∷ xs) → (object : ℕ) (t : Bool) → (c.object == object) ≡ t → Runs h (cond t m (states object)) (part h object xs)
  run_rest states x xs c m there own each object true e =
      let same : c.object ≡ object = eqb-true c.object object e in
      subst (λ (o : ℕ). Runs h m (part h o xs)) same own
  run_rest states x xs c m there own each object false e =
      let off : is_call_on h object x.call ≡ false = rw there e in
      subst (λ (l : List (Placed Reply)). Runs h (states object) l) (part_off object x xs off) (each object)

  pub replays_of_runs : (l : List (Placed Reply)) (states : ℕ → State) → ((a : ℕ) → Has h a l → IsSome (slice_get h.calls a)) → RunEach states l → Replays h states l
  replays_of_runs [] states known each = tt
  replays_of_runs (x ∷ xs) states known each =
      let object = object_of h x.call in
      let on : is_call_on h object x.call ≡ true = on_known x.call (slice_get h.calls x.call) refl (known x.call (inl refl)) in
      let runs : Runs h (states object) (x ∷ part h object xs) = subst (λ (l : List (Placed Reply)). Runs h (states object) l) (part_on object x xs on) (each object) in
      let same : object ≡ runs.0.object = object_is x.call runs.0 runs.2.call in
      let step : Steps h (states runs.0.object) runs.0 x runs.1 = subst (λ (o : ℕ). Steps h (states o) runs.0 x runs.1) same runs.2 in
      let own : Runs h runs.1 (part h runs.0.object xs) = subst (λ (o : ℕ). Runs h runs.1 (part h o xs)) same runs.3 in
      (runs.0, runs.1, step, replays_of_runs xs (with_state h states runs.0.object runs.1) (λ a there. known a (inr there)) (λ o. run_rest states x xs runs.0 runs.1 runs.2.call own each o (runs.0.object == o) refl))

  -- ---- distinct calls

  distinct_rest : (object : ℕ) (x : Placed Reply) (t : Bool) (l : List (Placed Reply)) → AreDistinct h (cond t (x ∷ l) l) → AreDistinct h l
  distinct_rest object x true l d = d.1
  distinct_rest object x false l d = d

  pub distinct_of_parts : (l : List (Placed Reply)) → ((a : ℕ) → Has h a l → IsSome (slice_get h.calls a)) → ((object : ℕ) → AreDistinct h (part h object l)) → AreDistinct h l
  distinct_of_parts [] known each = tt
  distinct_of_parts (x ∷ xs) known each =
      let object = object_of h x.call in
      let on : is_call_on h object x.call ≡ true = on_known x.call (slice_get h.calls x.call) refl (known x.call (inl refl)) in
      let d : AreDistinct h (x ∷ part h object xs) = subst (AreDistinct h) (part_on object x xs on) (each object) in (
        (λ there. d.0 (has_part h object xs x.call on there)),
        distinct_of_parts xs (λ a there. known a (inr there)) (λ o. distinct_rest o x (is_call_on h o x.call) (part h o xs) (each o)),
      )

  -- ---- real time

  -- a call is somewhere in a list that has it
  record StandsIn (a : ℕ) (l : List (Placed Reply)) : Type 0 where
    early : List (Placed Reply)
    placed : Placed Reply
    late : List (Placed Reply)
    is : l ≡ early ++ placed ∷ late
    same : placed.call ≡ a

  stands_in : (a : ℕ) (l : List (Placed Reply)) → Has h a l → StandsIn a l
  stands_in a [] there = absurd there
  stands_in a (x ∷ xs) there = elim there [
    | inl e ↦ record { early = []; placed = x; late = xs; is = refl; same = e }
    | inr more ↦ (let s = stands_in a xs more in record { early = x ∷ s.early; placed = s.placed; late = s.late; is = ap (λ (l : List (Placed Reply)). x ∷ l) s.is; same = s.same })
  ]

  Has_back : (a : ℕ) (xs ys : List (Placed Reply)) → Has h a ys → Has h a (xs ++ ys)
  Has_back a [] ys there = there
  Has_back a (x ∷ xs) ys there = inr (Has_back a xs ys there)

  -- in a list that keeps real time no call returned before the greatest call event of those up to it
  pub not_before_point : (early : List (Placed Reply)) (x : Placed Reply) (late : List (Placed Reply)) → KeepsOrder h (early ++ x ∷ late) → ReturnsBefore h x.call (point h early x.call) → ⊥
  not_before_point [] x late keeps p = elim (before_max h x.call 0 (called_at h x.call) p) [
    | inl q ↦ before_none h x.call q
    | inr q ↦ keeps.0 x.call (inl refl) (before_precedes h x.call x.call q)
  ]
  not_before_point (y ∷ ys) x late keeps p =
      let more : ReturnsBefore h x.call (max (called_at h y.call) (point h ys x.call)) = before_more h x.call (point h (y ∷ ys) x.call) (max (called_at h y.call) (point h ys x.call)) (omega arith) p in
      elim (before_max h x.call (called_at h y.call) (point h ys x.call) more) [
        | inl q ↦ keeps.0 x.call (inr (Has_back x.call ys (x ∷ late) (inl refl))) (before_precedes h x.call y.call q)
        | inr q ↦ not_before_point ys x late keeps.1 q
      ]

  part_split : (object : ℕ) (early : List (Placed Reply)) (x : Placed Reply) (late : List (Placed Reply)) → is_call_on h object x.call ≡ true → part h object (early ++ x ∷ late) ≡ part h object early ++ x ∷ part h object late
  part_split object early x late on = part_append object early (x ∷ late) ∙ ap (λ (l : List (Placed Reply)). part h object early ++ l) (part_on object x late on)

  -- the points of the list never fall
  abbrev pub Rises : List (Placed Reply) → Type 0
  Rises l = (early : List (Placed Reply)) (x : Placed Reply) (mid : List (Placed Reply)) (y : Placed Reply) (late : List (Placed Reply)) → l ≡ early ++ x ∷ (mid ++ y ∷ late) → point_after h early x ≤ point_after h (early ++ x ∷ mid) y

  module _ (l : List (Placed Reply)) (known : (a : ℕ) → Has h a l → IsSome (slice_get h.calls a)) (keeps : (object : ℕ) → KeepsOrder h (part h object l)) where
    -- no call of the list returned before its point
    returns_late : (early : List (Placed Reply)) (x : Placed Reply) (late : List (Placed Reply)) → l ≡ early ++ x ∷ late → ReturnsBefore h x.call (point_after h early x) → ⊥
    returns_late early x late e p =
        let there : Has h x.call l = subst (Has h x.call) (sym e) (Has_back x.call early (x ∷ late) (inl refl)) in
        let object = object_of h x.call in
        let on : is_call_on h object x.call ≡ true = on_known x.call (slice_get h.calls x.call) refl (known x.call there) in
        let split : part h object l ≡ part h object early ++ x ∷ part h object late = ap (part h object) e ∙ part_split object early x late on in
        not_before_point (part h object early) x (part h object late) (subst (KeepsOrder h) split (keeps object)) p

    -- a call does not precede one whose point is not after its own
    not_before : Rises l → (early : List (Placed Reply)) (x : Placed Reply) (xs : List (Placed Reply)) → l ≡ early ++ x ∷ xs → (a : ℕ) → Has h a (x ∷ xs) → Precedes h a x.call → ⊥
    not_before rises early x xs e a there p = elim there [
      | inl same ↦ returns_late early x xs e (before_more h x.call (called_at h x.call) (point_after h early x) (omega arith) (precedes_before h x.call x.call (subst (λ (n : ℕ). Precedes h n x.call) (sym same) p)))
      | inr more ↦ (let s = stands_in a xs more in later s.early s.placed s.late s.is (subst (λ (n : ℕ). Precedes h n x.call) (sym s.same) p))
    ]
      where
        later : (mid : List (Placed Reply)) (y : Placed Reply) (late : List (Placed Reply)) → xs ≡ mid ++ y ∷ late → Precedes h y.call x.call → ⊥
        later mid y late f q =
            let split : l ≡ early ++ x ∷ (mid ++ y ∷ late) = e ∙ ap (λ (r : List (Placed Reply)). early ++ x ∷ r) f in
            let shifted : l ≡ (early ++ x ∷ mid) ++ y ∷ late = split ∙ sym (append_assoc early (x ∷ mid) (y ∷ late)) in
            let up = rises early x mid y late split in
            let first : called_at h x.call ≤ point_after h early x = omega arith in
            returns_late (early ++ x ∷ mid) y late shifted (before_more h y.call (called_at h x.call) (point_after h (early ++ x ∷ mid) y) (omega (arith, up, first)) (precedes_before h y.call x.call q))

    order_from : Rises l → (early rest : List (Placed Reply)) → l ≡ early ++ rest → KeepsOrder h rest
    order_from rises early [] e = tt
    order_from rises early (x ∷ xs) e = (not_before rises early x xs e, order_from rises (early ++ x ∷ []) xs (e ∙ sym (append_assoc early (x ∷ []) xs)))

    pub order_of_parts : Rises l → KeepsOrder h l
    order_of_parts rises = order_from rises [] l refl

  -- ---- both ways

  -- Lists of one object each, joined by points, are a linearization of the whole where each is one of its object.
  pub whole_of_parts : (l : List (Placed Reply)) → ((a : ℕ) → Has h a l → IsSome (slice_get h.calls a)) → Rises l → ((object : ℕ) → IsLinearizationOfPart h object (part h object l)) → IsLinearizationOfWhole h l
  whole_of_parts l known rises each = record {
    distinct = distinct_of_parts l known (λ o. (each o).distinct);
    complete = complete;
    ordered = order_of_parts l known (λ o. (each o).ordered) rises;
    legal = replays_of_runs l h.starts known (λ o. (each o).legal);
  }
    where
      known_of : (a : ℕ) (o : Option (Call Op Reply)) → slice_get h.calls a ≡ o → HasReturned h a → IsSome (slice_get h.calls a)
      known_of a None e done = absurd (rw e at done)
      known_of a (Some c) e done = rw e refl

      complete : (a : ℕ) → HasReturned h a → Has h a l
      complete a done =
          let on = on_known a (slice_get h.calls a) refl (known_of a (slice_get h.calls a) refl done) in
          (part_has h (object_of h a) l a ((each (object_of h a)).complete a done on)).0

module _ {State Op Reply : Type 0} (same_state : State → State → Bool) (h : Whole State Op Reply) where
  nothing : (l : List (Placed Reply)) → ((a : ℕ) → Has h a l → ⊥) → l ≡ []
  nothing [] none = refl
  nothing (x ∷ xs) none = absurd (none x.call (inl refl))

  -- no call of the list is on an object without an order
  none_there : (orders : List (List ℕ)) (object a : ℕ) → slice_get orders object ≡ None → IsSome (slice_get orders (object_of h a)) → is_call_on h object a ≡ true → ⊥
  none_there orders object a none some on =
      let same : object_of h a ≡ object = on_unique h object a (slice_get h.calls a) refl on in
      none_has_none (slice_get orders object) none (subst (λ (n : ℕ). IsSome (slice_get orders n)) same some)

  -- no call of the history is
  none_on : (orders : List (List ℕ)) (object a : ℕ) (o : Option (Call Op Reply)) → slice_get h.calls a ≡ o → ((c : Call Op Reply) → slice_get h.calls a ≡ Some c → IsSome (slice_get orders c.object)) → slice_get orders object ≡ None → is_call_on h object a ≡ true → ⊥
  none_on orders object a None e declared none on = absurd (let g : false ≡ true = rw e at on in cc)
  none_on orders object a (Some c) e declared none on =
      let same : c.object ≡ object = eqb-true c.object object (rw e at on) in
      none_has_none (slice_get orders object) none (subst (λ (n : ℕ). IsSome (slice_get orders n)) same (declared c e))

  -- An order of the whole that joins linearizations of the objects is a linearization of the whole.
  pub joined_is_whole : (orders : List (List ℕ)) (l : List (Placed Reply)) → IsJoined h orders l
      → ((object : ℕ) (order : List ℕ) → slice_get orders object ≡ Some order → IsLinearization (part_problem same_state h object) order)
      → ((a : ℕ) (c : Call Op Reply) → slice_get h.calls a ≡ Some c → IsSome (slice_get orders c.object))
      → IsLinearizationOfWhole h l
  joined_is_whole orders l joined each declared = whole_of_parts h l (λ a there. (joined.known a there).0) joined.sorted (λ object. part_of_order object (slice_get orders object) refl)
    where
      part_of_order : (object : ℕ) (o : Option (List ℕ)) → slice_get orders object ≡ o → IsLinearizationOfPart h object (part h object l)
      part_of_order object (Some order) e = part_by_order same_state h object order (part h object l) (each object order e) (joined.parts object order e)
      part_of_order object None e =
          let empty : part h object l ≡ [] = nothing (part h object l) (λ a there. (let p = part_has h object l a there in none_there orders object a e (joined.known a p.0).1 p.1)) in
          subst (IsLinearizationOfPart h object) (sym empty) (record {
            on = λ a there. absurd there;
            distinct = tt;
            complete = λ a done on. absurd (none_on orders object a (slice_get h.calls a) refl (declared a) e on);
            ordered = tt;
            legal = tt;
          })

  -- Where an object has no linearization, the whole has none.
  pub none_of_whole : (object : ℕ) → ((order : List ℕ) → IsLinearization (part_problem same_state h object) order → ⊥) → (l : List (Placed Reply)) → IsLinearizationOfWhole h l → ⊥
  none_of_whole object none l whole =
      let q = part_of_whole h object l whole in
      let o = order_of same_state h object (part h object l) (h.starts object) q.on q.legal in
      none o.0 (order_by_part same_state h object o.0 (part h object l) q o.1)
