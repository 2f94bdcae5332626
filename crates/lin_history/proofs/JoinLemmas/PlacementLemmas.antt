-- One call more of an order is placed.
use Rattle.std.proofs.Common.{◌≡◌, ℕ, zero, suc, ◌+◌, ◌<◌, ◌≤◌, ◌==◌, Bool, true, false, cond, List, [], ◌∷◌, ◌++◌, drop, length, get_or, drop-cons, Option, Some, None, refl, ap, subst, ◌∙◌, append_assoc, append-nil, add-one, eqb-true, eq-eqb, arith}
use Rattle.std.specs.List.{slice_get}
use Rattle.std.proofs.lemmas.Option.{slice_get_within, get_or_from_slice_get, same_Some}
use Rattle.lin_history.specs.declared.locality.placed.Placed.{Placed}
use Rattle.lin_history.specs.declared.problems.problem.ProblemCall.{ProblemCall}
use Rattle.lin_history.specs.Recorder.Events.{Call}
use Rattle.lin_history.specs.Problems.Problem.{Problem}
use Rattle.lin_history.specs.Problems.LegalLists.{fits, state_if_fits, after_call, next, Legal}
use Rattle.lin_history.specs.Locality.Whole.{Whole, Steps}
use Rattle.lin_history.specs.Locality.JoinedOrder.{indices_from, index_of, Places}
use Rattle.lin_history.specs.Locality.PlaceLemmas.{at_number, index_at}
use Rattle.lin_history.specs.Locality.PartProblem.{part_problem}
use Rattle.lin_history.proofs.ListLemmas.{drop_at}

drop_nil : (i : ℕ) → drop {A = ℕ} i [] ≡ []
drop_nil zero = refl
drop_nil (suc i) = refl

drop_over : (xs : List ℕ) (i : ℕ) → length xs ≤ i → drop i xs ≡ []
drop_over [] i h = drop_nil i
drop_over (x ∷ xs) zero h = absurd (omega arith)
drop_over (x ∷ xs) (suc i) h = drop_over xs i (omega arith)

module _ {State Op Reply : Type 0} (p : Problem State Op Reply) where
  -- the call, its reply and its state, where a number has a next state
  pub record HasStep (s : State) (k : ℕ) (m : State) : Type 0 where
    pub call : ProblemCall Op Reply
    pub reply : Reply
    pub there : slice_get p.calls k ≡ Some call
    pub step : p.after s call.process call.op ≡ Some (m, reply)
    pub recorded : fits p.same_reply reply call.returned ≡ true

  if_fits : (t : Bool) (x m : State) → (cond t (Some x) None) ≡ Some m → (t ≡ true) × (x ≡ m)
  if_fits true x m e = (refl, cc)
  if_fits false x m e = absurd (cc)

  answered : (s m : State) (k : ℕ) (c : ProblemCall Op Reply) (o : Option (State × Reply)) → slice_get p.calls k ≡ Some c → p.after s c.process c.op ≡ o → state_if_fits p.same_reply c.returned o ≡ Some m → HasStep s k m
  answered s m k c None there e f = absurd (cc)
  answered s m k c (Some a) there e f =
      let r = if_fits (fits p.same_reply a.1 c.returned) a.0 m f in
      record { call = c; reply = a.1; there = there; step = e ∙ ap (λ (x : State). Some (x, a.1)) r.1; recorded = r.0 }

  called : (s m : State) (k : ℕ) (o : Option (ProblemCall Op Reply)) → slice_get p.calls k ≡ o → after_call p s o ≡ Some m → HasStep s k m
  called s m k None there e = absurd (cc)
  called s m k (Some c) there e = answered s m k c (p.after s c.process c.op) there refl e

  pub has_step : (s m : State) (k : ℕ) → next p s k ≡ Some m → HasStep s k m
  has_step s m k e = called s m k (slice_get p.calls k) refl e

module _ {State Op Reply : Type 0} (same_state : State → State → Bool) (h : Whole State Op Reply) (object : ℕ) where
  -- the index of the call, and the call there, where a number has a next state
  pub record IsFound (s : State) (k : ℕ) (m : State) : Type 0 where
    pub index : ℕ
    pub is_index : index_of h object k ≡ Some index
    pub call : Call Op Reply
    pub there : slice_get h.calls index ≡ Some call
    pub reply : Reply
    pub step : h.after s call.process call.op ≡ Some (m, reply)
    pub recorded : fits h.same_reply reply call.returned ≡ true

  at_index : (a place : ℕ) (c : Call Op Reply) → a ≡ 0 + place → slice_get h.calls place ≡ Some c → slice_get h.calls a ≡ Some c
  at_index a place c e there = let same : a ≡ place = omega (arith, e) in rw same there

  pub found : (s m : State) (k : ℕ) → next (part_problem same_state h object) s k ≡ Some m → IsFound s k m
  found s m k e =
      let st = has_step (part_problem same_state h object) s m k e in
      let a = index_at object 0 h.calls k st.call st.there in
      let i = at_number object 0 h.calls k a.0 a.1 in
      let whole : slice_get h.calls a.0 ≡ Some i.0 = at_index a.0 i.1.place i.0 i.1.index i.1.whole in
      let process : i.0.process ≡ st.call.process = (let f = st.there in let g = i.1.part in cc) in
      let op : i.0.op ≡ st.call.op = (let f = st.there in let g = i.1.part in cc) in
      let returned : i.0.returned ≡ st.call.returned = (let f = st.there in let g = i.1.part in cc) in
      record {
        index = a.0;
        is_index = a.1;
        call = i.0;
        there = whole;
        reply = st.reply;
        step = rw (process, op) st.step;
        recorded = rw returned st.recorded;
      }

  pub steps_of : (s m : State) (k : ℕ) (f : IsFound s k m) → Steps h s f.call (record { call = f.index; reply = f.reply }) m
  steps_of s m k f = record { call = f.there; step = f.step; recorded = f.recorded }

  -- the rest of an order, placed from a state, makes the whole order placed
  pub record IsPlacing (start : State) (order : List ℕ) (front : List (Placed Reply)) (s : State) (rest : List ℕ) : Type 0 where
    pub ends : (t : State) × Legal (part_problem same_state h object) s rest t
    pub places : (l : List (Placed Reply)) → Places h object s rest l → Places h object start order (front ++ l)

  pub placing_none : (start : State) (order : List ℕ) → ((t : State) × Legal (part_problem same_state h object) start order t) → IsPlacing start order [] start order
  placing_none start order ends = record { ends = ends; places = λ l p. p }

  placing_head : (start : State) (order : List ℕ) (front : List (Placed Reply)) (s m : State) (k : ℕ) (rest : List ℕ) (f : IsFound s k m) → ((t : State) × Legal (part_problem same_state h object) m rest t)
      → IsPlacing start order front s (k ∷ rest) → IsPlacing start order (front ++ (record { call = f.index; reply = f.reply }) ∷ []) m rest
  placing_head start order front s m k rest f ends p = record {
    ends = ends;
    places = λ l q. rw append_assoc (p.places ((record { call = f.index; reply = f.reply }) ∷ l) (f.is_index, (f.call, m, steps_of s m k f, q)));
  }

  pub placing_all : (start : State) (order : List ℕ) (front : List (Placed Reply)) (s : State) → IsPlacing start order front s [] → Places h object start order front
  placing_all start order front s p = rw (append-nil) at (p.places [] tt)

  -- what the first call of the rest leads to
  pub record HasNext (s : State) (k : ℕ) (rest : List ℕ) : Type 0 where
    pub after : State
    pub call : IsFound s k after
    pub ends : (t : State) × Legal (part_problem same_state h object) after rest t

  pub next_of : (start : State) (order : List ℕ) (front : List (Placed Reply)) (s : State) (k : ℕ) (rest : List ℕ) → IsPlacing start order front s (k ∷ rest) → HasNext s k rest
  next_of start order front s k rest p =
      let e = p.ends.1 in
      record { after = e.0; call = found s e.0 k e.1; ends = (p.ends.0, e.2) }

  pair_same : (a b : State) (r q : Reply) → ◌≡◌ {A = Option (State × Reply)} (Some (a, r)) (Some (b, q)) → (a ≡ b) × (r ≡ q)
  pair_same a b r q e = let same = same_Some (a, r) (b, q) e in (ap (λ (p : State × Reply). p.0) same, ap (λ (p : State × Reply). p.1) same)

  pub placing_step : (start : State) (order : List ℕ) (front : List (Placed Reply)) (s : State) (k : ℕ) (rest : List ℕ) (index : ℕ) (c : Call Op Reply) (after : State) (reply : Reply)
      → IsPlacing start order front s (k ∷ rest) → index_of h object k ≡ Some index → slice_get h.calls index ≡ Some c → h.after s c.process c.op ≡ Some (after, reply)
      → IsPlacing start order (front ++ (record { call = index; reply = reply }) ∷ []) after rest
  placing_step start order front s k rest index c after reply p at there st =
      let n = next_of start order front s k rest p in
      let i : n.call.index ≡ index = (let f = n.call.is_index in cc) in
      let same : n.call.call ≡ c = (let f = n.call.there in cc) in
      let answer : Some (n.after, n.call.reply) ≡ Some (after, reply) = (let f = n.call.step in let g : h.after s n.call.call.process n.call.call.op ≡ Some (after, reply) = rw same st in cc) in
      let both = pair_same n.after after n.call.reply reply answer in
      rw (← i, ← both.1, ← both.0) (placing_head start order front s n.after k rest n.call n.ends p)

  pub placing_at : (start : State) (order : List ℕ) (front : List (Placed Reply)) (s : State) (xs : List ℕ) (i : ℕ) (k : ℕ) → i < length xs → k ≡ get_or xs i 0 → IsPlacing start order front s (drop i xs) → IsPlacing start order front s (k ∷ drop (i + 1) xs)
  placing_at start order front s xs i k within e p = rw (e, add-one) (subst (IsPlacing start order front s) (drop-cons xs i 0 within) p)

  -- the call that stands next, by its number and its index
  pub record StandsNext (indices : List ℕ) (k : ℕ) : Type 0 where
    pub index : ℕ
    pub is_index : slice_get indices k ≡ Some index
    pub call : Call Op Reply
    pub there : slice_get h.calls index ≡ Some call

  pub stands_next : (start : State) (order : List ℕ) (front : List (Placed Reply)) (s : State) (xs : List ℕ) (i : ℕ) (indices : List ℕ) → i < length xs → indices ≡ indices_from object 0 h.calls → IsPlacing start order front s (drop i xs) → StandsNext indices (get_or xs i 0)
  stands_next start order front s xs i indices within e p =
      let n = next_of start order front s (get_or xs i 0) (drop (i + 1) xs) (placing_at start order front s xs i (get_or xs i 0) within refl p) in
      record { index = n.call.index; is_index = rw e n.call.is_index; call = n.call.call; there = n.call.there }

  -- what `indices[k]` gives
  pub value_is : (indices : List ℕ) (k value : ℕ) → (n : StandsNext indices k) → value ≡ get_or indices k 0 → value ≡ n.index
  value_is indices k value n e = e ∙ get_or_from_slice_get indices k n.index 0 n.is_index

  pub value_within : (indices : List ℕ) (k value : ℕ) → (n : StandsNext indices k) → value ≡ get_or indices k 0 → value < length h.calls
  value_within indices k value n e =
      let is = value_is indices k value n e in
      let within = slice_get_within h.calls n.index n.call n.there in
      omega (arith, within, is)

  -- the loop's step: the call of the next number is placed with the reply of its step
  pub placing_next : (start : State) (order : List ℕ) (front new : List (Placed Reply)) (s : State) (xs : List ℕ) (i : ℕ) (indices : List ℕ) (value : ℕ) (c : Call Op Reply) (after : State) (reply : Reply)
      → i < length xs → indices ≡ indices_from object 0 h.calls → IsPlacing start order front s (drop i xs) → value ≡ get_or indices (get_or xs i 0) 0 → slice_get h.calls value ≡ Some c
      → h.after s c.process c.op ≡ Some (after, reply) → new ≡ front ++ (record { call = value; reply = reply }) ∷ [] → IsPlacing start order new after (drop (i + 1) xs)
  placing_next start order front new s xs i indices value c after reply within e p is there st pushed =
      let n = stands_next start order front s xs i indices within e p in
      let same : value ≡ n.index = value_is indices (get_or xs i 0) value n is in
      let index : index_of h object (get_or xs i 0) ≡ Some value = rw (same, ← e) n.is_index in
      rw pushed (placing_step start order front s (get_or xs i 0) (drop (i + 1) xs) value c after reply (placing_at start order front s xs i (get_or xs i 0) within refl p) index there st)

  -- the rest of an order, placed from some state
  abbrev pub IsPlacingOn : State → List ℕ → List (Placed Reply) → List ℕ → Type 0
  IsPlacingOn start order front rest = (s : State) × IsPlacing start order front s rest

  same_call : (value index : ℕ) (c d : Call Op Reply) → value ≡ index → slice_get h.calls value ≡ Some c → slice_get h.calls index ≡ Some d → c ≡ d
  same_call value index c d same there also = cc

  -- the loop's step: a completed call is placed with its recorded reply, which is that of its step
  pub placing_recorded : ((a b : Reply) → h.same_reply a b ≡ true → a ≡ b) → (start : State) (order : List ℕ) (front new : List (Placed Reply)) (xs : List ℕ) (i : ℕ) (indices : List ℕ) (value : ℕ) (c : Call Op Reply) (back : ℕ) (reply : Reply)
      → i < length xs → indices ≡ indices_from object 0 h.calls → IsPlacingOn start order front (drop i xs) → value ≡ get_or indices (get_or xs i 0) 0 → slice_get h.calls value ≡ Some c
      → c.returned ≡ Some (back, reply) → new ≡ front ++ (record { call = value; reply = reply }) ∷ [] → IsPlacingOn start order new (drop (i + 1) xs)
  placing_recorded exact start order front new xs i indices value c back reply within e p is there done pushed =
      let n = next_of start order front p.0 (get_or xs i 0) (drop (i + 1) xs) (placing_at start order front p.0 xs i (get_or xs i 0) within refl p.1) in
      let stands : StandsNext indices (get_or xs i 0) = record { index = n.call.index; is_index = rw e n.call.is_index; call = n.call.call; there = n.call.there } in
      let found : c ≡ n.call.call = same_call value n.call.index c n.call.call (value_is indices (get_or xs i 0) value stands is) there n.call.there in
      let fit : fits h.same_reply n.call.reply (Some (back, reply)) ≡ true = rw (← found, done) at n.call.recorded in
      let same : n.call.reply ≡ reply = exact n.call.reply reply fit in
      (n.after, placing_next start order front new p.0 xs i indices value c n.after reply within e p.1 is there (rw (found, ← same) n.call.step) pushed)

  no_step : (o : Option (State × Reply)) (x : State × Reply) → o ≡ None → o ≡ Some x → ⊥
  no_step o x none some = absurd (cc)

  -- the call of the next number has a step
  pub placing_goes_on : (start : State) (order : List ℕ) (front : List (Placed Reply)) (s : State) (xs : List ℕ) (i : ℕ) (indices : List ℕ) (value : ℕ) (c : Call Op Reply)
      → i < length xs → indices ≡ indices_from object 0 h.calls → IsPlacing start order front s (drop i xs) → value ≡ get_or indices (get_or xs i 0) 0 → slice_get h.calls value ≡ Some c → h.after s c.process c.op ≡ None → ⊥
  placing_goes_on start order front s xs i indices value c within e p is there none =
      let n = next_of start order front s (get_or xs i 0) (drop (i + 1) xs) (placing_at start order front s xs i (get_or xs i 0) within refl p) in
      let stands : StandsNext indices (get_or xs i 0) = record { index = n.call.index; is_index = rw e n.call.is_index; call = n.call.call; there = n.call.there } in
      let same : c ≡ n.call.call = same_call value n.call.index c n.call.call (value_is indices (get_or xs i 0) value stands is) there n.call.there in
      let still_none : h.after s n.call.call.process n.call.call.op ≡ None = subst (λ (d : Call Op Reply). h.after s d.process d.op ≡ None) same none in
      no_step (h.after s n.call.call.process n.call.call.op) (n.after, n.call.reply) still_none n.call.step

  -- the loop's end
  pub placing_done : (start : State) (order : List ℕ) (front : List (Placed Reply)) (s : State) (xs : List ℕ) (i : ℕ) → length xs ≤ i → xs ≡ order → IsPlacing start xs front s (drop i xs) → Places h object start order front
  placing_done start order front s xs i over e p =
      subst (λ (q : List ℕ). Places h object start q front) e (placing_all start xs front s (subst (IsPlacing start xs front s) (drop_over xs i over) p))

module _ (object : ℕ) where
  on_test : (t : Bool) (n : ℕ) (front rest whole : List ℕ) → t ≡ true → front ++ cond t (n ∷ rest) rest ≡ whole → (front ++ n ∷ []) ++ rest ≡ whole
  on_test true n front rest whole e h = append_assoc front (n ∷ []) rest ∙ h
  on_test false n front rest whole e h = absurd (cc)

  off_test : (t : Bool) (n : ℕ) (front rest whole : List ℕ) → t ≡ false → front ++ cond t (n ∷ rest) rest ≡ whole → front ++ rest ≡ whole
  off_test true n front rest whole e h = absurd (cc)
  off_test false n front rest whole e h = h

  test_of : (a : ℕ) → a ≡ object → (a == object) ≡ true
  test_of a e = eq-eqb a object e

  no_test_of : (a : ℕ) (t : Bool) → (a == object) ≡ t → (a ≡ object → ⊥) → (a == object) ≡ false
  no_test_of a true e f = absurd (f (eqb-true a object e))
  no_test_of a false e f = e

module _ {Op Reply : Type 0} (object : ℕ) where
  -- one call more, which is on the object
  pub index_pushed : (calls : List (Call Op Reply)) (n : ℕ) (c : Call Op Reply) (front whole : List ℕ) → slice_get calls n ≡ Some c → c.object ≡ object
      → front ++ indices_from object n (drop n calls) ≡ whole → (front ++ n ∷ []) ++ indices_from object (n + 1) (drop (n + 1) calls) ≡ whole
  index_pushed calls n c front whole there on e =
      rw add-one (on_test object (c.object == object) n front (indices_from object (suc n) (drop (suc n) calls)) whole (test_of object c.object on)
      (rw (drop_at calls n c there, add-one) at e))

  -- one call more, which is not
  pub index_kept : (calls : List (Call Op Reply)) (n : ℕ) (c : Call Op Reply) (front whole : List ℕ) → slice_get calls n ≡ Some c → (c.object ≡ object → ⊥)
      → front ++ indices_from object n (drop n calls) ≡ whole → front ++ indices_from object (n + 1) (drop (n + 1) calls) ≡ whole
  index_kept calls n c front whole there off e =
      rw add-one (off_test object (c.object == object) n front (indices_from object (suc n) (drop (suc n) calls)) whole (no_test_of object c.object (c.object == object) refl off)
      (rw (drop_at calls n c there, add-one) at e))
