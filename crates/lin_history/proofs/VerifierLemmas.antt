-- What the loops of the verifier keep.
use Rattle.std.proofs.Common.{◌≡◌, ℕ, zero, suc, ◌+◌, ◌<◌, ◌≤◌, ◌==◌, max, Bool, true, false, cond, List, [], ◌∷◌, ◌++◌, length, map, take, drop, replicate, Option, Some, get_or, ◌⊎◌, inl, inr, refl, sym, ap, subst, ◌∙◌, arith, add-one}
use Rattle.std.specs.Prelude.{ℤ, pos, IsSomeAnd}
use Rattle.std.specs.List.{slice_get}
use Rattle.std.specs.Option.{option_map_or}
use Rattle.std.proofs.Math.ListN.{set}
use Rattle.std.proofs.lemmas.Bool.Decides.{eqb_tells}
use Rattle.std.proofs.lemmas.Option.{slice_get_within, slice_get-get_or, same_Some}
use Rattle.lin_object.specs.declared.kind.Kind.TheVariants.{Register}
use Rattle.lin_object.specs.declared.state.ObjState.{ObjState}
use Rattle.lin_object.specs.Kinds.{state_at_start}
use Rattle.lin_object.specs.declared.reply.Reply.{Reply as Answer}
use Rattle.lin_object.specs.declared.reply.Reply.TheVariants.{Okay}
use Rattle.lin_history.specs.declared.locality.placed.Placed.{Placed}
use Rattle.lin_history.specs.Recorder.Events.{Call}
use Rattle.lin_history.specs.Problems.LegalLists.{fits}
use Rattle.lin_history.specs.Recorder.RecordedHistory.{DeclaredObject, RecordedHistory}
use Rattle.lin_history.specs.Recorder.Parts.{start_of}
use Rattle.lin_history.specs.Locality.RecordedWhole.{start_at}
use Rattle.lin_history.specs.Locality.Whole.{Whole, Has, HasReturned, AreDistinct, KeepsOrder, Steps, with_state, Replays, IsLinearizationOfWhole}
use Rattle.lin_history.specs.Verifier.Flags.{AreKnown, AreDistinctCalls, AreFlagsOf}
use Rattle.lin_history.specs.Locality.JoinedOrder.{called_at}
use Rattle.lin_history.specs.Locality.TimeLemmas.{called_is, ReturnsBefore, IsTimely, before_none, timely_gives, gives_timely}
use Rattle.lin_history.proofs.ListLemmas.{drop_at}

-- ---- lists

module _ {A : Type 0} where
  pub set_same : (xs : List A) (i : ℕ) (x y : A) → slice_get xs i ≡ Some x → slice_get (set xs i y) i ≡ Some y
  set_same [] i x y e = absurd (cc)
  set_same (z ∷ zs) zero x y e = refl
  set_same (z ∷ zs) (suc i) x y e = set_same zs i x y e

  pub set_other : (xs : List A) (i j : ℕ) (y : A) → (i ≡ j → ⊥) → slice_get (set xs i y) j ≡ slice_get xs j
  set_other [] i j y apart = refl
  set_other (z ∷ zs) zero zero y apart = absurd (apart refl)
  set_other (z ∷ zs) zero (suc j) y apart = refl
  set_other (z ∷ zs) (suc i) zero y apart = refl
  set_other (z ∷ zs) (suc i) (suc j) y apart = set_other zs i j y (λ e. apart (ap suc e))

  pub rest_at : (xs : List A) (i : ℕ) (x : A) → slice_get xs i ≡ Some x → drop i xs ≡ x ∷ drop (i + 1) xs
  rest_at xs i x e = rw add-one (drop_at xs i x e)

  pub rest_none : (xs : List A) (i : ℕ) → length xs ≤ i → drop i xs ≡ []
  rest_none [] zero over = refl
  rest_none [] (suc i) over = refl
  rest_none (x ∷ xs) zero over = absurd (omega (arith, over))
  rest_none (x ∷ xs) (suc i) over = rest_none xs i (omega (arith, over))

  filled_within : (n i : ℕ) (a : A) → i < n → slice_get (replicate n a) i ≡ Some a
  filled_within zero i a below = absurd (omega (arith, below))
  filled_within (suc n) zero a below = refl
  filled_within (suc n) (suc i) a below = filled_within n i a (omega (arith, below))

  filled_is : (n i : ℕ) (a b : A) → slice_get (replicate n a) i ≡ Some b → (i < n) × (a ≡ b)
  filled_is zero i a b e = absurd (cc)
  filled_is (suc n) zero a b e = (omega arith, cc)
  filled_is (suc n) (suc i) a b e = let r = filled_is n i a b e in (omega (arith, r), r.1)

  map_more_suc : {B : Type 0} (f : A → B) (xs : List A) (i : ℕ) (x : A) → slice_get xs i ≡ Some x → map f (take (suc i) xs) ≡ map f (take i xs) ++ f x ∷ []
  map_more_suc f [] i x e = absurd (cc)
  map_more_suc f (z ∷ zs) zero x e = let same : z ≡ x = cc in ap (λ (y : A). f y ∷ []) same
  map_more_suc f (z ∷ zs) (suc i) x e = ap (λ l. f z ∷ l) (map_more_suc f zs i x e)

  pub map_more : {B : Type 0} (f : A → B) (xs : List A) (i : ℕ) (x : A) → slice_get xs i ≡ Some x → map f (take (i + 1) xs) ≡ map f (take i xs) ++ f x ∷ []
  map_more f xs i x e = rw add-one (map_more_suc f xs i x e)

module _ {State Op Reply : Type 0} (h : Whole State Op Reply) where
  -- ---- flags

  -- no call of the list has its flag set, and none stands there twice
  abbrev pub AreFresh : List Bool → List (Placed Reply) → Type 0
  AreFresh flags [] = Unit {0}
  AreFresh flags (x ∷ xs) = (slice_get flags x.call ≡ Some false) × AreFresh (set flags x.call true) xs

  -- the flags with those of the list set
  abbrev pub marked : List Bool → List (Placed Reply) → List Bool
  marked flags [] = flags
  marked flags (x ∷ xs) = marked (set flags x.call true) xs

  one_flag : (o : Option Bool) → o ≡ Some false → o ≡ Some true → ⊥
  one_flag o e f = absurd (cc)

  -- the list's calls have flags that are not set
  abbrev AreUnset : List Bool → List (Placed Reply) → Type 0
  AreUnset flags l = (a : ℕ) → Has h a l → slice_get flags a ≡ Some false

  unset_more : (flags : List Bool) (x : Placed Reply) (xs : List (Placed Reply)) → slice_get flags x.call ≡ Some false → AreUnset (set flags x.call true) xs → AreUnset flags (x ∷ xs)
  unset_more flags x xs here rest a there = elim there [
    | inl same ↦ subst (λ n. slice_get flags n ≡ Some false) same here
    | inr more ↦ sym (set_other flags x.call a true (λ same. one_flag (slice_get (set flags x.call true) a) (rest a more) (subst (λ n. slice_get (set flags x.call true) n ≡ Some true) same (set_same flags x.call false true here)))) ∙ rest a more
  ]

  fresh_gives : (flags : List Bool) (l : List (Placed Reply)) → AreFresh flags l → AreDistinct h l × AreUnset flags l
  fresh_gives flags [] f = (tt, λ a there. absurd there)
  fresh_gives flags (x ∷ xs) f =
      let r = fresh_gives (set flags x.call true) xs f.1 in
      (((λ there. one_flag (slice_get (set flags x.call true) x.call) (r.1 x.call there) (set_same flags x.call false true f.0)), r.0), unset_more flags x xs f.0 r.1)

  gives_fresh : (flags : List Bool) (l : List (Placed Reply)) → AreDistinct h l → AreUnset flags l → AreFresh flags l
  gives_fresh flags [] d unset = tt
  gives_fresh flags (x ∷ xs) d unset =
      (unset x.call (inl refl), gives_fresh (set flags x.call true) xs d.1 (λ a there. set_other flags x.call a true (λ same. d.0 (subst (λ n. Has h n xs) (sym same) there)) ∙ unset a (inr there)))

  marked_has : (flags : List Bool) (l : List (Placed Reply)) (a : ℕ) → slice_get (marked flags l) a ≡ Some true → Has h a l ⊎ (slice_get flags a ≡ Some true)
  marked_has flags [] a e = inr e
  marked_has flags (x ∷ xs) a e = elim (marked_has (set flags x.call true) xs a e) [
    | inl more ↦ inl (inr more)
    | inr here ↦ elim (eqb_tells x.call a) [ inl same ↦ inl (inl same.1) | inr apart ↦ inr (sym (set_other flags x.call a true apart.1) ∙ here) ]
  ]

  marked_set : (flags : List Bool) (l : List (Placed Reply)) → AreFresh flags l → (a : ℕ) → Has h a l ⊎ (slice_get flags a ≡ Some true) → slice_get (marked flags l) a ≡ Some true
  marked_set flags [] f a p = elim p [ inl there ↦ absurd there | inr e ↦ e ]
  marked_set flags (x ∷ xs) f a p = marked_set (set flags x.call true) xs f.1 a (next p)
    where
      next : Has h a (x ∷ xs) ⊎ (slice_get flags a ≡ Some true) → Has h a xs ⊎ (slice_get (set flags x.call true) a ≡ Some true)
      next p = elim p [
        | inl there ↦ elim there [ inl same ↦ inr (subst (λ n. slice_get (set flags x.call true) n ≡ Some true) same (set_same flags x.call false true f.0)) | inr more ↦ inl more ]
        | inr e ↦ elim (eqb_tells x.call a) [
          | inl same ↦ inr (subst (λ n. slice_get (set flags x.call true) n ≡ Some true) same.1 (set_same flags x.call false true f.0))
          | inr apart ↦ inr (set_other flags x.call a true apart.1 ∙ e)
        ]
      ]

  abbrev pub no_flags : List Bool
  no_flags = replicate (length h.calls) false

  -- what is left to mark, marked, is the whole list marked
  pub record IsMarking (flags : List Bool) (whole rest : List (Placed Reply)) : Type 0 where
    pub to : AreFresh no_flags whole → AreFresh flags rest
    pub back : AreFresh flags rest → AreFresh no_flags whole
    pub marks : marked flags rest ≡ marked no_flags whole
    pub count : length flags ≡ length h.calls

  pub marking_next : (flags new : List Bool) (whole l : List (Placed Reply)) (i : ℕ) (x : Placed Reply) → slice_get l i ≡ Some x → slice_get flags x.call ≡ Some false → new ≡ set flags x.call true → length new ≡ length flags
      → IsMarking flags whole (drop i l) → IsMarking new whole (drop (i + 1) l)
  marking_next flags new whole l i x there unset is same m =
      let e : drop i l ≡ x ∷ drop (i + 1) l = rest_at l i x there in
      let n : IsMarking flags whole (x ∷ drop (i + 1) l) = subst (IsMarking flags whole) e m in
      rw is (record {
        to = λ f. (n.to f).1;
        back = λ f. n.back (unset, f);
        marks = n.marks;
        count = (let c = n.count in let f : length (set flags x.call true) ≡ length flags = subst (λ (q : List Bool). length q ≡ length flags) is same in f ∙ c);
      })

  pub marking_stops : (flags : List Bool) (l : List (Placed Reply)) (i : ℕ) (x : Placed Reply) → slice_get l i ≡ Some x → (slice_get flags x.call ≡ Some false → ⊥) → IsMarking flags l (drop i l) → AreDistinctCalls h l → ⊥
  marking_stops flags l i x there stop m d =
      let n : IsMarking flags l (x ∷ drop (i + 1) l) = subst (IsMarking flags l) (rest_at l i x there) m in
      stop (n.to (gives_fresh no_flags l d.distinct (λ a has. filled_within (length h.calls) a false (d.known a has)))).0

  pub marking_done : (flags : List Bool) (l : List (Placed Reply)) (i : ℕ) → length l ≤ i → IsMarking flags l (drop i l) → AreDistinctCalls h l × AreFlagsOf h l flags
  marking_done flags l i over m = (
    record { distinct = (fresh_gives no_flags l fresh).0; known = λ a has. (filled_is (length h.calls) a false false ((fresh_gives no_flags l fresh).1 a has)).0 },
    record {
      count = n.count;
      has = λ a e. elim (marked_has no_flags l a (subst (λ (q : List Bool). slice_get q a ≡ Some true) n.marks e)) [ inl there ↦ there | inr e ↦ absurd (let f = filled_is (length h.calls) a false true e in cc) ];
      set = λ a has. subst (λ (q : List Bool). slice_get q a ≡ Some true) (sym n.marks) (marked_set no_flags l fresh a (inl has));
    },
  )
    where
      n : IsMarking flags l []
      n = subst (IsMarking flags l) (rest_none l i over) m

      fresh : AreFresh no_flags l
      fresh = n.back tt

  -- ---- completed calls

  -- each completed call below n has its flag set
  abbrev pub HaveFlags : List Bool → ℕ → Type 0
  HaveFlags flags n = (a : ℕ) → a < n → HasReturned h a → slice_get flags a ≡ Some true

  -- ---- real time

  pub record IsTiming (n : ℕ) (whole rest : List (Placed Reply)) : Type 0 where
    pub to : IsTimely h 0 whole → IsTimely h n rest
    pub back : IsTimely h n rest → IsTimely h 0 whole

  before_is : (a n : ℕ) (c : Call Op Reply) → slice_get h.calls a ≡ Some c → ReturnsBefore h a n → IsSomeAnd c.returned (λ r. r.0 < n)
  before_is a n c e p = rw e at p

  is_before : (a n : ℕ) (c : Call Op Reply) → slice_get h.calls a ≡ Some c → IsSomeAnd c.returned (λ r. r.0 < n) → ReturnsBefore h a n
  is_before a n c e p = rw e p

  pub timing_next : (n m : ℕ) (whole l : List (Placed Reply)) (i : ℕ) (x : Placed Reply) (c : Call Op Reply) → slice_get l i ≡ Some x → slice_get h.calls x.call ≡ Some c → m ≡ max n c.called → (IsSomeAnd c.returned (λ r. r.0 < m) → ⊥)
      → IsTiming n whole (drop i l) → IsTiming m whole (drop (i + 1) l)
  timing_next n m whole l i x c there call is late t =
      let u : IsTiming n whole (x ∷ drop (i + 1) l) = subst (IsTiming n whole) (rest_at l i x there) t in
      let e : m ≡ max n (called_at h x.call) = is ∙ ap (max n) (sym (called_is h x.call c call)) in
      record {
        to = λ f. subst (λ (k : ℕ). IsTimely h k (drop (i + 1) l)) (sym e) (u.to f).1;
        back = λ f. u.back ((λ p. late (before_is x.call m c call (subst (ReturnsBefore h x.call) (sym e) p))), subst (λ (k : ℕ). IsTimely h k (drop (i + 1) l)) e f);
      }

  pub timing_stops : (n m : ℕ) (l : List (Placed Reply)) (i : ℕ) (x : Placed Reply) (c : Call Op Reply) → slice_get l i ≡ Some x → slice_get h.calls x.call ≡ Some c → m ≡ max n c.called → IsSomeAnd c.returned (λ r. r.0 < m)
      → IsTiming n l (drop i l) → KeepsOrder h l → ⊥
  timing_stops n m l i x c there call is late t keeps =
      let u : IsTiming n l (x ∷ drop (i + 1) l) = subst (IsTiming n l) (rest_at l i x there) t in
      let e : m ≡ max n (called_at h x.call) = is ∙ ap (max n) (sym (called_is h x.call c call)) in
      (u.to (gives_timely h 0 l (λ a there. before_none h a) keeps)).0 (subst (ReturnsBefore h x.call) e (is_before x.call m c call late))

  pub timing_done : (n : ℕ) (l : List (Placed Reply)) (i : ℕ) → length l ≤ i → IsTiming n l (drop i l) → KeepsOrder h l
  timing_done n l i over t =
      let u : IsTiming n l [] = subst (IsTiming n l) (rest_none l i over) t in
      (timely_gives h 0 l (u.back tt)).1

  -- ---- replay

  -- the state of each object, where those beyond the list have the state d
  abbrev pub state_in : State → List State → ℕ → State
  state_in d states k = option_map_or (λ s. s) (slice_get states k) d

  alike_with : (f g : ℕ → State) (object : ℕ) (m : State) → ((k : ℕ) → f k ≡ g k) → (k : ℕ) → with_state h f object m k ≡ with_state h g object m k
  alike_with f g object m same k = elim (object == k) as (λ t. cond t m (f k) ≡ cond t m (g k)) [ true ↦ refl | false ↦ same k ]

  pub replays_alike : (l : List (Placed Reply)) (f g : ℕ → State) → ((k : ℕ) → f k ≡ g k) → Replays h f l → Replays h g l
  replays_alike [] f g same r = tt
  replays_alike (x ∷ xs) f g same r =
      (r.0, r.1, subst (λ (s : State). Steps h s r.0 x r.1) (same r.0.object) r.2, replays_alike xs (with_state h f r.0.object r.1) (with_state h g r.0.object r.1) (alike_with f g r.0.object r.1 same) r.3)

  pub record IsReplaying (d : State) (states : List State) (whole rest : List (Placed Reply)) : Type 0 where
    pub to : Replays h h.starts whole → Replays h (state_in d states) rest
    pub back : Replays h (state_in d states) rest → Replays h h.starts whole

  pub replaying_none : (d : State) (states : List State) (l : List (Placed Reply)) → ((k : ℕ) → h.starts k ≡ state_in d states k) → IsReplaying d states l l
  replaying_none d states l same = record {
    to = replays_alike l h.starts (state_in d states) same;
    back = replays_alike l (state_in d states) h.starts (λ k. sym (same k));
  }

  state_of : (d : State) (o : Option State) (s : State) → o ≡ Some s → option_map_or (λ s. s) o d ≡ s
  state_of d o s e = rw e refl

  with_same : (d : State) (states : List State) (object : ℕ) (s m : State) → slice_get states object ≡ Some s → (k : ℕ) → with_state h (state_in d states) object m k ≡ state_in d (set states object m) k
  with_same d states object s m there k = elim (eqb_tells object k) [
    | inl same ↦ rw same.0 (sym (state_of d (slice_get (set states object m) k) m (subst (λ n. slice_get (set states object m) n ≡ Some m) same.1 (set_same states object s m there))))
    | inr apart ↦ rw apart.0 (ap (λ (o : Option State). option_map_or (λ s. s) o d) (sym (set_other states object k m apart.1)))
  ]

  -- the call x, which is c, has a step from s to m with its reply, and that is the recorded one
  pub record IsStep (s : State) (c : Call Op Reply) (reply : Reply) (m : State) : Type 0 where
    pub step : h.after s c.process c.op ≡ Some (m, reply)
    pub recorded : fits h.same_reply reply c.returned ≡ true

  state_same : (a b : State) (r : Reply) (o : Option (State × Reply)) → o ≡ Some (a, r) → o ≡ Some (b, r) → a ≡ b
  state_same a b r o e f = ap (λ (p : State × Reply). p.0) (same_Some (a, r) (b, r) (sym e ∙ f))

  -- a step of the list's first call is the step of its call from its object's state
  first_step : (d : State) (states : List State) (s : State) (x : Placed Reply) (c e : Call Op Reply) (m : State) → slice_get h.calls x.call ≡ Some c → slice_get states c.object ≡ Some s → Steps h (state_in d states e.object) e x m → (e ≡ c) × IsStep s c x.reply m
  first_step d states s x c e m call there st =
      let same : e ≡ c = (let f = st.call in cc) in
      let from : state_in d states c.object ≡ s = state_of d (slice_get states c.object) s there in
      let st2 : Steps h (state_in d states c.object) c x m = subst (λ (q : Call Op Reply). Steps h (state_in d states q.object) q x m) same st in
      let st3 : Steps h s c x m = subst (λ (q : State). Steps h q c x m) from st2 in
      (same, record { step = st3.step; recorded = st3.recorded })

  pub replaying_next : (d : State) (states new : List State) (whole l : List (Placed Reply)) (i : ℕ) (x : Placed Reply) (c : Call Op Reply) (s m : State) → slice_get l i ≡ Some x → slice_get h.calls x.call ≡ Some c → slice_get states c.object ≡ Some s
      → IsStep s c x.reply m → new ≡ set states c.object m → IsReplaying d states whole (drop i l) → IsReplaying d new whole (drop (i + 1) l)
  replaying_next d states new whole l i x c s m there call from st is r =
      let u : IsReplaying d states whole (x ∷ drop (i + 1) l) = subst (IsReplaying d states whole) (rest_at l i x there) r in
      rw is (record { to = λ f. forward (u.to f); back = λ f. u.back (backward f) })
    where
      forward : Replays h (state_in d states) (x ∷ drop (i + 1) l) → Replays h (state_in d (set states c.object m)) (drop (i + 1) l)
      forward f =
          let first = first_step d states s x c f.0 f.1 call from f.2 in
          let end : f.1 ≡ m = state_same f.1 m x.reply (h.after s c.process c.op) first.1.step st.step in
          let g : Replays h (with_state h (state_in d states) c.object m) (drop (i + 1) l) = subst (λ (q : State). Replays h (with_state h (state_in d states) c.object q) (drop (i + 1) l)) end (subst (λ (q : Call Op Reply). Replays h (with_state h (state_in d states) q.object f.1) (drop (i + 1) l)) first.0 f.3) in
          replays_alike (drop (i + 1) l) (with_state h (state_in d states) c.object m) (state_in d (set states c.object m)) (with_same d states c.object s m from) g

      backward : Replays h (state_in d (set states c.object m)) (drop (i + 1) l) → Replays h (state_in d states) (x ∷ drop (i + 1) l)
      backward f =
          let start : s ≡ state_in d states c.object = sym (state_of d (slice_get states c.object) s from) in
          let st1 : Steps h s c x m = record { call = call; step = st.step; recorded = st.recorded } in (
            c,
            m,
            subst (λ (q : State). Steps h q c x m) start st1,
            replays_alike (drop (i + 1) l) (state_in d (set states c.object m)) (with_state h (state_in d states) c.object m) (λ k. sym (with_same d states c.object s m from k)) f,
          )

  pub replaying_stops : (d : State) (states : List State) (l : List (Placed Reply)) (i : ℕ) (x : Placed Reply) (c : Call Op Reply) (s : State) → slice_get l i ≡ Some x → slice_get h.calls x.call ≡ Some c → slice_get states c.object ≡ Some s
      → ((m : State) → IsStep s c x.reply m → ⊥) → IsReplaying d states l (drop i l) → Replays h h.starts l → ⊥
  replaying_stops d states l i x c s there call from none r legal =
      let u : IsReplaying d states l (x ∷ drop (i + 1) l) = subst (IsReplaying d states l) (rest_at l i x there) r in
      let f = u.to legal in
      none f.1 (first_step d states s x c f.0 f.1 call from f.2).1

-- ---- start states

-- the state of one object more
pub states_more : (objects : List DeclaredObject) (states new : List ObjState) (i : ℕ) (o : DeclaredObject) (passed : ℤ) (state : ObjState) → slice_get objects i ≡ Some o → passed ≡ o.start → state ≡ state_at_start o.kind passed → new ≡ states ++ state ∷ []
    → states ≡ map start_of (take i objects) → new ≡ map start_of (take (i + 1) objects)
states_more objects states new i o passed state there same is pushed e =
    let known : state ≡ start_of o = is ∙ ap (state_at_start o.kind) same in
    pushed ∙ rw (e, known) (sym (map_more start_of objects i o there))

start_known : (objects : List DeclaredObject) (k : ℕ) (d : ObjState) → option_map_or start_of (slice_get objects k) d ≡ option_map_or (λ s. s) (slice_get (map start_of objects) k) d
start_known [] k d = refl
start_known (o ∷ os) zero d = refl
start_known (o ∷ os) (suc k) d = start_known os k d

-- they are the states in which the objects start
pub states_start : (h : RecordedHistory) (states : List ObjState) (k : ℕ) → states ≡ map start_of h.objects → start_at h k ≡ option_map_or (λ s. s) (slice_get states k) (state_at_start Register (pos 0))
states_start h states k e = start_known h.objects k (state_at_start Register (pos 0)) ∙ ap (λ (l : List ObjState). option_map_or (λ s. s) (slice_get l k) (state_at_start Register (pos 0))) (sym e)

-- ---- the call that the loop has come to

abbrev pub placed_at : List (Placed Answer) → ℕ → Placed Answer
placed_at l i = get_or l i (record { call = 0; reply = Okay })

pub placed_there : (l : List (Placed Answer)) (i : ℕ) → i < length l → slice_get l i ≡ Some (placed_at l i)
placed_there l i within = slice_get-get_or l i (record { call = 0; reply = Okay }) within

pub stands_there : {State Op : Type 0} (h : Whole State Op Answer) (l : List (Placed Answer)) (i : ℕ) (x : Placed Answer) → slice_get l i ≡ Some x → Has h x.call l
stands_there h [] i x e = absurd (cc)
stands_there h (y ∷ ys) zero x e = let same : y ≡ x = cc in inl (ap (λ (p : Placed Answer). p.call) same)
stands_there h (y ∷ ys) (suc i) x e = inr (stands_there h ys i x e)

-- ---- the whole

module _ {State Op Reply : Type 0} (h : Whole State Op Reply) where
  replays_known : (l : List (Placed Reply)) (states : ℕ → State) → Replays h states l → AreKnown h l
  replays_known [] states r a there = absurd there
  replays_known (x ∷ xs) states r a there = elim there [
    | inl same ↦ subst (λ n. n < length h.calls) same (slice_get_within h.calls x.call r.0 r.2.call)
    | inr more ↦ replays_known xs (with_state h states r.0.object r.1) r.3 a more
  ]

  pub distinct_of_whole : (l : List (Placed Reply)) → IsLinearizationOfWhole h l → AreDistinctCalls h l
  distinct_of_whole l w = record { distinct = w.distinct; known = replays_known l h.starts w.legal }
