-- What a builder keeps, after each of its steps.
use Rattle.std.proofs.Common.{◌≡◌, ◌≢◌, ℕ, ◌+◌, ◌<◌, ◌==◌, Bool, true, false, cond, Option, Some, None, option_map, IsSomeAnd, IfSome, List, [], ◌∷◌, ◌++◌, map, find, filter, set, length, slice_get, refl, sym, ap, subst, ◌∙◌, arith, inl, inr, length-append, eqb}
use Rattle.std.proofs.lemmas.Bool.{eq-eqb, eqb-true}
use Rattle.std.proofs.lemmas.Bool.Decides.{eqb_tells}
use Rattle.std.proofs.lemmas.List.{map-append, map-set, length-set}
use Rattle.std.proofs.lemmas.Option.{slice_get_within, slice_get-map}
use Rattle.lin_history.specs.declared.limits.TheConstants.{MAX_OBJECTS, MAX_CALLS, MAX_CALLS_ON_OBJECT}
use Rattle.lin_object.specs.declared.op.Op.{Op}
use Rattle.lin_object.specs.declared.reply.Reply.{Reply}
use Rattle.lin_history.specs.declared.recorder.history.CallInfo.{CallInfo}
use Rattle.lin_history.specs.declared.recorder.history.Mark.TheVariants.{Unmarked}
use Rattle.lin_history.specs.Recorder.Names.{is_name}
use Rattle.lin_history.specs.Recorder.Events.{Event, calls, numbered, Made, Outcome}
use Rattle.lin_history.specs.Recorder.RecordedHistory.{DeclaredObject}
use Rattle.lin_history.specs.Recorder.Recording.{Recording, IsRecordingOf, is_pending_of, is_last_of, last_call, is_made_on, count_made_on, settled, with_call}
use Rattle.lin_history.specs.Recorder.BuilderState.{made_view, recorded, has_no_reply, KnowsLast, AreCounts, AreMadeWithinLimit, IsBuilderState}
use Rattle.lin_history.proofs.ListLemmas.{slice_get-push, slice_get-set, slice_get-mapped, map-set_one, find-one, find-none, length_filter-push, length_filter-set_all, length_filter-none}
use Rattle.lin_history.proofs.RecorderLemmas.EventLemmas.{Next, stage_of, Settles}
use Rattle.lin_history.proofs.RecorderLemmas.NextEventLemmas.{adds-object, adds-call, adds-end, pending_parts, pending_stage, Ends}

-- ---- the last call of a process

last_process : (p : ℕ) (m : Made Op Reply) → is_last_of p m ≡ true → m.process ≡ p
last_process p m e =
    elim (eqb_tells m.process p) [
      | inl h ↦ h.1
      | inr h ↦ (let no : false ≡ true = rw h.0 at e in absurd (cc))
    ]

-- a pending call is one that has neither returned nor failed
pub last_if_pending : (p : ℕ) (m : Made Op Reply) → is_pending_of p m ≡ true → is_last_of p m ≡ true
last_if_pending p m e =
    let parts = pending_parts p m e in
    let own : eqb m.process p ≡ true = eq-eqb m.process p parts.0 in
    rw (own, parts.1) refl

pub false_from : (b : Bool) → (b ≡ true → ⊥) → b ≡ false
false_from true never = absurd (never refl)
false_from false never = refl

some_same : {A : Type 0} (o : Option A) (x y : A) → o ≡ Some x → o ≡ Some y → x ≡ y
some_same o x y a b = cc

module _ (last : ℕ → Option ℕ) (made : List CallInfo) (p : ℕ) (knows : KnowsLast last made) where
  at_last : (j : ℕ) (y : Made Op Reply) → slice_get (map made_view made) j ≡ Some y → is_last_of p y ≡ true → last p ≡ Some j
  at_last j y there e =
      let was = slice_get-mapped made_view made j y there in
      let seen : is_last_of p (made_view was.0) ≡ true = subst (λ m. is_last_of p m ≡ true) (sym was.2) e in
      let own : was.0.process ≡ p = last_process p (made_view was.0) seen in
      subst (λ q. last q ≡ Some j) own (knows j was.0 was.1 (subst (λ q. is_last_of q (made_view was.0) ≡ true) (sym own) seen))

  -- a process with no last call has none
  pub idle-unknown : last p ≡ None → find (is_last_of p) (map made_view made) ≡ None
  idle-unknown none = find-none (is_last_of p) (map made_view made) (λ j y h. false_from (is_last_of p y) (λ e. let at = at_last j y h e in absurd (cc)))

  -- nor has one whose last call has returned or failed
  idle-done : (i : ℕ) → last p ≡ Some i → ((c : CallInfo) → slice_get made i ≡ Some c → is_last_of p (made_view c) ≡ true → ⊥) → find (is_last_of p) (map made_view made) ≡ None
  idle-done i known never =
      find-none (is_last_of p) (map made_view made) (λ j y h. false_from (is_last_of p y) (λ e.
      let same = some_same (last p) j i (at_last j y h e) known in
      let was = slice_get-mapped made_view made j y h in
      never was.0 (subst (λ k. slice_get made k ≡ Some was.0) same was.1) (subst (λ m. is_last_of p m ≡ true) (sym was.2) e)))

  -- it is the only one
  pub only_last : (i : ℕ) (c : CallInfo) → slice_get made i ≡ Some c → is_last_of p (made_view c) ≡ true
      → (j : ℕ) (y : Made Op Reply) → slice_get (map made_view made) j ≡ Some y → is_last_of p y ≡ true → j ≡ i
  only_last i c there e j y h k =
      let seen : slice_get (map made_view made) i ≡ Some (made_view c) = rw (slice_get-map made_view made i, there) refl in
      some_same (last p) j i (at_last j y h k) (at_last i (made_view c) seen e)

  pub found-last : (i : ℕ) (c : CallInfo) → slice_get made i ≡ Some c → is_last_of p (made_view c) ≡ true → find (is_last_of p) (map made_view made) ≡ Some (made_view c)
  found-last i c there e =
      let seen : slice_get (map made_view made) i ≡ Some (made_view c) = rw (slice_get-map made_view made i, there) refl in
      find-one (is_last_of p) (map made_view made) i (made_view c) seen e (only_last i c there e)

  -- the same, by what is at the index
  pub find-last : (i : ℕ) → IsSomeAnd (slice_get made i) (λ c. is_last_of p (made_view c) ≡ true) → find (is_last_of p) (map made_view made) ≡ option_map made_view (slice_get made i)
  find-last i there = at (slice_get made i) refl there
    where
      at : (o : Option CallInfo) → slice_get made i ≡ o → IsSomeAnd o (λ c. is_last_of p (made_view c) ≡ true) → find (is_last_of p) (map made_view made) ≡ option_map made_view o
      at None h k = absurd k
      at (Some c) h k = found-last i c h k

  pub find-idle : (i : ℕ) → last p ≡ Some i → IfSome (slice_get made i) (λ c. is_last_of p (made_view c) ≡ false) → find (is_last_of p) (map made_view made) ≡ None
  find-idle i known there = idle-done i known (λ c at e. let closed : is_last_of p (made_view c) ≡ false = rw at at there in absurd (cc))

-- ---- the steps

-- how many calls are on an object that is declared next
count-undeclared : (made : List CallInfo) (n : ℕ) → ((i : ℕ) (m : Made Op Reply) → slice_get (map made_view made) i ≡ Some m → m.object < n) → count_made_on n (map made_view made) ≡ 0
count-undeclared made n below =
    length_filter-none (is_made_on n) (map made_view made) (λ j m h. false_from (m.object == n) (λ e.
    elim (eqb_tells m.object n) [ inl k ↦ (let less = below j m h in let same = k.1 in omega (arith, less, same)) | inr k ↦ (let no = k.0 in absurd (cc)) ]))

-- a call that comes next
abbrev pub new_call : ℕ → ℕ → ℕ → Op → ℕ → CallInfo
new_call p object number op called = record { process = p; object = object; number = number; op = op; called = called; returned = None; mark = Unmarked }

-- the recording with a call more
pub recorded-call : (objects : List DeclaredObject) (made : List CallInfo) (events p object number : ℕ) (op : Op)
    → recorded objects (made ++ new_call p object number op (events + 1) ∷ []) (events + 1) ≡ with_call (recorded objects made events) p object op
recorded-call objects made events p object number op =
    let f : List (Made Op Reply) → Recording = λ ms. record { objects = objects; made = ms; events = events + 1 } in
    ap f (map-append made_view made (new_call p object number op (events + 1) ∷ []))

-- how many calls are on an object, with one more
count-call : (made : List CallInfo) (p object number called : ℕ) (op : Op) (q : ℕ)
    → count_made_on q (map made_view (made ++ new_call p object number op called ∷ [])) ≡ count_made_on q (map made_view made) + cond (object == q) 1 0
count-call made p object number called op q =
    let new = new_call p object number op called in
    ap (λ ms. length (filter (is_made_on q) ms)) (map-append made_view made (new ∷ [])) ∙ length_filter-push (is_made_on q) (map made_view made) (made_view new)

module _ (objects : List DeclaredObject) (made : List CallInfo) (events : ℕ) (last : ℕ → Option ℕ) (counts : List ℕ) (kept : IsBuilderState objects made events last counts) where
  pub kept-object : (o : DeclaredObject) → is_name o.name ≡ true → length objects < MAX_OBJECTS → IsBuilderState (objects ++ o ∷ []) made events last (counts ++ 0 ∷ [])
  kept-object o valid few =
      let was = kept.recording in
      record {
        recording = (was.0, adds-object (recorded objects made events) o.name o.kind o.start was.0 was.1);
        last_known = kept.last_known;
        counted = λ object n there. elim (slice_get-push counts 0 object n there) [
          | inl old ↦ kept.counted object n old
          | inr new ↦ (
              let same : length objects ≡ object = sym (new.0 ∙ kept.each) in
              sym new.1 ∙ sym (subst (λ k. count_made_on k (map made_view made) ≡ 0) same (count-undeclared made (length objects) was.1.declared)))
        ];
        each = (let e = kept.each in omega (arith, e, length-append counts (0 ∷ []), length-append objects (o ∷ [])));
        room = omega (arith, few, length-append objects (o ∷ []));
        few = kept.few;
        limited = kept.limited;
        events_are = kept.events_are;
        named = λ i x there. elim (slice_get-push objects o i x there) [ inl old ↦ kept.named i x old | inr new ↦ ap (λ (y : DeclaredObject). is_name y.name) (sym new.1) ∙ valid ];
      }

  -- another last call of a process that has none
  pub kept-last : (p : ℕ) (last' : ℕ → Option ℕ) → find (is_last_of p) (map made_view made) ≡ None → ((q : ℕ) → q ≢ p → last' q ≡ last q) → IsBuilderState objects made events last' counts
  kept-last p last' idle others =
      record {
        recording = kept.recording;
        last_known = λ i c there is_last. others c.process (λ own. busy i c there is_last own) ∙ kept.last_known i c there is_last;
        counted = kept.counted;
        each = kept.each;
        room = kept.room;
        few = kept.few;
        limited = kept.limited;
        events_are = kept.events_are;
        named = kept.named;
      }
    where
      busy : (i : ℕ) (c : CallInfo) → slice_get made i ≡ Some c → is_last_of c.process (made_view c) ≡ true → c.process ≡ p → ⊥
      busy i c there is_last own =
          let found = found-last last made p kept.last_known i c there (subst (λ q. is_last_of q (made_view c) ≡ true) own is_last) in
          absurd (cc)

  -- a call of a process that has none
  module _ (p object number : ℕ) (op : Op) where
    abbrev new : CallInfo
    new = new_call p object number op (events + 1)

    last-call : last p ≡ Some (length made) → KnowsLast last (made ++ new ∷ [])
    last-call known i c there is_last =
        elim (slice_get-push made new i c there) [
          | inl old ↦ kept.last_known i c old is_last
          | inr at ↦ (
              let P : CallInfo → Type 0 = λ d. last d.process ≡ Some i in
              subst P at.1 (known ∙ ap Some (sym at.0)))
        ]

    counted-call : slice_get counts object ≡ Some number → AreCounts (set counts object (number + 1)) (made ++ new ∷ [])
    counted-call counted q n there =
        let count = count-call made p object number (events + 1) op q in
        elim (slice_get-set counts object (number + 1) q n there) [
          | inl at ↦ (
              let own : eqb object q ≡ true = eq-eqb object q (sym at.0) in
              let was = kept.counted q number (subst (λ k. slice_get counts k ≡ Some number) (sym at.0) counted) in
              let now : count_made_on q (map made_view (made ++ new ∷ [])) ≡ count_made_on q (map made_view made) + 1 = rw own at count in
              omega (arith, was, now, at.1))
          | inr old ↦ (
              let other : eqb object q ≡ false = false_from (eqb object q) (λ e. old.0 (sym (eqb-true object q e))) in
              let was = kept.counted q n old.1 in
              let now : count_made_on q (map made_view (made ++ new ∷ [])) ≡ count_made_on q (map made_view made) + 0 = rw other at count in
              omega (arith, was, now))
        ]

    limited-call : slice_get counts object ≡ Some number → number < MAX_CALLS_ON_OBJECT → AreMadeWithinLimit (made ++ new ∷ [])
    limited-call counted room q =
        let count = count-call made p object number (events + 1) op q in
        elim (eqb_tells object q) [
          | inl own ↦ (
              let was = kept.counted q number (subst (λ k. slice_get counts k ≡ Some number) own.1 counted) in
              let now : count_made_on q (map made_view (made ++ new ∷ [])) ≡ count_made_on q (map made_view made) + 1 = rw own.0 at count in
              omega (arith, was, now, room))
          | inr other ↦ (
              let old = kept.limited q in
              let now : count_made_on q (map made_view (made ++ new ∷ [])) ≡ count_made_on q (map made_view made) + 0 = rw other.0 at count in
              omega (arith, old, now))
        ]

    pub kept-call : find (is_last_of p) (map made_view made) ≡ None → slice_get counts object ≡ Some number → length made < MAX_CALLS → number < MAX_CALLS_ON_OBJECT → last p ≡ Some (length made)
        → IsBuilderState objects (made ++ new ∷ []) (events + 1) last (set counts object (number + 1))
    kept-call idle counted room room_on known =
        let was = kept.recording in
        let within = slice_get_within counts object number counted in
        let each = kept.each in
        let below : object < length objects = omega (arith, within, each) in
        let more = length-append made (new ∷ []) in
        record {
          recording = (was.0 ++ calls p object op ∷ [], subst (λ r. IsRecordingOf (was.0 ++ calls p object op ∷ []) r) (sym (recorded-call objects made events p object number op)) (adds-call (recorded objects made events) p object op idle below was.0 was.1));
          last_known = last-call known;
          counted = counted-call counted;
          each = length-set counts object (number + 1) ∙ each;
          room = kept.room;
          few = omega (arith, more, room);
          limited = limited-call counted room_on;
          events_are = (let more_left = length_filter-push has_no_reply made new in let were = kept.events_are in omega (arith, more, more_left, were));
          named = kept.named;
        }

  -- the pending call of the process went on so
  module _ (p i : ℕ) (c d : CallInfo) (x : Outcome Reply) (there : slice_get made i ≡ Some c) (pends : is_pending_of p (made_view c) ≡ true)
      (seen : made_view d ≡ record (made_view c) { outcome = x }) where
    settled-call : made_view d ≡ settled p x (made_view c)
    settled-call = rw pends seen

    settled-other : (j : ℕ) (y : Made Op Reply) → slice_get (map made_view made) j ≡ Some y → j ≢ i → settled p x y ≡ y
    settled-other j y at other =
        let closed : is_pending_of p y ≡ false = false_from (is_pending_of p y) (λ e. other (only_last last made p kept.last_known i c there (last_if_pending p (made_view c) pends) j y at (last_if_pending p y e))) in
        rw closed refl

    pub recorded-end : (more : ℕ) → recorded objects (set made i d) more ≡ record { objects = objects; made = map (settled p x) (map made_view made); events = more }
    recorded-end more =
        let at : slice_get (map made_view made) i ≡ Some (made_view c) = rw (slice_get-map made_view made i, there) refl in
        let f : List (Made Op Reply) → Recording = λ ms. record { objects = objects; made = ms; events = more } in
        ap f (map-set made_view made i d
        ∙ ap (set (map made_view made) i) settled-call
        ∙ sym (map-set_one (settled p x) (map made_view made) i (made_view c) at settled-other))

    same_object : d.object ≡ c.object
    same_object = ap (λ m. m.object) seen

    same_process : d.process ≡ c.process
    same_process = ap (λ m. m.process) seen

    count-end : (q : ℕ) → count_made_on q (map made_view (set made i d)) ≡ count_made_on q (map made_view made)
    count-end q = length_filter-set_all (is_made_on q) made_view made i c d there (ap (λ o. o == q) same_object)

    last-end : KnowsLast last (set made i d)
    last-end j e at is_last =
        elim (slice_get-set made i d j e at) [
          | inl new ↦ (
              let parts = pending_parts p (made_view c) pends in
              let was = kept.last_known i c there (subst (λ q. is_last_of q (made_view c) ≡ true) (sym parts.0) (last_if_pending p (made_view c) pends)) in
              let own : c.process ≡ e.process = sym same_process ∙ ap (λ y. y.process) new.1 in
              subst (λ q. last q ≡ Some j) own (was ∙ ap Some (sym new.0)))
          | inr old ↦ kept.last_known j e old.1 is_last
        ]

    -- by this event
    module _ (event : ℕ → Event Op Reply) (more : ℕ) (is : Ends event p) (settles : Settles (event c.object) p (events + 1) x) (numbers : more ≡ events + numbered (event c.object ∷ [])) where
      next_here : Next (stage_of (last_call (recorded objects made events) p)) (event c.object)
      next_here =
          let found = found-last last made p kept.last_known i c there (last_if_pending p (made_view c) pends) in
          let stage = ap stage_of found ∙ pending_stage (made_view c) p c.object pends refl in
          subst (λ s. Next s (event c.object)) (sym stage) (is.next c.object)

      -- the event is added
      pub added-end : (was : List (Event Op Reply)) → IsRecordingOf was (recorded objects made events) → IsRecordingOf (was ++ event c.object ∷ []) (recorded objects (set made i d) more)
      added-end was of_was =
          subst (λ r. IsRecordingOf (was ++ event c.object ∷ []) r) (sym (recorded-end more))
          (adds-end (recorded objects made events) p (event c.object) x settles (is.own c.object) more numbers next_here was of_was)

      pub kept-end : more + length (filter has_no_reply (set made i d)) ≡ events + length (filter has_no_reply made) → IsBuilderState objects (set made i d) more last counts
      kept-end balance =
          let was = kept.recording in
          let same = length-set made i d in
          record {
            recording = (was.0 ++ event c.object ∷ [], added-end was.0 was.1);
            last_known = last-end;
            counted = λ q n at. kept.counted q n at ∙ sym (count-end q);
            each = kept.each;
            room = kept.room;
            few = (let few = kept.few in omega (arith, few, same));
            limited = λ q. (let count = count-end q in let old = kept.limited q in omega (arith, count, old));
            events_are = (let were = kept.events_are in omega (arith, balance, same, were));
            named = kept.named;
          }
