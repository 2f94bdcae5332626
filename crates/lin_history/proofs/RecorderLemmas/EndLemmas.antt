-- The pending call of a process that returns or fails, or with which its process ends: what a builder keeps then.
use Rattle.std.proofs.Common.{◌≡◌, ℕ, ◌+◌, true, Option, Some, None, IfSome, IsSomeAnd, List, [], ◌∷◌, map, filter, set, length, slice_get, refl, sym, ap, subst, ◌∙◌, arith, eqb}
use Rattle.std.proofs.lemmas.Bool.{eq-eqb}
use Rattle.lin_object.specs.declared.op.Op.{Op}
use Rattle.lin_object.specs.declared.reply.Reply.{Reply}
use Rattle.lin_history.specs.declared.recorder.found.FoundObject.{FoundObject}
use Rattle.lin_history.specs.declared.recorder.history.CallInfo.{CallInfo}
use Rattle.lin_history.specs.declared.recorder.history.Mark.{Mark}
use Rattle.lin_history.specs.declared.recorder.history.Mark.TheVariants.{Unmarked, Failed, Ended}
use Rattle.lin_history.specs.Refusals.{first_that_holds}
use Rattle.lin_history.specs.Recorder.Events.{Event, returns_, fails, ends, numbered, Made, Outcome, pending, unknown, failed, replied}
use Rattle.lin_history.specs.Recorder.RecordedHistory.{DeclaredObject}
use Rattle.lin_history.specs.Recorder.Recording.{is_pending_of, last_call, settled, index_named, end_refusals}
use Rattle.lin_history.specs.Recorder.Names.{is_name}
use Rattle.lin_history.specs.Recorder.Found.{IsFound}
use Rattle.lin_history.specs.Recorder.BuilderState.{outcome_by, made_view, recorded, has_no_reply, IsBuilderState, IsPendingOn}
use Rattle.lin_history.specs.Recorder.NextEvents.{Adds}
use Rattle.lin_history.proofs.ListLemmas.{length_filter-same, length_filter-less}
use Rattle.lin_history.proofs.RecorderLemmas.EventLemmas.{Settles, return_settles, fail_settles, end_settles}
use Rattle.lin_history.proofs.RecorderLemmas.NextEventLemmas.{pending_parts, Ends, return_ends, fail_ends, end_ends}
use Rattle.lin_history.proofs.RecorderLemmas.BuilderLemmas.{recorded-end, added-end, kept-end}

-- a pending call has not returned
no_reply_by : (mark : Mark) (r : Option (ℕ × Reply)) → outcome_by mark r ≡ pending → r ≡ None
no_reply_by mark None e = refl
no_reply_by Unmarked (Some r) e = absurd (cc)
no_reply_by Failed (Some r) e = absurd (cc)
no_reply_by Ended (Some r) e = absurd (cc)

no_reply : (p : ℕ) (c : CallInfo) → is_pending_of p (made_view c) ≡ true → c.returned ≡ None
no_reply p c pends = no_reply_by c.mark c.returned (pending_parts p (made_view c) pends).1

replied_by : (mark : Mark) (number : ℕ) (reply : Reply) → outcome_by mark (Some (number, reply)) ≡ replied number reply
replied_by Unmarked number reply = refl
replied_by Failed number reply = refl
replied_by Ended number reply = refl

abbrev with_outcome : CallInfo → Outcome Reply → Made Op Reply
with_outcome c x = record (made_view c) { outcome = x }

-- The call of this index is the pending one of the process, on the object of this name.
pub record IsPendingAt (objects : List DeclaredObject) (calls : List CallInfo) (process : ℕ) (name : List ℕ) (i : ℕ) : Type 0 where
  pub call : CallInfo
  pub there : slice_get calls i ≡ Some call
  pub pends : is_pending_of process (made_view call) ≡ true
  pub valid : is_name name ≡ true
  pub named : index_named (recorded objects calls 0) name ≡ Some call.object
  pub found : last_call (recorded objects calls 0) process ≡ Some (made_view call)

-- So it is where the object was found by that name.
pub pending_at : (objects : List DeclaredObject) (calls : List CallInfo) (events process : ℕ) (found : FoundObject) (i : ℕ) → IsFound (recorded objects calls events) found
    → IsPendingOn calls process found.index i → IsPendingAt objects calls process found.name.now i
pending_at objects calls events process found i is on = record {
  call = on.call;
  there = on.there;
  pends = on.pends;
  valid = is.valid;
  named = is.named ∙ ap Some (sym on.on);
  found = on.found;
}

-- What a step tells that ends the pending call of a process by an event on the named object.
pub record IsEnded (objects : List DeclaredObject) (made : List CallInfo) (events : ℕ) (last : ℕ → Option ℕ) (counts : List ℕ) (p : ℕ) (name : List ℕ)
    (event : ℕ → Event Op Reply) (x : Outcome Reply) (left : List CallInfo) (more : ℕ) : Type 0 where
  pub sound : first_that_holds (end_refusals (recorded objects made events) p name) ≡ None
  pub kept : IsBuilderState objects left more last counts
  pub same : recorded objects left more ≡ record { objects = objects; made = map (settled p x) (map made_view made); events = more }
  pub added : IsSomeAnd (index_named (recorded objects made events) name) (λ object. Adds (recorded objects made events) (event object) (recorded objects left more))

module _ (objects : List DeclaredObject) (made : List CallInfo) (events : ℕ) (last : ℕ → Option ℕ) (counts : List ℕ) (kept : IsBuilderState objects made events last counts)
    (p : ℕ) (name : List ℕ) (i : ℕ) (at : IsPendingAt objects made p name i) where
  sound_at : first_that_holds (end_refusals (recorded objects made events) p name) ≡ None
  sound_at =
      let parts = pending_parts p (made_view at.call) at.pends in
      let here : eqb at.call.object at.call.object ≡ true = eq-eqb at.call.object at.call.object refl in
      rw (at.valid, at.named, at.found, parts.1, here) refl

  -- the call as it is kept then
  module _ (d : CallInfo) (x : Outcome Reply) (seen : made_view d ≡ with_outcome at.call x) (event : ℕ → Event Op Reply) (is : Ends event p)
      (settles : (o : ℕ) → Settles (event o) p (events + 1) x) (more : ℕ) (numbers : (o : ℕ) → more ≡ events + numbered (event o ∷ [])) where
    ended_at : more + length (filter has_no_reply (set made i d)) ≡ events + length (filter has_no_reply made) → IsEnded objects made events last counts p name event x (set made i d) more
    ended_at balance =
        let o = at.call.object in
        record {
          sound = sound_at;
          kept = kept-end objects made events last counts kept p i at.call d x at.there at.pends seen event more is (settles o) (numbers o) balance;
          same = recorded-end objects made events last counts kept p i at.call d x at.there at.pends seen more;
          added = subst (λ j. IsSomeAnd j (λ object. Adds (recorded objects made events) (event object) (recorded objects (set made i d) more))) (sym at.named)
              (added-end objects made events last counts kept p i at.call d x at.there at.pends seen event more is (settles o) (numbers o));
        }

  -- a mark is put on it, by an event that has no number
  pub is_marked : (mark : Mark) (x : Outcome Reply) (event : ℕ → Event Op Reply) (left : List CallInfo) → outcome_by mark None ≡ x → Ends event p → ((o : ℕ) → Settles (event o) p (events + 1) x)
      → ((o : ℕ) → numbered (event o ∷ []) ≡ 0) → IfSome (slice_get made i) (λ c. left ≡ set made i (record c { mark = mark })) → IsEnded objects made events last counts p name event x left events
  is_marked mark x event left by is settles none marked =
      let d : CallInfo = record at.call { mark = mark } in
      let seen : made_view d ≡ with_outcome at.call x = ap (with_outcome at.call) (ap (outcome_by mark) (no_reply p at.call at.pends) ∙ by) in
      let balance = ap (λ n. events + n) (length_filter-same has_no_reply made i at.call d at.there refl) in
      let left_is : left ≡ set made i d = rw at.there at marked in
      rw left_is (ended_at d x seen event is settles events (λ o. let zero_ = none o in omega (arith, zero_)) balance)

  -- it failed
  pub has_failed : (left : List CallInfo) → IfSome (slice_get made i) (λ c. left ≡ set made i (record c { mark = Failed })) → IsEnded objects made events last counts p name (λ o. fails p o) failed left events
  has_failed left marked = is_marked Failed failed (λ o. fails p o) left refl (fail_ends p) (λ o. fail_settles p o (events + 1)) (λ o. refl) marked

  -- its process ended
  pub is_over : (left : List CallInfo) → IfSome (slice_get made i) (λ c. left ≡ set made i (record c { mark = Ended })) → IsEnded objects made events last counts p name (λ o. ends p o) unknown left events
  is_over left marked = is_marked Ended unknown (λ o. ends p o) left refl (end_ends p) (λ o. end_settles p o (events + 1)) (λ o. refl) marked

  -- it returned
  pub has_returned : (reply : Reply) (left : List CallInfo) → IfSome (slice_get made i) (λ c. left ≡ set made i (record c { returned = Some (events + 1, reply) }))
      → IsEnded objects made events last counts p name (λ o. returns_ p o reply) (replied (events + 1) reply) left (events + 1)
  has_returned reply left returned =
      let d : CallInfo = record at.call { returned = Some (events + 1, reply) } in
      let seen : made_view d ≡ with_outcome at.call (replied (events + 1) reply) = ap (with_outcome at.call) (replied_by at.call.mark (events + 1) reply) in
      let was_open : has_no_reply at.call ≡ true = rw (no_reply p at.call at.pends) refl in
      let fewer = length_filter-less has_no_reply made i at.call d at.there was_open refl in
      let left_is : left ≡ set made i d = rw at.there at returned in
      rw left_is (ended_at d (replied (events + 1) reply) seen (λ o. returns_ p o reply) (return_ends p reply) (λ o. return_settles p o (events + 1) reply) (events + 1) (λ o. refl) (omega (arith, fewer)))
