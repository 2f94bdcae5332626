-- The calls that did not fail, as a builder keeps them and as a history has them.
use Rattle.std.proofs.Common.{◌≡◌, ℕ, ◌<◌, Bool, true, false, cond, Option, Some, None, List, [], ◌∷◌, map, filter, length, slice_get, refl, sym, ap, ◌∙◌, arith}
use Rattle.std.proofs.lemmas.Option.{slice_get-map}
use Rattle.lin_object.specs.declared.op.Op.{Op}
use Rattle.lin_object.specs.declared.reply.Reply.{Reply}
use Rattle.lin_history.specs.declared.recorder.history.CallInfo.{CallInfo}
use Rattle.lin_history.specs.declared.recorder.history.Mark.{Mark}
use Rattle.lin_history.specs.declared.recorder.history.Mark.TheVariants.{Unmarked, Failed, Ended}
use Rattle.lin_history.specs.Recorder.Events.{Event, Call, Made, is_kept, return_in, call_of, calls_of}
use Rattle.lin_history.specs.Recorder.RecordedHistory.{DeclaredObject, IsHistoryOf, is_on}
use Rattle.lin_history.specs.Recorder.Recording.{Recording, IsRecordingOf, history_of, is_made_on}
use Rattle.lin_history.specs.Recorder.Views.{call_view, AreWithinLimit}
use Rattle.lin_history.specs.Recorder.BuilderState.{outcome_by, made_view, AreMadeWithinLimit, IsBuilderState}
use Rattle.lin_history.proofs.ListLemmas.{length_filter-twice}
use Rattle.lin_history.proofs.ProblemLemmas.EventNumberLemmas.{was_made, filtered}

-- the return of a call is what is kept as one, whatever its mark
return_by : (mark : Mark) (r : Option (ℕ × Reply)) → return_in (outcome_by mark r) ≡ r
return_by Unmarked None = refl
return_by Failed None = refl
return_by Ended None = refl
return_by Unmarked (Some r) = refl
return_by Failed (Some r) = refl
return_by Ended (Some r) = refl

call_seen : (c : CallInfo) → call_of (made_view c) ≡ call_view c
call_seen c =
    let f : Option (ℕ × Reply) → Call Op Reply = λ r. record { process = c.process; object = c.object; op = c.op; called = c.called; returned = r } in
    ap f (return_by c.mark c.returned)

-- the calls that are kept, as those of a history
pub kept_seen : (calls : List CallInfo) → map call_view (filter (λ c. is_kept (made_view c)) calls) ≡ calls_of (map made_view calls)
kept_seen [] = refl
kept_seen (c ∷ calls) = by_test (is_kept (made_view c)) (kept_seen calls)
  where
    by_test : (b : Bool) → map call_view (filter (λ x. is_kept (made_view x)) calls) ≡ calls_of (map made_view calls)
        → map call_view (cond b (c ∷ filter (λ x. is_kept (made_view x)) calls) (filter (λ x. is_kept (made_view x)) calls)) ≡ map call_of (cond b (made_view c ∷ filter is_kept (map made_view calls)) (filter is_kept (map made_view calls)))
    by_test true rest = ap (λ x. x ∷ map call_view (filter (λ y. is_kept (made_view y)) calls)) (sym (call_seen c)) ∙ ap (λ xs. call_of (made_view c) ∷ xs) rest
    by_test false rest = rest

-- a call that is kept is on an object that is there
pub kept_below : (calls : List CallInfo) (n : ℕ) → ((i : ℕ) (c : CallInfo) → slice_get calls i ≡ Some c → c.object < n)
    → (i : ℕ) (c : CallInfo) → slice_get (filter (λ x. is_kept (made_view x)) calls) i ≡ Some c → c.object < n
kept_below calls n below i c there = let was = filtered (λ x. is_kept (made_view x)) calls i c there in below was.0 c was.1

-- no more calls of the history are on an object than were made on it
count_mapped : (object : ℕ) (made : List (Made Op Reply)) → length (filter (is_on object) (map call_of made)) ≡ length (filter (is_made_on object) made)
count_mapped object [] = refl
count_mapped object (m ∷ made) = by_test (is_made_on object m) (count_mapped object made)
  where
    by_test : (b : Bool) → length (filter (is_on object) (map call_of made)) ≡ length (filter (is_made_on object) made)
        → length (cond b (call_of m ∷ filter (is_on object) (map call_of made)) (filter (is_on object) (map call_of made))) ≡ length (cond b (m ∷ filter (is_made_on object) made) (filter (is_made_on object) made))
    by_test true rest = omega (arith, rest)
    by_test false rest = rest

pub kept_limited : (calls : List CallInfo) → AreMadeWithinLimit calls → AreWithinLimit (calls_of (map made_view calls))
kept_limited calls limited object =
    let all = limited object in
    let some = length_filter-twice (is_made_on object) is_kept (map made_view calls) in
    let same = count_mapped object (filter is_kept (map made_view calls)) in
    omega (arith, all, some, same)

-- the events of a recording are those of its history
pub is_history : (events : List (Event Op Reply)) (r : Recording) → IsRecordingOf events r → IsHistoryOf events (history_of r)
is_history events r is =
    record {
      well_formed = is.well_formed;
      calls_are = ap calls_of is.made_are;
      count = is.count;
      declared = λ i c there. (
          let was = was_made r.made i c there in
          let below = is.declared was.0 was.1 was.2 in
          let same = ap (λ (x : Call Op Reply). x.object) was.3 in
          omega (arith, below, same));
    }

-- each call that was made is on an object that has a count
pub made_below : (objects : List DeclaredObject) (calls : List CallInfo) (events : ℕ) (last : ℕ → Option ℕ) (counts : List ℕ) → IsBuilderState objects calls events last counts
    → (i : ℕ) (c : CallInfo) → slice_get calls i ≡ Some c → c.object < length counts
made_below objects calls events last counts kept i c there =
    let seen : slice_get (map made_view calls) i ≡ Some (made_view c) = rw (slice_get-map made_view calls i, there) refl in
    let below = kept.recording.1.declared i (made_view c) seen in
    let each = kept.each in
    omega (arith, below, each)
