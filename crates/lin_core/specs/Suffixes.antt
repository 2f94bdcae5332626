-- What a linearization of a problem leaves to the calls of a window of its events, whatever the object held before (this project's
-- own).
use Rattle.std.specs.Prelude.{◌≡◌, ◌⊎◌, ℕ, ◌<◌, nat_le, ℤ, pos, Bool, true, false, not, ◌&&◌, Option, Some, None, List, [], ◌∷◌, length}
use Rattle.std.specs.Ordering.{int_eq}
use Rattle.lin_object.specs.declared.op.Op.{Op}
use Rattle.lin_object.specs.declared.op.Op.TheVariants.{Put, Lookup, Delete}
use Rattle.lin_object.specs.declared.pairs.Pair.{Pair}
use Rattle.lin_object.specs.declared.reply.Reply.{Reply}
use Rattle.lin_object.specs.declared.state.ObjState.{ObjState}
use Rattle.lin_object.specs.declared.state.ObjState.TheVariants.{Register, Set, Mutex, Map}
use Rattle.lin_object.specs.contracts.reply.ReplyPartialEq.TheImpl.{eq-value as reply_eq}
use Rattle.lin_object.specs.contracts.state.ObjStatePartialEq.TheImpl.{eq-value as state_eq}
use Rattle.lin_object.specs.Items.{is_in}
use Rattle.lin_object.specs.Kinds.{after}
use Rattle.lin_object.specs.StepAnswers.{ChangesNothing}
use Rattle.lin_history.specs.declared.problems.problem.ProblemCall.{ProblemCall}
use Rattle.lin_history.specs.Problems.Problem.{Problem}
use Rattle.lin_history.specs.Problems.Linearizations.{IsLinearization}
use Rattle.lin_parts.specs.Parts.{named}
use Rattle.lin_core.specs.Laws.{IsSomeOf, Any, IsIdle, IsOn, IsOff}
use Rattle.lin_core.specs.KeyValues.{may_tell, IsOnKey, IsOffKey, IsMap}
use Rattle.lin_core.specs.Windows.{AreEnoughWithin}

-- The problem with these calls in place of its own, from this state on.
abbrev pub part_from : {State Op Reply : Type 0} → Problem State Op Reply → State → List (ProblemCall Op Reply) → Problem State Op Reply
part_from p state calls = record p { start = state; calls = calls }

-- Of each linearization of the whole some of its calls, which have the numbers kept, are a linearization of these calls from some
-- such state on.
abbrev pub IsLeftFrom : {State Op Reply : Type 0} → Problem State Op Reply → (State → Type 0) → List ℕ → List (ProblemCall Op Reply) → Type 0
IsLeftFrom {State} p Begins kept calls = (l : List ℕ) → IsLinearization p l → (s : State) × Begins s × (m : List ℕ) × IsLinearization (part_from p s calls) m × IsSomeOf (named kept m) l

abbrev pub IsAnyState : {State : Type 0} → State → Type 0
IsAnyState s = Unit {0}

-- The calls of a window, of which those that change nothing may be left out: of any lawful object.
abbrev pub SuffixLaw : {State Op Reply : Type 0} → Problem State Op Reply → Type 0
SuffixLaw {Op = Op} {Reply = Reply} p = (from event : ℕ) (kept : List ℕ) (calls : List (ProblemCall Op Reply)) → AreEnoughWithin p from event kept calls Any (IsIdle p) → IsLeftFrom p IsAnyState kept calls

-- ---- on some values: the values of a register, an item of a set, the processes of a mutex

-- There are states that stand for all others.
abbrev pub HasBeginnings : List ℤ → ObjState → Type 0
HasBeginnings values (Register z) = Unit {0}
HasBeginnings values (Set items) = length values ≡ 1
HasBeginnings values (Mutex holder) = Unit {0}
HasBeginnings values s = ⊥

-- Such a state: each of the values, and that of the start for all others; with the item or without it; free, or held by each of
-- the processes.
abbrev pub IsBeginning : List ℤ → ObjState → ObjState → Type 0
IsBeginning values (Register z) u = (u ≡ Register z) ⊎ ((v : ℤ) × (is_in v values ≡ true) × (u ≡ Register v))
IsBeginning values (Set items) u = (u ≡ Set []) ⊎ (u ≡ Set values)
IsBeginning values (Mutex holder) u = (u ≡ Mutex None) ⊎ ((q : ℕ) × (is_in (pos q) values ≡ true) × (u ≡ Mutex (Some q)))
IsBeginning values s u = ⊥

abbrev pub SuffixValuesLaw : Problem ObjState Op Reply → Type 0
SuffixValuesLaw p = (values : List ℤ) (from event : ℕ) (kept : List ℕ) (calls : List (ProblemCall Op Reply)) → HasBeginnings values p.start → AreEnoughWithin p from event kept calls (IsOn values) (IsOff values) → IsLeftFrom p (IsBeginning values p.start) kept calls

-- ---- on one key of a map

-- The map has nothing, or one of the values at the key.
abbrev pub IsKeyBeginning : ℤ → List ℤ → ObjState → Type 0
IsKeyBeginning key values u = (u ≡ Map []) ⊎ ((v : ℤ) × (is_in v values ≡ true) × (u ≡ Map (record { key = key; value = v } ∷ [])))

-- The calls on some values of the key.
abbrev pub SuffixKeyValuesLaw : Problem ObjState Op Reply → Type 0
SuffixKeyValuesLaw p = (key : ℤ) (nothing : Bool) (values : List ℤ) (from event : ℕ) (kept : List ℕ) (calls : List (ProblemCall Op Reply)) → IsMap p.start → AreEnoughWithin p from event kept calls (IsOnKey key nothing values) (IsOffKey key nothing values) → IsLeftFrom p (IsKeyBeginning key values) kept calls

-- The call is on the key, and tells of no value but one of those seen.
abbrev pub is_at_key : ℤ → List ℤ → Op → Option (ℕ × Reply) → Bool
is_at_key key seen (Put k v) returned = int_eq k key
is_at_key key seen (Lookup k) returned = int_eq k key && may_tell true seen returned
is_at_key key seen (Delete k) returned = int_eq k key
is_at_key key seen op returned = false

-- It is a put or a delete of another key.
abbrev pub is_away : ℤ → Op → Bool
is_away key (Put k v) = not (int_eq k key)
is_away key (Delete k) = not (int_eq k key)
is_away key op = false

abbrev pub IsAtKey : ℤ → List ℤ → ProblemCall Op Reply → Type 0
IsAtKey key seen x = is_at_key key seen x.op x.returned ≡ true

-- It is a put or a delete of another key, or changes nothing at all.
abbrev pub IsBesideKey : ℤ → ProblemCall Op Reply → Type 0
IsBesideKey key x = (is_away key x.op ≡ true) ⊎ ChangesNothing state_eq.it reply_eq.it after x.op x.returned

-- All calls on the key that change anything, where the other value stands for all that no reply gives.
abbrev pub SuffixKeyLaw : Problem ObjState Op Reply → Type 0
SuffixKeyLaw p = (key other : ℤ) (seen : List ℤ) (from event : ℕ) (kept : List ℕ) (calls : List (ProblemCall Op Reply)) → IsMap p.start → is_in other seen ≡ false → AreEnoughWithin p from event kept calls (IsAtKey key seen) (IsBesideKey key) → IsLeftFrom p (IsKeyBeginning key (other ∷ seen)) kept calls

-- The call returned by the event.
abbrev pub is_back_by : ℕ → Option (ℕ × Reply) → Bool
is_back_by event None = false
is_back_by event (Some r) = nat_le r.0 event

-- The call on the key counts, and tells of no value but one of those seen: it returned by the event, or puts or finds the value.
abbrev pub IsAtKeyUntil : ℤ → List ℤ → ℤ → ℕ → ProblemCall Op Reply → Type 0
IsAtKeyUntil key seen value event x = IsAtKey key seen x × ((is_back_by event x.returned ≡ true) ⊎ IsOnKey key false (value ∷ []) x)

-- It changes nothing of the key; or it was called after the event, and does not put the value.
abbrev pub IsBesideKeyAfter : ℤ → ℤ → ℕ → ProblemCall Op Reply → Type 0
IsBesideKeyAfter key value event x = IsBesideKey key x ⊎ ((event < x.called) × IsOffKey key false (value ∷ []) x)

-- The calls on the key that count up to an event, and from there on those on one value alone. Until all that returned by the event have
-- come both maps are alike; then the part has the value where the whole has it.
abbrev pub SuffixKeyLaterLaw : Problem ObjState Op Reply → Type 0
SuffixKeyLaterLaw p = (key other value : ℤ) (seen : List ℤ) (after from event : ℕ) (kept : List ℕ) (calls : List (ProblemCall Op Reply)) → IsMap p.start → is_in other seen ≡ false → is_in value seen ≡ true → AreEnoughWithin p from event kept calls (IsAtKeyUntil key seen value after) (IsBesideKeyAfter key value after) → IsLeftFrom p (IsKeyBeginning key (other ∷ seen)) kept calls
