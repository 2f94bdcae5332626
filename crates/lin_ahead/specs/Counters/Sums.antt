-- Adds that are too much for a `get` of a counter, by how far the calls before it can have added (this project's own).
use Rattle.std.specs.Prelude.{◌≡◌, ◌≢◌, ℕ, ◌+◌, ◌<◌, ◌≤◌, ◌^◌, ℤ, Bool, true, false, not, Option, Some, List, [], ◌∷◌, ◌++◌, ◌⊎◌, slice_get, length, take}
use Rattle.lin_object.specs.declared.op.Op.{Op}
use Rattle.lin_object.specs.declared.op.Op.TheVariants.{Get}
use Rattle.lin_object.specs.declared.reply.Reply.{Reply}
use Rattle.lin_object.specs.declared.reply.Reply.TheVariants.{Int}
use Rattle.lin_object.specs.declared.state.ObjState.{ObjState}
use Rattle.lin_history.specs.declared.problems.problem.ProblemCall.{ProblemCall}
use Rattle.lin_history.specs.declared.problems.timeline.ProblemEvent.{ProblemEvent}
use Rattle.lin_history.specs.declared.problems.timeline.ProblemEvent.TheVariants.{Call, Return}
use Rattle.lin_history.specs.Problems.Problem.{Problem}
use Rattle.lin_history.specs.Problems.Lists.{In, IsDistinct}
use Rattle.lin_history.specs.Problems.Precedence.{Before}
use Rattle.lin_history.specs.Problems.Continuations.{has}
use Rattle.lin_history.specs.Problems.Linearizations.{IsLinearization}
use Rattle.lin_laws.specs.Shares.{share_in, share_of_call, sum_of_shares}
use Rattle.lin_ahead.specs.declared.counters.rows.SumLimit.{SumLimit}
use Rattle.lin_ahead.specs.declared.counters.rows.SumRows.{SumRows}

-- The number is the height of an integer in a direction: how far it is beyond 2^63 the other way.
abbrev pub IsHeight : Bool → ℤ → ℕ → Type 0
IsHeight up value n = n + share_in (not up) value ≡ 2 ^ 63 + share_in up value

-- The number is the sum of what all those calls add in a direction of which P holds.
abbrev pub IsSumOfAll : Problem ObjState Op Reply → Bool → (ℕ → Type 0) → ℕ → Type 0
IsSumOfAll p up P n = (l : List ℕ) × IsDistinct l × ((c : ℕ) → (In c l → P c) × (P c → In c l)) × (n ≡ sum_of_shares up p.calls l)

-- Call a may come before call g: g does not precede it.
abbrev pub MayStandBefore : Problem ObjState Op Reply → ℕ → ℕ → Type 0
MayStandBefore p g a = (a < length p.calls) × (Before p g a → ⊥)

-- Call g is a get that returned with the value.
abbrev pub Got : Problem ObjState Op Reply → ℕ → ℤ → Type 0
Got p g value = (x : ProblemCall Op Reply) × (slice_get p.calls g ≡ Some x) × (x.op ≡ Get) × ((n : ℕ) × (x.returned ≡ Some (n, Int value)))

-- The limit of a completed get in a direction: the height of the start with all that precedes the get adds, and the height of
-- its reply with all that may come before it adds the other way.
pub record IsLimit (p : Problem ObjState Op Reply) (start : ℤ) (up : Bool) (g : ℕ) (limit : SumLimit) : Type 0 where
  pub value : ℤ
  pub got : Got p g value
  pub low : ℕ
  pub is_low : IsHeight up start low
  pub before : ℕ
  pub is_before : IsSumOfAll p up (λ a. Before p a g) before
  pub least : limit.least ≡ low + before
  pub high : ℕ
  pub is_high : IsHeight up value high
  pub through : ℕ
  pub is_through : IsSumOfAll p (not up) (MayStandBefore p g) through
  pub most : limit.most ≡ high + through

-- A row has the limits of the completed gets, and of no other call.
pub record AreLimits (p : Problem ObjState Op Reply) (start : ℤ) (up : Bool) (row : List (Option SumLimit)) : Type 0 where
  pub each : length row ≡ length p.calls
  pub limits : (g : ℕ) (limit : SumLimit) → slice_get row g ≡ Some (Some limit) → IsLimit p start up g limit
  pub every : (g : ℕ) (value : ℤ) → Got p g value → (limit : SumLimit) × (slice_get row g ≡ Some (Some limit))

-- The row of the direction.
abbrev pub row_of : SumRows → Bool → List (Option SumLimit)
row_of rows true = rows.up.items
row_of rows false = rows.down.items

-- Distinct calls of the set other than call c, from one number to before another, that do not precede g, add so much at least.
pub record AddFreely (p : Problem ObjState Op Reply) (set : List Bool) (up : Bool) (g c from to : ℕ) (n : ℕ) : Type 0 where
  pub calls : List ℕ
  pub distinct : IsDistinct calls
  pub within : (a : ℕ) → In a calls → (from ≤ a) × (a < to)
  pub free : (a : ℕ) → In a calls → (has set a ≡ true) × (a ≢ c) × (Before p a g → ⊥)
  pub sum : n ≤ sum_of_shares up p.calls calls

-- Call a adds so much and does not precede g, or the number is 0.
abbrev pub IsFreeShare : Problem ObjState Op Reply → Bool → ℕ → ℕ → ℕ → Type 0
IsFreeShare p up g a n = (n ≡ 0) ⊎ ((n ≡ share_of_call up (slice_get p.calls a)) × (Before p a g → ⊥))

-- The same, and call a is in the set and not call c.
abbrev pub IsLiftedShare : Problem ObjState Op Reply → List Bool → Bool → ℕ → ℕ → ℕ → ℕ → Type 0
IsLiftedShare p set up g c a n = (n ≡ 0) ⊎ ((n ≡ share_of_call up (slice_get p.calls a)) × (Before p a g → ⊥) × (has set a ≡ true) × (a ≢ c))

-- Distinct calls, each of them c or in the set, that do not precede g, add so much at least.
pub record IsLoad (p : Problem ObjState Op Reply) (set : List Bool) (up : Bool) (g c : ℕ) (n : ℕ) : Type 0 where
  pub calls : List ℕ
  pub distinct : IsDistinct calls
  pub free : (a : ℕ) → In a calls → ((a ≡ c) ⊎ (has set a ≡ true)) × (Before p a g → ⊥)
  pub sum : n ≤ sum_of_shares up p.calls calls

-- Call c is too much for a get outside the set: what the set's calls and c add, without those that precede the get, is more
-- than the get's limit leaves room for.
pub record IsOver (p : Problem ObjState Op Reply) (rows : SumRows) (set : List Bool) (c : ℕ) : Type 0 where
  pub up : Bool
  pub get : ℕ
  pub limit : SumLimit
  pub there : slice_get (row_of rows up) get ≡ Some (Some limit)
  pub outside : has set get ≡ false
  pub other : get ≢ c
  pub load : ℕ
  pub is_load : IsLoad p set up get c load
  pub more : limit.most < limit.least + load

-- No call of a linearization is too much, where the set is that of the calls before it.
abbrev pub NoneIsOver : Problem ObjState Op Reply → SumRows → Type 0
NoneIsOver p rows = (l early rest : List ℕ) (c : ℕ) (set : List Bool) → IsLinearization p l → l ≡ early ++ c ∷ rest → ((a : ℕ) → (has set a ≡ true → In a early) × (In a early → has set a ≡ true)) → IsOver p rows set c → ⊥

-- ---- how the sums are found, by one pass over the events

-- The event of a call that is counted, or else the one at which is asked how much was counted: where returns are counted, the
-- call events ask, and the other way round.
abbrev pub event_of : Bool → Bool → ℕ → ProblemEvent
event_of true true c = Return c
event_of true false c = Call c
event_of false true c = Call c
event_of false false c = Return c

-- The calls whose counted events are among these events.
abbrev pub counted : Bool → List ProblemEvent → List ℕ
counted returns [] = []
counted true (Return c ∷ es) = c ∷ counted true es
counted true (Call c ∷ es) = counted true es
counted false (Call c ∷ es) = c ∷ counted false es
counted false (Return c ∷ es) = counted false es

-- For each call the sum of what those calls add that are counted before its own event is met.
pub record AreSumsAt (p : Problem ObjState Op Reply) (up returns : Bool) (events : List ProblemEvent) (row : List ℕ) : Type 0 where
  pub each : length row ≡ length p.calls
  pub sums : (i g : ℕ) → slice_get events i ≡ Some (event_of false returns g) → slice_get row g ≡ Some (sum_of_shares up p.calls (counted returns (take i events)))
  pub few : (g n : ℕ) → slice_get row g ≡ Some n → n ≤ 2 ^ 127

-- The limit of a call with these sums of what precedes it and of what may come before it: it is a completed get.
pub record IsLimitOf (up : Bool) (start : ℤ) (x : ProblemCall Op Reply) (before through : ℕ) (limit : SumLimit) : Type 0 where
  pub value : ℤ
  pub op : x.op ≡ Get
  pub returned : (n : ℕ) × (x.returned ≡ Some (n, Int value))
  pub low : ℕ
  pub is_low : IsHeight up start low
  pub least : limit.least ≡ low + before
  pub high : ℕ
  pub is_high : IsHeight up value high
  pub most : limit.most ≡ high + through
