-- A problem whose states are products of keys, and the part of a key (this project's own).
use Rattle.std.specs.Prelude.{◌≡◌, ℕ, ◌<◌, ◌==◌, Some, List, [], ◌∷◌, length, slice_index, slice_index_or, if◌then◌else◌}
use Rattle.lin_history.specs.declared.problems.problem.ProblemCall.{ProblemCall}
use Rattle.lin_history.specs.Problems.Lists.{In}
use Rattle.lin_history.specs.Problems.Problem.{Problem}
use Rattle.lin_parts.specs.Parts.{IsRising}
use Rattle.lin_history.specs.Problems.LegalLists.{next}
use Rattle.lin_history.specs.Problems.Precedence.{IsCompleted}

-- The calls of the list that have the key.
abbrev pub with_key : (ℕ → ℕ) → ℕ → List ℕ → List ℕ
with_key key k [] = []
with_key key k (c ∷ cs) = if key c == k then c ∷ with_key key k cs else with_key key k cs

-- The state is one state for each of so many keys, `only k s`, and a step reads and writes only that of its call's key, in the
-- states that keep the invariant. A key's state at the start is the whole's, and a pending call has a step in each state.
pub record IsProduct {State Op Reply : Type 0} (p : Problem State Op Reply) (key : ℕ → ℕ) (count : ℕ) (only : ℕ → State → State) (keeps : State → Type 0) : Type 0 where
  pub within : (c : ℕ) → c < length p.calls → key c < count
  pub start : keeps p.start
  pub same_start : (k : ℕ) → only k p.start ≡ p.start
  pub kept : (s t : State) (c : ℕ) → keeps s → next p s c ≡ Some t → keeps t
  pub own : (s t : State) (c : ℕ) → keeps s → next p s c ≡ Some t → next p (only (key c) s) c ≡ Some (only (key c) t)
  pub other : (s t : State) (c k : ℕ) → keeps s → next p s c ≡ Some t → k < count → ((key c ≡ k) → ⊥) → only k t ≡ only k s
  pub back : (s u : State) (c : ℕ) → keeps s → next p (only (key c) s) c ≡ Some u → (t : State) × (next p s c ≡ Some t) × (only (key c) t ≡ u)
  pub total : (s : State) (c : ℕ) → keeps s → c < length p.calls → (IsCompleted p c → ⊥) → (t : State) × (next p s c ≡ Some t)

-- The list has the calls of the key, and no other.
pub record AreOfKey {State Op Reply : Type 0} (p : Problem State Op Reply) (key : ℕ → ℕ) (k : ℕ) (kept : List ℕ) : Type 0 where
  pub there : (c : ℕ) → c < length p.calls → key c ≡ k → In c kept
  pub own : (c : ℕ) → In c kept → key c ≡ k
  pub within : (c : ℕ) → In c kept → c < length p.calls

-- The problem of a key: its calls, from its own state.
abbrev pub part_of_key : {State Op Reply : Type 0} → Problem State Op Reply → (State → State) → List (ProblemCall Op Reply) → Problem State Op Reply
part_of_key p only calls = record p { start = only p.start; calls = calls }

-- Of the calls below n those of the key, in increasing order.
pub record AreCallsOf (key : ℕ → ℕ) (n k : ℕ) (calls : List ℕ) : Type 0 where
  pub rises : IsRising calls
  pub there : (c : ℕ) → c < n → key c ≡ k → In c calls
  pub below : (c : ℕ) → In c calls → c < n
  pub own : (c : ℕ) → In c calls → key c ≡ k

-- For each key there is the list of its calls.
pub record AreListsOfKeys {Key : Type 0} (keys : List Key) (numbers : List ℕ) (lists : List (List ℕ)) : Type 0 where
  pub count : length lists ≡ length keys
  pub calls : (k : ℕ) → k < length keys → AreCallsOf (slice_index numbers) (length numbers) k (slice_index_or lists k [])
