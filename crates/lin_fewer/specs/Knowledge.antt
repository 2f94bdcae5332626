-- What a search knows of its problem (this project's own).
use Rattle.std.specs.Prelude.{◌≡◌, ℕ, ◌<◌, ◌≤◌, Bool, true, false, List, Some, length, slice_get}
use Rattle.lin_history.specs.Problems.Problem.{Problem}
use Rattle.lin_history.specs.Problems.Precedence.{IsCompleted}
use Rattle.lin_history.specs.Problems.Continuations.{has, IsCompletion}
use Rattle.lin_search.specs.Configuration.{Configuration}
use Rattle.lin_search.specs.Entries.{IsMinimal}
use Rattle.lin_search.specs.NeedlessCalls.{StandsFor}
use Rattle.lin_search.specs.Answer.{HasNoCompletion}
use Rattle.lin_fewer.specs.Fewer.{UsedFewer}

-- A set that used no fewer pending calls, and with this state a completion.
pub record IsBorne {State Op Reply : Type 0} (p : Problem State Op Reply) (set : List Bool) (s : State) (borne : List Bool) : Type 0 where
  pub flags : length borne ≡ length p.calls
  pub fewer : UsedFewer p set borne
  pub completes : (l : List ℕ) × IsCompletion p borne s l

-- The other call is pending as this one is, identical to it, may follow the set, and is in what is borne.
pub record IsStandIn {State Op Reply : Type 0} (p : Problem State Op Reply) (set : List Bool) (c other : ℕ) (borne : List Bool) : Type 0 where
  pub pending : IsCompleted p c → ⊥
  pub minimal : IsMinimal p set other
  pub there : has borne other ≡ true
  pub stands : (s : State) → has set c ≡ false → StandsFor p set s c other

-- An identical call of a lower number is not in the set.
pub record HasEarlier {State Op Reply : Type 0} (p : Problem State Op Reply) (set : List Bool) (c : ℕ) : Type 0 where
  pub earlier : ℕ
  pub stands : (s : State) → StandsFor p set s earlier c

-- The set has every call.
pub record HasEvery {State Op Reply : Type 0} (p : Problem State Op Reply) (set : List Bool) : Type 0 where
  pub flags : length set ≡ length p.calls
  pub each : (c : ℕ) → c < length p.calls → has set c ≡ true

-- Each call of the set is pending.
abbrev pub ArePending : {State Op Reply : Type 0} → Problem State Op Reply → List Bool → Type 0
ArePending p set = (c : ℕ) → has set c ≡ true → IsCompleted p c → ⊥

-- Each of the configurations has a completion, and a flag for each call.
abbrev pub HaveCompletions : {State Op Reply : Type 0} → Problem State Op Reply → List (Configuration State) → Type 0
HaveCompletions {State} p configs = (k : ℕ) (x : Configuration State) → slice_get configs k ≡ Some x → (length x.lifted ≡ length p.calls) × ((l : List ℕ) × IsCompletion p x.lifted x.state l)

-- None of the configurations has a completion.
abbrev pub HaveNoCompletions : {State Op Reply : Type 0} → Problem State Op Reply → List (Configuration State) → Type 0
HaveNoCompletions {State} p configs = (k : ℕ) (x : Configuration State) → slice_get configs k ≡ Some x → HasNoCompletion p x.lifted x.state

-- Configurations that are found to have no completion, and to have one.
pub record Judgements (State : Type 0) : Type 0 where
  pub refuted : List (Configuration State)
  pub good : List (Configuration State)

-- They are rightly found so.
pub record AreJudged {State Op Reply : Type 0} (p : Problem State Op Reply) (judged : Judgements State) : Type 0 where
  pub none : HaveNoCompletions p judged.refuted
  pub complete : HaveCompletions p judged.good

-- The set has every call below this one, and no other.
pub record IsEveryTo {State Op Reply : Type 0} (p : Problem State Op Reply) (set : List Bool) (i : ℕ) : Type 0 where
  pub flags : length set ≡ length p.calls
  pub each : (c : ℕ) → c < i → has set c ≡ true
  pub later : (c : ℕ) → i ≤ c → has set c ≡ false

-- Each call of the set is pending, and below this one.
pub record ArePendingTo {State Op Reply : Type 0} (p : Problem State Op Reply) (set : List Bool) (i : ℕ) : Type 0 where
  pub flags : length set ≡ length p.calls
  pub are : ArePending p set
  pub later : (c : ℕ) → i ≤ c → has set c ≡ false

-- What a search knows.
pub record IsKnowledge {State Op Reply : Type 0} (p : Problem State Op Reply) (pending all : List Bool) (refuted good : List (Configuration State)) : Type 0 where
  pub are_pending : ArePending p pending
  pub every : HasEvery p all
  pub none : HaveNoCompletions p refuted
  pub complete : HaveCompletions p good
