-- What the answer of a step says.
use Rattle.std.specs.Prelude.{◌≡◌, ℕ, Bool, true, Option, Some, None, if◌then◌else◌}

-- Two answers of a step are alike: both have none, or both have a state and a reply, equal by the types' own `Eq`.
abbrev pub SameStep : {S R : Type 0} → (S → S → Bool) → (R → R → Bool) → Option (S × R) → Option (S × R) → Type 0
SameStep same_state same_reply None None = Unit {0}
SameStep same_state same_reply (Some a) (Some b) = (same_state a.0 b.0 ≡ true) × (same_reply a.1 b.1 ≡ true)
SameStep same_state same_reply None (Some b) = ⊥
SameStep same_state same_reply (Some a) None = ⊥

-- The reply of a step's answer, where there is one.
abbrev pub step_reply : {S R : Type 0} → Option (S × R) → Option R
step_reply None = None
step_reply (Some answer) = Some answer.1

-- The state of a step's answer, where there is one.
abbrev pub step_state : {S R : Type 0} → Option (S × R) → Option S
step_state None = None
step_state (Some answer) = Some answer.0

-- The state of a step's answer, where its reply equals this one.
abbrev pub state_with : {S R : Type 0} → (R → R → Bool) → R → Option (S × R) → Option S
state_with same reply None = None
state_with same reply (Some answer) = if same answer.1 reply then Some answer.0 else None

-- The reply is the recorded one, where one is recorded: by its return's number and the reply.
abbrev pub fits : {R : Type 0} → (R → R → Bool) → R → Option (ℕ × R) → Bool
fits same reply None = true
fits same reply (Some recorded) = same reply recorded.1

-- The state of a step's answer, where its reply fits.
abbrev pub state_if_fits : {State Reply : Type 0} → (Reply → Reply → Bool) → Option (ℕ × Reply) → Option (State × Reply) → Option State
state_if_fits same recorded None = None
state_if_fits same recorded (Some answer) = if fits same answer.1 recorded then Some answer.0 else None

-- A step of this operation whose reply is the recorded one, where one is recorded, is that of any process (this project's own).
abbrev pub IgnoresProcess : {S O R : Type 0} → (R → R → Bool) → (S → ℕ → O → Option (S × R)) → O → Option (ℕ × R) → Type 0
IgnoresProcess {S} {O} {R} same_reply after op recorded =
    (s : S) (a b : ℕ) (answer : S × R) → after s a op ≡ Some answer → fits same_reply answer.1 recorded ≡ true → after s b op ≡ Some answer

-- A step of this operation whose reply is the recorded one, where one is recorded, leaves the state as it is (this project's own).
abbrev pub ChangesNothing : {S O R : Type 0} → (S → S → Bool) → (R → R → Bool) → (S → ℕ → O → Option (S × R)) → O → Option (ℕ × R) → Type 0
ChangesNothing {S} {O} {R} same_state same_reply after op recorded =
    (s : S) (process : ℕ) (answer : S × R) → after s process op ≡ Some answer → fits same_reply answer.1 recorded ≡ true → same_state s answer.0 ≡ true
