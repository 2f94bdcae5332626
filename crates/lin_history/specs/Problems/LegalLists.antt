-- Legal lists of calls (Herlihy and Wing 1990): each call in its turn has a step whose reply is the recorded one.
use Rattle.std.specs.Prelude.{◌≡◌, ℕ, Option, Some, None, List, [], ◌∷◌, slice_get}
pub use Rattle.lin_object.specs.StepAnswers.{fits, state_if_fits}
use Rattle.lin_history.specs.declared.problems.problem.ProblemCall.{ProblemCall}
use Rattle.lin_history.specs.Problems.Problem.{Problem}

-- The state after a call, where it has a step at s whose reply fits.
abbrev pub after_call : {State Op Reply : Type 0} → Problem State Op Reply → State → Option (ProblemCall Op Reply) → Option State
after_call p s None = None
after_call p s (Some c) = state_if_fits p.same_reply c.returned (p.after s c.process c.op)

-- The state after the call of this number.
abbrev pub next : {State Op Reply : Type 0} → Problem State Op Reply → State → ℕ → Option State
next p s c = after_call p s (slice_get p.calls c)

-- The list of calls is legal from s, and ends in t.
abbrev pub Legal : {State Op Reply : Type 0} → Problem State Op Reply → State → List ℕ → State → Type 0
Legal p s [] t = s ≡ t
Legal {State} p s (c ∷ cs) t = (m : State) × (next p s c ≡ Some m) × Legal p m cs t
