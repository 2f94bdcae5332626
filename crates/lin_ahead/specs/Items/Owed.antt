-- Replies that are owed to completed calls, so that no pending call can have them (this project's own).
use Rattle.std.specs.Prelude.{◌≡◌, ℕ, Bool, true, Some, None, List, ◌∷◌, ◌++◌, slice_get}
use Rattle.lin_history.specs.declared.problems.problem.ProblemCall.{ProblemCall}
use Rattle.lin_history.specs.Problems.Problem.{Problem}
use Rattle.lin_history.specs.Problems.LegalLists.{Legal}
use Rattle.lin_history.specs.Problems.Linearizations.{IsLinearization}

-- The call is pending, and is answered so in the state.
abbrev pub IsPendingAnswer : {State Op Reply : Type 0} → Problem State Op Reply → State → ℕ → Reply → Type 0
IsPendingAnswer {State} {Op} {Reply} p s c r = (x : ProblemCall Op Reply) × (slice_get p.calls c ≡ Some x) × (x.returned ≡ None) × ((t : State) × (p.after s x.process x.op ≡ Some (t, r)))

-- Wherever a pending call is in a linearization, it is not answered so.
abbrev pub IsOwed : {State Op Reply : Type 0} → Problem State Op Reply → Reply → Type 0
IsOwed {State} {Op} {Reply} p r = (l early late : List ℕ) (c : ℕ) (s : State) (q : Reply) → IsLinearization p l → l ≡ early ++ c ∷ late → Legal p p.start early s → IsPendingAnswer p s c q → p.same_reply q r ≡ true → ⊥

-- The call returned with a reply that equals this one.
abbrev pub HasReply : {State Op Reply : Type 0} → Problem State Op Reply → ℕ → Reply → Type 0
HasReply {State} {Op} {Reply} p c r = (x : ProblemCall Op Reply) × (slice_get p.calls c ≡ Some x) × ((m : ℕ) × ((q : Reply) × (x.returned ≡ Some (m, q)) × (p.same_reply r q ≡ true)))

-- No pending call is answered as a call with a flag was.
abbrev pub AreOwed : {State Op Reply : Type 0} → Problem State Op Reply → List Bool → Type 0
AreOwed {State} {Op} {Reply} p flags = (c : ℕ) (r : Reply) → slice_get flags c ≡ Some true → HasReply p c r → IsOwed p r
