-- Calls that a search need not try: an identical one was tried, or one that changes nothing (this project's own).
use Rattle.std.specs.Prelude.{◌≡◌, ℕ, ◌+◌, ◌<◌, ◌≤◌, ◌==◌, Bool, true, false, Option, Some, None, List, [], ◌∷◌, length, IfSome, if◌then◌else◌}
use Rattle.lin_history.specs.declared.problems.problem.ProblemCall.{ProblemCall}
use Rattle.lin_history.specs.Problems.Problem.{Problem}
use Rattle.lin_object.specs.StepAnswers.{IgnoresProcess}
use Rattle.lin_history.specs.Problems.LegalLists.{next}
use Rattle.lin_history.specs.Problems.Precedence.{Before, IsCompleted}
use Rattle.lin_history.specs.Problems.Continuations.{has, IsContinuation, IsCompletion}
use Rattle.lin_search.specs.NextCall.{IsNext}
use Rattle.lin_search.specs.Progress.{IsBelow, IsSearchedTo}

-- Once the calls below this one were tried at the configuration, it need not be: they tell what the calls up to it tell.
abbrev pub AddsNothing : {State Op Reply : Type 0} → Problem State Op Reply → List Bool → State → ℕ → Type 0
AddsNothing p set s c = (more : ℕ) (first : Option ℕ) → IsSearchedTo p set s c more first → IsSearchedTo p set s (c + 1) more first

-- Once this call was tried, where it can follow, no further one need be: the calls through it tell what all calls tell.
abbrev pub EndsTheList : {State Op Reply : Type 0} → Problem State Op Reply → ℕ → Type 0
EndsTheList {State} p c =
    (set : List Bool) (s t : State) (i more : ℕ) (first : Option ℕ) → IsNext p set s c t → c < i → i ≤ length p.calls → IsSearchedTo p set s i more first → IsSearchedTo p set s (length p.calls) more first

-- How the first of two identical calls may have returned, and the second, whose step is this: both with one reply and the first not
-- later; neither of them; or the first alone, with the reply of the step.
abbrev pub ReturnInOrder : {State Reply : Type 0} → (Reply → Reply → Bool) → Option (ℕ × Reply) → Option (ℕ × Reply) → Option (State × Reply) → Type 0
ReturnInOrder same (Some x) (Some y) step = (x.0 ≤ y.0) × (same x.1 y.1 ≡ true)
ReturnInOrder same None None step = Unit {0}
ReturnInOrder same (Some x) None step = IfSome step (λ answer. same answer.1 x.1 ≡ true)
ReturnInOrder same None (Some y) step = ⊥

-- Both returned with one reply and the first not later, or neither returned.
abbrev pub ReturnedAlike : {Reply : Type 0} → (Reply → Reply → Bool) → Option (ℕ × Reply) → Option (ℕ × Reply) → Type 0
ReturnedAlike same (Some x) (Some y) = (x.0 ≤ y.0) × (same x.1 y.1 ≡ true)
ReturnedAlike same None None = Unit {0}
ReturnedAlike same (Some x) None = ⊥
ReturnedAlike same None (Some y) = ⊥

-- As `ReturnInOrder`, but for the reply that nobody saw.
abbrev pub ComesFirst : {Reply : Type 0} → (Reply → Reply → Bool) → Option (ℕ × Reply) → Option (ℕ × Reply) → Type 0
ComesFirst same (Some x) (Some y) = (x.0 ≤ y.0) × (same x.1 y.1 ≡ true)
ComesFirst same None None = Unit {0}
ComesFirst same (Some x) None = Unit {0}
ComesFirst same None (Some y) = ⊥

-- The call is at least as good as the other, from s: it was called before, does the same, for any process, and returned in order.
pub record IsInOrder {State Op Reply : Type 0} (same_op : Op → Op → Bool) (p : Problem State Op Reply) (s : State) (x y : ProblemCall Op Reply) : Type 0 where
  pub called : x.called ≤ y.called
  pub op : same_op x.op y.op ≡ true
  pub ignores : IgnoresProcess p.same_reply p.after x.op x.returned
  pub returned : ReturnInOrder p.same_reply x.returned y.returned (p.after s y.process y.op)

-- The other of the two calls; any third is itself.
abbrev pub exchanged : ℕ → ℕ → ℕ → ℕ
exchanged a b c = if c == a then b else (if c == b then a else c)

-- The list with each of the two calls in the place of the other.
abbrev pub exchange : ℕ → ℕ → List ℕ → List ℕ
exchange a b [] = []
exchange a b (c ∷ cs) = exchanged a b c ∷ exchange a b cs

-- The call a can stand wherever b comes first from s: it is free and was called before b; where b has a step at s it has the
-- same there; where it has one later so has b; and what b precedes it precedes too. Where b has returned, so has a.
pub record StandsFor {State Op Reply : Type 0} (p : Problem State Op Reply) (set : List Bool) (s : State) (a b : ℕ) : Type 0 where
  pub free : has set a ≡ false
  pub less : a < b
  pub first : (t : State) → next p s b ≡ Some t → (u : State) × (next p s a ≡ Some u) × (p.same_state t u ≡ true)
  pub later : (u v : State) → next p u a ≡ Some v → (w : State) × (next p u b ≡ Some w) × (p.same_state v w ≡ true)
  pub preceded : (c : ℕ) → Before p c a → Before p c b
  pub precedes : (c : ℕ) → Before p b c → Before p a c
  pub completed : IsCompleted p b → IsCompleted p a

-- Some continuation that begins below i is as long as this list, and a completion where this one is.
pub record DoesAsWell {State Op Reply : Type 0} (p : Problem State Op Reply) (set : List Bool) (s : State) (i : ℕ) (l : List ℕ) : Type 0 where
  pub list : List ℕ
  pub continues : IsContinuation p set s list
  pub completes : IsCompletion p set s l → IsCompletion p set s list
  pub below : IsBelow i list
  pub length : length l ≤ length list

-- The list without the call.
abbrev pub without : ℕ → List ℕ → List ℕ
without r [] = []
without r (c ∷ cs) = if c == r then without r cs else c ∷ without r cs

-- Each step of the call leaves the state as it is.
abbrev pub LeavesStates : {State Op Reply : Type 0} → Problem State Op Reply → ℕ → Type 0
LeavesStates {State} p r = (u v : State) → next p u r ≡ Some v → p.same_state u v ≡ true
