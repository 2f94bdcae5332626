-- The call and return events of a problem in the order of their numbers.
use Rattle.std.specs.Prelude.{◌≡◌, ◌↔◌, ℕ, ◌+◌, ◌<◌, ◌≤◌, Some, IsSomeAnd, List, length, slice_get}
use Rattle.lin_history.specs.declared.problems.timeline.ProblemEvent.{ProblemEvent}
use Rattle.lin_history.specs.declared.problems.timeline.ProblemEvent.TheVariants.{Call, Return}
use Rattle.lin_history.specs.Problems.Problem.{Problem}
use Rattle.lin_history.specs.Problems.Precedence.{Before, IsCompleted}

-- The event has this number.
abbrev pub HasNumber : {State Op Reply : Type 0} → Problem State Op Reply → ProblemEvent → ℕ → Type 0
HasNumber p (Call c) n = IsSomeAnd (slice_get p.calls c) (λ x. x.called ≡ n)
HasNumber p (Return c) n = IsSomeAnd (slice_get p.calls c) (λ x. IsSomeAnd x.returned (λ r. r.0 ≡ n))

-- The list has the call event of each call and the return event of each completed call, each of them once and nothing
-- else, in the order of the events' numbers. So calls are called in the order of their own numbers, each returns after it
-- was called, and a return comes before a call exactly where the one call precedes the other; and there are no more than two
-- events of each call.
pub record IsTimeline {State Op Reply : Type 0} (p : Problem State Op Reply) (events : List ProblemEvent) : Type 0 where
  pub called : (c : ℕ) → c < length p.calls → (i : ℕ) × (slice_get events i ≡ Some (Call c))
  pub returned : (c : ℕ) → IsCompleted p c → (i : ℕ) × (slice_get events i ≡ Some (Return c))
  pub of_call : (i c : ℕ) → slice_get events i ≡ Some (Call c) → c < length p.calls
  pub of_return : (i c : ℕ) → slice_get events i ≡ Some (Return c) → IsCompleted p c
  pub once : (i j : ℕ) (e : ProblemEvent) → slice_get events i ≡ Some e → slice_get events j ≡ Some e → i ≡ j
  pub rises : (i j m n : ℕ) (d e : ProblemEvent) → slice_get events i ≡ Some d → slice_get events j ≡ Some e → i < j → HasNumber p d m → HasNumber p e n → m ≤ n
  pub in_order : (a b i j : ℕ) → slice_get events i ≡ Some (Call a) → slice_get events j ≡ Some (Call b) → a < b → i < j
  pub after_call : (a i j : ℕ) → slice_get events i ≡ Some (Call a) → slice_get events j ≡ Some (Return a) → i < j
  pub precedence : (a b i j : ℕ) → slice_get events i ≡ Some (Return a) → slice_get events j ≡ Some (Call b) → i < j ↔ Before p a b
  pub few : length events ≤ length p.calls + length p.calls
