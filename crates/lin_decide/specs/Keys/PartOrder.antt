-- What is told of the problem of some of a problem's calls (this project's own).
use Rattle.std.specs.Prelude.{◌≡◌, ℕ, ℤ, ◌<◌, Option, List, length}
use Rattle.lin_object.specs.declared.op.Op.{Op}
use Rattle.lin_object.specs.declared.reply.Reply.{Reply}
use Rattle.lin_object.specs.declared.state.ObjState.{ObjState}
use Rattle.lin_history.specs.declared.problems.problem.ProblemCall.{ProblemCall}
use Rattle.lin_history.specs.Problems.Lists.{IsLeast}
use Rattle.lin_history.specs.Problems.AnyProblem.{any_problem}
use Rattle.lin_history.specs.Problems.ProblemParts.{ProblemParts}
use Rattle.lin_history.specs.Problems.Problem.{Problem}
use Rattle.lin_history.specs.Problems.Linearizations.{IsLinearization}
use Rattle.lin_search.specs.Told.{IsSpent}
use Rattle.lin_search.specs.declared.told.Told.{Told}
use Rattle.lin_search.specs.declared.told.Told.TheVariants.{Found, Refuted, Nothing}
use Rattle.lin_decide.specs.declared.keys.orders_told.OrdersTold.{OrdersTold}
use Rattle.lin_decide.specs.declared.keys.orders_told.OrdersTold.TheVariants as all
use Rattle.lin_effort.specs.Lifts.{lifts_on_key}
use Rattle.lin_decide.specs.Keys.KeyedCalls.{AreCallsOn}
use Rattle.lin_decide.specs.Keys.Merging.{order_at}
use Rattle.lin_parts.specs.Parts.{ArePart, IsFilled, part_of, named}

-- The least linearization of the problem of these calls, and behind it its other calls in increasing order, by their numbers in
-- the whole.
pub record IsFullOrder {State Op Reply : Type 0} (p : Problem State Op Reply) (kept : List ℕ) (order : List ℕ) : Type 0 where
  pub calls : List (ProblemCall Op Reply)
  pub part : ArePart p kept calls
  pub first : List ℕ
  pub least : IsLeast (IsLinearization (part_of p calls)) first
  pub all : List ℕ
  pub filled : IsFilled (length kept) first all
  pub is : order ≡ named kept all

-- The order has the first list, and behind it the other calls of the part in increasing order, by their numbers in the whole.
abbrev pub IsNamed : List ℕ → List ℕ → List ℕ → Type 0
IsNamed kept first order = (all : List ℕ) × IsFilled (length kept) first all × (order ≡ named kept all)

-- The problem of these calls has no linearization.
pub record HasRefutedPart {State Op Reply : Type 0} (p : Problem State Op Reply) (kept : List ℕ) : Type 0 where
  pub calls : List (ProblemCall Op Reply)
  pub part : ArePart p kept calls
  pub none : (l : List ℕ) → IsLinearization (part_of p calls) l → ⊥

-- The problem of these calls has more runs than lifts may be made, or the stop answered.
pub record IsSpentOnPart {State Op Reply : Type 0} (p : Problem State Op Reply) (kept : List ℕ) (limit : Option ℕ) (tells : ℕ → Type 0) : Type 0 where
  pub calls : List (ProblemCall Op Reply)
  pub part : ArePart p kept calls
  pub spent : IsSpent (part_of p calls) (lifts_on_key limit (length kept)) tells

-- A full order of the problem of these calls; or that it has no linearization; or nothing.
abbrev pub IsPartOrder : {State Op Reply : Type 0} → Problem State Op Reply → List ℕ → Told → Type 0
IsPartOrder p kept (Found order) = IsFullOrder p kept order
IsPartOrder p kept Refuted = HasRefutedPart p kept
IsPartOrder p kept Nothing = Unit {0}

-- For each list of calls a full order of their problem.
pub record AreFullOrders {State Op Reply : Type 0} (p : Problem State Op Reply) (lists orders : List (List ℕ)) : Type 0 where
  pub count : length orders ≡ length lists
  pub each : (k : ℕ) → k < length lists → IsFullOrder p (order_at lists k) (order_at orders k)

-- A full order of each part; or that one has no linearization; or nothing.
abbrev pub ArePartOrders : {State Op Reply : Type 0} → Problem State Op Reply → List (List ℕ) → OrdersTold → Type 0
ArePartOrders p lists (all.Found orders) = AreFullOrders p lists orders.items
ArePartOrders p lists all.Refuted = (k : ℕ) × (k < length lists) × HasRefutedPart p (order_at lists k)
ArePartOrders p lists all.Nothing = Unit {0}

-- Orders are told, or else this holds.
abbrev pub AreToldUnless : Type 0 → OrdersTold → Type 0
AreToldUnless why (all.Found orders) = Unit {0}
AreToldUnless why all.Refuted = Unit {0}
AreToldUnless why all.Nothing = why

-- A stop that went from the old to the new one answered the number as it then was.
abbrev pub HasAnswered : {Stop : Type 0} → (Stop → Stop → Type 0) → (Stop → ℕ → Type 0) → Stop → Stop → ℕ → Type 0
HasAnswered {Stop} follows tells old new number = (s : Stop) × follows old s × follows s new × tells s number

-- So it is for the calls on some key or item.
abbrev pub IsSpentOnKey : {Object : Type 0} → ProblemParts Object ObjState Op Reply → Option ℕ → (ℕ → Type 0) → Type 0
IsSpentOnKey parts limit tells = (v : ℤ) × (kept : List ℕ) × AreCallsOn parts v kept × IsSpentOnPart (any_problem parts) kept limit tells
