-- Parts made anew, and what is decided of them.
use Rattle.std.proofs.Common.{◌≡◌, ℕ, List, subst}
use Rattle.lin_object.specs.declared.op.Op.{Op}
use Rattle.lin_object.specs.declared.reply.Reply.{Reply}
use Rattle.lin_object.specs.declared.state.ObjState.{ObjState}
use Rattle.lin_history.specs.Problems.Problem.{Problem}
use Rattle.lin_history.specs.Problems.ProblemParts.{ProblemParts}
use Rattle.lin_history.specs.Problems.AnyProblem.{any_problem}
use Rattle.lin_effort.specs.declared.decision.Decision.{Decision}
use Rattle.lin_effort.specs.declared.decision.Decision.TheVariants.{Found, Refuted, Spent, Stopped}
use Rattle.lin_effort.specs.Decision.{IsDecisionOf}
use Rattle.lin_parts.specs.Parts.{ArePart, part_of}
use Rattle.lin_prefixes.specs.PartAnswer.{IsPartAnswer}

module _ {Object : Type 0} (whole part : ProblemParts Object ObjState Op Reply) (start : part.start ≡ whole.start) where
  -- what holds of the problem made anew holds of the whole with its calls
  at_part : (P : Problem ObjState Op Reply → Type 0) → P (any_problem part) → P (part_of (any_problem whole) part.calls)
  at_part P h = subst (λ (s : ObjState). P (record (any_problem part) { start = s })) start h

  pub part_answer : (kept : List ℕ) → ArePart (any_problem whole) kept part.calls → (answer : Decision) → IsDecisionOf (any_problem part) answer → IsPartAnswer (any_problem whole) kept answer
  part_answer kept is_part Spent h = tt
  part_answer kept is_part Stopped h = tt
  part_answer kept is_part (Found order) h = (part.calls, is_part, at_part (λ p. IsDecisionOf p (Found order)) h)
  part_answer kept is_part Refuted h = (part.calls, is_part, at_part (λ p. IsDecisionOf p Refuted) h)
