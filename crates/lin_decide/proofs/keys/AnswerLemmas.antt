-- What searches of the problem of some calls tell of the whole.
use Rattle.std.proofs.Common.{◌≡◌, ℕ, ◌<◌, Option, List, length, inl, inr, subst, arith}
use Rattle.lin_object.specs.declared.op.Op.{Op}
use Rattle.lin_object.specs.declared.reply.Reply.{Reply}
use Rattle.lin_object.specs.declared.state.ObjState.{ObjState}
use Rattle.lin_history.specs.Problems.Lists.{In, IsLeast}
use Rattle.lin_history.specs.Problems.ListLemmas.{in_either}
use Rattle.lin_history.specs.Problems.Problem.{Problem}
use Rattle.lin_history.specs.Problems.ProblemParts.{ProblemParts}
use Rattle.lin_history.specs.Problems.Linearizations.{IsLinearization}
use Rattle.lin_history.specs.Problems.AnyProblem.{any_problem}
use Rattle.lin_search.specs.Told.{IsSpent}
use Rattle.lin_parts.specs.Parts.{ArePart, IsFilled, part_of}
use Rattle.lin_decide.specs.Keys.PartOrder.{HasRefutedPart, IsFullOrder, IsNamed, IsSpentOnPart}
use Rattle.lin_effort.specs.Lifts.{lifts_on_key}
use Rattle.lin_parts.specs.PartLemmas.{legal_calls}

-- a filled list lies below the number
pub filled_within : (n : ℕ) (l all : List ℕ) → IsFilled n l all → ((c : ℕ) → In c l → c < n) → (c : ℕ) → In c all → c < n
filled_within n l all filled below c h = elim (in_either c l filled.rest (subst (In c) filled.is h)) [ inl early ↦ below c early | inr late ↦ filled.below c late ]

module _ {Object : Type 0} (whole part : ProblemParts Object ObjState Op Reply) (start : part.start ≡ whole.start) (kept : List ℕ) (are : ArePart (any_problem whole) kept part.calls) where
  -- what holds of the problem of these calls holds of the whole with these in place of its own
  at_part : (P : Problem ObjState Op Reply → Type 0) → P (any_problem part) → P (part_of (any_problem whole) part.calls)
  at_part P h = subst (λ (s : ObjState). P (record (any_problem part) { start = s })) start h

  pub refuted_part : ((l : List ℕ) → IsLinearization (any_problem part) l → ⊥) → HasRefutedPart (any_problem whole) kept
  refuted_part none = record { calls = part.calls; part = are; none = at_part (λ p. (l : List ℕ) → IsLinearization p l → ⊥) none }

  pub full_part : (first : List ℕ) → IsLeast (IsLinearization (any_problem part)) first → (order : List ℕ) → IsNamed kept first order → IsFullOrder (any_problem whole) kept order
  full_part first least order n = record {
    calls = part.calls;
    part = are;
    first = first;
    least = at_part (λ p. IsLeast (IsLinearization p) first) least;
    all = n.0;
    filled = n.1;
    is = n.2;
  }

  pub spent_part : (limit : Option ℕ) (tells : ℕ → Type 0) → IsSpent (any_problem part) (lifts_on_key limit (length part.calls)) tells → IsSpentOnPart (any_problem whole) kept limit tells
  spent_part limit tells spent = record {
    calls = part.calls;
    part = are;
    spent = at_part (λ p. IsSpent p (lifts_on_key limit (length kept)) tells) (subst (λ (n : ℕ). IsSpent (any_problem part) (lifts_on_key limit n) tells) are.count spent);
  }

  pub within_part : (l : List ℕ) → IsLinearization (any_problem part) l → (c : ℕ) → In c l → c < length kept
  within_part l lin c h =
      let below = legal_calls (any_problem part) l part.start lin.continuation.legal.0 lin.continuation.legal.1 c h in
      let count = are.count in
      omega (arith, below, count)

-- a stop that answered at this time answered in the end
pub spent_more : {State Op Reply : Type 0} (p : Problem State Op Reply) (kept : List ℕ) (limit : Option ℕ) (tells more : ℕ → Type 0) → ((n : ℕ) → tells n → more n) → IsSpentOnPart p kept limit tells → IsSpentOnPart p kept limit more
spent_more p kept limit tells more all spent = record {
  calls = spent.calls;
  part = spent.part;
  spent = elim spent.spent [ inl runs ↦ inl runs | inr told ↦ inr (told.0, all told.0 told.1) ];
}
