-- The rounds of a process, and calls of no list by its flags.
use Rattle.std.proofs.Common.{◌≡◌, ℕ, ◌<◌, Bool, true, false, Some, List, length, ◌⊎◌, inl, inr, sym, ◌∙◌, true≢false}
use Rattle.std.specs.Prelude.{slice_index_or}
use Rattle.std.specs.List.{slice_get}
use Rattle.lin_object.specs.declared.op.Op.{Op}
use Rattle.lin_object.specs.declared.reply.Reply.{Reply}
use Rattle.lin_object.specs.declared.state.ObjState.{ObjState}
use Rattle.lin_history.specs.declared.problems.problem.ProblemCall.{ProblemCall}
use Rattle.lin_history.specs.Problems.Lists.{In}
use Rattle.lin_history.specs.Problems.Problem.{Problem}
use Rattle.lin_history.specs.Problems.ProblemParts.{ProblemParts}
use Rattle.lin_history.specs.Problems.Precedence.{Before}
use Rattle.lin_history.specs.Problems.AnyProblem.{any_problem}
use Rattle.lin_parts.specs.PartLemmas.{three}
use Rattle.lin_laws.specs.InTurn.{AreInTurn}
use Rattle.lin_core.proofs.CheckLemmas.{below}

module _ {Object : Type 0} (parts : ProblemParts Object ObjState Op Reply) where
  abbrev A : Problem ObjState Op Reply
  A = any_problem parts

  pub next_of_round : AreInTurn A → (a b : ℕ) (x y : ProblemCall Op Reply) → slice_get parts.calls a ≡ Some x → slice_get parts.calls b ≡ Some y → y.process ≡ x.process
      → ((c : ℕ) (z : ProblemCall Op Reply) → a < c → c < b → slice_get parts.calls c ≡ Some z → z.process ≡ x.process → ⊥)
      → (c : ℕ) (z : ProblemCall Op Reply) → slice_get parts.calls c ≡ Some z → z.process ≡ x.process → (c ≡ a → ⊥) → (c ≡ b → ⊥) → Before A c a ⊎ Before A b c
  next_of_round turn a b x y e f own between c z g same other_a other_b = from (three c a)
    where
      later : a < c → (c < b) ⊎ ((c ≡ b) ⊎ (b < c)) → Before A c a ⊎ Before A b c
      later low (inl less) = absurd (between c z low less g same)
      later low (inr (inl is)) = absurd (other_b is)
      later low (inr (inr more)) = inr (turn b c y z more f g (own ∙ sym same))

      from : (c < a) ⊎ ((c ≡ a) ⊎ (a < c)) → Before A c a ⊎ Before A b c
      from (inl less) = inl (turn c a z x less g e same)
      from (inr (inl is)) = absurd (other_a is)
      from (inr (inr more)) = later more (three c b)

  -- a call that is there and has no flag is not in the list
  pub not_in_list : (flags : List Bool) (list : List ℕ) (c : ℕ) (x : ProblemCall Op Reply) → ((k : ℕ) → In k list → k < length parts.calls → slice_index_or flags k false ≡ true) → slice_get parts.calls c ≡ Some x → slice_index_or flags c false ≡ false → In c list → ⊥
  not_in_list flags list c x each e out there = true≢false (sym (each c there (below parts.calls c x e)) ∙ out)
