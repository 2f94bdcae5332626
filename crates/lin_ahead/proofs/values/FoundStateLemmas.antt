-- A call on a register that found a value can follow one state alone.
use Rattle.std.proofs.Common.{◌≡◌, ℕ, List, sym, ◌∙◌, ap, subst}
use Rattle.std.specs.Prelude.{ℤ, Some, slice_get}
use Rattle.lin_object.specs.declared.op.Op.{Op}
use Rattle.lin_object.specs.declared.reply.Reply.{Reply}
use Rattle.lin_object.specs.declared.state.ObjState.{ObjState}
use Rattle.lin_object.specs.declared.state.ObjState.TheVariants.{Register}
use Rattle.lin_history.specs.declared.problems.problem.ProblemCall.{ProblemCall}
use Rattle.lin_history.specs.OptionLemmas.{some_and}
use Rattle.lin_history.specs.Problems.Problem.{Problem}
use Rattle.lin_history.specs.Problems.LegalLists.{next}
use Rattle.lin_ahead.specs.declared.values.owners.Owners.{Owners}
use Rattle.lin_ahead.specs.Values.Register.{IsOfRegister, value_found, Finds}
use Rattle.lin_ahead.specs.Values.Owners.{CanFollow}
use Rattle.lin_ahead.specs.Values.Narrowing.{AreRightRows}
use Rattle.lin_ahead.specs.Values.Stranded.{Reached, FindsOneState, FindOneState}
use Rattle.lin_ahead.proofs.values.RegisterLemmas.{left, from_start, finds_held}

module _ {p : Problem ObjState Op Reply} {start : ℤ} (of : IsOfRegister p start) where
  -- the state in which it can follow holds the value
  pub found_here : (g : ℕ) (v : ℤ) → Finds p g v → (s : ObjState) → Reached p s → CanFollow p s g → s ≡ Register v
  found_here g v found s reached can =
      let k = left of reached.0 start s (from_start of reached.0 s reached.1) in
      k.1 ∙ ap Register (finds_held of k.0 v can.0 g found (subst (λ (t : ObjState). next p t g ≡ Some can.0) k.1 can.1))

  finds_one : (g : ℕ) (v : ℤ) → Finds p g v → FindsOneState p g
  finds_one g v found s t one two can can_too = found_here g v found s one can ∙ sym (found_here g v found t two can_too)

  -- so it is with each call of which owners are told
  pub find_one_state : (rows : List Owners) → AreRightRows p.calls start rows → FindOneState p rows
  find_one_state rows right g row there is =
      let k = right.found g row there is in
      finds_one g k.0 (some_and (slice_get p.calls g) (λ (x : ProblemCall Op Reply). value_found x.op x.returned ≡ Some k.0) k.1)
