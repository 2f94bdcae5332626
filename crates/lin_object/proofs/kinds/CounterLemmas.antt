-- The table of counters keeps the law of their runs.
use Rattle.std.proofs.Common.{◌≡◌, Bool, true, false, Some, None, List, [], ◌∷◌, refl, sym, ap, subst, ◌∙◌, if◌then◌else◌}
use Rattle.std.specs.Prelude.{ℤ, ◌+ℤ◌}
use Rattle.std.proofs.Math.IntN.{+ℤ_assoc, +ℤ_idr}
use Rattle.lin_object.specs.declared.op.Op.{Op}
use Rattle.lin_object.specs.declared.op.Op.TheVariants.{Add, Get}
use Rattle.lin_object.specs.declared.reply.Reply.{Reply}
use Rattle.lin_object.specs.declared.reply.Reply.TheVariants.{Okay}
use Rattle.lin_object.specs.declared.state.ObjState.{ObjState}
use Rattle.lin_object.specs.declared.state.ObjState.TheVariants.{Counter}
use Rattle.lin_object.specs.Runs.{Step, RunsFrom}
use Rattle.lin_object.specs.StepAnswers.{step_reply}
use Rattle.lin_object.specs.Kinds.{after}
use Rattle.lin_object.specs.Kinds.Counter.{counter_step, is_in_range, added_by, sum_added, CounterLaw}
use Rattle.lin_object.proofs.AnswerLemmas.{Gives, no_step, state_given}

add_leaves : (fits : Bool) (n d : ℤ) (m : ObjState) (r : Reply) → Gives (if fits then Some (Counter (n +ℤ d), Okay) else None) m r → m ≡ Counter (n +ℤ d)
add_leaves true n d m r e = sym (state_given e)
add_leaves false n d m r e = absurd (cc)

counter_leaves : (n : ℤ) (op : Op) (m : ObjState) (r : Reply) → Gives (counter_step n op) m r → m ≡ Counter (n +ℤ added_by op)
counter_leaves n (Add d) m r e = add_leaves (is_in_range (n +ℤ d)) n d m r e
counter_leaves n Get m r e = rw (+ℤ_idr n) (sym (state_given e))
counter_leaves n op m r e = absurd (no_step e)

counter_runs : (n : ℤ) (run : List Step) (t : ObjState) → RunsFrom after (Counter n) run t → t ≡ Counter (n +ℤ sum_added run)
counter_runs n [] t e = rw (+ℤ_idr n) (sym e)
counter_runs n (step ∷ steps) t (m, e, rest) =
    let left : m ≡ Counter (n +ℤ added_by step.op) = counter_leaves n step.op m step.reply e in
    let later = counter_runs (n +ℤ added_by step.op) steps t (subst (λ (s : ObjState). RunsFrom after s steps t) left rest) in
    later ∙ ap Counter (+ℤ_assoc n (added_by step.op) (sum_added steps))

add_answers : (fits : Bool) (sum : ℤ) → step_reply {S = ObjState} {R = Reply} (if fits then Some (Counter sum, Okay) else None) ≡ (if fits then Some Okay else None)
add_answers true sum = refl
add_answers false sum = refl

pub counter_keeps : CounterLaw after
counter_keeps = record {
  holds = counter_runs;
  gets = λ n process. refl;
  adds = λ n d process. add_answers (is_in_range (n +ℤ d)) (n +ℤ d);
}
