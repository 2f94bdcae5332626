-- The table of registers keeps the law of their runs.
use Rattle.std.proofs.Common.{◌≡◌, Bool, true, false, Some, List, [], ◌∷◌, refl, sym, subst, if◌then◌else◌}
use Rattle.std.specs.Prelude.{ℤ}
use Rattle.std.specs.Ordering.{int_eq}
use Rattle.lin_object.specs.declared.op.Op.{Op}
use Rattle.lin_object.specs.declared.op.Op.TheVariants.{Write, Read, Cas}
use Rattle.lin_object.specs.declared.reply.Reply.{Reply}
use Rattle.lin_object.specs.declared.reply.Reply.TheVariants.{Flag}
use Rattle.lin_object.specs.declared.state.ObjState.{ObjState}
use Rattle.lin_object.specs.declared.state.ObjState.TheVariants.{Register}
use Rattle.lin_object.specs.Runs.{Step, RunsFrom}
use Rattle.lin_object.specs.StepAnswers.{step_reply}
use Rattle.lin_object.specs.Kinds.{after}
use Rattle.lin_object.specs.Kinds.Register.{register_step, value_left, last_written, RegisterLaw}
use Rattle.lin_object.proofs.AnswerLemmas.{Gives, no_step, state_given, reply_given}

cas_leaves : (hit : Bool) (v a b : ℤ) (m : ObjState) (r : Reply) → Gives (Some (if hit then (Register b, Flag true) else (Register v, Flag false))) m r → m ≡ Register (value_left v (Cas a b) r)
cas_leaves true v a b m r e = rw (← state_given e, ← reply_given e) refl
cas_leaves false v a b m r e = rw (← state_given e, ← reply_given e) refl

register_leaves : (v : ℤ) (op : Op) (m : ObjState) (r : Reply) → Gives (register_step v op) m r → m ≡ Register (value_left v op r)
register_leaves v (Write w) m r e = sym (state_given e)
register_leaves v Read m r e = sym (state_given e)
register_leaves v (Cas a b) m r e = cas_leaves (int_eq v a) v a b m r e
register_leaves v op m r e = absurd (no_step e)

register_runs : (v : ℤ) (run : List Step) (t : ObjState) → RunsFrom after (Register v) run t → t ≡ Register (last_written v run)
register_runs v [] t e = sym e
register_runs v (step ∷ steps) t (m, e, rest) =
    let left : m ≡ Register (value_left v step.op step.reply) = register_leaves v step.op m step.reply e in
    register_runs (value_left v step.op step.reply) steps t (subst (λ (s : ObjState). RunsFrom after s steps t) left rest)

cas_answers : (hit : Bool) (v b : ℤ) → step_reply {S = ObjState} {R = Reply} (Some (if hit then (Register b, Flag true) else (Register v, Flag false))) ≡ Some (Flag hit)
cas_answers true v b = refl
cas_answers false v b = refl

pub register_keeps : RegisterLaw after
register_keeps = record {
  holds = register_runs;
  reads = λ v process. refl;
  writes = λ v w process. refl;
  compares = λ v a b process. cas_answers (int_eq v a) v b;
}
