-- The table of stacks keeps the law of their runs.
use Rattle.std.proofs.Common.{◌≡◌, ℕ, Option, Some, None, List, [], ◌∷◌, ◌++◌, refl, sym, subst, ◌∙◌}
use Rattle.std.specs.Prelude.{ℤ}
use Rattle.lin_object.specs.declared.op.Op.TheVariants.{Push, Pop}
use Rattle.lin_object.specs.declared.reply.Reply.{Reply}
use Rattle.lin_object.specs.declared.reply.Reply.TheVariants.{Int}
use Rattle.lin_object.specs.declared.state.ObjState.{ObjState}
use Rattle.lin_object.specs.declared.state.ObjState.TheVariants.{Stack, Mutex}
use Rattle.lin_object.specs.Runs.{Step, RunsFrom}
use Rattle.lin_object.specs.Kinds.{after}
use Rattle.lin_object.specs.Kinds.Stack.{StackLaw}
use Rattle.lin_object.proofs.AnswerLemmas.{Gives, no_step, state_given, reply_given}

pop_after_push : (s m : ObjState) (p q : ℕ) (v : ℤ) (pushed : Reply) → Gives (after s p (Push v)) m pushed → Gives (after m q Pop) s (Int v)
pop_after_push (Stack items) m p q v pushed e = subst (λ (x : ObjState). Gives (after x q Pop) (Stack items) (Int v)) (state_given e) refl
pop_after_push (Mutex None) m p q v pushed e = absurd (no_step e)
pop_after_push (Mutex (Some x)) m p q v pushed e = absurd (no_step e)
pop_after_push s m p q v pushed e = absurd (no_step e)

one_answer : (answer : Option (ObjState × Reply)) (s t : ObjState) (a b : Reply) → Gives answer s a → Gives answer t b → Gives (Some (s, a)) t b
one_answer answer s t a b e f = sym e ∙ f

stack_runs : (s t : ObjState) (early late : List Step) (p q : ℕ) (v : ℤ) (pushed popped : Reply) → RunsFrom after s (early ++ record { process = p; op = Push v; reply = pushed } ∷ record { process = q; op = Pop; reply = popped } ∷ late) t → (popped ≡ Int v) × RunsFrom after s (early ++ late) t
stack_runs s t [] late p q v pushed popped (m, e, (n, f, rest)) =
    let both : Gives (Some (s, Int v)) n popped = one_answer (after m q Pop) s n (Int v) popped (pop_after_push s m p q v pushed e) f in
    (sym (reply_given both), subst (λ (x : ObjState). RunsFrom after x late t) (sym (state_given both)) rest)
stack_runs s t (step ∷ early) late p q v pushed popped (m, e, rest) =
    let later = stack_runs m t early late p q v pushed popped rest in
    (later.0, (m, e, later.1))

pub stack_keeps : StackLaw after
stack_keeps = record {
  puts = λ items v process. (v ∷ items, refl);
  takes = pop_after_push;
  empty = λ process. refl;
  undoes = stack_runs;
}
