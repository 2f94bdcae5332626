-- What one call alone pushes, and that one is not lifted, is not on the stack and was popped by no call that is.
use Rattle.std.proofs.Common.{◌≡◌, ℕ, Bool, true, false, List, refl, subst}
use Rattle.std.specs.Prelude.{ℤ}
use Rattle.lin_object.specs.declared.op.Op.{Op}
use Rattle.lin_object.specs.declared.reply.Reply.{Reply}
use Rattle.lin_object.specs.declared.state.ObjState.{ObjState}
use Rattle.lin_object.specs.declared.state.ObjState.TheVariants.{Stack}
use Rattle.lin_history.specs.Problems.Problem.{Problem}
use Rattle.lin_history.specs.Problems.Lists.{In}
use Rattle.lin_history.specs.Problems.LegalLists.{Legal}
use Rattle.lin_history.specs.Problems.Continuations.{has}
use Rattle.lin_ahead.specs.Queues.Queue.{Item}
use Rattle.lin_ahead.specs.Stacks.Stack.{OnlyPushes}
use Rattle.lin_laws.specs.Items.{Pushes, Popped}
use Rattle.lin_laws.specs.Exact.{IsExact}
use Rattle.lin_ahead.proofs.stacks.StackLemmas.{NeverThere, never_there, inside_stack}

pub there_once : (p : Problem ObjState Op Reply) → IsExact p → (start : List ℤ) → p.start ≡ Stack start → (set : List Bool) (items : List ℤ) (l : List ℕ) → Legal p p.start l (Stack items) → ((d : ℕ) → (has set d ≡ true → In d l) × (In d l → has set d ≡ true)) → (c : ℕ) (v : ℤ) → Pushes p c v → has set c ≡ false → OnlyPushes p c v → (Item v start → ⊥) → (Item v items → ⊥) × ((j : ℕ) → Popped p j v → has set j ≡ false)
there_once p exact start starts set items l legal set_is c v pushes out only fresh =
    ((λ h. never.2 (subst (λ (l : List ℤ). Item v l) (inside_stack p exact items never.0 never.1) h)), λ j popped. flag j popped (has set j) refl)
  where
    none : (d : ℕ) → In d l → Pushes p d v → ⊥
    none d h put =
        let inside = (set_is d).1 h in
        let there : has set c ≡ true = subst (λ (n : ℕ). has set n ≡ true) (only d put) inside in
        absurd (cc)

    never : NeverThere p exact v l (Stack items)
    never = never_there p exact v l start (Stack items) (subst (λ (s : ObjState). Legal p s l (Stack items)) starts legal) fresh none

    flag : (j : ℕ) → Popped p j v → (b : Bool) → has set j ≡ b → has set j ≡ false
    flag j popped true e = absurd (never.3 j ((set_is j).0 e) popped)
    flag j popped false e = e
