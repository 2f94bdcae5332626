use Rattle.std.proofs.Common.{◌≡◌, Option, Some, None, true, false}
use Rattle.std.specs.Prelude.{IfSome, IfNone, is_some}
use Rattle.lin_search.specs.NeedlessLemmas.{minimal_earlier}
use Rattle.lin_search.proofs.path.Path.can_follow_before.Goals as goal

some_of : {A : Type 0} (Q : A → Type 0) (answer : Option A) → IfSome answer Q → is_some answer ≡ true → (t : A) × Q t
some_of Q (Some t) k h = (t, k)
some_of Q None k h = absurd (cc)

none_of : {A Q : Type 0} (answer : Option A) → IfNone answer Q → is_some answer ≡ false → Q
none_of None k h = k
none_of (Some t) k h = absurd (cc)

pub next_state-requires-clause-minimal : goal.next_state-requires-clause-minimal
next_state-requires-clause-minimal g c =
    minimal_earlier _ (rw c.problem.ensures at c.calls-calls.ensures.timed) _ _ _ c.requires.earlier c.requires.outside c.requires.minimal

pub returns-clause-follows : goal.returns-clause-follows
returns-clause-follows g c = λ told. some_of _ c.in_ok-next_state.field-0 c.in_ok-next_state.ensures.next (rw c.is_some.ensures at told)

pub returns-clause-none : goal.returns-clause-none
returns-clause-none g c = λ told. none_of c.in_ok-next_state.field-0 c.in_ok-next_state.ensures.none (rw c.is_some.ensures at told)
