use Rattle.std.proofs.Common.{◌≡◌, ℕ, Bool, true, Option, Some, None, Result, Ok, Err, sym, ◌∙◌, ap}
use Rattle.std.specs.Prelude.{IfOk, IfSome}
use Rattle.lin_object.specs.contracts.reply.ReplyPartialEq.TheImpl.{eq-value as reply_eq}
use Rattle.lin_object.specs.StepAnswers.{fits, step_reply, step_state, state_if_fits}
use Rattle.lin_object.proofs.any.AnyObjectSeqObject.step_in_place.Goals as goal

some_same : {A : Type 0} {a b : A} → ◌≡◌ {A = Option A} (Some a) (Some b) → a ≡ b
some_same e = cc

-- The step's state is that of an answer whose reply fits.
state_fits : {S R : Type 0} (same : R → R → Bool) (recorded : Option (ℕ × R)) (answer : Option (S × R)) (r : R) (t : S) → step_reply answer ≡ Some r → fits same r recorded ≡ true → step_state answer ≡ Some t → state_if_fits same recorded answer ≡ Some t
state_fits same recorded None r t e f g = absurd (cc)
state_fits same recorded (Some answer) r t e f g = rw (ap (λ a. fits same a recorded) (some_same e) ∙ f) g

all_fit : {S R E B : Type 0} (same : R → R → Bool) (recorded : Option (ℕ × R)) (answer : Option (S × R)) (r : R) (t : S) (result : Result (Option B) E) → step_reply answer ≡ Some r → fits same r recorded ≡ true → IfOk result (λ (back : Option B). IfSome back (λ (b : B). step_state answer ≡ Some t)) → IfOk result (λ (back : Option B). IfSome back (λ (b : B). state_if_fits same recorded answer ≡ Some t))
all_fit same recorded answer r t (Ok (Some b)) e f g = state_fits same recorded answer r t e f g
all_fit same recorded answer r t (Ok None) e f g = g
all_fit same recorded answer r t (Err fault) e f g = g

pub returns-in-Some-clause-step : goal.returns-in-Some-clause-step
returns-in-Some-clause-step c = all_fit reply_eq.it c.args.returned.now _ c.in-Some.answered c.stepped.new.state c.stepped.result (sym c.in-Some.ensures) (sym c.is_recorded.ensures ∙ c.if-is_recorded.true) c.stepped.ensures.step
