-- What it is for an object and its types to be lawful.
use Rattle.std.specs.Prelude.{◌≡◌, ℕ, Bool, true, Option}
use Rattle.std.specs.Cmp.{IsEquivalence}
use Rattle.lin_object.specs.StepAnswers.{SameStep}

-- A lawful sequential object: its equalities are equivalences, and what is equal steps alike.
pub record IsLawful {Object State Op Reply : Type 0}
    (after : Object → State → ℕ → Op → Option (State × Reply))
    (same_object : Object → Object → Bool) (same_state : State → State → Bool)
    (same_op : Op → Op → Bool) (same_reply : Reply → Reply → Bool) : Type 0 where
  pub objects : IsEquivalence same_object
  pub states : IsEquivalence same_state
  pub ops : IsEquivalence same_op
  pub replies : IsEquivalence same_reply
  pub steps_alike :
      (x y : Object) (s t : State) (process : ℕ) (a b : Op) →
      same_object x y ≡ true → same_state s t ≡ true → same_op a b ≡ true →
      SameStep same_state same_reply (after x s process a) (after y t process b)
