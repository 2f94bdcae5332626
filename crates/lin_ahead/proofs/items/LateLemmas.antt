-- Pushes that are too late begin no completion of a reachable configuration; and how a chain of pushes grows.
use Rattle.std.proofs.Common.{◌≡◌, ℕ, ◌<◌, Bool, Option, Some, None, List, [], ◌∷◌, ◌++◌, ◌⊎◌, inl, inr, refl, sym, subst, arith}
use Rattle.std.specs.Prelude.{slice_get, IfSome}
use Rattle.lin_history.specs.Problems.Problem.{Problem}
use Rattle.lin_history.specs.Problems.Configurations.{IsReachable}
use Rattle.lin_search.specs.AlikeLemmas.{AreAlike}
use Rattle.lin_ahead.specs.declared.items.late_pushes.LateRows.{LateRows}
use Rattle.lin_ahead.specs.First.FirstProgress.{BeginsNone}
use Rattle.lin_ahead.specs.Items.Late.{IsHeldTo, Grows, IsDeadline, IsLate, NoneIsLate}
use Rattle.lin_ahead.proofs.first.NeedsLemmas.{joined}

-- a value that there may be, of which more is known
pub if_some_more : {A : Type 0} (o : Option A) (P Q : A → Type 0) → ((x : A) → P x → Q x) → IfSome o P → IfSome o Q
if_some_more None P Q f h = tt
if_some_more (Some x) P Q f h = f x h

module _ {State Op Reply : Type 0} (p : Problem State Op Reply) (late : LateRows) (set : List Bool) (b : ℕ) where
  -- the call that pops the item of the push
  pub held_first : (n : ℕ) → (n ≡ 0) ⊎ (slice_get late.from.items b ≡ Some n) → IsHeldTo p late set b n
  held_first n (inl none) = λ m less. absurd (omega (arith, none, less))
  held_first n (inr there) = λ m less. ([], (n, there, less))

  -- one push more
  pub held_more : (held n d : ℕ) → IsHeldTo p late set b held → (n ≡ held) ⊎ Grows p late set held d n → IsHeldTo p late set b n
  held_more held n d so_far (inl same) = subst (λ (k : ℕ). IsHeldTo p late set b k) (sym same) so_far
  held_more held n d so_far (inr (there, (k, outside, less))) = λ m below. (let before = so_far k less in (d ∷ before.0, ((n, there, below), (k, outside, before.1))))

  -- up to an event beyond the deadline
  pub is_late : (m n : ℕ) → IsDeadline p late set b m → IsHeldTo p late set b n → m < n → IsLate p late set b
  is_late m n deadline held less = (m, deadline, held m less)

module _ {State Op Reply : Type 0} (p : Problem State Op Reply) where
  -- no completion of a reachable configuration begins with a push that is too late
  pub late_begins_none : AreAlike p p → (late : LateRows) → NoneIsLate p late → (set : List Bool) (s : State) → IsReachable p set s → (b : ℕ) → IsLate p late set b → BeginsNone p set s b
  late_begins_none alike late never set s k b is cs h =
      never (k.run.0 ++ b ∷ cs) k.run.0 cs b set (joined p alike set s k (b ∷ cs) h) refl k.run.2 is
