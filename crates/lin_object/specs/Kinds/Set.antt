-- Sets: their operations, what each does, and the law of their runs (this project's own).
use Rattle.std.specs.Prelude.{◌≡◌, ◌↔◌, not, ℕ, ℤ, Bool, true, false, List, [], ◌∷◌, codes, Option, Some, None, if◌then◌else◌}
use Rattle.std.specs.Ordering.{int_eq, int_cmp}
use Rattle.std.specs.List.Sorted.{IsStrictlySortedBy}
use Rattle.lin_object.specs.declared.op.Op.{Op}
use Rattle.lin_object.specs.declared.op.Op.TheVariants.{Insert, Remove, Contains}
use Rattle.lin_object.specs.declared.reply.Reply.{Reply}
use Rattle.lin_object.specs.declared.reply.Reply.TheVariants.{Flag}
use Rattle.lin_object.specs.declared.state.ObjState.{ObjState}
use Rattle.lin_object.specs.declared.state.ObjState.TheVariants.{Set}
use Rattle.lin_object.specs.Items.{is_in, with_in_order, without_item}
use Rattle.lin_object.specs.Names.{OpMaker, of_one}
use Rattle.lin_object.specs.Runs.{Behavior, Step, RunsFrom}
use Rattle.lin_object.specs.StepAnswers.{step_reply}

-- add(v), remove(v), contains(v).
abbrev pub set_operations : List (List ℕ × OpMaker)
set_operations =
    (codes "add", of_one Insert)
    ∷ (codes "remove", of_one Remove)
    ∷ (codes "contains", of_one Contains)
    ∷ []

-- add(v) and remove(v) tell whether they changed the set, contains(v) whether the item is in it.
abbrev pub set_step : List ℤ → Op → Option (ObjState × Reply)
set_step items (Insert v) =
    Some (if is_in v items then (Set items, Flag false) else (Set (with_in_order v items), Flag true))
set_step items (Remove v) =
    Some (if is_in v items then (Set (without_item v items), Flag true) else (Set items, Flag false))
set_step items (Contains v) = Some (Set items, Flag (is_in v items))
set_step items op = None

-- ---- the law, in words that know nothing of the table

-- Whether the item is in the set after a step, where b says whether it was in it before.
abbrev pub is_in_after_step : ℤ → Bool → Op → Bool
is_in_after_step item b (Insert v) = if int_eq v item then true else b
is_in_after_step item b (Remove v) = if int_eq v item then false else b
is_in_after_step item b op = b

-- Whether the item is in the set after the steps: what the last insert or remove of it says.
abbrev pub is_in_after : ℤ → Bool → List Step → Bool
is_in_after item b [] = b
is_in_after item b (step ∷ steps) = is_in_after item (is_in_after_step item b step.op) steps

-- The items stand in increasing order, each once.
abbrev pub IsIncreasing : List ℤ → Type 0
IsIncreasing items = IsStrictlySortedBy int_cmp items

-- What every run of a set keeps, what each step of it replies, and where two sets are the same.
pub record SetLaw (after : Behavior) (same_state : ObjState → ObjState → Bool) : Type 0 where
  -- an item is in it exactly where the last insert or remove of the item says so
  pub members :
      (items : List ℤ) (run : List Step) (t : ObjState) → RunsFrom after (Set items) run t →
      (rest : List ℤ) × (t ≡ Set rest)
      × ((item : ℤ) → is_in item rest ≡ is_in_after item (is_in item items) run)
  -- a set in increasing order stays in it
  pub order :
      (items rest : List ℤ) (run : List Step) →
      IsIncreasing items → RunsFrom after (Set items) run (Set rest) → IsIncreasing rest
  -- so two sets are equal exactly where they have the same members
  pub same :
      (xs ys : List ℤ) → IsIncreasing xs → IsIncreasing ys →
      (same_state (Set xs) (Set ys) ≡ true) ↔ ((item : ℤ) → is_in item xs ≡ is_in item ys)
  -- an insert can always be made, and answers whether the item was not in the set
  pub inserts :
      (items : List ℤ) (item : ℤ) (process : ℕ) →
      step_reply (after (Set items) process (Insert item)) ≡ Some (Flag (not (is_in item items)))
  -- a remove can always be made, and answers whether the item was in the set
  pub removes :
      (items : List ℤ) (item : ℤ) (process : ℕ) →
      step_reply (after (Set items) process (Remove item)) ≡ Some (Flag (is_in item items))
  -- so can a contains, and it answers whether the item is in the set
  pub contains :
      (items : List ℤ) (item : ℤ) (process : ℕ) →
      step_reply (after (Set items) process (Contains item)) ≡ Some (Flag (is_in item items))
