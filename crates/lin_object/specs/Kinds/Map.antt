-- Maps: their operations, what each does, and the law of their runs (this project's own).
use Rattle.std.specs.Prelude.{◌≡◌, ◌↔◌, is_some, ℕ, ℤ, Bool, true, List, [], ◌∷◌, codes, Option, Some, None, if◌then◌else◌}
use Rattle.std.specs.Ordering.{int_eq, int_cmp}
use Rattle.std.specs.List.Sorted.{IsStrictlySortedBy}
use Rattle.lin_object.specs.declared.op.Op.{Op}
use Rattle.lin_object.specs.declared.op.Op.TheVariants.{Put, Lookup, Delete}
use Rattle.lin_object.specs.declared.pairs.Pair.{Pair}
use Rattle.lin_object.specs.declared.reply.Reply.{Reply}
use Rattle.lin_object.specs.declared.reply.Reply.TheVariants.{Okay, Flag}
use Rattle.lin_object.specs.declared.state.ObjState.{ObjState}
use Rattle.lin_object.specs.declared.state.ObjState.TheVariants.{Map}
use Rattle.lin_object.specs.Names.{OpMaker, of_one, of_two}
use Rattle.lin_object.specs.Pairs.{value_at, reply_to_lookup, with_value, without_key}
use Rattle.lin_object.specs.Runs.{Behavior, Step, RunsFrom}
use Rattle.lin_object.specs.StepAnswers.{step_reply}

-- put(k,v), get(k), delete(k).
abbrev pub map_operations : List (List ℕ × OpMaker)
map_operations =
    (codes "put", of_two Put)
    ∷ (codes "get", of_one Lookup)
    ∷ (codes "delete", of_one Delete)
    ∷ []

-- put(k,v) gives the key the value, get(k) answers the value of the key, delete(k) takes the key out, and says whether
-- it was in.
abbrev pub map_step : List Pair → Op → Option (ObjState × Reply)
map_step pairs (Put key value) = Some (Map (with_value key value pairs), Okay)
map_step pairs (Lookup key) = Some (Map pairs, reply_to_lookup (value_at key pairs))
map_step pairs (Delete key) = Some (Map (without_key key pairs), Flag (is_some (value_at key pairs)))
map_step pairs op = None

-- ---- the law, in words that know nothing of the table

-- The value that the key has after a step, where before says which it had before it; none where it has none.
abbrev pub value_after_step : ℤ → Option ℤ → Op → Option ℤ
value_after_step key before (Put k value) = if int_eq k key then Some value else before
value_after_step key before (Delete k) = if int_eq k key then None else before
value_after_step key before op = before

-- The value that the key has after the steps: that of the last put of it that no delete of it followed.
abbrev pub value_after : ℤ → Option ℤ → List Step → Option ℤ
value_after key before [] = before
value_after key before (step ∷ steps) = value_after key (value_after_step key before step.op) steps

-- The keys stand in increasing order, each once.
abbrev pub HasKeysInOrder : List Pair → Type 0
HasKeysInOrder pairs = IsStrictlySortedBy (λ (p q : Pair). int_cmp p.key q.key) pairs

-- What every run of a map keeps, what each step of it replies, and where two maps are the same.
pub record MapLaw (after : Behavior) (same_state : ObjState → ObjState → Bool) : Type 0 where
  -- a key has the value of the last put of it that no delete of it followed
  pub values :
      (pairs : List Pair) (run : List Step) (t : ObjState) → RunsFrom after (Map pairs) run t →
      (rest : List Pair) × (t ≡ Map rest)
      × ((key : ℤ) → value_at key rest ≡ value_after key (value_at key pairs) run)
  -- a map whose keys stand in order stays so
  pub order :
      (pairs rest : List Pair) (run : List Step) →
      HasKeysInOrder pairs → RunsFrom after (Map pairs) run (Map rest) → HasKeysInOrder rest
  -- so two maps are equal exactly where each key has the same value in both, or none in both
  pub same :
      (ps qs : List Pair) → HasKeysInOrder ps → HasKeysInOrder qs →
      (same_state (Map ps) (Map qs) ≡ true) ↔ ((key : ℤ) → value_at key ps ≡ value_at key qs)
  -- a put can always be made
  pub puts :
      (pairs : List Pair) (key value : ℤ) (process : ℕ) →
      step_reply (after (Map pairs) process (Put key value)) ≡ Some Okay
  -- after any run a get can be made: it answers the value that the run leaves its key, or empty where it leaves none
  pub gets :
      (pairs : List Pair) (run : List Step) (t : ObjState) (key : ℤ) (process : ℕ) →
      RunsFrom after (Map pairs) run t →
      step_reply (after t process (Lookup key))
      ≡ Some (reply_to_lookup (value_after key (value_at key pairs) run))
  -- so can a delete, and it answers whether the run leaves its key a value
  pub deletes :
      (pairs : List Pair) (run : List Step) (t : ObjState) (key : ℤ) (process : ℕ) →
      RunsFrom after (Map pairs) run t →
      step_reply (after t process (Delete key))
      ≡ Some (Flag (is_some (value_after key (value_at key pairs) run)))
