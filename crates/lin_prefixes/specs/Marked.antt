-- Marks of calls (this project's own).
use Rattle.std.specs.Prelude.{◌≡◌, ℕ, ◌<◌, ℤ, List, IsTrue, true, false, length, slice_index_or}
use Rattle.std.specs.Ordering.{int_eq}
use Rattle.indexmap.specs.IndexSet.{contains}
use Rattle.lin_object.specs.declared.op.Op.{Op}
use Rattle.lin_object.specs.declared.reply.Reply.{Reply}
use Rattle.lin_object.specs.declared.state.ObjState.{ObjState}
use Rattle.lin_history.specs.Problems.Lists.{In}
use Rattle.lin_history.specs.Problems.Problem.{Problem}
use Rattle.lin_prefixes.specs.declared.marks.Marks.{Marks}
use Rattle.lin_prefixes.specs.Freed.{TookOut}

-- The marks are of these calls that are kept and these that take.
pub record AreMarked (p : Problem ObjState Op Reply) (kept takers : List ℕ) (marks : Marks) : Type 0 where
  pub kept_there : (c : ℕ) → slice_index_or marks.kept.items c false ≡ true → In c kept
  pub taker_there : (c : ℕ) → slice_index_or marks.takers.items c false ≡ true → In c takers
  pub each_taker : (c : ℕ) → In c takers → c < length p.calls → slice_index_or marks.takers.items c false ≡ true
  pub each_item : (g : ℕ) → In g takers → (w : ℤ) → TookOut p g w → IsTrue (contains int_eq marks.items w)
