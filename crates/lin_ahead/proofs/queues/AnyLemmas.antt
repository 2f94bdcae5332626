-- The object that histories are judged by, as an object of queues.
use Rattle.std.proofs.Common.{◌≡◌, ℕ, Some, List, length, [], ◌∙◌, refl, ap}
use Rattle.std.specs.Prelude.{ℤ, slice_get}
use Rattle.lin_object.specs.declared.op.Op.{Op}
use Rattle.lin_object.specs.declared.reply.Reply.{Reply}
use Rattle.lin_object.specs.declared.state.ObjState.{ObjState}
use Rattle.lin_object.specs.declared.state.ObjState.TheVariants.{Queue}
use Rattle.lin_history.specs.ReplyLemmas.{reply_same}
use Rattle.lin_history.specs.Problems.ProblemParts.{ProblemParts, AreTimed}
use Rattle.lin_history.specs.Problems.Needs.{NeedNumbers, AreNeeds}
use Rattle.lin_history.specs.Problems.AnyProblem.{any_problem}
use Rattle.lin_ahead.specs.Queues.Queue.{IsOfQueue}
use Rattle.lin_ahead.specs.Items.Numbers.{IsBy, IsFrom}
use Rattle.lin_ahead.specs.Items.ItemCalls.{told, least_pending}
use Rattle.lin_ahead.specs.Items.CallNumbers.{by_row, from_row}
use Rattle.lin_ahead.proofs.items.RowLemmas.{by_row_is, from_row_is}
use Rattle.std.proofs.lemmas.List.{length-map}
use Rattle.lin_ahead.proofs.queues.NumberLemmas.{numbers_need}

module _ {Object : Type 0} (p : ProblemParts Object ObjState Op Reply) where
  pub of_any : (items : List ℤ) → p.start ≡ Queue items → IsOfQueue (any_problem p) items
  of_any items e = record { after_is = λ s process op. refl; start_is = e; exact = reply_same }

  -- lists of such numbers tell what is needed
  pub are_needs : (items : List ℤ) → p.start ≡ Queue items → (rows : NeedNumbers) → length rows.by ≡ length p.calls → length rows.from ≡ length p.calls
      → ((a m : ℕ) → slice_get rows.by a ≡ Some m → IsBy (any_problem p) items a m) → ((b n : ℕ) → slice_get rows.from b ≡ Some n → IsFrom (any_problem p) items b n) → AreNeeds (any_problem p) rows
  are_needs items e rows bys froms k l = record {
    each_by = bys;
    each_from = froms;
    needed = λ a b m n there here below. numbers_need (of_any items e) a b m n (k a m there) (l b n here) below;
  }

  -- and so do the rows of the numbers of its calls
  pub known : (rows : NeedNumbers) → p.start ≡ Queue [] → AreTimed p.calls → rows.by ≡ by_row (told p.calls) p.calls → rows.from ≡ from_row (told p.calls) (least_pending p.calls) p.calls → AreNeeds (any_problem p) rows
  known rows start timed bys froms = are_needs [] start rows
      (ap length bys ∙ length-map p.calls _)
      (ap length froms ∙ length-map p.calls _)
      (λ a m e. by_row_is (any_problem p) a m (rw (← bys) e))
      (λ b n e. from_row_is (any_problem p) timed b n (rw (← froms) e))
