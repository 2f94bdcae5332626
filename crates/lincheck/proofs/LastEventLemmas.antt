-- The calls of a core, as they are shown, end by the event up to which they are one.
use Rattle.std.proofs.Common.{◌≡◌, ℕ, zero, suc, ◌<◌, ◌≤◌, ℤ, Bool, true, false, cond, Option, Some, None, List, [], ◌∷◌, length, map, ◌⊎◌, inl, inr, refl, subst, sym, leb-true, arith}
use Rattle.std.specs.Prelude.{nat_le, nat_lt, is_none, slice_get, slice_index}
use Rattle.lin_object.specs.declared.op.Op.{Op}
use Rattle.lin_object.specs.declared.reply.Reply.{Reply}
use Rattle.lin_object.specs.declared.state.ObjState.{ObjState}
use Rattle.lin_history.specs.declared.problems.problem.ProblemCall.{ProblemCall}
use Rattle.lin_history.specs.Problems.Problem.{Problem}
use Rattle.lin_core.specs.declared.selection.MapKey.{MapKey}
use Rattle.lin_core.specs.Cuts.{returned_by, AreCut}
use Rattle.lin_core.specs.Cores.{returned_of, AreEnoughAlone, IsCoreOf}
use Rattle.lin_explain.specs.declared.core_text.CoreCall.{CoreCall}
use Rattle.lin_explain.specs.CoreText.{event_of, unless_pending, last_event_of, later, last_event}
use Rattle.lincheck.specs.Explained.{told_in}

-- ---- one call

returned_late : (event called : ℕ) (o : Option (ℕ × Reply)) → called ≤ event → event_of called (unless_pending (is_none (returned_by event o)) o) ≤ event
returned_late event called None up = up
returned_late event called (Some r) up = by (nat_le r.0 event) refl
  where
    by : (b : Bool) → nat_le r.0 event ≡ b → event_of called (unless_pending (is_none (cond b (Some r) None)) (Some r)) ≤ event
    by true e = leb-true r.0 event e
    by false e = up

called_first : (event called : ℕ) (o : Option (ℕ × Reply)) → called ≤ event → event_of called (unless_pending true o) ≤ event
called_first event called o up = up

returned_in_time : (from : Option ℕ) (event called : ℕ) (o : Option (ℕ × Reply)) → called ≤ event → event_of called (unless_pending (is_none (returned_of from event called o)) o) ≤ event
returned_in_time None event called o up = returned_late event called o up
returned_in_time (Some from) event called o up = by (nat_lt called from)
  where
    by : (b : Bool) → event_of called (unless_pending (is_none (cond b None (returned_by event o))) o) ≤ event
    by true = called_first event called o up
    by false = returned_late event called o up

later_by : (a b event : ℕ) → a ≤ event → b ≤ event → later a b ≤ event
later_by a b event h k = by (nat_lt a b)
  where
    by : (c : Bool) → cond c b a ≤ event
    by true = k
    by false = h

-- ---- all of them

-- each call that is kept was called by the event
abbrev AreCalledBy : Problem ObjState Op Reply → ℕ → List ℕ → Type 0
AreCalledBy p event kept = (i : ℕ) → i < length kept → (x : ProblemCall Op Reply) × (slice_get p.calls (slice_index kept i) ≡ Some x) × (x.called ≤ event)

cut_by : (p : Problem ObjState Op Reply) (event : ℕ) (kept : List ℕ) (calls : List (ProblemCall Op Reply)) → AreCut p event kept calls → AreCalledBy p event kept
cut_by p event kept calls cut i h = let k = cut.each i h in (k.0, k.1, k.2)

alone_by : (p : Problem ObjState Op Reply) (event : ℕ) (kept : List ℕ) (calls : List (ProblemCall Op Reply)) (values : List ℤ) (firsts : List ℕ) → AreEnoughAlone p event kept calls values firsts → AreCalledBy p event kept
alone_by p event kept calls values firsts (inl enough) = cut_by p event kept calls enough.cut
alone_by p event kept calls values firsts (inr (inl enough)) = cut_by p event kept calls enough.cut
alone_by p event kept calls values firsts (inr (inr (inl (inl enough)))) = cut_by p event kept calls enough.cut
alone_by p event kept calls values firsts (inr (inr (inl (inr enough)))) = cut_by p event kept calls enough.cut
alone_by p event kept calls values firsts (inr (inr (inr (inl enough)))) = cut_by p event kept calls enough.cut
alone_by p event kept calls values firsts (inr (inr (inr (inr (inl odd))))) = cut_by p event kept calls odd.0
alone_by p event kept calls values firsts (inr (inr (inr (inr (inr of_item))))) = cut_by p event kept calls of_item.enough.cut

core_by : (p : Problem ObjState Op Reply) (from : Option ℕ) (event : ℕ) (key : Option MapKey) (values : List ℤ) (kept firsts : List ℕ) → IsCoreOf p from event key values kept firsts → AreCalledBy p event kept
core_by p None event None values kept firsts core = alone_by p event kept core.calls values firsts core.enough
core_by p None event (Some at) values kept firsts core = cut_by p event kept core.calls core.enough.cut
core_by p (Some from) event key values kept firsts core = λ i h. (let k = core.nothing.1.within.each i h in (k.0, k.1, k.2))

ends_by : (p : Problem ObjState Op Reply) (from : Option ℕ) (event before : ℕ) (kept : List ℕ) → AreCalledBy p event kept → before ≤ event → last_event p.calls before (map (told_in p from event) kept) ≤ event
ends_by p from event before [] by up = up
ends_by p from event before (c ∷ cs) by up = ends_by p from event (later before (last_event_of (told_in p from event c).is_pending (slice_get p.calls c))) cs (λ i h. by (suc i) (omega (arith, h))) (later_by before _ event up first)
  where
    first : last_event_of (told_in p from event c).is_pending (slice_get p.calls c) ≤ event
    first = let k = by 0 (omega arith) in rw k.1 (returned_in_time from event k.0.called k.0.returned k.2)

pub ends_by_event : (p : Problem ObjState Op Reply) (from : Option ℕ) (event : ℕ) (key : Option MapKey) (values : List ℤ) (kept firsts : List ℕ) (told : List CoreCall) → IsCoreOf p from event key values kept firsts → told ≡ map (told_in p from event) kept → last_event p.calls 0 told ≤ event
ends_by_event p from event key values kept firsts told core are = subst (λ (l : List CoreCall). last_event p.calls 0 l ≤ event) (sym are) (ends_by p from event 0 kept (core_by p from event key values kept firsts core) (omega arith))
