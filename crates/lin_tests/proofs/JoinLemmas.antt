-- The order of a history's only object is that of each of its objects.
use Rattle.std.proofs.Common.{◌≡◌, ℕ, zero, suc, List, [], ◌∷◌, Option, Some, None, refl, subst}
use Rattle.std.specs.Prelude.{pos}
use Rattle.std.specs.List.{slice_get}
use Rattle.std.specs.Option.{option_map, option_map_or}
use Rattle.lin_object.specs.declared.op.Op.{Op}
use Rattle.lin_object.specs.declared.reply.Reply.{Reply}
use Rattle.lin_object.specs.declared.state.ObjState.{ObjState}
use Rattle.lin_object.specs.declared.kind.Kind.TheVariants.{Register}
use Rattle.lin_object.specs.contracts.reply.ReplyPartialEq.TheImpl.{eq-value as reply_eq}
use Rattle.lin_object.specs.contracts.state.ObjStatePartialEq.TheImpl.{eq-value as state_eq}
use Rattle.lin_object.specs.Kinds.{after, state_at_start}
use Rattle.lin_history.specs.declared.problems.problem.ProblemCall.{ProblemCall}
use Rattle.lin_history.specs.Problems.Problem.{Problem}
use Rattle.lin_history.specs.Problems.Linearizations.{IsLinearization}
use Rattle.lin_history.specs.Recorder.RecordedHistory.{DeclaredObject, RecordedHistory}
use Rattle.lin_history.specs.Recorder.Parts.{start_of, part_calls}
use Rattle.lin_history.specs.Locality.RecordedWhole.{start_at, part_of}

-- the problem of an object, as a search is told it
abbrev pub searched : List (ProblemCall Op Reply) → ObjState → Problem ObjState Op Reply
searched calls start = record { after = after; same_state = state_eq.it; same_reply = reply_eq.it; start = start; calls = calls }

start_there : (o : Option DeclaredObject) (start : ObjState) → option_map start_of o ≡ Some start → start ≡ option_map_or start_of o (state_at_start Register (pos 0))
start_there None start e = absurd (cc)
start_there (Some o) start e = cc

-- what is a linearization of the problem is one of the history's part
pub of_part : (h : RecordedHistory) (object : ℕ) (calls : List (ProblemCall Op Reply)) (start : ObjState) (order : List ℕ) → option_map start_of (slice_get h.objects object) ≡ Some start → calls ≡ part_calls h object → IsLinearization (searched calls start) order → IsLinearization (part_of h object) order
of_part h object calls start order begins same holds =
    let there : start ≡ start_at h object = start_there (slice_get h.objects object) start begins in
    let posed : searched calls start ≡ part_of h object = rw (there, same) refl in
    subst (λ (q : Problem ObjState Op Reply). IsLinearization q order) posed holds

-- of a list of one order, each is that of its object
pub only_one : (h : RecordedHistory) (one : List ℕ) → IsLinearization (part_of h 0) one → (object : ℕ) (order : List ℕ) → slice_get (one ∷ []) object ≡ Some order → IsLinearization (part_of h object) order
only_one h one holds zero order e =
    let same : one ≡ order = cc in
    subst (IsLinearization (part_of h 0)) same holds
only_one h one holds (suc object) order e = absurd (cc)
