-- Pending calls that have one reply only, returned with it behind all events (this project's own).
use Rattle.std.specs.Prelude.{◌≡◌, ◌↔◌, ◌⊎◌, ℕ, ◌≤◌, Some, None, List, slice_get}
use Rattle.lin_object.specs.declared.op.Op.{Op}
use Rattle.lin_object.specs.declared.reply.Reply.{Reply}
use Rattle.lin_object.specs.declared.state.ObjState.{ObjState}
use Rattle.lin_object.specs.Kinds.{after}
use Rattle.lin_history.specs.declared.problems.problem.ProblemCall.{ProblemCall}
use Rattle.lin_history.specs.Problems.Problem.{Problem}
use Rattle.lin_history.specs.Problems.Linearizations.{IsRun}

-- Whatever the state and whoever calls, the operation's step, if it has one, replies this.
abbrev pub HasOnlyReply : Op → Reply → Type 0
HasOnlyReply op reply = (s : ObjState) (process : ℕ) (t : ObjState) (r : Reply) → after s process op ≡ Some (t, r) → r ≡ reply

-- The runs of the one problem are those of the other.
abbrev pub HasSameRuns : Problem ObjState Op Reply → Problem ObjState Op Reply → Type 0
HasSameRuns p q = (l : List ℕ) → IsRun p l ↔ IsRun q l

-- No call was called after the event.
abbrev pub IsBehind : Problem ObjState Op Reply → ℕ → Type 0
IsBehind p number = (c : ℕ) (x : ProblemCall Op Reply) → slice_get p.calls c ≡ Some x → x.called ≤ number

-- The call, which was pending and has only this reply, returned with it at an event behind all.
pub record GotReply (p : Problem ObjState Op Reply) (x y : ProblemCall Op Reply) : Type 0 where
  pub pending : x.returned ≡ None
  pub number : ℕ
  pub reply : Reply
  pub only : HasOnlyReply x.op reply
  pub behind : IsBehind p number
  pub same : y ≡ record x { returned = Some (number, reply) }

-- The other problem's call is the same, or got its reply.
abbrev pub IsReplied : Problem ObjState Op Reply → Problem ObjState Op Reply → ℕ → Type 0
IsReplied p q c = (x : ProblemCall Op Reply) × (slice_get p.calls c ≡ Some x) × ((y : ProblemCall Op Reply) × (slice_get q.calls c ≡ Some y) × ((y ≡ x) ⊎ GotReply p x y))
