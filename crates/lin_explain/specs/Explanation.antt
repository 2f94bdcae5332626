-- Why a run of an object's calls ends: the state after it, and the calls that could come next.
use Rattle.std.specs.Prelude.{◌≡◌, ℕ, ◌<◌, Option, Some, None, List, [], ◌∷◌, length, map, slice_get}
use Rattle.lin_object.specs.declared.op.Op.{Op}
use Rattle.lin_object.specs.declared.reply.Reply.{Reply}
use Rattle.lin_object.specs.declared.state.ObjState.{ObjState}
use Rattle.lin_object.specs.StepAnswers.{step_reply}
use Rattle.lin_history.specs.declared.problems.problem.ProblemCall.{ProblemCall}
use Rattle.lin_history.specs.Problems.Lists.{In}
use Rattle.lin_history.specs.Problems.Problem.{Problem}
use Rattle.lin_history.specs.Problems.Precedence.{Before}
use Rattle.lin_history.specs.Problems.LegalLists.{Legal}
use Rattle.lin_explain.specs.declared.explanation.NextCall.{NextCall}
use Rattle.lin_explain.specs.declared.explanation.Explanation.{Explanation}

-- The call could come next after the run: it is not in it, and every call that precedes it is. So it is a minimal call of
-- those that the run leaves (Wing and Gong 1993).
pub record IsNextCall {State Op Reply : Type 0} (p : Problem State Op Reply) (run : List ℕ) (c : ℕ) : Type 0 where
  pub there : c < length p.calls
  pub outside : In c run → ⊥
  pub preceded : (a : ℕ) → Before p a c → In a run

-- Each call of the list has a greater number than those before it (this project's own).
abbrev pub IsRising : List ℕ → Type 0
IsRising [] = Unit {0}
IsRising (c ∷ cs) = ((d : ℕ) → In d cs → c < d) × IsRising cs

-- The list has the calls that could come next and no other, in increasing order (this project's own).
pub record AreNextCalls {State Op Reply : Type 0} (p : Problem State Op Reply) (run calls : List ℕ) : Type 0 where
  pub rises : IsRising calls
  pub there : (c : ℕ) → IsNextCall p run c → In c calls
  pub only : (c : ℕ) → In c calls → IsNextCall p run c

-- What a call would answer in this state; none where it has no step there (this project's own).
abbrev pub answer_in : {State Op Reply : Type 0} → Problem State Op Reply → State → Option (ProblemCall Op Reply) → Option Reply
answer_in p s None = None
answer_in p s (Some x) = step_reply (p.after s x.process x.op)

-- The call of this number, with what it would answer in this state (this project's own).
abbrev pub next_in : {Op : Type 0} → Problem ObjState Op Reply → ObjState → ℕ → NextCall
next_in p s c = record { call = c; answer = answer_in p s (slice_get p.calls c) }

-- The state after the run, and each call that could come next with what it would answer there (this project's own). After a
-- longest run no answer is the recorded one, and no call that is pending has an answer: the run with that call behind it
-- would be a longer one.
pub record IsExplanation (p : Problem ObjState Op Reply) (run : List ℕ) (e : Explanation) : Type 0 where
  pub state : Legal p p.start run e.state
  pub calls : List ℕ
  pub are : AreNextCalls p run calls
  pub next : e.next.items ≡ map (next_in p e.state) calls
