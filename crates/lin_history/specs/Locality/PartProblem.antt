-- The part of a history on one object, as a problem.
use Rattle.std.specs.Prelude.{ℕ, Bool, filter, map, ◌==◌}
use Rattle.lin_history.specs.Problems.Problem.{Problem}
use Rattle.lin_history.specs.Locality.Whole.{Whole}
use Rattle.lin_history.specs.Recorder.Parts.{problem_call}

-- The calls on the object, from its start state, under the meaning of the operations in the whole.
abbrev pub part_problem : {State Op Reply : Type 0} → (State → State → Bool) → Whole State Op Reply → ℕ → Problem State Op Reply
part_problem same_state h object = record {
  after = h.after;
  same_state = same_state;
  same_reply = h.same_reply;
  start = h.starts object;
  calls = map problem_call (filter (λ c. c.object == object) h.calls);
}
