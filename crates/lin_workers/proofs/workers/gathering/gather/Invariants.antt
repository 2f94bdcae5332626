use Rattle.std.proofs.Common.{◌≡◌, ℕ, ◌+◌, ◌≤◌, List, Option, vec_capacity, vec_len, All}
use Rattle.lin_history.specs.Problems.Problem.{Problem}
use Rattle.lin_table.specs.Hand.{IsHandOf, TableFacts}
use Rattle.lin_workers.specs.Cut.{Task}
use Rattle.lin_workers.specs.Outcomes.{AreOutcomes}
use Rattle.lin_workers.specs.Values.{AreValues}
use Rattle.lin_workers.proofs.workers.gathering.gather.Given as goal

abbrev pub decreases-loop-worker : goal.decreases-loop-worker
decreases-loop-worker g l = vec_len l.workers

abbrev pub invariant-loop-worker : goal.invariant-loop-worker
invariant-loop-worker g l = record {
  room : vec_len l.hands + vec_len l.workers ≤ vec_capacity l.hands;
  count : vec_len l.hands + vec_len l.workers ≡ vec_len l.fn.hands + vec_len l.fn.workers;
  capacity : vec_capacity l.hands ≡ vec_capacity l.fn.hands;
  left : (p : Problem g.row.O-State.Denot g.row.O-Op.Denot g.row.O-Reply.Denot) (tasks : List (Task g.row.O-State.Denot)) (limit : Option ℕ) → All (λ worker. AreValues p tasks limit worker.seat worker.values.items) l.fn.workers.items → All (λ worker. AreValues p tasks limit worker.seat worker.values.items) l.workers.items;
  outcomes : (p : Problem g.row.O-State.Denot g.row.O-Op.Denot g.row.O-Reply.Denot) (tasks : List (Task g.row.O-State.Denot)) (limit : Option ℕ) → All (λ worker. AreValues p tasks limit worker.seat worker.values.items) l.fn.workers.items → AreOutcomes p tasks limit l.fn.outcomes → AreOutcomes p tasks limit l.outcomes;
  held : (table : TableFacts g.row.O.Denot g.row.O-State.Denot g.row.O-Op.Denot g.row.O-Reply.Denot) → All (λ worker. IsHandOf table worker.hand) l.fn.workers.items → All (λ worker. IsHandOf table worker.hand) l.workers.items;
  hands : (table : TableFacts g.row.O.Denot g.row.O-State.Denot g.row.O-Op.Denot g.row.O-Reply.Denot) → All (λ worker. IsHandOf table worker.hand) l.fn.workers.items → All (IsHandOf table) l.fn.hands.items → All (IsHandOf table) l.hands.items;
}
