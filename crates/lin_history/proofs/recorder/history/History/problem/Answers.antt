use Rattle.std.proofs.Common.{rules}
use Rattle.lin_history.proofs.recorder.history.History.problem.Goals as goal

pub problem_at-requires-clause-indices : goal.problem_at-requires-clause-indices
problem_at-requires-clause-indices c = search rules
