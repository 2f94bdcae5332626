use Rattle.std.proofs.lemmas.Result.{IfOk-weaker}
use Rattle.std.proofs.Common.{◌∙◌, ap}
use Rattle.lin_history.specs.Problems.AnyProblem.{any_problem}
use Rattle.lincheck.proofs.RunsLemmas.{told_in_bounds}
use Rattle.lincheck.proofs.full_search.search_alone.Goals as goal

pub returns-clause-told : goal.returns-clause-told
returns-clause-told g c = IfOk-weaker c.check_alone.result _ _ (λ told k. told_in_bounds (any_problem c.args.problem.now) c.args.setting.now.bounds c.new-bounds.result (ap (λ b. b.seconds) c.new-bounds.ensures ∙ c.watcher.ensures) told k) c.check_alone.ensures.told
