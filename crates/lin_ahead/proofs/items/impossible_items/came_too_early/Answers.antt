use Rattle.std.proofs.Common.{◌≡◌, Some, sym, subst, rules, w64, to_z, of_z}
use Rattle.lin_history.specs.Problems.AnyProblem.{any_problem}
use Rattle.lin_ahead.specs.Items.Impossible.{first_added, is_early, item_out}
use Rattle.lin_ahead.proofs.items.ItemsOutLemmas.{early_exact}
use Rattle.lin_ahead.proofs.items.impossible_items.came_too_early.Goals as goal

pub returns-in-Some : goal.returns-in-Some
returns-in-Some c =
    let x = c.call-made.result.now in
    let out : item_out c.args.problem.now.start x.op x.returned ≡ Some c.in-Some.item = rw c.start.ensures at (sym c.in-Some.ensures) in
    let same : to_z w64 (of_z w64 c.in-Some.item) ≡ c.in-Some.item = search rules in
    let found = subst (λ v. c.is_early.result ≡ is_early (first_added c.args.problem.now.calls v) x.returned) same (rw c.requires.added at c.is_early.ensures) in
    early_exact (any_problem c.args.problem.now) c.args.call x c.in-Some.item c.call-made.ensures out c.is_early.result found
