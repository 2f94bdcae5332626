use Rattle.std.proofs.Common.{◌≡◌, Some, true, sym, ◌∙◌, ap, subst, rules, w64, to_z, of_z}
use Rattle.std.specs.Ordering.{int_eq}
use Rattle.indexmap.specs.IndexMap.{get}
use Rattle.lin_history.specs.Problems.AnyProblem.{any_problem}
use Rattle.lin_ahead.specs.Items.Impossible.{are_several, callers_in, item_out}
use Rattle.lin_ahead.proofs.items.ItemsOutLemmas.{again_exact}
use Rattle.lin_ahead.proofs.items.taken_twice.took_again.Goals as goal

pub returns-then-are_several : goal.returns-then-are_several
returns-then-are_several c =
    let x = c.call.result.now in
    let item = c.in-Some.item in
    let takers = callers_in (get int_eq c.args.takers.now) in
    let adders = callers_in (get int_eq c.args.adders.now) in
    let out : item_out c.args.problem.now.start x.op x.returned ≡ Some item = rw c.start.ensures at (sym c.in-Some.ensures) in
    let same : to_z w64 (of_z w64 item) ≡ item = search rules in
    let several = subst (λ v. are_several (takers v) ≡ true) same (ap are_several (sym c.callers_of.ensures) ∙ sym c.are_several.ensures ∙ c.if-are_several.true) in
    let found = subst (λ v. c.are_several-then-are_several.result ≡ are_several (adders v)) same (c.are_several-then-are_several.ensures ∙ ap are_several c.callers_of-then-are_several.ensures) in
    again_exact (any_problem c.args.problem.now) takers adders c.args.call x item c.call.ensures out several c.are_several-then-are_several.result found
