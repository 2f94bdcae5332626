use Rattle.std.proofs.Common.{sym, subst, ◌≡◌, None}
use Rattle.lin_ahead.proofs.mutexes.SectionLemmas.{too_early}
use Rattle.lin_object.specs.declared.state.ObjState.{ObjState}
use Rattle.lin_object.specs.declared.state.ObjState.TheVariants.{Mutex}
use Rattle.lin_history.specs.Problems.AnyProblem.{any_problem}
use Rattle.lin_ahead.specs.First.FirstProgress.{BeginsNone}
use Rattle.lin_ahead.proofs.mutexes.rules.is_too_early.Goals as goal

-- src/mutexes/mutex_rules.rt:74:1
pub returns-then-takes_if_free : goal.returns-then-takes_if_free
returns-then-takes_if_free c = λ yes.
    let left = c.is_left_from.ensures yes in
    subst (λ (s : ObjState). BeginsNone (any_problem c.args.problem.now) c.args.config.now.lifted s c.args.call) (sym (subst (λ (s : ObjState). s ≡ Mutex None) c.state.ensures (c.is_free.ensures.0 c.if-not-is_free.false)))
    (too_early c.args.problem.now c.requires c.args.config.now.lifted c.args.call c.args.acquire left.0 c.call-one.result.now c.call-one.ensures (sym c.if-takes_if_free.ensures) left.1 left.3 c.if-acquire-call.false left.2)
