use Rattle.std.proofs.Common.{sym, ◌∙◌}
use Rattle.lin_object.specs.StepLemmas.{state_same}
use Rattle.lin_history.specs.Problems.AnyProblem.{any_problem}
use Rattle.lin_search.specs.SameLemmas.{alike_itself}
use Rattle.lin_ahead.proofs.values.DueLemmas.{told_ok, another_begins_none, between_begins_none, two_begin_none}
use Rattle.lin_ahead.proofs.values.StrandedLemmas.{stranded_begins_none}
use Rattle.lin_ahead.proofs.values.rules.ValueRulesRulesAnyObject.leads_to_none.Goals as goal

pub another_is_due-requires : goal.another_is_due-requires
another_is_due-requires c = rw c.as_slice-owners.ensures.value c.requires.right.owners

pub two_change-requires : goal.two_change-requires
two_change-requires c = rw c.as_slice-owners.ensures.value c.requires.right.owners

pub comes_between-requires : goal.comes_between-requires
comes_between-requires c = rw c.as_slice-owners.ensures.value c.requires.right.owners

pub returns-then-another_is_due : goal.returns-then-another_is_due
returns-then-another_is_due c = λ known.
    another_begins_none (any_problem c.args.problem.now) state_same (alike_itself c.lawful.ensures _)
    _ _ c.requires.reachable c.args.call c.args.state.now c.requires.next
    (rw c.state.ensures at (sym c.eq.ensures ∙ c.if-eq.false))
    (c.another_is_due.ensures c.if-another_is_due.true)

pub returns-then-branch : goal.returns-then-branch
returns-then-branch c = λ known.
    two_begin_none (any_problem c.args.problem.now) state_same (alike_itself c.lawful.ensures _)
    _ _ c.requires.reachable c.args.call c.args.state.now c.requires.next
    (c.in_ok-two_change.ensures c.if-branch.true)

pub returns-then-branch-2 : goal.returns-then-branch-2
returns-then-branch-2 c = λ known.
    between_begins_none (any_problem c.args.problem.now) state_same (alike_itself c.lawful.ensures _)
    _ _ c.requires.reachable c.args.call c.args.state.now c.requires.next
    (c.in_ok-comes_between.ensures c.if-branch-2.true)

pub strands-requires : goal.strands-requires
strands-requires c = c.requires.right

pub returns : goal.returns
returns c = told_ok c.strands.result
    (stranded_begins_none (any_problem c.args.problem.now) state_same (alike_itself c.lawful.ensures _)
    _ _ c.requires.reachable c.args.call c.args.state.now c.requires.next
    (rw c.state.ensures at (sym c.eq.ensures ∙ c.if-eq.false)))
    c.strands.ensures
