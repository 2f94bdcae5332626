use Rattle.std.proofs.Common.{◌+◌, List, sym, subst, arith}
use Rattle.lin_history.specs.Problems.AnyProblem.{any_problem}
use Rattle.lin_ahead.specs.declared.mutexes.sections.Section.{Section}
use Rattle.lin_ahead.proofs.mutexes.RowLemmas.{AreSectionsTo, section_more, section_same, all_sections}
use Rattle.lin_ahead.proofs.mutexes.sections.sections_by_calls.Goals as goal
use Rattle.lin_ahead.proofs.mutexes.sections.sections_by_calls.Goals.{in-Some+in_ok-push, in_default}

pub loop-call-preserved : goal.loop-call-preserved
loop-call-preserved c =
    let p = any_problem c.args.problem.now in
    elim c.match-section_of.branch [
      | in-Some+in_ok-push w ↦ rw w.sections-is (subst (λ (l : List Section). AreSectionsTo p (c.loop-call.call + 1) l) (sym w.in_ok-push.ensures.items)
          (section_more p c.loop-call.call c.loop-call.sections.items w.in-Some.section c.loop-call.invariant w.in-Some.ensures.some.0 w.in-Some.ensures.some.1))
      | in_default w ↦ rw w.sections-is (section_same p c.loop-call.call c.loop-call.sections.items c.loop-call.invariant w.in_default.ensures.none)
    ]

pub returns : goal.returns
returns c = all_sections (any_problem c.args.problem.now) c.loop-call.call c.loop-call.sections.items (let a = c.loop-call-test.false in let b = c.len-call-end.ensures in omega (arith, a, b)) c.loop-call.invariant
