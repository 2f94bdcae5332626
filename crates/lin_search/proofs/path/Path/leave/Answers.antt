use Rattle.std.proofs.Common.{◌∙◌, ap, arith, length}
use Rattle.lin_search.specs.Path.{KeptFrame}
use Rattle.lin_search.proofs.path.Path.leave.Goals as goal

pub longest_with-longest-requires-clause-call : goal.longest_with-longest-requires-clause-call
longest_with-longest-requires-clause-call g c =
    let calls = ap length (c.calls-calls.ensures.calls ∙ ap (λ p. p.calls) c.problem.ensures) in
    let within = c.requires.last.2.within in let few = c.if-prove.false in omega (arith, within, few, calls)

pub after-requires-clause-lifted : goal.after-requires-clause-lifted
after-requires-clause-lifted g c = rw c.unlift.ensures.problem c.in_ok-unlift.ensures.lifted

pub after-requires-clause-minimal : goal.after-requires-clause-minimal
after-requires-clause-minimal g c =
    let call = ap (λ (f : KeptFrame g.row.O-State.Denot). f.call) c.frame.view_is in
    rw (c.unlift.ensures.problem, ← c.in_ok-unlift.ensures.lifted, c.unlift.ensures.last c.requires.last.0 c.requires.last.1, call) c.requires.last.2

pub returns-clause-candidate : goal.returns-clause-candidate
returns-clause-candidate g c =
    let call = ap (λ (f : KeptFrame g.row.O-State.Denot). f.call) c.frame.view_is in
    rw (c.unlift.ensures.problem, call) at c.after.ensures.candidate

pub returns-clause-longer : goal.returns-clause-longer
returns-clause-longer g c = rw c.after.ensures.longest c.longest_with-longest.ensures.longer

pub returns-clause-not_longer : goal.returns-clause-not_longer
returns-clause-not_longer g c = rw c.after.ensures.longest c.longest_with-longest.ensures.not_longer
