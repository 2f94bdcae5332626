use Rattle.std.proofs.Common.{arith}
use Rattle.lin_fewer.proofs.waiting.Waiting.from.Goals as goal

pub returns-in-Some-clause-up : goal.returns-in-Some-clause-up
returns-in-Some-clause-up g c = c.self.invariant.up c.args.call c.in-Some.next (rw (c.in-Some.is, c.as_slice.ensures.value) at c.entry.ensures.some)

pub returns-in-Some-clause-between : goal.returns-in-Some-clause-between
returns-in-Some-clause-between g c = rw (← c.self.view_is) (c.self.invariant.between c.args.call c.in-Some.next (rw (c.in-Some.is, c.as_slice.ensures.value) at c.entry.ensures.some))

pub returns-in-None-clause-up : goal.returns-in-None-clause-up
returns-in-None-clause-up g c = (let m = c.max.ensures in omega (arith, m))

pub returns-in-None-clause-between : goal.returns-in-None-clause-between
returns-in-None-clause-between g c = rw (← c.self.view_is) (λ d from less within. c.self.invariant.behind d (let n = rw (c.in-None.is, c.as_slice.ensures.value) at c.entry.ensures.none in omega (arith, n, from)) within within)
