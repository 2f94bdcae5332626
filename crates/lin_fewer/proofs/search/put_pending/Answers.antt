use Rattle.std.proofs.Common.{arith}
use Rattle.lin_history.specs.Problems.Problem.{problem_of}
use Rattle.lin_fewer.proofs.KnowledgeLemmas.{pending_skip, pending_more}
use Rattle.lin_fewer.proofs.search.put_pending.Goals as goal

pub returns-then-is_completed : goal.returns-then-is_completed
returns-then-is_completed g c = pending_skip (problem_of g.O.SeqObject.after g.O.State.PartialEq.eq g.O.Reply.PartialEq.eq c.args.problem.now) c.args.pending.now c.args.call c.requires.pending

pub insert-requires-clause-within : goal.insert-requires-clause-within
insert-requires-clause-within g c = (let f = c.requires.pending.flags in let e = c.requires.call in omega (arith, f, e))

pub insert-requires-clause-outside : goal.insert-requires-clause-outside
insert-requires-clause-outside g c = c.requires.pending.later c.args.call (omega arith)

pub returns : goal.returns
returns g c = pending_more (problem_of g.O.SeqObject.after g.O.State.PartialEq.eq g.O.Reply.PartialEq.eq c.args.problem.now) c.args.pending.now _ c.args.call (λ done. (let e = c.is_completed.ensures.1 done in let f = c.if-is_completed.false in cc)) c.requires.pending c.in_ok-insert.ensures.lifted
