use Rattle.std.proofs.Common.{refl}
use Rattle.lin_history.specs.Problems.Problem.{problem_of}
use Rattle.lin_search.proofs.PathLemmas.{ok_map}
use Rattle.lin_prefixes.proofs.BeatenLemmas.{beaten_itself}
use Rattle.lin_prefixes.proofs.LackLemmas.{lacking_none, missed_all}
use Rattle.lin_prefixes.proofs.choices.try_dropped.Goals as goal

pub returns-then-branch-clause-better : goal.returns-then-branch-clause-better
returns-then-branch-clause-better g c = beaten_itself c.args.best.now

pub returns-then-branch-clause-known : goal.returns-then-branch-clause-known
returns-then-branch-clause-known g c =
    λ yes r w. absurd (missed_all (problem_of g.O.SeqObject.after g.O.State.PartialEq.eq g.O.Reply.PartialEq.eq c.args.problem.now) c.args.choice.cut.call _ c.args.choice.dropped.now c.args.choice.late.now 0 r c.requires.conflicts (rw c.as_slice.ensures.value at (c.in_ok-some_missed.ensures c.if-branch.true)) refl w)

pub returns-then-branch-2-clause-better : goal.returns-then-branch-2-clause-better
returns-then-branch-2-clause-better g c = beaten_itself c.args.best.now

pub returns-then-branch-2-clause-known : goal.returns-then-branch-2-clause-known
returns-then-branch-2-clause-known g c =
    λ yes r w. absurd (missed_all (problem_of g.O.SeqObject.after g.O.State.PartialEq.eq g.O.Reply.PartialEq.eq c.args.problem.now) c.args.choice.cut.call _ c.args.choice.dropped.now c.args.choice.late.now 0 r c.in_ok-add_conflict.ensures (rw c.as_slice-3.ensures.value at (c.in_ok-some_missed-2.ensures c.if-branch-2.true)) refl w)

pub returns-clause-known : goal.returns-clause-known
returns-clause-known g c =
    ok_map _ _ c.try_part.result (λ known h yes r w. h yes r (lacking_none (problem_of g.O.SeqObject.after g.O.State.PartialEq.eq g.O.Reply.PartialEq.eq c.args.problem.now) c.args.choice.cut.call c.args.choice.dropped.now c.args.choice.late.now 0 r refl w)) c.try_part.ensures.known

pub returns-then-not-branch-clause-better : goal.returns-then-not-branch-clause-better
returns-then-not-branch-clause-better g c = beaten_itself c.args.best.now
