use Rattle.std.proofs.Common.{Some}
use Rattle.std.proofs.lemmas.List.Elements.{All-pop, All-push, All-same}
use Rattle.lin_table.specs.Hand.{IsHandOf}
use Rattle.lin_workers.proofs.check.verdict_by_hands.Goals as goal

pub verdict_with_workers-verdict-requires-clause-hands : goal.verdict_with_workers-verdict-requires-clause-hands
verdict_with_workers-verdict-requires-clause-hands g c κs within =
    (All-pop (IsHandOf c.args.table.now) _ _ (Some c.in-Some.own) c.in-Some.ensures.items c.requires.hands).0

pub returns-clause-hands : goal.returns-clause-hands
returns-clause-hands g c =
    All-same (IsHandOf c.args.table.now) _ _ c.push_reserved.ensures.items (All-push (IsHandOf c.args.table.now) _ _ c.verdict_with_workers-verdict.ensures.hands c.verdict_with_workers-verdict.ensures.own)
