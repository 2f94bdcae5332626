use Rattle.std.proofs.Common.{◌≡◌, ap}
use Rattle.std.proofs.lemmas.List.Elements.{All-weaker}
use Rattle.lin_table.specs.Hand.{HandFacts, IsHandOf, new_hand}
use Rattle.lin_workers.proofs.check.check_over_table.Goals as goal

pub verdict_by_hands-verdict-requires-clause-hands : goal.verdict_by_hands-verdict-requires-clause-hands
verdict_by_hands-verdict-requires-clause-hands g c κs within =
    All-weaker (λ (h : HandFacts g.row.O.Denot g.row.O-State.Denot g.row.O-Op.Denot g.row.O-Reply.Denot). h ≡ new_hand c.in_ok-table.table) (IsHandOf c.in_ok-table.table) (λ h e. (ap (λ x. x.table) e, ap (λ x. x.problem) e)) _ c.in_ok-table.ensures.hands
