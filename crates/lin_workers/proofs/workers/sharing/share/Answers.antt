use Rattle.std.proofs.Common.{◌≡◌, ◌∙◌, All, ap, sym, subst}
use Rattle.std.proofs.lemmas.List.Elements.{All-weaker}
use Rattle.lin_history.specs.Problems.Problem.{problem_of}
use Rattle.lin_board.specs.Board.{IsSeatOf, new_seat}
use Rattle.lin_board.specs.Facts.{SeatFacts}
use Rattle.lin_table.specs.Hand.{IsHandOf}
use Rattle.lin_workers.specs.Outcomes.{AreOutcomes}
use Rattle.lin_workers.specs.Values.{AreValues}
use Rattle.lin_workers.proofs.OutcomeLemmas.{outcomes_none, written}
use Rattle.lin_workers.proofs.workers.sharing.share.Goals as goal

pub work_all-requires-clause-workers : goal.work_all-requires-clause-workers
work_all-requires-clause-workers g c κs within =
    rw c.as_mut_slice.ensures.value (c.make_workers.ensures.workers c.args.table.now c.in_ok-board.board c.requires.hands
    (All-weaker (λ (s : SeatFacts). s ≡ new_seat c.in_ok-board.board) (IsSeatOf c.in_ok-board.board) (λ s e. ap (λ (x : SeatFacts). x.board) e) _ c.in_ok-board.ensures.seats))

pub returns-clause-outcomes : goal.returns-clause-outcomes
returns-clause-outcomes g c =
    let p = problem_of g.O.SeqObject.after g.O.State.PartialEq.eq g.O.Reply.PartialEq.eq c.args.table.now.problem in
    let before = outcomes_none p c.args.tasks.now c.args.bounds.now.limit c.as_mut_slice-2.result.now (c.as_mut_slice-2.ensures.value ∙ c.in_ok-outcomes.ensures) in
    let after = c.gather.ensures.outcomes p c.args.tasks.now c.args.bounds.now.limit
    (subst (All (λ worker. AreValues p c.args.tasks.now c.args.bounds.now.limit worker.seat worker.values.items)) (sym (written _ c.work_all.new.workers _ (c.work_all.ensures.count ∙ c.as_mut_slice.ensures.len))) (subst (λ q. All (λ worker. AreValues (problem_of g.O.SeqObject.after g.O.State.PartialEq.eq g.O.Reply.PartialEq.eq q) c.args.tasks.now c.args.bounds.now.limit worker.seat worker.values.items) c.work_all.new.workers) c.problem.ensures c.work_all.ensures.values))
    before in
    subst (AreOutcomes p c.args.tasks.now c.args.bounds.now.limit) (sym (written _ c.gather.new.outcomes _ (after.places ∙ sym before.places ∙ c.as_mut_slice-2.ensures.len))) after

pub returns-clause-hands : goal.returns-clause-hands
returns-clause-hands g c =
    c.gather.ensures.hands c.args.table.now
    (subst (All (λ worker. IsHandOf c.args.table.now worker.hand)) (sym (written _ c.work_all.new.workers _ (c.work_all.ensures.count ∙ c.as_mut_slice.ensures.len))) c.work_all.ensures.hands)
    (c.make_workers.ensures.hands c.args.table.now c.requires.hands)
