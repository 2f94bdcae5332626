use Rattle.std.proofs.Common.{Some, arith}
use Rattle.std.proofs.lemmas.List.Elements.{All-pop, All-push}
use Rattle.lin_table.specs.Hand.{IsHandOf}
use Rattle.lin_workers.specs.Values.{AreValues}
use Rattle.lin_workers.proofs.OutcomeLemmas.{outcomes_placed}
use Rattle.lin_workers.proofs.workers.gathering.gather.Goals as goal

pub loop-worker-preserved : goal.loop-worker-preserved
loop-worker-preserved g c =
    let i = c.loop-worker.invariant in record {
      room = (let r = i.room in let a = c.in-Some.ensures.len in let b = c.push_reserved.ensures.len in let d = c.push_reserved.ensures.capacity in omega (arith, r, a, b, d));
      count = (let r = i.count in let a = c.in-Some.ensures.len in let b = c.push_reserved.ensures.len in omega (arith, r, a, b));
      capacity = (let r = i.capacity in let a = c.push_reserved.ensures.capacity in omega (arith, r, a));
      left = λ p tasks limit h. (All-pop (λ worker. AreValues p tasks limit worker.seat worker.values.items) _ _ (Some c.in-Some.worker) c.in-Some.ensures.items (i.left p tasks limit h)).0;
      outcomes = λ p tasks limit h k. outcomes_placed p limit tasks c.in-Some.worker.seat _ _ _ c.place_values.ensures
          (All-pop (λ worker. AreValues p tasks limit worker.seat worker.values.items) _ _ (Some c.in-Some.worker) c.in-Some.ensures.items (i.left p tasks limit h)).1 (i.outcomes p tasks limit h k);
      held = λ table h. (All-pop (λ worker. IsHandOf table worker.hand) _ _ (Some c.in-Some.worker) c.in-Some.ensures.items (i.held table h)).0;
      hands = λ table h k. rw c.push_reserved.ensures.items (All-push (IsHandOf table) c.loop-worker.hands.items _ (i.hands table h k)
          (All-pop (λ worker. IsHandOf table worker.hand) _ _ (Some c.in-Some.worker) c.in-Some.ensures.items (i.held table h)).1);
    }
