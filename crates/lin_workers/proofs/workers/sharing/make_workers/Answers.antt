use Rattle.std.proofs.Common.{◌≡◌, [], Some, arith}
use Rattle.std.proofs.lemmas.List.Elements.{All-pop, All-push}
use Rattle.lin_board.specs.Board.{IsSeatOf}
use Rattle.lin_table.specs.Hand.{IsHandOf}
use Rattle.lin_workers.proofs.workers.sharing.make_workers.Goals as goal

pub loop-seat-preserved : goal.loop-seat-preserved
loop-seat-preserved g c = record {
  room = (let r = c.loop-seat.invariant.room in let a = c.in-Some.ensures.len in let b = c.push_reserved.ensures.len in let d = c.push_reserved.ensures.capacity in omega (arith, r, a, b, d));
  enough = (let r = c.loop-seat.invariant.enough in let a = c.in-Some.ensures.len in let b = c.in-Some-pop.ensures.len in omega (arith, r, a, b));
  count = (let r = c.loop-seat.invariant.count in let a = c.in-Some-pop.ensures.len in let b = c.push_reserved.ensures.len in omega (arith, r, a, b));
  capacity = (let r = c.loop-seat.invariant.capacity in let a = c.in-Some-pop.ensures.capacity in omega (arith, r, a));
  hands = λ table h. (All-pop (IsHandOf table) _ _ (Some c.in-Some-pop.hand) c.in-Some-pop.ensures.items (c.loop-seat.invariant.hands table h)).0;
  seats = λ board h. (All-pop (IsSeatOf board) _ _ (Some c.in-Some.seat) c.in-Some.ensures.items (c.loop-seat.invariant.seats board h)).0;
  workers = λ table board h k. rw c.push_reserved.ensures.items (All-push (λ worker. IsHandOf table worker.hand × IsSeatOf board worker.seat × (worker.values.items ≡ [])) c.loop-seat.workers.items _ (c.loop-seat.invariant.workers table board h k) (
    (All-pop (IsHandOf table) _ _ (Some c.in-Some-pop.hand) c.in-Some-pop.ensures.items (c.loop-seat.invariant.hands table h)).1,
    (All-pop (IsSeatOf board) _ _ (Some c.in-Some.seat) c.in-Some.ensures.items (c.loop-seat.invariant.seats board k)).1,
    c.new.ensures.items,
  ));
}
