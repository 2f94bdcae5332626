-- The numbers tell what is needed.
use Rattle.std.proofs.Common.{◌≡◌, ◌≢◌, ℕ, ◌<◌, ◌≤◌, ◌^◌, Bool, Option, Some, None, List, inl, inr, refl, sym, ◌∙◌, ap, subst, arith}
use Rattle.std.specs.Prelude.{ℤ, slice_get, IfSome, IsSomeAnd}
use Rattle.lin_object.specs.declared.op.Op.{Op}
use Rattle.lin_object.specs.declared.op.Op.TheVariants.{Enqueue}
use Rattle.lin_object.specs.declared.reply.Reply.{Reply}
use Rattle.lin_object.specs.declared.state.ObjState.{ObjState}
use Rattle.lin_history.specs.declared.problems.problem.ProblemCall.{ProblemCall}
use Rattle.lin_history.specs.Problems.Problem.{Problem}
use Rattle.lin_history.specs.Problems.Precedence.{Before}
use Rattle.lin_history.specs.Problems.Needs.{Needs}
use Rattle.lin_ahead.specs.Queues.Queue.{IsOfQueue, MayTake, IsTakenAfter}
use Rattle.lin_laws.specs.Items.{Puts, Took}
use Rattle.lin_object.specs.declared.reply.Reply.TheVariants.{Int}
use Rattle.lin_history.specs.Problems.Lists.{In}
use Rattle.lin_ahead.proofs.queues.QueueLemmas.{queue_needs_item, queue_needs_empty, behind_item, behind_empty}
use Rattle.lin_ahead.specs.Items.Numbers.{ReturnsAt, CalledFrom, IsBy, IsFrom}
use Rattle.lin_ahead.specs.Behind.{NeedsBehind, OthersCalledAfter}
use Rattle.lin_ahead.specs.Queues.ToldOfQueue.{IsTaker}

same_item : (v w : ℤ) → Enqueue v ≡ Enqueue w → v ≡ w
same_item v w e = cc

module _ {p : Problem ObjState Op Reply} {start : List ℤ} (of_queue : IsOfQueue p start) where
  later : (o : Option (ProblemCall Op Reply)) (m n : ℕ) → m < n → IsSomeAnd o (λ y. n ≤ y.called) → IsSomeAnd o (λ y. m < y.called)
  later None m n h k = k
  later (Some y) m n h k = omega (arith, h, k)

  before_of : (i j m n : ℕ) → ReturnsAt p i m → m < n → CalledFrom p n j → Before p i j
  before_of i j m n r h k = rw (r.1, r.2.1) (later (slice_get p.calls j) m n h k)

  one_item : (a : ℕ) (v w : ℤ) → Puts p a v → Puts p a w → v ≡ w
  one_item a v w x y =
      let e : x.0 ≡ y.0 = (let f = x.1 in let g = y.1 in cc) in
      same_item v w (sym x.2 ∙ ap (λ (c : ProblemCall Op Reply). c.op) e ∙ y.2)

  pub numbers_need : (a b m n : ℕ) → IsBy p start a m → IsFrom p start b n → m < n → Needs p a b
  numbers_need a b m n by from below = elim from [
    | inl zero_is ↦ absurd (omega (arith, zero_is, below))
    | inr (few, (v, put, bounds, takers)) ↦ elim by [
      | inl many ↦ absurd (below_all few many)
      | inr (i, at, found) ↦ (
          let after_it : IsTakenAfter p start i b v = elim takers [
            | inl all ↦ inl (λ j k. before_of i j m n at below (all j k))
            | inr one ↦ inr (one.0, one.1, (one.2.0, one.2.1, before_of i one.2.0 m n at below (bounds one.2.0 one.2.1).0))
          ] in
          elim found [
            | inl empty ↦ subst (λ (c : ℕ). Needs p c b) empty.1 (queue_needs_empty of_queue i b v empty.0 put after_it)
            | inr item ↦ queue_needs_item of_queue a b i v item.0 (other i v put at item.0 item.1 item.4 bounds) item.2 item.3 item.4 put after_it
          ])
    ]
  ]
    where
      below_all : n ≤ 2 ^ 32 → 2 ^ 32 ≤ m → ⊥
      below_all few many = omega (arith, few, many, below)

      other : (i : ℕ) (v : ℤ) → Puts p b v → ReturnsAt p i m → (w : ℤ) → Puts p a w → Took p i w → ((j : ℕ) → Took p j v → CalledFrom p n j × ((m : ℕ) → ReturnsAt p j m → n ≤ m)) → a ≢ b
      other i v put at w puts took bounds e =
          let same : w ≡ v = one_item b w v (subst (λ (c : ℕ). Puts p c w) e puts) put in
          let least : n ≤ m = (bounds i (subst (λ (u : ℤ). Took p i u) same took)).1 m at in
          omega (arith, least, below)

  -- the same behind a set, by the number of b's takers that have returned, where those of the takers that the set lacks were called later
  pub taken_need : (set : List Bool) (a b m n : ℕ) (v : ℤ) (takers : List ℕ) → IsBy p start a m → m < 2 ^ 32 → Puts p b v
      → ((j : ℕ) → Took p j v → CalledFrom p n j × ((k : ℕ) → ReturnsAt p j k → n ≤ k)) → m < n
      → ((c : ℕ) → IsTaker p c → (i : ℕ) × (slice_get takers i ≡ Some c)) → OthersCalledAfter p set m takers → NeedsBehind p set a b
  taken_need set a b m n v takers by event put bounds below every others l early late whole eq outside = elim by [
    | inl many ↦ absurd (omega (arith, many, event))
    | inr (i, at, inl (empty, same)) ↦ subst (λ (c : ℕ). In c early) same (behind_empty of_queue i b v empty put l early late whole eq (later_takers i at))
    | inr (i, at, inr (w, puts, only, fresh, took)) ↦ behind_item of_queue a b i v w (other i at w puts took) only fresh took put l early late whole eq (later_takers i at)
  ]
    where
      other : (i : ℕ) → ReturnsAt p i m → (w : ℤ) → Puts p a w → Took p i w → a ≢ b
      other i at w puts took e =
          let same : w ≡ v = one_item b w v (subst (λ (c : ℕ). Puts p c w) e puts) put in
          let least : n ≤ m = (bounds i (subst (λ (u : ℤ). Took p i u) same took)).1 m at in
          omega (arith, least, below)

      later_takers : (i : ℕ) → ReturnsAt p i m → (j : ℕ) → In j late → MayTake p j v → Before p i j
      later_takers i at j there (x, is, op, fits) = go x.returned refl fits
        where
          go : (back : Option (ℕ × Reply)) → x.returned ≡ back → IfSome back (λ r. r.1 ≡ Int v) → Before p i j
          go None e f = let k = every j (x, is, op, e) in rw (at.1, at.2.1) (others k.0 j k.1 (outside j there))
          go (Some (k, r)) e f = before_of i j m n at below (bounds j (x, is, op, (k, e ∙ ap (λ (q : Reply). Some (k, q)) f))).0
