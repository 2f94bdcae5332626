use Rattle.std.proofs.Common.{◌≡◌, ℕ, ◌+◌, ◌-◌, [], false, sym, ap, ◌∙◌, arith, rules}
use Rattle.std.proofs.lemmas.List.Elements.{All-push, All-same}
use Rattle.lin_board.specs.declared.rule.Plan.{Plan}
use Rattle.lin_board.specs.Rule.{plan_of, view}
use Rattle.lin_board.specs.Steps.{Holder, one_part_less, one_part}
use Rattle.lin_board.specs.Facts.{SeatFacts}
use Rattle.lin_board.specs.Seat.{facts_of}
use Rattle.lin_board.proofs.StepLemmas.{split_allowed}
use Rattle.lin_board.proofs.board.Board.new.Goals as goal

pub loop-init : goal.loop-init
loop-init c =
    let t = c.in_ok-table.ensures in
    let n : c.args.seats ≡ c.args.seats + 1 - 1 = omega arith in record {
      same = t.2;
      me = t.4 ∙ ap (λ (k : ℕ). (view (plan_of c.args.tasks c.args.seats) k 0 [] [] [], [])) n;
      len = let e = c.in_ok-all.ensures in omega arith;
      room = let e = c.in_ok-all.ensures in search rules;
      each = search (rules, c.in_ok-all.ensures);
    }

pub split_seat-token-requires : goal.split_seat-token-requires
split_seat-token-requires c =
    let i = c.loop.invariant in
    let words = c.in_ok-table.ensures.0 in
    let parts : c.loop.first.me.0.parts ≡ c.args.seats + 1 - c.loop.counter = ap (λ (m : Holder). m.0.parts) i.me in
    let ends : c.loop.first.me.0.ends ≡ 0 = ap (λ (m : Holder). m.0.ends) i.me in
    let more = c.loop-test.true in
    (i.same, omega arith, split_allowed c.in_ok-table.table.shared.key _ _ (omega arith) (omega arith))

pub loop-preserved : goal.loop-preserved
loop-preserved c =
    let i = c.loop.invariant in
    let s = c.split_seat-token.ensures in
    let plan : Plan = plan_of c.args.tasks c.args.seats in
    let n : c.args.seats + 1 - c.loop.counter - 1 ≡ c.args.seats + 1 - (c.loop.counter + 1) = omega arith in
    let IsNew : SeatFacts → Type 0 = λ (s : SeatFacts). s ≡ facts_of c.in_ok-table.table.shared.table_id (view plan 1 0 [] [] []) false in
    let its : c.split_seat-token.result.me.0 ≡ view plan 1 0 [] [] [] = ap (λ (m : Holder). m.0) s.4 ∙ ap (λ (m : Holder). one_part m.0) i.me in
    let mine : IsNew c.of.result = c.of.ensures ∙ (λ k. facts_of ((s.3 ∙ i.same) k) (its k) false) in record {
      same = s.0 ∙ i.same;
      me = s.2 ∙ (ap (λ (m : Holder). (one_part_less m.0, m.1)) i.me ∙ ap (λ (k : ℕ). (view plan k 0 [] [] [], [])) n);
      len = let l = i.len in let m = c.push_reserved.ensures.len in omega arith;
      room = let r = i.room in let m = c.push_reserved.ensures.capacity in omega arith;
      each = All-same IsNew _ _ c.push_reserved.ensures.items (All-push IsNew _ _ i.each mine);
    }

pub of-requires-2 : goal.of-requires-2
of-requires-2 c =
    let i = c.loop.invariant in
    let done = c.loop-test.false in
    let end = c.loop.auto.counter-end in
    let seats = c.requires.seats in
    let n : c.args.seats + 1 - c.loop.counter ≡ 1 = omega arith in
    i.me ∙ ((λ k. (view (plan_of c.args.tasks c.args.seats) (n k) 0 [] [] [], [])) ∙ sym (ap (λ (m : Holder). (one_part m.0, [])) i.me))

pub returns-clause-count : goal.returns-clause-count
returns-clause-count c =
    let done = c.loop-test.false in
    let end = c.loop.auto.counter-end in
    let seats = c.requires.seats in
    let before = c.loop.invariant.len in let after = c.push_reserved-2.ensures.len in omega arith

pub returns-clause-seats : goal.returns-clause-seats
returns-clause-seats c =
    let i = c.loop.invariant in
    let done = c.loop-test.false in
    let end = c.loop.auto.counter-end in
    let seats = c.requires.seats in
    let plan : Plan = plan_of c.args.tasks c.args.seats in
    let n : c.args.seats + 1 - c.loop.counter ≡ 1 = omega arith in
    let IsNew : SeatFacts → Type 0 = λ (s : SeatFacts). s ≡ facts_of c.in_ok-table.table.shared.table_id (view plan 1 0 [] [] []) false in
    let its : c.loop.first.me.0 ≡ view plan 1 0 [] [] [] = ap (λ (m : Holder). m.0) i.me ∙ (λ k. view plan (n k) 0 [] [] []) in
    let mine : IsNew c.of-2.result = c.of-2.ensures ∙ (λ k. facts_of (i.same k) (its k) false) in
    All-same IsNew _ _ c.push_reserved-2.ensures.items (All-push IsNew _ _ i.each mine)
