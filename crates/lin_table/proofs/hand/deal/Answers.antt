use Rattle.std.proofs.Common.{◌≡◌, ◌+◌, ◌-◌, [], None, length, refl, ap, ◌∙◌, arith}
use Rattle.std.proofs.lemmas.List.Elements.{All-push, All-same}
use Rattle.lin_table.specs.Rule.{view}
use Rattle.lin_table.specs.Steps.{one_part_less}
use Rattle.lin_table.proofs.PartLemmas.{split_allowed}
use Rattle.lin_table.proofs.HandLemmas.{nothing_stored, HasNothing}
use Rattle.lin_table.proofs.hand.deal.Goals as goal

pub loop-init : goal.loop-init
loop-init g c =
    let q = c.requires in
    let none = ap length q.room.0 in
    let n : c.args.count ≡ c.args.count + 1 - 1 = omega arith in record {
      same = refl;
      me = q.first.1 ∙ ap (λ k. (view c.args.first.me.0.problem k [] None, [])) n;
      len = omega (arith, none);
      room = q.room.1;
      each = λ k d below. absurd (omega (arith, none, below));
    }

pub split_seat-token-requires : goal.split_seat-token-requires
split_seat-token-requires g c =
    let i = c.loop.invariant in
    let parts = ap (λ m. m.0.parts) i.me in
    let more = c.loop-test.true in
    (i.same ∙ c.requires.first.0, c.requires.words, split_allowed g.O.State.PartialEq.eq c.args.shards.now.key _ _ (omega arith))

pub loop-preserved : goal.loop-preserved
loop-preserved g c =
    let i = c.loop.invariant in
    let s = c.split_seat-token.ensures in
    let n : c.args.count + 1 - c.loop.counter - 1 ≡ c.args.count + 1 - (c.loop.counter + 1) = omega arith in
    let problem = ap (λ m. m.0.problem) s.4 ∙ ap (λ m. m.0.problem) i.me in
    let table = s.3 ∙ i.same in
    let mine = c.of.ensures ∙ (λ k. nothing_stored (table k) (problem k)) in record {
      same = s.0 ∙ i.same;
      me = s.2 ∙ (ap (λ m. (one_part_less m.0, m.1)) i.me ∙ ap (λ k. (view c.args.first.me.0.problem k [] None, [])) n);
      len = let l = i.len in let m = c.push_reserved.ensures.len in omega arith;
      room = let r = i.room in let m = c.push_reserved.ensures.capacity in omega arith;
      each = All-same (HasNothing c.args.first.table_id c.args.first.me.0.problem) _ _ c.push_reserved.ensures.items (All-push (HasNothing c.args.first.table_id c.args.first.me.0.problem) _ _ i.each mine);
    }
