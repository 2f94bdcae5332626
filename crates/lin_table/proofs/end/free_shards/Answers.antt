use Rattle.std.proofs.Common.{◌≡◌, ◌≢◌, ◌<◌, false, get_or, length, sym, ap, ◌∙◌, ⊎_elim, arith, get_or-set_same}
use Rattle.std.proofs.lemmas.List.{get_or-set_other}
use Rattle.std.proofs.lemmas.Bool.{cases_eq}
use mathlib.Core.Option.{some-injective}
use lib.ListN.{get_elem?}
use Rattle.std.specs.Prelude.{slice_set}
use Rattle.std.specs.Mem.Slots.{slots_items, slots_filled, slots_counts}
use Rattle.lin_history.specs.Problems.Problem.{problem_of}
use Rattle.lin_table.proofs.EndLemmas.{lawful_same, within}
use Rattle.lin_table.proofs.end.free_shards.Goals as goal

pub loop-at-preserved : goal.loop-at-preserved
loop-at-preserved g c =
    let i = c.loop-at.invariant in
    let others = c.take.ensures.others in
    let here = c.loop-at-test.true in
    let count = c.slot_count.ensures in
    let long = slots_counts c.loop-at.closed.slots in
    let filled = slots_filled c.loop-at.closed.slots in
    let room : c.loop-at.at < length filled = omega (arith, here, count, long.1) in record {
      same = others.0 ∙ i.same;
      full = λ k from below.
          let ne : k ≢ c.loop-at.at = omega arith in
          let same = others.2 in
          ap (λ flags. get_or flags k false) others.1 ∙ get_or-set_other filled c.loop-at.at k false false ne ∙ i.full k (omega arith) (omega (arith, same));
      empty = λ k below.
          ap (λ flags. get_or flags k false) others.1
          ∙ ⊎_elim
          (λ (e : k ≡ c.loop-at.at). ap (λ n. get_or (slice_set filled c.loop-at.at false) n false) e ∙ get_or-set_same filled c.loop-at.at false false room)
          (λ (ne : k ≢ c.loop-at.at). get_or-set_other filled c.loop-at.at k false false ne ∙ i.empty k (omega arith))
          (cases_eq k c.loop-at.at);
      lawful = λ k shard below there. ⊎_elim
          (λ (e : k ≡ c.loop-at.at).
          lawful_same (problem_of g.O.SeqObject.after g.O.State.PartialEq.eq g.O.Reply.PartialEq.eq) c.take.result shard
          (some-injective _ _ (sym c.take.ensures.value ∙ ap (λ l. get_elem? l c.loop-at.at) i.same ∙ ap (get_elem? (slots_items c.args.closed.slots)) (sym e) ∙ there))
          c.let_go.ensures)
          (λ (ne : k ≢ c.loop-at.at). i.lawful k shard (omega arith) there)
          (cases_eq k c.loop-at.at);
    }

pub returns : goal.returns
returns g c =
    λ k shard there.
    let i = c.loop-at.invariant in
    let done = c.loop-at-test.false in
    let count = c.slot_count.ensures in
    let long = slots_counts c.loop-at.closed.slots in
    let same = ap length i.same in
    let small = within (slots_items c.args.closed.slots) k shard there in
    i.lawful k shard (omega (arith, done, count, long.0, same, small)) there
