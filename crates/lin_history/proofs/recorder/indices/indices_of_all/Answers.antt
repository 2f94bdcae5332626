use Rattle.std.proofs.Common.{◌∙◌, ℕ, Vec, Global, length, arith, drop}
use Rattle.lin_history.specs.Recorder.Views.{call_view}
use Rattle.lin_history.proofs.RecorderLemmas.IndexLemmas.{written_over, indices_none, indices_next, indices_done}
use Rattle.lin_history.proofs.recorder.indices.indices_of_all.Goals as goal

pub loop-index-init : goal.loop-index-init
loop-index-init c =
    (c.in_ok-lists.ensures.count ∙ c.object_count.ensures.count, indices_none (λ (v : Vec ℕ Global). v.items) c.args.history.now.calls c.in_ok-lists.lists.items c.in_ok-lists.ensures.empty)

pub loop-index-preserved : goal.loop-index-preserved
loop-index-preserved c =
    let same = c.in_ok-add_index.ensures.count ∙ c.as_mut_slice.ensures.len in
    let is = written_over c.loop-index.lists.len c.add_index.new.lists (drop (length c.add_index.new.lists) c.loop-index.lists.items) same in
    let value = c.as_mut_slice.ensures.value in
    rw is (
      let old = c.loop-index.invariant.0 in let len = c.loop-index.lists.ok.0 in omega (arith, same, len, old),
      indices_next (λ (v : Vec ℕ Global). v.items) c.args.history.now.calls c.loop-index.index (call_view c.call.result.now) c.loop-index.lists.items c.add_index.new.lists c.call.ensures.call
          (let old = c.loop-index.invariant.0 in let declared = c.call.ensures.declared in omega (arith, declared, old))
          (rw value at c.in_ok-add_index.ensures.own) (rw value at c.in_ok-add_index.ensures.others) c.loop-index.invariant.1,
    )

pub returns-clause-each : goal.returns-clause-each
returns-clause-each c = indices_done (λ (v : Vec ℕ Global). v.items) c.args.history.now.calls c.loop-index.index c.loop-index.lists.items (let over = c.loop-index-test.false in let count = c.call_count-index-end.ensures.count in omega (arith, over, count)) c.loop-index.invariant.1
