use Rattle.std.proofs.Common.{ℕ, get_or, refl, inl, inr, arith}
use Rattle.std.specs.Prelude.{ℤ, IsTrue}
use Rattle.std.specs.Ordering.{int_eq}
use Rattle.indexmap.specs.IndexSet.{contains}
use Rattle.lin_history.specs.Problems.AnyProblem.{any_problem}
use Rattle.lin_prefixes.specs.Freed.{TookOut}
use Rattle.lin_prefixes.proofs.ListLemmas.{each_next, each_end}
use Rattle.lin_prefixes.proofs.open_takers.items_taken.Goals as goal

pub loop-taker-preserved : goal.loop-taker-preserved
loop-taker-preserved c =
    each_next (λ (b : ℕ). (w : ℤ) → TookOut (any_problem c.args.problem.now) b w → IsTrue (contains int_eq c.add_item.new.items w)) c.args.takers.now c.loop-taker.taker-index (get_or c.args.takers.now c.loop-taker.taker-index 0) c.loop-taker-test.true refl
    (λ w took. c.in_ok-add_item.ensures.there w (c.item_taken.ensures w took))
    (λ b h. elim (c.loop-taker.invariant b h) [ inl each ↦ inl (λ w took. c.in_ok-add_item.ensures.more w (each w took)) | inr left ↦ inr left ])

pub returns : goal.returns
returns c = each_end (λ (b : ℕ). (w : ℤ) → TookOut (any_problem c.args.problem.now) b w → IsTrue (contains int_eq c.loop-taker.items w)) c.args.takers.now c.loop-taker.taker-index (let a = c.loop-taker-test.false in omega (arith, a)) c.loop-taker.invariant
