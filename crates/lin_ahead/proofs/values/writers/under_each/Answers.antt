use Rattle.std.proofs.Common.{◌≡◌, ℕ, List, length, length-append, sym, ◌∙◌, ap, subst, arith}
use Rattle.lin_ahead.proofs.values.WriterLemmas.{AreUnderTo, under_pushed}
use Rattle.lin_ahead.proofs.values.writers.under_each.Goals as goal

pub loop-place-preserved : goal.loop-place-preserved
loop-place-preserved c =
    let rows = c.args.rows.now in
    let under = c.loop-place.under.items in
    let size : length under ≡ c.loop-place.place = c.loop-place.invariant.each in
    record {
      each = ap (λ (l : List ℕ). length l) c.in_ok-push.ensures.items ∙ simp length-append (omega (arith, size));
      none = subst (λ (l : List ℕ). AreUnderTo rows l) (sym c.in_ok-push.ensures.items) (under_pushed rows under c.loop-place.place c.first_under-first.result size c.first_under-first.ensures c.loop-place.invariant.none);
    }
