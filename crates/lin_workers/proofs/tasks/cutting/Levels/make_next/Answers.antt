use Rattle.std.proofs.Common.{rules, ◌≡◌, length, nat_eq, refl, arith}
use Rattle.std.specs.Prelude.{IsFalse}
use Rattle.lin_search.specs.SameLemmas.{alike_itself}
use Rattle.lin_workers.proofs.WidthLemmas.{last_wide, last_complete, last_empty, levels_more, some_are}
use Rattle.lin_workers.proofs.tasks.cutting.Levels.make_next.Goals as goal
use Rattle.lin_workers.proofs.tasks.cutting.Levels.make_next.Goals.{then-len-want-via-then-len-want, then-len-want-via-else-len-want+then-has_complete}

pub returns-then-len-want-clause-ended : goal.returns-then-len-want-clause-ended
returns-then-len-want-clause-ended g c = λ h n levels. (
  levels,
  elim c.then-len-want.branch [
    | then-len-want-via-then-len-want w ↦ last_wide _ (alike_itself c.lawful.ensures c.args.problem.now) _ n c.args.self.now.widest.items c.args.self.now.last.items (let a = w.if-len-want.true in let b = c.len.ensures in omega (arith, a, b)) levels
    | then-len-want-via-else-len-want+then-has_complete w ↦ last_complete _ (alike_itself c.lawful.ensures c.args.problem.now) _ n c.args.self.now.widest.items c.args.self.now.last.items (rw w.as_slice.ensures.value at (w.has_complete.ensures.complete w.if-has_complete.true)) levels
  ],
)

pub returns-then-is_empty-clause-ended : goal.returns-then-is_empty-clause-ended
returns-then-is_empty-clause-ended g c =
    let none : length c.in_ok-next.next.items ≡ 0 = search rules in
    λ h n levels. (levels, last_empty _ (alike_itself c.lawful.ensures c.args.problem.now) _ n c.args.self.now.widest.items c.args.self.now.last.items c.in_ok-next.next.items (rw c.as_slice-2.ensures.value at c.in_ok-next.ensures) none levels)

pub returns-clause-made : goal.returns-clause-made
returns-clause-made g c =
    let some : IsFalse (nat_eq (length c.in_ok-next.next.items) 0) = search rules in
    λ h n less levels. levels_more _ (alike_itself c.lawful.ensures c.args.problem.now) _ n c.args.self.now.widest.items c.args.self.now.last.items c.in_ok-next.next.items _ _ less (let a = c.if-len-want.false in let b = c.len.ensures in omega (arith, a, b)) (rw c.as_slice.ensures.value at (c.has_complete.ensures.incomplete c.if-has_complete.false)) (rw c.as_slice-2.ensures.value at c.in_ok-next.ensures) (λ e. some_are _ _ refl some e) c.take.ensures.last c.take.ensures.wider c.take.ensures.as_wide levels
