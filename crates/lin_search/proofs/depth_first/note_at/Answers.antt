use Rattle.std.proofs.Common.{rules}
use Rattle.lin_search.specs.SameLemmas.{alike_itself}
use Rattle.lin_search.proofs.PathLemmas.{holds_noted}
use Rattle.lin_search.proofs.depth_first.note_at.Goals as goal

pub returns-then-is_for_problem-clause-holds : goal.returns-then-is_for_problem-clause-holds
returns-then-is_for_problem-clause-holds g c =
    λ kept root frames k. (
      holds_noted (alike_itself c.lawful.ensures c.args.problem.now) _ (g.M.Memo.holds c.args.memo.now) (g.M.Memo.holds c.note_here.new.self) root frames c.args.config (rw (c.into_parts-lifted.ensures.lifted, c.into_parts-lifted.ensures.state) at c.note_here.ensures.only) (g.met.M.Memo.lasting _ _ c.note_here.ensures.changes) (g.met.M.Memo.at_equal c.note_here.new.self) k,
      rw (c.into_parts-lifted.ensures.lifted, c.into_parts-lifted.ensures.state) at (c.note_here.ensures.held kept),
    )

pub returns-else-is_for_problem-clause-holds : goal.returns-else-is_for_problem-clause-holds
returns-else-is_for_problem-clause-holds g c =
    λ kept root frames k. (
      holds_noted (alike_itself c.lawful.ensures c.args.problem.now) _ (g.M.Memo.holds c.args.memo.now) (g.M.Memo.holds c.note_parts.new.self) root frames c.args.config (rw (c.into_parts-lifted.ensures.lifted, c.into_parts-lifted.ensures.state) at c.note_parts.ensures.only) (g.met.M.Memo.lasting _ _ c.note_parts.ensures.changes) (g.met.M.Memo.at_equal c.note_parts.new.self) k,
      rw (c.into_parts-lifted.ensures.lifted, c.into_parts-lifted.ensures.state) at (c.note_parts.ensures.held kept),
    )

pub returns-then-is_for_problem-clause-kept : goal.returns-then-is_for_problem-clause-kept
returns-then-is_for_problem-clause-kept g c =
    λ kept. rw (c.into_parts-lifted.ensures.lifted, c.into_parts-lifted.ensures.state) at (c.note_here.ensures.held kept)

pub returns-else-is_for_problem-clause-kept : goal.returns-else-is_for_problem-clause-kept
returns-else-is_for_problem-clause-kept g c =
    λ kept. rw (c.into_parts-lifted.ensures.lifted, c.into_parts-lifted.ensures.state) at (c.note_parts.ensures.held kept)

pub returns-then-is_for_problem-clause-exact : goal.returns-then-is_for_problem-clause-exact
returns-then-is_for_problem-clause-exact g c = rw (c.into_parts-lifted.ensures.lifted, c.into_parts-lifted.ensures.state) at c.note_here.ensures.exact

pub returns-else-is_for_problem-clause-exact : goal.returns-else-is_for_problem-clause-exact
returns-else-is_for_problem-clause-exact g c = rw (c.into_parts-lifted.ensures.lifted, c.into_parts-lifted.ensures.state) at c.note_parts.ensures.exact

pub note_here-requires-clause-refuted : goal.note_here-requires-clause-refuted
note_here-requires-clause-refuted g c = search rules depth 3
