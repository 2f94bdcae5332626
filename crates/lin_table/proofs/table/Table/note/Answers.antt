use Rattle.std.proofs.Common.{refl}
use Rattle.std.proofs.lemmas.Bool.{iff_false}
use Rattle.lin_table.proofs.table.Table.note.Goals as goal

pub keep-requires-clause-here : goal.keep-requires-clause-here
keep-requires-clause-here g c = rw c.problem-problem.ensures at (c.is_for.ensures.0 c.if-not-is_for.false)

pub returns-then-not-is_for-clause-stranger : goal.returns-then-not-is_for-clause-stranger
returns-then-not-is_for-clause-stranger g c = λ _ same. iff_false c.is_for.ensures c.if-not-is_for.true (rw c.problem-problem.ensures same)

pub returns-then-not-is_for-clause-ours : goal.returns-then-not-is_for-clause-ours
returns-then-not-is_for-clause-ours g c = λ no. absurd (no refl)

pub returns-clause-stranger : goal.returns-clause-stranger
returns-clause-stranger g c = λ is. absurd (c.keep.ensures.own is)

pub returns-clause-ours : goal.returns-clause-ours
returns-clause-ours g c = λ _. rw c.problem-problem.ensures at (c.is_for.ensures.0 c.if-not-is_for.false)
