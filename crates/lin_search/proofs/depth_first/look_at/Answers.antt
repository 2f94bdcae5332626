use Rattle.lin_search.proofs.depth_first.look_at.Goals as goal

pub returns-then-is_for_problem-clause-refuted : goal.returns-then-is_for_problem-clause-refuted
returns-then-is_for_problem-clause-refuted g c = c.look_here.ensures.refuted
