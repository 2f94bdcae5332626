use Rattle.std.proofs.Common.{refl}
use Rattle.lin_history.specs.Problems.Problem.{problem_of}
use Rattle.lin_search.proofs.PathLemmas.{last_there, last_taken, ok_both}
use Rattle.lin_search.proofs.path.Path.unlift.Goals as goal

pub take_out-requires : goal.take_out-requires
take_out-requires g c =
    rw c.take_back.ensures.lifted (last_there (problem_of g.O.SeqObject.after g.O.State.PartialEq.eq g.O.Reply.PartialEq.eq c.args.self.now.entries.problem) _ _ _ c.requires.lifted (rw (← c.frame.view_is) at c.requires.last))

pub returns-clause-lifted : goal.returns-clause-lifted
returns-clause-lifted g c =
    ok_both _ _ _ c.take_out.result
    (λ done more out.
    last_taken (problem_of g.O.SeqObject.after g.O.State.PartialEq.eq g.O.Reply.PartialEq.eq c.args.self.now.entries.problem) _ _ _ c.requires.lifted (rw (← c.frame.view_is) at c.requires.last) c.unlift.new.self.lifted c.take_out.new.self.lifted (λ b e. rw (c.unlift.ensures b e) refl) more out)
    (rw c.take_back.ensures.lifted at c.take_out.ensures.lifted) c.take_out.ensures.outside
