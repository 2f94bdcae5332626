use Rattle.std.proofs.Common.{sym, ◌∙◌}
use Rattle.lin_history.specs.Problems.Problem.{problem_of}
use Rattle.lin_search.specs.SameLemmas.{alike_itself}
use Rattle.lin_ahead.proofs.first.FirstLemmas.{identical_begins_none}
use Rattle.lin_ahead.proofs.first.by_rules.FirstSearch.repeats_one_left.Goals as goal

pub returns : goal.returns
returns g c told =
    let out = rw c.config.ensures at (sym c.has.ensures ∙ c.if-has.false) in
    identical_begins_none (problem_of g.O.SeqObject.after g.O.State.PartialEq.eq g.O.Reply.PartialEq.eq c.args.self.now.path.entries.problem) (alike_itself c.lawful.ensures _) _ _ _ _ (rw c.problem.ensures at (c.stands_for.ensures told c.args.self.now.path.config.lifted c.args.self.now.path.config.state out)) c.requires.passed
