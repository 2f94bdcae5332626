use Rattle.std.proofs.Common.{Result, Ok, Err}
use Rattle.std.specs.Prelude.{IfOk}
use Rattle.lin_history.specs.Problems.Problem.{problem_of}
use Rattle.lin_search.specs.SameLemmas.{alike_itself}
use Rattle.lin_ahead.proofs.first.FirstLemmas.{identical_begins_none}
use Rattle.lin_ahead.proofs.first.by_rules.FirstSearch.is_behind_completed.Goals as goal

ok_map : {T E : Type 0} (P Q : T → Type 0) (r : Result T E) → ((x : T) → P x → Q x) → IfOk r P → IfOk r Q
ok_map P Q (Ok x) f k = f x k
ok_map P Q (Err e) f k = tt

pub returns : goal.returns
returns g c =
    ok_map _ _ c.can_follow_before.result
    (λ known k told.
    let n = k told in
    identical_begins_none (problem_of g.O.SeqObject.after g.O.State.PartialEq.eq g.O.Reply.PartialEq.eq c.args.self.now.path.entries.problem) (alike_itself c.lawful.ensures _) _ _ _ _
    ((rw c.problem.ensures at (c.stands_where_it_follows.ensures c.if-not-stands_where_it_follows.false)) c.args.self.now.path.config.lifted c.args.self.now.path.config.state n.0 n.1)
    c.requires.passed)
    c.can_follow_before.ensures.follows
