use Rattle.lin_history.specs.Problems.Problem.{problem_of}
use Rattle.lin_search.proofs.MemoLemmas.{closed_look}
use Rattle.lin_search.proofs.PathLemmas.{answer_decided, ok_map}
use Rattle.lin_search.proofs.depth_first.search_from.Goals as goal

pub returns-in-Some-clause-answer : goal.returns-in-Some-clause-answer
returns-in-Some-clause-answer g c =
    answer_decided (problem_of g.O.SeqObject.after g.O.State.PartialEq.eq g.O.Reply.PartialEq.eq c.args.problem.now) c.args.config.lifted c.args.config.state c.args.terms.limit _ c.in-Some.outcome c.in-Some.ensures.answer

pub returns-in-Some-clause-closed : goal.returns-in-Some-clause-closed
returns-in-Some-clause-closed g c =
    λ w off refutation closed. (
      closed_look (problem_of g.O.SeqObject.after g.O.State.PartialEq.eq g.O.Reply.PartialEq.eq c.args.problem.now) (g.M.Memo.holds c.args.memo.now) (g.M.Memo.holds c.known_of.new.memo) c.known_of.ensures.only (g.met.M.Memo.lasting _ _ c.known_of.ensures.changes) closed,
      c.in-Some.ensures.held refutation,
    )

pub returns-in-Some-clause-stop : goal.returns-in-Some-clause-stop
returns-in-Some-clause-stop g c = g.met.S.Stop.unchanged _

pub search_unknown-requires-clause-of : goal.search_unknown-requires-clause-of
search_unknown-requires-clause-of g c = λ h. g.met.M.Memo.keeps_problem _ _ c.known_of.ensures.changes _ (c.requires.of h)

pub returns-clause-closed : goal.returns-clause-closed
returns-clause-closed g c =
    ok_map _ _ c.search_unknown.result
    (λ ended k w off refutation closed.
    k w off refutation (closed_look (problem_of g.O.SeqObject.after g.O.State.PartialEq.eq g.O.Reply.PartialEq.eq c.args.problem.now) (g.M.Memo.holds c.args.memo.now) (g.M.Memo.holds c.known_of.new.memo) c.known_of.ensures.only (g.met.M.Memo.lasting _ _ c.known_of.ensures.changes) closed))
    c.search_unknown.ensures.closed

pub returns-clause-memo : goal.returns-clause-memo
returns-clause-memo g c = g.met.M.Memo.chained _ _ _ c.known_of.ensures.changes c.search_unknown.ensures.memo
