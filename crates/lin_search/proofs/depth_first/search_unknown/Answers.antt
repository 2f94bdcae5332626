use Rattle.std.proofs.Common.{◌∙◌}
use Rattle.lin_history.specs.Problems.Problem.{problem_of}
use Rattle.lin_search.proofs.PathLemmas.{answer_refutes}
use Rattle.lin_search.proofs.depth_first.search_unknown.Goals as goal

pub search_on-searched-requires-clause-of : goal.search_on-searched-requires-clause-of
search_on-searched-requires-clause-of g c = λ h. rw c.in_ok-path.ensures.problem (c.requires.of h)

pub note_root-is_kept-requires-clause-of : goal.note_root-is_kept-requires-clause-of
note_root-is_kept-requires-clause-of g c =
    λ h. g.met.M.Memo.keeps_problem _ _ c.search_on-searched.ensures.memo _ (c.requires.of h)

pub note_root-is_kept-requires-clause-refuted : goal.note_root-is_kept-requires-clause-refuted
note_root-is_kept-requires-clause-refuted g c =
    λ longest is.
    let back = c.into_config-config.ensures ∙ c.in_ok-ended.ensures.back (rw is tt) ∙ c.in_ok-path.ensures.config in
    rw back (answer_refutes (problem_of g.O.SeqObject.after g.O.State.PartialEq.eq g.O.Reply.PartialEq.eq c.args.problem.now) _ _ _ _ c.in_ok-ended.ended.outcome longest is c.requires.reachable (rw (c.in_ok-path.ensures.problem, c.in_ok-path.ensures.config) at c.in_ok-ended.ensures.answer))

pub returns-clause-closed : goal.returns-clause-closed
returns-clause-closed g c =
    λ w off refutation closed.
    let both = c.with_note.ensures.whole w in
    let refuted = rw c.with_note.ensures.outcome at refutation in
    let back = c.into_config-config.ensures ∙ c.in_ok-ended.ensures.back refuted ∙ c.in_ok-path.ensures.config in
    let held = (rw (c.in_ok-path.ensures.problem, c.in_ok-path.ensures.config) at c.in_ok-ended.ensures.holds) both.0 off refuted closed in
    (rw back at c.note_root-is_kept.ensures.closed) both.1 refuted held

pub returns-clause-memo : goal.returns-clause-memo
returns-clause-memo g c = g.met.M.Memo.chained _ _ _ c.search_on-searched.ensures.memo c.note_root-is_kept.ensures.changes

pub search_on-searched-requires-clause-frames : goal.search_on-searched-requires-clause-frames
search_on-searched-requires-clause-frames g c = c.in_ok-path.ensures.frames

pub search_on-searched-requires-clause-lifted : goal.search_on-searched-requires-clause-lifted
search_on-searched-requires-clause-lifted g c = rw (c.in_ok-path.ensures.problem, c.in_ok-path.ensures.config) c.in_ok-path.ensures.lifted

pub search_on-searched-requires-clause-reachable : goal.search_on-searched-requires-clause-reachable
search_on-searched-requires-clause-reachable g c = rw (c.in_ok-path.ensures.problem, c.in_ok-path.ensures.config) c.requires.reachable

pub search_on-searched-requires-clause-incomplete : goal.search_on-searched-requires-clause-incomplete
search_on-searched-requires-clause-incomplete g c = rw (c.in_ok-path.ensures.problem, c.in_ok-path.ensures.config) c.requires.incomplete

pub returns-clause-answer : goal.returns-clause-answer
returns-clause-answer g c = rw c.with_note.ensures.outcome (rw (c.in_ok-path.ensures.problem, c.in_ok-path.ensures.config) at c.in_ok-ended.ensures.answer)

pub returns-clause-stop : goal.returns-clause-stop
returns-clause-stop g c = c.search_on-searched.ensures.stop

pub returns-in_err-ended-clause-memo : goal.returns-in_err-ended-clause-memo
returns-in_err-ended-clause-memo g c = c.search_on-searched.ensures.memo

pub returns-in_err-ended-clause-stop : goal.returns-in_err-ended-clause-stop
returns-in_err-ended-clause-stop g c = c.search_on-searched.ensures.stop

pub returns-in_err-path-clause-memo : goal.returns-in_err-path-clause-memo
returns-in_err-path-clause-memo g c = g.met.M.Memo.unchanged _

pub returns-in_err-path-clause-stop : goal.returns-in_err-path-clause-stop
returns-in_err-path-clause-stop g c = g.met.S.Stop.unchanged _
