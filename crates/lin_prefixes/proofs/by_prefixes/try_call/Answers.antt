use Rattle.std.specs.Prelude.{filter, not}
use Rattle.std.proofs.Common.{ℕ, List, ap, ◌∙◌}
use Rattle.lin_history.specs.Problems.Problem.{problem_of}
use Rattle.lin_prefixes.specs.Prefixes.{is_spared}
use Rattle.lin_prefixes.proofs.SplitLemmas.{split_of}
use Rattle.lin_prefixes.proofs.by_prefixes.try_call.Goals as goal

pub try_cut-requires-clause-split : goal.try_cut-requires-clause-split
try_cut-requires-clause-split g c =
    split_of (problem_of g.O.SeqObject.after g.O.State.PartialEq.eq g.O.Reply.PartialEq.eq c.args.problem.now) c.args.last.call c.args.last.until.now c.requires.stand_ins c.first_beyond-first.result c.in_ok-open.open.items c.as_slice-4.result.now c.as_slice-5.result.now c.in_ok-open.ensures
    (c.as_slice-4.ensures.value ∙ c.in_ok-spared.ensures ∙ ap (λ (l : List ℕ). filter (is_spared c.args.last.call c.args.last.until.now c.first_beyond-first.result) l) c.as_slice-2.ensures.value)
    (c.as_slice-5.ensures.value ∙ c.in_ok-others.ensures ∙ ap (λ (l : List ℕ). filter (λ (b : ℕ). not (is_spared c.args.last.call c.args.last.until.now c.first_beyond-first.result b)) l) c.as_slice-3.ensures.value)
