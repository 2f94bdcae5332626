use Rattle.std.proofs.Common.{ℕ, List, subst}
use Rattle.lin_history.specs.Problems.Lists.{In}
use Rattle.lin_history.specs.Problems.AnyProblem.{any_problem}
use Rattle.lin_explain.proofs.StateLemmas.{legal_within}
use Rattle.lin_explain.proofs.explanation.explain.Goals as goal

pub next_calls-requires : goal.next_calls-requires
next_calls-requires c =
    λ d h. legal_within (any_problem c.args.problem.now) c.args.run.now c.args.problem.now.start c.requires.0 c.requires.1 d (subst (λ (x : List ℕ). In d x) c.calls-2.ensures h)

pub with_answers-requires : goal.with_answers-requires
with_answers-requires c =
    λ d h. (c.in_ok-calls.ensures.only d (subst (λ (x : List ℕ). In d x) c.as_slice.ensures.value h)).there
