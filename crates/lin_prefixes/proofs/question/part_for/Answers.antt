use Rattle.std.proofs.Common.{◌<◌, ℕ, List, length, subst, sym, arith}
use Rattle.lin_history.specs.Problems.Lists.{In}
use Rattle.lin_history.specs.Problems.AnyProblem.{any_problem}
use Rattle.lin_parts.specs.Parts.{ArePart, IsRising}
use Rattle.lin_prefixes.proofs.QuestionLemmas.{question_answer}
use Rattle.lin_prefixes.proofs.question.part_for.Goals as goal

pub part_of-requires : goal.part_of-requires
part_of-requires c = subst (λ (l : List ℕ). IsRising l × ((d : ℕ) → In d l → d < length c.in_ok-prefix.prefix.calls)) (sym c.as_slice.ensures.value) (c.in_ok-calls.ensures.rises, λ d h. (let less = c.in_ok-calls.ensures.below d h in let n = c.in_ok-prefix.ensures.loose.count in omega (arith, less, n)))

pub returns : goal.returns
returns c =
    question_answer c.args.problem.now c.in_ok-prefix.prefix c.in_ok-part.part c.in_ok-prefix.ensures.start c.in_ok-part.ensures.start c.args.question.call c.args.question.kept.now c.args.question.takers.now c.in_ok-calls.calls.items c.requires.last c.in_ok-prefix.ensures.loose c.requires.takers c.in_ok-calls.ensures
    (subst (λ (l : List ℕ). ArePart (any_problem c.in_ok-prefix.prefix) l c.in_ok-part.part.calls) c.as_slice.ensures.value c.in_ok-part.ensures.part)
