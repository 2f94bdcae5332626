use Rattle.lin_prefixes.proofs.AnewLemmas.{part_answer}
use Rattle.lin_prefixes.proofs.anew_search.AnewSearch.answer_to_part.Goals as goal

pub returns : goal.returns
returns g c = part_answer c.args.problem.now c.in_ok-part.part c.in_ok-part.ensures.start c.args.kept.now c.in_ok-part.ensures.part c.in_ok-answer.answer c.in_ok-answer.ensures
