use Rattle.std.proofs.Common.{length, subst}
use Rattle.lin_history.specs.Problems.Lists.{In}
use Rattle.lin_decide.proofs.keys.AnswerLemmas.{filled_within}
use Rattle.lin_decide.proofs.keys.part_order.full_order.Goals as goal

pub own_names-requires : goal.own_names-requires
own_names-requires c = λ d h. filled_within (length c.args.kept.now) _ _ c.in_ok-fill.ensures (λ b there. c.requires b (subst (In b) c.into_calls-calls.ensures there)) d (subst (In d) c.as_slice.ensures.value h)
