use Rattle.std.proofs.Common.{refl, arith}
use Rattle.std.proofs.lemmas.Option.{slice_get_within}
use Rattle.std.specs.Ordering.{int_eq}
use Rattle.indexmap.specs.IndexMap.{get}
use Rattle.lin_lost.specs.Counts.{count_in}
use Rattle.lin_lost.proofs.RestLemmas.{all_as_often}
use Rattle.lin_lost.proofs.rest.are_taken_as_often.Goals as goal

pub returns : goal.returns
returns c = (
  λ yes. all_as_often c.args.calls.now (count_in (get int_eq c.args.puts.now)) (count_in (get int_eq c.args.takes.now)) c.requires.puts c.requires.takes (λ d x at. c.loop-call.invariant d x (let within = slice_get_within c.args.calls.now d x at in let end = c.loop-call-test.false in omega (arith, within, end)) at),
  λ all. refl,
)
