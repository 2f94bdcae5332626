use Rattle.std.proofs.Common.{◌∷◌, ap, ◌∙◌, arith}
use Rattle.lin_table.specs.Steps.{with_out}
use Rattle.lin_table.proofs.StepLemmas.{takes_out}
use Rattle.lin_table.proofs.steps.take_out.Goals as goal

pub compare_exchange-found-requires : goal.compare_exchange-found-requires
compare_exchange-found-requires g c =
    let i = c.loop.invariant in
    let p = ap (λ m. m.0.parts) i.me in let q = c.requires.free.0 in
    (i.same ∙ c.requires.table.0, c.requires.table.1, takes_out g.O.State.PartialEq.eq c.args.shards.now.key _ _ _ c.args.shard c.requires.table.2 (omega arith) (ap (λ m. m.0.out) i.me ∙ c.requires.free.1))

pub returns-then-found-eq0-clause-yes : goal.returns-then-found-eq0-clause-yes
returns-then-found-eq0-clause-yes g c =
    let i = c.loop.invariant in
    let t = c.compare_exchange-found.ensures.2.0 c.if-found-eq0.true in
    λ _. (t.0, t.1 ∙ ap (λ m. (c.args.shard, t.0) ∷ m.1) i.me, t.2 ∙ ap (λ m. m.0.problem) i.me, t.3 ∙ ap (λ m. with_out m.0 (record { shard = c.args.shard; pairs = t.0.pairs })) i.me)
