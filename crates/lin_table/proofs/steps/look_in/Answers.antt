use Rattle.std.proofs.Common.{◌∷◌, sym, ap, ◌∙◌, rules}
use Rattle.lin_table.proofs.StepLemmas.{some_same}
use Rattle.lin_table.proofs.steps.look_in.Goals as goal

pub look_out-found-requires-clause-out : goal.look_out-found-requires-clause-out
look_out-found-requires-clause-out g c =
    let t = c.take_out.ensures.yes (search rules) in
    (t.0, t.1 ∙ ap (λ l. (c.args.shard, t.0) ∷ l) c.requires.free.2, rw (some_same (t.2 ∙ c.requires.here.1)) c.requires.here.2)

pub give_back-requires-clause-out : goal.give_back-requires-clause-out
give_back-requires-clause-out g c =
    let t = c.take_out.ensures.yes (search rules) in
    let s = c.look_out-found.ensures.same in
    (t.0, ap (λ m. m.1) s ∙ t.1 ∙ ap (λ l. (c.args.shard, t.0) ∷ l) c.requires.free.2, t.2 ∙ sym (ap (λ v. v.problem) t.3) ∙ sym (ap (λ m. m.0.problem) s), ap (λ m. m.0.out) s ∙ ap (λ v. v.out) t.3)
