use Rattle.std.proofs.Common.{◌∷◌, sym, ap, ◌∙◌, rules}
use Rattle.lin_table.proofs.steps.note_in.Goals as goal

pub note_out-requires-clause-out : goal.note_out-requires-clause-out
note_out-requires-clause-out g c =
    let t = c.take_out.ensures.yes (search rules) in
    (t.0, t.1 ∙ ap (λ l. (c.args.shard, t.0) ∷ l) c.requires.free.2, t.2 ∙ sym (ap (λ v. v.problem) t.3), ap (λ v. v.out) t.3)

pub note_out-requires-clause-here : goal.note_out-requires-clause-here
note_out-requires-clause-here g c =
    let t = c.take_out.ensures.yes (search rules) in
    let here = c.requires.here in
    (here.0, ap (λ v. v.problem) t.3 ∙ here.1, here.2)

pub note_out-requires-clause-fresh : goal.note_out-requires-clause-fresh
note_out-requires-clause-fresh g c = c.requires.fresh

pub note_out-requires-clause-home : goal.note_out-requires-clause-home
note_out-requires-clause-home g c = c.requires.home

pub returns-then-not-take_out-clause-new : goal.returns-then-not-take_out-clause-new
returns-then-not-take_out-clause-new g c = λ is. absurd (cc (is))
