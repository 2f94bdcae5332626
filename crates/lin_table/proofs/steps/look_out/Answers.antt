use Rattle.std.proofs.Common.{◌∷◌, sym, ap, ◌∙◌}
use Rattle.atomic_table.specs.Table.{rest}
use Rattle.lin_table.proofs.StepLemmas.{value_at}
use Rattle.lin_table.proofs.steps.look_out.Goals as goal

pub slot_mut-it-requires : goal.slot_mut-it-requires
slot_mut-it-requires g c = let o = c.requires.out in (c.requires.table, (o.0, o.1 ∙ ap (λ l. (c.args.shard, o.0) ∷ rest l) (sym o.1)))

pub look_here-requires : goal.look_here-requires
look_here-requires g c =
    let o = c.requires.out in
    let is = ap (value_at o.0) (sym c.slot_mut-it.ensures.value ∙ o.1) in
    rw is o.2
