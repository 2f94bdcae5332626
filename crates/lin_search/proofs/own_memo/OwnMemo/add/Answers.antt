use Rattle.std.proofs.Common.{ap, sym, ◌∙◌}
use Rattle.std.specs.Prelude.{is_some}
use Rattle.lin_search.specs.SameLemmas.{alike_itself}
use Rattle.lin_search.proofs.LookupLemmas.{stored_again, held_if, not_held_if, inserted, store_added, store_kept}
use Rattle.lin_search.proofs.own_memo.OwnMemo.add.Goals as goal
use Rattle.lin_search.proofs.own_memo.OwnMemo.add.Goals.{in-Ok-None, in-Ok-Some, in-Err}

pub invariant_of-self : goal.invariant_of-self
invariant_of-self g c =
    let refuted = rw (← c.self.view_is) at c.requires in
    elim c.match-insert.branch [
      | in-Ok-None w ↦ (
          let absent = ap is_some (sym w.in-Ok-None.ensures.old ∙ w.in-Ok-None.field-0-is) in
          store_added _ c.lawful.ensures.states _ _ _ (w.in-Ok-None.ensures.entries ∙ inserted _ _ _ _ absent) c.self.invariant refuted (not_held_if _ _ _ absent)
          )
      | in-Ok-Some w ↦ store_kept _ _ _ (w.in-Ok-Some.ensures.entries ∙ stored_again (alike_itself c.lawful.ensures _) _ _ _ _ _ c.self.invariant.refuted refuted w.in-Ok-Some.ensures.old w.in-Ok-Some.field-0-is) c.self.invariant
      | in-Err w ↦ store_kept _ _ _ w.in-Err.ensures.err c.self.invariant
    ]

pub returns-clause-exact : goal.returns-clause-exact
returns-clause-exact g c =
    let refuted = rw (← c.self.view_is) at c.requires in
    rw (← c.self.view_is) (elim c.match-insert.branch [
      | in-Ok-None w ↦ (
          let absent = ap is_some (sym w.in-Ok-None.ensures.old ∙ w.in-Ok-None.field-0-is) in
          rw w.result-is (tt, not_held_if _ _ _ absent, w.in-Ok-None.ensures.entries ∙ inserted _ _ _ _ absent)
          )
      | in-Ok-Some w ↦ (
          let there = ap is_some (sym w.in-Ok-Some.ensures.old ∙ w.in-Ok-Some.field-0-is) in
          rw w.result-is (tt, held_if _ _ _ there, w.in-Ok-Some.ensures.entries ∙ stored_again (alike_itself c.lawful.ensures _) _ _ _ _ _ c.self.invariant.refuted refuted w.in-Ok-Some.ensures.old w.in-Ok-Some.field-0-is)
          )
      | in-Err w ↦ (
          let absent = ap is_some w.in-Err.ensures.absent in
          rw w.result-is (tt, not_held_if _ _ _ absent, w.in-Err.ensures.err)
          )
    ])
