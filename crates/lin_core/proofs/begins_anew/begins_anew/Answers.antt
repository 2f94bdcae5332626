use Rattle.std.proofs.Common.{◌≡◌, ◌∷◌, [], false, sym, ◌∙◌, subst, rules, w64, to_z, of_z}
use Rattle.std.specs.Prelude.{ℤ}
use Rattle.lin_object.specs.Items.{is_in}
use Rattle.lin_core.proofs.SinceLemmas.{write_begins, put_begins, insert_begins}
use Rattle.lin_core.proofs.begins_anew.begins_anew.Goals as goal

pub returns-in-Register-Write : goal.returns-in-Register-Write
returns-in-Register-Write c = λ yes. write_begins c.set_law.ensures c.map_law.ensures c.args.problem.now c.args.values.now c.args.call.now _ _ (sym c.start.ensures ∙ c.in-Register-Write.is-0) c.in-Register-Write.is-1

pub returns-in-Map-Put : goal.returns-in-Map-Put
returns-in-Map-Put c = λ yes.
    let same : to_z w64 (of_z w64 c.in-Map-Put.key) ≡ c.in-Map-Put.key = search rules in
    put_begins c.set_law.ensures c.map_law.ensures c.args.problem.now c.args.values.now c.args.call.now _ _ _ (sym c.start.ensures ∙ c.in-Map-Put.is-0) c.in-Map-Put.is-1 (subst (λ (k : ℤ). c.args.values.now ≡ k ∷ []) same (c.is_only.ensures yes))

pub returns-in-Set-Insert : goal.returns-in-Set-Insert
returns-in-Set-Insert c = λ yes.
    let same : to_z w64 (of_z w64 c.in-Set-Insert.item) ≡ c.in-Set-Insert.item = search rules in
    let answer = c.inserts_first.ensures.answer yes in
    insert_begins c.set_law.ensures c.map_law.ensures c.args.problem.now c.args.values.now c.args.call.now c.in-Set-Insert.item c.in-Set-Insert.items answer.0 (sym c.start.ensures ∙ c.in-Set-Insert.is-0) c.in-Set-Insert.is-1 answer.1 (subst (λ (k : ℤ). c.args.values.now ≡ k ∷ []) same (c.inserts_first.ensures.only yes)) (subst (λ (k : ℤ). is_in k c.in-Set-Insert.items ≡ false) same (c.inserts_first.ensures.out yes))
