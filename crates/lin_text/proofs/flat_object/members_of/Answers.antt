use Rattle.std.proofs.Common.{◌≡◌, ◌-◌, Some, option_map, sym, ap, ◌∙◌, arith}
use Rattle.json.specs.Json.{read_key, members, value}
use Rattle.json.proofs.Grammar.{read_key-shorter}
use Rattle.serde_json.specs.Data.{put, no_members}
use Rattle.serde_json.specs.Read.{of_members, converted}
use Rattle.lin_text.specs.FlatObject.{value_of, members_with}
use Rattle.lin_text.proofs.FlatLemmas.{members_with-push, member_read, members_over}
use Rattle.lin_text.proofs.flat_object.members_of.Goals as goal

pub members-preserved : goal.members-preserved
members-preserved c =
    let l = c.members in
    let n = l.invariant.0 in
    let k = c.in-Some.key.now in
    let f = c.in-Some-2.field in
    let s = c.next_key.new.self in
    let r = c.field_of.new.reader in
    let old = members_with l.found.items no_members in
    let named : read_key l.reader ≡ Some (Some k, s) = c.in-Ok.ensures.value ∙ ap (λ o. Some (option_map (λ t. t.now) o, s)) c.in-Some.is in
    let less = read_key-shorter l.reader (Some k) s named in
    let lesser = rw c.in-Some-2.is at c.in_ok-field.ensures.shorter in
    let read = rw c.in-Some-2.is at c.in_ok-field.ensures.value in
    let pushed : members_with c.push.new.self.items no_members ≡ put k (value_of f) old =
    ap (λ ms. members_with ms no_members) c.in_ok-push.ensures.items ∙ members_with-push l.found.items (record { key = c.in-Some.key; field = f }) no_members in (
      n - 1,
      omega (arith, l.invariant.1),
      λ depth some. l.invariant.2 depth some ∙ member_read (value depth) old n k l.reader s r (value_of f) (omega (arith, l.invariant.1)) named (read depth some)
          ∙ ap (λ found. converted (λ ms. of_members ms found) (members (value depth) (n - 1) r)) (sym pushed),
    )

pub returns-in_default-next : goal.returns-in_default-next
returns-in_default-next c = λ depth some.
    let l = c.members in
    l.invariant.2 depth some ∙ members_over (value depth) (members_with l.found.items no_members) l.invariant.0 l.reader c.next_key.new.self l.invariant.1 (grind arith)
