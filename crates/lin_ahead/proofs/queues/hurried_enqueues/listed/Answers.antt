use Rattle.std.proofs.Common.{◌≡◌, Some, None, List, [], ◌∷◌, ◌++◌, drop, refl, sym, ◌∙◌, ap, append-nil, append_assoc, rules, w64, to_z, of_z}
use Rattle.std.specs.List.{slice_get}
use Rattle.lin_ahead.proofs.queues.hurried_enqueues.listed.Goals as goal

first_then : {A : Type 0} (l : List A) (x : A) → slice_get l 0 ≡ Some x → x ∷ drop 1 l ≡ l
first_then [] x e = absurd (cc)
first_then (y ∷ l) x e = let same : y ≡ x = cc in rw same refl

no_first : {A : Type 0} (l : List A) → slice_get l 0 ≡ None → l ≡ []
no_first [] e = refl
no_first (x ∷ l) e = absurd (cc)

pub returns : goal.returns
returns c =
    let empty = no_first c.loop-item.rest (sym c.first.ensures ∙ c.in_default.is) in
    sym (append-nil c.loop-item.list.items) ∙ rw empty at c.loop-item.invariant

pub loop-item-preserved : goal.loop-item-preserved
loop-item-preserved c =
    let split = first_then c.loop-item.rest c.in-Some.item (sym c.first.ensures ∙ c.in-Some.is) in
    let same : to_z w64 (of_z w64 c.in-Some.item) ≡ c.in-Some.item = search rules in
    rw (c.in_ok-push.ensures.items, same, c.in_ok-rest-2.ensures)
    (append_assoc c.loop-item.list.items (c.in-Some.item ∷ []) (drop 1 c.loop-item.rest) ∙ (ap (λ l. c.loop-item.list.items ++ l) split ∙ c.loop-item.invariant))
