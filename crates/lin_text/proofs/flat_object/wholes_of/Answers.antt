use Rattle.std.proofs.Common.{◌≡◌, ◌-◌, [], ◌∷◌, ◌++◌, length, sym, ap, ◌∙◌, arith, rules}
use Rattle.json.specs.Token.{Token}
use Rattle.json.specs.Json.{items, value, parse_map}
use Rattle.json.specs.Reads.{token_of}
use Rattle.serde_json.specs.Read.{of_items, converted}
use Rattle.lin_text.proofs.FlatLemmas.{items_before, whole_read, wholes_over}
use Rattle.lin_text.proofs.flat_object.wholes_of.Goals as goal

pub items-preserved : goal.items-preserved
items-preserved c =
    let l = c.items in
    let n = l.invariant.0 in
    let r = c.next.new.self in
    let numbers = l.found in
    let z = c.in-Some.number in
    let text = c.in-Some-Number.text.now in
    let same : c.take_end_array.new.self ≡ l.reader = grind arith in
    let first : l.reader ≡ Token.number text ∷ r = sym same ∙ c.in-Some-Number.ensures.value ∙ ap (λ t. token_of t ∷ r) c.in-Some-Number.field-0-is in
    let shorter : length l.reader ≡ length (Token.number text ∷ r) = ap length first in
    let pushed : c.push.new.self ≡ numbers ++ z ∷ [] = search rules in (
      n - 1,
      omega (arith, l.invariant.1),
      omega (arith, l.invariant.2),
      λ depth. l.invariant.3 depth ∙ whole_read depth n numbers z text l.reader r (omega (arith, l.invariant.1)) first c.in-Some.ensures
          ∙ ap (λ zs. parse_map (items_before zs) (converted of_items (items (value depth) (n - 1) r))) (sym pushed),
    )

pub returns-clause-value : goal.returns-clause-value
returns-clause-value c = λ depth.
    let l = c.items in
    l.invariant.3 depth ∙ wholes_over depth l.invariant.0 l.found l.reader c.take_end_array.new.self l.invariant.1 (grind arith)
