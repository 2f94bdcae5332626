use Rattle.std.proofs.Common.{◌≡◌, ◌-◌, ◌∷◌, Some, SFits, w64, sym, ap, ◌∙◌, rules}
use Rattle.std.proofs.lemmas.Int.{to_z-of_z}
use Rattle.json.specs.Token.{Token}
use Rattle.json.specs.Json.{value}
use Rattle.json.specs.Reads.{token_of}
use Rattle.serde_json.specs.Data.{number}
use Rattle.serde_json.specs.Find.{of_integer}
use Rattle.serde_json.specs.Read.{of_json, converted}
use Rattle.lin_text.proofs.FlatLemmas.{null_read, flag_read, text_read, number_read, array_read}
use Rattle.lin_text.proofs.flat_object.field_of.Goals as goal

pub returns-in-Null-clause-value : goal.returns-in-Null-clause-value
returns-in-Null-clause-value c = λ depth some.
    let first : c.args.reader.now ≡ Token.null ∷ c.next.new.self = c.in-Some.ensures.value ∙ ap (λ t. token_of t ∷ c.next.new.self) c.in-Null.is in
    ap (λ ts. converted of_json (value depth ts)) first ∙ null_read depth c.next.new.self

pub returns-in-Bool-clause-value : goal.returns-in-Bool-clause-value
returns-in-Bool-clause-value c = λ depth some.
    let first : c.args.reader.now ≡ Token.boolean c.in-Bool.flag ∷ c.next.new.self = c.in-Some.ensures.value ∙ ap (λ t. token_of t ∷ c.next.new.self) c.in-Bool.is in
    ap (λ ts. converted of_json (value depth ts)) first ∙ flag_read depth c.in-Bool.flag c.next.new.self

pub returns-in-String-clause-value : goal.returns-in-String-clause-value
returns-in-String-clause-value c = λ depth some.
    let first : c.args.reader.now ≡ Token.string c.in-String.text.now ∷ c.next.new.self = c.in-Some.ensures.value ∙ ap (λ t. token_of t ∷ c.next.new.self) c.in-String.is in
    ap (λ ts. converted of_json (value depth ts)) first ∙ text_read depth c.in-String.text.now c.next.new.self

pub returns-in-Some-whole_of-clause-value : goal.returns-in-Some-whole_of-clause-value
returns-in-Some-whole_of-clause-value c = λ depth some.
    let text = c.in-Number.text.now in
    let z = c.in-Some-whole_of.number in
    let r = c.next.new.self in
    let first : c.args.reader.now ≡ Token.number text ∷ r = c.in-Some.ensures.value ∙ ap (λ t. token_of t ∷ r) c.in-Number.is in
    let fits : SFits w64 z = search rules in
    ap (λ ts. converted of_json (value depth ts)) first ∙ number_read depth text r (of_integer z) c.in-Some-whole_of.ensures
    ∙ ap (λ y. Some (number (of_integer y), r)) (sym (to_z-of_z w64 z fits))

pub returns-in-Some-float_of-clause-value : goal.returns-in-Some-float_of-clause-value
returns-in-Some-float_of-clause-value c = λ depth some.
    let text = c.in-Number.text.now in
    let r = c.next.new.self in
    let first : c.args.reader.now ≡ Token.number text ∷ r = c.in-Some.ensures.value ∙ ap (λ t. token_of t ∷ r) c.in-Number.is in
    ap (λ ts. converted of_json (value depth ts)) first ∙ number_read depth text r _ c.in-Some-float_of.ensures

pub returns-in-Some-2-clause-value : goal.returns-in-Some-2-clause-value
returns-in-Some-2-clause-value c = λ depth some.
    let first : c.args.reader.now ≡ Token.begin_array ∷ c.next.new.self = c.in-Some.ensures.value ∙ ap (λ t. token_of t ∷ c.next.new.self) c.in-BeginArray.is in
    let found = rw c.in-Some-2.is at c.in_ok-numbers-in-BeginArray.ensures.value in
    ap (λ ts. converted of_json (value depth ts)) first ∙ array_read depth c.next.new.self c.wholes_of.new.reader _ some (found (depth - 1))
