use Rattle.std.proofs.Common.{◌≡◌, [], ◌∷◌, Some, sym, ap, ◌∙◌, arith}
use Rattle.json.specs.Token.{Token}
use Rattle.json.specs.Lex.{tokens}
use Rattle.json.specs.Reads.{token_of}
use Rattle.serde_json.specs.Data.{no_members}
use Rattle.lin_text.specs.FlatObject.{members_with}
use Rattle.lin_text.proofs.FlatLemmas.{object_read}
use Rattle.lin_text.proofs.flat_object.FlatObject.read.Goals as goal

pub returns : goal.returns
returns c =
    let r = c.next.new.self in
    let first : tokens c.args.text.now ≡ Token.begin_object ∷ r =
    sym c.in_ok-reader.ensures.ok ∙ c.in-Some-BeginObject.ensures.value ∙ ap (λ t. token_of t ∷ r) c.in-Some-BeginObject.field-0-is in
    let over : c.members_of.new.reader ≡ [] = grind arith in
    let found = rw c.in-Some.is at c.in_ok-members.ensures in
    object_read c.args.text.now r c.in-Some.members.items first (found 126 (omega arith) ∙ ap (λ ts. Some (members_with c.in-Some.members.items no_members, ts)) over)
