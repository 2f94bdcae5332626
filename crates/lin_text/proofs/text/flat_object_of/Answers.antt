use Rattle.std.proofs.Common.{◌≡◌, Some, subst}
use Rattle.std.proofs.lemmas.Option.{IfSome_then}
use Rattle.std.proofs.lemmas.Result.{IfOk-weaker}
use Rattle.serde_json.specs.Read.{read}
use Rattle.lin_text.specs.FlatObject.{object_of}
use Rattle.lin_text.proofs.JsonLemmas.{json_some}
use Rattle.lin_text.proofs.text.flat_object_of.Goals as goal

pub returns-in-Ok : goal.returns-in-Ok
returns-in-Ok c =
    IfOk-weaker c.read.result _ _ (λ answer h. IfSome_then answer h (λ object e.
    json_some c.args.line.now (object_of object.members.items) c.in-Ok.ensures.cases.1
    (subst (λ text. read text ≡ Some (object_of object.members.items)) c.in-Ok.ensures.cases.0 e))) c.read.ensures
