use Rattle.std.proofs.Common.{◌≡◌, ◌∙◌, ◌++◌, Some, List, [], ℕ, ap, refl, sym, subst, get_or, string_bytes}
use Rattle.std.specs.List.{slice_get}
use Rattle.std.proofs.lemmas.Option.{slice_get-get_or}
use Rattle.lincheck.specs.declared.status.Status.{Status}
use Rattle.lincheck.specs.declared.status.Status.TheVariants.{Yes}
use Rattle.lincheck.specs.Each.{AreToldFrom}
use Rattle.lincheck.proofs.EachLemmas.{told_none, told_more, told_all}
use Rattle.lincheck.proofs.each_explained.report_told.Goals as goal

pub loop-object-init : goal.loop-object-init
loop-object-init g c = (rw c.new-out.ensures.bytes (told_none c.args.history.now c.args.lines.now c.args.statuses.now []), refl, c.requires.witnesses)

pub told_of-requires-clause-witness : goal.told_of-requires-clause-witness
told_of-requires-clause-witness g c = c.taken.ensures.witness c.args.history.now c.loop-object.invariant.2

pub loop-object-preserved : goal.loop-object-preserved
loop-object-preserved g c =
    let status : Status = get_or c.args.statuses.now c.loop-object.object Yes in
    let there : slice_get c.args.statuses.now c.loop-object.object ≡ Some status = slice_get-get_or c.args.statuses.now c.loop-object.object Yes c.loop-object-test.true in
    let told = c.in_ok-told.ensures in (
      told_more c.args.history.now c.args.lines.now c.args.statuses.now [] (string_bytes c.loop-object.out) (string_bytes c.push_str.new.self) c.loop-object.object status told.0 there c.loop-object.invariant.0 told.1
          (c.in_ok-push_str.ensures.bytes ∙ ap (λ (l : List ℕ). string_bytes c.loop-object.out ++ l) (c.as_str.ensures.value ∙ told.2)),
      c.loop-object.invariant.1,
      c.taken.ensures.left c.args.history.now c.loop-object.invariant.2,
    )

pub returns : goal.returns
returns g c =
    let all = told_all c.args.history.now c.args.lines.now c.args.statuses.now [] (string_bytes c.loop-object.out) c.loop-object.object c.loop-object-test.false c.loop-object.invariant.0 in
    rw c.into_bytes.ensures.value (subst (AreToldFrom c.args.history.now c.args.lines.now 0 c.args.statuses.now) (sym all.2) all.1)
