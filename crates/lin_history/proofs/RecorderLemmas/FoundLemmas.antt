-- What is found by a name has a name that is one.
use Rattle.std.proofs.Common.{◌≡◌, ℕ, true, pos, Option, Some, None, IfSome, option_map, List, [], get_or, bytes_eq, sym, ap, subst, ◌∙◌}
use Rattle.std.proofs.lemmas.List.Quantifiers.{position-Some}
use Rattle.std.proofs.lemmas.Option.{slice_get-get_or}
use Rattle.std.proofs.lemmas.Slice.Eq.{bytes_eq-Decides}
use Rattle.lin_object.specs.declared.kind.Kind.TheVariants.{Register}
use Rattle.lin_history.specs.declared.recorder.found.FoundObject.{FoundObject}
use Rattle.lin_history.specs.Recorder.Names.{is_name}
use Rattle.lin_history.specs.Recorder.RecordedHistory.{DeclaredObject}
use Rattle.lin_history.specs.Recorder.Recording.{Recording, index_named}
use Rattle.lin_history.specs.Recorder.Found.{IsFound}
use Rattle.lin_history.specs.Recorder.BuilderState.{AreNamed}

-- a name by which an object is found is one
valid_name : (r : Recording) → AreNamed r.objects → (name : List ℕ) (i : ℕ) → index_named r name ≡ Some i → is_name name ≡ true
valid_name r named name i at =
    let any : DeclaredObject = record { name = []; kind = Register; start = pos 0 } in
    let parts = position-Some (λ o. bytes_eq name o.name) r.objects i any at in
    let same : name ≡ (get_or r.objects i any).name = (bytes_eq-Decides name (get_or r.objects i any).name).0 parts.1 in
    ap is_name same ∙ named i (get_or r.objects i any) (slice_get-get_or r.objects i any parts.0)

-- so what was found is an object of the recording
pub is_found : (r : Recording) → AreNamed r.objects → (name : List ℕ) (result : Option FoundObject) → IfSome result (λ found. found.name.now ≡ name)
    → option_map (λ found. found.index) result ≡ index_named r name → IfSome result (IsFound r)
is_found r named name None same at = tt
is_found r named name (Some found) same at = record {
  valid = subst (λ n. is_name n ≡ true) (sym same) (valid_name r named name found.index (sym at));
  named = subst (λ n. index_named r n ≡ Some found.index) (sym same) (sym at);
}
