-- The object that a value names, by the text where its name is.
use Rattle.std.proofs.Common.{◌≡◌, ℕ, true, false, codes, List, Option, Some, None, option_and_then, refl, sym, ap, ◌∙◌}
use Rattle.serde_json.specs.Data.{Data}
use Rattle.lin_object.specs.declared.kind.Kind.{Kind}
use Rattle.lin_history.specs.Refusals.{first_that_holds}
use Rattle.lin_history.specs.Recorder.Names.{is_name}
use Rattle.lin_text.specs.declared.cause.Cause.TheVariants.{BadObject, UnknownObject}
use Rattle.lin_text.specs.Fields.{when, text_at, name_in, declared_kind}
use Rattle.lin_text.specs.Line.{object_conditions}

by_text : (d : Data) (text : Option (List ℕ)) → text ≡ text_at (codes "object") d → name_in d ≡ option_and_then (when is_name) text
unfolding name_in
by_text d text at = ap (option_and_then (when is_name)) (sym at)

bad_name : (known : List ℕ → Option Kind) (d : Data) → name_in d ≡ None → first_that_holds (object_conditions known d) ≡ Some BadObject
bad_name known d none = rw none refl

-- where there is no text, it names none
pub without_text : (known : List ℕ → Option Kind) (d : Data) → None ≡ text_at (codes "object") d → first_that_holds (object_conditions known d) ≡ Some BadObject
without_text known d at = bad_name known d (by_text d None at)

module _ (d : Data) (text : List ℕ) (at : Some text ≡ text_at (codes "object") d) where
  -- nor where the text is no name
  pub without_name : (known : List ℕ → Option Kind) → is_name text ≡ false → first_that_holds (object_conditions known d) ≡ Some BadObject
  without_name known bad = bad_name known d (by_text d (Some text) at ∙ rw bad refl)

  -- and where it is one, this is the name
  pub named_as : (name : List ℕ) → name ≡ text → is_name name ≡ true → name_in d ≡ Some name
  named_as name same valid = by_text d (Some text) at ∙ rw (← same, valid) refl

  pub declared_as : (known : List ℕ → Option Kind) (name : List ℕ) → name ≡ text → is_name name ≡ true → (kind : Kind) → Some kind ≡ known text → declared_kind known d ≡ Some kind
  declared_as known name same valid kind is = ap (option_and_then known) (named_as name same valid) ∙ (ap known same ∙ sym is)

  pub undeclared : (known : List ℕ → Option Kind) → is_name text ≡ true → None ≡ known text → first_that_holds (object_conditions known d) ≡ Some UnknownObject
  undeclared known valid none =
      let named = named_as text refl valid in
      rw (named, ← none) refl
