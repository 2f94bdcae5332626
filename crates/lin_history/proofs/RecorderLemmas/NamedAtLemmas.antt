-- The object of an index that has the name that is looked for.
use Rattle.std.proofs.Common.{◌≡◌, ℕ, zero, suc, ◌<◌, true, false, nat_lt, List, [], ◌∷◌, map, length, Some, IfSome, bytes_eq, slice_get, String, string_bytes, string_eq, Global, refl, sym, subst, ◌∙◌, arith}
use Rattle.std.proofs.lemmas.Bool.{lt-ltb}
use Rattle.std.specs.Cmp.Lexicographic.{nat_list_eq_equiv}
use Rattle.std.specs.List.{AllByRecursion, IsDistinct, position_or_len}
use Rattle.std.specs.Map.{keys_of}
use Rattle.std.proofs.lemmas.Map.Keys.{IsDistinct-head, IsDistinct-tail}
use Rattle.lin_history.specs.Recorder.BuilderState.{recorded}
use Rattle.lin_history.specs.Recorder.Recording.{index_named}
use Rattle.lin_history.specs.Recorder.Views.{object_view}
use Rattle.lin_history.proofs.RecorderLemmas.BuilderLemmas.{false_from}
use Rattle.lin_history.proofs.RecorderLemmas.ObjectLemmas.{Entry, position-seen}

-- What holds of each key holds of that of an entry.
key_has : (P : String Global → Type 0) (es : List Entry) (i : ℕ) (e : Entry) → AllByRecursion P (keys_of es) → slice_get es i ≡ Some e → P e.0
key_has P [] i e all at = absurd (cc)
key_has P (x ∷ es) zero e all at = subst (λ o. IfSome o (λ (found : Entry). P found.0)) at all.0
key_has P (x ∷ es) (suc i) e all at = key_has P es i e all.1 at

-- A key that is not equal to one that has the name has not the name.
not_before : (name : List ℕ) (x y : String Global) → string_eq x y ≡ false → bytes_eq name (string_bytes y) ≡ true → bytes_eq name (string_bytes x) ≡ false
not_before name x y differ is =
    false_from (bytes_eq name (string_bytes x)) (λ same.
    let clash : true ≡ false = sym is ∙ nat_list_eq_equiv.congr name (string_bytes x) (string_bytes y) same ∙ differ in
    absurd (cc))

-- No two entries have the same name: so the first that has it is the one that has it.
place_of_key : (name : List ℕ) (es : List Entry) (i : ℕ) (e : Entry) → IsDistinct string_eq (keys_of es) → slice_get es i ≡ Some e → bytes_eq name (string_bytes e.0) ≡ true
    → position_or_len (λ k. bytes_eq name (string_bytes k)) (keys_of es) ≡ i
place_of_key name [] i e distinct at is = absurd (cc)
place_of_key name (x ∷ es) zero e distinct at is =
    let here : bytes_eq name (string_bytes x.0) ≡ true = subst (λ o. IfSome o (λ (found : Entry). bytes_eq name (string_bytes found.0) ≡ true)) (sym at) is in
    rw here refl
place_of_key name (x ∷ es) (suc i) e distinct at is =
    let differ : string_eq x.0 e.0 ≡ false = key_has (λ y. string_eq x.0 y ≡ false) es i e (IsDistinct-head string_eq x.0 (keys_of es) distinct) at in
    let before : bytes_eq name (string_bytes x.0) ≡ false = not_before name x.0 e.0 differ is in
    rw (before, place_of_key name es i e (IsDistinct-tail string_eq x.0 (keys_of es) distinct) at is) (omega arith)

-- An entry is within the entries, and so is its key.
key_within : (es : List Entry) (i : ℕ) (e : Entry) → slice_get es i ≡ Some e → i < length (keys_of es)
key_within [] i e at = absurd (cc)
key_within (x ∷ es) zero e at = omega arith
key_within (x ∷ es) (suc i) e at = omega (arith, key_within es i e at)

-- So the object of that name is the one of this index.
pub named_at : (name : List ℕ) (es : List Entry) (i : ℕ) (e : Entry) → IsDistinct string_eq (keys_of es) → slice_get es i ≡ Some e → bytes_eq name (string_bytes e.0) ≡ true
    → index_named (recorded (map object_view es) [] 0) name ≡ Some i
named_at name es i e distinct at is =
    let place = place_of_key name es i e distinct at is in
    let within : nat_lt i (length (keys_of es)) ≡ true = lt-ltb _ _ (key_within es i e at) in
    position-seen name es ∙ rw (place, within) refl
