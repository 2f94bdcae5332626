-- Objects by name, beside the map that holds them.
use Rattle.std.proofs.Common.{◌≡◌, ℕ, Bool, not, cond, nat_lt, List, [], ◌∷◌, ◌++◌, map, length, position, Option, Some, None, is_some, bytes_eq, option_map, option_and_then, slice_get, String, string_bytes, Global, refl, sym, ap, subst, ◌∙◌, ◌+◌}
use Rattle.std.proofs.lemmas.List.{map-append, length-map}
use Rattle.std.proofs.lemmas.Option.{slice_get-map}
use Rattle.std.specs.Map.{lookup, keys_of}
use Rattle.std.specs.List.{position_or_len}
use Rattle.indexmap.proofs.MapLemmas.{some_index}
use Rattle.lin_object.specs.declared.kind.Kind.{Kind}
use Rattle.lin_history.specs.declared.recorder.history.Declaration.{Declaration}
use Rattle.lin_history.specs.Recorder.BuilderState.{recorded}
use Rattle.lin_history.specs.Recorder.RecordedHistory.{DeclaredObject}
use Rattle.lin_history.specs.Recorder.Recording.{index_named, kind_named}
use Rattle.lin_history.specs.Recorder.Views.{object_view}
use Rattle.lin_history.specs.OptionLemmas.{none_of}

abbrev pub Entry : Type 0
Entry = String Global × Declaration

-- ---- positions in a list that is seen through a function

pub position_or_len-map : {A B : Type 0} (p : B → Bool) (f : A → B) (xs : List A) → position_or_len p (map f xs) ≡ position_or_len (λ x. p (f x)) xs
position_or_len-map p f [] = refl
position_or_len-map p f (x ∷ xs) = ap (λ n. cond (not (p (f x))) (1 + n) 0) (position_or_len-map p f xs)

pub position-map : {A B : Type 0} (p : B → Bool) (f : A → B) (xs : List A) → position p (map f xs) ≡ position (λ x. p (f x)) xs
position-map p f xs =
    let g : ℕ → ℕ → Option ℕ = λ n m. cond (nat_lt n m) (Some n) None in
    ap (λ n. g n (length (map f xs))) (position_or_len-map p f xs) ∙ ap (λ m. g (position_or_len (λ x. p (f x)) xs) m) (length-map xs f)

pub position-seen : (name : List ℕ) (es : List Entry) → position (λ o. bytes_eq name o.name) (map object_view es) ≡ position (λ k. bytes_eq name (string_bytes k)) (keys_of es)
position-seen name es = position-map (λ o. bytes_eq name o.name) object_view es ∙ sym (position-map (λ k. bytes_eq name (string_bytes k)) (λ e. e.0) es)

-- the kind that the entry of the name has
pub kind_found : (es : List Entry) (name : List ℕ) (index : ℕ) (e : Entry) (kind : Kind)
    → Some index ≡ index_named (recorded (map object_view es) [] 0) name → Some e ≡ slice_get es index → kind ≡ e.1.kind
    → ◌≡◌ {A = Option Kind} (Some kind) (kind_named (recorded (map object_view es) [] 0) name)
kind_found es name index e kind named found is =
    let kind_of : Option DeclaredObject → Option Kind = option_map (λ (o : DeclaredObject). o.kind) in
    ap (λ (k : Kind). Some k) is
    ∙ ap (λ (o : Option Entry). kind_of (option_map object_view o)) found
    ∙ ap kind_of (sym (slice_get-map object_view es index))
    ∙ ap (λ (o : Option ℕ). option_and_then (λ i. kind_of (slice_get (map object_view es) i)) o) named

-- ---- a name that is not there

-- no key of the map is the name
pub absent_key : (es : List Entry) (name : List ℕ) (key : String Global) → string_bytes key ≡ name → position (λ o. bytes_eq name o.name) (map object_view es) ≡ None
    → lookup (λ k. bytes_eq (string_bytes key) (string_bytes k)) es ≡ None
absent_key es name key is none =
    let P : List ℕ → Type 0 = λ x. lookup (λ k. bytes_eq x (string_bytes k)) es ≡ None in
    subst P (sym is) (none_of (lookup (λ k. bytes_eq name (string_bytes k)) es) (sym (some_index (λ k. bytes_eq name (string_bytes k)) es) ∙ ap is_some (sym (position-seen name es) ∙ none)))

-- the objects with one entry more
pub pushed_seen : (es : List Entry) (declaration : Declaration) (name : List ℕ) (key : String Global) → string_bytes key ≡ name
    → map object_view (es ++ (key, declaration) ∷ []) ≡ map object_view es ++ (record { name = name; kind = declaration.kind; start = declaration.start }) ∷ []
pushed_seen es declaration name key e =
    let f : List ℕ → List DeclaredObject = λ n. map object_view es ++ (record { name = n; kind = declaration.kind; start = declaration.start }) ∷ [] in
    map-append object_view es ((key, declaration) ∷ []) ∙ ap f e
