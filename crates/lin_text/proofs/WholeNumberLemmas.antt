-- The numbers of a list, one item after another.
use Rattle.std.proofs.Common.{◌≡◌, ℕ, zero, suc, ◌<◌, ℤ, List, [], ◌∷◌, ◌++◌, length, drop, get_or, Option, Some, None, option_map, option_and_then, refl, sym, ap, append_assoc, arith}
use Rattle.serde_json.specs.Data.{number}
use Rattle.serde_json.specs.Find.{of_integer}
use Rattle.serde_json.specs.View.{view, items_view}
use Rattle.serde_json.specs.declared.value.Value.{Value}
use Rattle.lin_text.specs.Fields.{whole, wholes}
use Rattle.lin_text.specs.WholeNumbers.{items_of}

abbrev pub with_front : List ℤ → Option (List ℤ) → Option (List ℤ)
with_front front rest = option_map (λ xs. front ++ xs) rest

one_more : (front : List ℤ) (n : ℤ) (rest : Option (List ℤ)) → with_front front (option_map (λ xs. n ∷ xs) rest) ≡ with_front (front ++ n ∷ []) rest
one_more front n None = refl
one_more front n (Some xs) = ap Some (sym (append_assoc front (n ∷ []) xs))

pub goes_on : (list : List Value) (i : ℕ) (d : Value) (n : ℤ) (front : List ℤ) → i < length list → whole (view (get_or list i d)) ≡ Some n
    → with_front front (wholes (items_view (drop i list))) ≡ with_front (front ++ n ∷ []) (wholes (items_view (drop (suc i) list)))
goes_on [] i d n front h e = absurd (omega arith)
goes_on (v ∷ vs) zero d n front h e = rw e (one_more front n (wholes (items_view vs)))
goes_on (v ∷ vs) (suc i) d n front h e = goes_on vs i d n front (omega arith) e

pub stops : (list : List Value) (i : ℕ) (d : Value) (front : List ℤ) → i < length list → whole (view (get_or list i d)) ≡ None
    → with_front front (wholes (items_view (drop i list))) ≡ None
stops [] i d front h e = absurd (omega arith)
stops (v ∷ vs) zero d front h e = rw e refl
stops (v ∷ vs) (suc i) d front h e = stops vs i d front (omega arith) e

-- ---- arrays of whole numbers

both_read : (w : Option ℤ) (r : Option (List ℤ)) (m : ℤ) (ms : List ℤ) → option_and_then (λ x. option_map (λ xs. x ∷ xs) r) w ≡ Some (m ∷ ms) → (w ≡ Some m) × (r ≡ Some ms)
both_read None r m ms e = absurd (cc)
both_read (Some x) None m ms e = absurd (cc)
both_read (Some x) (Some xs) m ms e =
    let first : x ≡ m = cc in
    let more : xs ≡ ms = cc in
    (ap Some first, ap Some more)

-- what is read of an array with one number more
pub one_more_read : (ns : List ℤ) (n : ℤ) → wholes (items_of ns) ≡ Some ns → whole (number (of_integer n)) ≡ Some n → wholes (items_of (ns ++ n ∷ [])) ≡ Some (ns ++ n ∷ [])
one_more_read [] n all e = rw e refl
one_more_read (m ∷ ms) n all e =
    let both = both_read (whole (number (of_integer m))) (wholes (items_of ms)) m ms all in
    rw (both.0, one_more_read ms n both.1 e) refl
