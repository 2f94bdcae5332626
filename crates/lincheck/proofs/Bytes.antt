-- What writes took, one after another.
use Rattle.std.proofs.Common.{◌≡◌, ℕ, List, [], ◌++◌, Option, Some, None, Result, Ok, Err, OnErr, length, take, drop, refl, sym, ap, ◌∙◌, subst, append_assoc, append-nil}
use Rattle.std.specs.Io.KnownBytes.{Appends, Keeps}
use Rattle.std.proofs.lemmas.List.{take-append-drop}
use Rattle.std.proofs.Math.Seq.{take-append_seam}

-- bytes that were not written to are kept
pub kept : (a : Option (List ℕ)) → Keeps a a
kept None = tt
kept (Some x) = refl

pub appends_nil : (a : Option (List ℕ)) → Appends a a []
appends_nil None = tt
appends_nil (Some x) = sym (append-nil x)

pub appends_more : (a b c : Option (List ℕ)) (xs ys : List ℕ) → Appends a b xs → Appends b c ys → Appends a c (xs ++ ys)
appends_more None b c xs ys p q = tt
appends_more (Some x) None c xs ys p q = absurd p
appends_more (Some x) (Some y) None xs ys p q = absurd q
appends_more (Some x) (Some y) (Some z) xs ys p q = q ∙ ap (λ (l : List ℕ). l ++ ys) p ∙ append_assoc x xs ys

pub appends_kept : (a b c : Option (List ℕ)) (xs : List ℕ) → Appends a b xs → Keeps b c → Appends a c xs
appends_kept None b c xs p q = tt
appends_kept (Some x) None c xs p q = absurd p
appends_kept (Some x) (Some y) None xs p q = absurd q
appends_kept (Some x) (Some y) (Some z) xs p q = q ∙ p

-- what holds in any case holds after an error
pub on_err : {T E P : Type 0} (r : Result T E) → P → OnErr r P
on_err (Ok x) p = tt
on_err (Err e) p = p

-- the pieces written so far are the front of the answer
pub record IsWritten (a b : Option (List ℕ)) (answer rest : List ℕ) : Type 0 where
  pub front : List ℕ
  pub whole : answer ≡ front ++ rest
  pub appended : Appends a b front

pub written_none : (a : Option (List ℕ)) (answer : List ℕ) → IsWritten a a answer answer
written_none a answer = record { front = []; whole = refl; appended = appends_nil a }

pub written_more : (a b c : Option (List ℕ)) (answer rest : List ℕ) (n : ℕ) → IsWritten a b answer rest → Appends b c (take n rest) → IsWritten a c answer (drop n rest)
written_more a b c answer rest n w more = record {
  front = w.front ++ take n rest;
  whole = w.whole ∙ ap (λ (l : List ℕ). w.front ++ l) (sym (take-append-drop n rest)) ∙ sym (append_assoc w.front (take n rest) (drop n rest));
  appended = appends_more a b c w.front (take n rest) w.appended more;
}

pub written_prefix : (a b c : Option (List ℕ)) (answer rest : List ℕ) → IsWritten a b answer rest → Keeps b c → (n : ℕ) × Appends a c (take n answer)
written_prefix a b c answer rest w kept =
    let front : take (length w.front) answer ≡ w.front = ap (take (length w.front)) w.whole ∙ take-append_seam w.front rest in
    (length w.front, subst (Appends a c) (sym front) (appends_kept a b c w.front w.appended kept))
