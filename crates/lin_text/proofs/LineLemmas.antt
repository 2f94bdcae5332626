-- The first line of a text, by the place of its first newline.
use Rattle.std.proofs.Common.{◌≡◌, ℕ, suc, ◌<◌, ◌≤◌, Bool, true, false, List, [], ◌∷◌, ◌++◌, length, take, drop, cond, nat_lt, Option, Some, None, refl, ap, ◌∙◌, append_assoc, arith}
use Rattle.std.proofs.lemmas.Bool.{ltb-false, le-ltb, lt-ltb}
use borrow.Author.Tests.{ltb-true}
use Rattle.std.proofs.lemmas.Option.{cond_some}
use Rattle.std.specs.List.{position, position_or_len}
use Rattle.std.proofs.lemmas.List.Sums.{position_or_len_is}
use Rattle.memchr.specs.Find.{IsFirstByte, is_byte}
use Rattle.lin_text.specs.Text.{is_newline, split, lines}

split_step : (front : List ℕ) (b : ℕ) (bytes : List ℕ) → split front (b ∷ bytes) ≡ cond (is_newline b) (front ∷ split [] bytes) (split (front ++ b ∷ []) bytes)
split_step [] b bytes = refl
split_step (x ∷ front) b bytes = refl

pub append_nil : {A : Type 0} (front : List A) → front ++ [] ≡ front
append_nil [] = refl
append_nil (x ∷ xs) = ap (λ l. x ∷ l) (append_nil xs)

place : (bytes : List ℕ) (b : ℕ) → is_newline b ≡ false → position_or_len is_newline (b ∷ bytes) ≡ suc (position_or_len is_newline bytes)
place bytes b e = rw e (omega arith)

here : (bytes : List ℕ) (b : ℕ) → is_newline b ≡ true → position_or_len is_newline (b ∷ bytes) ≡ 0
here bytes b e = rw e refl

abbrev IsCut : List ℕ → List ℕ → ℕ → Type 0
IsCut front text n = split front text ≡ (front ++ take n text) ∷ split [] (drop (suc n) text)

cut_test : (front : List ℕ) (b : ℕ) (bytes : List ℕ) (t : Bool) → is_newline b ≡ t → position_or_len is_newline (b ∷ bytes) < length (b ∷ bytes)
    → (position_or_len is_newline bytes < length bytes → IsCut (front ++ b ∷ []) bytes (position_or_len is_newline bytes))
    → IsCut front (b ∷ bytes) (position_or_len is_newline (b ∷ bytes))
cut_test front b bytes true e h ih = rw (here bytes b e) (split_step front b bytes ∙ rw (e, append_nil front) refl)
cut_test front b bytes false e h ih =
    let p : position_or_len is_newline (b ∷ bytes) ≡ suc (position_or_len is_newline bytes) = place bytes b e in
    let less : position_or_len is_newline bytes < length bytes = omega (arith, p, h) in
    rw p (split_step front b bytes ∙ rw e (ih less ∙ rw append_assoc refl))

pub cut_at : (front text : List ℕ) → position_or_len is_newline text < length text → IsCut front text (position_or_len is_newline text)
cut_at front [] h = absurd (omega arith)
cut_at front (b ∷ bytes) h = cut_test front b bytes (is_newline b) refl h (cut_at (front ++ b ∷ []) bytes)

last_test : (front : List ℕ) (b : ℕ) (bytes : List ℕ) (t : Bool) → is_newline b ≡ t → length (b ∷ bytes) ≤ position_or_len is_newline (b ∷ bytes)
    → (length bytes ≤ position_or_len is_newline bytes → split (front ++ b ∷ []) bytes ≡ ((front ++ b ∷ []) ++ bytes) ∷ [])
    → split front (b ∷ bytes) ≡ (front ++ b ∷ bytes) ∷ []
last_test front b bytes true e h ih = let p : position_or_len is_newline (b ∷ bytes) ≡ 0 = here bytes b e in absurd (omega (arith, p, h))
last_test front b bytes false e h ih =
    let p : position_or_len is_newline (b ∷ bytes) ≡ suc (position_or_len is_newline bytes) = place bytes b e in
    let more : length bytes ≤ position_or_len is_newline bytes = omega (arith, p, h) in
    split_step front b bytes ∙ rw e (ih more ∙ rw append_assoc refl)

ends : (front : List ℕ) (b : ℕ) → split (front ++ b ∷ []) [] ≡ ((front ++ b ∷ []) ++ []) ∷ []
ends [] b = refl
ends (x ∷ front) b = rw append_nil refl

last_from : (front : List ℕ) (b : ℕ) (bytes : List ℕ) → length bytes ≤ position_or_len is_newline bytes → split (front ++ b ∷ []) bytes ≡ ((front ++ b ∷ []) ++ bytes) ∷ []
last_from front b [] h = ends front b
last_from front b (c ∷ bytes) h = last_test (front ++ b ∷ []) c bytes (is_newline c) refl h (last_from (front ++ b ∷ []) c bytes)

pub lines_cut : (text : List ℕ) → position_or_len is_newline text < length text
    → lines text ≡ take (position_or_len is_newline text) text ∷ lines (drop (suc (position_or_len is_newline text)) text)
unfolding lines
lines_cut text h = cut_at [] text h

pub lines_last : (text : List ℕ) → 0 < length text → length text ≤ position_or_len is_newline text → lines text ≡ text ∷ lines []
unfolding lines
lines_last [] some h = absurd (omega arith)
lines_last (b ∷ bytes) some h = last_test [] b bytes (is_newline b) refl h (last_from [] b bytes)

pub lines_nil : lines [] ≡ []
unfolding lines
lines_nil = refl

not_less : (p n : ℕ) (t : Bool) → nat_lt p n ≡ t → cond t (Some p) None ≡ None → n ≤ p
not_less p n true e h = cc
not_less p n false e h = ltb-false p n e

pub lines_at : (text : List ℕ) (n : ℕ) → position is_newline text ≡ Some n → lines text ≡ take n text ∷ lines (drop (suc n) text)
lines_at text n h =
    let found : (nat_lt (position_or_len is_newline text) (length text) ≡ true) × (position_or_len is_newline text ≡ n) = cond_some _ _ _ h in
    rw (← found.1) (lines_cut text (ltb-true (position_or_len is_newline text) (length text) found.0))

pub lines_whole : (text : List ℕ) → 0 < length text → position is_newline text ≡ None → lines text ≡ text ∷ lines []
lines_whole text some h = lines_last text some (not_less (position_or_len is_newline text) (length text) _ refl h)

-- ---- where the first newline is

not_passed : (b : Bool) → (b ≡ true → ⊥) → b ≡ false
not_passed true never = absurd (never refl)
not_passed false never = refl

-- the place of the first byte that is a newline is that of the first newline
pub newline_at : (text : List ℕ) (place : Option ℕ) → IsFirstByte (is_byte 10) text place → place ≡ position is_newline text
newline_at text None none =
    let at_end : position_or_len is_newline text ≡ length text =
    position_or_len_is is_newline text (length text) 0 (omega arith) (λ k h. not_passed _ (none k (omega arith) h)) (λ h. absurd (omega arith)) in
    rw (at_end, le-ltb (length text) (length text) (omega arith)) refl
newline_at text (Some k) first =
    let there : position_or_len is_newline text ≡ k =
    position_or_len_is is_newline text k 0 (let h = first.0.high in omega (arith, h)) (λ i h. not_passed _ (first.0.before i (omega arith) h)) (λ h. first.1) in
    let within = first.0.high in
    rw (there, lt-ltb k (length text) within) refl
