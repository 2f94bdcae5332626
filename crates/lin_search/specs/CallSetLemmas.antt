-- Sets of calls: the test of equality, and what a set with one call more has.
use Rattle.std.proofs.lemmas.List.{length-set}
use Rattle.std.proofs.Common.{◌≡◌, ◌≢◌, ℕ, zero, suc, ◌+◌, ◌<◌, replicate, Bool, true, false, List, [], ◌∷◌, ◌++◌, length, ◌⊎◌, inl, inr, refl, sym, ◌∙◌, ap, arith}
use Rattle.std.proofs.lemmas.List.{get_or-set_same, get_or-set_other}
use lib.Pointwise.{pointwise}
use mathlib.Core.Bool.{beq}
use Rattle.lin_history.specs.Problems.Continuations.{has}
use Rattle.lin_search.specs.CallSet.{with_call, with_calls}

-- sets that the test finds equal are equal
pub flags_same : (xs ys : List Bool) → pointwise beq xs ys ≡ true → xs ≡ ys
flags_same [] [] e = refl
flags_same (true ∷ xs) (true ∷ ys) e = ap (λ (l : List Bool). true ∷ l) (flags_same xs ys e)
flags_same (false ∷ xs) (false ∷ ys) e = ap (λ (l : List Bool). false ∷ l) (flags_same xs ys e)
flags_same (true ∷ xs) (false ∷ ys) e = absurd (cc)
flags_same (false ∷ xs) (true ∷ ys) e = absurd (cc)
flags_same [] (y ∷ ys) e = absurd (cc)
flags_same (x ∷ xs) [] e = absurd (cc)

pub flags_itself : (xs : List Bool) → pointwise beq xs xs ≡ true
flags_itself [] = refl
flags_itself (true ∷ xs) = flags_itself xs
flags_itself (false ∷ xs) = flags_itself xs

-- below the last, or the last
pub below_or_last : (a i : ℕ) → a < i + 1 → (a < i) ⊎ (a ≡ i)
below_or_last a i h = grind arith

-- equal or not
pub same_or_not : (a b : ℕ) → (a ≡ b) ⊎ (a ≢ b)
same_or_not a b = grind arith

pub true_or_false : (b : Bool) → (b ≡ true) ⊎ (b ≡ false)
true_or_false true = inl refl
true_or_false false = inr refl

pub has_same : (s : List Bool) (c : ℕ) → c < length s → has (with_call s c) c ≡ true
has_same s c h = get_or-set_same s c true false h

pub has_other : (s : List Bool) (c a : ℕ) → a ≢ c → has (with_call s c) a ≡ has s a
has_other s c a ne = get_or-set_other s c a true false ne

pub has_still : (s : List Bool) (c a : ℕ) → c < length s → has s a ≡ true → has (with_call s c) a ≡ true
has_still s c a h e = elim (same_or_not a c) [ inl q ↦ rw q (has_same s c h) | inr ne ↦ has_other s c a ne ∙ e ]

pub has_with : (s : List Bool) (c a : ℕ) → has (with_call s c) a ≡ true → (a ≡ c) ⊎ (has s a ≡ true)
has_with s c a e = elim (same_or_not a c) [ inl q ↦ inl q | inr ne ↦ inr (sym (has_other s c a ne) ∙ e) ]

-- the calls of two lists, one after the other
pub with_append : (set : List Bool) (l m : List ℕ) → with_calls set (l ++ m) ≡ with_calls (with_calls set l) m
with_append set [] m = refl
with_append set (c ∷ cs) m = with_append (with_call set c) cs m

pub length_calls : (set : List Bool) (l : List ℕ) → length (with_calls set l) ≡ length set
length_calls set [] = refl
length_calls set (c ∷ l) = length_calls (with_call set c) l ∙ length-set set c true

-- a set with no call
pub no_calls_has : (n c : ℕ) → has (replicate n false) c ≡ false
no_calls_has zero c = refl
no_calls_has (suc n) zero = refl
no_calls_has (suc n) (suc c) = no_calls_has n c
