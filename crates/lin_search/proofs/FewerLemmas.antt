-- What the words of two sets say of a further one.
use Rattle.std.proofs.Common.{◌≡◌, ℕ, ◌+◌, ◌/◌, ◌%◌, ◌≤◌, ◌-◌, ◌^◌, length, true≢false, Bool, false, eqb, eqb-true, eq-eqb, List, ◌⊎◌, inl, inr, sym, ◌∙◌, ap, subst, arith}
use Rattle.std.specs.Prelude.{max, min, bit_or}
use Rattle.std.specs.Int.{bit_at}
use Rattle.std.proofs.lemmas.Bool.{cases_eq}
use Rattle.std.proofs.lemmas.Nat.Bits.{bit_at_or, bit_at-lt, bit_at-zero}
use Rattle.std.proofs.lemmas.List.{get_or_past}
use Rattle.lin_history.specs.declared.limits.TheConstants.{MAX_CALLS_ON_OBJECT}
use Rattle.lin_search.specs.Window.{word_at, has_bit, IsCallSet}
use Rattle.lin_search.proofs.WindowLemmas.{word_at_kept}
use Rattle.lin_history.specs.Problems.Continuations.{has}
use Rattle.lin_search.specs.FewerCalls.{IsFewerAt, IsFewerWord}

pub fewer_word : (a b of : ℕ) → bit_or a b ≡ b → bit_or b (bit_or a of) ≡ bit_or a of → IsFewerWord a b of
fewer_word a b of one two k =
    let x : bit_at b k ≡ max (bit_at a k) (bit_at b k) = ap (λ w. bit_at w k) (sym one) ∙ bit_at_or a b k in
    let y : bit_at (bit_or a of) k ≡ max (bit_at b k) (bit_at (bit_or a of) k) = ap (λ w. bit_at w k) (sym two) ∙ bit_at_or b (bit_or a of) k in
    let z : bit_at (bit_or a of) k ≡ max (bit_at a k) (bit_at of k) = bit_at_or a of k in
    let sa = bit_at-lt a k in let sb = bit_at-lt b k in let so = bit_at-lt of k in
    record {
      more = λ h. omega (arith, x, h, sb);
      within = λ h. elim (cases_eq (bit_at a k) 1) [
        | inl e ↦ inl e
        | inr n ↦ inr (omega (arith, y, z, h, n, sa, so, sb))
      ];
    }

pub fewer_at : (a b of : List Bool) (c x y z : ℕ) → IsFewerWord x y z → eqb (bit_at x (c % 64)) 1 ≡ has a c → eqb (bit_at y (c % 64)) 1 ≡ has b c → eqb (bit_at z (c % 64)) 1 ≡ has of c → IsFewerAt a b of c
fewer_at a b of c x y z fewer xa yb zo = record {
  more = λ h. sym yb ∙ eq-eqb _ 1 ((fewer (c % 64)).more (eqb-true _ 1 (xa ∙ h)));
  within = λ h. elim ((fewer (c % 64)).within (eqb-true _ 1 (yb ∙ h))) [
    | inl e ↦ inl (sym xa ∙ eq-eqb _ 1 e)
    | inr e ↦ inr (sym zo ∙ eq-eqb _ 1 e)
  ];
}

pub none_fewer : (a b of : List Bool) (c : ℕ) → has a c ≡ false → has b c ≡ false → IsFewerAt a b of c
none_fewer a b of c x y = record { more = λ h. absurd (true≢false (sym h ∙ x)); within = λ h. absurd (true≢false (sym h ∙ y)) }

pub bit_of_word : (word : ℕ → ℕ) (c i w : ℕ) → c / 64 ≡ i → w ≡ word i → eqb (bit_at w (c % 64)) 1 ≡ has_bit word c
unfolding has_bit
bit_of_word word c i w e f = ap (λ n. eqb (bit_at n (c % 64)) 1) (f ∙ ap word (sym e))

-- behind the words there is no call
pub past_words : (full : ℕ) (words : List ℕ) (c : ℕ) → full + length words ≤ c / 64 → has_bit (word_at full words) c ≡ false
unfolding has_bit
past_words full words c h = rw (word_at_kept full words (c / 64) (omega arith) ∙ get_or_past words (c / 64 - full) 0 (omega arith)) (ap (λ x. eqb x 1) (bit_at-zero (c % 64)))

pub past_count : (calls full : ℕ) (words : List ℕ) (hash sum n c : ℕ) → IsCallSet calls full words hash sum → (full + length words ≤ n) ⊎ (2 ^ 64 - 1 ≤ n) → n ≤ c / 64 → has_bit (word_at full words) c ≡ false
past_count calls full words hash sum n c kept count h = elim count [
  | inl e ↦ past_words full words c (omega (arith, e, h))
  | inr e ↦ kept.window.within c (let f : calls ≤ MAX_CALLS_ON_OBJECT = kept.few in omega (arith, e, h, f))
]

min_or : (a m : ℕ) → (a ≤ min a m) ⊎ (m ≤ min a m)
min_or a m = grind arith

pub counted : (a m n : ℕ) → n ≡ min a m → (a ≤ n) ⊎ (m ≤ n)
counted a m n e = subst (λ (k : ℕ). (a ≤ k) ⊎ (m ≤ k)) (sym e) (min_or a m)
