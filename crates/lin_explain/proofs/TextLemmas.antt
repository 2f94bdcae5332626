-- Lines behind lines.
use Rattle.std.proofs.Common.{◌≡◌, ℕ, List, ◌++◌, append_assoc, ◌∙◌, ap, refl}

-- what is written behind what was written is written behind what stood there
pub behind_both : (old mid new a b : List ℕ) → mid ≡ old ++ a → new ≡ mid ++ b → new ≡ old ++ (a ++ b)
behind_both old mid new a b first second = second ∙ ap (λ (l : List ℕ). l ++ b) first ∙ append_assoc old a b

-- three of them
pub three_behind : (old a b c one two new : List ℕ) → one ≡ old ++ a → two ≡ one ++ b → new ≡ two ++ c → new ≡ old ++ (a ++ b ++ c)
three_behind old a b c one two new first second third = rw (third, second, first) (simp append_assoc refl)

-- four of them
pub four_behind : (old a b c d one two three new : List ℕ) → one ≡ old ++ a → two ≡ one ++ b → three ≡ two ++ c → new ≡ three ++ d → new ≡ old ++ (a ++ b ++ c ++ d)
four_behind old a b c d one two three new first second third fourth = rw (fourth, third, second, first) (simp append_assoc refl)

-- six of them, of which the middle ones are pairs
pub six_behind : (old a b c d e f one two three four five new : List ℕ) → one ≡ old ++ a → two ≡ one ++ b → three ≡ two ++ c → four ≡ three ++ d → five ≡ four ++ e → new ≡ five ++ f
    → new ≡ old ++ (a ++ (b ++ c) ++ (d ++ e) ++ f)
six_behind old a b c d e f one two three four five new p q r s t u = rw (u, t, s, r, q, p) (simp append_assoc refl)
