-- The line of a call, written in parts.
use Rattle.std.proofs.Common.{◌≡◌, ℕ, List, ◌++◌, refl, append_assoc}
use Rattle.std.specs.Prelude.{codes}

-- What was written part by part is the line.
pub line_of_parts : (place process name op reply mark : List ℕ) (s0 s1 s2 s3 s4 s5 s6 : List ℕ)
    → s1 ≡ s0 ++ place → s2 ≡ s1 ++ codes " " → s3 ≡ s2 ++ (process ++ codes " " ++ name ++ codes " " ++ op) → s4 ≡ s3 ++ codes " = " → s5 ≡ s4 ++ reply → s6 ≡ s5 ++ (mark ++ codes "\n")
    → s6 ≡ s0 ++ (place ++ codes " " ++ (process ++ codes " " ++ name ++ codes " " ++ op) ++ codes " = " ++ reply ++ mark ++ codes "\n")
line_of_parts place process name op reply mark s0 s1 s2 s3 s4 s5 s6 a b c d e f = rw (f, e, d, c, b, a) (simp append_assoc refl)

-- The same of a call that is in no order.
pub dropped_of_parts : (process name op : List ℕ) (s0 s1 s2 s3 : List ℕ) → s1 ≡ s0 ++ codes "dropped " → s2 ≡ s1 ++ (process ++ codes " " ++ name ++ codes " " ++ op) → s3 ≡ s2 ++ codes "\n"
    → s3 ≡ s0 ++ (codes "dropped " ++ (process ++ codes " " ++ name ++ codes " " ++ op) ++ codes "\n")
dropped_of_parts process name op s0 s1 s2 s3 a b c = rw (c, b, a) (simp append_assoc refl)
