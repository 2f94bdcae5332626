-- Lists of calls in lexicographic order, by their last call.
use Rattle.std.proofs.Common.{◌≡◌, ◌≢◌, ℕ, ◌+◌, ◌<◌, ◌≤◌, List, [], ◌∷◌, ◌++◌, length, ◌⊎◌, inl, inr, refl, ◌∙◌, ap, arith}
use Rattle.lin_history.specs.Problems.Lists.{IsUpTo}

pub up_to_itself : (l : List ℕ) → IsUpTo l l
up_to_itself [] = tt
up_to_itself (c ∷ l) = inr (refl, up_to_itself l)

pub up_to_chain : (a b c : List ℕ) → IsUpTo a b → IsUpTo b c → IsUpTo a c
up_to_chain [] b c x y = tt
up_to_chain (i ∷ a) [] c x y = absurd x
up_to_chain (i ∷ a) (j ∷ b) [] x y = absurd y
up_to_chain (i ∷ a) (j ∷ b) (k ∷ c) x y = elim x [
  | inl q ↦ elim y [ inl r ↦ inl (omega (arith, q, r)) | inr r ↦ (let e = r.0 in inl (omega (arith, q, e))) ]
  | inr q ↦ elim y [ inl r ↦ (let e = q.0 in inl (omega (arith, e, r))) | inr r ↦ inr (q.0 ∙ r.0, up_to_chain a b c q.1 r.1) ]
]

pub up_to_both : (a b : List ℕ) → IsUpTo a b → IsUpTo b a → a ≡ b
up_to_both [] [] x y = refl
up_to_both [] (j ∷ b) x y = absurd y
up_to_both (i ∷ a) [] x y = absurd x
up_to_both (i ∷ a) (j ∷ b) x y = elim x [
  | inl q ↦ absurd (elim y [ inl r ↦ omega (arith, q, r) | inr r ↦ (let e = r.0 in omega (arith, q, e)) ])
  | inr q ↦ elim y [ inl r ↦ absurd (let e = q.0 in omega (arith, e, r)) | inr r ↦ (let e = q.0 in let t = up_to_both a b q.1 r.1 in rw (e, t) refl) ]
]

-- lists of one length, of which the first is before the second, stay so whatever call follows each
pub up_to_last : (a b : List ℕ) (x y : ℕ) → length a ≡ length b → IsUpTo a b → a ≢ b → IsUpTo (a ++ x ∷ []) (b ++ y ∷ [])
up_to_last [] [] x y e k ne = absurd (ne refl)
up_to_last [] (j ∷ b) x y e k ne = absurd (omega (arith, e))
up_to_last (i ∷ a) [] x y e k ne = absurd k
up_to_last (i ∷ a) (j ∷ b) x y e k ne = elim k [
  | inl q ↦ inl q
  | inr q ↦ inr (q.0, up_to_last a b x y (omega (arith, e)) q.1 (λ h. ne (let f = q.0 in rw (f, h) refl)))
]

pub up_to_call : (a : List ℕ) (x y : ℕ) → x ≤ y → IsUpTo (a ++ x ∷ []) (a ++ y ∷ [])
up_to_call [] x y h = elim (order x y h) [ inl q ↦ inl q | inr q ↦ inr (q, tt) ]
  where
    order : (x y : ℕ) → x ≤ y → (x < y) ⊎ (x ≡ y)
    order x y h = grind arith
up_to_call (i ∷ a) x y h = inr (refl, up_to_call a x y h)

-- two lists, of which the first parts are as long and in order, and the rests are where the first parts are one
pub up_to_parts : (a b c d : List ℕ) → length a ≡ length b → IsUpTo a b → (a ≡ b → IsUpTo c d) → IsUpTo (a ++ c) (b ++ d)
up_to_parts [] [] c d e h k = k refl
up_to_parts [] (y ∷ b) c d e h k = absurd (omega (arith, e))
up_to_parts (x ∷ a) [] c d e h k = absurd h
up_to_parts (x ∷ a) (y ∷ b) c d e h k = elim h [
  | inl q ↦ inl q
  | inr q ↦ inr (q.0, up_to_parts a b c d (omega (arith, e)) q.1 (λ f. k (let g = q.0 in rw (g, f) refl)))
]

-- the front and the last call of a list
pub last_same : (a b : List ℕ) (x y : ℕ) → a ++ x ∷ [] ≡ b ++ y ∷ [] → (a ≡ b) × (x ≡ y)
last_same [] [] x y e = (refl, cc)
last_same [] (j ∷ b) x y e = absurd (none b y (tails e))
  where
    tails : x ∷ [] ≡ j ∷ (b ++ y ∷ []) → [] ≡ b ++ y ∷ []
    tails e = cc

    none : (b : List ℕ) (y : ℕ) → [] ≡ b ++ y ∷ [] → ⊥
    none [] y e = cc
    none (j ∷ b) y e = cc
last_same (i ∷ a) [] x y e = absurd (none a x (tails e))
  where
    tails : i ∷ (a ++ x ∷ []) ≡ y ∷ [] → a ++ x ∷ [] ≡ []
    tails e = cc

    none : (a : List ℕ) (x : ℕ) → a ++ x ∷ [] ≡ [] → ⊥
    none [] x e = cc
    none (j ∷ a) x e = cc
last_same (i ∷ a) (j ∷ b) x y e =
    let h : i ≡ j = cc in
    let t : a ++ x ∷ [] ≡ b ++ y ∷ [] = cc in
    let r = last_same a b x y t in
    let r0 = r.0 in (rw (h, r0) refl, r.1)

-- a list that is not empty has a last call
pub last_of : (l : List ℕ) (n : ℕ) → length l ≡ n + 1 → (a : List ℕ) × (x : ℕ) × (l ≡ a ++ x ∷ []) × (length a ≡ n)
last_of [] n e = absurd (omega (arith, e))
last_of (x ∷ []) n e = ([], x, refl, omega (arith, e))
last_of (x ∷ y ∷ l) n e =
    let r = last_of (y ∷ l) (length l) (omega arith) in
    let r1 = r.2 in let r2 = r.3 in
    (x ∷ r.0, r.1, ap (λ (t : List ℕ). x ∷ t) r1, omega (arith, r2, e))
