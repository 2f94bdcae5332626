-- Lists of calls, as the loops build them.
use Rattle.std.proofs.Common.{◌≡◌, ℕ, zero, suc, ◌+◌, ◌<◌, ◌≤◌, List, [], ◌∷◌, ◌++◌, length, take, drop, get_or, ◌⊎◌, inl, inr, refl, sym, ◌∙◌, ap, subst, append_assoc, append-nil, arith, ◌≢◌, Bool, true, false, set, get_or-set_other}
use Rattle.std.proofs.lemmas.Bool.{cases_lt}
use Rattle.lin_history.specs.Problems.Lists.{In, IsDistinct}
use Rattle.lin_history.specs.Problems.ListLemmas.{in_early, in_either, in_late}
use Rattle.lin_parts.specs.Parts.{IsRising, IsFilled, named}
use Rattle.lin_parts.specs.PartLemmas.{named_append}

-- ---- from an index on

pub drop_at : (l : List ℕ) (i : ℕ) → i < length l → drop i l ≡ get_or l i 0 ∷ drop (i + 1) l
drop_at [] i h = absurd (omega (arith, h))
drop_at (c ∷ l) zero h = refl
drop_at (c ∷ l) (suc i) h = let e : suc i + 1 ≡ suc (i + 1) = omega arith in rw e (drop_at l i (omega (arith, h)))

pub drop_none : (l : List ℕ) (i : ℕ) → length l ≤ i → drop i l ≡ []
drop_none [] zero h = refl
drop_none [] (suc i) h = refl
drop_none (c ∷ l) zero h = absurd (omega (arith, h))
drop_none (c ∷ l) (suc i) h = drop_none l i (omega (arith, h))

pub in_drop : (l : List ℕ) (i c : ℕ) → i < length l → (c ≡ get_or l i 0 → ⊥) → In c (drop i l) → In c (drop (i + 1) l)
in_drop l i c h other there = elim (subst (λ (x : List ℕ). In c x) (drop_at l i h) there) [ inl e ↦ absurd (other e) | inr more ↦ more ]

pub in_at : (l : List ℕ) (i : ℕ) → i < length l → In (get_or l i 0) l
in_at [] i h = absurd (omega (arith, h))
in_at (c ∷ l) zero h = inl refl
in_at (c ∷ l) (suc i) h = inr (in_at l i (omega (arith, h)))

pub in_none : (l : List ℕ) (i c : ℕ) → length l ≤ i → In c (drop i l) → ⊥
in_none l i c h there = subst (λ (x : List ℕ). In c x) (drop_none l i h) there

pub take_one : (l : List ℕ) (i : ℕ) → i < length l → take (i + 1) l ≡ take i l ++ get_or l i 0 ∷ []
take_one [] i h = absurd (omega (arith, h))
take_one (c ∷ l) zero h = refl
take_one (c ∷ l) (suc i) h = let e : suc i + 1 ≡ suc (i + 1) = omega arith in rw e (ap (λ (x : List ℕ). c ∷ x) (take_one l i (omega (arith, h))))

pub named_one : (kept l : List ℕ) (i n : ℕ) → i < length l → n ≡ get_or kept (get_or l i 0) 0 → named kept (take i l) ++ n ∷ [] ≡ named kept (take (i + 1) l)
named_one kept l i n h e =
    sym (ap (named kept) (take_one l i h) ∙ named_append kept (take i l) (get_or l i 0 ∷ []) ∙ ap (λ (x : ℕ). named kept (take i l) ++ x ∷ []) (sym e))

-- ---- rising lists

pub rising_more : (l : List ℕ) (c : ℕ) → IsRising l → ((d : ℕ) → In d l → d < c) → IsRising (l ++ c ∷ [])
rising_more [] c r below = ((λ d h. absurd h), tt)
rising_more (x ∷ xs) c r below = (
  (λ d h. elim (in_either d xs (c ∷ []) h) [ inl a ↦ r.0 d a | inr (inl e) ↦ (let less = below x (inl refl) in omega (arith, e, less)) | inr (inr none) ↦ absurd none ]),
  rising_more xs c r.1 (λ d h. below d (inr h)),
)

pub rising_distinct : (l : List ℕ) → IsRising l → IsDistinct l
rising_distinct [] r = tt
rising_distinct (x ∷ xs) r = ((λ h. (let less = r.0 x h in omega (arith, less))), rising_distinct xs r.1)

pub in_more : (l : List ℕ) (c d n : ℕ) → ((b : ℕ) → In b l → b < n) → d ≡ n → In c (l ++ d ∷ []) → c < n + 1
in_more l c d n below e h = elim (in_either c l (d ∷ []) h) [
  | inl a ↦ (let less = below c a in omega (arith, less))
  | inr (inl f) ↦ omega (arith, e, f)
  | inr (inr none) ↦ absurd none
]

pub last_or : (c n : ℕ) → c < n + 1 → (c < n) ⊎ (c ≡ n)
last_or c n h = elim (cases_lt c n) [ inl x ↦ inl x | inr x ↦ inr (omega (arith, x, h)) ]

-- ---- filled lists

pub filled_start : (l : List ℕ) → IsFilled 0 l l
filled_start l = record {
  rest = [];
  is = sym (append-nil l);
  rises = tt;
  below = λ c h. absurd h;
  each = λ c h. absurd (omega (arith, h));
  apart = λ c h. absurd h;
}

pub filled_has : (n : ℕ) (l all : List ℕ) → In n l → IsFilled n l all → IsFilled (n + 1) l all
filled_has n l all there k = record {
  rest = k.rest;
  is = k.is;
  rises = k.rises;
  below = λ c h. (let less = k.below c h in omega (arith, less));
  each = λ c h. elim (last_or c n h) [ inl x ↦ k.each c x | inr x ↦ inl (rw x there) ];
  apart = k.apart;
}

pub filled_more : (n : ℕ) (l all new : List ℕ) → new ≡ all ++ n ∷ [] → (In n l → ⊥) → IsFilled n l all → IsFilled (n + 1) l new
filled_more n l all new e fresh k = record {
  rest = k.rest ++ n ∷ [];
  is = e ∙ ap (λ (x : List ℕ). x ++ n ∷ []) k.is ∙ append_assoc l k.rest (n ∷ []);
  rises = rising_more k.rest n k.rises k.below;
  below = λ c h. in_more k.rest c n n k.below refl h;
  each = λ c h. elim (last_or c n h) [
    | inl x ↦ elim (k.each c x) [ inl a ↦ inl a | inr a ↦ inr (in_early c k.rest (n ∷ []) a) ]
    | inr x ↦ inr (in_late c k.rest (n ∷ []) (inl x))
  ];
  apart = λ c h there. elim (in_either c k.rest (n ∷ []) h) [
    | inl a ↦ k.apart c a there
    | inr (inl x) ↦ fresh (subst (λ (y : ℕ). In y l) x there)
    | inr (inr none) ↦ none
  ];
}

-- ---- flags

pub flag_there : (xs : List Bool) (i : ℕ) (r : Bool) → i < length xs → r ≡ get_or xs i r → r ≡ true → get_or xs i false ≡ true
flag_there [] i r h e t = absurd (omega (arith, h))
flag_there (x ∷ xs) zero r h e t = sym e ∙ t
flag_there (x ∷ xs) (suc i) r h e t = flag_there xs i r (omega (arith, h)) e t

pub flag_set : (xs : List Bool) (i : ℕ) (l : List ℕ) → In i l → ((k : ℕ) → get_or xs k false ≡ true → In k l) → (k : ℕ) → get_or (set xs i true) k false ≡ true → In k l
flag_set xs i l there others k e = elim (cases_lt k i) [
  | inl less ↦ others k (let apart : k ≢ i = omega (arith, less) in sym (get_or-set_other xs i k true false apart) ∙ e)
  | inr more ↦ elim (cases_lt i k) [
    | inl less ↦ others k (let apart : k ≢ i = omega (arith, less) in sym (get_or-set_other xs i k true false apart) ∙ e)
    | inr same ↦ (let f : k ≡ i = omega (arith, more, same) in rw f there)
  ]
]

-- with the flag of one call more set, every call so far below n has its flag
pub flag_more : (xs : List Bool) (l : List ℕ) (i n : ℕ) → length xs ≡ n → i < length l → get_or l i 0 < n → ((k : ℕ) → In k (take i l) → k < n → get_or xs k false ≡ true) → (k : ℕ) → In k (take (i + 1) l) → k < n → get_or (set xs (get_or l i 0) true) k false ≡ true
flag_more xs l i n e h within flags k there below = elim (in_either k (take i l) (get_or l i 0 ∷ []) (subst (λ (x : List ℕ). In k x) (take_one l i h) there)) [
  | inl early ↦ elim (cases_lt k (get_or l i 0)) [
    | inl less ↦ (let other : k ≢ get_or l i 0 = omega (arith, less) in get_or-set_other xs (get_or l i 0) k true false other ∙ flags k early below)
    | inr more ↦ elim (cases_lt (get_or l i 0) k) [
      | inl less ↦ (let other : k ≢ get_or l i 0 = omega (arith, less) in get_or-set_other xs (get_or l i 0) k true false other ∙ flags k early below)
      | inr same ↦ own (omega (arith, more, same))
    ]
  ]
  | inr (inl same) ↦ own same
  | inr (inr none) ↦ absurd none
]
  where
    set_here : (ys : List Bool) (j : ℕ) → j < length ys → get_or (set ys j true) j false ≡ true
    set_here [] j less = absurd (omega (arith, less))
    set_here (y ∷ ys) zero less = refl
    set_here (y ∷ ys) (suc j) less = set_here ys j (omega (arith, less))

    own : k ≡ get_or l i 0 → get_or (set xs (get_or l i 0) true) k false ≡ true
    own same = subst (λ (j : ℕ). get_or (set xs (get_or l i 0) true) j false ≡ true) (sym same) (set_here xs (get_or l i 0) (omega (arith, e, within)))

-- a call whose number is beyond the flags needs none
pub flag_past : (xs : List Bool) (l : List ℕ) (i n : ℕ) → i < length l → n ≤ get_or l i 0 → ((k : ℕ) → In k (take i l) → k < n → get_or xs k false ≡ true) → (k : ℕ) → In k (take (i + 1) l) → k < n → get_or xs k false ≡ true
flag_past xs l i n h past flags k there below = elim (in_either k (take i l) (get_or l i 0 ∷ []) (subst (λ (x : List ℕ). In k x) (take_one l i h) there)) [
  | inl early ↦ flags k early below
  | inr (inl same) ↦ absurd (let b = below in omega (arith, b, past, same))
  | inr (inr none) ↦ absurd none
]

pub flag_not : (xs : List Bool) (i : ℕ) (r : Bool) → i < length xs → r ≡ get_or xs i r → r ≡ false → get_or xs i false ≡ false
flag_not [] i r h e t = absurd (omega (arith, h))
flag_not (x ∷ xs) zero r h e t = sym e ∙ t
flag_not (x ∷ xs) (suc i) r h e t = flag_not xs i r (omega (arith, h)) e t
