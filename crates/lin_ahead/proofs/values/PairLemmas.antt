-- Some two calls need each other exactly where the pass over them in order finds them.
use Rattle.std.proofs.Common.{◌≡◌, ◌≢◌, ℕ, zero, suc, ◌<◌, ◌≤◌, Bool, true, false, List, [], ◌∷◌, length, get_or, ◌⊎◌, inl, inr, refl, sym, ◌∙◌, ap, subst, arith, ◌||◌, ◌&&◌}
use Rattle.std.specs.Prelude.{⊤, nat_lt, if◌then◌else◌}
use Rattle.std.specs.List.{list_any, swap}
use Rattle.std.specs.List.Sorted.{IsPermutation, IsNonDecreasingBy}
use Rattle.std.proofs.lemmas.Bool.{ltb-true, ltb-false, lt-ltb}
use Rattle.std.proofs.lemmas.List.Edits.{Swapped, swapped_from_swap, length-swap}
use Rattle.std.proofs.lemmas.List.Sorted.{IsPermutation-keeps, IsPermutation-sym}
use Rattle.lin_ahead.specs.declared.values.needed_pairs.CallNumbers.{CallNumbers}
use Rattle.lin_ahead.specs.Values.NeededPairs.{need_each_other, some_pair, with_needs, number_by, last_of}

-- ---- two calls

abbrev pub Both : CallNumbers → CallNumbers → Type 0
Both a b = (a.by < b.from) × (b.by < a.from)

and_both : (x y : Bool) → (x && y) ≡ true → (x ≡ true) × (y ≡ true)
and_both true true e = (refl, refl)
and_both true false e = absurd (cc)
and_both false y e = absurd (cc)

pub both_are : (a b : CallNumbers) → need_each_other a b ≡ true → Both a b
both_are a b e = let k = and_both (nat_lt a.by b.from) (nat_lt b.by a.from) e in (ltb-true a.by b.from k.0, ltb-true b.by a.from k.1)

pub both_told : (a b : CallNumbers) → Both a b → need_each_other a b ≡ true
both_told a b h = rw (lt-ltb a.by b.from h.0, lt-ltb b.by a.from h.1) refl

not_both : (a b : CallNumbers) → (Both a b → ⊥) → need_each_other a b ≡ false
not_both a b h = go (need_each_other a b) refl
  where
    go : (x : Bool) → need_each_other a b ≡ x → need_each_other a b ≡ false
    go true e = absurd (h (both_are a b e))
    go false e = e

false_not : (a b : CallNumbers) → need_each_other a b ≡ false → Both a b → ⊥
false_not a b e h = (let f = both_told a b h in cc)

or_false : (x y : Bool) → (x || y) ≡ false → (x ≡ false) × (y ≡ false)
or_false false false e = (refl, refl)
or_false false true e = absurd (cc)
or_false true y e = absurd (cc)

or_none : (x y : Bool) → x ≡ false → y ≡ false → (x || y) ≡ false
or_none x y e f = rw (e, f) refl

-- ---- no two

-- in no two places of the list stand two that need each other
abbrev pub NoPair : List CallNumbers → Type 0
NoPair l = (i j : ℕ) (d : CallNumbers) → i < length l → j < length l → i ≢ j → Both (get_or l i d) (get_or l j d) → ⊥

none_with : (c : CallNumbers) (cs : List CallNumbers) → list_any (need_each_other c) cs ≡ false → (j : ℕ) (d : CallNumbers) → j < length cs → Both c (get_or cs j d) → ⊥
none_with c [] e j d h both = omega (arith, h)
none_with c (x ∷ cs) e zero d h both = false_not c x (or_false (need_each_other c x) (list_any (need_each_other c) cs) e).0 both
none_with c (x ∷ cs) e (suc j) d h both = none_with c cs (or_false (need_each_other c x) (list_any (need_each_other c) cs) e).1 j d (omega (arith, h)) both

with_none : (c : CallNumbers) (cs : List CallNumbers) → ((j : ℕ) (d : CallNumbers) → j < length cs → Both c (get_or cs j d) → ⊥) → list_any (need_each_other c) cs ≡ false
with_none c [] h = refl
with_none c (x ∷ cs) h = or_none (need_each_other c x) (list_any (need_each_other c) cs) (not_both c x (h 0 c (omega arith))) (with_none c cs (λ j d less both. h (suc j) d (omega (arith, less)) both))

pub no_pair_is : (l : List CallNumbers) → some_pair l ≡ false → NoPair l
no_pair_is [] e i j d h k other both = omega (arith, h)
no_pair_is (c ∷ cs) e zero zero d h k other both = other refl
no_pair_is (c ∷ cs) e zero (suc j) d h k other both = none_with c cs (or_false (list_any (need_each_other c) cs) (some_pair cs) e).0 j d (omega (arith, k)) both
no_pair_is (c ∷ cs) e (suc i) zero d h k other both = none_with c cs (or_false (list_any (need_each_other c) cs) (some_pair cs) e).0 i d (omega (arith, h)) (both.1, both.0)
no_pair_is (c ∷ cs) e (suc i) (suc j) d h k other both = no_pair_is cs (or_false (list_any (need_each_other c) cs) (some_pair cs) e).1 i j d (omega (arith, h)) (omega (arith, k)) (λ s. other (ap suc s)) both

pub no_pair_told : (l : List CallNumbers) → NoPair l → some_pair l ≡ false
no_pair_told [] h = refl
no_pair_told (c ∷ cs) h =
    or_none (list_any (need_each_other c) cs) (some_pair cs)
    (with_none c cs (λ j d less both. h 0 (suc j) d (omega arith) (omega (arith, less)) (λ s. omega (arith, s)) both))
    (no_pair_told cs (λ i j d a b other both. h (suc i) (suc j) d (omega (arith, a)) (omega (arith, b)) (λ s. other (omega (arith, s))) both))

-- ---- the same list in another order

-- where a place was before an exchange of two
abbrev Was : ℕ → ℕ → ℕ → ℕ → Type 0
Was a b i k = ((i ≡ a) × (k ≡ b)) ⊎ (((i ≡ b) × (k ≡ a)) ⊎ ((i ≢ a) × (i ≢ b) × (k ≡ i)))

was_one : (a b i j k m : ℕ) → Was a b i k → Was a b j m → k ≡ m → i ≡ j
was_one a b i j k m (inl g) (inl h) e = let p = g.0 in let q = h.0 in omega (arith, p, q)
was_one a b i j k m (inl g) (inr (inl h)) e = let p = g.0 in let q = h.0 in let r = g.1 in let s = h.1 in omega (arith, p, q, r, s, e)
was_one a b i j k m (inl g) (inr (inr h)) e = let r = g.1 in let s = h.2 in absurd (h.1 (omega (arith, r, s, e)))
was_one a b i j k m (inr (inl g)) (inl h) e = let p = g.0 in let q = h.0 in let r = g.1 in let s = h.1 in omega (arith, p, q, r, s, e)
was_one a b i j k m (inr (inl g)) (inr (inl h)) e = let p = g.0 in let q = h.0 in omega (arith, p, q)
was_one a b i j k m (inr (inl g)) (inr (inr h)) e = let r = g.1 in let s = h.2 in absurd (h.0 (omega (arith, r, s, e)))
was_one a b i j k m (inr (inr g)) (inl h) e = let r = g.2 in let s = h.1 in absurd (g.1 (omega (arith, r, s, e)))
was_one a b i j k m (inr (inr g)) (inr (inl h)) e = let r = g.2 in let s = h.1 in absurd (g.0 (omega (arith, r, s, e)))
was_one a b i j k m (inr (inr g)) (inr (inr h)) e = let r = g.2 in let s = h.2 in omega (arith, r, s, e)

same_or_not : (a b : ℕ) → (a ≡ b) ⊎ (a ≢ b)
same_or_not a b = grind arith

was : (f g : ℕ → CallNumbers) (n a b i : ℕ) → a < n → b < n → i < n → Swapped f g a b → (k : ℕ) × (k < n) × Was a b i k × (g i ≡ f k)
was f g n a b i u v w s = elim (same_or_not i a) [
  | inl p ↦ (b, v, inl (p, refl), ap g p ∙ s.0)
  | inr p ↦ elim (same_or_not i b) [
    | inl q ↦ (a, u, inr (inl (q, refl)), ap g q ∙ s.1)
    | inr q ↦ (i, w, inr (inr (p, q, refl)), s.2 i p q)
  ]
]

pub both_at : (a b c d : CallNumbers) → a ≡ c → b ≡ d → Both a b → Both c d
both_at a b c d e f h = subst (λ (x : CallNumbers). Both c x) f (subst (λ (x : CallNumbers). Both x b) e h)

no_pair_swapped : (l : List CallNumbers) (a b : ℕ) → a < length l → b < length l → NoPair l → NoPair (swap l a b)
no_pair_swapped l a b u v none i j d h k other both =
    let n : length (swap l a b) ≡ length l = length-swap l a b in
    let s : Swapped (λ i. get_or l i d) (λ i. get_or (swap l a b) i d) a b = swapped_from_swap l (swap l a b) a b d u v refl in
    let p = was (λ i. get_or l i d) (λ i. get_or (swap l a b) i d) (length l) a b i u v (omega (arith, h, n)) s in
    let q = was (λ i. get_or l i d) (λ i. get_or (swap l a b) i d) (length l) a b j u v (omega (arith, k, n)) s in
    none p.0 q.0 d p.1 q.1 (λ e. other (was_one a b i j p.0 q.0 p.2 q.2 e)) (both_at (get_or (swap l a b) i d) (get_or (swap l a b) j d) (get_or l p.0 d) (get_or l q.0 d) p.3 q.3 both)

no_pair_moved : (l s : List CallNumbers) → IsPermutation l s → NoPair l → NoPair s
no_pair_moved l s moved none = IsPermutation-keeps l NoPair none no_pair_swapped s moved

pair_moved : (l s : List CallNumbers) → IsPermutation l s → some_pair s ≡ some_pair l
pair_moved l s moved = go (some_pair l) refl (some_pair s) refl
  where
    go : (x : Bool) → some_pair l ≡ x → (y : Bool) → some_pair s ≡ y → some_pair s ≡ some_pair l
    go true e true f = f ∙ sym e
    go false e y f = no_pair_told s (no_pair_moved l s moved (no_pair_is l e)) ∙ sym e
    go true e false f = absurd (let g = no_pair_told l (no_pair_moved s l (IsPermutation-sym l s moved) (no_pair_is s f)) in cc)

-- ---- calls that need no other are in no pair

needs_none : (c d : CallNumbers) → nat_lt 0 d.from ≡ false → need_each_other c d ≡ false
needs_none c d e = not_both c d (λ h. (let f = ltb-false 0 d.from e in let g = h.0 in omega (arith, f, g)))

none_needs : (d : CallNumbers) (cs : List CallNumbers) → nat_lt 0 d.from ≡ false → list_any (need_each_other d) cs ≡ false
none_needs d [] e = refl
none_needs d (c ∷ cs) e = or_none (need_each_other d c) (list_any (need_each_other d) cs) (not_both d c (λ h. (let f = ltb-false 0 d.from e in let g = h.1 in omega (arith, f, g)))) (none_needs d cs e)

with_it : (c : CallNumbers) (cs : List CallNumbers) → list_any (need_each_other c) (with_needs cs) ≡ list_any (need_each_other c) cs
with_it c [] = refl
with_it c (d ∷ cs) = go (nat_lt 0 d.from) refl (with_it c cs)
  where
    go : (b : Bool) → nat_lt 0 d.from ≡ b → list_any (need_each_other c) (with_needs cs) ≡ list_any (need_each_other c) cs → list_any (need_each_other c) (if b then d ∷ with_needs cs else with_needs cs) ≡ list_any (need_each_other c) (d ∷ cs)
    go true e same = ap (λ (r : Bool). need_each_other c d || r) same
    go false e same = same ∙ sym (ap (λ (r : Bool). r || list_any (need_each_other c) cs) (needs_none c d e))

pub pair_with_needs : (cs : List CallNumbers) → some_pair (with_needs cs) ≡ some_pair cs
pair_with_needs [] = refl
pair_with_needs (d ∷ cs) = go (nat_lt 0 d.from) refl (pair_with_needs cs)
  where
    go : (b : Bool) → nat_lt 0 d.from ≡ b → some_pair (with_needs cs) ≡ some_pair cs → some_pair (if b then d ∷ with_needs cs else with_needs cs) ≡ some_pair (d ∷ cs)
    go true e same = ap (λ (r : Bool). r || some_pair (with_needs cs)) (with_it d cs) ∙ ap (λ (r : Bool). list_any (need_each_other d) cs || r) same
    go false e same = same ∙ sym (ap (λ (r : Bool). r || some_pair cs) (none_needs d cs e))

-- the numbers of all calls have a pair where those in order have one
pub pair_sorted : (all sorted : List CallNumbers) → IsPermutation (with_needs all) sorted → some_pair sorted ≡ some_pair all
pair_sorted all sorted moved = pair_moved (with_needs all) sorted moved ∙ pair_with_needs all

-- ---- the pass in order

-- no number 'by' is less than the one before it, and none is less than this
abbrev Rise : ℕ → List CallNumbers → Type 0
Rise n [] = ⊤
Rise n (c ∷ cs) = (n ≤ c.by) × Rise c.by cs

rise_from : (n : ℕ) (cs : List CallNumbers) → IsNonDecreasingBy number_by cs → ((d : CallNumbers) → 0 < length cs → n ≤ (get_or cs zero d).by) → Rise n cs
rise_from n [] up first = tt
rise_from n (c ∷ cs) up first = (
  first c (omega arith),
  rise_from c.by cs (λ i j d le lt. up (suc i) (suc j) d (omega (arith, le)) (omega (arith, lt))) (λ d lt. up zero (suc zero) d (omega arith) (omega (arith, lt))),
)

pub rise : (cs : List CallNumbers) → IsNonDecreasingBy number_by cs → Rise 0 cs
rise cs up = rise_from 0 cs up (λ d lt. omega arith)

rise_less : (m n : ℕ) (cs : List CallNumbers) → m ≤ n → Rise n cs → Rise m cs
rise_less m n [] less r = tt
rise_less m n (c ∷ cs) less r = (let h = r.0 in omega (arith, less, h), r.1)

at_least : (n : ℕ) (cs : List CallNumbers) → Rise n cs → (j : ℕ) (d : CallNumbers) → j < length cs → n ≤ (get_or cs j d).by
at_least n [] r j d h = omega (arith, h)
at_least n (c ∷ cs) r zero d h = r.0
at_least n (c ∷ cs) r (suc j) d h = (let low = at_least c.by cs r.1 j d (omega (arith, h)) in let first = r.0 in omega (arith, low, first))

-- what the pass finds from the last call that may be in a pair on
abbrev pub found_from : CallNumbers → List CallNumbers → Bool
found_from last [] = false
found_from last (c ∷ cs) = need_each_other last c || found_from (last_of last c) cs

pub or_left : (x y : Bool) → x ≡ true → (x || y) ≡ true
or_left x y e = rw e refl

pub or_right : (x y : Bool) → y ≡ true → (x || y) ≡ true
or_right true y e = refl
or_right false y e = e

or_either : (x y : Bool) → (x || y) ≡ true → (x ≡ true) ⊎ (y ≡ true)
or_either true y e = inl refl
or_either false y e = inr e

-- where the pass finds nothing, neither the last call nor two of those to come are a pair
abbrev Nothing : CallNumbers → List CallNumbers → Type 0
Nothing last cs = (list_any (need_each_other last) cs ≡ false) × (some_pair cs ≡ false)

nothing_behind : (last c : CallNumbers) (cs : List CallNumbers) → last.by ≤ c.by → Rise c.by cs → need_each_other last c ≡ false → (b : Bool) → nat_lt c.by c.from ≡ b → Nothing (if b then c else last) cs → Nothing last (c ∷ cs)
nothing_behind last c cs low up e true is k = (
  or_none (need_each_other last c) (list_any (need_each_other last) cs) e (with_none last cs (λ j d h both. (
      let later = at_least c.by cs up j d h in
      let long = ltb-true c.by c.from is in
      let under = both.1 in
      false_not last c e (omega (arith, low, long), omega (arith, later, under))))),
  or_none (list_any (need_each_other c) cs) (some_pair cs) k.0 k.1,
)
nothing_behind last c cs low up e false is k = (
  or_none (need_each_other last c) (list_any (need_each_other last) cs) e k.0,
  or_none (list_any (need_each_other c) cs) (some_pair cs) (with_none c cs (λ j d h both. (
      let later = at_least c.by cs up j d h in
      let short = ltb-false c.by c.from is in
      let under = both.1 in
      omega (arith, later, short, under)))) k.1,
)

rise_last : (last c : CallNumbers) (cs : List CallNumbers) → last.by ≤ c.by → Rise c.by cs → (b : Bool) → Rise (if b then c else last).by cs
rise_last last c cs low up true = up
rise_last last c cs low up false = rise_less last.by c.by cs low up

none_found : (last : CallNumbers) (cs : List CallNumbers) → Rise last.by cs → found_from last cs ≡ false → Nothing last cs
none_found last [] up e = (refl, refl)
none_found last (c ∷ cs) up e =
    let k = or_false (need_each_other last c) (found_from (last_of last c) cs) e in
    nothing_behind last c cs up.0 up.1 k.0 (nat_lt c.by c.from) refl (none_found (last_of last c) cs (rise_last last c cs up.0 up.1 (nat_lt c.by c.from)) k.1)

-- and what it finds is there
abbrev Something : CallNumbers → List CallNumbers → Type 0
Something last cs = (list_any (need_each_other last) cs ≡ true) ⊎ (some_pair cs ≡ true)

something_behind : (last c : CallNumbers) (cs : List CallNumbers) (b : Bool) → Something (if b then c else last) cs → Something last (c ∷ cs)
something_behind last c cs true (inl q) = inr (or_left (list_any (need_each_other c) cs) (some_pair cs) q)
something_behind last c cs true (inr q) = inr (or_right (list_any (need_each_other c) cs) (some_pair cs) q)
something_behind last c cs false (inl q) = inl (or_right (need_each_other last c) (list_any (need_each_other last) cs) q)
something_behind last c cs false (inr q) = inr (or_right (list_any (need_each_other c) cs) (some_pair cs) q)

some_found : (last : CallNumbers) (cs : List CallNumbers) → found_from last cs ≡ true → Something last cs
some_found last [] e = absurd (cc)
some_found last (c ∷ cs) e = elim (or_either (need_each_other last c) (found_from (last_of last c) cs) e) [
  | inl q ↦ inl (or_left (need_each_other last c) (list_any (need_each_other last) cs) q)
  | inr q ↦ something_behind last c cs (nat_lt c.by c.from) (some_found (last_of last c) cs q)
]

-- the pass from nothing on finds a pair exactly where there is one
pub pass_is : (none : CallNumbers) → none.by ≡ 0 → none.from ≡ 0 → (cs : List CallNumbers) → IsNonDecreasingBy number_by cs → found_from none cs ≡ some_pair cs
pass_is none e f cs up = go (found_from none cs) refl
  where
    go : (b : Bool) → found_from none cs ≡ b → found_from none cs ≡ some_pair cs
    go true is = elim (some_found none cs is) [
      | inl q ↦ absurd (let long : nat_lt 0 none.from ≡ false = rw f refl in let h = none_needs none cs long in cc)
      | inr q ↦ is ∙ sym q
    ]
    go false is = is ∙ sym (none_found none cs (rise_less none.by 0 cs (omega (arith, e)) (rise cs up)) is).1
