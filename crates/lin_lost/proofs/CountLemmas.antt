-- How many calls have an item: of a list of calls, and of some of their numbers.
use Rattle.std.proofs.Common.{◌≡◌, ℕ, zero, suc, ◌+◌, ◌<◌, ◌≤◌, Bool, true, false, Option, Some, None, List, [], ◌∷◌, length, ◌⊎◌, inl, inr, refl, sym, ◌∙◌, ap, subst, arith}
use Rattle.std.specs.Prelude.{ℤ, slice_get}
use Rattle.std.specs.Cmp.{signed_Decides}
use Rattle.std.proofs.lemmas.Option.{slice_get_within}
use Rattle.lin_object.specs.declared.op.Op.{Op}
use Rattle.lin_object.specs.declared.reply.Reply.{Reply}
use Rattle.lin_history.specs.declared.problems.problem.ProblemCall.{ProblemCall}
use Rattle.lin_history.specs.Problems.Lists.{In, IsDistinct}
use Rattle.lin_laws.specs.Counting.{counted, how_many}
use Rattle.lin_lost.specs.Counts.{is_of, how_often}

-- ---- how many of a list of numbers

swapped : (a b : Bool) (n : ℕ) → counted a (counted b n) ≡ counted b (counted a n)
swapped true true n = refl
swapped true false n = refl
swapped false true n = refl
swapped false false n = refl

module _ (is : ℕ → Bool) where
  -- the list without one of its calls
  without : (c : ℕ) (l : List ℕ) → In c l → (rest : List ℕ) × (how_many is l ≡ counted (is c) (how_many is rest)) × ((d : ℕ) → In d l → (d ≡ c) ⊎ In d rest)
  without c [] h = absurd h
  without c (d ∷ l) h = elim h [
    | inl same ↦ (
      l,
      ap (λ (x : ℕ). counted (is x) (how_many is l)) (sym same),
      λ e k. elim k [ inl q ↦ inl (q ∙ sym same) | inr q ↦ inr q ],
    )
    | inr there ↦ (let r = without c l there in (
      d ∷ r.0,
      ap (counted (is d)) r.1 ∙ swapped (is d) (is c) (how_many is r.0),
      λ e k. elim k [
        | inl q ↦ inr (inl q)
        | inr q ↦ elim (r.2 e q) [ inl f ↦ inl f | inr f ↦ inr (inr f) ]
      ],
    ))
  ]

  -- no more than in a list that has each of them
  at_most : (l m : List ℕ) → IsDistinct l → ((c : ℕ) → In c l → is c ≡ true → In c m) → how_many is l ≤ how_many is m
  at_most [] m d h = omega arith
  at_most (c ∷ l) m d h = go (is c) refl (λ (k : List ℕ). at_most l k d.1)
    where
      go : (b : Bool) → is c ≡ b → ((k : List ℕ) → ((a : ℕ) → In a l → is a ≡ true → In a k) → how_many is l ≤ how_many is k) → counted (is c) (how_many is l) ≤ how_many is m
      go false e less = subst (λ (b : Bool). counted b (how_many is l) ≤ how_many is m) (sym e) (less m (λ a k. h a (inr k)))
      go true e less =
          let r = without c m (h c (inl refl) e) in
          let rest = less r.0 (λ a k t. elim (r.2 a (h a (inr k) t)) [ inl same ↦ absurd (d.0 (subst (λ (x : ℕ). In x l) same k)) | inr more ↦ more ]) in
          let n : how_many is m ≡ how_many is r.0 + 1 = r.1 ∙ ap (λ (b : Bool). counted b (how_many is r.0)) e in
          subst (λ (b : Bool). counted b (how_many is l) ≤ how_many is m) (sym e) (omega (arith, rest, n))

-- ---- all numbers below one

abbrev up : List ℕ → List ℕ
up [] = []
up (c ∷ l) = suc c ∷ up l

abbrev numbers : ℕ → List ℕ
numbers zero = []
numbers (suc n) = zero ∷ up (numbers n)

in_up : (c : ℕ) (l : List ℕ) → In c l → In (suc c) (up l)
in_up c [] h = absurd h
in_up c (d ∷ l) h = elim h [ inl e ↦ inl (ap suc e) | inr more ↦ inr (in_up c l more) ]

not_zero : (l : List ℕ) → In zero (up l) → ⊥
not_zero [] h = h
not_zero (d ∷ l) h = elim h [ inl e ↦ absurd (omega (arith, e)) | inr more ↦ not_zero l more ]

of_up : (c : ℕ) (l : List ℕ) → In (suc c) (up l) → In c l
of_up c [] h = absurd h
of_up c (d ∷ l) h = elim h [ inl e ↦ inl (omega (arith, e)) | inr more ↦ inr (of_up c l more) ]

distinct_up : (l : List ℕ) → IsDistinct l → IsDistinct (up l)
distinct_up [] d = tt
distinct_up (c ∷ l) d = ((λ h. d.0 (of_up c l h)), distinct_up l d.1)

distinct_numbers : (n : ℕ) → IsDistinct (numbers n)
distinct_numbers zero = tt
distinct_numbers (suc n) = (not_zero (numbers n), distinct_up (numbers n) (distinct_numbers n))

in_numbers : (n c : ℕ) → c < n → In c (numbers n)
in_numbers zero c h = absurd (omega (arith, h))
in_numbers (suc n) zero h = inl refl
in_numbers (suc n) (suc c) h = inr (in_up c (numbers n) (in_numbers n c (omega (arith, h))))

many_up : (is : ℕ → Bool) (l : List ℕ) → how_many is (up l) ≡ how_many (λ (c : ℕ). is (suc c)) l
many_up is [] = refl
many_up is (c ∷ l) = ap (counted (is (suc c))) (many_up is l)

-- ---- how many of a list of calls

module _ (item : ProblemCall Op Reply → Option ℤ) (v : ℤ) where
  -- the call, if there is one, has the item
  abbrev pub has_item : Option (ProblemCall Op Reply) → Bool
  has_item None = false
  has_item (Some x) = is_of (item x) v

  -- how many of these calls have it
  abbrev pub often_in : List (ProblemCall Op Reply) → List ℕ → ℕ
  often_in calls l = how_many (λ (c : ℕ). has_item (slice_get calls c)) l

  all_numbers : (calls : List (ProblemCall Op Reply)) → how_often item calls v ≡ often_in calls (numbers (length calls))
  all_numbers [] = refl
  all_numbers (x ∷ xs) = ap (counted (is_of (item x) v)) (all_numbers xs ∙ sym (many_up (λ (c : ℕ). has_item (slice_get (x ∷ xs) c)) (numbers (length xs))))

  -- distinct calls are no more than all
  pub some_of_all : (calls : List (ProblemCall Op Reply)) (l : List ℕ) → IsDistinct l → ((c : ℕ) → In c l → c < length calls) → often_in calls l ≤ how_often item calls v
  some_of_all calls l distinct below =
      let few = at_most (λ (c : ℕ). has_item (slice_get calls c)) l (numbers (length calls)) distinct (λ c h e. in_numbers (length calls) c (below c h)) in
      let all = all_numbers calls in
      omega (arith, few, all)

  -- with each that has the item they are no fewer
  pub all_in_some : (calls : List (ProblemCall Op Reply)) (l : List ℕ) → ((c : ℕ) → has_item (slice_get calls c) ≡ true → In c l) → how_often item calls v ≤ often_in calls l
  all_in_some calls l each =
      let few = at_most (λ (c : ℕ). has_item (slice_get calls c)) (numbers (length calls)) l (distinct_numbers (length calls)) (λ c h. each c) in
      let all = all_numbers calls in
      omega (arith, few, all)

  -- one call that has it
  pub one_of_all : (calls : List (ProblemCall Op Reply)) (c : ℕ) (x : ProblemCall Op Reply) → slice_get calls c ≡ Some x → is_of (item x) v ≡ true → 1 ≤ how_often item calls v
  one_of_all calls c x at e =
      let few = some_of_all calls (c ∷ []) ((λ h. h), tt) (λ d h. elim h [ inl same ↦ (let within = slice_get_within calls c x at in omega (arith, within, same)) | inr none ↦ absurd none ]) in
      let one : often_in calls (c ∷ []) ≡ 1 = ap (λ (o : Option (ProblemCall Op Reply)). counted (has_item o) 0) at ∙ ap (λ (b : Bool). counted b 0) e in
      omega (arith, few, one)

-- no more than there are calls
pub often_few : (item : ProblemCall Op Reply → Option ℤ) (calls : List (ProblemCall Op Reply)) (v : ℤ) → how_often item calls v ≤ length calls
often_few item [] v = omega arith
often_few item (x ∷ xs) v = one_more (is_of (item x) v) (how_often item xs v) (length xs) (often_few item xs v)
  where
    one_more : (b : Bool) (n m : ℕ) → n ≤ m → counted b n ≤ suc m
    one_more true n m h = omega (arith, h)
    one_more false n m h = omega (arith, h)

-- no call has the item, or one does
pub none_or_one : (item : ProblemCall Op Reply → Option ℤ) (calls : List (ProblemCall Op Reply)) (v : ℤ) → (how_often item calls v ≡ 0) ⊎ ((c : ℕ) × (x : ProblemCall Op Reply) × (slice_get calls c ≡ Some x) × (item x ≡ Some v))
none_or_one item [] v = inl refl
none_or_one item (x ∷ xs) v = go (is_of (item x) v) refl (none_or_one item xs v)
  where
    this_one : (o : Option ℤ) → is_of o v ≡ true → o ≡ Some v
    this_one None e = absurd (cc)
    this_one (Some w) e = ap (λ (z : ℤ). Some z) ((signed_Decides w v).0 e)

    go : (b : Bool) → is_of (item x) v ≡ b → (how_often item xs v ≡ 0) ⊎ ((c : ℕ) × (y : ProblemCall Op Reply) × (slice_get xs c ≡ Some y) × (item y ≡ Some v)) → (how_often item (x ∷ xs) v ≡ 0) ⊎ ((c : ℕ) × (y : ProblemCall Op Reply) × (slice_get (x ∷ xs) c ≡ Some y) × (item y ≡ Some v))
    go true e rest = inr (0, x, refl, this_one (item x) e)
    go false e rest = elim rest [
      | inl none ↦ inl (ap (λ (b : Bool). counted b (how_often item xs v)) e ∙ none)
      | inr one ↦ inr (suc one.0, one.1, one.2, one.3)
    ]
