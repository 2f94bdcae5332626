-- What the steps of a join keep.
use Rattle.std.proofs.Common.{◌≡◌, ℕ, zero, suc, ◌+◌, ◌<◌, ◌≤◌, ◌==◌, max, Bool, true, false, cond, not, ◌&&◌, List, [], ◌∷◌, ◌++◌, length, map, filter, take, drop, get_or, Option, Some, None, IsSome, ◌⊎◌, inl, inr, refl, sym, ap, subst, ◌∙◌, eq-eqb, append_assoc, append-nil, arith, add-one}
use Rattle.std.specs.List.{slice_get}
use Rattle.std.proofs.lemmas.Bool.Decides.{eqb_tells, leb_tells}
use Rattle.std.proofs.lemmas.Option.{slice_get_within, slice_get-get_or}
use Rattle.std.proofs.lemmas.List.Elements.{filter-append}
use Rattle.std.proofs.lemmas.Bool.{lt-ltb, le-ltb}
use Rattle.std.specs.List.Sorted.{IsNonDecreasingBy, ties, IsStableBy}
use Rattle.std.specs.Ordering.{nat_cmp, is_lt}
use Rattle.std.specs.declared.cmp.Ordering.TheVariants.{Equal, Greater}
use Rattle.lin_object.specs.declared.reply.Reply.TheVariants.{Okay}
use Rattle.lin_object.specs.declared.reply.Reply.{Reply}
use Rattle.lin_history.specs.declared.locality.placed.Placed.{Placed}
use Rattle.lin_history.specs.declared.locality.joining.Pointed.{Pointed}
use Rattle.lin_history.specs.Recorder.Events.{Call}
use Rattle.lin_history.specs.Problems.Linearizations.{IsLinearization}
use Rattle.lin_history.specs.Locality.Whole.{Whole, Has, is_call_on, part}
use Rattle.lin_history.specs.Locality.JoinedOrder.{Places, called_at, point, object_of, point_after, IsJoined}
use Rattle.lin_history.specs.Locality.Points.{placed_of, has_point, Rise, with_points, is_point_on, ArePointsOf, AreOrders}
use Rattle.lin_history.specs.Verifier.Flags.{AreKnown}
use Rattle.lin_history.specs.Locality.PartProblem.{part_problem}
use Rattle.lin_history.specs.Locality.OrderLemmas.{part_by_order}
use Rattle.lin_history.specs.Locality.LocalityLemmas.{on_known, on_unique}
use Rattle.lin_history.proofs.VerifierLemmas.{rest_at, rest_none}
use Rattle.lin_history.specs.OptionLemmas.{none_has_none}
use Rattle.lin_history.specs.Locality.TimeLemmas.{called_is}

-- ---- filters

module _ {A : Type 0} where
  filter_both_by : (p q : A → Bool) (x : A) (t u : Bool) (a b : List A) → p x ≡ t → q x ≡ u → filter p a ≡ filter q b → filter p (cond u (x ∷ a) a) ≡ filter q (cond t (x ∷ b) b)
  filter_both_by p q x true true a b e f ih = rw (e, f) (ap (λ (l : List A). x ∷ l) ih)
  filter_both_by p q x true false a b e f ih = rw f ih
  filter_both_by p q x false true a b e f ih = rw e ih
  filter_both_by p q x false false a b e f ih = ih

  -- two filters, in either order
  filter_both : (p q : A → Bool) (xs : List A) → filter p (filter q xs) ≡ filter q (filter p xs)
  filter_both p q [] = refl
  filter_both p q (x ∷ xs) = filter_both_by p q x (p x) (q x) (filter q xs) (filter p xs) refl refl (filter_both p q xs)

  filter_same : (p q : A → Bool) → ((x : A) → p x ≡ q x) → (xs : List A) → filter p xs ≡ filter q xs
  filter_same p q same [] = refl
  filter_same p q same (x ∷ xs) = rw (same x) (ap (λ (l : List A). cond (q x) (x ∷ l) l) (filter_same p q same xs))

  filter_on : (p : A → Bool) (x : A) (xs : List A) → p x ≡ true → filter p (x ∷ xs) ≡ x ∷ filter p xs
  filter_on p x xs e = rw e refl

  filter_off : (p : A → Bool) (x : A) (xs : List A) → p x ≡ false → filter p (x ∷ xs) ≡ filter p xs
  filter_off p x xs e = rw e refl

  one_head : (x y : A) (xs ys : List A) → x ∷ xs ≡ y ∷ ys → (x ≡ y) × (xs ≡ ys)
  one_head x y xs ys e = (cc, cc)

  not_nil : (x : A) (xs : List A) → x ∷ xs ≡ [] → ⊥
  not_nil x xs e = cc

-- ---- points that rise

rise_more : (m n : ℕ) (ps : List Pointed) → m ≤ n → Rise n ps → Rise m ps
rise_more m n [] up r = tt
rise_more m n (p ∷ ps) up r = (let low = r.0 in omega (arith, up, low), r.1)

rise_by : (test : Pointed → Bool) (n : ℕ) (p : Pointed) (ps : List Pointed) (t : Bool) → n ≤ p.point → Rise p.point (filter test ps) → Rise n (cond t (p ∷ filter test ps) (filter test ps))
rise_by test n p ps true low r = (low, r)
rise_by test n p ps false low r = rise_more n p.point (filter test ps) low r

rise_filter : (test : Pointed → Bool) (n : ℕ) (ps : List Pointed) → Rise n ps → Rise n (filter test ps)
rise_filter test n [] r = tt
rise_filter test n (p ∷ ps) r = rise_by test n p ps (test p) r.0 (rise_filter test p.point ps r.1)

-- the first of a point is not below the first of all
first_low : (n k : ℕ) (ps : List Pointed) (z : Pointed) (zs : List Pointed) → Rise n ps → filter (has_point k) ps ≡ z ∷ zs → n ≤ k
first_low n k [] z zs r e = absurd (not_nil z zs (sym e))
first_low n k (p ∷ ps) z zs r e = elim (eqb_tells p.point k) [
  | inl same ↦ (let low = r.0 in let f = same.1 in omega (arith, low, f))
  | inr other ↦ (let low = r.0 in let rest = first_low p.point k ps z zs r.1 (sym (filter_off (has_point k) p ps other.0) ∙ e) in omega (arith, low, rest))
]

-- each point has the same calls in both
abbrev Tie : List Pointed → List Pointed → Type 0
Tie ps qs = (n : ℕ) → filter (has_point n) ps ≡ filter (has_point n) qs

tie_by : (p : Pointed) (t : Bool) (a b : List Pointed) → cond t (p ∷ a) a ≡ cond t (p ∷ b) b → a ≡ b
tie_by p true a b e = (one_head p p a b e).1
tie_by p false a b e = e

tie_rest : (p q : Pointed) (ps qs : List Pointed) → p ≡ q → Tie (p ∷ ps) (q ∷ qs) → Tie ps qs
tie_rest p q ps qs same tie n =
    let e : filter (has_point n) (p ∷ ps) ≡ filter (has_point n) (p ∷ qs) = tie n ∙ ap (λ (x : Pointed). filter (has_point n) (x ∷ qs)) (sym same) in
    tie_by p (has_point n p) (filter (has_point n) ps) (filter (has_point n) qs) e

own_point : (p : Pointed) → has_point p.point p ≡ true
own_point p = eq-eqb p.point p.point refl

same_first : (p q : Pointed) (ps qs : List Pointed) → Rise p.point ps → Rise q.point qs → Tie (p ∷ ps) (q ∷ qs) → p ≡ q
same_first p q ps qs r s tie =
    let down : q.point ≤ p.point = first_low q.point p.point (q ∷ qs) p (filter (has_point p.point) ps) (omega arith, s) (sym (tie p.point) ∙ filter_on (has_point p.point) p ps (own_point p)) in
    let up : p.point ≤ q.point = first_low p.point q.point (p ∷ ps) q (filter (has_point q.point) qs) (omega arith, r) (tie q.point ∙ filter_on (has_point q.point) q qs (own_point q)) in
    let same : q.point ≡ p.point = omega (arith, up, down) in
    let e : p ∷ filter (has_point p.point) ps ≡ q ∷ filter (has_point p.point) qs =
    sym (filter_on (has_point p.point) p ps (own_point p)) ∙ tie p.point ∙ filter_on (has_point p.point) q qs (eq-eqb q.point p.point same) in
    (one_head p q (filter (has_point p.point) ps) (filter (has_point p.point) qs) e).0

-- what rises is known by the calls of each point
same_rise : (m n : ℕ) (ps qs : List Pointed) → Rise m ps → Rise n qs → Tie ps qs → ps ≡ qs
same_rise m n [] [] r s tie = refl
same_rise m n [] (q ∷ qs) r s tie = absurd (not_nil q (filter (has_point q.point) qs) (sym (tie q.point ∙ filter_on (has_point q.point) q qs (own_point q))))
same_rise m n (p ∷ ps) [] r s tie = absurd (not_nil p (filter (has_point p.point) ps) (sym (filter_on (has_point p.point) p ps (own_point p)) ∙ tie p.point))
same_rise m n (p ∷ ps) (q ∷ qs) r s tie =
    let first : p ≡ q = same_first p q ps qs r.1 s.1 tie in
    let rest : ps ≡ qs = same_rise p.point q.point ps qs r.1 s.1 (tie_rest p q ps qs first tie) in
    ap (λ (x : Pointed). x ∷ ps) first ∙ ap (λ (l : List Pointed). q ∷ l) rest

rise_late : (n : ℕ) (front : List Pointed) (p : Pointed) (ps : List Pointed) → Rise n (front ++ p ∷ ps) → n ≤ p.point
rise_late n [] p ps r = r.0
rise_late n (x ∷ xs) p ps r = let low = r.0 in let rest = rise_late x.point xs p ps r.1 in omega (arith, low, rest)

-- what stands later has no lower point
rise_between : (n : ℕ) (front : List Pointed) (p : Pointed) (mid : List Pointed) (q : Pointed) (back : List Pointed) → Rise n (front ++ p ∷ (mid ++ q ∷ back)) → p.point ≤ q.point
rise_between n [] p mid q back r = rise_late p.point mid q back r.1
rise_between n (x ∷ xs) p mid q back r = rise_between x.point xs p mid q back r.1

-- ---- what the sort tells

rise_from : (n : ℕ) (ps : List Pointed) → IsNonDecreasingBy (λ (p : Pointed). p.point) ps → ((d : Pointed) → 0 < length ps → n ≤ (get_or ps zero d).point) → Rise n ps
rise_from n [] up low = tt
rise_from n (p ∷ ps) up low =
    (low p (omega arith), rise_from p.point ps (λ i j d le below. up (suc i) (suc j) d (omega (arith, le)) (omega (arith, below))) (λ d below. up zero (suc zero) d (omega arith) (omega (arith, below))))

pub rise_sorted : (ps : List Pointed) → IsNonDecreasingBy (λ (p : Pointed). p.point) ps → Rise 0 ps
rise_sorted ps up = rise_from 0 ps up (λ d below. omega arith)

abbrev point_less : Pointed → Pointed → Bool
point_less p q = is_lt (nat_cmp p.point q.point)

less_is : (m n : ℕ) → m < n → is_lt (nat_cmp m n) ≡ true
less_is m n below = rw (lt-ltb m n below) refl

less_not : (m n : ℕ) → n ≤ m → is_lt (nat_cmp m n) ≡ false
less_not m n over = rw (le-ltb m n over) (elim (m == n) as (λ t. is_lt (cond t Equal Greater) ≡ false) [ true ↦ refl | false ↦ refl ])

ties_from : (n m : ℕ) (a b e : Bool) → is_lt (nat_cmp n m) ≡ a → is_lt (nat_cmp m n) ≡ b → (m == n) ≡ e → (not a && not b) ≡ e → (not (is_lt (nat_cmp n m)) && not (is_lt (nat_cmp m n))) ≡ (m == n)
ties_from n m a b e p q r h = ap (λ (x : Bool). not x && not (is_lt (nat_cmp m n))) p ∙ ap (λ (y : Bool). not a && not y) q ∙ h ∙ sym r

ties_are : (n m : ℕ) → (not (is_lt (nat_cmp n m)) && not (is_lt (nat_cmp m n))) ≡ (m == n)
ties_are n m = elim (eqb_tells m n) [
  | inl same ↦ (let e = same.1 in ties_from n m false false true (less_not n m (omega (arith, e))) (less_not m n (omega (arith, e))) same.0 refl)
  | inr other ↦ elim (leb_tells m n) [
    | inl up ↦ (let e = up.1 in let f = other.1 in ties_from n m false true false (less_not n m (omega (arith, e))) (less_is m n (omega (arith, e, f))) other.0 refl)
    | inr down ↦ (let e = down.1 in ties_from n m true false false (less_is n m (omega (arith, e))) (less_not m n (omega (arith, e))) other.0 refl)
  ]
]

pub tie_sorted : (ps qs : List Pointed) → IsStableBy point_less ps qs → (n : ℕ) → filter (has_point n) qs ≡ filter (has_point n) ps
tie_sorted ps qs stable n =
    let like : Pointed = record { point = n; placed = record { call = 0; reply = Okay } } in
    filter_same (has_point n) (ties point_less like) (λ p. sym (ties_are n p.point)) qs ∙ stable like ∙ filter_same (ties point_less like) (has_point n) (λ p. ties_are n p.point) ps

-- ---- a list of calls with points, split where the list of calls is

record IsSplit (ps : List Pointed) (early : List (Placed Reply)) (x : Placed Reply) (late : List (Placed Reply)) : Type 0 where
  front : List Pointed
  one : Pointed
  back : List Pointed
  is : ps ≡ front ++ one ∷ back
  front_is : map placed_of front ≡ early
  one_is : one.placed ≡ x
  back_is : map placed_of back ≡ late

split_at : (ps : List Pointed) (early : List (Placed Reply)) (x : Placed Reply) (late : List (Placed Reply)) → map placed_of ps ≡ early ++ x ∷ late → IsSplit ps early x late
split_at [] [] x late e = absurd (not_nil x late (sym e))
split_at [] (y ∷ early) x late e = absurd (not_nil y (early ++ x ∷ late) (sym e))
split_at (p ∷ ps) [] x late e =
    let h = one_head p.placed x (map placed_of ps) late e in
    record { front = []; one = p; back = ps; is = refl; front_is = refl; one_is = h.0; back_is = h.1 }
split_at (p ∷ ps) (y ∷ early) x late e =
    let h = one_head p.placed y (map placed_of ps) (early ++ x ∷ late) e in
    let s = split_at ps early x late h.1 in
    record {
      front = p ∷ s.front;
      one = s.one;
      back = s.back;
      is = ap (λ (l : List Pointed). p ∷ l) s.is;
      front_is = ap (λ (z : Placed Reply). z ∷ map placed_of s.front) h.0 ∙ ap (λ (l : List (Placed Reply)). y ∷ l) s.front_is;
      one_is = s.one_is;
      back_is = s.back_is;
    }

module _ {State Op : Type 0} (h : Whole State Op Reply) where
  -- ---- the calls of one list with their points

  pub without_with : (n : ℕ) (l : List (Placed Reply)) → map placed_of (with_points h n l) ≡ l
  without_with n [] = refl
  without_with n (x ∷ xs) = ap (λ (m : List (Placed Reply)). x ∷ m) (without_with (max n (called_at h x.call)) xs)

  points_rise : (n : ℕ) (l : List (Placed Reply)) → Rise n (with_points h n l)
  points_rise n [] = tt
  points_rise n (x ∷ xs) = (omega arith, points_rise (max n (called_at h x.call)) xs)

  -- each point is what the points before it and n make it
  points_are : (n : ℕ) (l : List (Placed Reply)) (front : List Pointed) (p : Pointed) (back : List Pointed) → with_points h n l ≡ front ++ p ∷ back → p.point ≡ max n (point h (map placed_of front) p.placed.call)
  points_are n [] [] p back e = absurd (not_nil p back (sym e))
  points_are n [] (q ∷ front) p back e = absurd (not_nil q (front ++ p ∷ back) (sym e))
  points_are n (x ∷ xs) [] p back e =
      let same : (record { point = max n (called_at h x.call); placed = x }) ≡ p = (one_head _ p (with_points h (max n (called_at h x.call)) xs) back e).0 in
      let f : p.point ≡ max n (called_at h p.placed.call) = subst (λ (q : Pointed). q.point ≡ max n (called_at h q.placed.call)) same refl in
      omega (arith, f)
  points_are n (x ∷ xs) (q ∷ front) p back e =
      let two = one_head _ q (with_points h (max n (called_at h x.call)) xs) (front ++ p ∷ back) e in
      let same : x ≡ q.placed = ap placed_of two.0 in
      let rest = points_are (max n (called_at h x.call)) xs front p back two.1 in
      let f : called_at h x.call ≡ called_at h q.placed.call = ap (λ (z : Placed Reply). called_at h z.call) same in
      omega (arith, rest, f)

  -- ---- the calls on one object

  part_map_by : (object : ℕ) (p : Pointed) (t : Bool) (a : List Pointed) (b : List (Placed Reply)) → map placed_of a ≡ b → map placed_of (cond t (p ∷ a) a) ≡ cond t (p.placed ∷ b) b
  part_map_by object p true a b e = ap (λ (m : List (Placed Reply)). p.placed ∷ m) e
  part_map_by object p false a b e = e

  part_map : (object : ℕ) (ps : List Pointed) → map placed_of (filter (is_point_on h object) ps) ≡ part h object (map placed_of ps)
  part_map object [] = refl
  part_map object (p ∷ ps) = part_map_by object p (is_point_on h object p) (filter (is_point_on h object) ps) (part h object (map placed_of ps)) (part_map object ps)

  all_on : (object n : ℕ) (l : List (Placed Reply)) → ((a : ℕ) → Has h a l → is_call_on h object a ≡ true) → filter (is_point_on h object) (with_points h n l) ≡ with_points h n l
  all_on object n [] on = refl
  all_on object n (x ∷ xs) on =
      filter_on (is_point_on h object) (record { point = max n (called_at h x.call); placed = x }) (with_points h (max n (called_at h x.call)) xs) (on x.call (inl refl))
      ∙ ap (λ (m : List Pointed). (record { point = max n (called_at h x.call); placed = x }) ∷ m) (all_on object (max n (called_at h x.call)) xs (λ a there. on a (inr there)))

  none_on : (object : ℕ) (ps : List Pointed) → ((a : ℕ) → Has h a (map placed_of ps) → is_call_on h object a ≡ true → ⊥) → filter (is_point_on h object) ps ≡ []
  none_on object [] none = refl
  none_on object (p ∷ ps) none = by_test (is_point_on h object p) refl (none_on object ps (λ a there. none a (inr there)))
    where
      by_test : (t : Bool) → is_point_on h object p ≡ t → filter (is_point_on h object) ps ≡ [] → cond t (p ∷ filter (is_point_on h object) ps) (filter (is_point_on h object) ps) ≡ []
      by_test true e ih = absurd (none p.placed.call (inl refl) e)
      by_test false e ih = ih

  Has_append : (a : ℕ) (xs ys : List (Placed Reply)) → Has h a (xs ++ ys) → Has h a xs ⊎ Has h a ys
  Has_append a [] ys there = inr there
  Has_append a (x ∷ xs) ys there = elim there [ inl e ↦ inl (inl e) | inr more ↦ elim (Has_append a xs ys more) [ inl p ↦ inl (inr p) | inr p ↦ inr p ] ]

  map_append : (ps qs : List Pointed) → map placed_of (ps ++ qs) ≡ map placed_of ps ++ map placed_of qs
  map_append [] qs = refl
  map_append (p ∷ ps) qs = ap (λ (m : List (Placed Reply)). p.placed ∷ m) (map_append ps qs)

  -- ---- one order more

  some_front : (front : List (List ℕ)) (order : List ℕ) (object : ℕ) → IsSome (slice_get front object) → IsSome (slice_get (front ++ order ∷ []) object)
  some_front [] order object some = absurd (cc)
  some_front (o ∷ os) order zero some = refl
  some_front (o ∷ os) order (suc object) some = some_front os order object some

  last_is : (front : List (List ℕ)) (order : List ℕ) → slice_get (front ++ order ∷ []) (length front) ≡ Some order
  last_is [] order = refl
  last_is (o ∷ os) order = last_is os order

  past_none : (front : List (List ℕ)) → slice_get front (length front) ≡ None
  past_none [] = refl
  past_none (o ∷ os) = past_none os

  at_front : (front : List (List ℕ)) (order : List ℕ) (object : ℕ) (o : List ℕ) → slice_get (front ++ order ∷ []) object ≡ Some o → (slice_get front object ≡ Some o) ⊎ ((object ≡ length front) × (order ≡ o))
  at_front [] order zero o e = inr (refl, cc)
  at_front [] order (suc object) o e = absurd (cc)
  at_front (x ∷ xs) order zero o e = inl e
  at_front (x ∷ xs) order (suc object) o e = elim (at_front xs order object o e) [ inl f ↦ inl f | inr f ↦ inr (ap suc f.0, f.1) ]

  some_known : (object a : ℕ) (o : Option (Call Op Reply)) → slice_get h.calls a ≡ o → is_call_on h object a ≡ true → IsSome (slice_get h.calls a)
  some_known object a None e on = absurd (let f : false ≡ true = rw e at on in cc)
  some_known object a (Some c) e on = rw e refl

  pub orders_none : AreOrders h [] []
  orders_none = record { each = λ object order e. absurd (cc); known = λ a there. absurd there }

  pub orders_more : (front : List (List ℕ)) (ps : List Pointed) (order : List ℕ) (l : List (Placed Reply)) → AreOrders h front ps → Places h (length front) (h.starts (length front)) order l → ((a : ℕ) → Has h a l → is_call_on h (length front) a ≡ true)
      → AreOrders h (front ++ order ∷ []) (ps ++ with_points h 0 l)
  orders_more front ps order l old places on = record {
    each = λ object o e. elim (at_front front order object o e) [ inl f ↦ early object o f | inr f ↦ late object o f.0 f.1 ];
    known = λ a there. elim (Has_append a (map placed_of ps) (map placed_of (with_points h 0 l)) (subst (Has h a) (map_append ps (with_points h 0 l)) there)) [
      | inl p ↦ (let k = old.known a p in (k.0, some_front front order (object_of h a) k.1))
      | inr p ↦ mine a (subst (Has h a) (without_with 0 l) p)
    ];
  }
    where
      same_object : (object a : ℕ) → is_call_on h object a ≡ true → object_of h a ≡ object
      same_object object a here = on_unique h object a (slice_get h.calls a) refl here

      mine : (a : ℕ) → Has h a l → IsSome (slice_get h.calls a) × IsSome (slice_get (front ++ order ∷ []) (object_of h a))
      mine a there =
          (some_known (length front) a (slice_get h.calls a) refl (on a there), rw (same_object (length front) a (on a there), last_is front order) refl)

      early : (object : ℕ) (o : List ℕ) → slice_get front object ≡ Some o → ArePointsOf h object o (filter (is_point_on h object) (ps ++ with_points h 0 l))
      early object o e =
          let none : filter (is_point_on h object) (with_points h 0 l) ≡ [] = none_on object (with_points h 0 l) (λ a there here.
          (let p : Has h a l = subst (Has h a) (without_with 0 l) there in
          let same : length front ≡ object = sym (same_object (length front) a (on a p)) ∙ same_object object a here in
          none_has_none (slice_get front (length front)) (past_none front) (rw (same, e) refl))) in
          let is : filter (is_point_on h object) (ps ++ with_points h 0 l) ≡ filter (is_point_on h object) ps = filter-append (is_point_on h object) ps (with_points h 0 l) ∙ ap (λ (m : List Pointed). filter (is_point_on h object) ps ++ m) none ∙ append-nil (filter (is_point_on h object) ps) in
          let was = old.each object o e in
          (was.0, was.1, is ∙ was.2)

      late : (object : ℕ) (o : List ℕ) → object ≡ length front → order ≡ o → ArePointsOf h object o (filter (is_point_on h object) (ps ++ with_points h 0 l))
      late object o e f =
          let none : filter (is_point_on h (length front)) ps ≡ [] = none_on (length front) ps (λ a there here.
          (let k = old.known a there in none_has_none (slice_get front (length front)) (past_none front) (subst (λ (n : ℕ). IsSome (slice_get front n)) (same_object (length front) a here) k.1))) in
          let is : filter (is_point_on h (length front)) (ps ++ with_points h 0 l) ≡ with_points h 0 l =
          filter-append (is_point_on h (length front)) ps (with_points h 0 l) ∙ ap (λ (m : List Pointed). m ++ filter (is_point_on h (length front)) (with_points h 0 l)) none ∙ all_on (length front) 0 l on in
          let there : ArePointsOf h (length front) order (filter (is_point_on h (length front)) (ps ++ with_points h 0 l)) = (l, places, is) in
          rw (e, ← f) there

  take_more_suc : (orders : List (List ℕ)) (i : ℕ) (order : List ℕ) → slice_get orders i ≡ Some order → take (suc i) orders ≡ take i orders ++ order ∷ []
  take_more_suc [] i order e = absurd (cc)
  take_more_suc (o ∷ os) zero order e = let same : o ≡ order = cc in ap (λ (y : List ℕ). y ∷ []) same
  take_more_suc (o ∷ os) (suc i) order e = ap (λ (l : List (List ℕ)). o ∷ l) (take_more_suc os i order e)

  take_length : (orders : List (List ℕ)) (i : ℕ) (order : List ℕ) → slice_get orders i ≡ Some order → length (take i orders) ≡ i
  take_length [] i order e = absurd (cc)
  take_length (o ∷ os) zero order e = refl
  take_length (o ∷ os) (suc i) order e = ap suc (take_length os i order e)

  -- the orders up to the next
  pub orders_next : (orders : List (List ℕ)) (ps new : List Pointed) (i : ℕ) (order : List ℕ) (l : List (Placed Reply)) → slice_get orders i ≡ Some order → AreOrders h (take i orders) ps → Places h i (h.starts i) order l
      → ((a : ℕ) → Has h a l → is_call_on h i a ≡ true) → new ≡ ps ++ with_points h 0 l → AreOrders h (take (i + 1) orders) new
  orders_next orders ps new i order l there old places on is =
      let at : length (take i orders) ≡ i = take_length orders i order there in
      let more = orders_more (take i orders) ps order l old (subst (λ (n : ℕ). Places h n (h.starts n) order l) (sym at) places) (subst (λ (n : ℕ). (a : ℕ) → Has h a l → is_call_on h n a ≡ true) (sym at) on) in
      rw (is, add-one, take_more_suc orders i order there) more

  -- ---- the loop over one object's order

  pub points_next : (n m : ℕ) (l : List (Placed Reply)) (i : ℕ) (x : Placed Reply) (c : Call Op Reply) (old new whole : List Pointed) → slice_get l i ≡ Some x → slice_get h.calls x.call ≡ Some c → m ≡ max n c.called
      → new ≡ old ++ (record { point = m; placed = x }) ∷ [] → old ++ with_points h n (drop i l) ≡ whole → new ++ with_points h m (drop (i + 1) l) ≡ whole
  points_next n m l i x c old new whole there call is pushed e =
      let f : m ≡ max n (called_at h x.call) = is ∙ ap (max n) (sym (called_is h x.call c call)) in
      let split : old ++ with_points h n (x ∷ drop (i + 1) l) ≡ whole = subst (λ (r : List (Placed Reply)). old ++ with_points h n r ≡ whole) (rest_at l i x there) e in
      rw (pushed, f) (append_assoc old ((record { point = max n (called_at h x.call); placed = x }) ∷ []) (with_points h (max n (called_at h x.call)) (drop (i + 1) l)) ∙ split)

  pub points_done : (n : ℕ) (l : List (Placed Reply)) (i : ℕ) (old whole : List Pointed) → length l ≤ i → old ++ with_points h n (drop i l) ≡ whole → old ≡ whole
  points_done n l i old whole over e =
      sym (append-nil old) ∙ subst (λ (r : List (Placed Reply)). old ++ with_points h n r ≡ whole) (rest_none l i over) e

  -- ---- the calls of an order that is a linearization

  pub placed_on : (same_state : State → State → Bool) (object : ℕ) (order : List ℕ) (l : List (Placed Reply)) → IsLinearization (part_problem same_state h object) order → Places h object (h.starts object) order l → (a : ℕ) → Has h a l → is_call_on h object a ≡ true
  placed_on same_state object order l lin places = (part_by_order same_state h object order l lin places).on

  within_by : (a : ℕ) (o : Option (Call Op Reply)) → slice_get h.calls a ≡ o → IsSome o → a < length h.calls
  within_by a None e some = absurd (cc)
  within_by a (Some c) e some = slice_get_within h.calls a c e

  pub placed_known : (same_state : State → State → Bool) (object : ℕ) (order : List ℕ) (l : List (Placed Reply)) → IsLinearization (part_problem same_state h object) order → Places h object (h.starts object) order l → AreKnown h l
  placed_known same_state object order l lin places a there =
      within_by a (slice_get h.calls a) refl (some_known object a (slice_get h.calls a) refl (placed_on same_state object order l lin places a there))

  -- ---- sorted by point

  Has_point : (n a : ℕ) (ps : List Pointed) → Has h a (map placed_of (filter (has_point n) ps)) → Has h a (map placed_of ps)
  Has_point n a [] there = there
  Has_point n a (p ∷ ps) there = by_test (has_point n p) there (Has_point n a ps)
    where
      by_test : (t : Bool) → Has h a (map placed_of (cond t (p ∷ filter (has_point n) ps) (filter (has_point n) ps))) → (Has h a (map placed_of (filter (has_point n) ps)) → Has h a (map placed_of ps)) → Has h a (map placed_of (p ∷ ps))
      by_test true there ih = elim there [ inl same ↦ inl same | inr more ↦ inr (ih more) ]
      by_test false there ih = inr (ih there)

  point_Has : (a : ℕ) (ps : List Pointed) → Has h a (map placed_of ps) → (n : ℕ) × Has h a (map placed_of (filter (has_point n) ps))
  point_Has a [] there = absurd there
  point_Has a (p ∷ ps) there = elim there [
    | inl same ↦ (p.point, subst (λ (m : List Pointed). Has h a (map placed_of m)) (sym (filter_on (has_point p.point) p ps (own_point p))) (inl same))
    | inr more ↦ (let r = point_Has a ps more in (r.0, in_more r.0 (has_point r.0 p) r.1))
  ]
    where
      in_more : (n : ℕ) (t : Bool) → Has h a (map placed_of (filter (has_point n) ps)) → Has h a (map placed_of (cond t (p ∷ filter (has_point n) ps) (filter (has_point n) ps)))
      in_more n true there = inr there
      in_more n false there = there

  module _ (orders : List (List ℕ)) (ps qs : List Pointed) (are : AreOrders h orders ps) (rise : Rise 0 qs) (tie : Tie qs ps) where
    known_sorted : (a : ℕ) → Has h a (map placed_of qs) → IsSome (slice_get h.calls a) × IsSome (slice_get orders (object_of h a))
    known_sorted a there =
        let r = point_Has a qs there in
        are.known a (Has_point r.0 a ps (subst (λ (m : List Pointed). Has h a (map placed_of m)) (tie r.0) r.1))

    -- the calls of an object stand as in its order
    own_sorted : (object : ℕ) (order : List ℕ) → slice_get orders object ≡ Some order → ArePointsOf h object order (filter (is_point_on h object) qs)
    own_sorted object order e =
        let was = are.each object order e in
        let on = is_point_on h object in
        let ties : Tie (filter on qs) (filter on ps) = λ n. filter_both (has_point n) on qs ∙ ap (filter on) (tie n) ∙ sym (filter_both (has_point n) on ps) in
        let up : Rise 0 (filter on ps) = subst (Rise 0) (sym was.2) (points_rise 0 was.0) in
        (was.0, was.1, same_rise 0 0 (filter on qs) (filter on ps) (rise_filter on 0 qs rise) up ties ∙ was.2)

    Has_late : (a : ℕ) (front : List Pointed) (p : Pointed) (back : List Pointed) → p.placed.call ≡ a → Has h a (map placed_of (front ++ p ∷ back))
    Has_late a [] p back e = inl e
    Has_late a (x ∷ xs) p back e = inr (Has_late a xs p back e)

    the_order : (o : Option (List ℕ)) → IsSome o → (order : List ℕ) × (o ≡ Some order)
    the_order None some = absurd (cc)
    the_order (Some order) some = (order, refl)

    point_right : (front : List Pointed) (p : Pointed) (back : List Pointed) → qs ≡ front ++ p ∷ back → p.point ≡ point_after h (map placed_of front) p.placed
    point_right front p back e =
        let a = p.placed.call in
        let object = object_of h a in
        let k = known_sorted a (subst (λ (m : List Pointed). Has h a (map placed_of m)) (sym e) (Has_late a front p back refl)) in
        let order = the_order (slice_get orders object) k.1 in
        let own = own_sorted object order.0 order.1 in
        let on : is_point_on h object p ≡ true = on_known h a (slice_get h.calls a) refl k.0 in
        let split : filter (is_point_on h object) qs ≡ filter (is_point_on h object) front ++ p ∷ filter (is_point_on h object) back =
        ap (filter (is_point_on h object)) e ∙ filter-append (is_point_on h object) front (p ∷ back) ∙ ap (λ (m : List Pointed). filter (is_point_on h object) front ++ m) (filter_on (is_point_on h object) p back on) in
        let is = points_are 0 own.0 (filter (is_point_on h object) front) p (filter (is_point_on h object) back) (sym own.2 ∙ split) in
        let f : point h (map placed_of (filter (is_point_on h object) front)) a ≡ point_after h (map placed_of front) p.placed = ap (λ (m : List (Placed Reply)). point h m a) (part_map object front) in
        omega (arith, is, f)

    pub joined_sorted : IsJoined h orders (map placed_of qs)
    joined_sorted = record { parts = parts; known = known_sorted; sorted = sorted }
      where
        parts : (object : ℕ) (order : List ℕ) → slice_get orders object ≡ Some order → Places h object (h.starts object) order (part h object (map placed_of qs))
        parts object order e =
            let own = own_sorted object order e in
            let is : part h object (map placed_of qs) ≡ own.0 = sym (part_map object qs) ∙ ap (map placed_of) own.2 ∙ without_with 0 own.0 in
            subst (Places h object (h.starts object) order) (sym is) own.1

        sorted : (early : List (Placed Reply)) (x : Placed Reply) (mid : List (Placed Reply)) (y : Placed Reply) (late : List (Placed Reply)) → map placed_of qs ≡ early ++ x ∷ (mid ++ y ∷ late) → point_after h early x ≤ point_after h (early ++ x ∷ mid) y
        sorted early x mid y late e =
            let s = split_at qs early x (mid ++ y ∷ late) e in
            let t = split_at s.back mid y late s.back_is in
            let whole : qs ≡ s.front ++ s.one ∷ (t.front ++ t.one ∷ t.back) = s.is ∙ ap (λ (m : List Pointed). s.front ++ s.one ∷ m) t.is in
            let shifted : qs ≡ (s.front ++ s.one ∷ t.front) ++ t.one ∷ t.back = whole ∙ sym (append_assoc s.front (s.one ∷ t.front) (t.one ∷ t.back)) in
            let up : s.one.point ≤ t.one.point = rise_between 0 s.front s.one t.front t.one t.back (subst (Rise 0) whole rise) in
            let first : s.one.point ≡ point_after h (map placed_of s.front) s.one.placed = point_right s.front s.one s.back s.is in
            let second : t.one.point ≡ point_after h (map placed_of (s.front ++ s.one ∷ t.front)) t.one.placed = point_right (s.front ++ s.one ∷ t.front) t.one t.back shifted in
            let front_is : map placed_of (s.front ++ s.one ∷ t.front) ≡ early ++ x ∷ mid =
            map_append s.front (s.one ∷ t.front) ∙ ap (λ (m : List (Placed Reply)). m ++ (s.one.placed ∷ map placed_of t.front)) s.front_is ∙ ap (λ (z : Placed Reply). early ++ z ∷ map placed_of t.front) s.one_is ∙ ap (λ (m : List (Placed Reply)). early ++ x ∷ m) t.front_is in
            let a : point_after h (map placed_of s.front) s.one.placed ≡ point_after h early x = ap (λ (m : List (Placed Reply)). point_after h m s.one.placed) s.front_is ∙ ap (point_after h early) s.one_is in
            let b : point_after h (map placed_of (s.front ++ s.one ∷ t.front)) t.one.placed ≡ point_after h (early ++ x ∷ mid) y = ap (λ (m : List (Placed Reply)). point_after h m t.one.placed) front_is ∙ ap (point_after h (early ++ x ∷ mid)) t.one_is in
            let lower : point_after h early x ≡ s.one.point = sym (first ∙ a) in
            let upper : t.one.point ≡ point_after h (early ++ x ∷ mid) y = second ∙ b in
            subst (λ (n : ℕ). n ≤ point_after h (early ++ x ∷ mid) y) (sym lower) (subst (λ (n : ℕ). s.one.point ≤ n) upper up)

-- ---- every object has its order

pub order_there : (orders : List (List ℕ)) (n : ℕ) → n < length orders → IsSome (slice_get orders n)
order_there orders n within = rw (slice_get-get_or orders n [] within) refl
