-- The events of a problem in the order of their numbers are its timeline.
use Rattle.std.proofs.Common.{◌≡◌, ◌≢◌, ℕ, zero, suc, ◌+◌, ◌<◌, ◌≤◌, Option, Some, None, IsSome, List, [], ◌∷◌, ◌++◌, length, map, get_or, ◌⊎◌, inl, inr, refl, sym, ap, subst, ◌∙◌, arith}
use Rattle.std.specs.List.{slice_get, swap, Contains}
use Rattle.std.specs.Prelude.{IsSomeAnd, option_map}
use Rattle.std.specs.List.Sorted.{IsPermutation, IsNonDecreasingBy}
use Rattle.std.proofs.lemmas.Bool.{cases_lt}
use Rattle.std.proofs.lemmas.Option.{slice_get-map, slice_get_within, slice_get-get_or, get_or_from_slice_get, same_Some}
use Rattle.std.proofs.lemmas.List.{append-nil, length-append, length-map}
use Rattle.std.proofs.lemmas.List.Edits.{Swapped, swapped_from_swap, length-swap}
use Rattle.std.proofs.lemmas.List.Sorted.{IsPermutation-keeps, IsPermutation-sym, Contains-permutation, length_permutation}
use Rattle.lin_history.specs.declared.problems.problem.ProblemCall.{ProblemCall}
use Rattle.lin_history.specs.declared.problems.timeline.Timed.{Timed}
use Rattle.lin_history.specs.declared.problems.timeline.ProblemEvent.{ProblemEvent}
use Rattle.lin_history.specs.declared.problems.timeline.ProblemEvent.TheVariants.{Call, Return}
use Rattle.lin_history.specs.Problems.ProblemParts.{AreTimed}
use Rattle.lin_history.specs.Problems.Problem.{Problem}
use Rattle.lin_history.specs.Problems.Precedence.{Before, IsCompleted}
use Rattle.lin_history.specs.Problems.Timeline.{IsTimeline, HasNumber}
use Rattle.lin_history.specs.Problems.NumberedEvents.{number_at, event_at, return_of, events_of_call, events_from, AreMerged}
use Rattle.lin_history.specs.OptionLemmas.{some_and, and_some, some_is}
use Rattle.lin_history.specs.Problems.EventLemmas.{call_of, call_or_return, same_call, same_return}

-- ---- no event twice, also after an exchange of two places

-- No event stands in two places.
abbrev Once : List Timed → Type 0
Once l = (i j : ℕ) (d : Timed) → i < length l → j < length l → (get_or l i d).event ≡ (get_or l j d).event → i ≡ j

-- where a place was before an exchange of two
abbrev Was : ℕ → ℕ → ℕ → ℕ → Type 0
Was a b i k = ((i ≡ a) × (k ≡ b)) ⊎ (((i ≡ b) × (k ≡ a)) ⊎ ((i ≢ a) × (i ≢ b) × (k ≡ i)))

was_one : (a b i j k m : ℕ) → Was a b i k → Was a b j m → k ≡ m → i ≡ j
was_one a b i j k m (inl g) (inl h) e = let p = g.0 in let q = h.0 in omega (arith, p, q)
was_one a b i j k m (inl g) (inr (inl h)) e = let p = g.0 in let q = h.0 in let r = g.1 in let s = h.1 in omega (arith, p, q, r, s, e)
was_one a b i j k m (inl g) (inr (inr h)) e = let r = g.1 in let s = h.2 in absurd (h.1 (omega (arith, r, s, e)))
was_one a b i j k m (inr (inl g)) (inl h) e = let p = g.0 in let q = h.0 in let r = g.1 in let s = h.1 in omega (arith, p, q, r, s, e)
was_one a b i j k m (inr (inl g)) (inr (inl h)) e = let p = g.0 in let q = h.0 in omega (arith, p, q)
was_one a b i j k m (inr (inl g)) (inr (inr h)) e = let r = g.1 in let s = h.2 in absurd (h.0 (omega (arith, r, s, e)))
was_one a b i j k m (inr (inr g)) (inl h) e = let r = g.2 in let s = h.1 in absurd (g.1 (omega (arith, r, s, e)))
was_one a b i j k m (inr (inr g)) (inr (inl h)) e = let r = g.2 in let s = h.1 in absurd (g.0 (omega (arith, r, s, e)))
was_one a b i j k m (inr (inr g)) (inr (inr h)) e = let r = g.2 in let s = h.2 in omega (arith, r, s, e)

same_or_not : (a b : ℕ) → (a ≡ b) ⊎ (a ≢ b)
same_or_not a b = grind arith

was : (f g : ℕ → Timed) (n a b i : ℕ) → a < n → b < n → i < n → Swapped f g a b → (k : ℕ) × (k < n) × Was a b i k × (g i ≡ f k)
was f g n a b i u v w s = elim (same_or_not i a) [
  | inl p ↦ (b, v, inl (p, refl), ap g p ∙ s.0)
  | inr p ↦ elim (same_or_not i b) [
    | inl q ↦ (a, u, inr (inl (q, refl)), ap g q ∙ s.1)
    | inr q ↦ (i, w, inr (inr (p, q, refl)), s.2 i p q)
  ]
]

once_swapped : (l : List Timed) (a b : ℕ) → a < length l → b < length l → Once l → Once (swap l a b)
once_swapped l a b u v once i j d h k e =
    let n : length (swap l a b) ≡ length l = length-swap l a b in
    let s : Swapped (λ i. get_or l i d) (λ i. get_or (swap l a b) i d) a b = swapped_from_swap l (swap l a b) a b d u v refl in
    let p = was (λ i. get_or l i d) (λ i. get_or (swap l a b) i d) (length l) a b i u v (omega (arith, h, n)) s in
    let q = was (λ i. get_or l i d) (λ i. get_or (swap l a b) i d) (length l) a b j u v (omega (arith, k, n)) s in
    was_one a b i j p.0 q.0 p.2 q.2 (once p.0 q.0 d p.1 q.1 (ap (λ (t : Timed). t.event) (sym p.3) ∙ e ∙ ap (λ (t : Timed). t.event) q.3))

once_sorted : (l s : List Timed) → IsPermutation l s → Once l → Once s
once_sorted l s moved once = IsPermutation-keeps l Once once once_swapped s moved

-- ---- what is in a list

-- The event with its number is in the list.
abbrev Has : Timed → List Timed → Type 0
Has t [] = ⊥
Has t (x ∷ l) = (t ≡ x) ⊎ Has t l

has_at : (l : List Timed) (i : ℕ) (t : Timed) → slice_get l i ≡ Some t → Has t l
has_at [] i t e = absurd (cc)
has_at (x ∷ l) zero t e = inl (cc)
has_at (x ∷ l) (suc i) t e = inr (has_at l i t e)

place_of : (l : List Timed) (t : Timed) → Has t l → (i : ℕ) × (slice_get l i ≡ Some t)
place_of [] t h = absurd h
place_of (x ∷ l) t h = elim h [ inl e ↦ (zero, ap (λ (y : Timed). Some y) (sym e)) | inr r ↦ (let q = place_of l t r in (suc q.0, q.1)) ]

has_append : (k l : List Timed) (t : Timed) → Has t (k ++ l) → Has t k ⊎ Has t l
has_append [] l t h = inr h
has_append (x ∷ k) l t h = elim h [ inl e ↦ inl (inl e) | inr r ↦ elim (has_append k l t r) [ inl q ↦ inl (inr q) | inr q ↦ inr q ] ]

has_left : (k l : List Timed) (t : Timed) → Has t k → Has t (k ++ l)
has_left [] l t h = absurd h
has_left (x ∷ k) l t h = elim h [ inl e ↦ inl e | inr r ↦ inr (has_left k l t r) ]

has_right : (k l : List Timed) (t : Timed) → Has t l → Has t (k ++ l)
has_right [] l t h = h
has_right (x ∷ k) l t h = inr (has_right k l t h)

contains_has : (l : List Timed) (t : Timed) → Contains l t → Has t l
contains_has l t k = has_at l k.0 t (slice_get-get_or l k.0 t k.1 ∙ ap (λ (y : Timed). Some y) k.2)

has_contains : (l : List Timed) (t : Timed) → Has t l → Contains l t
has_contains l t h = let k = place_of l t h in (k.0, slice_get_within l k.0 t k.1, get_or_from_slice_get l k.0 t t k.1)

has_sorted : (l s : List Timed) (t : Timed) → IsPermutation l s → Has t l → Has t s
has_sorted l s t moved h = contains_has s t (Contains-permutation l s t moved (has_contains l t h))

-- No event stands twice in what is left.
abbrev AllApart : List Timed → Type 0
AllApart [] = Unit {0}
AllApart (x ∷ l) = ((t : Timed) → Has t l → t.event ≡ x.event → ⊥) × AllApart l

apart_places : (l : List Timed) (i j : ℕ) (t u : Timed) → AllApart l → slice_get l i ≡ Some t → slice_get l j ≡ Some u → t.event ≡ u.event → i ≡ j
apart_places [] i j t u k e f same = absurd (cc)
apart_places (x ∷ l) zero zero t u k e f same = refl
apart_places (x ∷ l) zero (suc j) t u k e f same = let head : x ≡ t = cc in absurd (k.0 u (has_at l j u f) (sym same ∙ ap (λ (y : Timed). y.event) (sym head)))
apart_places (x ∷ l) (suc i) zero t u k e f same = let head : x ≡ u = cc in absurd (k.0 t (has_at l i t e) (same ∙ ap (λ (y : Timed). y.event) (sym head)))
apart_places (x ∷ l) (suc i) (suc j) t u k e f same = ap suc (apart_places l i j t u k.1 e f same)

once_apart : (l : List Timed) → AllApart l → Once l
once_apart l k i j d h m e = apart_places l i j (get_or l i d) (get_or l j d) k (slice_get-get_or l i d h) (slice_get-get_or l j d m) e

-- ---- the events, call by call

module _ {Reply : Type 0} where
  -- the return event in the list is that of the reply
  return_there : (n : ℕ) (o : Option (ℕ × Reply)) (t : Timed) → Has t (return_of n o) → (r : ℕ × Reply) × (o ≡ Some r) × (t.number ≡ r.0) × (t.event ≡ Return n)
  return_there n None t h = absurd h
  return_there n (Some r) t h = elim h [
    | inl e ↦ (r, refl, ap (λ (y : Timed). y.number) e, ap (λ (y : Timed). y.event) e)
    | inr k ↦ absurd k
  ]

  return_has : (n : ℕ) (o : Option (ℕ × Reply)) (r : ℕ × Reply) → o ≡ Some r → Has (record { number = r.0; event = Return n }) (return_of n o)
  return_has n o r e = rw e (inl refl)

  apart_with : (n : ℕ) (x : Timed) (o : Option (ℕ × Reply)) (l : List Timed) → x.event ≡ Call n → ((t : Timed) → Has t l → n + 1 ≤ call_of t.event) → AllApart l → AllApart (x ∷ (return_of n o ++ l))
  apart_with n x None l e late k = (λ t h same. let low = late t h in let m = ap call_of (same ∙ e) in omega (arith, low, m), k)
  apart_with n x (Some r) l e late k = (
    λ t h same. elim h [
      | inl q ↦ call_or_return n n (sym (sym (ap (λ (y : Timed). y.event) q) ∙ same ∙ e))
      | inr q ↦ (let low = late t q in let m = ap call_of (same ∙ e) in omega (arith, low, m))
    ],
    (λ t h same. let low = late t h in let m = ap call_of same in omega (arith, low, m), k),
  )

module _ {Op Reply : Type 0} where
  -- What an event of the list is: the call event of a call.
  abbrev IsCallIn : ℕ → List (ProblemCall Op Reply) → Timed → ℕ → Type 0
  IsCallIn n cs t k = (c : ℕ) × (x : ProblemCall Op Reply) × (k ≡ n + c) × (slice_get cs c ≡ Some x) × (t.number ≡ x.called)

  -- Or the return event.
  abbrev IsReturnIn : ℕ → List (ProblemCall Op Reply) → Timed → ℕ → Type 0
  IsReturnIn n cs t k = (c : ℕ) × (x : ProblemCall Op Reply) × (r : ℕ × Reply) × (k ≡ n + c) × (slice_get cs c ≡ Some x) × (x.returned ≡ Some r) × (t.number ≡ r.0)

  -- an event of the first call, or of the others
  split : (n : ℕ) (x : ProblemCall Op Reply) (cs : List (ProblemCall Op Reply)) (t : Timed) → Has t (events_from n (x ∷ cs)) → (t ≡ record { number = x.called; event = Call n }) ⊎ (Has t (return_of n x.returned) ⊎ Has t (events_from (n + 1) cs))
  split n x cs t h = elim (has_append (events_of_call n x) (events_from (n + 1) cs) t h) [
    | inl q ↦ elim q [ inl e ↦ inl e | inr r ↦ inr (inl r) ]
    | inr q ↦ inr (inr q)
  ]

  late : (n : ℕ) (cs : List (ProblemCall Op Reply)) (t : Timed) → Has t (events_from n cs) → n ≤ call_of t.event
  late n [] t h = absurd h
  late n (x ∷ cs) t h = elim (split n x cs t h) [
    | inl e ↦ (let m = ap (λ (y : Timed). call_of y.event) e in omega (arith, m))
    | inr q ↦ elim q [
      | inl k ↦ (let r = return_there n x.returned t k in let m = ap call_of r.3 in omega (arith, m))
      | inr k ↦ (let low = late (n + 1) cs t k in omega (arith, low))
    ]
  ]

  all_apart : (n : ℕ) (cs : List (ProblemCall Op Reply)) → AllApart (events_from n cs)
  all_apart n [] = tt
  all_apart n (x ∷ cs) = apart_with n (record { number = x.called; event = Call n }) x.returned (events_from (n + 1) cs) refl (late (n + 1) cs) (all_apart (n + 1) cs)

  call_in : (n : ℕ) (cs : List (ProblemCall Op Reply)) (t : Timed) (k : ℕ) → Has t (events_from n cs) → t.event ≡ Call k → IsCallIn n cs t k
  call_in n [] t k h e = absurd h
  call_in n (x ∷ cs) t k h e = elim (split n x cs t h) [
    | inl q ↦ (let m = same_call n k (sym (ap (λ (y : Timed). y.event) q) ∙ e) in (zero, x, omega (arith, m), refl, ap (λ (y : Timed). y.number) q))
    | inr q ↦ elim q [
      | inl r ↦ absurd (call_or_return k n (sym e ∙ (return_there n x.returned t r).3))
      | inr r ↦ (let s = call_in (n + 1) cs t k r e in let m = s.2 in (suc s.0, s.1, omega (arith, m), s.3, s.4))
    ]
  ]

  return_in : (n : ℕ) (cs : List (ProblemCall Op Reply)) (t : Timed) (k : ℕ) → Has t (events_from n cs) → t.event ≡ Return k → IsReturnIn n cs t k
  return_in n [] t k h e = absurd h
  return_in n (x ∷ cs) t k h e = elim (split n x cs t h) [
    | inl q ↦ absurd (call_or_return n k (sym (ap (λ (y : Timed). y.event) q) ∙ e))
    | inr q ↦ elim q [
      | inl r ↦ (let s = return_there n x.returned t r in let m = same_return n k (sym s.3 ∙ e) in (zero, x, s.0, omega (arith, m), refl, s.1, s.2))
      | inr r ↦ (let s = return_in (n + 1) cs t k r e in let m = s.3 in (suc s.0, s.1, s.2, omega (arith, m), s.4, s.5, s.6))
    ]
  ]

  has_call : (n m : ℕ) (cs : List (ProblemCall Op Reply)) (c : ℕ) (x : ProblemCall Op Reply) → m ≡ n + c → slice_get cs c ≡ Some x → Has (record { number = x.called; event = Call m }) (events_from n cs)
  has_call n m [] c x k e = absurd (cc)
  has_call n m (y ∷ cs) zero x k e = let same : y ≡ x = cc in let at : m ≡ n = omega (arith, k) in rw (← same, at) (inl refl)
  has_call n m (y ∷ cs) (suc c) x k e = has_right (events_of_call n y) (events_from (n + 1) cs) (record { number = x.called; event = Call m }) (has_call (n + 1) m cs c x (omega (arith, k)) e)

  has_return : (n m : ℕ) (cs : List (ProblemCall Op Reply)) (c : ℕ) (x : ProblemCall Op Reply) (r : ℕ × Reply) → m ≡ n + c → slice_get cs c ≡ Some x → x.returned ≡ Some r → Has (record { number = r.0; event = Return m }) (events_from n cs)
  has_return n m [] c x r k e f = absurd (cc)
  has_return n m (y ∷ cs) zero x r k e f =
      let same : y ≡ x = cc in
      let at : m ≡ n = omega (arith, k) in
      let P : ℕ → Type 0 = λ k. Has (record { number = r.0; event = Return k }) (events_from n (y ∷ cs)) in
      subst P (sym at) (has_left (events_of_call n y) (events_from (n + 1) cs) (record { number = r.0; event = Return n }) (inr (return_has n y.returned r (ap (λ (z : ProblemCall Op Reply). z.returned) same ∙ f))))
  has_return n m (y ∷ cs) (suc c) x r k e f = has_right (events_of_call n y) (events_from (n + 1) cs) (record { number = r.0; event = Return m }) (has_return (n + 1) m cs c x r (omega (arith, k)) e f)

-- ---- sorted

is_some : {A : Type 0} (o : Option A) → IsSome o → (x : A) × (o ≡ Some x)
is_some None h = absurd (cc)
is_some (Some x) h = (x, refl)

there : {A : Type 0} (xs : List A) (i : ℕ) → i < length xs → (x : A) × (slice_get xs i ≡ Some x)
there [] i h = absurd (omega (arith, h))
there (x ∷ xs) zero h = (x, refl)
there (x ∷ xs) (suc i) h = there xs i (omega (arith, h))

event_there : (s : List Timed) (i : ℕ) (e : ProblemEvent) → slice_get (map event_at s) i ≡ Some e → (t : Timed) × (slice_get s i ≡ Some t) × (t.event ≡ e)
event_there [] i e h = absurd (cc)
event_there (t ∷ s) zero e h = (t, refl, same_Some t.event e h)
event_there (t ∷ s) (suc i) e h = event_there s i e h

there_event : (s : List Timed) (i : ℕ) (t : Timed) → slice_get s i ≡ Some t → slice_get (map event_at s) i ≡ Some t.event
there_event s i t e = slice_get-map event_at s i ∙ ap (λ (o : Option Timed). option_map event_at o) e

sorted_low : (s : List Timed) (i j : ℕ) (t u : Timed) → IsNonDecreasingBy number_at s → i ≤ j → slice_get s i ≡ Some t → slice_get s j ≡ Some u → t.number ≤ u.number
sorted_low s i j t u up h e f =
    let low = up i j t h (slice_get_within s j u f) in
    let m = ap (λ (y : Timed). y.number) (get_or_from_slice_get s i t t e) in
    let n = ap (λ (y : Timed). y.number) (get_or_from_slice_get s j u t f) in
    omega (arith, low, m, n)

sorted_before : (s : List Timed) (i j : ℕ) (t u : Timed) → IsNonDecreasingBy number_at s → slice_get s i ≡ Some t → slice_get s j ≡ Some u → t.number < u.number → i < j
sorted_before s i j t u up e f h = elim (cases_lt i j) [
  | inl q ↦ q
  | inr q ↦ (let low = sorted_low s j i u t up q f e in absurd (omega (arith, low, h)))
]

few_returns : {Reply : Type 0} → (n : ℕ) (o : Option (ℕ × Reply)) → length (return_of n o) ≤ 1
few_returns n None = omega arith
few_returns n (Some r) = omega arith

few_events : {Op Reply : Type 0} → (n : ℕ) (cs : List (ProblemCall Op Reply)) → length (events_from n cs) ≤ length cs + length cs
few_events n [] = omega arith
few_events n (x ∷ xs) =
    let few = few_returns n x.returned in
    let rest = few_events (n + 1) xs in
    let both = length-append (return_of n x.returned) (events_from (n + 1) xs) in
    omega (arith, few, rest, both)

module _ {State Op Reply : Type 0} (p : Problem State Op Reply) (timed : AreTimed p.calls) (s : List Timed) (up : IsNonDecreasingBy number_at s) (moved : IsPermutation (events_from 0 p.calls) s) where
  from_sorted : (i : ℕ) (t : Timed) → slice_get s i ≡ Some t → Has t (events_from 0 p.calls)
  from_sorted i t e = has_sorted s (events_from 0 p.calls) t (IsPermutation-sym (events_from 0 p.calls) s moved) (has_at s i t e)

  -- The event at the place is the call event of this call.
  abbrev CallAt : ℕ → ℕ → Type 0
  CallAt i c = (t : Timed) × (x : ProblemCall Op Reply) × (slice_get s i ≡ Some t) × (slice_get p.calls c ≡ Some x) × (t.number ≡ x.called)

  -- The event at the place is the return event of this call.
  abbrev ReturnAt : ℕ → ℕ → Type 0
  ReturnAt i c = (t : Timed) × (x : ProblemCall Op Reply) × (r : ℕ × Reply) × (slice_get s i ≡ Some t) × (slice_get p.calls c ≡ Some x) × (x.returned ≡ Some r) × (t.number ≡ r.0)

  call_at : (i c : ℕ) → slice_get (map event_at s) i ≡ Some (Call c) → CallAt i c
  call_at i c e =
      let t = event_there s i (Call c) e in
      let k = call_in 0 p.calls t.0 c (from_sorted i t.0 t.1) t.2 in
      let m = k.2 in let same : c ≡ k.0 = omega (arith, m) in
      (t.0, k.1, t.1, ap (λ (n : ℕ). slice_get p.calls n) same ∙ k.3, k.4)

  return_at : (i c : ℕ) → slice_get (map event_at s) i ≡ Some (Return c) → ReturnAt i c
  return_at i c e =
      let t = event_there s i (Return c) e in
      let k = return_in 0 p.calls t.0 c (from_sorted i t.0 t.1) t.2 in
      let m = k.3 in let same : c ≡ k.0 = omega (arith, m) in
      (t.0, k.1, k.2, t.1, ap (λ (n : ℕ). slice_get p.calls n) same ∙ k.4, k.5, k.6)

  event_place : (t : Timed) → Has t (events_from 0 p.calls) → (i : ℕ) × (slice_get (map event_at s) i ≡ Some t.event)
  event_place t h = let k = place_of s t (has_sorted (events_from 0 p.calls) s t moved h) in (k.0, there_event s k.0 t k.1)

  has_called : (c : ℕ) → c < length p.calls → (i : ℕ) × (slice_get (map event_at s) i ≡ Some (Call c))
  has_called c h = let x = there p.calls c h in event_place (record { number = x.0.called; event = Call c }) (has_call 0 c p.calls c x.0 (omega arith) x.1)

  has_returned : (c : ℕ) → IsCompleted p c → (i : ℕ) × (slice_get (map event_at s) i ≡ Some (Return c))
  has_returned c h =
      let x = some_and (slice_get p.calls c) (λ x. IsSome x.returned) h in
      let r = is_some x.0.returned x.2 in
      event_place (record { number = r.0.0; event = Return c }) (has_return 0 c p.calls c x.0 r.0 (omega arith) x.1 r.1)

  stands_once : (i j : ℕ) (e : ProblemEvent) → slice_get (map event_at s) i ≡ Some e → slice_get (map event_at s) j ≡ Some e → i ≡ j
  stands_once i j e f g =
      let t = event_there s i e f in
      let u = event_there s j e g in
      let a = get_or_from_slice_get s i t.0 t.0 t.1 in
      let b = get_or_from_slice_get s j u.0 t.0 u.1 in
      once_sorted (events_from 0 p.calls) s moved (once_apart (events_from 0 p.calls) (all_apart 0 p.calls)) i j t.0 (slice_get_within s i t.0 t.1) (slice_get_within s j u.0 u.1)
      (ap (λ (y : Timed). y.event) a ∙ t.2 ∙ sym u.2 ∙ ap (λ (y : Timed). y.event) (sym b))

  completed : (i c : ℕ) → ReturnAt i c → IsCompleted p c
  completed i c k = and_some (slice_get p.calls c) (λ x. IsSome x.returned) k.1 k.4 (some_is k.1.returned k.2 k.5)

  calls_rise : (a b i j : ℕ) → CallAt i a → CallAt j b → a < b → i < j
  calls_rise a b i j k m h =
      let low = timed.called a b k.1 m.1 h k.3 m.3 in
      let e = k.4 in let f = m.4 in
      sorted_before s i j k.0 m.0 up k.2 m.2 (omega (arith, low, e, f))

  one_call : (c : ℕ) (x y : ProblemCall Op Reply) → slice_get p.calls c ≡ Some x → slice_get p.calls c ≡ Some y → x ≡ y
  one_call c x y e f = same_Some x y (sym e ∙ f)

  returns_after : (a i j : ℕ) → CallAt i a → ReturnAt j a → i < j
  returns_after a i j k m =
      let low = timed.returned a m.1 m.2 m.4 m.5 in
      let same = ap (λ (z : ProblemCall Op Reply). z.called) (one_call a k.1 m.1 k.3 m.4) in
      let e = k.4 in let f = m.6 in
      sorted_before s i j k.0 m.0 up k.2 m.3 (omega (arith, low, same, e, f))

  comes_before : (a b i j : ℕ) → ReturnAt i a → CallAt j b → i < j → Before p a b
  comes_before a b i j k m h =
      let low = sorted_low s i j k.0 m.0 up (omega (arith, h)) k.3 m.2 in
      let apart = timed.apart a b k.1 m.1 k.2 k.4 m.3 k.5 in
      let e = k.6 in let f = m.4 in
      let less : k.2.0 < m.1.called = omega (arith, low, apart, e, f) in
      and_some (slice_get p.calls a) (λ x. IsSomeAnd x.returned (λ r. IsSomeAnd (slice_get p.calls b) (λ y. r.0 < y.called))) k.1 k.4
      (and_some k.1.returned (λ r. IsSomeAnd (slice_get p.calls b) (λ y. r.0 < y.called)) k.2 k.5 (and_some (slice_get p.calls b) (λ y. k.2.0 < y.called) m.1 m.3 less))

  one_return : (o : Option (ℕ × Reply)) (r u : ℕ × Reply) → o ≡ Some r → o ≡ Some u → r ≡ u
  one_return o r u e f = same_Some r u (sym e ∙ f)

  stands_before : (a b i j : ℕ) → ReturnAt i a → CallAt j b → Before p a b → i < j
  stands_before a b i j k m h =
      let x = some_and (slice_get p.calls a) (λ x. IsSomeAnd x.returned (λ r. IsSomeAnd (slice_get p.calls b) (λ y. r.0 < y.called))) h in
      let r = some_and x.0.returned (λ r. IsSomeAnd (slice_get p.calls b) (λ y. r.0 < y.called)) x.2 in
      let y = some_and (slice_get p.calls b) (λ y. r.0.0 < y.called) r.2 in
      let same_x = one_call a x.0 k.1 x.1 k.4 in
      let same_r = ap (λ (z : ℕ × Reply). z.0) (one_return x.0.returned r.0 k.2 r.1 (ap (λ (z : ProblemCall Op Reply). z.returned) same_x ∙ k.5)) in
      let same_y = ap (λ (z : ProblemCall Op Reply). z.called) (one_call b y.0 m.1 y.1 m.3) in
      let low = y.2 in let e = k.6 in let f = m.4 in
      sorted_before s i j k.0 m.0 up k.3 m.2 (omega (arith, low, same_r, same_y, e, f))

  -- the number of the event at a place is the one that it was sorted by
  numbered_at : (i n : ℕ) (e : ProblemEvent) → slice_get (map event_at s) i ≡ Some e → HasNumber p e n → (t : Timed) × (slice_get s i ≡ Some t) × (t.number ≡ n)
  numbered_at i n (Call c) at h =
      let k = call_at i c at in
      let x = some_and (slice_get p.calls c) (λ x. x.called ≡ n) h in
      (k.0, k.2, k.4 ∙ ap (λ (z : ProblemCall Op Reply). z.called) (one_call c k.1 x.0 k.3 x.1) ∙ x.2)
  numbered_at i n (Return c) at h =
      let k = return_at i c at in
      let x = some_and (slice_get p.calls c) (λ x. IsSomeAnd x.returned (λ r. r.0 ≡ n)) h in
      let r = some_and x.0.returned (λ r. r.0 ≡ n) x.2 in
      let same = ap (λ (z : ProblemCall Op Reply). z.returned) (one_call c x.0 k.1 x.1 k.4) ∙ k.5 in
      (k.0, k.3, k.6 ∙ ap (λ (z : ℕ × Reply). z.0) (one_return x.0.returned k.2 r.0 same r.1) ∙ r.2)

  numbers_rise : (i j m n : ℕ) (d e : ProblemEvent) → slice_get (map event_at s) i ≡ Some d → slice_get (map event_at s) j ≡ Some e → i < j → HasNumber p d m → HasNumber p e n → m ≤ n
  numbers_rise i j m n d e at there h first second =
      let t = numbered_at i m d at first in
      let u = numbered_at j n e there second in
      let low = sorted_low s i j t.0 u.0 up (omega (arith, h)) t.1 u.1 in
      let a = t.2 in let b = u.2 in
      omega (arith, low, a, b)

  few_sorted : length (map event_at s) ≤ length p.calls + length p.calls
  few_sorted =
      let few = few_events 0 p.calls in
      let moves = length_permutation (events_from 0 p.calls) s moved in
      let bare = length-map s event_at in
      omega (arith, few, moves, bare)

  timeline_sorted : IsTimeline p (map event_at s)
  timeline_sorted = record {
    called = has_called;
    returned = has_returned;
    of_call = λ i c e. let k = call_at i c e in slice_get_within p.calls c k.1 k.3;
    of_return = λ i c e. completed i c (return_at i c e);
    once = stands_once;
    rises = numbers_rise;
    in_order = λ a b i j e f h. calls_rise a b i j (call_at i a e) (call_at j b f) h;
    after_call = λ a i j e f. returns_after a i j (call_at i a e) (return_at j a f);
    precedence = λ a b i j e f. (λ h. comes_before a b i j (return_at i a e) (call_at j b f) h, λ h. stands_before a b i j (return_at i a e) (call_at j b f) h);
    few = few_sorted;
  }

-- the events of the calls, in the order of their numbers, are the timeline
pub timeline_of : {State Op Reply : Type 0} (p : Problem State Op Reply) (calls : List (ProblemCall Op Reply)) (high : ℕ) (events : List ProblemEvent) → AreTimed p.calls → calls ≡ p.calls → AreMerged (events_from 0 calls) high events [] → IsTimeline p events
timeline_of {Op = Op} {Reply = Reply} p calls high events timed e merged =
    let moved : IsPermutation (events_from 0 calls) merged.rows = subst (λ l. IsPermutation (events_from 0 calls) l) (append-nil merged.rows) merged.moved in
    rw merged.same (timeline_sorted p timed merged.rows merged.sorted (subst (λ (c : List (ProblemCall Op Reply)). IsPermutation (events_from 0 c) merged.rows) e moved))
