-- What adds up on a counter: between two gets of a linearization stand all calls that must, and only calls that may.
use Rattle.std.proofs.Common.{◌≡◌, ◌≢◌, ℕ, zero, suc, ◌+◌, ◌<◌, ◌≤◌, Bool, true, false, not, Option, Some, None, List, [], ◌∷◌, ◌++◌, length, inl, inr, refl, sym, ◌∙◌, ap, subst, append_assoc, arith, if◌then◌else◌, ltb-true, le-leb}
use Rattle.std.specs.Prelude.{ℤ, pos, ◌+ℤ◌, ◌-ℤ◌, ◌<ℤ◌, slice_get, nat_lt, nat_le, ◌&&◌}
use Rattle.std.proofs.lemmas.Int.{ints}
use Rattle.lin_object.specs.declared.op.Op.{Op}
use Rattle.lin_object.specs.declared.op.Op.TheVariants.{Add, Get}
use Rattle.lin_object.specs.declared.reply.Reply.{Reply}
use Rattle.lin_object.specs.declared.reply.Reply.TheVariants.{Okay, Int}
use Rattle.lin_object.specs.declared.state.ObjState.{ObjState}
use Rattle.lin_object.specs.declared.state.ObjState.TheVariants.{Counter}
use Rattle.lin_object.specs.Kinds.Counter.{counter_step, is_in_range}
use Rattle.lin_history.specs.declared.problems.problem.ProblemCall.{ProblemCall}
use Rattle.lin_history.specs.ReplyLemmas.{reply_same}
use Rattle.lin_history.specs.Problems.Problem.{Problem}
use Rattle.lin_history.specs.Problems.ProblemParts.{ProblemParts}
use Rattle.lin_history.specs.Problems.AnyProblem.{any_problem}
use Rattle.lin_history.specs.Problems.Lists.{In, IsDistinct}
use Rattle.lin_history.specs.Problems.ListLemmas.{in_early, in_late, in_either, in_place, distinct_early, distinct_late, apart, has_none}
use Rattle.lin_history.specs.Problems.LegalLists.{fits, state_if_fits, after_call, next, Legal}
use Rattle.lin_history.specs.Problems.Precedence.{Before, IsCompleted}
use Rattle.lin_history.specs.Problems.Linearizations.{IsLinearization}
use Rattle.lin_laws.specs.Shares.{share_in, share_of, share_of_call, total, sum_of_shares}
use Rattle.lin_core.specs.declared.sum_faults.Times.{Times}
use Rattle.lin_core.specs.declared.sum_faults.Between.{Between}
use Rattle.lin_core.specs.declared.sum_faults.SumFault.{SumFault}
use Rattle.lin_core.specs.Sums.{is_back_before, is_after, is_over, must_come, may_come, sum_of, IsGet, IsCountedFrom, bound_of, IsBeyond, IsSumFault, SumLaw}
use Rattle.lin_core.proofs.OnValues.{both}

-- ---- sums over lists

total_append : (f : ℕ → ℕ) (xs ys : List ℕ) → total f (xs ++ ys) ≡ total f xs + total f ys
total_append f [] ys = omega arith
total_append f (x ∷ xs) ys = let h = total_append f xs ys in omega (arith, h)

without_in : (c d : ℕ) (early late : List ℕ) → In d (early ++ c ∷ late) → d ≢ c → In d (early ++ late)
without_in c d early late h ne = elim (in_either d early (c ∷ late) h) [
  | inl p ↦ in_early d early late p
  | inr (inl e) ↦ absurd (ne e)
  | inr (inr p) ↦ in_late d early late p
]

-- distinct calls of a list add no more than all of it
total_part : (f : ℕ → ℕ) (xs ys : List ℕ) → IsDistinct xs → ((c : ℕ) → In c xs → In c ys) → total f xs ≤ total f ys
total_part f [] ys d inside = omega arith
total_part f (x ∷ xs) ys d inside =
    let place = in_place x ys (inside x (inl refl)) in
    let rest = total_part f xs (place.0 ++ place.1) d.1 (λ c h. without_in x c place.0 place.1 (subst (λ (l : List ℕ). In c l) place.2 (inside c (inr h))) (λ e. d.0 (subst (λ (n : ℕ). In n xs) e h))) in
    let whole : total f ys ≡ total f place.0 + (f x + total f place.1) = ap (total f) place.2 ∙ total_append f place.0 (x ∷ place.1) in
    let parts = total_append f place.0 place.1 in
    omega (arith, rest, whole, parts)

-- ---- the calls of a list of which something holds

-- their numbers, where the first of the list has this number
abbrev chosen : (ProblemCall Op Reply → Bool) → ℕ → List (ProblemCall Op Reply) → List ℕ
chosen holds k [] = []
chosen holds k (x ∷ xs) = if holds x then k ∷ chosen holds (suc k) xs else chosen holds (suc k) xs

-- a list, and one number more where that is chosen
in_longer : (b : Bool) (c k : ℕ) (l : List ℕ) → In c l → In c (if b then k ∷ l else l)
in_longer true c k l h = inr h
in_longer false c k l h = h

in_chosen_or : {A : Type 0} (b : Bool) (c k : ℕ) (l : List ℕ) → (b ≡ true → c ≡ k → A) → (In c l → A) → In c (if b then k ∷ l else l) → A
in_chosen_or true c k l one more h = elim h [ inl e ↦ one refl e | inr m ↦ more m ]
in_chosen_or false c k l one more h = more h

distinct_more : (b : Bool) (k : ℕ) (l : List ℕ) → (In k l → ⊥) → IsDistinct l → IsDistinct (if b then k ∷ l else l)
distinct_more true k l out d = (out, d)
distinct_more false k l out d = d

first_in : (b : Bool) (k : ℕ) (l : List ℕ) → b ≡ true → In k (if b then k ∷ l else l)
first_in true k l e = inl refl
first_in false k l e = absurd (cc)

module _ (holds : ProblemCall Op Reply → Bool) (up : Bool) (calls : List (ProblemCall Op Reply)) where
  -- the calls from this number on are those of the list
  abbrev IsFrom : ℕ → List (ProblemCall Op Reply) → Type 0
  IsFrom k xs = (i : ℕ) → slice_get xs i ≡ slice_get calls (k + i)

  here : (k : ℕ) (x : ProblemCall Op Reply) (xs : List (ProblemCall Op Reply)) → IsFrom k (x ∷ xs) → slice_get calls k ≡ Some x
  here k x xs from = let e : k + 0 ≡ k = omega arith in sym (from 0 ∙ ap (λ (n : ℕ). slice_get calls n) e)

  beyond : (k : ℕ) (x : ProblemCall Op Reply) (xs : List (ProblemCall Op Reply)) → IsFrom k (x ∷ xs) → IsFrom (suc k) xs
  beyond k x xs from i = let e : k + suc i ≡ suc k + i = omega arith in from (suc i) ∙ ap (λ (n : ℕ). slice_get calls n) e

  sum_more : (b : Bool) (k n s : ℕ) (l : List ℕ) → s ≡ sum_of_shares up calls l → share_of_call up (slice_get calls k) ≡ n → (if b then n else 0) + s ≡ sum_of_shares up calls (if b then k ∷ l else l)
  sum_more true k n s l rest share = omega (arith, rest, share)
  sum_more false k n s l rest share = omega (arith, rest)

  sum_is : (k : ℕ) (xs : List (ProblemCall Op Reply)) → IsFrom k xs → sum_of holds up xs ≡ sum_of_shares up calls (chosen holds k xs)
  sum_is k [] from = refl
  sum_is k (x ∷ xs) from = sum_more (holds x) k (share_of up x.op) (sum_of holds up xs) (chosen holds (suc k) xs) (sum_is (suc k) xs (beyond k x xs from)) (ap (share_of_call up) (here k x xs from))

  abbrev IsChosen : ℕ → ℕ → Type 0
  IsChosen k c = (k ≤ c) × ((x : ProblemCall Op Reply) × (slice_get calls c ≡ Some x) × (holds x ≡ true))

  in_chosen : (c k : ℕ) (xs : List (ProblemCall Op Reply)) → IsFrom k xs → In c (chosen holds k xs) → IsChosen k c
  in_chosen c k [] from h = absurd h
  in_chosen c k (x ∷ xs) from h =
      in_chosen_or (holds x) c k (chosen holds (suc k) xs)
      (λ e same. (omega (arith, same), (x, ap (λ (n : ℕ). slice_get calls n) same ∙ here k x xs from, e)))
      (λ more. let r = in_chosen c (suc k) xs (beyond k x xs from) more in let l = r.0 in (omega (arith, l), r.1))
      h

  chosen_in : (k i : ℕ) (xs : List (ProblemCall Op Reply)) (x : ProblemCall Op Reply) → slice_get xs i ≡ Some x → holds x ≡ true → In (k + i) (chosen holds k xs)
  chosen_in k i [] x there h = absurd (cc)
  chosen_in k zero (y ∷ xs) x there h =
      let same : y ≡ x = cc in
      let e : k ≡ k + 0 = omega arith in
      subst (λ (n : ℕ). In n (chosen holds k (y ∷ xs))) e (first_in (holds y) k (chosen holds (suc k) xs) (ap holds same ∙ h))
  chosen_in k (suc i) (y ∷ xs) x there h =
      let e : suc k + i ≡ k + suc i = omega arith in
      subst (λ (n : ℕ). In n (chosen holds k (y ∷ xs))) e (in_longer (holds y) (suc k + i) k (chosen holds (suc k) xs) (chosen_in (suc k) i xs x there h))

  distinct : (k : ℕ) (xs : List (ProblemCall Op Reply)) → IsFrom k xs → IsDistinct (chosen holds k xs)
  distinct k [] from = tt
  distinct k (x ∷ xs) from = distinct_more (holds x) k (chosen holds (suc k) xs) (λ h. let l = (in_chosen k (suc k) xs (beyond k x xs from) h).0 in omega (arith, l)) (distinct (suc k) xs (beyond k x xs from))

  all_of : IsFrom 0 calls
  all_of i = let e : 0 + i ≡ i = omega arith in ap (λ (n : ℕ). slice_get calls n) (sym e)

  -- a list that has all these calls adds as much at least
  sum_within : (l : List ℕ) → ((c : ℕ) (x : ProblemCall Op Reply) → slice_get calls c ≡ Some x → holds x ≡ true → In c l) → sum_of holds up calls ≤ sum_of_shares up calls l
  sum_within l inside =
      let e = sum_is 0 calls all_of in
      let h = total_part (λ c. share_of_call up (slice_get calls c)) (chosen holds 0 calls) l (distinct 0 calls all_of) (λ c h. let k = in_chosen c 0 calls all_of h in inside c k.1.0 k.1.1 k.1.2) in
      omega (arith, e, h)

  -- a list of distinct calls that has no others adds no more
  sum_over : (l : List ℕ) → IsDistinct l → ((c : ℕ) → In c l → (x : ProblemCall Op Reply) × (slice_get calls c ≡ Some x) × (holds x ≡ true)) → sum_of_shares up calls l ≤ sum_of holds up calls
  sum_over l d inside =
      let e = sum_is 0 calls all_of in
      let h = total_part (λ c. share_of_call up (slice_get calls c)) l (chosen holds 0 calls) d (λ c h. let k = inside c h in let z : 0 + c ≡ c = omega arith in subst (λ (n : ℕ). In n (chosen holds 0 calls)) z (chosen_in 0 c calls k.0 k.1 k.2)) in
      omega (arith, e, h)

-- ---- what a step of a counter adds

-- one number leads to another by what the operation adds
abbrev Leads : ℤ → Op → ℤ → Type 0
Leads n op k = (up : Bool) → share_in up n + share_of up op + share_in (not up) k ≡ share_in up k + share_in (not up) n + share_of (not up) op

leads_by : (n d : ℤ) → Leads n (Add d) (n +ℤ d)
leads_by n d true = omega (arith, ints)
leads_by n d false = omega (arith, ints)

leads_get : (n : ℤ) → Leads n Get n
leads_get n up = omega arith

add_moves : (b : Bool) (n d : ℤ) (m : ObjState) (r : Reply) → ◌≡◌ {A = Option (ObjState × Reply)} (if b then Some (Counter (n +ℤ d), Okay) else None) (Some (m, r)) → m ≡ Counter (n +ℤ d)
add_moves true n d m r e = let h : ◌≡◌ {A = ObjState × Reply} (m, r) (Counter (n +ℤ d), Okay) = cc in ap (λ (a : ObjState × Reply). a.0) h
add_moves false n d m r e = absurd (cc)

no_step : (m : ObjState) (r : Reply) → ◌≡◌ {A = Option (ObjState × Reply)} None (Some (m, r)) → ⊥
no_step m r e = absurd (cc)

counter_moves : (n : ℤ) (op : Op) (m : ObjState) (r : Reply) → counter_step n op ≡ Some (m, r) → (k : ℤ) × (m ≡ Counter k) × Leads n op k
counter_moves n (Add d) m r e = (n +ℤ d, add_moves (is_in_range (n +ℤ d)) n d m r e, leads_by n d)
counter_moves n Get m r e = (n, (let h : ◌≡◌ {A = ObjState × Reply} (m, r) (Counter n, Int n) = cc in ap (λ (a : ObjState × Reply). a.0) h), leads_get n)
counter_moves n op m r e = absurd (no_step m r e)

-- a get returns with the number that is there, which stays
get_answer : (n : ℤ) (op : Op) (m : ObjState) (r : Reply) → op ≡ Get → counter_step n op ≡ Some (m, r) → (m ≡ Counter n) × (r ≡ Int n)
get_answer n op m r is e =
    let f : counter_step n Get ≡ Some (m, r) = subst (λ (o : Op). counter_step n o ≡ Some (m, r)) is e in
    let h : ◌≡◌ {A = ObjState × Reply} (m, r) (Counter n, Int n) = cc in
    (ap (λ (a : ObjState × Reply). a.0) h, ap (λ (a : ObjState × Reply). a.1) h)

same_int : (n v : ℤ) → Int n ≡ Int v → n ≡ v
same_int n v e = cc

-- ---- events

back_before : (event : ℕ) (returned : Option (ℕ × Reply)) → is_back_before event returned ≡ true → (r : ℕ × Reply) × (returned ≡ Some r) × (r.0 < event)
back_before event None e = absurd (cc)
back_before event (Some r) e = (r, refl, ltb-true r.0 event e)

not_back : (event : ℕ) (returned : Option (ℕ × Reply)) → ((r : ℕ × Reply) → returned ≡ Some r → r.0 < event → ⊥) → not (is_back_before event returned) ≡ true
not_back event None f = refl
not_back event (Some r) f = go (nat_lt r.0 event) refl
  where
    go : (b : Bool) → nat_lt r.0 event ≡ b → not b ≡ true
    go true e = absurd (f r refl (ltb-true r.0 event e))
    go false e = refl

and_true : (a b : Bool) → a ≡ true → b ≡ true → a && b ≡ true
and_true true true e f = refl
and_true true false e f = absurd (cc)
and_true false b e f = absurd (cc)

at_most : (a b : ℕ) → (b < a → ⊥) → a ≤ b
at_most a b f = grind arith

-- the last sums: what must be there is, and what is there may be
low_sum : (base value bound : ℤ) (must may up down : ℕ) → must ≤ up → down ≤ may
    → share_in true base + up + share_in false value ≡ share_in true value + share_in false base + down
    → bound ≡ base +ℤ pos must -ℤ pos may → value <ℤ bound → ⊥
low_sum base value bound must may up down a b leads is beyond = omega (arith, ints)

high_sum : (base value bound : ℤ) (must may up down : ℕ) → must ≤ down → up ≤ may
    → share_in true base + up + share_in false value ≡ share_in true value + share_in false base + down
    → bound ≡ base -ℤ pos must +ℤ pos may → bound <ℤ value → ⊥
high_sum base value bound must may up down a b leads is beyond = omega (arith, ints)

module _ {Object : Type 0} (parts : ProblemParts Object ObjState Op Reply) where
  abbrev p : Problem ObjState Op Reply
  p = any_problem parts

  there_in : (s m : ObjState) (o : Option (ProblemCall Op Reply)) → after_call p s o ≡ Some m → (x : ProblemCall Op Reply) × (o ≡ Some x)
  there_in s m None e = absurd (cc)
  there_in s m (Some x) e = (x, refl)

  -- a call that has a step is there
  step_there : (s m : ObjState) (c : ℕ) → next p s c ≡ Some m → (x : ProblemCall Op Reply) × (slice_get p.calls c ≡ Some x)
  step_there s m c e = there_in s m (slice_get p.calls c) e

  given : (answer : Option (ObjState × Reply)) (recorded : Option (ℕ × Reply)) (m : ObjState) → state_if_fits p.same_reply recorded answer ≡ Some m → (r : Reply) × (answer ≡ Some (m, r)) × (fits p.same_reply r recorded ≡ true)
  given None recorded m e = absurd (cc)
  given (Some answer) recorded m e = go (fits p.same_reply answer.1 recorded) refl e
    where
      go : (b : Bool) → fits p.same_reply answer.1 recorded ≡ b → (if b then Some answer.0 else None) ≡ Some m → (r : Reply) × (◌≡◌ {A = Option (ObjState × Reply)} (Some answer) (Some (m, r))) × (fits p.same_reply r recorded ≡ true)
      go true f g = (answer.1, (let h : answer.0 ≡ m = cc in ap (λ (x : ObjState). Some (x, answer.1)) h), f)
      go false f g = absurd (cc)

  -- the answer of a call's step on a counter
  answered : (n : ℤ) (m : ObjState) (c : ℕ) (x : ProblemCall Op Reply) → slice_get p.calls c ≡ Some x → next p (Counter n) c ≡ Some m → (r : Reply) × (counter_step n x.op ≡ Some (m, r)) × (fits p.same_reply r x.returned ≡ true)
  answered n m c x there step = given (counter_step n x.op) x.returned m (subst (λ (o : Option (ProblemCall Op Reply)). after_call p (Counter n) o ≡ Some m) there step)

  -- a legal list leads from one number to another
  abbrev LeadsBy : ℤ → List ℕ → ℤ → Type 0
  LeadsBy n l k = (up : Bool) → share_in up n + sum_of_shares up p.calls l + share_in (not up) k ≡ share_in up k + share_in (not up) n + sum_of_shares (not up) p.calls l

  leads_more : (n j k : ℤ) (c : ℕ) (cs : List ℕ) (x : ProblemCall Op Reply) → slice_get p.calls c ≡ Some x → Leads n x.op j → LeadsBy j cs k → LeadsBy n (c ∷ cs) k
  leads_more n j k c cs x there one more up =
      let a = one up in
      let b = more up in
      let e : share_of_call up (slice_get p.calls c) ≡ share_of up x.op = ap (share_of_call up) there in
      let f : share_of_call (not up) (slice_get p.calls c) ≡ share_of (not up) x.op = ap (share_of_call (not up)) there in
      omega (arith, a, b, e, f)

  leads_none : (n : ℤ) → LeadsBy n [] n
  leads_none n up = omega arith

  counts : (l : List ℕ) (n : ℤ) (t : ObjState) → Legal p (Counter n) l t → (k : ℤ) × (t ≡ Counter k) × LeadsBy n l k
  counts [] n t e = (n, sym e, leads_none n)
  counts (c ∷ cs) n t (m, step, more) =
      let x = step_there (Counter n) m c step in
      let a = answered n m c x.0 x.1 step in
      let j = counter_moves n x.0.op m a.0 a.1 in
      let rest = counts cs j.0 t (subst (λ (s : ObjState). Legal p s cs t) j.1 more) in
      (rest.0, rest.1, leads_more n j.0 rest.0 c cs x.0 x.1 j.2 rest.2)

  -- each call of a legal list is there
  legal_there : (l : List ℕ) (s t : ObjState) (a : ℕ) → Legal p s l t → In a l → (x : ProblemCall Op Reply) × (slice_get p.calls a ≡ Some x)
  legal_there [] s t a k h = absurd h
  legal_there (c ∷ cs) s t a (m, step, more) (inl e) = let x = step_there s m c step in (x.0, ap (λ (n : ℕ). slice_get p.calls n) e ∙ x.1)
  legal_there (c ∷ cs) s t a (m, step, more) (inr h) = legal_there cs m t a more h

  legal_split : (xs ys : List ℕ) (s u : ObjState) → Legal p s (xs ++ ys) u → (t : ObjState) × Legal p s xs t × Legal p t ys u
  legal_split [] ys s u k = (s, refl, k)
  legal_split (x ∷ xs) ys s u k = let r = legal_split xs ys k.0 u k.2 in (r.0, (k.0, k.1, r.1), r.2)

  -- a get finds the number that is there
  got_here : (n value : ℤ) (m : ObjState) (times : Times) (g : ℕ) → IsGet p g times value → next p (Counter n) g ≡ Some m → (m ≡ Counter n) × (n ≡ value)
  got_here n value m times g (x, there, op, called, back) step =
      let a = answered n m g x there step in
      let k = get_answer n x.op m a.0 op a.1 in
      let f : p.same_reply a.0 (Int value) ≡ true = subst (λ (o : Option (ℕ × Reply)). fits p.same_reply a.0 o ≡ true) back a.2 in
      (k.0, same_int n value (sym k.1 ∙ reply_same a.0 (Int value) f))

  -- ---- which calls come before which

  before_by : (a b : ℕ) (x y : ProblemCall Op Reply) (r : ℕ × Reply) → slice_get p.calls a ≡ Some x → x.returned ≡ Some r → slice_get p.calls b ≡ Some y → r.0 < y.called → Before p a b
  before_by a b x y r there back here less = rw (there, back, here) less

  by_before : (a b : ℕ) (x y : ProblemCall Op Reply) (r : ℕ × Reply) → slice_get p.calls a ≡ Some x → x.returned ≡ Some r → slice_get p.calls b ≡ Some y → Before p a b → r.0 < y.called
  by_before a b x y r there back here before = rw (there, back, here) at before

  got_completed : (g : ℕ) (times : Times) (value : ℤ) → IsGet p g times value → IsCompleted p g
  got_completed g times value (x, there, op, called, back) = rw (there, back) refl

  no_share : (g : ℕ) (times : Times) (value : ℤ) (up : Bool) → IsGet p g times value → share_of_call up (slice_get p.calls g) ≡ 0
  no_share g times value up (x, there, op, called, back) = ap (share_of_call up) there ∙ ap (share_of up) op

  module _ (l : List ℕ) (lin : IsLinearization p l) where
    in_all : (g : ℕ) → IsCompleted p g → In g l
    in_all g done = elim (lin.complete g done) [
      | inl h ↦ absurd (let none = has_none (length p.calls) g in cc)
      | inr h ↦ h
    ]

    -- a call that precedes another stands in front of it
    in_front : (early late : List ℕ) (a b : ℕ) → l ≡ early ++ b ∷ late → Before p a b → In a early
    in_front early late a b e before = elim (lin.continuation.ordered early b late e a before) [
      | inl h ↦ absurd (let none = has_none (length p.calls) a in cc)
      | inr h ↦ h
    ]

    -- so it does not stand behind it
    not_behind : (early late : List ℕ) (a b : ℕ) → l ≡ early ++ b ∷ late → In a (b ∷ late) → Before p a b → ⊥
    not_behind early late a b e h before = Rattle.lin_history.specs.Problems.ListLemmas.apart a early (b ∷ late) (subst IsDistinct e lin.continuation.distinct) (in_front early late a b e before) h

    -- what stands between the start, or an earlier get, and a get
    record IsBetween (between : Between) (base value : ℤ) (wide list : List ℕ) : Type 0 where
      leads : LeadsBy base list value
      same : (up : Bool) → sum_of_shares up p.calls wide ≡ sum_of_shares up p.calls list
      must : (c : ℕ) (x : ProblemCall Op Reply) → slice_get p.calls c ≡ Some x → must_come between x ≡ true → In c wide
      distinct : IsDistinct list
      may : (c : ℕ) → In c list → (x : ProblemCall Op Reply) × (slice_get p.calls c ≡ Some x) × (may_come between x ≡ true)

    -- then the reply is not beyond the bound
    none_beyond : (between : Between) (base value bound : ℤ) (up : Bool) (must may : ℕ) (wide list : List ℕ) → IsBetween between base value wide list
        → must ≡ sum_of (must_come between) up p.calls → may ≡ sum_of (may_come between) (not up) p.calls → bound ≡ bound_of up base must may → IsBeyond up bound value → ⊥
    none_beyond between base value bound true must may wide list k is_must is_may is_bound beyond =
        let a = sum_within (must_come between) true p.calls wide k.must in
        let s = k.same true in
        let b = sum_over (may_come between) false p.calls list k.distinct k.may in
        low_sum base value bound must may (sum_of_shares true p.calls list) (sum_of_shares false p.calls list) (omega (arith, a, s, is_must)) (omega (arith, b, is_may)) (k.leads true) is_bound beyond
    none_beyond between base value bound false must may wide list k is_must is_may is_bound beyond =
        let a = sum_within (must_come between) false p.calls wide k.must in
        let s = k.same false in
        let b = sum_over (may_come between) true p.calls list k.distinct k.may in
        high_sum base value bound must may (sum_of_shares true p.calls list) (sum_of_shares false p.calls list) (omega (arith, a, s, is_must)) (omega (arith, b, is_may)) (k.leads true) is_bound beyond

    module _ (start : ℤ) (starts : p.start ≡ Counter start) (between : Between) (g : ℕ) (value : ℤ) (get : IsGet p g between.last value) where
      place : (front : List ℕ) × (back : List ℕ) × (l ≡ front ++ g ∷ back)
      place = in_place g l (in_all g (got_completed g between.last value get))

      abbrev front : List ℕ
      front = place.0

      abbrev back : List ℕ
      back = place.1

      abbrev end : ObjState
      end = lin.continuation.legal.0

      all_distinct : IsDistinct (front ++ g ∷ back)
      all_distinct = subst IsDistinct place.2 lin.continuation.distinct

      legal : Legal p (Counter start) (front ++ g ∷ back) end
      legal = subst (λ (m : List ℕ). Legal p (Counter start) m end) place.2 (subst (λ (s : ObjState). Legal p s l end) starts lin.continuation.legal.1)

      two : (t : ObjState) × Legal p (Counter start) front t × Legal p t (g ∷ back) end
      two = legal_split front (g ∷ back) (Counter start) end legal

      -- the number before the get is its reply
      found : (n : ℤ) → two.0 ≡ Counter n → n ≡ value
      found n is = (let step : Legal p (Counter n) (g ∷ back) end = subst (λ (s : ObjState). Legal p s (g ∷ back) end) is two.2 in (got_here n value step.0 between.last g get step.1).1)

      -- what returned before the get was called stands in front of it
      returned_in : (c : ℕ) (x : ProblemCall Op Reply) → slice_get p.calls c ≡ Some x → is_back_before between.last.called x.returned ≡ true → In c front
      returned_in c x there e =
          let r = back_before between.last.called x.returned e in
          let less = r.2 in
          let at = get.3 in
          in_front front back c g place.2 (before_by c g x get.0 r.0 there r.1 get.1 (omega (arith, less, at)))

      -- and what stands there was called before it returned
      called_by : (c : ℕ) (x : ProblemCall Op Reply) → slice_get p.calls c ≡ Some x → In c front → nat_le x.called between.last.returned ≡ true
      called_by c x there h = le-leb x.called between.last.returned (at_most x.called between.last.returned (λ less. not_precedes (before_by g c get.0 x (between.last.returned, Int value) get.1 get.4 there less)))
        where
          not_precedes : Before p g c → ⊥
          not_precedes before =
              let at = in_place c front h in
              let e : l ≡ at.0 ++ c ∷ (at.1 ++ g ∷ back) = place.2 ∙ ap (λ (m : List ℕ). m ++ g ∷ back) at.2 ∙ append_assoc at.0 (c ∷ at.1) (g ∷ back) in
              not_behind at.0 (at.1 ++ g ∷ back) g c e (inr (in_late g at.1 (g ∷ back) (inl refl))) before

      from_start : between.first ≡ None → IsBetween between start value front front
      from_start none =
          let k = counts front start two.0 two.1 in
          record {
            leads = subst (λ (n : ℤ). LeadsBy start front n) (found k.0 k.1) k.2;
            same = λ up. refl;
            must = λ c x there e. returned_in c x there (both (is_after between.first x.called) (is_back_before between.last.called x.returned) e).1;
            distinct = distinct_early front (g ∷ back) all_distinct;
            may = λ c h. (let x = legal_there front (Counter start) two.0 c two.1 h in (x.0, x.1, and_true (not (is_over between.first x.0.returned)) (nat_le x.0.called between.last.returned) (subst (λ (o : Option Times). not (is_over o x.0.returned) ≡ true) (sym none) refl) (called_by c x.0 x.1 h)));
          }

      -- ---- the same from an earlier get

      module _ (f : ℕ) (first : Times) (base : ℤ) (earlier : IsGet p f first base) (less : first.returned < between.last.called) (is_first : between.first ≡ Some first) where
        in_there : In f front
        in_there = in_front front back f g place.2 (before_by f g earlier.0 get.0 (first.returned, Int base) earlier.1 earlier.4 get.1 (let at = get.3 in omega (arith, less, at)))

        at : (lead : List ℕ) × (mid : List ℕ) × (front ≡ lead ++ f ∷ mid)
        at = in_place f front in_there

        abbrev lead : List ℕ
        lead = at.0

        abbrev mid : List ℕ
        mid = at.1

        whole : l ≡ lead ++ f ∷ (mid ++ g ∷ back)
        whole = place.2 ∙ ap (λ (m : List ℕ). m ++ g ∷ back) at.2 ∙ append_assoc lead (f ∷ mid) (g ∷ back)

        parted : (t : ObjState) × Legal p (Counter start) lead t × Legal p t (f ∷ mid) two.0
        parted = legal_split lead (f ∷ mid) (Counter start) two.0 (subst (λ (m : List ℕ). Legal p (Counter start) m two.0) at.2 two.1)

        -- the calls behind the earlier get lead from its reply on
        behind : Legal p (Counter base) mid two.0
        behind =
            let k = counts lead start parted.0 parted.1 in
            let step : Legal p (Counter k.0) (f ∷ mid) two.0 = subst (λ (s : ObjState). Legal p s (f ∷ mid) two.0) k.1 parted.2 in
            let got = got_here k.0 base step.0 first f earlier step.1 in
            subst (λ (s : ObjState). Legal p s mid two.0) (got.0 ∙ ap Counter got.1) step.2

        -- a call in front of the get that was called after the earlier one returned stands behind that
        must_behind : (c : ℕ) (x : ProblemCall Op Reply) → slice_get p.calls c ≡ Some x → first.returned < x.called → In c front → In c (f ∷ mid)
        must_behind c x there after h = elim (in_either c lead (f ∷ mid) (subst (λ (m : List ℕ). In c m) at.2 h)) [
          | inl early ↦ absurd (wrong early)
          | inr later ↦ later
        ]
          where
            wrong : In c lead → ⊥
            wrong early =
                let k = in_place c lead early in
                let e : l ≡ k.0 ++ c ∷ (k.1 ++ f ∷ (mid ++ g ∷ back)) = whole ∙ ap (λ (m : List ℕ). m ++ f ∷ (mid ++ g ∷ back)) k.2 ∙ append_assoc k.0 (c ∷ k.1) (f ∷ (mid ++ g ∷ back)) in
                not_behind k.0 (k.1 ++ f ∷ (mid ++ g ∷ back)) f c e (inr (in_late f k.1 (f ∷ (mid ++ g ∷ back)) (inl refl))) (before_by f c earlier.0 x (first.returned, Int base) earlier.1 earlier.4 there after)

        -- what stands behind it did not return before it was called
        may_behind : (c : ℕ) (x : ProblemCall Op Reply) → slice_get p.calls c ≡ Some x → In c mid → not (is_back_before first.called x.returned) ≡ true
        may_behind c x there h = not_back first.called x.returned (λ r back_at soon. not_behind lead (mid ++ g ∷ back) c f whole (inr (in_early c mid (g ∷ back) h)) (before_by c f x earlier.0 r there back_at earlier.1 (let called = earlier.3 in omega (arith, soon, called))))

        mid_in : (c : ℕ) → In c mid → In c front
        mid_in c h = subst (λ (m : List ℕ). In c m) (sym at.2) (in_late c lead (f ∷ mid) (inr h))

        from_get : IsBetween between base value (f ∷ mid) mid
        from_get =
            let k = counts mid base two.0 behind in
            record {
              leads = subst (λ (n : ℤ). LeadsBy base mid n) (found k.0 k.1) k.2;
              same = λ up. (let none = no_share f first base up earlier in omega (arith, none));
              must = λ c x there e. (
                  let k = both (is_after between.first x.called) (is_back_before between.last.called x.returned) e in
                  let after : nat_lt first.returned x.called ≡ true = subst (λ (o : Option Times). is_after o x.called ≡ true) is_first k.0 in
                  must_behind c x there (ltb-true first.returned x.called after) (returned_in c x there k.1));
              distinct = (distinct_late lead (f ∷ mid) (subst IsDistinct at.2 (distinct_early front (g ∷ back) all_distinct))).1;
              may = λ c h. (let x = legal_there mid (Counter base) two.0 c behind h in (x.0, x.1, and_true (not (is_over between.first x.0.returned)) (nat_le x.0.called between.last.returned) (subst (λ (o : Option Times). not (is_over o x.0.returned) ≡ true) (sym is_first) (may_behind c x.0 x.1 h)) (called_by c x.0 x.1 (mid_in c h))));
            }

    no_room : (fault : SumFault) → IsSumFault p fault → ⊥
    no_room fault k = go fault.from k.is_from
      where
        go : (from : Option ℕ) → IsCountedFrom p from k.between fault.base → ⊥
        go None (starts, none) = none_beyond k.between fault.base k.value fault.bound fault.up fault.must fault.may _ _ (from_start fault.base starts k.between fault.get k.value k.is_get none) k.must k.may k.bound k.beyond
        go (Some f) (first, earlier, less, is_first) = none_beyond k.between fault.base k.value fault.bound fault.up fault.must fault.may _ _ (from_get k.counter.0 k.counter.1 k.between fault.get k.value k.is_get f first fault.base earlier less is_first) k.must k.may k.bound k.beyond

  pub sum_law : SumLaw p
  sum_law fault k l lin = no_room l lin fault k
