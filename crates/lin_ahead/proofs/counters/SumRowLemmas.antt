-- The limits of a counter's gets, from sums by one pass over the events.
use Rattle.std.proofs.Common.{◌≡◌, ◌≢◌, ℕ, zero, suc, ◌+◌, ◌*◌, ◌<◌, ◌≤◌, ◌^◌, Bool, true, false, not, Option, Some, None, List, [], ◌∷◌, ◌++◌, length, replicate, take, ◌⊎◌, inl, inr, refl, sym, ◌∙◌, ap, subst, arith}
use Rattle.std.specs.Prelude.{ℤ, slice_get, slice_set, IfSome, IfNone, IsSomeAnd, IsSome}
use Rattle.std.proofs.lemmas.Option.{slice_get_within, slice_get-get_or, get_or_from_slice_get}
use lib.ListN.{get_or}
use Rattle.std.proofs.lemmas.List.{get_or-set_same, get_or-set_other, get_or-replicate, length-set, length-replicate, length-append}
use Rattle.std.proofs.Math.Seq.{take-suc}
use Rattle.lin_object.specs.declared.op.Op.{Op}
use Rattle.lin_object.specs.declared.op.Op.TheVariants.{Get}
use Rattle.lin_object.specs.declared.reply.Reply.{Reply}
use Rattle.lin_object.specs.declared.reply.Reply.TheVariants.{Int}
use Rattle.lin_object.specs.declared.state.ObjState.{ObjState}
use Rattle.lin_history.specs.declared.problems.problem.ProblemCall.{ProblemCall}
use Rattle.lin_history.specs.declared.problems.timeline.ProblemEvent.{ProblemEvent}
use Rattle.lin_history.specs.declared.problems.timeline.ProblemEvent.TheVariants.{Call, Return}
use Rattle.lin_history.specs.OptionLemmas.{some_and}
use Rattle.lin_history.specs.Problems.EventLemmas.{call_of, call_or_return}
use Rattle.lin_history.specs.Problems.Problem.{Problem}
use Rattle.lin_history.specs.Problems.Lists.{In, IsDistinct}
use Rattle.lin_history.specs.Problems.Precedence.{Before, IsCompleted}
use Rattle.lin_history.specs.Problems.Timeline.{IsTimeline}
use Rattle.lin_ahead.specs.declared.counters.rows.SumLimit.{SumLimit}
use Rattle.lin_ahead.specs.Counters.Sums.{IsSumOfAll, MayStandBefore, Got, IsLimit, IsLimitOf, AreLimits, event_of, counted, AreSumsAt}
use Rattle.lin_laws.specs.Shares.{share_of_call, sum_of_shares}
use Rattle.lin_ahead.proofs.counters.SumLemmas.{total_append}

-- ---- elements of lists

set_same : {A : Type 0} (xs : List A) (i : ℕ) (y : A) → i < length xs → slice_get (slice_set xs i y) i ≡ Some y
set_same xs i y h = let k = length-set xs i y in slice_get-get_or (slice_set xs i y) i y (omega (arith, h, k)) ∙ ap Some (get_or-set_same xs i y y h)

set_other : {A : Type 0} (xs : List A) (i j : ℕ) (y z : A) → j ≢ i → slice_get xs j ≡ Some z → slice_get (slice_set xs i y) j ≡ Some z
set_other xs i j y z ne h =
    let k = length-set xs i y in
    let w = slice_get_within xs j z h in
    slice_get-get_or (slice_set xs i y) j z (omega (arith, k, w)) ∙ ap Some (get_or-set_other xs i j y z ne ∙ get_or_from_slice_get xs j z z h)

-- what was written at an index, or what was there
written : {A : Type 0} (xs : List A) (i j : ℕ) (y z : A) → slice_get (slice_set xs i y) j ≡ Some z → (y ≡ z) ⊎ (slice_get xs j ≡ Some z)
written [] zero j y z h = inr h
written [] (suc i) j y z h = inr h
written (x ∷ xs) zero zero y z h = inl (let k : y ≡ z = cc in k)
written (x ∷ xs) zero (suc j) y z h = inr h
written (x ∷ xs) (suc i) zero y z h = inr h
written (x ∷ xs) (suc i) (suc j) y z h = written xs i j y z h

taken : {A : Type 0} (xs : List A) (i j : ℕ) (e : A) → slice_get (take i xs) j ≡ Some e → (j < i) × (slice_get xs j ≡ Some e)
taken [] zero j e h = absurd (cc)
taken [] (suc i) j e h = absurd (cc)
taken (x ∷ xs) zero j e h = absurd (cc)
taken (x ∷ xs) (suc i) zero e h = (omega arith, h)
taken (x ∷ xs) (suc i) (suc j) e h = let r = taken xs i j e h in let k = r.0 in (omega (arith, k), r.1)

take_back : {A : Type 0} (xs : List A) (i j : ℕ) (e : A) → j < i → slice_get xs j ≡ Some e → slice_get (take i xs) j ≡ Some e
take_back [] i j e less h = absurd (cc)
take_back (x ∷ xs) zero j e less h = absurd (omega (arith, less))
take_back (x ∷ xs) (suc i) zero e less h = h
take_back (x ∷ xs) (suc i) (suc j) e less h = take_back xs i j e (omega (arith, less)) h

take_next : {A : Type 0} (xs : List A) (i : ℕ) (e : A) → slice_get xs i ≡ Some e → take (i + 1) xs ≡ take i xs ++ e ∷ []
take_next xs i e h =
    let one : i + 1 ≡ suc i = omega arith in
    let w = slice_get_within xs i e h in
    ap (λ n. take n xs) one ∙ take-suc xs i e w ∙ ap (λ y. take i xs ++ y ∷ []) (get_or_from_slice_get xs i e e h)

-- what is read at an index
pub read_at : {A : Type 0} (xs : List A) (i : ℕ) (d x : A) → i < length xs → get_or xs i d ≡ x → slice_get xs i ≡ Some x
read_at xs i d x within e = slice_get-get_or xs i d within ∙ ap Some e

at_end : {A : Type 0} (xs : List A) (y : A) (i : ℕ) (z : A) → slice_get (xs ++ y ∷ []) i ≡ Some z → (slice_get xs i ≡ Some z) ⊎ ((i ≡ length xs) × (y ≡ z))
at_end [] y zero z h = inr (refl, (let k : y ≡ z = cc in k))
at_end [] y (suc i) z h = absurd (cc)
at_end (x ∷ xs) y zero z h = inl h
at_end (x ∷ xs) y (suc i) z h = elim (at_end xs y i z h) [ inl e ↦ inl e | inr e ↦ inr (ap suc e.0, e.1) ]

in_front : {A : Type 0} (xs : List A) (y : A) (i : ℕ) (z : A) → slice_get xs i ≡ Some z → slice_get (xs ++ y ∷ []) i ≡ Some z
in_front [] y i z h = absurd (cc)
in_front (x ∷ xs) y zero z h = h
in_front (x ∷ xs) y (suc i) z h = in_front xs y i z h

last_of : {A : Type 0} (xs : List A) (y : A) → slice_get (xs ++ y ∷ []) (length xs) ≡ Some y
last_of [] y = refl
last_of (x ∷ xs) y = last_of xs y

-- ---- the calls counted

counted_end : (returns : Bool) (es : List ProblemEvent) (e : ProblemEvent) → counted returns (es ++ e ∷ []) ≡ counted returns es ++ counted returns (e ∷ [])
counted_end returns [] e = refl
counted_end true (Return c ∷ es) e = ap (λ (l : List ℕ). c ∷ l) (counted_end true es e)
counted_end true (Call c ∷ es) e = counted_end true es e
counted_end false (Call c ∷ es) e = ap (λ (l : List ℕ). c ∷ l) (counted_end false es e)
counted_end false (Return c ∷ es) e = counted_end false es e

counts_one : (returns : Bool) (c : ℕ) → counted returns (event_of true returns c ∷ []) ≡ c ∷ []
counts_one true c = refl
counts_one false c = refl

asks_none : (returns : Bool) (c : ℕ) → counted returns (event_of false returns c ∷ []) ≡ []
asks_none true c = refl
asks_none false c = refl

in_counted : (returns : Bool) (es : List ProblemEvent) (c : ℕ) → In c (counted returns es) → (j : ℕ) × (slice_get es j ≡ Some (event_of true returns c))
in_counted true [] c h = absurd h
in_counted false [] c h = absurd h
in_counted true (Return d ∷ es) c (inl e) = (0, ap (λ (n : ℕ). Some (Return n)) (sym e))
in_counted true (Return d ∷ es) c (inr h) = let r = in_counted true es c h in (suc r.0, r.1)
in_counted true (Call d ∷ es) c h = let r = in_counted true es c h in (suc r.0, r.1)
in_counted false (Call d ∷ es) c (inl e) = (0, ap (λ (n : ℕ). Some (Call n)) (sym e))
in_counted false (Call d ∷ es) c (inr h) = let r = in_counted false es c h in (suc r.0, r.1)
in_counted false (Return d ∷ es) c h = let r = in_counted false es c h in (suc r.0, r.1)

counted_in : (returns : Bool) (es : List ProblemEvent) (c j : ℕ) → slice_get es j ≡ Some (event_of true returns c) → In c (counted returns es)
counted_in true [] c j h = absurd (cc)
counted_in false [] c j h = absurd (cc)
counted_in true (Return d ∷ es) c zero h = inl (let k : ◌≡◌ {A = ProblemEvent} (Return c) (Return d) = cc in ap call_of k)
counted_in true (Return d ∷ es) c (suc j) h = inr (counted_in true es c j h)
counted_in true (Call d ∷ es) c zero h = absurd (let k : Call d ≡ Return c = cc in call_or_return d c k)
counted_in true (Call d ∷ es) c (suc j) h = counted_in true es c j h
counted_in false (Call d ∷ es) c zero h = inl (let k : ◌≡◌ {A = ProblemEvent} (Call c) (Call d) = cc in ap call_of k)
counted_in false (Call d ∷ es) c (suc j) h = inr (counted_in false es c j h)
counted_in false (Return d ∷ es) c zero h = absurd (let k : Call c ≡ Return d = cc in call_or_return c d k)
counted_in false (Return d ∷ es) c (suc j) h = counted_in false es c j h

-- each event stands once
abbrev IsOnce : List ProblemEvent → Type 0
IsOnce es = (i j : ℕ) (e : ProblemEvent) → slice_get es i ≡ Some e → slice_get es j ≡ Some e → i ≡ j

once_rest : (d : ProblemEvent) (es : List ProblemEvent) → IsOnce (d ∷ es) → IsOnce es
once_rest d es once i j e h k = let f = once (suc i) (suc j) e h k in omega (arith, f)

not_again : (d : ProblemEvent) (es : List ProblemEvent) (j : ℕ) → IsOnce (d ∷ es) → slice_get es j ≡ Some d → ⊥
not_again d es j once h = let f = once 0 (suc j) d refl h in absurd (omega (arith, f))

counted_distinct : (returns : Bool) (es : List ProblemEvent) → IsOnce es → IsDistinct (counted returns es)
counted_distinct true [] once = tt
counted_distinct false [] once = tt
counted_distinct true (Return d ∷ es) once = ((λ h. let r = in_counted true es d h in not_again (Return d) es r.0 once r.1), counted_distinct true es (once_rest (Return d) es once))
counted_distinct true (Call d ∷ es) once = counted_distinct true es (once_rest (Call d) es once)
counted_distinct false (Call d ∷ es) once = ((λ h. let r = in_counted false es d h in not_again (Call d) es r.0 once r.1), counted_distinct false es (once_rest (Call d) es once))
counted_distinct false (Return d ∷ es) once = counted_distinct false es (once_rest (Return d) es once)

once_taken : (es : List ProblemEvent) (n : ℕ) → IsOnce es → IsOnce (take n es)
once_taken es n once i j e h k = once i j e (taken es n i e h).1 (taken es n j e k).1

below_or_at : (j i : ℕ) → j < i + 1 → (j < i) ⊎ (j ≡ i)
below_or_at j i h = grind arith

same_or_other : (a b : ℕ) → (a ≡ b) ⊎ (a ≢ b)
same_or_other a b = grind arith

-- events of one kind are of one call
event_call : (returns counts : Bool) (c : ℕ) → call_of (event_of counts returns c) ≡ c
event_call true true c = refl
event_call true false c = refl
event_call false true c = refl
event_call false false c = refl

one_event : (returns counts : Bool) (c d : ℕ) → event_of counts returns c ≡ event_of counts returns d → c ≡ d
one_event returns counts c d e = sym (event_call returns counts c) ∙ ap call_of e ∙ event_call returns counts d

apart_events : (returns : Bool) (c d : ℕ) → event_of true returns c ≡ event_of false returns d → ⊥
apart_events true c d e = call_or_return d c (sym e)
apart_events false c d e = call_or_return c d e

module _ (p : Problem ObjState Op Reply) where
  completed_within : (c : ℕ) → IsCompleted p c → c < length p.calls
  completed_within c done = let x = some_and (slice_get p.calls c) (λ x. IsSome x.returned) done in slice_get_within p.calls c x.0 x.1

  pub asked_within : (returns : Bool) (events : List ProblemEvent) → IsTimeline p events → (i g : ℕ) → slice_get events i ≡ Some (event_of false returns g) → g < length p.calls
  asked_within true events timeline i g h = timeline.of_call i g h
  asked_within false events timeline i g h = completed_within g (timeline.of_return i g h)

  -- how far a pass has come
  pub record SoFar (up returns : Bool) (events : List ProblemEvent) (i sum : ℕ) (row : List ℕ) : Type 0 where
    pub each : length row ≡ length p.calls
    pub sum_is : sum ≡ sum_of_shares up p.calls (counted returns (take i events))
    pub few : sum ≤ 2 ^ 63 * i
    pub sums : (j g : ℕ) → j < i → slice_get events j ≡ Some (event_of false returns g) → slice_get row g ≡ Some (sum_of_shares up p.calls (counted returns (take j events)))
    pub small : (g n : ℕ) → slice_get row g ≡ Some n → n ≤ 2 ^ 127

  module _ (up returns : Bool) (events : List ProblemEvent) (timeline : IsTimeline p events) where
    pub so_far_none : SoFar up returns events 0 0 (replicate (length p.calls) 0)
    so_far_none = record {
      each = length-replicate {A = ℕ} (length p.calls) 0;
      sum_is = none events returns;
      few = omega arith;
      sums = λ j g less h. absurd (omega (arith, less));
      small = λ g n h. (
          let w = slice_get_within (replicate (length p.calls) 0) g n h in
          let l : length (replicate (length p.calls) 0) ≡ length p.calls = length-replicate {A = ℕ} (length p.calls) 0 in
          let z : n ≡ 0 = sym (get_or_from_slice_get (replicate (length p.calls) 0) g n 0 h) ∙ get_or-replicate (length p.calls) g 0 0 (omega (arith, w, l)) in
          omega (arith, z));
    }
      where
        none : (events : List ProblemEvent) (returns : Bool) → 0 ≡ sum_of_shares up p.calls (counted returns (take 0 events))
        none [] true = refl
        none [] false = refl
        none (e ∷ es) true = refl
        none (e ∷ es) false = refl

    pub so_far_counts : (i sum n c : ℕ) (row : List ℕ) → SoFar up returns events i sum row → slice_get events i ≡ Some (event_of true returns c) → n ≡ share_of_call up (slice_get p.calls c) → n ≤ 2 ^ 63 → SoFar up returns events (i + 1) (sum + n) row
    so_far_counts i sum n c row k here share few = record {
      each = k.each;
      sum_is = sum_next;
      few = (let f = k.few in omega (arith, f, few));
      sums = λ j g less h. elim (below_or_at j i less) [
        | inl below ↦ k.sums j g below h
        | inr same ↦ absurd (apart_events returns c g (let f : slice_get events i ≡ Some (event_of false returns g) = subst (λ (m : ℕ). slice_get events m ≡ Some (event_of false returns g)) same h in cc))
      ];
      small = k.small;
    }
      where
        list_is : counted returns (take (i + 1) events) ≡ counted returns (take i events) ++ c ∷ []
        list_is = ap (counted returns) (take_next events i (event_of true returns c) here) ∙ counted_end returns (take i events) (event_of true returns c) ∙ ap (λ (l : List ℕ). counted returns (take i events) ++ l) (counts_one returns c)

        sum_next : sum + n ≡ sum_of_shares up p.calls (counted returns (take (i + 1) events))
        sum_next =
            let a : sum_of_shares up p.calls (counted returns (take (i + 1) events)) ≡ sum_of_shares up p.calls (counted returns (take i events) ++ c ∷ []) = ap (λ (l : List ℕ). sum_of_shares up p.calls l) list_is in
            let b = total_append (λ a. share_of_call up (slice_get p.calls a)) (counted returns (take i events)) (c ∷ []) in
            let s = k.sum_is in
            omega (arith, a, b, s, share)

    pub so_far_asks : (i sum g : ℕ) (row : List ℕ) → SoFar up returns events i sum row → slice_get events i ≡ Some (event_of false returns g) → i < 2 ^ 64 → SoFar up returns events (i + 1) sum (slice_set row g sum)
    so_far_asks i sum g row k here size = record {
      each = length-set row g sum ∙ k.each;
      sum_is = k.sum_is ∙ ap (λ (l : List ℕ). sum_of_shares up p.calls l) (sym list_is);
      few = (let f = k.few in omega (arith, f));
      sums = λ j h less at. elim (below_or_at j i less) [
        | inl below ↦ set_other row g h sum (sum_of_shares up p.calls (counted returns (take j events))) (λ same. let f = timeline.once j i (event_of false returns g) (subst (λ (m : ℕ). slice_get events j ≡ Some (event_of false returns m)) same at) here in omega (arith, f, below)) (k.sums j h below at)
        | inr same ↦ (
            let f : slice_get events i ≡ Some (event_of false returns h) = subst (λ (m : ℕ). slice_get events m ≡ Some (event_of false returns h)) same at in
            let one : h ≡ g = one_event returns false h g (let d = here in cc) in
            let written_here : slice_get (slice_set row g sum) g ≡ Some sum = set_same row g sum (let w = asked_within returns events timeline i g here in let e = k.each in omega (arith, w, e)) in
            subst (λ (m : ℕ). slice_get (slice_set row g sum) m ≡ Some (sum_of_shares up p.calls (counted returns (take j events)))) (sym one) (subst (λ (m : ℕ). slice_get (slice_set row g sum) g ≡ Some (sum_of_shares up p.calls (counted returns (take m events)))) (sym same) (written_here ∙ ap Some k.sum_is)))
      ];
      small = λ h n at. elim (written row g h sum n at) [
        | inl same ↦ (let f = k.few in omega (arith, f, same, size))
        | inr old ↦ k.small h n old
      ];
    }
      where
        list_is : counted returns (take (i + 1) events) ≡ counted returns (take i events)
        list_is = ap (counted returns) (take_next events i (event_of false returns g) here) ∙ counted_end returns (take i events) (event_of false returns g) ∙ ap (λ (l : List ℕ). counted returns (take i events) ++ l) (asks_none returns g) ∙ no_more (counted returns (take i events))
          where
            no_more : (l : List ℕ) → l ++ [] ≡ l
            no_more [] = refl
            no_more (x ∷ l) = ap (λ (m : List ℕ). x ∷ m) (no_more l)

    pub so_far_all : (sum : ℕ) (row : List ℕ) → SoFar up returns events (length events) sum row → AreSumsAt p up returns events row
    so_far_all sum row k = record {
      each = k.each;
      sums = λ i g h. k.sums i g (slice_get_within events i (event_of false returns g) h) h;
      few = k.small;
    }

  -- ---- limits

  -- how far the limits have come
  pub record LimitsSoFar (start : ℤ) (up : Bool) (k : ℕ) (row : List (Option SumLimit)) : Type 0 where
    pub each : length row ≡ k
    pub limits : (g : ℕ) (limit : SumLimit) → slice_get row g ≡ Some (Some limit) → IsLimit p start up g limit
    pub every : (g : ℕ) (value : ℤ) → g < k → Got p g value → (limit : SumLimit) × (slice_get row g ≡ Some (Some limit))

  pub limits_none : (start : ℤ) (up : Bool) → LimitsSoFar start up 0 []
  limits_none start up = record {
    each = refl;
    limits = λ g limit h. absurd (cc);
    every = λ g value less got. absurd (omega (arith, less));
  }

  pub limits_all : (start : ℤ) (up : Bool) (row : List (Option SumLimit)) → LimitsSoFar start up (length p.calls) row → AreLimits p start up row
  limits_all start up row k = record {
    each = k.each;
    limits = k.limits;
    every = λ g value got. k.every g value (slice_get_within p.calls g got.0 got.1) got;
  }

  module _ (events : List ProblemEvent) (timeline : IsTimeline p events) (start : ℤ) (up : Bool) (before through : List ℕ) (befores : AreSumsAt p up true events before) (throughs : AreSumsAt p (not up) false events through) where
    is_before : (g b : ℕ) → g < length p.calls → slice_get before g ≡ Some b → IsSumOfAll p up (λ a. Before p a g) b
    is_before g b within there =
        let at = timeline.called g within in (
          counted true (take at.0 events),
          counted_distinct true (take at.0 events) (once_taken events at.0 timeline.once),
          (λ a. (
            (λ h. let j = in_counted true (take at.0 events) a h in let t = taken events at.0 j.0 (Return a) j.1 in (timeline.precedence a g j.0 at.0 t.1 at.1).0 t.0),
            (λ h. let j = timeline.returned a (completed_before a g h) in counted_in true (take at.0 events) a j.0 (take_back events at.0 j.0 (Return a) ((timeline.precedence a g j.0 at.0 j.1 at.1).1 h) j.1)),
          )),
          some_same (sym there ∙ befores.sums at.0 g at.1),
        )
      where
        completed_before : (a g : ℕ) → Before p a g → IsCompleted p a
        completed_before a g h =
            let x = some_and (slice_get p.calls a) (λ x. IsSomeAnd x.returned (λ r. IsSomeAnd (slice_get p.calls g) (λ y. r.0 < y.called))) h in
            let r = some_and (x.0).returned (λ r. IsSomeAnd (slice_get p.calls g) (λ y. r.0 < y.called)) x.2 in
            rw (x.1, r.1) refl

        some_same : {m n : ℕ} → ◌≡◌ {A = Option ℕ} (Some m) (Some n) → m ≡ n
        some_same e = cc

    is_through : (g t : ℕ) → IsCompleted p g → slice_get through g ≡ Some t → IsSumOfAll p (not up) (MayStandBefore p g) t
    is_through g t done there =
        let at = timeline.returned g done in (
          counted false (take at.0 events),
          counted_distinct false (take at.0 events) (once_taken events at.0 timeline.once),
          (λ a. (
            (λ h. let j = in_counted false (take at.0 events) a h in let t = taken events at.0 j.0 (Call a) j.1 in (timeline.of_call j.0 a t.1, λ precedes. (let less = (timeline.precedence g a at.0 j.0 at.1 t.1).1 precedes in let other = t.0 in absurd (omega (arith, less, other))))),
            (λ h. let j = timeline.called a h.0 in counted_in false (take at.0 events) a j.0 (take_back events at.0 j.0 (Call a) (earlier a j.0 at.0 j.1 at.1 (λ less. h.1 ((timeline.precedence g a at.0 j.0 at.1 j.1).0 less))) j.1)),
          )),
          some_same (sym there ∙ throughs.sums at.0 g at.1),
        )
      where
        earlier : (a i j : ℕ) → slice_get events i ≡ Some (Call a) → slice_get events j ≡ Some (Return g) → (j < i → ⊥) → i < j
        earlier a i j h k not_later = elim (same_or_other i j) [
          | inl same ↦ absurd (call_or_return a g (let f : slice_get events j ≡ Some (Call a) = subst (λ (m : ℕ). slice_get events m ≡ Some (Call a)) same h in cc))
          | inr other ↦ less_of i j not_later other
        ]
          where
            less_of : (i j : ℕ) → (j < i → ⊥) → i ≢ j → i < j
            less_of i j f ne = grind arith

        some_same : {m n : ℕ} → ◌≡◌ {A = Option ℕ} (Some m) (Some n) → m ≡ n
        some_same e = cc

    is_limit : (g b t : ℕ) (x : ProblemCall Op Reply) (limit : SumLimit) → slice_get p.calls g ≡ Some x → slice_get before g ≡ Some b → slice_get through g ≡ Some t → IsLimitOf up start x b t limit → IsLimit p start up g limit
    is_limit g b t x limit here there_b there_t k = record {
      value = k.value;
      got = (x, here, k.op, k.returned);
      low = k.low;
      is_low = k.is_low;
      before = b;
      is_before = is_before g b (slice_get_within p.calls g x here) there_b;
      least = k.least;
      high = k.high;
      is_high = k.is_high;
      through = t;
      is_through = is_through g t (let r = k.returned in rw (here, r.1) refl) there_t;
      most = k.most;
    }

    pub limits_more : (k b t : ℕ) (x : ProblemCall Op Reply) (row : List (Option SumLimit)) (found : Option SumLimit) → LimitsSoFar start up k row → slice_get p.calls k ≡ Some x → slice_get before k ≡ Some b → slice_get through k ≡ Some t → IfSome found (IsLimitOf up start x b t) → IfNone found ((value : ℤ) (n : ℕ) → x.op ≡ Get → x.returned ≡ Some (n, Int value) → ⊥) → LimitsSoFar start up (k + 1) (row ++ found ∷ [])
    limits_more k b t x row found so_far here there_b there_t some none = record {
      each = (let e = so_far.each in let l = length-append row (found ∷ []) in omega (arith, e, l));
      limits = λ g limit h. elim (at_end row found g (Some limit) h) [
        | inl old ↦ so_far.limits g limit old
        | inr last ↦ (
            let is_k : g ≡ k = last.0 ∙ so_far.each in
            subst (λ (n : ℕ). IsLimit p start up n limit) (sym is_k) (is_limit k b t x limit here there_b there_t (subst (λ (o : Option SumLimit). IfSome o (IsLimitOf up start x b t)) last.1 some)))
      ];
      every = λ g value less got. elim (below_or_at g k less) [
        | inl below ↦ (let old = so_far.every g value below got in (old.0, in_front row found g (Some old.0) old.1))
        | inr same ↦ last_one found value none (subst (λ (n : ℕ). Got p n value) same got) g same
      ];
    }
      where
        last_one : (o : Option SumLimit) (value : ℤ) → IfNone o ((value : ℤ) (n : ℕ) → x.op ≡ Get → x.returned ≡ Some (n, Int value) → ⊥) → Got p k value → (g : ℕ) → g ≡ k → (limit : SumLimit) × (slice_get (row ++ o ∷ []) g ≡ Some (Some limit))
        last_one (Some limit) value none got g same = (limit, subst (λ (n : ℕ). slice_get (row ++ Some limit ∷ []) n ≡ Some (Some limit)) (so_far.each ∙ sym same) (last_of row (Some limit)))
        last_one None value none (y, there, op, (n, back)) g same =
            let one : y ≡ x = (let a = here in let b = there in cc) in
            absurd (none value n (subst (λ (z : ProblemCall Op Reply). z.op ≡ Get) one op) (subst (λ (z : ProblemCall Op Reply). z.returned ≡ Some (n, Int value)) one back))
