-- What adds up on a counter: a get for which it is too much; and adds that may stand in front of pending calls.
use Rattle.std.proofs.Common.{◌≡◌, ◌≢◌, ℕ, ◌+◌, ◌^◌, ◌<◌, ◌≤◌, Bool, true, false, not, Option, Some, None, List, [], ◌∷◌, ◌++◌, length, inl, inr, refl, sym, ◌∙◌, ap, subst, append_assoc, arith, if◌then◌else◌}
use Rattle.std.specs.Prelude.{ℤ, pos, negsuc, ◌+ℤ◌, int_lt, slice_get, ◌&&◌, IsSome, IsSomeAnd}
use Rattle.std.proofs.lemmas.Int.{ints}
use Rattle.lin_object.specs.declared.op.Op.{Op}
use Rattle.lin_object.specs.declared.op.Op.TheVariants.{Add, Get}
use Rattle.lin_object.specs.declared.reply.Reply.{Reply}
use Rattle.lin_object.specs.declared.reply.Reply.TheVariants.{Okay, Int}
use Rattle.lin_object.specs.declared.state.ObjState.{ObjState}
use Rattle.lin_object.specs.declared.state.ObjState.TheVariants.{Counter}
use Rattle.lin_object.specs.Kinds.Counter.{counter_step, is_in_range}
use Rattle.lin_history.specs.declared.problems.problem.ProblemCall.{ProblemCall}
use Rattle.lin_history.specs.ReplyLemmas.{reply_same}
use Rattle.lin_history.specs.Problems.Problem.{Problem}
use Rattle.lin_history.specs.Problems.ProblemParts.{ProblemParts}
use Rattle.lin_history.specs.Problems.AnyProblem.{any_problem}
use Rattle.lin_history.specs.Problems.Lists.{In, IsDistinct}
use Rattle.lin_history.specs.Problems.ListLemmas.{in_early, in_late, in_either, in_place, apart, distinct_early}
use Rattle.lin_history.specs.Problems.LegalLists.{fits, state_if_fits, after_call, next, Legal}
use Rattle.lin_history.specs.Problems.Precedence.{Before, IsCompleted}
use Rattle.lin_history.specs.Problems.Continuations.{has, IsCompletion}
use Rattle.lin_search.specs.CallSet.{with_call}
use Rattle.lin_search.specs.CallSetLemmas.{below_or_last, has_with, length_calls}
use Rattle.lin_fewer.specs.Fronts.{IsFirstLeft, IsLater, IsLeastReturn}
use Rattle.lin_fewer.proofs.NodeLemmas.{incomplete}
use Rattle.lin_search.specs.Configuration.{Configuration}
use Rattle.lin_search.specs.FirstCallLemmas.{completion_split, completion_join, complete_none, next_within}
use Rattle.lin_search.specs.NextCall.{IsNext, HasEveryCompleted}
use Rattle.lin_fewer.specs.declared.sums.Got.{Got}
use Rattle.lin_fewer.specs.Adds.{part_in, part_of, part_of_call, sum_of_parts, IsGot, AddBefore, IsAdd, MayComeLate, MayComeLateTo, IsTooMuch}
use Rattle.lin_fewer.specs.Fewer.{FewerLaw}
use Rattle.lin_fewer.specs.Turns.{ComesFirst, BeginsCompleted}
use Rattle.lin_fewer.proofs.FewerLemmas.{before_completed, completed_or_not}
use Rattle.lin_fewer.proofs.FrontLemmas.{some_of, completed_by, completed_within, least_or, before_by, call_within, call_there, late_next}
use Rattle.lin_fewer.proofs.TurnLemmas.{next_before, turned_completion}

-- ---- sums over lists

sum_append : (up : Bool) (calls : List (ProblemCall Op Reply)) (xs ys : List ℕ) → sum_of_parts up calls (xs ++ ys) ≡ sum_of_parts up calls xs + sum_of_parts up calls ys
sum_append up calls [] ys = omega arith
sum_append up calls (x ∷ xs) ys = let h = sum_append up calls xs ys in omega (arith, h)

without_in : (c d : ℕ) (early late : List ℕ) → In d (early ++ c ∷ late) → d ≢ c → In d (early ++ late)
without_in c d early late h ne = elim (in_either d early (c ∷ late) h) [
  | inl p ↦ in_early d early late p
  | inr (inl e) ↦ absurd (ne e)
  | inr (inr p) ↦ in_late d early late p
]

-- distinct calls of a list add no more than all of it
sum_part : (up : Bool) (calls : List (ProblemCall Op Reply)) (xs ys : List ℕ) → IsDistinct xs → ((c : ℕ) → In c xs → In c ys) → sum_of_parts up calls xs ≤ sum_of_parts up calls ys
sum_part up calls [] ys d inside = omega arith
sum_part up calls (x ∷ xs) ys d inside =
    let place = in_place x ys (inside x (inl refl)) in
    let rest = sum_part up calls xs (place.0 ++ place.1) d.1 (λ c h. without_in x c place.0 place.1 (subst (λ (l : List ℕ). In c l) place.2 (inside c (inr h))) (λ e. d.0 (subst (λ (n : ℕ). In n xs) e h))) in
    let whole : sum_of_parts up calls ys ≡ sum_of_parts up calls place.0 + (part_of_call up (slice_get calls x) + sum_of_parts up calls place.1) = ap (sum_of_parts up calls) place.2 ∙ sum_append up calls place.0 (x ∷ place.1) in
    let parts = sum_append up calls place.0 place.1 in
    omega (arith, rest, whole, parts)

not_in_front : (xs : List ℕ) (c : ℕ) (ys : List ℕ) → IsDistinct (xs ++ c ∷ ys) → In c xs → ⊥
not_in_front xs c ys d h = apart c xs (c ∷ ys) d h (inl refl)

-- ---- what a step of a counter adds

-- one number leads to another by what the operation adds
abbrev pub Leads : ℤ → Op → ℤ → Type 0
Leads n op k = (up : Bool) → part_in up n + part_of up op + part_in (not up) k ≡ part_in up k + part_in (not up) n + part_of (not up) op

leads_by : (n d : ℤ) → Leads n (Add d) (n +ℤ d)
leads_by n d true = omega (arith, ints)
leads_by n d false = omega (arith, ints)

leads_get : (n : ℤ) → Leads n Get n
leads_get n up = omega arith

-- the step of an add
abbrev AddsTo : ℤ → ℤ → ObjState → Reply → Type 0
AddsTo n d m r = (m ≡ Counter (n +ℤ d)) × (r ≡ Okay) × (is_in_range (n +ℤ d) ≡ true)

add_moves : (b : Bool) (n d : ℤ) (m : ObjState) (r : Reply) → is_in_range (n +ℤ d) ≡ b → ◌≡◌ {A = Option (ObjState × Reply)} (if b then Some (Counter (n +ℤ d), Okay) else None) (Some (m, r)) → AddsTo n d m r
add_moves true n d m r range e = let h : ◌≡◌ {A = ObjState × Reply} (m, r) (Counter (n +ℤ d), Okay) = cc in (ap (λ (a : ObjState × Reply). a.0) h, ap (λ (a : ObjState × Reply). a.1) h, range)
add_moves false n d m r range e = absurd (cc)

no_step : (m : ObjState) (r : Reply) → ◌≡◌ {A = Option (ObjState × Reply)} None (Some (m, r)) → ⊥
no_step m r e = absurd (cc)

pub get_moves : (n : ℤ) (m : ObjState) (r : Reply) → counter_step n Get ≡ Some (m, r) → (m ≡ Counter n) × (r ≡ Int n)
get_moves n m r e = let h : ◌≡◌ {A = ObjState × Reply} (m, r) (Counter n, Int n) = cc in (ap (λ (a : ObjState × Reply). a.0) h, ap (λ (a : ObjState × Reply). a.1) h)

pub counter_moves : (n : ℤ) (op : Op) (m : ObjState) (r : Reply) → counter_step n op ≡ Some (m, r) → (k : ℤ) × (m ≡ Counter k) × Leads n op k
counter_moves n (Add d) m r e = (n +ℤ d, (add_moves (is_in_range (n +ℤ d)) n d m r refl e).0, leads_by n d)
counter_moves n Get m r e = (n, (get_moves n m r e).0, leads_get n)
counter_moves n op m r e = absurd (no_step m r e)

same_int : (n v : ℤ) → Int n ≡ Int v → n ≡ v
same_int n v e = cc

-- ---- numbers of 64 bits

and_both : (a b : Bool) → a && b ≡ true → (a ≡ true) × (b ≡ true)
and_both true true e = (refl, refl)
and_both true false e = absurd (cc)
and_both false b e = absurd (cc)

and_true : (a b : Bool) → a ≡ true → b ≡ true → a && b ≡ true
and_true true true e f = refl
and_true true false e f = absurd (cc)
and_true false b e f = absurd (cc)

low_between : (up : Bool) (n a c : ℤ) → part_in (not up) a ≡ 0 → part_in (not up) c ≡ 0 → int_lt (negsuc (2 ^ 63)) n ≡ true → int_lt (negsuc (2 ^ 63)) ((n +ℤ a) +ℤ c) ≡ true → int_lt (negsuc (2 ^ 63)) (n +ℤ c) ≡ true
low_between true n a c x y l m = go (int_lt (negsuc (2 ^ 63)) (n +ℤ c)) refl
  where
    go : (b : Bool) → int_lt (negsuc (2 ^ 63)) (n +ℤ c) ≡ b → b ≡ true
    go true e = refl
    go false e = absurd (omega (arith, ints))
low_between false n a c x y l m = go (int_lt (negsuc (2 ^ 63)) (n +ℤ c)) refl
  where
    go : (b : Bool) → int_lt (negsuc (2 ^ 63)) (n +ℤ c) ≡ b → b ≡ true
    go true e = refl
    go false e = absurd (omega (arith, ints))

high_between : (up : Bool) (n a c : ℤ) → part_in (not up) a ≡ 0 → part_in (not up) c ≡ 0 → int_lt n (pos (2 ^ 63)) ≡ true → int_lt ((n +ℤ a) +ℤ c) (pos (2 ^ 63)) ≡ true → int_lt (n +ℤ c) (pos (2 ^ 63)) ≡ true
high_between true n a c x y l m = go (int_lt (n +ℤ c) (pos (2 ^ 63))) refl
  where
    go : (b : Bool) → int_lt (n +ℤ c) (pos (2 ^ 63)) ≡ b → b ≡ true
    go true e = refl
    go false e = absurd (omega (arith, ints))
high_between false n a c x y l m = go (int_lt (n +ℤ c) (pos (2 ^ 63))) refl
  where
    go : (b : Bool) → int_lt (n +ℤ c) (pos (2 ^ 63)) ≡ b → b ≡ true
    go true e = refl
    go false e = absurd (omega (arith, ints))

-- with one of two adds of one sign the number does not leave the range, where it does not with both
range_between : (up : Bool) (n a c : ℤ) → part_in (not up) a ≡ 0 → part_in (not up) c ≡ 0 → is_in_range n ≡ true → is_in_range ((n +ℤ a) +ℤ c) ≡ true → is_in_range (n +ℤ c) ≡ true
range_between up n a c x y range both =
    let one = and_both (int_lt (negsuc (2 ^ 63)) n) (int_lt n (pos (2 ^ 63))) range in
    let two = and_both (int_lt (negsuc (2 ^ 63)) ((n +ℤ a) +ℤ c)) (int_lt ((n +ℤ a) +ℤ c) (pos (2 ^ 63))) both in
    and_true (int_lt (negsuc (2 ^ 63)) (n +ℤ c)) (int_lt (n +ℤ c) (pos (2 ^ 63))) (low_between up n a c x y one.0 two.0) (high_between up n a c x y one.1 two.1)

sums_turn : (n a c : ℤ) → (n +ℤ c) +ℤ a ≡ (n +ℤ a) +ℤ c
sums_turn n a c = omega (arith, ints)

-- ---- the calls of a problem on a counter

module _ {Object : Type 0} (parts : ProblemParts Object ObjState Op Reply) where
  abbrev p : Problem ObjState Op Reply
  p = any_problem parts

  there_in : (s m : ObjState) (o : Option (ProblemCall Op Reply)) → after_call p s o ≡ Some m → (x : ProblemCall Op Reply) × (o ≡ Some x)
  there_in s m None e = absurd (cc)
  there_in s m (Some x) e = (x, refl)

  -- a call that has a step is there
  pub step_there : (s m : ObjState) (c : ℕ) → next p s c ≡ Some m → (x : ProblemCall Op Reply) × (slice_get p.calls c ≡ Some x)
  step_there s m c e = there_in s m (slice_get p.calls c) e

  given : (answer : Option (ObjState × Reply)) (recorded : Option (ℕ × Reply)) (m : ObjState) → state_if_fits p.same_reply recorded answer ≡ Some m → (r : Reply) × (answer ≡ Some (m, r)) × (fits p.same_reply r recorded ≡ true)
  given None recorded m e = absurd (cc)
  given (Some answer) recorded m e = go (fits p.same_reply answer.1 recorded) refl e
    where
      go : (b : Bool) → fits p.same_reply answer.1 recorded ≡ b → (if b then Some answer.0 else None) ≡ Some m → (r : Reply) × (◌≡◌ {A = Option (ObjState × Reply)} (Some answer) (Some (m, r))) × (fits p.same_reply r recorded ≡ true)
      go true f g = (answer.1, (let h : answer.0 ≡ m = cc in ap (λ (x : ObjState). Some (x, answer.1)) h), f)
      go false f g = absurd (cc)

  -- the answer of a call's step on a counter
  pub answered : (n : ℤ) (m : ObjState) (c : ℕ) (x : ProblemCall Op Reply) → slice_get p.calls c ≡ Some x → next p (Counter n) c ≡ Some m → (r : Reply) × (counter_step n x.op ≡ Some (m, r)) × (fits p.same_reply r x.returned ≡ true)
  answered n m c x there step = given (counter_step n x.op) x.returned m (subst (λ (o : Option (ProblemCall Op Reply)). after_call p (Counter n) o ≡ Some m) there step)

  -- a legal list leads from one number to another
  abbrev LeadsBy : ℤ → List ℕ → ℤ → Type 0
  LeadsBy n l k = (up : Bool) → part_in up n + sum_of_parts up p.calls l + part_in (not up) k ≡ part_in up k + part_in (not up) n + sum_of_parts (not up) p.calls l

  leads_more : (n j k : ℤ) (c : ℕ) (cs : List ℕ) (x : ProblemCall Op Reply) → slice_get p.calls c ≡ Some x → Leads n x.op j → LeadsBy j cs k → LeadsBy n (c ∷ cs) k
  leads_more n j k c cs x there one more up =
      let a = one up in
      let b = more up in
      let e : part_of_call up (slice_get p.calls c) ≡ part_of up x.op = ap (part_of_call up) there in
      let f : part_of_call (not up) (slice_get p.calls c) ≡ part_of (not up) x.op = ap (part_of_call (not up)) there in
      omega (arith, a, b, e, f)

  leads_none : (n : ℤ) → LeadsBy n [] n
  leads_none n up = omega arith

  counts : (l : List ℕ) (n : ℤ) (t : ObjState) → Legal p (Counter n) l t → (k : ℤ) × (t ≡ Counter k) × LeadsBy n l k
  counts [] n t e = (n, sym e, leads_none n)
  counts (c ∷ cs) n t (m, step, more) =
      let x = step_there (Counter n) m c step in
      let a = answered n m c x.0 x.1 step in
      let j = counter_moves n x.0.op m a.0 a.1 in
      let rest = counts cs j.0 t (subst (λ (s : ObjState). Legal p s cs t) j.1 more) in
      (rest.0, rest.1, leads_more n j.0 rest.0 c cs x.0 x.1 j.2 rest.2)

  legal_split : (xs ys : List ℕ) (s u : ObjState) → Legal p s (xs ++ ys) u → (t : ObjState) × Legal p s xs t × Legal p t ys u
  legal_split [] ys s u k = (s, refl, k)
  legal_split (x ∷ xs) ys s u k = let r = legal_split xs ys k.0 u k.2 in (r.0, (k.0, k.1, r.1), r.2)

  legal_there : (l : List ℕ) (s t : ObjState) (a : ℕ) → Legal p s l t → In a l → a < length p.calls
  legal_there [] s t a k h = absurd h
  legal_there (c ∷ cs) s t a (m, step, more) (inl e) = subst (λ (n : ℕ). n < length p.calls) (sym e) (next_within p s m c step)
  legal_there (c ∷ cs) s t a (m, step, more) (inr h) = legal_there cs m t a more h

  -- a get finds the number that is there
  pub got_here : (n : ℤ) (m : ObjState) (g : ℕ) (got : Got) → IsGot p g got → next p (Counter n) g ≡ Some m → n ≡ got.value
  got_here n m g got is step =
      let a = answered n m g is.call is.at step in
      let k = get_moves n m a.0 (subst (λ (o : Op). counter_step n o ≡ Some (m, a.0)) is.op a.1) in
      let f : p.same_reply a.0 (Int got.value) ≡ true = subst (λ (o : Option (ℕ × Reply)). fits p.same_reply a.0 o ≡ true) is.returned a.2 in
      same_int n got.value (sym k.1 ∙ reply_same a.0 (Int got.value) f)

  got_completed : (g : ℕ) (got : Got) → IsGot p g got → IsCompleted p g
  got_completed g got is = completed_by p g is.call (got.returned, Int got.value) is.at is.returned

  -- ---- what is counted, call by call

  module _ (set : List Bool) (up : Bool) (g : ℕ) where
    pub add_none : AddBefore p set up g 0 0 0
    add_none = record { calls = []; distinct = tt; below = λ a h. absurd h; before = λ a h. absurd h; enough = omega arith; others = []; those = λ a less within outside free. absurd (omega (arith, less)); few = omega arith }

    module _ (to sum back : ℕ) (adds : AddBefore p set up g to sum back) where
      pub add_skip : (more : ℕ) → to ≤ more → ((a : ℕ) → to ≤ a → a < more → a < length p.calls → has set a ≡ true) → AddBefore p set up g more sum back
      add_skip more up_to lifted = record {
        calls = adds.calls;
        distinct = adds.distinct;
        below = λ a h. (let b = adds.below a h in omega (arith, b, up_to));
        before = adds.before;
        enough = adds.enough;
        others = adds.others;
        those = λ a less within outside free. elim (least_or a to) [
          | inl early ↦ adds.those a early within outside free
          | inr past ↦ absurd (let h = lifted a past less within in cc)
        ];
        few = adds.few;
      }

      pub add_late : (got : Got) → IsGot p g got → IsLater p to got.returned → AddBefore p set up g (length p.calls) sum back
      add_late got is later = record {
        calls = adds.calls;
        distinct = adds.distinct;
        below = λ a h. (let b = adds.below a h in let w = call_within p to later.made later.at in omega (arith, b, w));
        before = adds.before;
        enough = adds.enough;
        others = adds.others;
        those = λ a less within outside free. elim (least_or a to) [
          | inl early ↦ adds.those a early within outside free
          | inr past ↦ absurd (free (
              let y = call_there p a less in
              before_by p g a is.call (got.returned, Int got.value) y.0 is.at is.returned y.1 (
              let called : later.made.called ≤ y.0.called = elim (least_or to a) [
                | inl early ↦ (let h = later.timed.called to a later.made y.0 early later.at y.1 in omega (arith, h))
                | inr more ↦ (let e : to ≡ a = omega (arith, more, past) in let f : slice_get p.calls a ≡ Some later.made = subst (λ (n : ℕ). slice_get p.calls n ≡ Some later.made) e later.at in let q : later.made ≡ y.0 = (let h = y.1 in cc) in subst (λ (n : ProblemCall Op Reply). later.made.called ≤ n.called) q (omega arith))
              ] in let l = later.late in omega (arith, called, l))
              ))
        ];
        few = adds.few;
      }

      pub add_all : length p.calls ≤ to → AddBefore p set up g (length p.calls) sum back
      add_all past = record {
        calls = adds.calls;
        distinct = adds.distinct;
        below = λ a h. completed_within p a (before_completed p a g (adds.before a h).0);
        before = adds.before;
        enough = adds.enough;
        others = adds.others;
        those = λ a less within outside free. adds.those a (omega (arith, past, less)) within outside free;
        few = adds.few;
      }

      -- the call is in the set
      pub add_lifted : has set to ≡ true → AddBefore p set up g (to + 1) sum back
      add_lifted lifted = record {
        calls = adds.calls;
        distinct = adds.distinct;
        below = λ a h. (let b = adds.below a h in omega (arith, b));
        before = adds.before;
        enough = adds.enough;
        others = adds.others;
        those = λ a less within outside free. elim (below_or_last a to less) [
          | inl early ↦ adds.those a early within outside free
          | inr same ↦ absurd (let h : has set to ≡ false = subst (λ (n : ℕ). has set n ≡ false) same outside in cc)
        ];
        few = adds.few;
      }

      those_next : (a : ℕ) → a < to + 1 → a < length p.calls → has set a ≡ false → (Before p g a → ⊥) → In a (to ∷ adds.others)
      those_next a less within outside free = elim (below_or_last a to less) [
        | inl early ↦ inr (adds.those a early within outside free)
        | inr same ↦ inl same
      ]

      few_next : (x : ProblemCall Op Reply) (m : ℕ) → slice_get p.calls to ≡ Some x → m ≡ back + part_of (not up) x.op → sum_of_parts (not up) p.calls (to ∷ adds.others) ≤ m
      few_next x m at more = let e : part_of_call (not up) (slice_get p.calls to) ≡ part_of (not up) x.op = ap (part_of_call (not up)) at in let s = adds.few in omega (arith, e, s, more)

      -- it may stand in front of the get, and adds so much in the other direction
      pub add_other : (x : ProblemCall Op Reply) (m : ℕ) → slice_get p.calls to ≡ Some x → m ≡ back + part_of (not up) x.op → AddBefore p set up g (to + 1) sum m
      add_other x m at more = record {
        calls = adds.calls;
        distinct = adds.distinct;
        below = λ a h. (let b = adds.below a h in omega (arith, b));
        before = adds.before;
        enough = adds.enough;
        others = to ∷ adds.others;
        those = those_next;
        few = few_next x m at more;
      }

      -- it precedes the get, and adds so much
      pub add_more : (x : ProblemCall Op Reply) (n m : ℕ) → slice_get p.calls to ≡ Some x → has set to ≡ false → Before p to g → n ≡ sum + part_of up x.op → m ≡ back + part_of (not up) x.op → AddBefore p set up g (to + 1) n m
      add_more x n m at outside before is more = record {
        calls = to ∷ adds.calls;
        distinct = ((λ h. let b = adds.below to h in absurd (omega (arith, b))), adds.distinct);
        below = λ a h. elim h [ inl e ↦ omega (arith, e) | inr early ↦ (let b = adds.below a early in omega (arith, b)) ];
        before = λ a h. elim h [ inl e ↦ subst (λ (k : ℕ). Before p k g × (has set k ≡ false)) (sym e) (before, outside) | inr early ↦ adds.before a early ];
        enough = (let e : part_of_call up (slice_get p.calls to) ≡ part_of up x.op = ap (part_of_call up) at in let s = adds.enough in omega (arith, e, s, is));
        others = to ∷ adds.others;
        those = those_next;
        few = few_next x m at more;
      }

  -- a call that returned before the get was called
  pub before_got : (a g : ℕ) (got : Got) (x : ProblemCall Op Reply) → IsGot p g got → slice_get p.calls a ≡ Some x → IsSomeAnd x.returned (λ r. r.0 < got.called) → Before p a g
  before_got a g got x is at back =
      let r = some_of x.returned (λ r. r.0 < got.called) back in
      before_by p a g x r.0 is.call at r.1 is.at (let e = is.called in let l = r.2 in omega (arith, e, l))

  -- ---- a get for which it is too much

  module _ (set : List Bool) (n : ℤ) (up : Bool) (g : ℕ) (got : Got) (is : IsGot p g got) (outside : has set g ≡ false) (sum back : ℕ) (adds : AddBefore p set up g (length p.calls) sum back) (over : IsTooMuch up n got.value sum back) (l : List ℕ) (k : IsCompletion p set (Counter n) l) where
    in_list : In g l
    in_list = elim (k.complete g (got_completed g got is)) [ inl h ↦ absurd (let o = outside in cc) | inr h ↦ h ]

    place : (front : List ℕ) × (back : List ℕ) × (l ≡ front ++ g ∷ back)
    place = in_place g l in_list

    abbrev front : List ℕ
    front = place.0

    distinct : IsDistinct (front ++ g ∷ place.1)
    distinct = subst IsDistinct place.2 k.continuation.distinct

    abbrev end : ObjState
    end = k.continuation.legal.0

    two : (t : ObjState) × Legal p (Counter n) front t × Legal p t (g ∷ place.1) end
    two = legal_split front (g ∷ place.1) (Counter n) end (subst (λ (m : List ℕ). Legal p (Counter n) m end) place.2 k.continuation.legal.1)

    here : (v : ℤ) × (two.0 ≡ Counter v) × LeadsBy n front v
    here = counts front n two.0 two.1

    value_is : here.0 ≡ got.value
    value_is =
        let step : Legal p (Counter here.0) (g ∷ place.1) end = subst (λ (s : ObjState). Legal p s (g ∷ place.1) end) here.1 two.2 in
        got_here here.0 step.0 g got is step.1

    leads : LeadsBy n front got.value
    leads = subst (λ (v : ℤ). LeadsBy n front v) value_is here.2

    not_behind : (a : ℕ) → In a front → Before p g a → ⊥
    not_behind a there before =
        let at = in_place a front there in
        let eq_a : l ≡ at.0 ++ a ∷ (at.1 ++ g ∷ place.1) = place.2 ∙ ap (λ (m : List ℕ). m ++ g ∷ place.1) at.2 ∙ append_assoc at.0 (a ∷ at.1) (g ∷ place.1) in
        elim (k.continuation.ordered at.0 a (at.1 ++ g ∷ place.1) eq_a g before) [
          | inl h ↦ absurd (let o = outside in cc)
          | inr h ↦ not_in_front front g place.1 distinct (subst (λ (m : List ℕ). In g m) (sym at.2) (in_early g at.0 (a ∷ at.1) h))
        ]

    few_back : sum_of_parts (not up) p.calls front ≤ back
    few_back =
        let all = sum_part (not up) p.calls front adds.others (distinct_early front (g ∷ place.1) distinct) (λ a h.
        let within = legal_there front (Counter n) two.0 a two.1 h in
        adds.those a within within
        (k.continuation.outside a (subst (λ (m : List ℕ). In a m) (sym place.2) (in_early a front (g ∷ place.1) h)))
        (not_behind a h)) in
        let few = adds.few in
        omega (arith, all, few)

    added : sum_of_parts up p.calls adds.calls ≤ sum_of_parts up p.calls front
    added = sum_part up p.calls adds.calls front adds.distinct (λ a h. elim (k.continuation.ordered front g place.1 place.2 a (adds.before a h).0) [
      | inl in_set ↦ absurd (let o = (adds.before a h).1 in cc)
      | inr there ↦ there
    ])

    pub too_much : ⊥
    too_much = let a = leads up in let b = few_back in let c = added in let d = adds.enough in let e = over in absurd (omega (arith, a, b, c, d, e))

  -- ---- calls that may come late

  if_range : (b : Bool) (n d : ℤ) → b ≡ true → ◌≡◌ {A = Option (ObjState × Reply)} (if b then Some (Counter (n +ℤ d), Okay) else None) (Some (Counter (n +ℤ d), Okay))
  if_range true n d e = refl
  if_range false n d e = absurd (cc)

  if_fits : (b : Bool) (m : ObjState) → b ≡ true → (if b then Some m else None) ≡ Some m
  if_fits true m e = refl
  if_fits false m e = absurd (cc)

  -- an add's step, where the sum is in range and its reply fits
  add_step : (a : ℕ) (up : Bool) (add : IsAdd p up a) (n : ℤ) → is_in_range (n +ℤ add.number) ≡ true → fits p.same_reply Okay add.call.returned ≡ true → next p (Counter n) a ≡ Some (Counter (n +ℤ add.number))
  add_step a up add n range fit = subst (λ (o : Option (ProblemCall Op Reply)). after_call p (Counter n) o ≡ Some (Counter (n +ℤ add.number))) (sym add.at)
      (ap (state_if_fits p.same_reply add.call.returned) (ap (counter_step n) add.op ∙ if_range (is_in_range (n +ℤ add.number)) n add.number range) ∙ if_fits (fits p.same_reply Okay add.call.returned) (Counter (n +ℤ add.number)) fit)

  add_fits : (a : ℕ) (up : Bool) (add : IsAdd p up a) (n : ℤ) (t : ObjState) → next p (Counter n) a ≡ Some t → (t ≡ Counter (n +ℤ add.number)) × (is_in_range (n +ℤ add.number) ≡ true) × (fits p.same_reply Okay add.call.returned ≡ true)
  add_fits a up add n t step =
      let x = answered n t a add.call add.at step in
      let moves = add_moves (is_in_range (n +ℤ add.number)) n add.number t x.0 refl (subst (λ (o : Op). counter_step n o ≡ Some (t, x.0)) add.op x.1) in
      (moves.0, moves.2, subst (λ (r : Reply). fits p.same_reply r add.call.returned ≡ true) moves.1 x.2)

  fits_none : (r : Reply) (o : Option (ℕ × Reply)) → o ≡ None → fits p.same_reply r o ≡ true
  fits_none r None e = refl
  fits_none r (Some q) e = absurd (cc)

  pending_none : (o : Option (ℕ × Reply)) → (IsSome o → ⊥) → o ≡ None
  pending_none None h = refl
  pending_none (Some r) h = absurd (h refl)

  -- the step of a call that may come late and is pending, behind an add
  late_step : (a : ℕ) (up : Bool) → (IsCompleted p a → ⊥) → (late : MayComeLate p up a) (n : ℤ) (t : ObjState) (c : ℤ) → next p (Counter n) a ≡ Some t → is_in_range n ≡ true
      → (u : ℤ) × (t ≡ Counter u) × (is_in_range u ≡ true) × (is_in_range (u +ℤ c) ≡ true → part_in (not up) c ≡ 0 → (is_in_range (n +ℤ c) ≡ true) × (next p (Counter (n +ℤ c)) a ≡ Some (Counter (u +ℤ c))))
  late_step a up pending (inl add) n t c step range =
      let x = add_fits a up add n t step in
      let none : add.call.returned ≡ None = pending_none add.call.returned (λ h. pending (rw add.at h)) in (
        n +ℤ add.number,
        x.0,
        x.1,
        λ both direction. (
          range_between up n add.number c add.direction direction range both,
          add_step a up add (n +ℤ c) (subst (λ (k : ℤ). is_in_range k ≡ true) (sym (sums_turn n add.number c)) both) x.2 ∙ ap (λ (k : ℤ). Some (Counter k)) (sums_turn n add.number c),
        ),
      )
  late_step a up pending (inr get) n t c step range =
      let x = answered n t a get.call get.at step in
      let moves = get_moves n t x.0 (subst (λ (o : Op). counter_step n o ≡ Some (t, x.0)) get.op x.1) in (
        n,
        moves.0,
        range,
        λ both direction. (
          both,
          subst (λ (o : Option (ProblemCall Op Reply)). after_call p (Counter (n +ℤ c)) o ≡ Some (Counter (n +ℤ c))) (sym get.at)
              (ap (state_if_fits p.same_reply get.call.returned) (ap (counter_step (n +ℤ c)) get.op) ∙ if_fits (fits p.same_reply (Int (n +ℤ c)) get.call.returned) (Counter (n +ℤ c)) (fits_none (Int (n +ℤ c)) get.call.returned get.returned)),
        ),
      )

  module _ (up : Bool) (set : List Bool) (to : ℕ) (late : MayComeLateTo p set up to) where
    pub late_skip : (more : ℕ) → ((a : ℕ) → to ≤ a → a < more → a < length p.calls → has set a ≡ true) → MayComeLateTo p set up more
    late_skip more lifted a less within outside = elim (least_or a to) [
      | inl early ↦ late a early within outside
      | inr past ↦ absurd (let h = lifted a past less within in cc)
    ]

    pub late_more : (has set to ≡ false → MayComeLate p up to) → MayComeLateTo p set up (to + 1)
    late_more here a less within outside = elim (below_or_last a to less) [
      | inl early ↦ late a early within outside
      | inr same ↦ subst (λ (n : ℕ). MayComeLate p up n) (sym same) (here (subst (λ (n : ℕ). has set n ≡ false) same outside))
    ]

  -- ---- an add in front of a pending call

  module _ (fewer : FewerLaw p) (same_itself : (s : ObjState) → p.same_state s s ≡ true) (up : Bool) where
    -- a pending call that may come late, and an add behind it, in each other's place
    pub add_first : (set : List Bool) (n : ℤ) (a c : ℕ) (l : List ℕ) → length set ≡ length p.calls → is_in_range n ≡ true → (IsCompleted p a → ⊥) → MayComeLate p up a → IsAdd p up c → IsCompletion p set (Counter n) (a ∷ c ∷ l) → IsCompletion p set (Counter n) (c ∷ a ∷ l)
    add_first set n a c l flags range pending late add k =
        let one = completion_split p set (Counter n) a (c ∷ l) flags k in
        let count : length (with_call set a) ≡ length p.calls = length_calls set (a ∷ []) ∙ flags in
        let two = completion_split p (with_call set a) one.0 c l count one.2 in
        let first = late_step a up pending late n one.0 add.number one.1.step range in
        let second = add_fits c up add first.0 two.0 (subst (λ (s : ObjState). next p s c ≡ Some two.0) first.1 two.1.step) in
        let turned = first.3 second.1 add.direction in
        turned_completion p fewer set a c (Counter n) one.0 two.0 (Counter (n +ℤ add.number)) (Counter (first.0 +ℤ add.number)) l flags pending one.1 two.1
        (add_step c up add n turned.0 second.2) turned.1 (subst (λ (s : ObjState). p.same_state (Counter (first.0 +ℤ add.number)) s ≡ true) (sym second.0) (same_itself (Counter (first.0 +ℤ add.number)))) two.2

    -- each call that may be next may come late
    abbrev NextAreLate : List Bool → Type 0
    NextAreLate set = (a : ℕ) (s t : ObjState) → IsNext p set s a t → MayComeLate p up a

    is_add : (c : ℕ) → MayComeLate p up c → IsCompleted p c → IsAdd p up c
    is_add c (inl add) done = add
    is_add c (inr get) done = absurd (not_done get.call.returned get.returned (let h : IsSome get.call.returned = rw get.at at done in h))
      where
        not_done : (o : Option (ℕ × Reply)) → o ≡ None → IsSome o → ⊥
        not_done None e h = absurd (cc)
        not_done (Some q) e h = absurd (cc)

    -- where calls may come late, a completion has its like that begins with a completed call
    pub begins : (l : List ℕ) (set : List Bool) (n : ℤ) → length set ≡ length p.calls → is_in_range n ≡ true → NextAreLate set → (HasEveryCompleted p set → ⊥) → IsCompletion p set (Counter n) l → (c : ℕ) × IsCompleted p c × ((m : List ℕ) × IsCompletion p set (Counter n) (c ∷ m))
    begins [] set n flags range late left k = absurd (left (complete_none p set (Counter n) k))
    begins (a ∷ l) set n flags range late left k = elim (completed_or_not (slice_get p.calls a)) [
      | inl done ↦ (a, done, (l, k))
      | inr pending ↦ (
          let one = completion_split p set (Counter n) a l flags k in
          let in_a : a < length set = (let h = next_within p (Counter n) one.0 a one.1.step in omega (arith, h, flags)) in
          let count : length (with_call set a) ≡ length p.calls = length_calls set (a ∷ []) ∙ flags in
          let late_a = late a (Counter n) one.0 one.1 in
          let moved = late_step a up pending late_a n one.0 (pos 0) one.1.step range in
          let rest = begins l (with_call set a) moved.0 count moved.2
          (λ b s t next_b. late b s t (next_before p set a b s t in_a pending next_b))
          (λ every. left (λ d done. elim (has_with set a d (every d done)) [ inl e ↦ absurd (pending (subst (λ (i : ℕ). IsCompleted p i) e done)) | inr h ↦ h ]))
          (subst (λ (s : ObjState). IsCompletion p (with_call set a) s l) moved.1 one.2) in
          let next_c = completion_split p (with_call set a) (Counter moved.0) rest.0 rest.2.0 count rest.2.1 in
          let add = is_add rest.0 (late rest.0 (Counter moved.0) next_c.0 (next_before p set a rest.0 (Counter moved.0) next_c.0 in_a pending next_c.1)) rest.1 in
          let whole : IsCompletion p set (Counter n) (a ∷ rest.0 ∷ rest.2.0) = completion_join p set (Counter n) a (rest.0 ∷ rest.2.0) (Counter moved.0) flags (subst (λ (s : ObjState). IsNext p set (Counter n) a s) moved.1 one.1) rest.2.1 in
          (rest.0, rest.1, (a ∷ rest.2.0, add_first set n a rest.0 rest.2.0 flags range pending late_a add whole))
          )
    ]

    -- what may be next was called by the least return of what is left
    pub next_late : (set : List Bool) (to bound : ℕ) → MayComeLateTo p set up to → IsLeastReturn p set bound → IsLater p to bound → NextAreLate set
    next_late set to bound late least later a s t is = elim (least_or a to) [
      | inl early ↦ late a early (next_within p s t a is.step) is.outside
      | inr past ↦ (let y = step_there s t a is.step in absurd (late_next p set bound to a least later past y.0 y.1 s t is))
    ]

    pub next_all : (set : List Bool) (to : ℕ) → MayComeLateTo p set up to → length p.calls ≤ to → NextAreLate set
    next_all set to late past a s t is = let w = next_within p s t a is.step in late a (omega (arith, w, past)) w is.outside

    pub begins_completed : (x : Configuration ObjState) (first : ℕ) (number : ℤ) → x.state ≡ Counter number → length x.lifted ≡ length p.calls → is_in_range number ≡ true → NextAreLate x.lifted → IsFirstLeft p x.lifted first → BeginsCompleted p x
    begins_completed x first number is flags range late left none l k =
        let b = begins l x.lifted number flags range late (incomplete p x.lifted first left) (subst (λ (s : ObjState). IsCompletion p x.lifted s l) is k) in
        none b.0 b.1 b.2.0 (subst (λ (s : ObjState). IsCompletion p x.lifted s (b.0 ∷ b.2.0)) (sym is) b.2.1)

    pub comes_first : (x : Configuration ObjState) (a c : ℕ) (number : ℤ) → x.state ≡ Counter number → length x.lifted ≡ length p.calls → is_in_range number ≡ true → (IsCompleted p a → ⊥) → MayComeLate p up a → IsAdd p up c → ComesFirst p x a c
    comes_first x a c number is flags range pending late add l k =
        (a ∷ l, subst (λ (s : ObjState). IsCompletion p x.lifted s (c ∷ a ∷ l)) (sym is) (add_first x.lifted number a c l flags range pending late add (subst (λ (s : ObjState). IsCompletion p x.lifted s (a ∷ c ∷ l)) is k)))
