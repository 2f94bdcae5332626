-- From a moment on at which each of the items was out the calls before it may be left out.
use Rattle.std.proofs.Common.{◌≡◌, ℕ, ◌+◌, ◌<◌, ◌≤◌, Bool, true, false, Option, Some, None, List, [], ◌∷◌, ◌++◌, length, ◌⊎◌, inl, inr, refl, sym, ◌∙◌, ap, subst, arith}
use Rattle.std.specs.Prelude.{ℤ, ◌==◌, ◌||◌, IsSomeAnd, nat_eq, slice_index, slice_index_or}
use Rattle.std.specs.Ordering.{int_eq}
use Rattle.std.specs.Cmp.{signed_Decides}
use Rattle.std.specs.List.{slice_get, list_all}
use Rattle.std.proofs.lemmas.Bool.Decides.{eqb_tells}
use Rattle.lin_object.specs.declared.op.Op.{Op}
use Rattle.lin_object.specs.declared.op.Op.TheVariants.{Enqueue, Dequeue, Push, Pop}
use Rattle.lin_object.specs.declared.reply.Reply.{Reply}
use Rattle.lin_object.specs.declared.reply.Reply.TheVariants.{Int, Empty}
use Rattle.lin_object.specs.declared.state.ObjState.{ObjState}
use Rattle.lin_object.specs.declared.state.ObjState.TheVariants.{Queue, Stack}
use Rattle.lin_object.specs.contracts.reply.ReplyPartialEq.TheImpl.{eq-value as reply_eq}
use Rattle.lin_object.specs.contracts.state.ObjStatePartialEq.TheImpl.{eq-value as state_eq}
use Rattle.lin_object.specs.Items.{is_in}
use Rattle.lin_object.specs.Kinds.{after}
use Rattle.lin_object.specs.Kinds.Queue.{queue_step}
use Rattle.lin_object.specs.Kinds.Stack.{stack_step}
use Rattle.lin_object.specs.Kinds.Set.{SetLaw}
use Rattle.lin_object.specs.Kinds.Map.{MapLaw}
use Rattle.lin_history.specs.declared.problems.problem.ProblemCall.{ProblemCall}
use Rattle.lin_history.specs.OptionLemmas.{some_and, some_more, and_some}
use Rattle.lin_history.specs.ReplyLemmas.{reply_same}
use Rattle.lin_history.specs.Problems.Lists.{In, IsDistinct}
use Rattle.lin_history.specs.Problems.ListLemmas.{in_early, in_late}
use Rattle.lin_history.specs.Problems.Problem.{Problem}
use Rattle.lin_history.specs.Problems.ProblemParts.{ProblemParts, AreTimed}
use Rattle.lin_history.specs.Problems.LegalLists.{after_call, fits, state_if_fits}
use Rattle.lin_history.specs.Problems.Precedence.{Before}
use Rattle.lin_history.specs.Problems.AnyProblem.{any_problem}
use Rattle.lin_laws.specs.Counting.{counted, how_many}
use Rattle.lin_parts.specs.Parts.{name}
use Rattle.lin_parts.specs.PartLemmas.{three}
use Rattle.lin_core.specs.Cuts.{call_by, AreCut}
use Rattle.lin_core.specs.Laws.{IsLeft, IsOff}
use Rattle.lin_core.specs.OnValues.{among, IsOnValues}
use Rattle.lin_core.specs.Emptied.{puts, is_item, took, puts_at, took_at, count_puts, count_takes, is_even, HoldsNothing, AreEnoughOnceOut}
use Rattle.lin_core.proofs.CheckLemmas.{below, each_more}
use Rattle.lin_core.proofs.CutLemmas.{Comes, left_by, in_or_not}
use Rattle.lin_core.proofs.OnValues.{fits_then, is_among, is_other, clash, both}
use Rattle.lin_core.proofs.LawLemmas.{any_stays, any_goes}

-- ---- how many calls of a list are so

counted_more : (b : Bool) (n : ℕ) → counted b n ≡ counted b 0 + n
counted_more true n = omega arith
counted_more false n = omega arith

swapped : (a b : Bool) (n : ℕ) → counted a (counted b n) ≡ counted b (counted a n)
swapped true true n = refl
swapped true false n = refl
swapped false true n = refl
swapped false false n = refl

-- the list without one of its calls
record IsWithout (c : ℕ) (l rest : List ℕ) : Type 0 where
  distinct : IsDistinct rest
  other : In c rest → ⊥
  within : (d : ℕ) → In d rest → In d l
  all : (d : ℕ) → In d l → (d ≡ c) ⊎ In d rest
  count : (is : ℕ → Bool) → how_many is l ≡ counted (is c) (how_many is rest)

without : (c : ℕ) (l : List ℕ) → IsDistinct l → In c l → (rest : List ℕ) × IsWithout c l rest
without c [] distinct h = absurd h
without c (d ∷ l) distinct h = elim h [
  | inl same ↦ (
    l,
    record {
      distinct = distinct.1;
      other = λ k. distinct.0 (subst (λ (x : ℕ). In x l) same k);
      within = λ e k. inr k;
      all = λ e k. elim k [ inl is ↦ inl (is ∙ sym same) | inr more ↦ inr more ];
      count = λ is. ap (λ (x : ℕ). counted (is x) (how_many is l)) (sym same);
    },
  )
  | inr there ↦ (let r = without c l distinct.1 there in (
    d ∷ r.0,
    record {
      distinct = ((λ k. distinct.0 (r.1.within d k)), r.1.distinct);
      other = λ k. elim k [ inl same ↦ distinct.0 (subst (λ (x : ℕ). In x l) same there) | inr more ↦ r.1.other more ];
      within = λ e k. elim k [ inl same ↦ inl same | inr more ↦ inr (r.1.within e more) ];
      all = λ e k. elim k [
        | inl same ↦ inr (inl same)
        | inr more ↦ elim (r.1.all e more) [ inl same ↦ inl same | inr rest ↦ inr (inr rest) ]
      ];
      count = λ is. ap (counted (is d)) (r.1.count is) ∙ swapped (is d) (is c) (how_many is r.0);
    },
  ))
]

-- ---- how often an item is in a list

abbrev pub times : ℤ → List ℤ → ℕ
times v [] = 0
times v (x ∷ xs) = counted (int_eq x v) (times v xs)

abbrev often : ℤ → ObjState → ℕ
often v (Queue xs) = times v xs
often v (Stack xs) = times v xs
often v s = 0

-- a queue beside an empty one, or a stack beside an empty one
abbrev BesideEmpty : ObjState → ObjState → Type 0
BesideEmpty (Queue xs) (Queue ys) = ys ≡ []
BesideEmpty (Stack xs) (Stack ys) = ys ≡ []
BesideEmpty s u = ⊥

nothing_more : (n p q : ℕ) → n ≡ 0 → p ≡ q → n + p ≡ q
nothing_more n p q e f = omega (arith, e, f)

none_of : (n : ℕ) → n + 0 ≡ 0 → n ≡ 0
none_of n e = omega (arith, e)

one_less : (n m pl pr tl tr : ℕ) (a b : Bool) → n + pl ≡ tl → pl ≡ counted a pr → tl ≡ counted b tr → m + counted b 0 ≡ n + counted a 0 → m + pr ≡ tr
one_less n m pl pr tl tr a b e f g h = let k = counted_more a pr in let l = counted_more b tr in omega (arith, e, f, g, h, k, l)

plus : (b : Bool) (n m k : ℕ) → n ≡ m + k → counted b n ≡ counted b m + k
plus true n m k e = omega (arith, e)
plus false n m k e = e

pub times_more : (v : ℤ) (xs ys : List ℤ) → times v (xs ++ ys) ≡ times v xs + times v ys
times_more v [] ys = omega arith
times_more v (x ∷ xs) ys = plus (int_eq x v) (times v (xs ++ ys)) (times v xs) (times v ys) (times_more v xs ys)

one_more : (b : Bool) (n : ℕ) → b ≡ true → counted b n ≡ 0 → ⊥
one_more true n e f = omega (arith, f)
one_more false n e f = absurd (cc)

less : (b : Bool) (n : ℕ) → counted b n ≡ 0 → n ≡ 0
less true n e = omega (arith, e)
less false n e = e

none_among : (values xs : List ℤ) → ((v : ℤ) → is_in v values ≡ true → times v xs ≡ 0) → among values xs ≡ []
none_among values [] none = refl
none_among values (x ∷ xs) none = go (is_in x values) refl (none_among values xs (λ v h. less (int_eq x v) (times v xs) (none v h)))
  where
    go : (b : Bool) → is_in x values ≡ b → among values xs ≡ [] → among values (x ∷ xs) ≡ []
    go true e more = absurd (one_more (int_eq x x) (times x xs) ((signed_Decides x x).1 refl) (none x e))
    go false e more = is_other values x xs e ∙ more

-- an item of these is among them as often as before
times_among : (v : ℤ) (values xs : List ℤ) → is_in v values ≡ true → times v (among values xs) ≡ times v xs
times_among v values [] h = refl
times_among v values (x ∷ xs) h = go (is_in x values) refl (times_among v values xs h)
  where
    other : is_in x values ≡ false → (b : Bool) → int_eq x v ≡ b → int_eq x v ≡ false
    other e true f = clash h (subst (λ (z : ℤ). is_in z values ≡ false) ((signed_Decides x v).0 f) e)
    other e false f = f

    go : (b : Bool) → is_in x values ≡ b → times v (among values xs) ≡ times v xs → times v (among values (x ∷ xs)) ≡ times v (x ∷ xs)
    go true e more = ap (times v) (is_among values x xs e) ∙ ap (counted (int_eq x v)) more
    go false e more = ap (times v) (is_other values x xs e) ∙ more ∙ sym (ap (λ (b : Bool). counted b (times v xs)) (other e (int_eq x v) refl))

-- the calls below n that have no flag and are not off the values are among the others
abbrev pub AreOthersTo : List (ProblemCall Op Reply) → ℕ → List Bool → List ℤ → ℕ → List ℕ → Type 0
AreOthersTo calls event flags values n others = (k : ℕ) (x : ProblemCall Op Reply) → k < n → slice_get calls k ≡ Some x → x.called ≤ event → (slice_index_or flags k false ≡ true) ⊎ (IsOff values x ⊎ In k others)

module _ (calls : List (ProblemCall Op Reply)) (event : ℕ) (flags : List Bool) (values : List ℤ) (n : ℕ) (y : ProblemCall Op Reply) (is : slice_get calls n ≡ Some y) (others : List ℕ) (so_far : AreOthersTo calls event flags values n others) where
  pub others_more : AreOthersTo calls event flags values (n + 1) (others ++ n ∷ [])
  others_more = each_more calls (λ (k : ℕ) (x : ProblemCall Op Reply). x.called ≤ event → (slice_index_or flags k false ≡ true) ⊎ (IsOff values x ⊎ In k (others ++ n ∷ []))) n y is
      (λ up. inr (inr (in_late n others (n ∷ []) (inl refl))))
      (λ k x low e up. elim (so_far k x low e up) [
        | inl flag ↦ inl flag
        | inr (inl off) ↦ inr (inl off)
        | inr (inr there) ↦ inr (inr (in_early k others (n ∷ []) there))
      ])

  pub others_still : (y.called ≤ event → (slice_index_or flags n false ≡ true) ⊎ IsOff values y) → AreOthersTo calls event flags values (n + 1) others
  others_still here = each_more calls (λ (k : ℕ) (x : ProblemCall Op Reply). x.called ≤ event → (slice_index_or flags k false ≡ true) ⊎ (IsOff values x ⊎ In k others)) n y is
      (λ up. elim (here up) [ inl flag ↦ inl flag | inr off ↦ inr (inl off) ])
      so_far

-- a call that precedes the first of these precedes them all
module _ {Object : Type 0} (parts : ProblemParts Object ObjState Op Reply) (timed : AreTimed parts.calls) (event : ℕ) (kept : List ℕ) (calls : List (ProblemCall Op Reply)) (cut : AreCut (any_problem parts) event kept calls) where
  pub before_all : (c i : ℕ) → Before (any_problem parts) c (slice_index kept 0) → i < length kept → Before (any_problem parts) c (slice_index kept i)
  before_all c i before there = by (three i 0)
    where
      later : 0 < i → Before (any_problem parts) c (slice_index kept i)
      later more =
          let z = cut.each i there in
          some_more (slice_get parts.calls c) _ _ (λ x q. some_more x.returned _ _ (λ r less_.
          let y = some_and (slice_get parts.calls (slice_index kept 0)) _ less_ in
          let early : r.0 < y.0.called = y.2 in
          let late : y.0.called < z.0.called = timed.called (slice_index kept 0) (slice_index kept i) y.0 z.0 (cut.rises 0 i more there) y.1 z.1 in
          and_some (slice_get parts.calls (slice_index kept i)) (λ w. r.0 < w.called) z.0 z.1 (omega (arith, early, late))) q) before

      by : (i < 0) ⊎ ((i ≡ 0) ⊎ (0 < i)) → Before (any_problem parts) c (slice_index kept i)
      by (inl low) = absurd (omega (arith, low))
      by (inr (inl e)) = subst (λ (k : ℕ). Before (any_problem parts) c (slice_index kept k)) (sym e) before
      by (inr (inr more)) = later more

-- A list that is not empty has a member.
pub some_there : {A : Type 0} (l : List A) (b : Bool) → b ≡ false → b ≡ (length l == 0) → 0 < length l
some_there [] b e f = absurd (cc)
some_there (x ∷ l) b e f = omega arith

-- The same lists by other names.
pub once_out_as : (p : Problem ObjState Op Reply) (event : ℕ) (calls : List (ProblemCall Op Reply)) (kept kept' : List ℕ) (values values' : List ℤ) → kept ≡ kept' → values ≡ values' → AreEnoughOnceOut p event kept calls values → AreEnoughOnceOut p event kept' calls values'
once_out_as p event calls kept kept' values values' e f k = subst (λ (x : List ℕ). AreEnoughOnceOut p event x calls values') e (subst (λ (x : List ℤ). AreEnoughOnceOut p event kept calls x) f k)

-- Each other call may go.
pub others_go : (p : Problem ObjState Op Reply) (event : ℕ) (flags : List Bool) (kept : List ℕ) (values : List ℤ) (others : List ℕ)
    → ((c : ℕ) → slice_index_or flags c false ≡ true → In c kept)
    → ((c : ℕ) (x : ProblemCall Op Reply) → slice_get p.calls c ≡ Some x → x.called ≤ event → (slice_index_or flags c false ≡ true) ⊎ (IsOff values x ⊎ In c others))
    → (c : ℕ) (x : ProblemCall Op Reply) → slice_get p.calls c ≡ Some x → x.called ≤ event → In c kept ⊎ (IsOff values x ⊎ In c others)
others_go p event flags kept values others set each c x e up = elim (each c x e up) [ inl flag ↦ inl (set c flag) | inr k ↦ inr k ]

-- where each item of a list is even, each is that is in it
same_count : (n m : ℕ) → nat_eq n m ≡ true → n ≡ m
same_count n m e = elim (eqb_tells n m) [ inl k ↦ k.1 | inr k ↦ clash e k.0 ]

pub even_each : (calls : List (ProblemCall Op Reply)) (these : List ℕ) (items : List ℤ) → list_all (is_even calls these) items ≡ true → (v : ℤ) → is_in v items ≡ true → count_puts calls v these ≡ count_takes calls v these
even_each calls these [] all v h = absurd (cc)
even_each calls these (x ∷ xs) all v h = go (int_eq x v) refl (even_each calls these xs k.1 v)
  where
    k : (is_even calls these x ≡ true) × (list_all (is_even calls these) xs ≡ true)
    k = both (is_even calls these x) (list_all (is_even calls these) xs) all

    go : (b : Bool) → int_eq x v ≡ b → (is_in v xs ≡ true → count_puts calls v these ≡ count_takes calls v these) → count_puts calls v these ≡ count_takes calls v these
    go true e more = subst (λ (z : ℤ). count_puts calls z these ≡ count_takes calls z these) ((signed_Decides x v).0 e) (same_count (count_puts calls x these) (count_takes calls x these) k.0)
    go false e more = more (subst (λ (b : Bool). b || is_in v xs ≡ true) e h)

-- ---- what a step does to it

-- after a step an item is there as often as before, with what was put and taken
abbrev CountAt : ℤ → Op → ℕ × Reply → ObjState → Option (ObjState × Reply) → Type 0
CountAt v op r s None = Unit {0}
CountAt v op r s (Some y) = fits reply_eq.it y.1 (Some r) ≡ true → often v y.0 + counted (took v op (Some r)) 0 ≡ often v s + counted (puts v op) 0

abbrev StillAt : ObjState → Option (ObjState × Reply) → Type 0
StillAt u None = Unit {0}
StillAt u (Some y) = BesideEmpty y.0 u

same_more : (n m : ℕ) → n ≡ m → n + 0 ≡ m
same_more n m e = omega (arith, e)

taken : (a b : Bool) (n : ℕ) → a ≡ b → n + counted a 0 ≡ counted b n + 0
taken true true n e = omega arith
taken false false n e = refl
taken true false n e = absurd (cc)
taken false true n e = absurd (cc)

pushed : (b : Bool) (n : ℕ) → counted b n + 0 ≡ n + counted b 0
pushed true n = omega arith
pushed false n = refl

module _ (v : ℤ) (r : ℕ × Reply) where
  pub gave_item : (w : ℤ) → fits reply_eq.it (Int w) (Some r) ≡ true → is_item v r.1 ≡ int_eq w v
  gave_item w f = ap (is_item v) (sym (reply_same (Int w) r.1 f))

  gave_none : fits reply_eq.it Empty (Some r) ≡ true → 0 + counted (is_item v r.1) 0 ≡ 0 + 0
  gave_none f = ap (λ (reply : Reply). 0 + counted (is_item v reply) 0) (sym (reply_same Empty r.1 f))

  queue_counts : (xs : List ℤ) (op : Op) → CountAt v op r (Queue xs) (queue_step xs op)
  queue_counts xs (Enqueue w) = λ f. same_more (times v (xs ++ w ∷ [])) (times v xs + counted (int_eq w v) 0) (times_more v xs (w ∷ []))
  queue_counts [] Dequeue = λ f. gave_none f
  queue_counts (w ∷ xs) Dequeue = λ f. taken (is_item v r.1) (int_eq w v) (times v xs) (gave_item w f)
  queue_counts xs op = tt

  stack_counts : (xs : List ℤ) (op : Op) → CountAt v op r (Stack xs) (stack_step xs op)
  stack_counts xs (Push w) = λ f. pushed (int_eq w v) (times v xs)
  stack_counts [] Pop = λ f. gave_none f
  stack_counts (w ∷ xs) Pop = λ f. taken (is_item v r.1) (int_eq w v) (times v xs) (gave_item w f)
  stack_counts xs op = tt

  counts_at : (process : ℕ) (op : Op) (s u : ObjState) → BesideEmpty s u → CountAt v op r s (after s process op)
  counts_at process op (Queue xs) (Queue ys) k = queue_counts xs op
  counts_at process op (Stack xs) (Stack ys) k = stack_counts xs op
  counts_at process op s u k = absurd k

  counts_of : (op : Op) (s t : ObjState) (a : Option (ObjState × Reply)) → CountAt v op r s a → state_if_fits reply_eq.it (Some r) a ≡ Some t → often v t + counted (took v op (Some r)) 0 ≡ often v s + counted (puts v op) 0
  counts_of op s t None k e = absurd (cc)
  counts_of op s t (Some y) k e =
      let b = fits_then (fits reply_eq.it y.1 (Some r)) y.0 t e in
      subst (λ (z : ObjState). often v z + counted (took v op (Some r)) 0 ≡ often v s + counted (puts v op) 0) b.1 (k b.0)

queue_beside : (xs ys : List ℤ) (op : Op) → ys ≡ [] → StillAt (Queue ys) (queue_step xs op)
queue_beside xs ys (Enqueue w) e = e
queue_beside [] ys Dequeue e = e
queue_beside (w ∷ xs) ys Dequeue e = e
queue_beside xs ys op e = tt

stack_beside : (xs ys : List ℤ) (op : Op) → ys ≡ [] → StillAt (Stack ys) (stack_step xs op)
stack_beside xs ys (Push w) e = e
stack_beside [] ys Pop e = e
stack_beside (w ∷ xs) ys Pop e = e
stack_beside xs ys op e = tt

beside_at : (process : ℕ) (op : Op) (s u : ObjState) → BesideEmpty s u → StillAt u (after s process op)
beside_at process op (Queue xs) (Queue ys) k = queue_beside xs ys op k
beside_at process op (Stack xs) (Stack ys) k = stack_beside xs ys op k
beside_at process op s u k = absurd k

beside_of : (returned : Option (ℕ × Reply)) (t u : ObjState) (a : Option (ObjState × Reply)) → StillAt u a → state_if_fits reply_eq.it returned a ≡ Some t → BesideEmpty t u
beside_of returned t u None k e = absurd (cc)
beside_of returned t u (Some y) k e = let b = fits_then (fits reply_eq.it y.1 returned) y.0 t e in subst (λ (z : ObjState). BesideEmpty z u) b.1 k

-- where none of the items is in, what is known of them is that nothing is there
none_there : (values : List ℤ) (s u : ObjState) → BesideEmpty s u → ((v : ℤ) → is_in v values ≡ true → often v s ≡ 0) → IsOnValues values s u
none_there values (Queue xs) (Queue ys) e none = none_among values xs none ∙ sym e
none_there values (Stack xs) (Stack ys) e none = none_among values xs none ∙ sym e
none_there values s u e none = absurd e

starts_beside : (s : ObjState) → HoldsNothing s → BesideEmpty s s
starts_beside (Queue xs) e = e
starts_beside (Stack xs) e = e
starts_beside s e = absurd e

starts_none : (v : ℤ) (s : ObjState) → HoldsNothing s → often v s ≡ 0
starts_none v (Queue xs) e = ap (times v) e
starts_none v (Stack xs) e = ap (times v) e
starts_none v s e = absurd e

module _ (v : ℤ) (values : List ℤ) (h : is_in v values ≡ true) where
  often_queue : (t : ObjState) (ys : List ℤ) → IsOnValues values t (Queue ys) → often v t ≡ times v ys
  often_queue (Queue zs) ys e = sym (times_among v values zs h) ∙ ap (times v) e
  often_queue t ys e = absurd e

  often_stack : (t : ObjState) (ys : List ℤ) → IsOnValues values t (Stack ys) → often v t ≡ times v ys
  often_stack (Stack zs) ys e = sym (times_among v values zs h) ∙ ap (times v) e
  often_stack t ys e = absurd e

  -- a call that changes nothing of what is known of the items leaves each there as often
  off_counts : SetLaw after state_eq.it → MapLaw after state_eq.it → (x : ProblemCall Op Reply) (s t u : ObjState) → IsOff values x → BesideEmpty s u → state_if_fits reply_eq.it x.returned (after s x.process x.op) ≡ Some t → often v t ≡ often v s
  off_counts sets maps x (Queue xs) t (Queue ys) off k n = often_queue t (among values xs) (any_goes sets maps values x (Queue xs) t (Queue (among values xs)) off refl n) ∙ times_among v values xs h
  off_counts sets maps x (Stack xs) t (Stack ys) off k n = often_stack t (among values xs) (any_goes sets maps values x (Stack xs) t (Stack (among values xs)) off refl n) ∙ times_among v values xs h
  off_counts sets maps x s t u off k n = absurd k

no_calls : (l : List ℕ) → ((c : ℕ) → In c l → ⊥) → l ≡ []
no_calls [] h = refl
no_calls (d ∷ l) h = absurd (h d (inl refl))

-- ---- the calls from such a moment on

module _ {Object : Type 0} (sets : SetLaw after state_eq.it) (maps : MapLaw after state_eq.it) (parts : ProblemParts Object ObjState Op Reply) (values : List ℤ) (event : ℕ) (kept : List ℕ) (calls : List (ProblemCall Op Reply)) (enough : AreEnoughOnceOut (any_problem parts) event kept calls values) where
  abbrev A : Problem ObjState Op Reply
  A = any_problem parts

  -- no call that is kept has come: with the earlier ones that did not come yet as many of each item go in as come out
  record Awaits (past : List ℕ) (s u : ObjState) : Type 0 where
    left : List ℕ
    distinct : IsDistinct left
    within : (c : ℕ) → In c left → In c enough.earlier
    apart : (c : ℕ) → In c left → In c past → ⊥
    all : (c : ℕ) → In c enough.earlier → In c past ⊎ In c left
    beside : BesideEmpty s u
    counts : (v : ℤ) → is_in v values ≡ true → often v s + count_puts parts.calls v left ≡ count_takes parts.calls v left

  abbrev AllCame : List ℕ → Type 0
  AllCame past = (c : ℕ) → In c enough.earlier → In c past

  abbrev R : List ℕ → ObjState → ObjState → Type 0
  R past s u = Awaits past s u ⊎ (AllCame past × IsOnValues values s u)

  abbrev CanCome : List ℕ → ℕ → Type 0
  CanCome past c = Comes A event kept calls enough.cut past c

  starts : R [] A.start A.start
  starts = inl (record {
    left = enough.earlier;
    distinct = enough.distinct;
    within = λ c h. h;
    apart = λ c h there. there;
    all = λ c h. inr h;
    beside = starts_beside parts.start enough.starts;
    counts = λ v h. nothing_more (often v parts.start) (count_puts parts.calls v enough.earlier) (count_takes parts.calls v enough.earlier) (starts_none v parts.start enough.starts) (enough.even v h);
  })

  -- once all the earlier calls have come each of the items is out
  out : (past : List ℕ) (s u : ObjState) → Awaits past s u → AllCame past → IsOnValues values s u
  out past s u k all = none_there values s u k.beside (λ v h. none_of (often v s) (subst (λ (l : List ℕ). often v s + count_puts parts.calls v l ≡ count_takes parts.calls v l) nothing (k.counts v h)))
    where
      nothing : k.left ≡ []
      nothing = no_calls k.left (λ c there. k.apart c there (all c (k.within c there)))

  abbrev Stays : List ℕ → ℕ → ProblemCall Op Reply → ObjState → ObjState → Type 0
  Stays past c x t u = ((v : ObjState) × (after_call A u (Some (call_by event x)) ≡ Some v) × R (c ∷ past) t v) ⊎ (R (c ∷ past) t u × ((call_by event x).returned ≡ None))

  stays : (past : List ℕ) (c i : ℕ) (x : ProblemCall Op Reply) (s t u : ObjState) → name kept i ≡ c → slice_get calls i ≡ Some (call_by event x) → CanCome past c → R past s u → after_call A s (Some (call_by event x)) ≡ Some t → Stays past c x t u
  stays past c i x s t u is here comes r n = elim (any_stays sets maps values (call_by event x) s t u (enough.stay i (call_by event x) here) on n) [
    | inl a ↦ inl (a.0, a.1, inr (more, a.2))
    | inr a ↦ inr (inr (more, a.0), a.1)
  ]
    where
      there : i < length kept
      there = (let k = below calls i (call_by event x) here in let e = enough.cut.count in omega (arith, k, e))

      came : AllCame past
      came g h = comes.1 g (subst (λ (m : ℕ). Before A g m) is (enough.before g i h there))

      more : AllCame (c ∷ past)
      more g h = inr (came g h)

      on : IsOnValues values s u
      on = elim r [ inl k ↦ out past s u k came | inr k ↦ k.1 ]

  -- a step of one of the earlier calls
  module _ (past : List ℕ) (c : ℕ) (x : ProblemCall Op Reply) (s t u : ObjState) (f : slice_get parts.calls c ≡ Some x) (comes : CanCome past c) (n : after_call A s (Some x) ≡ Some t) where
    answered : In c enough.earlier → (r : ℕ × Reply) × (x.returned ≡ Some r)
    answered there =
        let before : IsSomeAnd x.returned (λ (r : ℕ × Reply). IsSomeAnd (slice_get parts.calls (name kept 0)) (λ (z : ProblemCall Op Reply). r.0 < z.called)) = subst (λ (o : Option (ProblemCall Op Reply)). IsSomeAnd o (λ (y : ProblemCall Op Reply). IsSomeAnd y.returned (λ (r : ℕ × Reply). IsSomeAnd (slice_get parts.calls (name kept 0)) (λ (z : ProblemCall Op Reply). r.0 < z.called)))) f (enough.before c 0 there enough.some) in
        let r = some_and x.returned _ before in
        (r.0, r.1)

    counted_by : In c enough.earlier → BesideEmpty s u → (v : ℤ) → often v t + counted (took v x.op x.returned) 0 ≡ often v s + counted (puts v x.op) 0
    counted_by there beside v =
        let r = answered there in
        subst (λ (o : Option (ℕ × Reply)). often v t + counted (took v x.op o) 0 ≡ often v s + counted (puts v x.op) 0) (sym r.1)
        (counts_of v r.0 x.op s t (after s x.process x.op) (counts_at v r.0 x.process x.op s u beside) (subst (λ (o : Option (ℕ × Reply)). state_if_fits reply_eq.it o (after s x.process x.op) ≡ Some t) r.1 n))

    still : BesideEmpty s u → BesideEmpty t u
    still k = beside_of x.returned t u (after s x.process x.op) (beside_at x.process x.op s u k) n

    comes_now : In c enough.earlier → Awaits past s u → Awaits (c ∷ past) t u
    comes_now there k = record {
      left = w.0;
      distinct = w.1.distinct;
      within = λ d h. k.within d (w.1.within d h);
      apart = λ d h p. elim p [ inl same ↦ w.1.other (subst (λ (m : ℕ). In m w.0) same h) | inr more ↦ k.apart d (w.1.within d h) more ];
      all = λ d h. elim (k.all d h) [
        | inl a ↦ inl (inr a)
        | inr b ↦ elim (w.1.all d b) [ inl same ↦ inl (inl same) | inr rest ↦ inr rest ]
      ];
      beside = still k.beside;
      counts = λ v h. one_less (often v s) (often v t) (count_puts parts.calls v k.left) (count_puts parts.calls v w.0) (count_takes parts.calls v k.left) (count_takes parts.calls v w.0) (puts v x.op) (took v x.op x.returned) (k.counts v h) (put_one v) (took_one v) (counted_by there k.beside v);
    }
      where
        in_left : In c k.left
        in_left = elim (k.all c there) [ inl a ↦ absurd (comes.0 a) | inr b ↦ b ]

        w : (rest : List ℕ) × IsWithout c k.left rest
        w = without c k.left k.distinct in_left

        put_one : (v : ℤ) → count_puts parts.calls v k.left ≡ counted (puts v x.op) (count_puts parts.calls v w.0)
        put_one v = subst (λ (o : Option (ProblemCall Op Reply)). count_puts parts.calls v k.left ≡ counted (puts_at v o) (count_puts parts.calls v w.0)) f (w.1.count (λ (d : ℕ). puts_at v (slice_get parts.calls d)))

        took_one : (v : ℤ) → count_takes parts.calls v k.left ≡ counted (took v x.op x.returned) (count_takes parts.calls v w.0)
        took_one v = subst (λ (o : Option (ProblemCall Op Reply)). count_takes parts.calls v k.left ≡ counted (took_at v o) (count_takes parts.calls v w.0)) f (w.1.count (λ (d : ℕ). took_at v (slice_get parts.calls d)))

    -- a step of another call that is not kept
    passes : IsOff values x → (In c enough.earlier → ⊥) → Awaits past s u → Awaits (c ∷ past) t u
    passes off other k = record {
      left = k.left;
      distinct = k.distinct;
      within = k.within;
      apart = λ d h p. elim p [ inl same ↦ other (subst (λ (m : ℕ). In m enough.earlier) same (k.within d h)) | inr more ↦ k.apart d h more ];
      all = λ d h. elim (k.all d h) [ inl a ↦ inl (inr a) | inr b ↦ inr b ];
      beside = still k.beside;
      counts = λ v h. ap (λ (m : ℕ). m + count_puts parts.calls v k.left) (off_counts v values h sets maps x s t u off k.beside n) ∙ k.counts v h;
    }

    goes : x.called ≤ event → (In c kept → ⊥) → R past s u → R (c ∷ past) t u
    goes up unkept r = elim r [
      | inl k ↦ inl (elim (in_or_not c enough.earlier) [ inl there ↦ comes_now there k | inr other ↦ passes (off other) other k ])
      | inr k ↦ inr ((λ g h. inr (k.0 g h)), any_goes sets maps values x s t u (off (λ h. comes.0 (k.0 c h))) k.1 n)
    ]
      where
        off : (In c enough.earlier → ⊥) → IsOff values x
        off other = elim (enough.go c x f up) [
          | inl h ↦ absurd (unkept h)
          | inr (inl o) ↦ o
          | inr (inr h) ↦ absurd (other h)
        ]

  -- A linearization of the whole leaves one of the calls that are kept.
  pub emptied_left : IsLeft A kept calls
  emptied_left = left_by A event kept calls enough.cut R starts
      (λ past c i x s t u f is up here there comes r n. stays past c i x s t u is here comes r n)
      (λ past c x s t u f up unkept comes r n. goes past c x s t u f comes n up unkept r)
