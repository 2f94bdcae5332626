-- What adds up on a counter: no call of a linearization is too much for a get that stands behind it.
use Rattle.std.proofs.Common.{◌≡◌, ◌≢◌, ℕ, ◌+◌, ◌<◌, ◌≤◌, Bool, true, false, not, Option, Some, None, List, [], ◌∷◌, ◌++◌, length, ◌⊎◌, inl, inr, refl, sym, ◌∙◌, ap, subst, append_assoc, arith, if◌then◌else◌}
use Rattle.std.specs.Prelude.{ℤ, ◌+ℤ◌, slice_get}
use Rattle.std.proofs.lemmas.Int.{ints}
use Rattle.std.proofs.lemmas.Option.{slice_get_within}
use Rattle.lin_object.specs.declared.op.Op.{Op}
use Rattle.lin_object.specs.declared.op.Op.TheVariants.{Add, Get}
use Rattle.lin_object.specs.declared.reply.Reply.{Reply}
use Rattle.lin_object.specs.declared.reply.Reply.TheVariants.{Okay, Int}
use Rattle.lin_object.specs.declared.state.ObjState.{ObjState}
use Rattle.lin_object.specs.declared.state.ObjState.TheVariants.{Counter}
use Rattle.lin_object.specs.Kinds.Counter.{counter_step, is_in_range}
use Rattle.lin_history.specs.declared.problems.problem.ProblemCall.{ProblemCall}
use Rattle.lin_history.specs.Problems.Problem.{Problem}
use Rattle.lin_history.specs.Problems.Lists.{In, IsDistinct}
use Rattle.lin_history.specs.Problems.ListLemmas.{in_early, in_late, in_either, in_place, distinct_early}
use Rattle.lin_history.specs.Problems.LegalLists.{fits, state_if_fits, after_call, next, Legal}
use Rattle.lin_history.specs.Problems.Precedence.{Before, IsCompleted}
use Rattle.lin_history.specs.Problems.Continuations.{has}
use Rattle.lin_history.specs.Problems.Linearizations.{IsLinearization}
use Rattle.lin_search.specs.CallSetLemmas.{no_calls_has}
use Rattle.lin_ahead.specs.declared.counters.rows.SumLimit.{SumLimit}
use Rattle.lin_ahead.specs.declared.counters.rows.SumRows.{SumRows}
use Rattle.lin_ahead.specs.Counters.Sums.{Got, IsLimit, AreLimits, row_of, IsLoad, NoneIsOver}
use Rattle.lin_laws.specs.Shares.{share_in, share_of, share_of_call, total, sum_of_shares}
use Rattle.lin_ahead.proofs.items.ChainLemmas.{legal_split}
use Rattle.lin_ahead.proofs.first.PlaceLemmas.{not_in_front}
use Rattle.lin_laws.specs.Exact.{IsExact}

-- ---- sums over lists

pub total_append : (f : ℕ → ℕ) (xs ys : List ℕ) → total f (xs ++ ys) ≡ total f xs + total f ys
total_append f [] ys = omega arith
total_append f (x ∷ xs) ys = let h = total_append f xs ys in omega (arith, h)

without_in : (c d : ℕ) (early late : List ℕ) → In d (early ++ c ∷ late) → d ≢ c → In d (early ++ late)
without_in c d early late h ne = elim (in_either d early (c ∷ late) h) [
  | inl p ↦ in_early d early late p
  | inr (inl e) ↦ absurd (ne e)
  | inr (inr p) ↦ in_late d early late p
]

-- distinct calls of a list add no more than all of it
pub total_part : (f : ℕ → ℕ) (xs ys : List ℕ) → IsDistinct xs → ((c : ℕ) → In c xs → In c ys) → total f xs ≤ total f ys
total_part f [] ys d inside = omega arith
total_part f (x ∷ xs) ys d inside =
    let place = in_place x ys (inside x (inl refl)) in
    let rest = total_part f xs (place.0 ++ place.1) d.1 (λ c h. without_in x c place.0 place.1 (subst (λ (l : List ℕ). In c l) place.2 (inside c (inr h))) (λ e. d.0 (subst (λ (n : ℕ). In n xs) e h))) in
    let whole : total f ys ≡ total f place.0 + (f x + total f place.1) = ap (total f) place.2 ∙ total_append f place.0 (x ∷ place.1) in
    let parts = total_append f place.0 place.1 in
    omega (arith, rest, whole, parts)

pub distinct_both : (xs ys : List ℕ) → IsDistinct xs → IsDistinct ys → ((c : ℕ) → In c xs → In c ys → ⊥) → IsDistinct (xs ++ ys)
distinct_both [] ys d e apart = e
distinct_both (x ∷ xs) ys d e apart = (
  (λ h. elim (in_either x xs ys h) [ inl p ↦ d.0 p | inr p ↦ apart x (inl refl) p ]),
  distinct_both xs ys d.1 e (λ c h k. apart c (inr h) k),
)

-- ---- what a step of a counter adds

-- one number leads to another by what the operation adds
abbrev Leads : ℤ → Op → ℤ → Type 0
Leads n op k = (up : Bool) → share_in up n + share_of up op + share_in (not up) k ≡ share_in up k + share_in (not up) n + share_of (not up) op

leads_by : (n d : ℤ) → Leads n (Add d) (n +ℤ d)
leads_by n d true = omega (arith, ints)
leads_by n d false = omega (arith, ints)

leads_get : (n : ℤ) → Leads n Get n
leads_get n up = omega arith

true_is_false : true ≡ false → ⊥
true_is_false e = absurd (cc)

add_moves : (b : Bool) (n d : ℤ) (m : ObjState) (r : Reply) → ◌≡◌ {A = Option (ObjState × Reply)} (if b then Some (Counter (n +ℤ d), Okay) else None) (Some (m, r)) → m ≡ Counter (n +ℤ d)
add_moves true n d m r e = let h : ◌≡◌ {A = ObjState × Reply} (m, r) (Counter (n +ℤ d), Okay) = cc in ap (λ (a : ObjState × Reply). a.0) h
add_moves false n d m r e = absurd (cc)

no_step : (m : ObjState) (r : Reply) → ◌≡◌ {A = Option (ObjState × Reply)} None (Some (m, r)) → ⊥
no_step m r e = absurd (cc)

counter_moves : (n : ℤ) (op : Op) (m : ObjState) (r : Reply) → counter_step n op ≡ Some (m, r) → (k : ℤ) × (m ≡ Counter k) × Leads n op k
counter_moves n (Add d) m r e = (n +ℤ d, add_moves (is_in_range (n +ℤ d)) n d m r e, leads_by n d)
counter_moves n Get m r e = (n, (let h : ◌≡◌ {A = ObjState × Reply} (m, r) (Counter n, Int n) = cc in ap (λ (a : ObjState × Reply). a.0) h), leads_get n)
counter_moves n op m r e = absurd (no_step m r e)

module _ (p : Problem ObjState Op Reply) (exact : IsExact p) where
  there_in : (s m : ObjState) (c : ℕ) (o : Option (ProblemCall Op Reply)) → after_call p s o ≡ Some m → (x : ProblemCall Op Reply) × (o ≡ Some x)
  there_in s m c None e = absurd (cc)
  there_in s m c (Some x) e = (x, refl)

  -- a call that has a step is there
  step_there : (s m : ObjState) (c : ℕ) → next p s c ≡ Some m → (x : ProblemCall Op Reply) × (slice_get p.calls c ≡ Some x)
  step_there s m c e = there_in s m c (slice_get p.calls c) e

  given : (answer : Option (ObjState × Reply)) (recorded : Option (ℕ × Reply)) (m : ObjState) → state_if_fits p.same_reply recorded answer ≡ Some m → (r : Reply) × (answer ≡ Some (m, r)) × (fits p.same_reply r recorded ≡ true)
  given None recorded m e = absurd (cc)
  given (Some answer) recorded m e = go (fits p.same_reply answer.1 recorded) refl e
    where
      go : (b : Bool) → fits p.same_reply answer.1 recorded ≡ b → (if b then Some answer.0 else None) ≡ Some m → (r : Reply) × (◌≡◌ {A = Option (ObjState × Reply)} (Some answer) (Some (m, r))) × (fits p.same_reply r recorded ≡ true)
      go true f g = (answer.1, (let h : answer.0 ≡ m = cc in ap (λ (x : ObjState). Some (x, answer.1)) h), f)
      go false f g = absurd (cc)

  -- the answer of a call's step on a counter
  answered : (n : ℤ) (m : ObjState) (c : ℕ) (x : ProblemCall Op Reply) → slice_get p.calls c ≡ Some x → next p (Counter n) c ≡ Some m → (r : Reply) × (counter_step n x.op ≡ Some (m, r)) × (fits p.same_reply r x.returned ≡ true)
  answered n m c x there step =
      let here : after_call p (Counter n) (Some x) ≡ Some m = subst (λ (o : Option (ProblemCall Op Reply)). after_call p (Counter n) o ≡ Some m) there step in
      let k = given (p.after (Counter n) x.process x.op) x.returned m here in
      (k.0, sym (exact.after_is (Counter n) x.process x.op) ∙ k.1, k.2)

  -- a legal list leads from one number to another
  abbrev LeadsBy : ℤ → List ℕ → ℤ → Type 0
  LeadsBy n l k = (up : Bool) → share_in up n + sum_of_shares up p.calls l + share_in (not up) k ≡ share_in up k + share_in (not up) n + sum_of_shares (not up) p.calls l

  leads_more : (n j k : ℤ) (c : ℕ) (cs : List ℕ) (x : ProblemCall Op Reply) → slice_get p.calls c ≡ Some x → Leads n x.op j → LeadsBy j cs k → LeadsBy n (c ∷ cs) k
  leads_more n j k c cs x there one more up =
      let a = one up in
      let b = more up in
      let e : share_of_call up (slice_get p.calls c) ≡ share_of up x.op = ap (share_of_call up) there in
      let f : share_of_call (not up) (slice_get p.calls c) ≡ share_of (not up) x.op = ap (share_of_call (not up)) there in
      omega (arith, a, b, e, f)

  leads_none : (n : ℤ) → LeadsBy n [] n
  leads_none n up = omega arith

  pub counts : (l : List ℕ) (n : ℤ) (t : ObjState) → Legal p (Counter n) l t → (k : ℤ) × (t ≡ Counter k) × LeadsBy n l k
  counts [] n t e = (n, sym e, leads_none n)
  counts (c ∷ cs) n t (m, step, more) =
      let x = step_there (Counter n) m c step in
      let a = answered n m c x.0 x.1 step in
      let j = counter_moves n x.0.op m a.0 a.1 in
      let rest = counts cs j.0 t (subst (λ (s : ObjState). Legal p s cs t) j.1 more) in
      (rest.0, rest.1, leads_more n j.0 rest.0 c cs x.0 x.1 j.2 rest.2)

  -- each call of a legal list is there
  legal_there : (l : List ℕ) (s t : ObjState) (a : ℕ) → Legal p s l t → In a l → a < length p.calls
  legal_there [] s t a k h = absurd h
  legal_there (c ∷ cs) s t a (m, step, more) (inl e) = let x = step_there s m c step in subst (λ (n : ℕ). n < length p.calls) (sym e) (slice_get_within p.calls c x.0 x.1)
  legal_there (c ∷ cs) s t a (m, step, more) (inr h) = legal_there cs m t a more h

  get_answer : (n : ℤ) (op : Op) (m : ObjState) (r : Reply) → op ≡ Get → counter_step n op ≡ Some (m, r) → r ≡ Int n
  get_answer n op m r is e = let f : counter_step n Get ≡ Some (m, r) = subst (λ (o : Op). counter_step n o ≡ Some (m, r)) is e in let h : ◌≡◌ {A = ObjState × Reply} (m, r) (Counter n, Int n) = cc in ap (λ (a : ObjState × Reply). a.1) h

  same_int : (n v : ℤ) → Int n ≡ Int v → n ≡ v
  same_int n v e = cc

  -- a get returns with the number that is there
  got_here : (n value : ℤ) (m : ObjState) (g : ℕ) → Got p g value → next p (Counter n) g ≡ Some m → n ≡ value
  got_here n value m g (x, there, op, (number, back)) step =
      let a = answered n m g x there step in
      let r : a.0 ≡ Int n = get_answer n x.op m a.0 op a.1 in
      let f : p.same_reply a.0 (Int value) ≡ true = subst (λ (o : Option (ℕ × Reply)). fits p.same_reply a.0 o ≡ true) back a.2 in
      same_int n value (sym r ∙ exact.exact a.0 (Int value) f)

  -- ---- no call of a linearization is too much

  module _ (start : ℤ) (starts : p.start ≡ Counter start) (l early rest : List ℕ) (c : ℕ) (set : List Bool) (whole : IsLinearization p l) (eq : l ≡ early ++ c ∷ rest) (set_is : (a : ℕ) → (has set a ≡ true → In a early) × (In a early → has set a ≡ true)) (up : Bool) (g : ℕ) (limit : SumLimit) (k : IsLimit p start up g limit) (outside : has set g ≡ false) (other : g ≢ c) where
    done : IsCompleted p g
    done = rw (k.got.1, k.got.3.1) refl

    in_all : In g l
    in_all = elim (whole.complete g done) [
      | inl no_call ↦ absurd (let none = no_calls_has (length p.calls) g in cc)
      | inr h ↦ h
    ]

    in_rest : In g rest
    in_rest = elim (in_either g early (c ∷ rest) (subst (λ (m : List ℕ). In g m) eq in_all)) [
      | inl h ↦ absurd (let is = (set_is g).1 h in cc)
      | inr (inl e) ↦ absurd (other e)
      | inr (inr h) ↦ h
    ]

    place : (mid : List ℕ) × (back : List ℕ) × (rest ≡ mid ++ g ∷ back)
    place = in_place g rest in_rest

    abbrev front : List ℕ
    front = early ++ c ∷ place.0

    split : l ≡ front ++ g ∷ place.1
    split = eq ∙ ap (λ (m : List ℕ). early ++ c ∷ m) place.2 ∙ sym (append_assoc early (c ∷ place.0) (g ∷ place.1))

    distinct : IsDistinct (front ++ g ∷ place.1)
    distinct = subst IsDistinct split whole.continuation.distinct

    abbrev end : ObjState
    end = whole.continuation.legal.0

    legal : Legal p (Counter start) (front ++ g ∷ place.1) end
    legal = subst (λ (m : List ℕ). Legal p (Counter start) m end) split (subst (λ (s : ObjState). Legal p s l end) starts whole.continuation.legal.1)

    two : (t : ObjState) × Legal p (Counter start) front t × Legal p t (g ∷ place.1) end
    two = legal_split p exact front (g ∷ place.1) (Counter start) end legal

    here : (n : ℤ) × (two.0 ≡ Counter n) × LeadsBy start front n
    here = counts front start two.0 two.1

    value_is : here.0 ≡ k.value
    value_is =
        let step : Legal p (Counter here.0) (g ∷ place.1) end = subst (λ (s : ObjState). Legal p s (g ∷ place.1) end) here.1 two.2 in
        got_here here.0 k.value step.0 g k.got step.1

    leads : LeadsBy start front k.value
    leads = subst (λ (n : ℤ). LeadsBy start front n) value_is here.2

    -- what precedes the get stands in front of it
    preceding : (a : ℕ) → Before p a g → In a front
    preceding a before = elim (whole.continuation.ordered front g place.1 split a before) [
      | inl no_call ↦ absurd (let none = no_calls_has (length p.calls) a in cc)
      | inr h ↦ h
    ]

    -- and it precedes nothing in front of it
    not_behind : (a : ℕ) → In a front → Before p g a → ⊥
    not_behind a there before =
        let at = in_place a front there in
        let eq_a : l ≡ at.0 ++ a ∷ (at.1 ++ g ∷ place.1) = split ∙ ap (λ (m : List ℕ). m ++ g ∷ place.1) at.2 ∙ append_assoc at.0 (a ∷ at.1) (g ∷ place.1) in
        elim (whole.continuation.ordered at.0 a (at.1 ++ g ∷ place.1) eq_a g before) [
          | inl no_call ↦ absurd (let none = no_calls_has (length p.calls) g in cc)
          | inr h ↦ not_in_front front g place.1 distinct (subst (λ (m : List ℕ). In g m) (sym at.2) (in_early g at.0 (a ∷ at.1) h))
        ]

    -- all that is counted stands in front of the get
    load_in : (a : ℕ) → (a ≡ c) ⊎ (has set a ≡ true) → In a front
    load_in a (inl e) = subst (λ (n : ℕ). In n front) (sym e) (in_late c early (c ∷ place.0) (inl refl))
    load_in a (inr h) = in_early a early (c ∷ place.0) ((set_is a).0 h)

    within_limit : (load : ℕ) → IsLoad p set up g c load → limit.least + load ≤ limit.most
    within_limit load x =
        let before = k.is_before in
        let through = k.is_through in
        let both = distinct_both before.0 x.calls before.1 x.distinct (λ a h i. (x.free a i).1 ((before.2 a).0 h)) in
        let inside : (a : ℕ) → In a (before.0 ++ x.calls) → In a front = λ a h. elim (in_either a before.0 x.calls h) [ inl i ↦ preceding a ((before.2 a).0 i) | inr i ↦ load_in a ((x.free a i).0) ] in
        let one = total_part (λ a. share_of_call up (slice_get p.calls a)) (before.0 ++ x.calls) front both inside in
        let parts = total_append (λ a. share_of_call up (slice_get p.calls a)) before.0 x.calls in
        let over = total_part (λ a. share_of_call (not up) (slice_get p.calls a)) front through.0 (distinct_early front (g ∷ place.1) distinct) (λ a h. (through.2 a).1 (legal_there front (Counter start) two.0 a two.1 h, not_behind a h)) in
        let sum = x.sum in
        let b = before.3 in
        let t = through.3 in
        let balance = leads up in
        let low = k.is_low in
        let high = k.is_high in
        let least = k.least in
        let most = k.most in
        omega (arith, one, parts, over, sum, b, t, balance, low, high, least, most)

  pub none_over : (start : ℤ) → p.start ≡ Counter start → (rows : SumRows) → AreLimits p start true rows.up.items → AreLimits p start false rows.down.items → NoneIsOver p rows
  none_over start starts rows ups downs l early rest c set whole eq set_is is = go is.up is.there is.is_load
    where
      limit_is : (up : Bool) → slice_get (row_of rows up) is.get ≡ Some (Some is.limit) → IsLimit p start up is.get is.limit
      limit_is true e = ups.limits is.get is.limit e
      limit_is false e = downs.limits is.get is.limit e

      go : (up : Bool) → slice_get (row_of rows up) is.get ≡ Some (Some is.limit) → IsLoad p set up is.get c is.load → ⊥
      go up there load =
          let few = within_limit start starts l early rest c set whole eq set_is up is.get is.limit (limit_is up there) is.outside is.other is.load load in
          let more = is.more in
          absurd (omega (arith, few, more))
