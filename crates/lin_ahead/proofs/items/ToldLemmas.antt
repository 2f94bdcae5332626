-- What the calls tell of an item is true of them.
use Rattle.std.proofs.Common.{◌≡◌, ℕ, zero, suc, ◌≤◌, Bool, true, false, min, Option, Some, None, List, [], ◌∷◌, ◌⊎◌, inl, inr, refl, sym, ◌∙◌, ap, subst, arith}
use Rattle.std.specs.Prelude.{ℤ, slice_get, if◌then◌else◌}
use Rattle.std.specs.Ordering.{int_eq}
use Rattle.std.specs.Cmp.{signed_Decides}
use Rattle.lin_object.specs.declared.op.Op.{Op}
use Rattle.lin_object.specs.declared.op.Op.TheVariants.{Enqueue, Dequeue}
use Rattle.lin_object.specs.declared.reply.Reply.{Reply}
use Rattle.lin_object.specs.declared.reply.Reply.TheVariants.{Okay, Int, Flag, Empty}
use Rattle.lin_history.specs.declared.problems.problem.ProblemCall.{ProblemCall}
use Rattle.lin_ahead.specs.declared.items.item_calls.ItemCalls.{ItemCalls}
use Rattle.lin_ahead.specs.declared.items.item_calls.Callers.{Callers}
use Rattle.lin_ahead.specs.declared.items.item_calls.Callers.TheVariants.{Nobody, One, Several}
use Rattle.lin_ahead.specs.declared.items.item_calls.TheConstants.{BEYOND}
use Rattle.lin_ahead.specs.Items.ItemCalls.{one_more, goes_in_once, item_of, is_of, with_call, told_next, told_from, pending_at, pending_from}

-- ---- one call

pub same_event : (a b : ℕ) (r s : Reply) → ◌≡◌ {A = Option (ℕ × Reply)} (Some (a, r)) (Some (b, s)) → a ≡ b
same_event a b r s e = let f : ◌≡◌ {A = ℕ × Reply} (a, r) (b, s) = cc in ap (λ (y : ℕ × Reply). y.0) f

pub same_reply : (a b : ℕ) (r s : Reply) → ◌≡◌ {A = Option (ℕ × Reply)} (Some (a, r)) (Some (b, s)) → r ≡ s
same_reply a b r s e = let f : ◌≡◌ {A = ℕ × Reply} (a, r) (b, s) = cc in ap (λ (y : ℕ × Reply). y.1) f

-- The call returned at this number with this item.
abbrev pub TookAt : Op → Option (ℕ × Reply) → ℤ → ℕ → Type 0
TookAt op returned v n = (op ≡ Dequeue) × (returned ≡ Some (n, Int v))

-- what a call tells of an item, by what it does: it puts the item in
record PutsIt (before after : ItemCalls) (op : Op) (v : ℤ) : Type 0 where
  puts : op ≡ Enqueue v
  putters : after.putters ≡ one_more before.putters
  taken : after.taken ≡ before.taken
  returned : after.returned ≡ before.returned
  called : after.called ≡ before.called

-- or takes it
record TakesIt (before after : ItemCalls) (number : ℕ) (op : Op) (back : Option (ℕ × Reply)) (v : ℤ) : Type 0 where
  event : ℕ
  took : TookAt op back v event
  putters : after.putters ≡ before.putters
  taken : after.taken ≡ true
  returned : after.returned ≡ min before.returned event
  called : after.called ≡ min before.called number

-- or neither
record Neither (before after : ItemCalls) (op : Op) (back : Option (ℕ × Reply)) (v : ℤ) : Type 0 where
  puts : op ≡ Enqueue v → ⊥
  took : (n : ℕ) → TookAt op back v n → ⊥
  same : after ≡ before

abbrev Tells : ItemCalls → ItemCalls → ℕ → Op → Option (ℕ × Reply) → ℤ → Type 0
Tells before after number op back v = PutsIt before after op v ⊎ (TakesIt before after number op back v ⊎ Neither before after op back v)

abbrev with_next : ItemCalls → ℕ → Op → Option (ℕ × Reply) → ℤ → ItemCalls
with_next t number op back v = if is_of (item_of op back) v then with_call t number op back else t

neither : (t : ItemCalls) (number : ℕ) (op : Op) (back : Option (ℕ × Reply)) (v : ℤ) → item_of op back ≡ None → (op ≡ Enqueue v → ⊥) → ((n : ℕ) → TookAt op back v n → ⊥) → Tells t (with_next t number op back v) number op back v
neither t number op back v e puts took = inr (inr (record { puts = puts; took = took; same = rw e refl }))

other : (t : ItemCalls) (number : ℕ) (op : Op) (back : Option (ℕ × Reply)) (v : ℤ) → item_of op back ≡ None → (op ≡ Enqueue v → ⊥) → (op ≡ Dequeue → ⊥) → Tells t (with_next t number op back v) number op back v
other t number op back v e puts takes = neither t number op back v e puts (λ n k. takes k.0)

tells : (t : ItemCalls) (number : ℕ) (op : Op) (back : Option (ℕ × Reply)) (v : ℤ) → Tells t (with_next t number op back v) number op back v
tells t number (Enqueue w) back v = go (int_eq w v) refl
  where
    go : (b : Bool) → int_eq w v ≡ b → Tells t (with_next t number (Enqueue w) back v) number (Enqueue w) back v
    go true e = inl (record { puts = ap Enqueue ((signed_Decides w v).0 e); putters = rw e refl; taken = rw e refl; returned = rw e refl; called = rw e refl })
    go false e = inr (inr (record {
      puts = λ k. absurd (let same : w ≡ v = cc in let f = (signed_Decides w v).1 same in cc);
      took = λ n k. absurd (let f = k.0 in cc);
      same = rw e refl;
    }))
tells t number Dequeue None v = neither t number Dequeue None v refl (λ e. absurd (cc)) (λ n k. absurd (let f = k.1 in cc))
tells t number Dequeue (Some (n, Okay)) v = neither t number Dequeue (Some (n, Okay)) v refl (λ e. absurd (cc)) (λ m k. absurd (let f = same_reply n m Okay (Int v) k.1 in cc))
tells t number Dequeue (Some (n, Flag b)) v = neither t number Dequeue (Some (n, Flag b)) v refl (λ e. absurd (cc)) (λ m k. absurd (let f = same_reply n m (Flag b) (Int v) k.1 in cc))
tells t number Dequeue (Some (n, Empty)) v = neither t number Dequeue (Some (n, Empty)) v refl (λ e. absurd (cc)) (λ m k. absurd (let f = same_reply n m Empty (Int v) k.1 in cc))
tells t number Dequeue (Some (n, Int w)) v = go (int_eq w v) refl
  where
    go : (b : Bool) → int_eq w v ≡ b → Tells t (with_next t number Dequeue (Some (n, Int w)) v) number Dequeue (Some (n, Int w)) v
    go true e = inr (inl (record {
      event = n;
      took = (refl, ap (λ (u : ℤ). Some (n, Int u)) ((signed_Decides w v).0 e));
      putters = rw e refl;
      taken = rw e refl;
      returned = rw e refl;
      called = rw e refl;
    }))
    go false e = inr (inr (record {
      puts = λ k. absurd (cc);
      took = λ m k. absurd (let f = same_reply n m (Int w) (Int v) k.1 in let same : w ≡ v = cc in let g = (signed_Decides w v).1 same in cc);
      same = rw e refl;
    }))
tells t number op back v = other t number op back v refl (λ e. absurd (cc)) (λ e. absurd (cc))

next_tells : (t : ItemCalls) (c : ProblemCall Op Reply) (v : ℤ) → Tells t (told_next t c v) c.called c.op c.returned v
next_tells t c v = tells t c.called c.op c.returned v

-- ---- the events of the calls that took an item

either_min : (a b : ℕ) → (min a b ≡ a) ⊎ (min a b ≡ b)
either_min a b = grind arith

-- a call more makes no number greater
next_less : (t : ItemCalls) (c : ProblemCall Op Reply) (v : ℤ) → ((told_next t c v).returned ≤ t.returned) × ((told_next t c v).called ≤ t.called)
next_less t c v = elim (next_tells t c v) [
  | inl k ↦ (let e = k.returned in omega (arith, e), let e = k.called in omega (arith, e))
  | inr (inl k) ↦ (let e = k.returned in omega (arith, e), let e = k.called in omega (arith, e))
  | inr (inr k) ↦ (let e = ap (λ (s : ItemCalls). s.returned) k.same in omega (arith, e), let e = ap (λ (s : ItemCalls). s.called) k.same in omega (arith, e))
]

pub less : (t : ItemCalls) (cs : List (ProblemCall Op Reply)) (v : ℤ) → ((told_from t cs v).returned ≤ t.returned) × ((told_from t cs v).called ≤ t.called)
less t [] v = (omega arith, omega arith)
less t (c ∷ cs) v =
    let one = next_less t c v in
    let more = less (told_next t c v) cs v in
    (let a = one.0 in let b = more.0 in omega (arith, a, b), let a = one.1 in let b = more.1 in omega (arith, a, b))

next_within : (t : ItemCalls) (c : ProblemCall Op Reply) (v : ℤ) (n : ℕ) → TookAt c.op c.returned v n → ((told_next t c v).returned ≤ n) × ((told_next t c v).called ≤ c.called)
next_within t c v n took = elim (next_tells t c v) [
  | inl k ↦ absurd (let e = k.puts in let f = took.0 in cc)
  | inr (inl k) ↦ (returned_within k.event k.returned (same_event k.event n (Int v) (Int v) (sym k.took.1 ∙ took.1)), let e = k.called in omega (arith, e))
  | inr (inr k) ↦ absurd (k.took n took)
]
  where
    returned_within : (event : ℕ) → (told_next t c v).returned ≡ min t.returned event → event ≡ n → (told_next t c v).returned ≤ n
    returned_within event e same = omega (arith, e, same)

-- what is told is no greater than the events of a call that took the item
pub within : (t : ItemCalls) (cs : List (ProblemCall Op Reply)) (v : ℤ) (i : ℕ) (x : ProblemCall Op Reply) (n : ℕ) → slice_get cs i ≡ Some x → TookAt x.op x.returned v n → ((told_from t cs v).returned ≤ n) × ((told_from t cs v).called ≤ x.called)
within t [] v i x n there took = absurd (cc)
within t (c ∷ cs) v zero x n there took =
    let same : c ≡ x = cc in
    let one = next_within t c v n (subst (λ (y : ProblemCall Op Reply). TookAt y.op y.returned v n) (sym same) took) in
    let more = less (told_next t c v) cs v in
    let numbers : c.called ≡ x.called = ap (λ (y : ProblemCall Op Reply). y.called) same in
    (let a = one.0 in let b = more.0 in omega (arith, a, b), let a = one.1 in let b = more.1 in omega (arith, a, b, numbers))
within t (c ∷ cs) v (suc i) x n there took = within (told_next t c v) cs v i x n there took

-- A call of the list that took the item, and returned at this number.
abbrev pub Taker : List (ProblemCall Op Reply) → ℤ → ℕ → (ProblemCall Op Reply → Type 0) → Type 0
Taker cs v n P = (i : ℕ) × (x : ProblemCall Op Reply) × (slice_get cs i ≡ Some x) × TookAt x.op x.returned v n × P x

later_taker : (c : ProblemCall Op Reply) (cs : List (ProblemCall Op Reply)) (v : ℤ) (n : ℕ) (P : ProblemCall Op Reply → Type 0) → Taker cs v n P → Taker (c ∷ cs) v n P
later_taker c cs v n P k = (suc k.0, k.1, k.2, k.3, k.4)

-- the least return event that is told is that of a call which took the item
pub returned_there : (t : ItemCalls) (cs : List (ProblemCall Op Reply)) (v : ℤ) → ((told_from t cs v).returned ≡ t.returned) ⊎ Taker cs v (told_from t cs v).returned (λ x. Unit {0})
returned_there t [] v = inl refl
returned_there t (c ∷ cs) v = elim (returned_there (told_next t c v) cs v) [
  | inr k ↦ inr (later_taker c cs v (told_from t (c ∷ cs) v).returned (λ x. Unit {0}) k)
  | inl e ↦ elim (next_tells t c v) [
    | inl k ↦ inl (e ∙ k.returned)
    | inr (inr k) ↦ inl (e ∙ ap (λ (s : ItemCalls). s.returned) k.same)
    | inr (inl k) ↦ elim (either_min t.returned k.event) [
      | inl f ↦ inl (e ∙ k.returned ∙ f)
      | inr f ↦ inr (0, c, refl, subst (λ (m : ℕ). TookAt c.op c.returned v m) (sym (e ∙ k.returned ∙ f)) k.took, tt)
    ]
  ]
]

-- and the least call event
pub called_there : (t : ItemCalls) (cs : List (ProblemCall Op Reply)) (v : ℤ) → ((told_from t cs v).called ≡ t.called) ⊎ ((n : ℕ) × Taker cs v n (λ x. (told_from t cs v).called ≡ x.called))
called_there t [] v = inl refl
called_there t (c ∷ cs) v = elim (called_there (told_next t c v) cs v) [
  | inr k ↦ inr (k.0, later_taker c cs v k.0 (λ x. (told_from t (c ∷ cs) v).called ≡ x.called) k.1)
  | inl e ↦ elim (next_tells t c v) [
    | inl k ↦ inl (e ∙ k.called)
    | inr (inr k) ↦ inl (e ∙ ap (λ (s : ItemCalls). s.called) k.same)
    | inr (inl k) ↦ elim (either_min t.called c.called) [
      | inl f ↦ inl (e ∙ k.called ∙ f)
      | inr f ↦ inr (k.event, (0, c, refl, k.took, e ∙ k.called ∙ f))
    ]
  ]
]

-- ---- whether a call took an item

next_taken : (t : ItemCalls) (c : ProblemCall Op Reply) (v : ℤ) → t.taken ≡ true → (told_next t c v).taken ≡ true
next_taken t c v e = elim (next_tells t c v) [
  | inl k ↦ k.taken ∙ e
  | inr (inl k) ↦ k.taken
  | inr (inr k) ↦ ap (λ (s : ItemCalls). s.taken) k.same ∙ e
]

stays_taken : (t : ItemCalls) (cs : List (ProblemCall Op Reply)) (v : ℤ) → t.taken ≡ true → (told_from t cs v).taken ≡ true
stays_taken t [] v e = e
stays_taken t (c ∷ cs) v e = stays_taken (told_next t c v) cs v (next_taken t c v e)

-- an item that a call took is told as taken
pub taken_by : (t : ItemCalls) (cs : List (ProblemCall Op Reply)) (v : ℤ) (i : ℕ) (x : ProblemCall Op Reply) (n : ℕ) → slice_get cs i ≡ Some x → TookAt x.op x.returned v n → (told_from t cs v).taken ≡ true
taken_by t [] v i x n there took = absurd (cc)
taken_by t (c ∷ cs) v zero x n there took =
    let same : c ≡ x = cc in
    let first : TookAt c.op c.returned v n = subst (λ (y : ProblemCall Op Reply). TookAt y.op y.returned v n) (sym same) took in
    stays_taken (told_next t c v) cs v (elim (next_tells t c v) [
      | inl k ↦ absurd (let e = k.puts in let f = first.0 in cc)
      | inr (inl k) ↦ k.taken
      | inr (inr k) ↦ absurd (k.took n first)
    ])
taken_by t (c ∷ cs) v (suc i) x n there took = taken_by (told_next t c v) cs v i x n there took

-- and one that is told as taken was taken by some call
pub taken_there : (t : ItemCalls) (cs : List (ProblemCall Op Reply)) (v : ℤ) → (told_from t cs v).taken ≡ true → (t.taken ≡ true) ⊎ ((n : ℕ) × Taker cs v n (λ x. Unit {0}))
taken_there t [] v e = inl e
taken_there t (c ∷ cs) v e = elim (taken_there (told_next t c v) cs v e) [
  | inr k ↦ inr (k.0, later_taker c cs v k.0 (λ x. Unit {0}) k.1)
  | inl f ↦ elim (next_tells t c v) [
    | inl k ↦ inl (sym k.taken ∙ f)
    | inr (inr k) ↦ inl (sym (ap (λ (s : ItemCalls). s.taken) k.same) ∙ f)
    | inr (inl k) ↦ inr (k.event, (0, c, refl, k.took, tt))
  ]
]

-- ---- how many calls put an item in

-- A call of the list that puts the item in.
abbrev pub PutsAt : List (ProblemCall Op Reply) → ℤ → ℕ → Type 0
PutsAt cs v i = (x : ProblemCall Op Reply) × (slice_get cs i ≡ Some x) × (x.op ≡ Enqueue v)

after_put : (t : ItemCalls) (c : ProblemCall Op Reply) (v : ℤ) → c.op ≡ Enqueue v → (told_next t c v).putters ≡ one_more t.putters
after_put t c v puts = elim (next_tells t c v) [
  | inl k ↦ k.putters
  | inr (inl k) ↦ absurd (let e = k.took.0 in cc)
  | inr (inr k) ↦ absurd (k.puts puts)
]

puts_or_not : (t : ItemCalls) (c : ProblemCall Op Reply) (v : ℤ) → ((c.op ≡ Enqueue v) × ((told_next t c v).putters ≡ one_more t.putters)) ⊎ ((c.op ≡ Enqueue v → ⊥) × ((told_next t c v).putters ≡ t.putters))
puts_or_not t c v = elim (next_tells t c v) [
  | inl k ↦ inl (k.puts, k.putters)
  | inr (inl k) ↦ inr ((λ e. let f = k.took.0 in absurd (cc)), k.putters)
  | inr (inr k) ↦ inr (k.puts, ap (λ (s : ItemCalls). s.putters) k.same)
]

several_stay : (t : ItemCalls) (cs : List (ProblemCall Op Reply)) (v : ℤ) → t.putters ≡ Several → (told_from t cs v).putters ≡ Several
several_stay t [] v e = e
several_stay t (c ∷ cs) v e = several_stay (told_next t c v) cs v (elim (puts_or_not t c v) [ inl k ↦ k.1 ∙ ap one_more e | inr k ↦ k.1 ∙ e ])

not_once : (p : Callers) → p ≡ Several → goes_in_once p ≡ true → ⊥
not_once p several once = absurd (let e = ap goes_in_once several in cc)

-- where one call put the item in before, and it goes in once, none of these does
none_after_one : (t : ItemCalls) (cs : List (ProblemCall Op Reply)) (v : ℤ) → t.putters ≡ One → goes_in_once (told_from t cs v).putters ≡ true → (i : ℕ) → PutsAt cs v i → ⊥
none_after_one t [] v one once i (x, there, puts) = absurd (cc)
none_after_one t (c ∷ cs) v one once zero (x, there, puts) =
    let same : c ≡ x = cc in
    let first : c.op ≡ Enqueue v = ap (λ (y : ProblemCall Op Reply). y.op) same ∙ puts in
    not_once (told_from t (c ∷ cs) v).putters (several_stay (told_next t c v) cs v (after_put t c v first ∙ ap one_more one)) once
none_after_one t (c ∷ cs) v one once (suc i) k = elim (puts_or_not t c v) [
  | inl q ↦ not_once (told_from t (c ∷ cs) v).putters (several_stay (told_next t c v) cs v (q.1 ∙ ap one_more one)) once
  | inr q ↦ none_after_one (told_next t c v) cs v (q.1 ∙ one) once i k
]

-- an item that goes in once is put in by one call alone
pub one_alone : (t : ItemCalls) (cs : List (ProblemCall Op Reply)) (v : ℤ) → t.putters ≡ Nobody → goes_in_once (told_from t cs v).putters ≡ true → (i j : ℕ) → PutsAt cs v i → PutsAt cs v j → i ≡ j
one_alone t [] v none once i j (x, there, puts) l = absurd (cc)
one_alone t (c ∷ cs) v none once zero zero k l = refl
one_alone t (c ∷ cs) v none once zero (suc j) (x, there, puts) l =
    let same : c ≡ x = cc in
    let first : c.op ≡ Enqueue v = ap (λ (y : ProblemCall Op Reply). y.op) same ∙ puts in
    absurd (none_after_one (told_next t c v) cs v (after_put t c v first ∙ ap one_more none) once j l)
one_alone t (c ∷ cs) v none once (suc i) zero k (x, there, puts) =
    let same : c ≡ x = cc in
    let first : c.op ≡ Enqueue v = ap (λ (y : ProblemCall Op Reply). y.op) same ∙ puts in
    absurd (none_after_one (told_next t c v) cs v (after_put t c v first ∙ ap one_more none) once i k)
one_alone t (c ∷ cs) v none once (suc i) (suc j) k l = elim (puts_or_not t c v) [
  | inl q ↦ absurd (none_after_one (told_next t c v) cs v (q.1 ∙ ap one_more none) once i k)
  | inr q ↦ ap suc (one_alone (told_next t c v) cs v (q.1 ∙ none) once i j k l)
]

-- and where no call puts it in behind the one that did, it goes in once
one_stays : (t : ItemCalls) (cs : List (ProblemCall Op Reply)) (v : ℤ) → t.putters ≡ One → ((i : ℕ) → PutsAt cs v i → ⊥) → goes_in_once (told_from t cs v).putters ≡ true
one_stays t [] v one none = ap goes_in_once one
one_stays t (c ∷ cs) v one none = elim (puts_or_not t c v) [
  | inl q ↦ absurd (none 0 (c, refl, q.0))
  | inr q ↦ one_stays (told_next t c v) cs v (q.1 ∙ one) (λ i k. none (suc i) k)
]

-- an item that one call alone puts in goes in once
pub alone_once : (t : ItemCalls) (cs : List (ProblemCall Op Reply)) (v : ℤ) → t.putters ≡ Nobody → (i : ℕ) → PutsAt cs v i → ((j : ℕ) → PutsAt cs v j → j ≡ i) → goes_in_once (told_from t cs v).putters ≡ true
alone_once t [] v none i (x, there, puts) only = absurd (cc)
alone_once t (c ∷ cs) v none zero (x, there, puts) only =
    let same : c ≡ x = cc in
    let first : c.op ≡ Enqueue v = ap (λ (y : ProblemCall Op Reply). y.op) same ∙ puts in
    one_stays (told_next t c v) cs v (after_put t c v first ∙ ap one_more none) (λ j k. absurd (let e = only (suc j) k in omega (arith, e)))
alone_once t (c ∷ cs) v none (suc i) k only = elim (puts_or_not t c v) [
  | inl q ↦ absurd (let e = only 0 (c, refl, q.0) in omega (arith, e))
  | inr q ↦ alone_once (told_next t c v) cs v (q.1 ∙ none) i k (λ j l. let e = only (suc j) l in omega (arith, e))
]

-- ---- pending dequeues

pub pending_less : (n : ℕ) (cs : List (ProblemCall Op Reply)) → pending_from n cs ≤ n
pending_less n [] = omega arith
pending_less n (c ∷ cs) = let k = pending_less (min n (pending_at c.called c.op c.returned)) cs in omega (arith, k)

pub pending_within : (n : ℕ) (cs : List (ProblemCall Op Reply)) (i : ℕ) (x : ProblemCall Op Reply) → slice_get cs i ≡ Some x → x.op ≡ Dequeue → x.returned ≡ None → pending_from n cs ≤ x.called
pending_within n [] i x there op back = absurd (cc)
pending_within n (c ∷ cs) zero x there op back =
    let same : c ≡ x = cc in
    let k = pending_less (min n (pending_at c.called c.op c.returned)) cs in
    let e : pending_at c.called c.op c.returned ≡ x.called = rw (same, op, back) refl in
    omega (arith, k, e)
pending_within n (c ∷ cs) (suc i) x there op back = pending_within (min n (pending_at c.called c.op c.returned)) cs i x there op back

-- what a call's op and return tell of its being a pending dequeue
pending_or : (n called : ℕ) (op : Op) (back : Option (ℕ × Reply)) → n ≤ BEYOND → (min n (pending_at called op back) ≡ n) ⊎ ((op ≡ Dequeue) × (back ≡ None) × (min n (pending_at called op back) ≡ called))
pending_or n called Dequeue None few = elim (either_min n called) [ inl e ↦ inl e | inr e ↦ inr (refl, refl, e) ]
pending_or n called op back few = inl (omega (arith, few))

-- the least call event that is told is that of a pending dequeue
pub pending_there : (n : ℕ) (cs : List (ProblemCall Op Reply)) → n ≤ BEYOND → (pending_from n cs ≡ n) ⊎ ((i : ℕ) × (x : ProblemCall Op Reply) × (slice_get cs i ≡ Some x) × (x.op ≡ Dequeue) × (x.returned ≡ None) × (pending_from n cs ≡ x.called))
pending_there n [] few = inl refl
pending_there n (c ∷ cs) few = elim (pending_there (min n (pending_at c.called c.op c.returned)) cs (omega (arith, few))) [
  | inr k ↦ inr (suc k.0, k.1, k.2, k.3, k.4, k.5)
  | inl e ↦ elim (pending_or n c.called c.op c.returned few) [
    | inl f ↦ inl (e ∙ f)
    | inr f ↦ inr (0, c, refl, f.0, f.1, e ∙ f.2)
  ]
]
