-- What is counted of each item is true of the calls: the first that puts it there, how many put it there, and how many returned with it.
use Rattle.std.proofs.Common.{◌≡◌, ◌≢◌, ℕ, zero, suc, ◌<◌, Bool, true, false, Option, Some, None, List, [], ◌∷◌, ◌⊎◌, inl, inr, refl, sym, ◌∙◌, ap, subst, arith, length, not}
use Rattle.std.specs.Prelude.{ℤ, slice_get}
use Rattle.std.specs.Ordering.{int_eq}
use Rattle.std.specs.Cmp.{signed_Decides}
use Rattle.std.proofs.lemmas.Bool.Decides.{nat_tests}
use Rattle.std.proofs.lemmas.Option.{slice_get_within}
use Rattle.lin_object.specs.declared.op.Op.{Op}
use Rattle.lin_object.specs.declared.op.Op.TheVariants.{Enqueue, Dequeue, Push, Pop}
use Rattle.lin_object.specs.declared.reply.Reply.{Reply}
use Rattle.lin_object.specs.declared.reply.Reply.TheVariants.{Int}
use Rattle.lin_object.specs.declared.state.ObjState.{ObjState}
use Rattle.lin_object.specs.declared.state.ObjState.TheVariants.{Queue, Stack}
use Rattle.lin_history.specs.declared.problems.problem.ProblemCall.{ProblemCall}
use Rattle.lin_history.specs.Problems.Problem.{Problem}
use Rattle.lin_history.specs.Problems.Precedence.{Before}
use Rattle.lin_ahead.specs.declared.items.item_calls.Callers.{Callers}
use Rattle.lin_ahead.specs.declared.items.item_calls.Callers.TheVariants.{Nobody, One, Several}
use Rattle.lin_ahead.specs.Items.ItemCalls.{one_more, is_of}
use Rattle.lin_ahead.specs.Items.Impossible.{CameTooEarly, IsTakenTwice, TookAgain, TookItem, added_from, added_next, adders_of, are_several, callers_from, callers_next, earlier, first_added, is_early, item_added, item_dequeued, item_out, item_popped, takers_of}
use Rattle.lin_laws.specs.Items.{AddsItem}

-- ---- the item of a call

no_item : (v : ℤ) → ◌≡◌ {A = Option ℤ} None (Some v) → ⊥
no_item v e = absurd (cc)

one_item : (o : Option ℤ) (v w : ℤ) → o ≡ Some v → o ≡ Some w → v ≡ w
one_item o v w e f = cc

at_one : (o : Option (ProblemCall Op Reply)) (x y : ProblemCall Op Reply) → o ≡ Some x → o ≡ Some y → x ≡ y
at_one o x y e f = cc

added_is : (op : Op) (v : ℤ) → item_added op ≡ Some v → (op ≡ Enqueue v) ⊎ (op ≡ Push v)
added_is (Enqueue w) v e = inl (ap Enqueue (one_item (Some w) w v refl e))
added_is (Push w) v e = inr (ap Push (one_item (Some w) w v refl e))
added_is op v e = absurd (no_item v e)

dequeued_is : (op : Op) (back : Option (ℕ × Reply)) (v : ℤ) → item_dequeued op back ≡ Some v → (op ≡ Dequeue) × ((n : ℕ) × (back ≡ Some (n, Int v)))
dequeued_is Dequeue (Some (n, Int w)) v e = (refl, (n, ap (λ (u : ℤ). Some (n, Int u)) (one_item (Some w) w v refl e)))
dequeued_is op back v e = absurd (no_item v e)

popped_is : (op : Op) (back : Option (ℕ × Reply)) (v : ℤ) → item_popped op back ≡ Some v → (op ≡ Pop) × ((n : ℕ) × (back ≡ Some (n, Int v)))
popped_is Pop (Some (n, Int w)) v e = (refl, (n, ap (λ (u : ℤ). Some (n, Int u)) (one_item (Some w) w v refl e)))
popped_is op back v e = absurd (no_item v e)

module _ (p : Problem ObjState Op Reply) where
  adds_so : (a : ℕ) (v : ℤ) (x : ProblemCall Op Reply) → slice_get p.calls a ≡ Some x → AddsItem p a v → item_added x.op ≡ Some v
  adds_so a v x there (inl (y, here, op)) = subst (λ (z : ProblemCall Op Reply). item_added z.op ≡ Some v) (at_one (slice_get p.calls a) y x here there) (rw op refl)
  adds_so a v x there (inr (y, here, op)) = subst (λ (z : ProblemCall Op Reply). item_added z.op ≡ Some v) (at_one (slice_get p.calls a) y x here there) (rw op refl)

  so_adds : (a : ℕ) (v : ℤ) (x : ProblemCall Op Reply) → slice_get p.calls a ≡ Some x → item_added x.op ≡ Some v → AddsItem p a v
  so_adds a v x there e = elim (added_is x.op v e) [ inl k ↦ inl (x, there, k) | inr k ↦ inr (x, there, k) ]

  added_there : (a : ℕ) (v : ℤ) → AddsItem p a v → (x : ProblemCall Op Reply) × (slice_get p.calls a ≡ Some x) × (item_added x.op ≡ Some v)
  added_there a v (inl (y, here, op)) = (y, here, rw op refl)
  added_there a v (inr (y, here, op)) = (y, here, rw op refl)

  took_so : (c : ℕ) (v : ℤ) (x : ProblemCall Op Reply) → slice_get p.calls c ≡ Some x → TookItem p c v → item_out p.start x.op x.returned ≡ Some v
  took_so c v x there (inl (start, (y, here, op, (n, back)))) = subst (λ (z : ProblemCall Op Reply). item_out p.start z.op z.returned ≡ Some v) (at_one (slice_get p.calls c) y x here there) (rw (start, op, back) refl)
  took_so c v x there (inr (start, (y, here, op, (n, back)))) = subst (λ (z : ProblemCall Op Reply). item_out p.start z.op z.returned ≡ Some v) (at_one (slice_get p.calls c) y x here there) (rw (start, op, back) refl)

  took_there : (c : ℕ) (v : ℤ) → TookItem p c v → (x : ProblemCall Op Reply) × (slice_get p.calls c ≡ Some x) × ((n : ℕ) × (x.returned ≡ Some (n, Int v)))
  took_there c v (inl (start, (y, here, op, (n, back)))) = (y, here, (n, back))
  took_there c v (inr (start, (y, here, op, (n, back)))) = (y, here, (n, back))

  so_took_from : (c : ℕ) (v : ℤ) (x : ProblemCall Op Reply) → slice_get p.calls c ≡ Some x → (s : ObjState) → p.start ≡ s → item_out s x.op x.returned ≡ Some v → TookItem p c v
  so_took_from c v x there (Queue []) start e = let k = dequeued_is x.op x.returned v e in inl (start, (x, there, k.0, k.1))
  so_took_from c v x there (Stack []) start e = let k = popped_is x.op x.returned v e in inr (start, (x, there, k.0, k.1))
  so_took_from c v x there s start e = absurd (no_item v e)

  so_took : (c : ℕ) (v : ℤ) (x : ProblemCall Op Reply) → slice_get p.calls c ≡ Some x → item_out p.start x.op x.returned ≡ Some v → TookItem p c v
  so_took c v x there e = so_took_from c v x there p.start refl e

-- ---- the first call that puts an item there

-- The event is before this one, where there is one.
abbrev IsBefore : ℕ → Option ℕ → Type 0
IsBefore r None = Unit {0}
IsBefore r (Some n) = r < n

before_earlier : (r called : ℕ) (first : Option ℕ) → r < earlier first called → IsBefore r first × (r < called)
before_earlier r called None h = (tt, h)
before_earlier r called (Some m) h = (omega (arith, h), omega (arith, h))

earlier_before : (r called : ℕ) (first : Option ℕ) → IsBefore r first → r < called → r < earlier first called
earlier_before r called None h k = k
earlier_before r called (Some m) h k = omega (arith, h, k)

-- it is of the item, or not
hit : (o : Option ℤ) (v : ℤ) → ((o ≡ Some v) × (is_of o v ≡ true)) ⊎ ((o ≡ Some v → ⊥) × (is_of o v ≡ false))
hit None v = inr (no_item v, refl)
hit (Some w) v = go (int_eq w v) refl
  where
    go : (b : Bool) → int_eq w v ≡ b → ((◌≡◌ {A = Option ℤ} (Some w) (Some v)) × (int_eq w v ≡ true)) ⊎ ((◌≡◌ {A = Option ℤ} (Some w) (Some v) → ⊥) × (int_eq w v ≡ false))
    go true e = inl (ap Some ((signed_Decides w v).0 e), e)
    go false e = inr ((λ k. absurd (let same : w ≡ v = cc in let f = (signed_Decides w v).1 same in cc)), e)

-- with one call more
before_next : (r : ℕ) (first : Option ℕ) (c : ProblemCall Op Reply) (v : ℤ) → IsBefore r (added_next first c v) → IsBefore r first × (item_added c.op ≡ Some v → r < c.called)
before_next r first c v h = elim (hit (item_added c.op) v) [
  | inl k ↦ (let now : IsBefore r (Some (earlier first c.called)) = rw k.1 at h in let two = before_earlier r c.called first now in (two.0, λ e. two.1))
  | inr k ↦ (let now : IsBefore r first = rw k.1 at h in (now, λ e. absurd (k.0 e)))
]

next_before : (r : ℕ) (first : Option ℕ) (c : ProblemCall Op Reply) (v : ℤ) → IsBefore r first → (item_added c.op ≡ Some v → r < c.called) → IsBefore r (added_next first c v)
next_before r first c v h called = elim (hit (item_added c.op) v) [
  | inl k ↦ rw k.1 (earlier_before r c.called first h (called k.0))
  | inr k ↦ rw k.1 h
]

-- all of these calls that put the item there were called after this event
abbrev AllAfter : ℕ → List (ProblemCall Op Reply) → ℤ → Type 0
AllAfter r calls v = (a : ℕ) (x : ProblemCall Op Reply) → slice_get calls a ≡ Some x → item_added x.op ≡ Some v → r < x.called

before_all : (r : ℕ) (first : Option ℕ) (calls : List (ProblemCall Op Reply)) (v : ℤ) → IsBefore r (added_from first calls v) → IsBefore r first × AllAfter r calls v
before_all r first [] v h = (h, λ a x there adds. absurd (cc))
before_all r first (c ∷ cs) v h =
    let more = before_all r (added_next first c v) cs v h in
    let one = before_next r first c v more.0 in
    (one.0, behind one.1 more.1)
  where
    behind : (item_added c.op ≡ Some v → r < c.called) → AllAfter r cs v → AllAfter r (c ∷ cs) v
    behind one more zero x there adds =
        let same : c ≡ x = cc in
        subst (λ (y : ProblemCall Op Reply). r < y.called) same (one (subst (λ (y : ProblemCall Op Reply). item_added y.op ≡ Some v) (sym same) adds))
    behind one more (suc a) x there adds = more a x there adds

all_before : (r : ℕ) (first : Option ℕ) (calls : List (ProblemCall Op Reply)) (v : ℤ) → IsBefore r first → AllAfter r calls v → IsBefore r (added_from first calls v)
all_before r first [] v h after = h
all_before r first (c ∷ cs) v h after = all_before r (added_next first c v) cs v (next_before r first c v h (λ adds. after 0 c refl adds)) (λ a x there adds. after (suc a) x there adds)

early_before : (first : Option ℕ) (n : ℕ) (q : Reply) → is_early first (Some (n, q)) ≡ true → IsBefore n first
early_before None n q e = tt
early_before (Some m) n q e = grind (arith, nat_tests)

before_early : (first : Option ℕ) (n : ℕ) (q : Reply) → IsBefore n first → is_early first (Some (n, q)) ≡ true
before_early None n q h = refl
before_early (Some m) n q h = grind (arith, nat_tests)

module _ (p : Problem ObjState Op Reply) where
  -- a call that seems to be early is
  pub early_is : (z : ℕ) (x : ProblemCall Op Reply) (v : ℤ) → slice_get p.calls z ≡ Some x → item_out p.start x.op x.returned ≡ Some v → is_early (first_added p.calls v) x.returned ≡ true → CameTooEarly p z
  early_is z x v there out early =
      let took = so_took p z v x there out in
      let back = took_there p z v took in
      (v, took, λ a adds. later a adds back)
    where
      later : (a : ℕ) → AddsItem p a v → (y : ProblemCall Op Reply) × (slice_get p.calls z ≡ Some y) × ((n : ℕ) × (y.returned ≡ Some (n, Int v))) → Before p z a
      later a adds (y, here, (n, back)) =
          let same : y ≡ x = at_one (slice_get p.calls z) y x here there in
          let returned : x.returned ≡ Some (n, Int v) = subst (λ (w : ProblemCall Op Reply). w.returned ≡ Some (n, Int v)) same back in
          let e : is_early (first_added p.calls v) (Some (n, Int v)) ≡ true = subst (λ (b : Option (ℕ × Reply)). is_early (first_added p.calls v) b ≡ true) returned early in
          let before = early_before (first_added p.calls v) n (Int v) e in
          let at = added_there p a v adds in
          let less = (before_all n None p.calls v before).1 a at.0 at.1 at.2 in
          rw (here, back, at.1) less

  -- and one that is seems so
  pub is_early_so : (z : ℕ) (x : ProblemCall Op Reply) → slice_get p.calls z ≡ Some x → CameTooEarly p z → (v : ℤ) × (item_out p.start x.op x.returned ≡ Some v) × (is_early (first_added p.calls v) x.returned ≡ true)
  is_early_so z x there (v, took, after) = (v, took_so p z v x there took, seems (took_there p z v took))
    where
      seems : (y : ProblemCall Op Reply) × (slice_get p.calls z ≡ Some y) × ((n : ℕ) × (y.returned ≡ Some (n, Int v))) → is_early (first_added p.calls v) x.returned ≡ true
      seems (y, here, (n, back)) =
          let same : y ≡ x = at_one (slice_get p.calls z) y x here there in
          let returned : x.returned ≡ Some (n, Int v) = subst (λ (w : ProblemCall Op Reply). w.returned ≡ Some (n, Int v)) same back in
          let all : AllAfter n p.calls v = λ a c at adds. called a c at (after a (so_adds p a v c at adds)) in
          rw returned (before_early (first_added p.calls v) n (Int v) (all_before n None p.calls v tt all))
        where
          called : (a : ℕ) (c : ProblemCall Op Reply) → slice_get p.calls a ≡ Some c → Before p z a → n < c.called
          called a c at h = rw (here, back, at) at h

  -- so what is found of a call is exact
  pub early_exact : (z : ℕ) (x : ProblemCall Op Reply) (v : ℤ) → slice_get p.calls z ≡ Some x → item_out p.start x.op x.returned ≡ Some v → (b : Bool) → b ≡ is_early (first_added p.calls v) x.returned → (b ≡ true → CameTooEarly p z) × (CameTooEarly p z → b ≡ true)
  early_exact z x v there out b found = (λ e. early_is z x v there out (sym found ∙ e), back)
    where
      back : CameTooEarly p z → b ≡ true
      back early =
          let k = is_early_so z x there early in
          let same : k.0 ≡ v = one_item (item_out p.start x.op x.returned) k.0 v k.1 out in
          found ∙ subst (λ (w : ℤ). is_early (first_added p.calls w) x.returned ≡ true) same k.2

  pub took_within : (c : ℕ) (v : ℤ) → TookItem p c v → c < length p.calls
  took_within c v took = let at = took_there p c v took in slice_get_within p.calls c at.0 at.1

  pub again_exact : (takers adders : ℤ → Callers) (c : ℕ) (x : ProblemCall Op Reply) (v : ℤ) → slice_get p.calls c ≡ Some x → item_out p.start x.op x.returned ≡ Some v → are_several (takers v) ≡ true → (b : Bool) → b ≡ are_several (adders v) → (not b ≡ true → TookAgain p takers adders c) × (TookAgain p takers adders c → not b ≡ true)
  again_exact takers adders c x v there out several false e = (λ k. (v, so_took p c v x there out, several, sym e), λ k. refl)
  again_exact takers adders c x v there out several true e = (λ k. absurd (cc), λ k. absurd (other k))
    where
      other : TookAgain p takers adders c → ⊥
      other (w, took, many, single) =
          let same : w ≡ v = one_item (item_out p.start x.op x.returned) w v (took_so p c w x there took) out in
          let f : are_several (adders v) ≡ false = subst (λ (u : ℤ). are_several (adders u) ≡ false) same single in
          absurd (let g : true ≡ false = e ∙ f in cc)

-- ---- how many calls have an item

-- The call has the item.
abbrev Has : (ProblemCall Op Reply → Option ℤ) → List (ProblemCall Op Reply) → ℤ → ℕ → Type 0
Has item calls v a = (x : ProblemCall Op Reply) × (slice_get calls a ≡ Some x) × (item x ≡ Some v)

module _ (item : ProblemCall Op Reply → Option ℤ) where
  hit_next : (callers : Callers) (c : ProblemCall Op Reply) (v : ℤ) → is_of (item c) v ≡ true → callers_next callers (item c) v ≡ one_more callers
  hit_next callers c v e = rw e refl

  miss_next : (callers : Callers) (c : ProblemCall Op Reply) (v : ℤ) → is_of (item c) v ≡ false → callers_next callers (item c) v ≡ callers
  miss_next callers c v e = rw e refl

  not_first : (c : ProblemCall Op Reply) (cs : List (ProblemCall Op Reply)) (v : ℤ) → (item c ≡ Some v → ⊥) → Has item (c ∷ cs) v 0 → ⊥
  not_first c cs v other (x, there, e) =
      let same : c ≡ x = cc in
      other (subst (λ (y : ProblemCall Op Reply). item y ≡ Some v) (sym same) e)

  from_several : (calls : List (ProblemCall Op Reply)) (v : ℤ) → callers_from item Several calls v ≡ Several
  from_several [] v = refl
  from_several (c ∷ cs) v = elim (hit (item c) v) [
    | inl k ↦ subst (λ (n : Callers). callers_from item n cs v ≡ Several) (sym (hit_next Several c v k.1)) (from_several cs v)
    | inr k ↦ subst (λ (n : Callers). callers_from item n cs v ≡ Several) (sym (miss_next Several c v k.1)) (from_several cs v)
  ]

  -- behind one call
  abbrev BehindOne : Callers → List (ProblemCall Op Reply) → ℤ → Type 0
  BehindOne count calls v = ((count ≡ Several) × ((a : ℕ) × Has item calls v a)) ⊎ ((count ≡ One) × ((a : ℕ) → Has item calls v a → ⊥))

  from_one : (calls : List (ProblemCall Op Reply)) (v : ℤ) → BehindOne (callers_from item One calls v) calls v
  from_one [] v = inr (refl, λ a k. absurd (let e = k.1 in cc))
  from_one (c ∷ cs) v = elim (hit (item c) v) [
    | inl k ↦ inl (subst (λ (n : Callers). callers_from item n cs v ≡ Several) (sym (hit_next One c v k.1)) (from_several cs v), (0, (c, refl, k.0)))
    | inr k ↦ subst (λ (n : Callers). BehindOne (callers_from item n cs v) (c ∷ cs) v) (sym (miss_next One c v k.1)) (missed k.0 (from_one cs v))
  ]
    where
      missed : (item c ≡ Some v → ⊥) → BehindOne (callers_from item One cs v) cs v → BehindOne (callers_from item One cs v) (c ∷ cs) v
      missed other (inl (e, (a, has))) = inl (e, (suc a, has))
      missed other (inr (e, none)) = inr (e, at)
        where
          at : (a : ℕ) → Has item (c ∷ cs) v a → ⊥
          at zero has = not_first c cs v other has
          at (suc a) has = none a has

  -- Two of the calls have it, where there are several, and otherwise no two.
  abbrev pub Counts : Callers → List (ProblemCall Op Reply) → ℤ → Type 0
  Counts count calls v = ((are_several count ≡ true) × ((a : ℕ) × (b : ℕ) × (a ≢ b) × Has item calls v a × Has item calls v b)) ⊎ ((are_several count ≡ false) × ((a b : ℕ) → Has item calls v a → Has item calls v b → a ≡ b))

  pub from_nobody : (calls : List (ProblemCall Op Reply)) (v : ℤ) → Counts (callers_from item Nobody calls v) calls v
  from_nobody [] v = inr (refl, λ a b h k. absurd (let e = k.1 in cc))
  from_nobody (c ∷ cs) v = elim (hit (item c) v) [
    | inl k ↦ subst (λ (n : Callers). Counts (callers_from item n cs v) (c ∷ cs) v) (sym (hit_next Nobody c v k.1)) (met k.0 (from_one cs v))
    | inr k ↦ subst (λ (n : Callers). Counts (callers_from item n cs v) (c ∷ cs) v) (sym (miss_next Nobody c v k.1)) (missed k.0 (from_nobody cs v))
  ]
    where
      met : item c ≡ Some v → BehindOne (callers_from item One cs v) cs v → Counts (callers_from item One cs v) (c ∷ cs) v
      met e (inl (count, (a, has))) = inl (ap are_several count, (0, suc a, (λ same. absurd (omega (arith, same))), (c, refl, e), has))
      met e (inr (count, none)) = inr (ap are_several count, alone)
        where
          alone : (a b : ℕ) → Has item (c ∷ cs) v a → Has item (c ∷ cs) v b → a ≡ b
          alone zero zero h k = refl
          alone zero (suc b) h k = absurd (none b k)
          alone (suc a) b h k = absurd (none a h)

      missed : (item c ≡ Some v → ⊥) → Counts (callers_from item Nobody cs v) cs v → Counts (callers_from item Nobody cs v) (c ∷ cs) v
      missed other (inl (count, (a, b, apart, h, k))) = inl (count, (suc a, suc b, (λ same. apart (omega (arith, same))), h, k))
      missed other (inr (count, one)) = inr (count, alone)
        where
          alone : (a b : ℕ) → Has item (c ∷ cs) v a → Has item (c ∷ cs) v b → a ≡ b
          alone zero b h k = absurd (not_first c cs v other h)
          alone (suc a) zero h k = absurd (not_first c cs v other k)
          alone (suc a) (suc b) h k = ap suc (one a b h k)

abbrev item_of_adder : ProblemCall Op Reply → Option ℤ
item_of_adder c = item_added c.op

module _ (p : Problem ObjState Op Reply) where
  abbrev item_of_taker : ProblemCall Op Reply → Option ℤ
  item_of_taker c = item_out p.start c.op c.returned

  -- an item of which there are several takers, but not several adders, was taken twice
  pub again_twice : (takers adders : ℤ → Callers) → ((v : ℤ) → takers v ≡ takers_of p.start p.calls v) → ((v : ℤ) → adders v ≡ adders_of p.calls v) → (c : ℕ) → TookAgain p takers adders c → IsTakenTwice p
  again_twice takers adders taken added c (v, took, several, single) =
      two (from_nobody item_of_taker p.calls v)
    where
      once : Counts item_of_adder (adders_of p.calls v) p.calls v → (a b : ℕ) → AddsItem p a v → AddsItem p b v → a ≡ b
      once (inl (many, rest)) a b h k = absurd (let e : are_several (adders_of p.calls v) ≡ false = subst (λ (n : Callers). are_several n ≡ false) (added v) single in cc)
      once (inr (few, one)) a b h k = one a b (added_there p a v h) (added_there p b v k)

      two : Counts item_of_taker (takers_of p.start p.calls v) p.calls v → IsTakenTwice p
      two (inl (many, (a, b, apart, h, k))) = (v, a, b, apart, so_took p a v h.0 h.1 h.2, so_took p b v k.0 k.1 k.2, once (from_nobody item_of_adder p.calls v))
      two (inr (few, one)) = absurd (let e : are_several (takers_of p.start p.calls v) ≡ true = subst (λ (n : Callers). are_several n ≡ true) (taken v) several in cc)

  -- and so it is of each that was
  pub twice_again : (takers adders : ℤ → Callers) → ((v : ℤ) → takers v ≡ takers_of p.start p.calls v) → ((v : ℤ) → are_several (adders_of p.calls v) ≡ false → are_several (adders v) ≡ false) → IsTakenTwice p → (c : ℕ) × TookAgain p takers adders c
  twice_again takers adders taken added (v, y, z, apart, first, second, once) =
      (y, (v, first, subst (λ (n : Callers). are_several n ≡ true) (sym (taken v)) (two (from_nobody item_of_taker p.calls v)), added v (single (from_nobody item_of_adder p.calls v))))
    where
      has : (c : ℕ) → TookItem p c v → Has item_of_taker p.calls v c
      has c took = let at = took_there p c v took in (at.0, at.1, took_so p c v at.0 at.1 took)

      two : Counts item_of_taker (takers_of p.start p.calls v) p.calls v → are_several (takers_of p.start p.calls v) ≡ true
      two (inl (many, rest)) = many
      two (inr (few, one)) = absurd (apart (one y z (has y first) (has z second)))

      single : Counts item_of_adder (adders_of p.calls v) p.calls v → are_several (adders_of p.calls v) ≡ false
      single (inl (many, (a, b, other, h, k))) = absurd (other (once a b (so_adds p a v h.0 h.1 h.2) (so_adds p b v k.0 k.1 k.2)))
      single (inr (few, one)) = few
