-- A linearization of a queue or a stack, without lost items and the pending calls that take one.
use Rattle.std.proofs.Common.{◌≡◌, ℕ, zero, suc, IsSome, ◌+◌, ◌<◌, ◌≤◌, Bool, true, false, Option, Some, None, List, [], ◌∷◌, ◌⊎◌, inl, inr, refl, sym, ◌∙◌, ap, subst, arith, cond, length}
use Rattle.std.specs.Prelude.{ℤ, IsSomeAnd, nat_eq, not, slice_get}
use Rattle.std.specs.Ordering.{int_eq}
use Rattle.std.specs.Cmp.{signed_Decides}
use Rattle.std.proofs.lemmas.Bool.Decides.{eqb_tells}
use Rattle.lin_object.specs.declared.op.Op.{Op}
use Rattle.lin_object.specs.declared.op.Op.TheVariants.{Dequeue, Pop}
use Rattle.lin_object.specs.declared.reply.Reply.{Reply}
use Rattle.lin_object.specs.declared.state.ObjState.{ObjState}
use Rattle.lin_object.specs.declared.state.ObjState.TheVariants.{Queue, Stack}
use Rattle.lin_object.specs.contracts.reply.ReplyPartialEq.TheImpl.{eq-value as reply_eq}
use Rattle.lin_object.specs.Kinds.{after}
use Rattle.lin_history.specs.declared.problems.problem.ProblemCall.{ProblemCall}
use Rattle.lin_history.specs.OptionLemmas.{and_some, some_is}
use Rattle.lin_history.specs.Problems.Lists.{In, IsDistinct}
use Rattle.lin_history.specs.Problems.ListLemmas.{has_none}
use Rattle.lin_history.specs.Problems.Problem.{Problem}
use Rattle.lin_history.specs.Problems.ProblemParts.{ProblemParts}
use Rattle.lin_history.specs.Problems.LegalLists.{after_call, fits, state_if_fits, next, Legal}
use Rattle.lin_history.specs.Problems.Precedence.{Before, IsCompleted}
use Rattle.lin_history.specs.Problems.Linearizations.{IsLinearization}
use Rattle.lin_history.specs.Problems.AnyProblem.{any_problem}
use Rattle.lin_history.specs.Locality.OrderLemmas.{KeepsTime, keeps_time}
use Rattle.lin_laws.specs.AnswerLemmas.{fits_some}
use Rattle.lin_laws.specs.Counting.{counted}
use Rattle.lin_parts.specs.Parts.{part_of}
use Rattle.lin_parts.specs.PartLemmas.{legal_calls, part_of_list}
use Rattle.lin_lost.specs.Counts.{item_put, item_given, is_of, puts_of, takes_of}
use Rattle.lin_lost.specs.Lost.{HoldsNothing, IsTakenAsOften, IsWithoutLost, LostLaw, is_left_out}
use Rattle.lin_lost.proofs.CountLemmas.{has_item, often_in, some_of_all, all_in_some, one_of_all}
use Rattle.lin_lost.proofs.StepLemmas.{often, none_first, HasItems, counts_of, stays, IsRest, rest_items, rest_start, stay_of, go_of, clash}

-- ---- sums

counted_is : (b : Bool) (n : ℕ) → counted b n ≡ counted b 0 + n
counted_is true n = omega arith
counted_is false n = omega arith

-- what goes on after a step
goes_on : (put gave : Bool) (before now puts takes : ℕ) → now + counted gave 0 ≤ before + counted put 0 → takes ≤ now + puts → counted gave takes ≤ before + counted put puts
goes_on put gave before now puts takes h k = let p = counted_is put puts in let g = counted_is gave takes in omega (arith, p, g, h, k)

owes : (put gave : Bool) (before now puts takes : ℕ) → now + counted gave 0 ≤ before + counted put 0 → before + counted put puts ≤ counted gave takes → now + puts ≤ takes
owes put gave before now puts takes h k = let p = counted_is put puts in let g = counted_is gave takes in omega (arith, p, g, h, k)

too_few : (put gave : Bool) (before now puts takes : ℕ) → gave ≡ false → before ≡ now + 1 → takes ≤ now + puts → before + counted put puts ≤ counted gave takes → ⊥
too_few put gave before now puts takes e is k h = let p = counted_is put puts in let g : counted gave takes ≡ takes = ap (λ (b : Bool). counted b takes) e in omega (arith, p, g, is, k, h)

is_there : (n : ℕ) → 1 ≤ n → nat_eq n 0 ≡ false
is_there n h = elim (eqb_tells n 0) [ inl q ↦ absurd (let e = q.1 in omega (arith, e, h)) | inr q ↦ q.0 ]

-- a pending call gave nothing
none_given : (op : Op) → item_given op None ≡ None
none_given Dequeue = refl
none_given Pop = refl
none_given op = refl

-- a call that gave an item is completed
has_returned : (v : ℤ) (o : Option (ProblemCall Op Reply)) → has_item (λ x. item_given x.op x.returned) v o ≡ true → IsSomeAnd o (λ x. IsSome x.returned)
has_returned v None e = absurd (cc)
has_returned v (Some x) e = go x.returned refl
  where
    go : (o : Option (ℕ × Reply)) → x.returned ≡ o → IsSome x.returned
    go None f = absurd (clash e (ap (λ (o : Option (ℕ × Reply)). is_of (item_given x.op o) v) f ∙ ap (λ (o : Option ℤ). is_of o v) (none_given x.op)))
    go (Some r) f = some_is x.returned r f

module _ {Object : Type 0} (parts : ProblemParts Object ObjState Op Reply) where
  abbrev A : Problem ObjState Op Reply
  A = any_problem parts

  abbrev takes : ℤ → ℕ
  takes = takes_of parts.calls

  abbrev puts_in : ℤ → List ℕ → ℕ
  puts_in v l = often_in (λ x. item_put x.op) v parts.calls l

  abbrev takes_in : ℤ → List ℕ → ℕ
  takes_in v l = often_in (λ x. item_given x.op x.returned) v parts.calls l

  -- one step
  record IsStep (c : ℕ) (s m : ObjState) : Type 0 where
    call : ProblemCall Op Reply
    there : slice_get parts.calls c ≡ Some call
    reply : Reply
    answer : after s call.process call.op ≡ Some (m, reply)
    fit : fits reply_eq.it reply call.returned ≡ true

  step_of : (c : ℕ) (s m : ObjState) → next A s c ≡ Some m → IsStep c s m
  step_of c s m n = go (slice_get parts.calls c) refl n
    where
      go : (o : Option (ProblemCall Op Reply)) → slice_get parts.calls c ≡ o → after_call A s o ≡ Some m → IsStep c s m
      go None e f = absurd (cc)
      go (Some x) e f = let k = fits_some reply_eq.it (after s x.process x.op) x.returned m f in record { call = x; there = e; reply = k.0; answer = k.1; fit = k.2 }

  -- what a step does to how often an item is there
  counts : (v : ℤ) (c : ℕ) (s m : ObjState) → HasItems s → IsStep c s m → HasItems m × (often v m + counted (has_item (λ x. item_given x.op x.returned) v (slice_get parts.calls c)) 0 ≤ often v s + counted (has_item (λ x. item_put x.op) v (slice_get parts.calls c)) 0)
  counts v c s m h step =
      let k = counts_of v step.call.process step.call.op step.call.returned s m step.reply h step.answer step.fit in
      (k.0, subst (λ (o : Option (ProblemCall Op Reply)). often v m + counted (has_item (λ x. item_given x.op x.returned) v o) 0 ≤ often v s + counted (has_item (λ x. item_put x.op) v o) 0) (sym step.there) k.1)

  -- what comes out was there, or is put in
  enough : (v : ℤ) (l : List ℕ) (s t : ObjState) → HasItems s → Legal A s l t → takes_in v l ≤ often v s + puts_in v l
  enough v [] s t h k = omega arith
  enough v (c ∷ l) s t h k =
      let step = step_of c s k.0 k.1 in
      let one = counts v c s k.0 h step in
      goes_on (has_item (λ x. item_put x.op) v (slice_get parts.calls c)) (has_item (λ x. item_given x.op x.returned) v (slice_get parts.calls c)) (often v s) (often v k.0) (puts_in v l) (takes_in v l) one.1 (enough v l k.0 t one.0 k.2)

  -- all items that are not lost are owed to the calls that are left
  abbrev IsOwed : ObjState → List ℕ → Type 0
  IsOwed s l = (v : ℤ) → stays takes v ≡ true → often v s + puts_in v l ≤ takes_in v l

  module _ (kept : List ℕ) (calls : List (ProblemCall Op Reply)) (w : IsWithoutLost A kept calls) where
    -- what is left of a list of calls, from this state on
    record IsThin (l r : List ℕ) (u : ObjState) : Type 0 where
      within : (c : ℕ) → In c r → In c l
      stay : (c : ℕ) → In c r → In c kept
      all : (c : ℕ) → In c l → In c kept → In c r
      distinct : IsDistinct r
      time : KeepsTime A r
      legal : (v : ObjState) × Legal A u r v

    -- what a call gives is not lost
    gives : (c : ℕ) (x : ProblemCall Op Reply) → slice_get parts.calls c ≡ Some x → (v : ℤ) → item_given x.op x.returned ≡ Some v → stays takes v ≡ true
    gives c x e v g = ap not (is_there (takes v) (one_of_all (λ x. item_given x.op x.returned) v parts.calls c x e (ap (λ (o : Option ℤ). is_of o v) g ∙ (signed_Decides v v).1 refl)))

    with_call : (c : ℕ) (l r : List ℕ) (u v : ObjState) → (In c l → ⊥) → KeepsTime A (c ∷ l) → In c kept → next A u c ≡ Some v → IsThin l r v → IsThin (c ∷ l) (c ∷ r) u
    with_call c l r u v fresh time there step rest = record {
      within = λ d h. elim h [ inl e ↦ inl e | inr more ↦ inr (rest.within d more) ];
      stay = λ d h. elim h [ inl e ↦ subst (λ (n : ℕ). In n kept) (sym e) there | inr more ↦ rest.stay d more ];
      all = λ d h k. elim h [ inl e ↦ inl e | inr more ↦ inr (rest.all d more k) ];
      distinct = ((λ h. fresh (rest.within c h)), rest.distinct);
      time = ((λ d h. time.0 d (elim h [ inl e ↦ inl e | inr more ↦ inr (rest.within d more) ])), rest.time);
      legal = (rest.legal.0, (v, step, rest.legal.1));
    }

    without_call : (c : ℕ) (l r : List ℕ) (u : ObjState) → (In c kept → ⊥) → IsThin l r u → IsThin (c ∷ l) r u
    without_call c l r u out rest = record {
      within = λ d h. inr (rest.within d h);
      stay = rest.stay;
      all = λ d h k. elim h [ inl e ↦ absurd (out (subst (λ (n : ℕ). In n kept) e k)) | inr more ↦ rest.all d more k ];
      distinct = rest.distinct;
      time = rest.time;
      legal = rest.legal;
    }

    thin : (l : List ℕ) (s t u : ObjState) → Legal A s l t → IsDistinct l → KeepsTime A l → IsRest takes s u → IsOwed s l → (r : List ℕ) × IsThin l r u
    thin [] s t u k distinct time same owed = ([], record { within = λ c h. h; stay = λ c h. absurd h; all = λ c h k. h; distinct = tt; time = tt; legal = (u, refl) })
    thin (c ∷ l) s t u k distinct time same owed = go (λ (v : ObjState) (h : IsRest takes k.0 v). thin l k.0 t v k.2 distinct.1 time.1 h owed_then) (is_left_out takes step.call.op step.call.returned) refl
      where
        m : ObjState
        m = k.0

        step : IsStep c s m
        step = step_of c s m k.1

        items : HasItems s
        items = rest_items takes s u same

        owed_then : IsOwed m l
        owed_then v h = owes (has_item (λ x. item_put x.op) v (slice_get parts.calls c)) (has_item (λ x. item_given x.op x.returned) v (slice_get parts.calls c)) (often v s) (often v m) (puts_in v l) (takes_in v l) (counts v c s m items step).1 (owed v h)

        go : ((v : ObjState) → IsRest takes m v → (r : List ℕ) × IsThin l r v) → (b : Bool) → is_left_out takes step.call.op step.call.returned ≡ b → (r : List ℕ) × IsThin (c ∷ l) r u
        go more false e =
            let n = stay_of takes step.call.process step.call.returned step.call.op s u m step.reply e (gives c step.call step.there) same step.answer step.fit in
            let rest = more n.0 n.2 in
            let does : next A u c ≡ Some n.0 = ap (after_call A u) step.there ∙ ap (state_if_fits reply_eq.it step.call.returned) n.1 ∙ ap (λ (b : Bool). cond b (Some n.0) None) step.fit in
            (c ∷ rest.0, with_call c l rest.0 u n.0 distinct.0 time ((w.each c step.call step.there).1 e) does rest.1)
        go more true e = elim (go_of takes step.call.process step.call.returned step.call.op s u m step.reply e same step.answer) [
          | inl still ↦ (let rest = more u still in (rest.0, without_call c l rest.0 u (λ h. clash e ((w.each c step.call step.there).0 h)) rest.1))
          | inr lost ↦ absurd (
              let v = lost.0 in
              let gave : has_item (λ x. item_given x.op x.returned) v (slice_get parts.calls c) ≡ false = ap (has_item (λ x. item_given x.op x.returned) v) step.there ∙ ap (λ (o : Option ℤ). is_of o v) lost.3 in
              too_few (has_item (λ x. item_put x.op) v (slice_get parts.calls c)) (has_item (λ x. item_given x.op x.returned) v (slice_get parts.calls c)) (often v s) (often v m) (puts_in v l) (takes_in v l) gave lost.2 (enough v l m t (counts v c s m items step).0 k.2) (owed v lost.1)
              )
        ]

    owed_first : (l : List ℕ) → IsLinearization A l → IsOwed parts.start l
    owed_first l lin v h =
        let few = some_of_all (λ x. item_put x.op) v parts.calls l lin.continuation.distinct (legal_calls A l parts.start lin.continuation.legal.0 lin.continuation.legal.1) in
        let all = all_in_some (λ x. item_given x.op x.returned) v parts.calls l (λ c e. elim (lin.complete c (has_returned v (slice_get parts.calls c) e)) [ inl f ↦ absurd (let none = has_none (length parts.calls) c in cc) | inr f ↦ f ]) in
        let none = none_first v parts.start w.starts in
        elim (w.as_often v) [
          | inl lost ↦ absurd (clash h (ap (λ (n : ℕ). not (nat_eq n 0)) lost))
          | inr most ↦ omega (arith, few, all, none, most)
        ]

    pub left : (l : List ℕ) → IsLinearization A l → (m : List ℕ) × IsLinearization (part_of A calls) m
    left l lin =
        let r = thin l parts.start lin.continuation.legal.0 parts.start lin.continuation.legal.1 lin.continuation.distinct (keeps_time A l lin.continuation) (rest_start takes parts.start w.starts) (owed_first l lin) in
        let q = part_of_list A kept calls w.part r.0 r.1.distinct r.1.legal r.1.time r.1.stay (λ c h done. r.1.all c (elim (lin.complete c done) [ inl f ↦ absurd (let none = has_none (length parts.calls) c in cc) | inr f ↦ f ]) h) in
        (q.0, q.3)

module _ {Object : Type 0} (parts : ProblemParts Object ObjState Op Reply) where
  pub lost_law : LostLaw (any_problem parts)
  lost_law kept calls w l lin = left parts kept calls w l lin
