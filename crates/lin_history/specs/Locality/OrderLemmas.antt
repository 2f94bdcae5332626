-- Linearizations of one object's problem, and of its part of the history: each gives the other.
use Rattle.std.proofs.Common.{◌≡◌, ℕ, ◌+◌, ◌==◌, Bool, true, List, [], ◌∷◌, ◌++◌, length, Option, Some, None, IsSome, ◌⊎◌, inl, inr, refl, sym, ap, subst, ◌∙◌, append_assoc, arith}
use Rattle.std.specs.Prelude.{IsSomeAnd}
use Rattle.std.specs.List.{slice_get}
use Rattle.lin_history.specs.declared.locality.placed.Placed.{Placed}
use Rattle.lin_history.specs.Recorder.Events.{Call}
use Rattle.lin_history.specs.Problems.Lists.{In, IsDistinct}
use Rattle.lin_history.specs.Problems.ListLemmas.{has_none, in_either, apart}
use Rattle.lin_history.specs.Problems.Problem.{Problem}
use Rattle.lin_history.specs.Problems.LegalLists.{next, Legal}
use Rattle.lin_history.specs.Problems.Precedence.{Before, IsCompleted}
use Rattle.lin_history.specs.Problems.Continuations.{has, no_calls, IsContinuation}
use Rattle.lin_history.specs.Problems.Linearizations.{IsLinearization}
use Rattle.lin_history.specs.Locality.Whole.{Whole, Precedes, HasReturned, Has, AreDistinct, KeepsOrder, Steps, Runs, is_call_on, IsLinearizationOfPart}
use Rattle.lin_history.specs.Locality.JoinedOrder.{index_of, Places}
use Rattle.lin_history.specs.Locality.PlaceLemmas.{IsAt, at_number, number_at, index_at, one_number}
use Rattle.lin_history.specs.Locality.PartProblem.{part_problem}
use Rattle.lin_history.specs.OptionLemmas.{some_more}

module _ {State Op Reply : Type 0} (p : Problem State Op Reply) where
  -- no call of the list precedes one that comes before it, or itself
  abbrev pub KeepsTime : List ℕ → Type 0
  KeepsTime [] = Unit {0}
  KeepsTime (c ∷ cs) = ((d : ℕ) → In d (c ∷ cs) → Before p d c → ⊥) × KeepsTime cs

  keeps_from : (early l : List ℕ) → IsDistinct (early ++ l) → ((front : List ℕ) (b : ℕ) (late : List ℕ) → early ++ l ≡ front ++ b ∷ late → (a : ℕ) → Before p a b → (has (no_calls p) a ≡ true) ⊎ In a front) → KeepsTime l
  keeps_from early [] d ordered = tt
  keeps_from early (c ∷ cs) d ordered = (here, keeps_from (early ++ c ∷ []) cs (subst IsDistinct (sym shifted) d) (λ front b late e. ordered front b late (sym shifted ∙ e)))
    where
      shifted : (early ++ c ∷ []) ++ cs ≡ early ++ c ∷ cs
      shifted = append_assoc early (c ∷ []) cs

      here : (a : ℕ) → In a (c ∷ cs) → Before p a c → ⊥
      here a there before = elim (ordered early c cs refl a before) [
        | inl h ↦ (let none = has_none (length p.calls) a in cc)
        | inr h ↦ apart a early (c ∷ cs) d h there
      ]

  pub keeps_time : (l : List ℕ) → IsContinuation p (no_calls p) p.start l → KeepsTime l
  keeps_time l k = keeps_from [] l k.distinct k.ordered

  keeps_late : (early late : List ℕ) → KeepsTime (early ++ late) → KeepsTime late
  keeps_late [] late k = k
  keeps_late (x ∷ xs) late k = keeps_late xs late k.1

  -- what keeps time, and has each call that precedes one of it, has that call earlier
  pub earlier : (l early : List ℕ) (b : ℕ) (late : List ℕ) → KeepsTime l → l ≡ early ++ b ∷ late → (a : ℕ) → Before p a b → In a l → In a early
  earlier l early b late k e a before there =
      let split : In a early ⊎ In a (b ∷ late) = in_either a early (b ∷ late) (subst (In a) e there) in
      elim split [ inl h ↦ h | inr h ↦ absurd ((keeps_late early (b ∷ late) (subst KeepsTime e k)).0 a h before) ]

module _ {State Op Reply : Type 0} (same_state : State → State → Bool) (h : Whole State Op Reply) (object : ℕ) where
  abbrev P : Problem State Op Reply
  P = part_problem same_state h object

  -- ---- one call

  at : (k a : ℕ) → index_of h object k ≡ Some a → (c : Call Op Reply) × IsAt object 0 h.calls k a c
  at k a e = at_number object 0 h.calls k a e

  whole_of : (k a : ℕ) (c : Call Op Reply) → IsAt object 0 h.calls k a c → slice_get h.calls a ≡ Some c
  whole_of k a c i = let e : a ≡ i.place = (let f = i.index in omega (arith, f)) in rw e i.whole

  on_of : (k a : ℕ) (c : Call Op Reply) → IsAt object 0 h.calls k a c → is_call_on h object a ≡ true
  on_of k a c i = rw (whole_of k a c i) i.on

  to_before : (j k a b : ℕ) (c d : Call Op Reply) → IsAt object 0 h.calls j a c → IsAt object 0 h.calls k b d → Precedes h a b → Before P j k
  to_before j k a b c d i l before = rw (i.part, l.part) (rw (whole_of j a c i, whole_of k b d l) at before)

  from_before : (j k a b : ℕ) (c d : Call Op Reply) → IsAt object 0 h.calls j a c → IsAt object 0 h.calls k b d → Before P j k → Precedes h a b
  from_before j k a b c d i l before = rw (whole_of j a c i, whole_of k b d l) (rw (i.part, l.part) at before)

  to_completed : (k a : ℕ) (c : Call Op Reply) → IsAt object 0 h.calls k a c → HasReturned h a → IsCompleted P k
  to_completed k a c i done = rw (i.part) (rw (whole_of k a c i) at done)

  from_completed : (k a : ℕ) (c : Call Op Reply) → IsAt object 0 h.calls k a c → IsCompleted P k → HasReturned h a
  from_completed k a c i done = rw (whole_of k a c i) (rw (i.part) at done)

  step_next : (s m : State) (k : ℕ) (c d : Call Op Reply) (x : Placed Reply) → IsAt object 0 h.calls k x.call c → Steps h s d x m → next P s k ≡ Some m
  step_next s m k c d x i st =
      let same : c ≡ d = (let e = whole_of k x.call c i in let f = st.call in cc) in
      rw (i.part, same, st.step, st.recorded) refl

  -- ---- an order and the calls that it places

  pub placed_has : (order : List ℕ) (l : List (Placed Reply)) (s : State) → Places h object s order l → (c : ℕ) → In c order → (a : ℕ) × (index_of h object c ≡ Some a) × Has h a l
  placed_has [] [] s p c there = absurd there
  placed_has (k ∷ ks) (x ∷ xs) s p c there = elim there [
    | inl e ↦ (x.call, rw e p.0, inl refl)
    | inr more ↦ (let r = placed_has ks xs p.1.1 p.1.3 c more in (r.0, r.1, inr r.2))
  ]
  placed_has [] (x ∷ xs) s p c there = absurd p
  placed_has (k ∷ ks) [] s p c there = absurd p

  pub has_placed : (order : List ℕ) (l : List (Placed Reply)) (s : State) → Places h object s order l → (a : ℕ) → Has h a l → (c : ℕ) × (index_of h object c ≡ Some a) × In c order
  has_placed [] [] s p a there = absurd there
  has_placed (k ∷ ks) (x ∷ xs) s p a there = elim there [
    | inl e ↦ (k, p.0 ∙ ap Some e, inl refl)
    | inr more ↦ (let r = has_placed ks xs p.1.1 p.1.3 a more in (r.0, r.1, inr r.2))
  ]
  has_placed [] (x ∷ xs) s p a there = absurd p
  has_placed (k ∷ ks) [] s p a there = absurd p

  one_index : (k a b : ℕ) → index_of h object k ≡ Some a → index_of h object k ≡ Some b → a ≡ b
  one_index k a b e f = cc

  placed_distinct : (order : List ℕ) (l : List (Placed Reply)) (s : State) → Places h object s order l → IsDistinct order → AreDistinct h l
  placed_distinct [] [] s p d = tt
  placed_distinct (k ∷ ks) (x ∷ xs) s p d = (fresh, placed_distinct ks xs p.1.1 p.1.3 d.1)
    where
      fresh : Has h x.call xs → ⊥
      fresh there = let r = has_placed ks xs p.1.1 p.1.3 x.call there in d.0 (let e = one_number object 0 h.calls r.0 k x.call r.1 p.0 in subst (λ (n : ℕ). In n ks) e r.2)
  placed_distinct [] (x ∷ xs) s p d = absurd p
  placed_distinct (k ∷ ks) [] s p d = absurd p

  distinct_placed : (order : List ℕ) (l : List (Placed Reply)) (s : State) → Places h object s order l → AreDistinct h l → IsDistinct order
  distinct_placed [] [] s p d = tt
  distinct_placed (k ∷ ks) (x ∷ xs) s p d = (fresh, distinct_placed ks xs p.1.1 p.1.3 d.1)
    where
      fresh : In k ks → ⊥
      fresh there = let r = placed_has ks xs p.1.1 p.1.3 k there in d.0 (let e = one_index k r.0 x.call r.1 p.0 in subst (λ (n : ℕ). Has h n xs) e r.2)
  distinct_placed [] (x ∷ xs) s p d = absurd p
  distinct_placed (k ∷ ks) [] s p d = absurd p

  placed_runs : (order : List ℕ) (l : List (Placed Reply)) (s : State) → Places h object s order l → Runs h s l
  placed_runs [] [] s p = tt
  placed_runs (k ∷ ks) (x ∷ xs) s p = (p.1.0, p.1.1, p.1.2, placed_runs ks xs p.1.1 p.1.3)
  placed_runs [] (x ∷ xs) s p = absurd p
  placed_runs (k ∷ ks) [] s p = absurd p

  placed_legal : (order : List ℕ) (l : List (Placed Reply)) (s : State) → Places h object s order l → (t : State) × Legal P s order t
  placed_legal [] [] s p = (s, refl)
  placed_legal (k ∷ ks) (x ∷ xs) s p =
      let r = placed_legal ks xs p.1.1 p.1.3 in
      let i = at k x.call p.0 in
      (r.0, (p.1.1, step_next s p.1.1 k i.0 p.1.0 x i.1 p.1.2, r.1))
  placed_legal [] (x ∷ xs) s p = absurd p
  placed_legal (k ∷ ks) [] s p = absurd p

  placed_order : (order : List ℕ) (l : List (Placed Reply)) (s : State) → Places h object s order l → KeepsTime P order → KeepsOrder h l
  placed_order [] [] s p k = tt
  placed_order (c ∷ cs) (x ∷ xs) s p k = (here, placed_order cs xs p.1.1 p.1.3 k.1)
    where
      here : (a : ℕ) → Has h a (x ∷ xs) → Precedes h a x.call → ⊥
      here a there before =
          let r = has_placed (c ∷ cs) (x ∷ xs) s p a there in
          let i = at r.0 a r.1 in
          let j = at c x.call p.0 in
          k.0 r.0 r.2 (to_before r.0 c a x.call i.0 j.0 i.1 j.1 before)
  placed_order [] (x ∷ xs) s p k = absurd p
  placed_order (c ∷ cs) [] s p k = absurd p

  order_placed : (order : List ℕ) (l : List (Placed Reply)) (s : State) → Places h object s order l → KeepsOrder h l → KeepsTime P order
  order_placed [] [] s p k = tt
  order_placed (c ∷ cs) (x ∷ xs) s p k = (here, order_placed cs xs p.1.1 p.1.3 k.1)
    where
      here : (d : ℕ) → In d (c ∷ cs) → Before P d c → ⊥
      here d there before =
          let r = placed_has (c ∷ cs) (x ∷ xs) s p d there in
          let i = at d r.0 r.1 in
          let j = at c x.call p.0 in
          k.0 r.0 r.2 (from_before d c r.0 x.call i.0 j.0 i.1 j.1 before)
  order_placed [] (x ∷ xs) s p k = absurd p
  order_placed (c ∷ cs) [] s p k = absurd p

  -- ---- both ways

  -- A linearization of the problem, placed, is a linearization of the part.
  pub part_by_order : (order : List ℕ) (l : List (Placed Reply)) → IsLinearization P order → Places h object (h.starts object) order l → IsLinearizationOfPart h object l
  part_by_order order l lin p = record {
    on = λ a there. (let r = has_placed order l (h.starts object) p a there in let i = at r.0 a r.1 in on_of r.0 a i.0 i.1);
    distinct = placed_distinct order l (h.starts object) p lin.continuation.distinct;
    complete = complete;
    ordered = placed_order order l (h.starts object) p (keeps_time P order lin.continuation);
    legal = placed_runs order l (h.starts object) p;
  }
    where
      call_there : (a : ℕ) (o : Option (Call Op Reply)) → slice_get h.calls a ≡ o → HasReturned h a → (c : Call Op Reply) × (slice_get h.calls a ≡ Some c)
      call_there a None e done = absurd (rw e at done)
      call_there a (Some c) e done = (c, e)

      complete : (a : ℕ) → HasReturned h a → is_call_on h object a ≡ true → Has h a l
      complete a done on =
          let c = call_there a (slice_get h.calls a) refl done in
          let is : (c.0.object == object) ≡ true = rw c.1 at on in
          let k = number_at object 0 h.calls a c.0 c.1 is in
          let index : index_of h object k.0 ≡ Some a = (let z : 0 + a ≡ a = omega arith in k.1 ∙ ap Some z) in
          let i = at k.0 a index in
          let there : In k.0 order = elim (lin.complete k.0 (to_completed k.0 a i.0 i.1 done)) [ inl f ↦ absurd (let none = has_none (length (P).calls) k.0 in cc) | inr f ↦ f ] in
          let r = placed_has order l (h.starts object) p k.0 there in
          subst (λ (n : ℕ). Has h n l) (one_index k.0 r.0 a r.1 index) r.2

  -- A list that is legal on the object is placed by some order.
  pub order_of : (l : List (Placed Reply)) (s : State) → ((a : ℕ) → Has h a l → is_call_on h object a ≡ true) → Runs h s l → (order : List ℕ) × Places h object s order l
  order_of [] s on runs = ([], tt)
  order_of (x ∷ xs) s on runs =
      let is : (runs.0.object == object) ≡ true = rw runs.2.call at (on x.call (inl refl)) in
      let k = number_at object 0 h.calls x.call runs.0 runs.2.call is in
      let index : index_of h object k.0 ≡ Some x.call = (let z : 0 + x.call ≡ x.call = omega arith in k.1 ∙ ap Some z) in
      let r = order_of xs runs.1 (λ a there. on a (inr there)) runs.3 in
      (k.0 ∷ r.0, (index, (runs.0, runs.1, runs.2, r.1)))

  -- The order that places a linearization of the part is a linearization of the problem.
  pub order_by_part : (order : List ℕ) (l : List (Placed Reply)) → IsLinearizationOfPart h object l → Places h object (h.starts object) order l → IsLinearization P order
  order_by_part order l lin p = record {
    continuation = record {
      distinct = distinct_placed order l (h.starts object) p lin.distinct;
      outside = λ c there. has_none (length (P).calls) c;
      legal = placed_legal order l (h.starts object) p;
      ordered = λ early b late e a before. inr (earlier P order early b late keeps e a before (complete a (completed_of a b before)));
    };
    complete = λ c done. inr (complete c done);
  }
    where
      keeps : KeepsTime P order
      keeps = order_placed order l (h.starts object) p lin.ordered

      some_of : {A : Type 0} (o : Option A) (Q : A → Type 0) → IsSomeAnd o Q → IsSome o
      some_of None Q q = absurd q
      some_of (Some x) Q q = refl

      completed_of : (a b : ℕ) → Before P a b → IsCompleted P a
      completed_of a b before = some_more (slice_get (P).calls a) _ _ (λ x q. some_of x.returned _ q) before

      there_of : {A : Type 0} (o : Option A) (Q : A → Type 0) → IsSomeAnd o Q → (x : A) × (o ≡ Some x)
      there_of None Q q = absurd q
      there_of (Some x) Q q = (x, refl)

      complete : (c : ℕ) → IsCompleted P c → In c order
      complete c done =
          let d = there_of (slice_get (P).calls c) _ done in
          let a = index_at object 0 h.calls c d.0 d.1 in
          let i = at c a.0 a.1 in
          let there : Has h a.0 l = lin.complete a.0 (from_completed c a.0 i.0 i.1 done) (on_of c a.0 i.0 i.1) in
          let r = has_placed order l (h.starts object) p a.0 there in
          subst (λ (n : ℕ). In n order) (one_number object 0 h.calls r.0 c a.0 r.1 a.1) r.2
