-- No completion begins with a push that is held back beyond its deadline by the pushes that must lie above it.
use Rattle.std.proofs.Common.{◌≡◌, ℕ, Bool, false, Option, Some, List, [], ◌∷◌, ◌++◌, ◌⊎◌, inl, inr, refl, sym, ◌∙◌, ap, subst, append_assoc, arith}
use Rattle.std.specs.Prelude.{ℤ, ◌<◌, ◌≤◌, slice_get, IfSome, IsSomeAnd}
use Rattle.lin_object.specs.declared.op.Op.{Op}
use Rattle.lin_object.specs.declared.op.Op.TheVariants.{Pop}
use Rattle.lin_object.specs.declared.reply.Reply.{Reply}
use Rattle.lin_object.specs.declared.reply.Reply.TheVariants.{Int, Empty}
use Rattle.lin_object.specs.declared.state.ObjState.{ObjState}
use Rattle.lin_object.specs.declared.state.ObjState.TheVariants.{Stack}
use Rattle.lin_history.specs.declared.problems.problem.ProblemCall.{ProblemCall}
use Rattle.lin_history.specs.OptionLemmas.{some_and, and_some}
use Rattle.lin_history.specs.Problems.Problem.{Problem}
use Rattle.lin_history.specs.Problems.Lists.{In, IsDistinct}
use Rattle.lin_history.specs.Problems.ListLemmas.{in_early, in_late, in_place}
use Rattle.lin_history.specs.Problems.LegalLists.{next, Legal}
use Rattle.lin_history.specs.Problems.Precedence.{Before, IsCompleted}
use Rattle.lin_history.specs.Problems.Continuations.{has, IsCompletion}
use Rattle.lin_ahead.specs.First.FirstProgress.{BeginsNone}
use Rattle.lin_ahead.specs.Items.Numbers.{ReturnsAt, CalledFrom}
use Rattle.lin_ahead.specs.Queues.Queue.{Item}
use Rattle.lin_ahead.specs.Stacks.Stack.{FoundEmpty}
use Rattle.lin_laws.specs.Items.{Pushes, Popped}
use Rattle.lin_ahead.proofs.stacks.AboveLemmas.{LiesStill, lies_or_popped, pushed_above, aboves}
use Rattle.lin_ahead.proofs.first.PlaceLemmas.{not_in_front, not_empty}
use Rattle.lin_laws.specs.Exact.{IsExact}
use Rattle.lin_ahead.proofs.stacks.StackLemmas.{MayPop, LeavesBelow, IsPopped, IsPoppedBy, call_moves, push_is_no_pop, one_item, after_push, one_popper}

module _ (p : Problem ObjState Op Reply) (set : List Bool) where
  -- no other call outside the set pushes the item
  abbrev pub OnlyPushesOf : ℕ → ℤ → Type 0
  OnlyPushesOf c v = (d : ℕ) → Pushes p d v → has set d ≡ false → d ≡ c

  -- the call that pops the item v of push c, outside the set, where these items are on the stack, has the property: all calls
  -- outside the set that may pop it have; or it is there once, and the call that returned with it has
  abbrev pub PopperHas : (ℕ → Type 0) → List ℤ → ℕ → ℤ → Type 0
  PopperHas Q items c v =
      ((j : ℕ) → has set j ≡ false → MayPop p j v → Q j)
      ⊎ (OnlyPushesOf c v × (Item v items → ⊥) × ((j : ℕ) × (has set j ≡ false) × Popped p j v × Q j))

  -- that call was called at this event or later
  abbrev pub IsPoppedFrom : List ℤ → ℕ → ℕ → ℤ → Type 0
  IsPoppedFrom items n c v = PopperHas (λ j. CalledFrom p n j) items c v

  -- the item of a push b made next is popped before call z, or by it: z is outside the set, and found the stack empty, or
  -- returned with an item that no other call outside the set pushes
  abbrev pub IsDeadlineAt : ℕ → ℕ → Type 0
  IsDeadlineAt b z = (has set z ≡ false) × (FoundEmpty p z ⊎ ((w : ℤ) × Popped p z w × OnlyPushesOf b w))

  -- where a completion begins with push b, a call that pops not later than b's item is popped was called at this event or later
  abbrev pub IsHeldFrom : List ℤ → ℕ → ℕ → Type 0
  IsHeldFrom items b n = (early : List ℕ) (j : ℕ) (late : List ℕ) → IsCompletion p set (Stack items) (b ∷ early ++ j ∷ late) → IsPoppedBy p (Stack items) [] b early j → (i : ℕ) × (In i early ⊎ (i ≡ j)) × CalledFrom p n i

  -- from the push on, as long as the event grows, up to a deadline
  pub record HeldRules (items : List ℤ) (b : ℕ) : Type 0 where
    pub starts : (v : ℤ) (n : ℕ) → Pushes p b v → IsPoppedFrom items n b v → IsHeldFrom items b n
    pub grows : (n m k d : ℕ) (w : ℤ) → IsHeldFrom items b n → ReturnsAt p d m → m < n → has set d ≡ false → Pushes p d w → IsPoppedFrom items k d w → IsHeldFrom items b k
    pub ends : (v : ℤ) (n m z : ℕ) → IsHeldFrom items b n → Pushes p b v → ReturnsAt p z m → m < n → IsDeadlineAt b z → BeginsNone p set (Stack items) b

module _ (p : Problem ObjState Op Reply) (exact : IsExact p) where
  pub legal_split : (xs ys : List ℕ) (s u : ObjState) → Legal p s (xs ++ ys) u → (t : ObjState) × Legal p s xs t × Legal p t ys u
  legal_split [] ys s u k = (s, refl, k)
  legal_split (x ∷ xs) ys s u k = let r = legal_split xs ys k.0 u k.2 in (r.0, (k.0, k.1, r.1), r.2)

  -- the reply with which a call returned that may pop an item
  pub returned_with : (c : ℕ) (w : ℤ) → MayPop p c w → (y : ProblemCall Op Reply) → slice_get p.calls c ≡ Some y → (n : ℕ) (r : Reply) → y.returned ≡ Some (n, r) → r ≡ Int w
  returned_with c w (x, there, op, pops) y here n r back =
      let one : x ≡ y = (let h = there in let k = here in cc) in
      subst (λ (o : Option (ℕ × Reply)). IfSome o (λ q. q.1 ≡ Int w)) (ap (λ (a : ProblemCall Op Reply). a.returned) one ∙ back) pops

  pub completed : (c : ℕ) (x : ProblemCall Op Reply) (n : ℕ) (r : Reply) → slice_get p.calls c ≡ Some x → x.returned ≡ Some (n, r) → IsCompleted p c
  completed c x n r e f = rw (e, f) refl

  took_completed : (c : ℕ) (v : ℤ) → Popped p c v → IsCompleted p c
  took_completed c v popped = completed c popped.0 popped.3.0 (Int v) popped.1 popped.3.1

  -- a deadline is a pop that has returned
  deadline_pops : (set : List Bool) (b z : ℕ) → IsDeadlineAt p set b z → (x : ProblemCall Op Reply) × (slice_get p.calls z ≡ Some x) × (x.op ≡ Pop) × IsCompleted p z
  deadline_pops set b z deadline = elim deadline.1 [
    | inl none ↦ (none.0, none.1, none.2, completed z none.0 none.3.0 Empty none.1 none.3.1)
    | inr took ↦ (let k = took.1 in (k.0, k.1, k.2, completed z k.0 k.3.0 (Int took.0) k.1 k.3.1))
  ]

  -- a completion that begins with a push b, and the place of a deadline in it
  module _ (set : List Bool) (items : List ℤ) (b z : ℕ) (cs : List ℕ) (h : IsCompletion p set (Stack items) (b ∷ cs)) (deadline : IsDeadlineAt p set b z) where
    -- the item is popped not later than z
    record PoppedInTime (v : ℤ) : Type 0 where
      early : List ℕ
      j : ℕ
      late : List ℕ
      place : cs ≡ early ++ j ∷ late
      popped : IsPopped p [] v items early j
      in_time : In z early → ⊥

    distinct : IsDistinct cs
    distinct = h.continuation.distinct.1

    -- at z the item lies there no more, or it is what z pops
    at_deadline : (v : ℤ) (early late : List ℕ) → cs ≡ early ++ z ∷ late → (u m : ObjState) → LiesStill p exact [] v items early u → next p u z ≡ Some m → PoppedInTime v
    at_deadline v early late place u m lies step =
        elim (call_moves p exact (lies.0 ++ v ∷ items) m z (subst (λ (s : ObjState). next p s z ≡ Some m) lies.1 step)) [
          | inl put ↦ absurd (let k = deadline_pops set b z deadline in push_is_no_pop p exact z put.0 put.1 k.0 k.1 k.2)
          | inr (inl take) ↦ elim deadline.1 [
            | inl none ↦ absurd (let e = returned_with z take.0 take.2 none.0 none.1 none.3.0 Empty none.3.1 in cc)
            | inr took ↦ top lies.0 lies.2 take.0 take.1 took (let k = took.1 in returned_with z take.0 take.2 k.0 k.1 k.3.0 (Int took.0) k.3.1) take.2 take.3 (subst (λ (s : ObjState). next p s z ≡ Some m) lies.1 step ∙ ap Some take.4)
          ]
          | inr (inr none) ↦ absurd (not_empty lies.0 v items none.0)
        ]
      where
        top : (end : List ℤ) → LeavesBelow p (v ∷ items) [] early end → (x : ℤ) (rest : List ℤ) → (took : (w : ℤ) × Popped p z w × ((d : ℕ) → Pushes p d w → has set d ≡ false → d ≡ b)) → Int took.0 ≡ Int x → MayPop p z x → end ++ v ∷ items ≡ x ∷ rest → next p (Stack (end ++ v ∷ items)) z ≡ Some (Stack rest) → PoppedInTime v
        top [] leaves x rest took e pops f step' =
            let same : x ≡ v = cc in
            let left : rest ≡ items = cc in
            record {
              early = early;
              j = z;
              late = late;
              place = place;
              popped = record { stays = leaves; pops = subst (λ (y : ℤ). MayPop p z y) same pops; step = step' ∙ ap (λ (l : List ℤ). Some (Stack l)) left };
              in_time = λ k. not_in_front early z late (subst IsDistinct place distinct) k;
            }
        top (y ∷ end) leaves x rest took e pops f step' =
            let same : y ≡ took.0 = cc in
            elim (pushed_above p exact (v ∷ items) early [] took.0 (y ∷ end) leaves ([], end, ap (λ (w : ℤ). w ∷ end) same)) [
              | inl k ↦ absurd (
                  let there : In k.0 cs = subst (λ (l : List ℕ). In k.0 l) (sym place) (in_early k.0 early (z ∷ late) k.1) in
                  let one : k.0 ≡ b = took.2 k.0 k.2 (h.continuation.outside k.0 (inr there)) in
                  h.continuation.distinct.0 (subst (λ (n : ℕ). In n cs) one there))
              | inr k ↦ absurd (not_empty k.0 took.0 k.1 (sym k.2))
            ]

    -- the item of b is popped not later than z
    popped_in_time : (v : ℤ) → Pushes p b v → PoppedInTime v
    popped_in_time v pushes =
        let k = deadline_pops set b z deadline in
        elim (h.complete z k.3) [
          | inl q ↦ absurd (let out = deadline.0 in cc)
          | inr (inl e) ↦ absurd (push_is_no_pop p exact z v (subst (λ (n : ℕ). Pushes p n v) (sym e) pushes) k.0 k.1 k.2)
          | inr (inr there) ↦ go (in_place z cs there)
        ]
      where
        go : (early : List ℕ) × (late : List ℕ) × (cs ≡ early ++ z ∷ late) → PoppedInTime v
        go (early, late, place) =
            let legal = h.continuation.legal.1 in
            let first : legal.0 ≡ Stack (v ∷ items) = after_push p exact items legal.0 b v pushes legal.1 in
            let two = legal_split early (z ∷ late) (Stack (v ∷ items)) h.continuation.legal.0 (subst (λ (l : List ℕ). Legal p (Stack (v ∷ items)) l h.continuation.legal.0) place (subst (λ (s : ObjState). Legal p s cs h.continuation.legal.0) first legal.2)) in
            elim (lies_or_popped p exact early [] v items two.0 two.1) [
              | inl lies ↦ at_deadline v early late place two.0 two.2.0 lies two.2.1
              | inr at ↦ record {
                early = at.0;
                j = at.1;
                late = at.2 ++ z ∷ late;
                place = place ∙ ap (λ (l : List ℕ). l ++ z ∷ late) at.3 ∙ append_assoc at.0 (at.1 ∷ at.2) (z ∷ late);
                popped = at.4;
                in_time = λ k. not_in_front early z late (subst IsDistinct place distinct) (subst (λ (l : List ℕ). In z l) (sym at.3) (in_early z at.0 (at.1 ∷ at.2) k));
              }
            ]

module _ (p : Problem ObjState Op Reply) (exact : IsExact p) (set : List Bool) (items : List ℤ) (b : ℕ) (early : List ℕ) (j : ℕ) (late : List ℕ) (h : IsCompletion p set (Stack items) (b ∷ early ++ j ∷ late)) (first : IsPoppedBy p (Stack items) [] b early j) where
  -- the call stands not later than b's item is popped
  abbrev UpTo : ℕ → Type 0
  UpTo i = In i early ⊎ (i ≡ j)

  in_list : (i : ℕ) → UpTo i → In i (early ++ j ∷ late)
  in_list i up = elim up [
    | inl q ↦ in_early i early (j ∷ late) q
    | inr e ↦ in_late i early (j ∷ late) (inl e)
  ]

  -- what c pushes is popped not later than that
  record HasPop (c : ℕ) : Type 0 where
    before : List ℕ
    mid : List ℕ
    i : ℕ
    after_ : List ℕ
    place : b ∷ early ++ j ∷ late ≡ before ++ c ∷ (mid ++ i ∷ after_)
    popped_by : IsPoppedBy p (Stack items) before c mid i
    up_to : UpTo i

  -- what returned before such a call was called, and is outside the set, stands in front of the pop of b's item
  stands_in_front : (a i : ℕ) → UpTo i → Before p a i → has set a ≡ false → In a (b ∷ early)
  stands_in_front a i up before out = elim up [
    | inl q ↦ (
        let at = in_place i early q in
        elim (h.continuation.ordered (b ∷ at.0) i (at.1 ++ j ∷ late) (ap (λ (l : List ℕ). b ∷ l) (ap (λ (l : List ℕ). l ++ j ∷ late) at.2 ∙ append_assoc at.0 (i ∷ at.1) (j ∷ late))) a before) [
          | inl x ↦ absurd (cc)
          | inr x ↦ subst (λ (l : List ℕ). In a (b ∷ l)) (sym at.2) (in_early a (b ∷ at.0) (i ∷ at.1) x)
        ])
    | inr e ↦ elim (h.continuation.ordered (b ∷ early) j late refl a (subst (λ (n : ℕ). Before p a n) e before)) [
      | inl x ↦ absurd (cc)
      | inr x ↦ x
    ]
  ]

  first_has_pop : HasPop b
  first_has_pop = record { before = []; mid = early; i = j; after_ = late; place = refl; popped_by = first; up_to = inr refl }

  -- what is pushed behind b and before its item is popped is popped before that
  above_has_pop : (d : ℕ) → In d early → (w : ℤ) → Pushes p d w → HasPop d
  above_has_pop d there w put =
      let at = in_place d early there in
      let f = aboves p exact (Stack items) [] b early j first at.0 d at.1 w at.2 put in
      let shape : at.1 ≡ f.0 ++ f.1 ∷ f.2 = f.3 in
      let whole : early ≡ at.0 ++ d ∷ (f.0 ++ f.1 ∷ f.2) = at.2 ∙ ap (λ (l : List ℕ). at.0 ++ d ∷ l) shape in
      record {
        before = b ∷ at.0;
        mid = f.0;
        i = f.1;
        after_ = f.2 ++ j ∷ late;
        place = ap (λ (l : List ℕ). b ∷ l) (ap (λ (l : List ℕ). l ++ j ∷ late) whole ∙ append_assoc at.0 (d ∷ (f.0 ++ f.1 ∷ f.2)) (j ∷ late) ∙ ap (λ (l : List ℕ). at.0 ++ d ∷ l) (append_assoc f.0 (f.1 ∷ f.2) (j ∷ late)));
        popped_by = f.4;
        up_to = inl (subst (λ (l : List ℕ). In f.1 l) (sym whole) (in_late f.1 at.0 (d ∷ (f.0 ++ f.1 ∷ f.2)) (inr (in_late f.1 f.0 (f.1 ∷ f.2) (inl refl)))));
      }

  has_pop : (d : ℕ) → In d (b ∷ early) → (w : ℤ) → Pushes p d w → HasPop d
  has_pop d (inl e) w put = subst HasPop (sym e) first_has_pop
  has_pop d (inr q) w put = above_has_pop d q w put

  -- the call that pops the item of c has the property
  popper_has : (Q : ℕ → Type 0) (c : ℕ) (w : ℤ) → (pop : HasPop c) → Pushes p c w → PopperHas p set Q items c w → Q pop.i
  popper_has Q c w pop put has_it = elim has_it [
    | inl all ↦ all pop.i (h.continuation.outside pop.i (inr (in_list pop.i pop.up_to))) (subst (λ (u : ℤ). MayPop p pop.i u) (one_item p exact c pop.popped_by.item w pop.popped_by.pushes put) pop.popped_by.popped.pops)
    | inr once ↦ (
        let j' = once.2.0 in
        let there : In j' (b ∷ early ++ j ∷ late) = elim (h.complete j' (took_completed p exact j' w once.2.2)) [ inl q ↦ absurd (let out = once.2.1 in cc) | inr q ↦ q ] in
        let one : j' ≡ pop.i = one_popper p exact items pop.before c pop.mid pop.i pop.after_ h.continuation.legal.0 pop.popped_by (subst IsDistinct pop.place h.continuation.distinct) (subst (λ (l : List ℕ). Legal p (Stack items) l h.continuation.legal.0) pop.place h.continuation.legal.1) w put (λ d q puts. once.0 d puts (h.continuation.outside d (subst (λ (l : List ℕ). In d l) (sym pop.place) q))) once.1 j' (subst (λ (l : List ℕ). In j' l) pop.place there) once.2.2 in
        subst Q one once.2.3)
  ]

module _ (p : Problem ObjState Op Reply) (exact : IsExact p) (set : List Bool) (items : List ℤ) (b z : ℕ) (cs : List ℕ) (h : IsCompletion p set (Stack items) (b ∷ cs)) (deadline : IsDeadlineAt p set b z) (v : ℤ) (pushes : Pushes p b v) where
  in_time : PoppedInTime p exact set items b z cs h deadline v
  in_time = popped_in_time p exact set items b z cs h deadline v pushes

  completion : IsCompletion p set (Stack items) (b ∷ in_time.early ++ in_time.j ∷ in_time.late)
  completion = subst (λ (l : List ℕ). IsCompletion p set (Stack items) (b ∷ l)) in_time.place h

  popped_by : IsPoppedBy p (Stack items) [] b in_time.early in_time.j
  popped_by = record {
    item = v;
    below = items;
    so_far = refl;
    pushes = pushes;
    step = (let l = h.continuation.legal.1 in l.1 ∙ ap Some (after_push p exact items l.0 b v pushes l.1));
    popped = in_time.popped;
  }

  not_in_time : In z (b ∷ in_time.early) → ⊥
  not_in_time (inl e) = let x = deadline_pops p exact set b z deadline in push_is_no_pop p exact z v (subst (λ (n : ℕ). Pushes p n v) (sym e) pushes) x.0 x.1 x.2
  not_in_time (inr q) = in_time.in_time q

-- ---- by numbers

pub before_by : (p : Problem ObjState Op Reply) (a i m n : ℕ) → ReturnsAt p a m → m < n → CalledFrom p n i → Before p a i
before_by p a i m n (x, there, (r, back)) less from =
    let k = some_and (slice_get p.calls i) (λ y. n ≤ y.called) from in
    and_some (slice_get p.calls a) (λ x. IsSomeAnd x.returned (λ r. IsSomeAnd (slice_get p.calls i) (λ y. r.0 < y.called))) x there
    (and_some x.returned (λ r. IsSomeAnd (slice_get p.calls i) (λ y. r.0 < y.called)) (m, r) back
    (and_some (slice_get p.calls i) (λ y. m < y.called) k.0 k.1 (let at = k.2 in omega (arith, less, at))))

pub numbers : (p : Problem ObjState Op Reply) → IsExact p → (set : List Bool) (items : List ℤ) (b : ℕ) → HeldRules p set items b
numbers p exact set items b = record {
  starts = λ v n pushes from early j late h first. (
      let pop = first_has_pop p exact set items b early j late h first in
      (pop.i, pop.up_to, popper_has p exact set items b early j late h first (λ i. CalledFrom p n i) b v pop pushes from));
  grows = λ n m k d w held returns less out pushes from early j late h first. (
      let i = held early j late h first in
      let there = stands_in_front p exact set items b early j late h first d i.0 i.1 (before_by p d i.0 m n returns less i.2) out in
      let pop = has_pop p exact set items b early j late h first d there w pushes in
      (pop.i, pop.up_to, popper_has p exact set items b early j late h first (λ i. CalledFrom p k i) d w pop pushes from));
  ends = λ v n m z held pushes returns less deadline cs h. (
      let t = in_time p exact set items b z cs h deadline v pushes in
      let whole = completion p exact set items b z cs h deadline v pushes in
      let first = popped_by p exact set items b z cs h deadline v pushes in
      let i = held t.early t.j t.late whole first in
      not_in_time p exact set items b z cs h deadline v pushes (stands_in_front p exact set items b t.early t.j t.late whole first z i.0 i.1 (before_by p z i.0 m n returns less i.2) deadline.0));
}
