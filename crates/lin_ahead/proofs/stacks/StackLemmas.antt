-- In a legal run of a stack an item that is pushed once is popped by one call.
use Rattle.std.proofs.Common.{◌≡◌, ℕ, true, Option, Some, None, List, [], ◌∷◌, ◌++◌, ◌⊎◌, inl, inr, refl, sym, ◌∙◌, ap, subst}
use Rattle.std.specs.Prelude.{ℤ, slice_get, IfSome}
use Rattle.lin_object.specs.declared.op.Op.{Op}
use Rattle.lin_object.specs.declared.op.Op.TheVariants.{Push, Pop}
use Rattle.lin_object.specs.declared.reply.Reply.{Reply}
use Rattle.lin_object.specs.declared.reply.Reply.TheVariants.{Okay, Int, Empty}
use Rattle.lin_object.specs.declared.state.ObjState.{ObjState}
use Rattle.lin_object.specs.declared.state.ObjState.TheVariants.{Stack}
use Rattle.lin_object.specs.Kinds.Stack.{stack_step}
use Rattle.lin_history.specs.declared.problems.problem.ProblemCall.{ProblemCall}
use Rattle.lin_history.specs.Problems.Problem.{Problem}
use Rattle.lin_history.specs.Problems.Lists.{In, IsDistinct}
use Rattle.lin_history.specs.Problems.ListLemmas.{in_early, in_either, in_late}
use Rattle.lin_history.specs.Problems.LegalLists.{fits, state_if_fits, next, Legal}
use Rattle.lin_ahead.specs.Queues.Queue.{Item}
use Rattle.lin_laws.specs.Items.{Pushes, Popped}
use Rattle.lin_laws.specs.Exact.{IsExact}
use Rattle.lin_laws.specs.AnswerLemmas.{Is, state_of, reply_of, fits_some}
use Rattle.lin_ahead.proofs.first.PlaceLemmas.{not_in_front, distinct_late, not_within, not_empty, put_on, taken_off}

module _ (p : Problem ObjState Op Reply) where
  -- the call may pop this item: it returned with it, or is pending
  abbrev pub MayPop : ℕ → ℤ → Type 0
  MayPop c v = (x : ProblemCall Op Reply) × (slice_get p.calls c ≡ Some x) × (x.op ≡ Pop) × IfSome x.returned (λ r. r.1 ≡ Int v)

  -- the calls are legal from a stack of those above and then those below to one of those at the end and then those below,
  -- and none of those below is popped on the way
  abbrev pub LeavesBelow : List ℤ → List ℤ → List ℕ → List ℤ → Type 0
  LeavesBelow below above [] end = above ≡ end
  LeavesBelow below above (c ∷ cs) end = (mid : List ℤ) × (next p (Stack (above ++ below)) c ≡ Some (Stack (mid ++ below))) × LeavesBelow below mid cs end

  -- call j pops the item v, which lies on those below and under those above, after the calls early
  pub record IsPopped (above : List ℤ) (v : ℤ) (below : List ℤ) (early : List ℕ) (j : ℕ) : Type 0 where
    pub stays : LeavesBelow (v ∷ below) above early []
    pub pops : MayPop j v
    pub step : next p (Stack (v ∷ below)) j ≡ Some (Stack below)

  -- in a list of calls from s the item of push c is popped by call j, with these calls in between
  pub record IsPoppedBy (s : ObjState) (early : List ℕ) (c : ℕ) (mid : List ℕ) (j : ℕ) : Type 0 where
    pub item : ℤ
    pub below : List ℤ
    pub so_far : Legal p s early (Stack below)
    pub pushes : Pushes p c item
    pub step : next p (Stack below) c ≡ Some (Stack (item ∷ below))
    pub popped : IsPopped [] item below mid j

-- ---- one step of a stack

abbrev PutsOn : List ℤ → Op → ObjState → Reply → Type 0
PutsOn items op m r = (v : ℤ) × (op ≡ Push v) × (m ≡ Stack (v ∷ items)) × (r ≡ Okay)

abbrev TakesOff : List ℤ → Op → ObjState → Reply → Type 0
TakesOff items op m r = (v : ℤ) × (rest : List ℤ) × (op ≡ Pop) × (items ≡ v ∷ rest) × (m ≡ Stack rest) × (r ≡ Int v)

abbrev FindsNone : List ℤ → Op → ObjState → Reply → Type 0
FindsNone items op m r = (op ≡ Pop) × (items ≡ []) × (m ≡ Stack []) × (r ≡ Empty)

stack_moves : (items : List ℤ) (op : Op) (m : ObjState) (r : Reply) → Is (stack_step items op) m r → PutsOn items op m r ⊎ (TakesOff items op m r ⊎ FindsNone items op m r)
stack_moves items (Push v) m r e = inl (v, refl, sym (state_of e), sym (reply_of e))
stack_moves [] Pop m r e = inr (inr (refl, refl, sym (state_of e), sym (reply_of e)))
stack_moves (v ∷ rest) Pop m r e = inr (inl (v, rest, refl, refl, sym (state_of e), sym (reply_of e)))
stack_moves items op m r e = absurd (cc)

-- only a pop of what lies on top answers with an item
pub only_pops : (items : List ℤ) (op : Op) (m : ObjState) (v : ℤ) → Is (stack_step items op) m (Int v) → (rest : List ℤ) × (op ≡ Pop) × (items ≡ v ∷ rest) × (m ≡ Stack rest)
only_pops items op m v e = elim (stack_moves items op m (Int v) e) [
  | inl put ↦ absurd (let f = put.3 in cc)
  | inr (inl take) ↦ (take.1, take.2, (let f = take.5 in let same : take.0 ≡ v = cc in take.3 ∙ ap (λ (w : ℤ). w ∷ take.1) same), take.4)
  | inr (inr none) ↦ absurd (let f = none.3 in cc)
]

module _ (p : Problem ObjState Op Reply) (exact : IsExact p) where
  fits_recorded : (r : Reply) (recorded : Option (ℕ × Reply)) → fits p.same_reply r recorded ≡ true → IfSome recorded (λ q. q.1 ≡ r)
  fits_recorded r None e = tt
  fits_recorded r (Some q) e = sym (exact.exact r q.1 e)

  has_call : (s m : ObjState) (c : ℕ) → next p s c ≡ Some m → (x : ProblemCall Op Reply) × (slice_get p.calls c ≡ Some x)
  has_call s m c step = go (slice_get p.calls c) refl
    where
      go : (o : Option (ProblemCall Op Reply)) → slice_get p.calls c ≡ o → (x : ProblemCall Op Reply) × (slice_get p.calls c ≡ Some x)
      go (Some x) e = (x, e)
      go None e = absurd (let f = rw e at step in cc)

  -- a step of a call at a stack
  stepped : (items : List ℤ) (m : ObjState) (c : ℕ) (x : ProblemCall Op Reply) → slice_get p.calls c ≡ Some x → next p (Stack items) c ≡ Some m → (r : Reply) × Is (stack_step items x.op) m r × IfSome x.returned (λ q. q.1 ≡ r)
  stepped items m c x e step =
      let step' : state_if_fits p.same_reply x.returned (p.after (Stack items) x.process x.op) ≡ Some m = rw e at step in
      let k = fits_some p.same_reply (p.after (Stack items) x.process x.op) x.returned m step' in
      (k.0, sym (exact.after_is (Stack items) x.process x.op) ∙ k.1, fits_recorded k.0 x.returned k.2)

  -- the call may find the stack empty
  abbrev MayFindNone : ℕ → Type 0
  MayFindNone c = (x : ProblemCall Op Reply) × (slice_get p.calls c ≡ Some x) × (x.op ≡ Pop) × IfSome x.returned (λ q. q.1 ≡ Empty)

  abbrev CallPuts : List ℤ → ℕ → ObjState → Type 0
  CallPuts items c m = (v : ℤ) × Pushes p c v × (m ≡ Stack (v ∷ items))

  abbrev CallTakes : List ℤ → ℕ → ObjState → Type 0
  CallTakes items c m = (v : ℤ) × (rest : List ℤ) × MayPop p c v × (items ≡ v ∷ rest) × (m ≡ Stack rest)

  abbrev CallFindsNone : List ℤ → ℕ → ObjState → Type 0
  CallFindsNone items c m = (items ≡ []) × MayFindNone c × (m ≡ Stack [])

  -- a call puts an item on, or takes the top, or finds none
  pub call_moves : (items : List ℤ) (m : ObjState) (c : ℕ) → next p (Stack items) c ≡ Some m → CallPuts items c m ⊎ (CallTakes items c m ⊎ CallFindsNone items c m)
  call_moves items m c step =
      let call = has_call (Stack items) m c step in
      let k = stepped items m c call.0 call.1 step in
      elim (stack_moves items call.0.op m k.0 k.1) [
        | inl put ↦ inl (put.0, (call.0, call.1, put.1), put.2)
        | inr (inl take) ↦ inr (inl (take.0, take.1, (call.0, call.1, take.2, subst (λ (r : Reply). IfSome call.0.returned (λ q. q.1 ≡ r)) take.5 k.2), take.3, take.4))
        | inr (inr none) ↦ inr (inr (none.1, (call.0, call.1, none.0, subst (λ (r : Reply). IfSome call.0.returned (λ q. q.1 ≡ r)) none.3 k.2), none.2))
      ]

  pub push_is_no_pop : (c : ℕ) (v : ℤ) → Pushes p c v → (x : ProblemCall Op Reply) → slice_get p.calls c ≡ Some x → x.op ≡ Pop → ⊥
  push_is_no_pop c v pushes x there op =
      let one : pushes.0 ≡ x = (let h = pushes.1 in cc) in
      let f : Push v ≡ Pop = sym pushes.2 ∙ ap (λ (y : ProblemCall Op Reply). y.op) one ∙ op in
      absurd (cc)

  pub one_item : (c : ℕ) (v w : ℤ) → Pushes p c v → Pushes p c w → v ≡ w
  one_item c v w a b =
      let one : a.0 ≡ b.0 = (let h = a.1 in let k = b.1 in cc) in
      let f : Push v ≡ Push w = sym a.2 ∙ ap (λ (y : ProblemCall Op Reply). y.op) one ∙ b.2 in
      cc

  -- what a push leaves
  pub after_push : (items : List ℤ) (m : ObjState) (c : ℕ) (v : ℤ) → Pushes p c v → next p (Stack items) c ≡ Some m → m ≡ Stack (v ∷ items)
  after_push items m c v pushes step = elim (call_moves items m c step) [
    | inl put ↦ put.2 ∙ ap (λ (w : ℤ). Stack (w ∷ items)) (one_item c put.0 v put.1 pushes)
    | inr (inl take) ↦ absurd (push_is_no_pop c v pushes take.2.0 take.2.1 take.2.2)
    | inr (inr none) ↦ absurd (push_is_no_pop c v pushes none.1.0 none.1.1 none.1.2)
  ]

  -- such calls are legal
  pub leaves_legal : (below : List ℤ) (l : List ℕ) (above end : List ℤ) → LeavesBelow p below above l end → Legal p (Stack (above ++ below)) l (Stack (end ++ below))
  leaves_legal below [] above end e = ap (λ (a : List ℤ). Stack (a ++ below)) e
  leaves_legal below (c ∷ cs) above end (mid, step, more) = (Stack (mid ++ below), step, leaves_legal below cs mid end more)

  -- the items of two stacks that are one
  pub inside_stack : (xs ys : List ℤ) → Stack xs ≡ Stack ys → xs ≡ ys
  inside_stack xs ys e = cc

  -- ---- an item that is there once is popped once

  popped_reply : (c : ℕ) (v w : ℤ) → Popped p c v → MayPop p c w → v ≡ w
  popped_reply c v w (x, there, op, (n, back)) (y, here, oq, pops) =
      let one : y ≡ x = (let h = there in let k = here in cc) in
      let same : Int v ≡ Int w = subst (λ (o : Option (ℕ × Reply)). IfSome o (λ q. q.1 ≡ Int w)) (ap (λ (a : ProblemCall Op Reply). a.returned) one ∙ back) pops in
      cc

  not_empty_pop : (c : ℕ) (v : ℤ) → Popped p c v → MayFindNone c → ⊥
  not_empty_pop c v (x, there, op, (n, back)) (y, here, oq, finds) =
      let one : y ≡ x = (let h = there in let k = here in cc) in
      let same : Int v ≡ Empty = subst (λ (o : Option (ℕ × Reply)). IfSome o (λ q. q.1 ≡ Empty)) (ap (λ (a : ProblemCall Op Reply). a.returned) one ∙ back) finds in
      cc

  -- a pop that returned with an item finds it on top
  pub pops_top : (items : List ℤ) (m : ObjState) (j : ℕ) (v : ℤ) → Popped p j v → next p (Stack items) j ≡ Some m → (rest : List ℤ) × (items ≡ v ∷ rest) × (m ≡ Stack rest)
  pops_top items m j v popped step = elim (call_moves items m j step) [
    | inl put ↦ absurd (push_is_no_pop j put.0 put.1 popped.0 popped.1 popped.2)
    | inr (inl take) ↦ (take.1, take.3 ∙ ap (λ (w : ℤ). w ∷ take.1) (sym (popped_reply j v take.0 popped take.2)), take.4)
    | inr (inr none) ↦ absurd (not_empty_pop j v popped none.1)
  ]

  abbrev pub NeverThere : ℤ → List ℕ → ObjState → Type 0
  NeverThere v l t = (end : List ℤ) × (t ≡ Stack end) × (Item v end → ⊥) × ((j : ℕ) → In j l → Popped p j v → ⊥)

  -- an item that is not there, and is not pushed, is not there later, and no call pops it
  pub never_there : (v : ℤ) (l : List ℕ) (items : List ℤ) (t : ObjState) → Legal p (Stack items) l t → (Item v items → ⊥) → ((d : ℕ) → In d l → Pushes p d v → ⊥) → NeverThere v l t
  never_there v [] items t e none pushed = (items, sym e, none, λ j h. absurd h)
  never_there v (c ∷ cs) items t (m, step, more) none pushed =
      let left : (rest : List ℤ) × (m ≡ Stack rest) × (Item v rest → ⊥) = elim (call_moves items m c step) [
        | inl put ↦ (put.0 ∷ items, put.2, λ h. elim h [ inl e ↦ pushed c (inl refl) (subst (λ (w : ℤ). Pushes p c w) (sym e) put.1) | inr q ↦ none q ])
        | inr (inl take) ↦ (take.1, take.4, λ h. none (subst (λ (l : List ℤ). Item v l) (sym take.3) (inr h)))
        | inr (inr empty) ↦ ([], empty.2, λ h. absurd h)
      ] in
      let later = never_there v cs left.0 t (subst (λ (s : ObjState). Legal p s cs t) left.1 more) left.2 (λ d h. pushed d (inr h)) in (
        later.0,
        later.1,
        later.2,
        λ j h popped. elim h [
          | inl e ↦ (let top = pops_top items m c v (subst (λ (n : ℕ). Popped p n v) e popped) step in none (subst (λ (l : List ℤ). Item v l) (sym top.1) (inl refl)))
          | inr q ↦ later.3 j q popped
        ],
      )

  -- while the item lies there, and it is pushed no more, no call pops it
  none_between : (v : ℤ) (below : List ℤ) (l : List ℕ) (above end : List ℤ) → LeavesBelow p (v ∷ below) above l end → (Item v above → ⊥) → ((d : ℕ) → In d l → Pushes p d v → ⊥) → (j : ℕ) → In j l → Popped p j v → ⊥
  none_between v below [] above end e none pushed j h popped = h
  none_between v below (c ∷ cs) above end (mid, step, more) none pushed j h popped = elim h [
    | inl e ↦ first above none (pops_top (above ++ v ∷ below) (Stack (mid ++ v ∷ below)) c v (subst (λ (n : ℕ). Popped p n v) e popped) step)
    | inr q ↦ none_between v below cs mid end more still (λ d k. pushed d (inr k)) j q popped
  ]
    where
      still : Item v mid → ⊥
      still k = elim (call_moves (above ++ v ∷ below) (Stack (mid ++ v ∷ below)) c step) [
        | inl put ↦ elim (subst (λ (l : List ℤ). Item v l) (put_on (v ∷ below) mid above put.0 (inside_stack (mid ++ v ∷ below) (put.0 ∷ (above ++ v ∷ below)) put.2)) k) [
          | inl e ↦ pushed c (inl refl) (subst (λ (w : ℤ). Pushes p c w) (sym e) put.1)
          | inr q ↦ none q
        ]
        | inr (inl take) ↦ none (subst (λ (l : List ℤ). Item v l) (sym (taken_off (v ∷ below) mid above take.0 take.1 take.3 (inside_stack (mid ++ v ∷ below) take.1 take.4))) (inr k))
        | inr (inr empty) ↦ not_empty above v below empty.0
      ]

      first : (above : List ℤ) → (Item v above → ⊥) → (rest : List ℤ) × (above ++ v ∷ below ≡ v ∷ rest) × (Stack (mid ++ v ∷ below) ≡ Stack rest) → ⊥
      first [] none (rest, e, f) = not_within mid v [] below (let g = inside_stack (mid ++ v ∷ below) rest f in cc)
      first (x ∷ above) none (rest, e, f) = none (inl (cc))

  -- what comes after a run goes on from the state that the run ends in
  pub legal_rest : (xs ys : List ℕ) (s t u : ObjState) → Legal p s (xs ++ ys) u → Legal p s xs t → Legal p t ys u
  legal_rest [] ys s t u k l = subst (λ (x : ObjState). Legal p x ys u) l k
  legal_rest (x ∷ xs) ys s t u k l = legal_rest xs ys l.0 t u (subst (λ (m : ObjState). Legal p m (xs ++ ys) u) (let a = k.1 in let b = l.1 in cc) k.2) l.2

  -- only the call that pops the item of c returns with it, where it is not there before and c alone pushes it
  pub one_popper : (items : List ℤ) (early : List ℕ) (c : ℕ) (mid : List ℕ) (i : ℕ) (late : List ℕ) (t : ObjState) → IsPoppedBy p (Stack items) early c mid i → IsDistinct (early ++ c ∷ (mid ++ i ∷ late)) → Legal p (Stack items) (early ++ c ∷ (mid ++ i ∷ late)) t → (v : ℤ) → Pushes p c v → ((d : ℕ) → In d (early ++ c ∷ (mid ++ i ∷ late)) → Pushes p d v → d ≡ c) → (Item v items → ⊥) → (j : ℕ) → In j (early ++ c ∷ (mid ++ i ∷ late)) → Popped p j v → j ≡ i
  one_popper items early c mid i late t k distinct legal v pushes only none j there popped =
      elim (in_either j early (c ∷ (mid ++ i ∷ late)) there) [
        | inl q ↦ absurd (before.3 j q popped)
        | inr (inl e) ↦ absurd (push_is_no_pop c v pushes popped.0 (subst (λ (n : ℕ). slice_get p.calls n ≡ Some popped.0) e popped.1) popped.2)
        | inr (inr q) ↦ elim (in_either j mid (i ∷ late) q) [
          | inl r ↦ absurd (none_between v k.below mid [] [] stays (λ h. h) (λ d h put. behind d (in_early d mid (i ∷ late) h) put) j r popped)
          | inr (inl e) ↦ e
          | inr (inr r) ↦ absurd (after_it.3 j r popped)
        ]
      ]
    where
      item : k.item ≡ v
      item = one_item c k.item v k.pushes pushes

      stays : LeavesBelow p (v ∷ k.below) [] mid []
      stays = subst (λ (w : ℤ). LeavesBelow p (w ∷ k.below) [] mid []) item k.popped.stays

      behind : (d : ℕ) → In d (mid ++ i ∷ late) → Pushes p d v → ⊥
      behind d h put =
          let one : d ≡ c = only d (in_late d early (c ∷ (mid ++ i ∷ late)) (inr h)) put in
          (distinct_late early (c ∷ (mid ++ i ∷ late)) distinct).0 (subst (λ (n : ℕ). In n (mid ++ i ∷ late)) one h)

      in_front : (d : ℕ) → In d early → Pushes p d v → ⊥
      in_front d h put =
          let one : d ≡ c = only d (in_early d early (c ∷ (mid ++ i ∷ late)) h) put in
          not_in_front early c (mid ++ i ∷ late) distinct (subst (λ (n : ℕ). In n early) one h)

      before : NeverThere v early (Stack k.below)
      before = never_there v early items (Stack k.below) k.so_far none in_front

      rest : Legal p (Stack k.below) late t
      rest =
          let one = legal_rest early (c ∷ (mid ++ i ∷ late)) (Stack items) (Stack k.below) t legal k.so_far in
          let two = legal_rest (c ∷ []) (mid ++ i ∷ late) (Stack k.below) (Stack (k.item ∷ k.below)) t one (Stack (k.item ∷ k.below), k.step, refl) in
          let three = legal_rest mid (i ∷ late) (Stack (k.item ∷ k.below)) (Stack (k.item ∷ k.below)) t two (leaves_legal (k.item ∷ k.below) mid [] [] k.popped.stays) in
          legal_rest (i ∷ []) late (Stack (k.item ∷ k.below)) (Stack k.below) t three (Stack k.below, k.popped.step, refl)

      after_it : NeverThere v late t
      after_it = never_there v late k.below t rest (λ h. before.2 (subst (λ (l : List ℤ). Item v l) (inside_stack k.below before.0 before.1) h)) (λ d h put. behind d (in_late d mid (i ∷ late) (inr h)) put)

  -- ---- by which call the top was pushed

  -- the top lay there, and stays
  abbrev LayThere : List ℤ → List ℕ → ℤ → List ℤ → Type 0
  LayThere items l w rest = (front : List ℤ) × (items ≡ front ++ w ∷ rest) × LeavesBelow p (w ∷ rest) front l []

  -- the top was pushed by a call of the list, and stays
  pub record WasPushed (items : List ℤ) (l : List ℕ) (w : ℤ) (rest : List ℤ) : Type 0 where
    pub before : List ℕ
    pub d : ℕ
    pub mid : List ℕ
    pub place : l ≡ before ++ d ∷ mid
    pub pushes : Pushes p d w
    pub so_far : Legal p (Stack items) before (Stack rest)
    pub step : next p (Stack rest) d ≡ Some (Stack (w ∷ rest))
    pub stays : LeavesBelow p (w ∷ rest) [] mid []

  pub top_of : (l : List ℕ) (items : List ℤ) (w : ℤ) (rest : List ℤ) → Legal p (Stack items) l (Stack (w ∷ rest)) → LayThere items l w rest ⊎ WasPushed items l w rest
  top_of [] items w rest e = inl ([], inside_stack items (w ∷ rest) e, refl)
  top_of (c ∷ cs) items w rest (m, step, more) = elim (call_moves items m c step) [
    | inl put ↦ elim (top_of cs (put.0 ∷ items) w rest (subst (λ (s : ObjState). Legal p s cs (Stack (w ∷ rest))) put.2 more)) [
      | inl lay ↦ on_it put.0 put.1 (step ∙ ap Some put.2) lay.0 lay.1 lay.2
      | inr was ↦ inr (later m step (put.0 ∷ items) put.2 was)
    ]
    | inr (inl take) ↦ elim (top_of cs take.1 w rest (subst (λ (s : ObjState). Legal p s cs (Stack (w ∷ rest))) take.4 more)) [
      | inl lay ↦ (
          let whole : items ≡ take.0 ∷ (lay.0 ++ w ∷ rest) = take.3 ∙ ap (λ (l : List ℤ). take.0 ∷ l) lay.1 in
          inl (take.0 ∷ lay.0, whole, (lay.0, subst (λ (l : List ℤ). next p (Stack l) c ≡ Some (Stack (lay.0 ++ w ∷ rest))) whole (step ∙ ap Some (take.4 ∙ ap Stack lay.1)), lay.2)))
      | inr was ↦ inr (later m step take.1 take.4 was)
    ]
    | inr (inr none) ↦ elim (top_of cs [] w rest (subst (λ (s : ObjState). Legal p s cs (Stack (w ∷ rest))) none.2 more)) [
      | inl lay ↦ absurd (not_empty lay.0 w rest (sym lay.1))
      | inr was ↦ inr (later m step [] none.2 was)
    ]
  ]
    where
      later : (m : ObjState) → next p (Stack items) c ≡ Some m → (left : List ℤ) → m ≡ Stack left → WasPushed left cs w rest → WasPushed items (c ∷ cs) w rest
      later m step left e was = record {
        before = c ∷ was.before;
        d = was.d;
        mid = was.mid;
        place = ap (λ (l : List ℕ). c ∷ l) was.place;
        pushes = was.pushes;
        so_far = (Stack left, step ∙ ap Some e, was.so_far);
        step = was.step;
        stays = was.stays;
      }

      on_it : (u : ℤ) → Pushes p c u → next p (Stack items) c ≡ Some (Stack (u ∷ items)) → (front : List ℤ) → u ∷ items ≡ front ++ w ∷ rest → LeavesBelow p (w ∷ rest) front cs [] → LayThere items (c ∷ cs) w rest ⊎ WasPushed items (c ∷ cs) w rest
      on_it u pushes step [] e leaves =
          let same : u ≡ w = cc in
          let left : items ≡ rest = cc in
          inr (record {
            before = [];
            d = c;
            mid = cs;
            place = refl;
            pushes = subst (λ (x : ℤ). Pushes p c x) same pushes;
            so_far = ap Stack left;
            step = subst (λ (l : List ℤ). next p (Stack l) c ≡ Some (Stack (w ∷ l))) left (subst (λ (x : ℤ). next p (Stack items) c ≡ Some (Stack (x ∷ items))) same step);
            stays = leaves;
          })
      on_it u pushes step (x ∷ front) e leaves =
          let same : u ≡ x = cc in
          let left : items ≡ front ++ w ∷ rest = cc in
          inl (front, left, (x ∷ front, subst (λ (l : List ℤ). next p (Stack l) c ≡ Some (Stack (x ∷ l))) left (subst (λ (y : ℤ). next p (Stack items) c ≡ Some (Stack (y ∷ items))) same step), leaves))
