-- Calls that leave a queue too few dequeues begin no completion: each of the items that must go before a call is made is taken by a
-- pending dequeue of its own.
use Rattle.std.proofs.Common.{◌≡◌, ◌≢◌, ℕ, zero, suc, ◌+◌, ◌<◌, ◌≤◌, Bool, true, false, Option, Some, None, Result, Ok, Err, List, [], ◌∷◌, ◌++◌, length, ◌⊎◌, inl, inr, refl, sym, ◌∙◌, ap, subst, append_assoc, append-nil, arith}
use Rattle.std.specs.Prelude.{ℤ, slice_get, IfSome, IfOk, IsTrue, nat_lt, nat_le, not, ◌&&◌}
use Rattle.std.specs.Ordering.{int_eq}
use Rattle.std.proofs.lemmas.Bool.{ltb-true}
use Rattle.std.proofs.lemmas.Bool.Decides.{eqb_tells, leb_tells}
use Rattle.std.specs.Cmp.{signed_Decides}
use Rattle.lin_object.specs.Items.{is_in}
use Rattle.lin_object.specs.Kinds.Queue.{queue_step, put_in_by, taken_out_by}
use Rattle.lin_object.specs.declared.op.Op.{Op}
use Rattle.lin_object.specs.declared.reply.Reply.{Reply}
use Rattle.lin_object.specs.declared.reply.Reply.TheVariants.{Okay, Int, Flag, Empty}
use Rattle.lin_object.specs.declared.state.ObjState.{ObjState}
use Rattle.lin_object.specs.declared.state.ObjState.TheVariants.{Queue}
use Rattle.lin_history.specs.declared.problems.problem.ProblemCall.{ProblemCall}
use Rattle.lin_history.specs.Problems.Problem.{Problem}
use Rattle.lin_history.specs.Problems.Lists.{In, IsDistinct}
use Rattle.lin_history.specs.Problems.ListLemmas.{distinct_early, in_early, in_late, in_place}
use Rattle.lin_history.specs.Problems.LegalLists.{next, Legal}
use Rattle.lin_history.specs.Problems.Precedence.{Before}
use Rattle.lin_history.specs.Problems.Continuations.{has, IsCompletion}
use Rattle.lin_search.specs.NextCall.{IsNext}
use Rattle.lin_ahead.specs.First.FirstProgress.{BeginsNone}
use Rattle.lin_ahead.specs.Items.ItemCalls.{goes_in_once, nothing_told, told}
use Rattle.lin_ahead.proofs.items.ToldLemmas.{one_alone, taken_by}
use Rattle.lin_ahead.specs.Queues.Queue.{Item, IsOfQueue, OnlyPuts}
use Rattle.lin_laws.specs.Items.{Puts, Took}
use Rattle.lin_ahead.specs.Items.Takers.{queue_of, AreApart, is_left, is_left_by, left_from, IsLost, IsTakerLeft, AreFewer, GoesBefore, AreLostBefore, AreTooFew, FindsGone, LacksTakers}
use Rattle.lin_laws.specs.Counting.{counted}
use Rattle.lin_ahead.specs.Queues.ToldOfQueue.{takers_from, IsTaker}
use Rattle.lin_ahead.specs.Items.Late.{ReturnsOutside}
use Rattle.lin_ahead.proofs.queues.AheadLemmas.{every_taker}
use Rattle.lin_laws.specs.AnswerLemmas.{Is}
use Rattle.lin_ahead.proofs.queues.QueueLemmas.{Item_early, Item_late, Item_either, item_split, QueueStep, queue_leaves, queue_answered, queue_empty, stepped, has_call, only_dequeues, fits_recorded, puts_by, puts, chain, put_place, put_there, legal_split, replied, took_completed}
use Rattle.lin_ahead.proofs.first.PlaceLemmas.{not_in_front}

-- ---- lists

-- without one item there is at most one less
pub record Less (x : ℤ) (vs : List ℤ) : Type 0 where
  pub left : List ℤ
  pub apart : AreApart left
  pub within : (v : ℤ) → Item v left → Item v vs × (v ≢ x)
  pub few : length vs ≤ suc (length left)

item_decided : (v x : ℤ) → (v ≡ x) ⊎ (v ≢ x)
item_decided v x = go (int_eq v x) refl
  where
    go : (b : Bool) → int_eq v x ≡ b → (v ≡ x) ⊎ (v ≢ x)
    go true e = inl ((signed_Decides v x).0 e)
    go false e = inr (λ same. let f = (signed_Decides v x).1 same in cc)

pub without_one : (x : ℤ) (vs : List ℤ) → AreApart vs → Less x vs
without_one x [] apart = record { left = []; apart = tt; within = λ v h. absurd h; few = omega arith }
without_one x (v ∷ vs) apart = go (item_decided v x) (without_one x vs apart.1)
  where
    go : (v ≡ x) ⊎ (v ≢ x) → Less x vs → Less x (v ∷ vs)
    go (inl same) rest = record {
      left = vs;
      apart = apart.1;
      within = λ w h. (inr h, λ e. apart.0 (subst (λ (u : ℤ). Item u vs) (e ∙ sym same) h));
      few = omega arith;
    }
    go (inr other) rest = record {
      left = v ∷ rest.left;
      apart = ((λ h. apart.0 (rest.within v h).0), rest.apart);
      within = λ w h. elim h [ inl e ↦ (inl e, λ f. other (sym e ∙ f)) | inr more ↦ (let k = rest.within w more in (inr k.0, k.1)) ];
      few = (let k = rest.few in omega (arith, k));
    }

-- one item more
pub apart_more : (vs : List ℤ) (x : ℤ) → AreApart vs → (Item x vs → ⊥) → AreApart (vs ++ x ∷ [])
apart_more [] x apart new = ((λ h. h), tt)
apart_more (v ∷ vs) x apart new = ((λ h. elim (Item_either v vs (x ∷ []) h) [ inl q ↦ apart.0 q | inr (inl e) ↦ new (inl (sym e)) | inr (inr q) ↦ q ]), apart_more vs x apart.1 (λ h. new (inr h)))

-- what the test says
pub among_true : (v : ℤ) (vs : List ℤ) → is_in v vs ≡ true → Item v vs
among_true v [] e = absurd (cc)
among_true v (w ∷ vs) e = go (int_eq w v) refl e (among_true v vs)
  where
    go : (b : Bool) → int_eq w v ≡ b → is_in v (w ∷ vs) ≡ true → (is_in v vs ≡ true → Item v vs) → Item v (w ∷ vs)
    go true f g more = inl (sym ((signed_Decides w v).0 f))
    go false f g more = inr (more (rw f at g))

pub among_false : (v : ℤ) (vs : List ℤ) → is_in v vs ≡ false → Item v vs → ⊥
among_false v [] e h = h
among_false v (w ∷ vs) e h = go (int_eq w v) refl e h (among_false v vs)
  where
    go : (b : Bool) → int_eq w v ≡ b → is_in v (w ∷ vs) ≡ false → Item v (w ∷ vs) → (is_in v vs ≡ false → Item v vs → ⊥) → ⊥
    go true f g k more = (let x = rw f at g in cc)
    go false f g k more = elim k [
      | inl same ↦ (let x = (signed_Decides w v).1 (sym same) in cc)
      | inr there ↦ more (rw f at g) there
    ]

-- without one call there is at most one less
pub record LessCalls (x : ℕ) (ts : List ℕ) : Type 0 where
  pub left : List ℕ
  pub distinct : IsDistinct left
  pub within : (d : ℕ) → In d left → In d ts × (d ≢ x)
  pub few : length ts ≤ suc (length left)

call_decided : (c d : ℕ) → (c ≡ d) ⊎ (c ≢ d)
call_decided c d = elim (eqb_tells c d) [ inl k ↦ inl k.1 | inr k ↦ inr (λ e. let no = k.1 in no e) ]

pub without_call : (x : ℕ) (ts : List ℕ) → IsDistinct ts → LessCalls x ts
without_call x [] distinct = record { left = []; distinct = tt; within = λ d h. absurd h; few = omega arith }
without_call x (t ∷ ts) distinct = go (call_decided t x) (without_call x ts distinct.1)
  where
    go : (t ≡ x) ⊎ (t ≢ x) → LessCalls x ts → LessCalls x (t ∷ ts)
    go (inl same) rest = record {
      left = ts;
      distinct = distinct.1;
      within = λ d h. (inr h, λ e. distinct.0 (subst (λ (u : ℕ). In u ts) (e ∙ sym same) h));
      few = omega arith;
    }
    go (inr other) rest = record {
      left = t ∷ rest.left;
      distinct = ((λ h. distinct.0 (rest.within t h).0), rest.distinct);
      within = λ d h. elim h [ inl e ↦ (inl e, λ f. other (sym e ∙ f)) | inr more ↦ (let k = rest.within d more in (inr k.0, k.1)) ];
      few = (let k = rest.few in omega (arith, k));
    }

in_at : (l : List ℕ) (i c : ℕ) → slice_get l i ≡ Some c → In c l
in_at [] i c e = absurd (cc)
in_at (x ∷ xs) zero c e = inl (let h : x ≡ c = cc in sym h)
in_at (x ∷ xs) (suc i) c e = inr (in_at xs i c e)

-- a call that is neither in the set nor call c is left
pub left_is : (set : List Bool) (c d : ℕ) → has set d ≡ false → (d ≢ c) → is_left set c d ≡ true
left_is set c d out other = elim (eqb_tells d c) [
  | inl k ↦ absurd (other k.1)
  | inr k ↦ rw (k.0, out) refl
]

pub left_tells : (set : List Bool) (c d : ℕ) → is_left set c d ≡ true → (has set d ≡ false) × (d ≢ c)
left_tells set c d left = elim (eqb_tells d c) [
  | inl k ↦ absurd (let x = rw k.0 at left in cc)
  | inr k ↦ (go (has set d) refl (rw k.0 at left), k.1)
]
  where
    go : (b : Bool) → has set d ≡ b → not (has set d) ≡ true → has set d ≡ false
    go true e f = absurd (let x = rw e at f in cc)
    go false e f = e

pub both_true : {a b : Bool} → a ≡ true → b ≡ true → (a && b) ≡ true
both_true e f = rw (e, f) refl

-- a call that returned at an event returned before one that was called after that
returned_before : (p : Problem ObjState Op Reply) (z d m : ℕ) (y : ProblemCall Op Reply) → (x : ProblemCall Op Reply) × (slice_get p.calls z ≡ Some x) × ((r : Reply) × (x.returned ≡ Some (m, r))) → slice_get p.calls d ≡ Some y → m < y.called → Before p z d
returned_before p z d m y (x, there, (r, back)) here less = rw (there, back, here) less

-- ---- how many takers are left

module _ (p : Problem ObjState Op Reply) (set : List Bool) (c : ℕ) where
  -- different calls of the list that are left are at most as many as are counted
  within_left : (n : ℕ) (ds : List ℕ) (count : ℕ) (ts : List ℕ) → IsDistinct ts → ((d : ℕ) → In d ts → In d ds × (is_left_by p set c n d ≡ true)) → length ts + count ≤ left_from p set c n count ds
  within_left n [] count [] distinct h = omega arith
  within_left n [] count (t ∷ ts) distinct h = absurd (h t (inl refl)).0
  within_left n (d ∷ ds) count ts distinct h = go (is_left_by p set c n d) refl (λ count' ts' distinct' h'. within_left n ds count' ts' distinct' h')
    where
      go : (b : Bool) → is_left_by p set c n d ≡ b → ((count' : ℕ) (ts' : List ℕ) → IsDistinct ts' → ((e : ℕ) → In e ts' → In e ds × (is_left_by p set c n e ≡ true)) → length ts' + count' ≤ left_from p set c n count' ds) → length ts + count ≤ left_from p set c n (counted (is_left_by p set c n d) count) ds
      go true is more =
          let less = without_call d ts distinct in
          let k = more (count + 1) less.left less.distinct (λ e i. (let w = less.within e i in let q = h e w.0 in (elim q.0 [ inl same ↦ absurd (w.1 same) | inr there ↦ there ], q.1))) in
          let few = less.few in
          rw is (omega (arith, k, few))
      go false is more =
          let k = more count ts distinct (λ e i. (let q = h e i in (elim q.0 [ inl same ↦ absurd (let x = subst (λ (u : ℕ). is_left_by p set c n u ≡ true) same q.1 in cc) | inr there ↦ there ], q.1))) in
          rw is k

  -- so there are fewer takers left than what is more than their count
  pub are_fewer : (n k : ℕ) (takers : List ℕ) → takers ≡ takers_from 0 p.calls → left_from p set c n 0 takers < k → AreFewer p set c n k
  are_fewer n k takers all less ts distinct h =
      let q = within_left n takers 0 ts distinct (λ d i. (let w = h d i in let at = every_taker p d w.0 in (in_at takers at.0 d (ap (λ (l : List ℕ). slice_get l at.0) all ∙ at.1), w.1))) in
      omega (arith, q, less)

-- ---- what the tests say

-- an item that is among others, as a number handed on
pub among_value : (v w : ℤ) (vs : List ℤ) (b : Bool) → b ≡ is_in w vs → b ≡ true → w ≡ v → Item v vs
among_value v w vs b e f same = subst (λ (u : ℤ). Item u vs) same (among_true w vs (sym e ∙ f))

-- an item that no call is told to have taken
pub lost_is : (p : Problem ObjState Op Reply) (v : ℤ) → (told p.calls v).taken ≡ false → IsLost p v
lost_is p v none j took =
    let k : (told p.calls v).taken ≡ true = taken_by nothing_told p.calls v j took.0 took.3.0 took.1 (took.2, took.3.1) in
    cc

-- an item that one call alone puts in
pub once_is : (p : Problem ObjState Op Reply) (v : ℤ) → goes_in_once (told p.calls v).putters ≡ true → (a : ℕ) → Puts p a v → OnlyPuts p a v
once_is p v once a put d other = one_alone nothing_told p.calls v refl once d a other put

-- a call that returned with what another alone puts in
pub finds_is : (p : Problem ObjState Op Reply) (items : List ℤ) (a z : ℕ) (v w u : ℤ) (b : Bool) → Puts p a v → Took p z w → w ≡ v → u ≡ v → b ≡ is_in u items → b ≡ false → goes_in_once (told p.calls u).putters ≡ true → FindsGone p items a z
finds_is p items a z v w u b put took one same there none once =
    let put' = subst (λ (x : ℤ). Puts p a x) (sym same) put in
    let took' = subst (λ (x : ℤ). Took p z x) (one ∙ sym same) took in
    inr (u, took', put', once_is p u once a put', among_false u items (sym there ∙ none))

-- fewer takers are left than that
pub few_is : (p : Problem ObjState Op Reply) (set : List Bool) (c n : ℕ) (takers slice : List ℕ) (count len : ℕ) (vs : List ℤ) → takers ≡ takers_from 0 p.calls → slice ≡ takers → count ≡ left_from p set c n 0 slice → len ≡ length vs → nat_lt count len ≡ true → AreFewer p set c n (length vs)
few_is p set c n takers slice count len vs all same counted_is len_is less =
    let q = ltb-true count len less in
    are_fewer p set c n (length vs) slice (same ∙ all) (let d = counted_is in let e = len_is in omega (arith, q, d, e))

-- a call that is left finds gone what the deadline says
pub lacks_is : {E : Type 0} (calls : List (ProblemCall Op Reply)) (p : Problem ObjState Op Reply) (set : List Bool) (c : ℕ) (items : List ℤ) (a z m : ℕ) → calls ≡ p.calls → ReturnsOutside p set z m → (z ≢ c) → FindsGone (queue_of calls) items a z → (result : Result Bool E) → IfOk result (λ few. IsTrue few → AreTooFew (queue_of calls) set c items a m) → IfOk result (λ lacks. IsTrue lacks → LacksTakers p set c items)
lacks_is calls p set c items a z m same returns other finds (Ok few) h =
    λ yes. (let both = subst (λ (l : List (ProblemCall Op Reply)). FindsGone (queue_of l) items a z × AreTooFew (queue_of l) set c items a m) same (finds, h yes) in (a, z, m, returns, other, both.0, both.1))
lacks_is calls p set c items a z m same returns other finds (Err e) h = tt

-- one lost item more
pub more_lost : (p : Problem ObjState Op Reply) (set : List Bool) (c : ℕ) (items : List ℤ) (a : ℕ) (vs new : List ℤ) (v w : ℤ) (b : Bool) → AreLostBefore p set c items a vs → new ≡ vs ++ w ∷ [] → b ≡ is_in w vs → b ≡ false → w ≡ v → IsLost p v → GoesBefore p set c items a w → AreLostBefore p set c items a new
more_lost p set c items a vs new v w b so_far more' test among' same lost goes' =
    let goes = subst (λ (x : ℤ). GoesBefore p set c items a x) same goes' in
    let more : new ≡ vs ++ v ∷ [] = more' ∙ ap (λ (x : ℤ). vs ++ x ∷ []) same in
    let among : is_in v vs ≡ false = ap (λ (x : ℤ). is_in x vs) (sym same) ∙ sym test ∙ among' in
    subst (λ (l : List ℤ). AreLostBefore p set c items a l) (sym more) (
      apart_more vs v so_far.0 (among_false v vs among),
      λ w h. elim (Item_either w vs (v ∷ []) h) [
        | inl q ↦ so_far.1 w q
        | inr (inl e) ↦ subst (λ (u : ℤ). IsLost p u × GoesBefore p set c items a u) (sym e) (lost, goes)
        | inr (inr q) ↦ absurd q
      ],
    )

-- ---- what stands in front of a call of a completion

module _ (p : Problem ObjState Op Reply) (set : List Bool) (s : ObjState) (c : ℕ) (cs : List ℕ) (h : IsCompletion p set s (c ∷ cs)) where
  -- what returned before a call of the completion and is left stands in front of it
  pub in_front : (early : List ℕ) (d : ℕ) (late : List ℕ) → cs ≡ early ++ d ∷ late → (b : ℕ) → is_left set c b ≡ true → Before p b d → In b early
  in_front early d late place b left before =
      let out = left_tells set c b left in
      elim (h.continuation.ordered (c ∷ early) d late (ap (λ (l : List ℕ). c ∷ l) place) b before) [
        | inl q ↦ absurd (let e = out.0 in cc)
        | inr (inl e) ↦ absurd (out.1 e)
        | inr (inr q) ↦ q
      ]

  module _ (mid : List ℕ) (z : ℕ) (late : List ℕ) (m : ℕ) (place : cs ≡ mid ++ z ∷ late) (returns : ReturnsOutside p set z m) where
    z_there : In z cs
    z_there = subst (λ (l : List ℕ). In z l) (sym place) (in_late z mid (z ∷ late) (inl refl))

    pub distinct : IsDistinct (mid ++ z ∷ late)
    distinct = subst IsDistinct place h.continuation.distinct.1

    -- a call in front of it was not called after it returned
    not_after : (d : ℕ) → In d mid → Before p z d → ⊥
    not_after d there before =
        let at = in_place d mid there in
        let shape : cs ≡ at.0 ++ d ∷ (at.1 ++ z ∷ late) = place ∙ ap (λ (l : List ℕ). l ++ z ∷ late) at.2 ∙ append_assoc at.0 (d ∷ at.1) (z ∷ late) in
        elim (h.continuation.ordered (c ∷ at.0) d (at.1 ++ z ∷ late) (ap (λ (l : List ℕ). c ∷ l) shape) z before) [
          | inl q ↦ (let e = returns.0 in cc)
          | inr (inl e) ↦ h.continuation.distinct.0 (subst (λ (n : ℕ). In n cs) e z_there)
          | inr (inr q) ↦ not_in_front mid z late distinct (subst (λ (l : List ℕ). In z l) (sym at.2) (in_early z at.0 (d ∷ at.1) q))
        ]

    pub outside : (d : ℕ) → In d mid → is_left set c d ≡ true
    outside d there =
        let d_there : In d cs = subst (λ (l : List ℕ). In d l) (sym place) (in_early d mid (z ∷ late) there) in
        left_is set c d (h.continuation.outside d (inr d_there)) (λ e. h.continuation.distinct.0 (subst (λ (n : ℕ). In n cs) e d_there))

    -- a call in front of it was called by its return
    pub called : (d : ℕ) → In d mid → (y : ProblemCall Op Reply) → slice_get p.calls d ≡ Some y → nat_le y.called m ≡ true
    called d there y here = elim (leb_tells y.called m) [
      | inl k ↦ k.0
      | inr k ↦ absurd (not_after d there (returned_before p z d m y returns.1 here (let less = k.1 in omega (arith, less))))
    ]

-- ---- what is taken, and by whom

module _ {p : Problem ObjState Op Reply} {start : List ℤ} (of_queue : IsOfQueue p start) where
  -- what came out and then what is left is what went in; and of what came out each lost item was taken by a pending dequeue of its own
  record Taking (items : List ℤ) (l : List ℕ) (t : ObjState) : Type 0 where
    took : List ℤ
    rest : List ℤ
    ends : t ≡ Queue rest
    same : items ++ puts of_queue l ≡ took ++ rest
    takers : List ℕ
    distinct : IsDistinct l → IsDistinct takers
    pending : (d : ℕ) → In d takers → In d l × IsTaker p d
    enough : (vs : List ℤ) → AreApart vs → ((v : ℤ) → Item v vs → IsLost p v × Item v took) → length vs ≤ length takers

  none_taken_yet : (vs : List ℤ) → ((v : ℤ) → Item v vs → IsLost p v × Item v []) → length vs ≤ 0
  none_taken_yet [] h = omega arith
  none_taken_yet (v ∷ vs) h = absurd (h v (inl refl)).1

  -- a step more, in front
  module _ (c : ℕ) (cs : List ℕ) (items : List ℤ) (t m : ObjState) (x : ProblemCall Op Reply) (r : Reply) (there : slice_get p.calls c ≡ Some x) (one : QueueStep items x.op m r) (later : Taking one.rest cs t) where
    all_same : items ++ puts of_queue (c ∷ cs) ≡ (taken_out_by x.op r ++ later.took) ++ later.rest
    all_same = rw (ap (puts_by of_queue) there) (chain of_queue items (put_in_by x.op) (puts of_queue cs) (taken_out_by x.op r) later.took later.rest one.rest one.same later.same)

    -- that took no lost item
    keeps : ((v : ℤ) → IsLost p v → Item v (taken_out_by x.op r) → ⊥) → Taking items (c ∷ cs) t
    keeps none = record {
      took = taken_out_by x.op r ++ later.took;
      rest = later.rest;
      ends = later.ends;
      same = all_same;
      takers = later.takers;
      distinct = λ d. later.distinct d.1;
      pending = λ d h. (let k = later.pending d h in (inr k.0, k.1));
      enough = λ vs apart h. later.enough vs apart (λ v i. (let k = h v i in (k.0, elim (Item_either v (taken_out_by x.op r) later.took k.1) [ inl q ↦ absurd (none v k.0 q) | inr q ↦ q ])));
    }

    -- of a taker, that took this item or none
    adds : (u : ℤ) → ((v : ℤ) → Item v (taken_out_by x.op r) → v ≡ u) → IsTaker p c → Taking items (c ∷ cs) t
    adds u only taker = record {
      took = taken_out_by x.op r ++ later.took;
      rest = later.rest;
      ends = later.ends;
      same = all_same;
      takers = c ∷ later.takers;
      distinct = λ d. ((λ h. d.0 (later.pending c h).0), later.distinct d.1);
      pending = λ d h. elim h [ inl e ↦ (inl e, subst (λ (n : ℕ). IsTaker p n) (sym e) taker) | inr more ↦ (let k = later.pending d more in (inr k.0, k.1)) ];
      enough = λ vs apart h. (
          let less = without_one u vs apart in
          let k = later.enough less.left less.apart (λ v i. (let w = less.within v i in let q = h v w.0 in (q.0, elim (Item_either v (taken_out_by x.op r) later.took q.1) [ inl y ↦ absurd (w.1 (only v y)) | inr y ↦ y ]))) in
          let few = less.few in
          omega (arith, k, few));
    }

    -- what a completed call takes is not lost
    completed_keeps : (q : ℕ × Reply) → x.returned ≡ Some q → q.1 ≡ r → Taking items (c ∷ cs) t
    completed_keeps q back same = keeps (λ v lost h. (let w = one.took v h in lost c (x, there, w.0, (q.0, back ∙ ap (λ (a : Reply). Some (q.0, a)) (same ∙ w.1)))))

    -- what a pending call takes
    pending_adds : Is (queue_step items x.op) m r → x.returned ≡ None → Taking items (c ∷ cs) t
    pending_adds step back = go r refl
      where
        no_item : ((v : ℤ) → r ≡ Int v → ⊥) → Taking items (c ∷ cs) t
        no_item none = keeps (λ v lost h. none v (one.took v h).1)

        go : (a : Reply) → r ≡ a → Taking items (c ∷ cs) t
        go (Int u) e = adds u (λ v h. (let w = (one.took v h).1 in cc)) (x, there, only_dequeues items x.op m u (subst (λ (a : Reply). Is (queue_step items x.op) m a) e step), back)
        go Okay e = no_item (λ v f. absurd (cc))
        go (Flag b) e = no_item (λ v f. absurd (cc))
        go Empty e = no_item (λ v f. absurd (cc))

    either_way : Is (queue_step items x.op) m r → IfSome x.returned (λ q. q.1 ≡ r) → Taking items (c ∷ cs) t
    either_way step recorded = go x.returned refl recorded
      where
        go : (o : Option (ℕ × Reply)) → x.returned ≡ o → IfSome o (λ q. q.1 ≡ r) → Taking items (c ∷ cs) t
        go None e h = pending_adds step e
        go (Some q) e h = completed_keeps q e h

  taking : (l : List ℕ) (items : List ℤ) (t : ObjState) → Legal p (Queue items) l t → Taking items l t
  taking [] items t e = record { took = []; rest = items; ends = sym e; same = append-nil items; takers = []; distinct = λ d. tt; pending = λ d h. absurd h; enough = λ vs apart h. none_taken_yet vs h }
  taking (c ∷ cs) items t (m, step, more) =
      let call = has_call of_queue (Queue items) m c step in
      let k = stepped of_queue items m c call.0 call.1 step in
      let one : QueueStep items call.0.op m k.0 = queue_leaves items call.0.op m k.0 k.1 in
      let later = taking cs one.rest t (subst (λ (s : ObjState). Legal p s cs t) one.ends more) in
      either_way c cs items t m call.0 k.0 call.1 one later k.1 (fits_recorded of_queue k.0 call.0.returned k.2)

  -- ---- a call that leaves too few takers

  module _ (set : List Bool) (s : ObjState) (c : ℕ) (items : List ℤ) (is_next : IsNext p set s c (Queue items)) (cs : List ℕ) (h : IsCompletion p set s (c ∷ cs)) where
    legal : Legal p (Queue items) cs h.continuation.legal.0
    legal = (let k = h.continuation.legal.1 in let f = is_next.step in let g = k.1 in subst (λ (u : ObjState). Legal p u cs h.continuation.legal.0) (let e : k.0 ≡ Queue items = cc in e) k.2)

    module _ (mid : List ℕ) (z : ℕ) (late : List ℕ) (m : ℕ) (place : cs ≡ mid ++ z ∷ late) (returns : ReturnsOutside p set z m) where
      -- a taker in front of it is left, and was called by its return
      called_taker : (d : ℕ) → In d mid → IsTaker p d → IsTakerLeft p set c m d
      called_taker d there taker = (
        taker,
        both_true (outside p set s c cs h mid z late m place returns d there) (rw taker.1 (called p set s c cs h mid z late m place returns d there taker.0 taker.1)),
      )

      too_few : (a : ℕ) → FindsGone p items a z → (vs : List ℤ) → AreLostBefore p set c items a vs → AreFewer p set c m (length vs) → ⊥
      too_few a finds vs lost fewer =
          let two = legal_split of_queue mid (z ∷ late) (Queue items) h.continuation.legal.0 (subst (λ (l : List ℕ). Legal p (Queue items) l h.continuation.legal.0) place legal) in
          let t = taking mid items two.0 two.1 in
          let goes : Legal p (Queue t.rest) (z ∷ late) h.continuation.legal.0 = subst (λ (u : ObjState). Legal p u (z ∷ late) h.continuation.legal.0) t.ends two.2 in
          let many = t.enough vs lost.0 (λ v i. (let k = lost.1 v i in (k.0, all_gone a finds t.took t.rest t.same goes.0 goes.1 v k.1))) in
          let few = fewer t.takers (t.distinct (distinct_early mid (z ∷ late) (distinct p set s c cs h mid z late m place returns))) (λ d i. (let k = t.pending d i in called_taker d k.0 k.1)) in
          omega (arith, many, few)
        where
          all_gone : (a : ℕ) → FindsGone p items a z → (took rest : List ℤ) → items ++ puts of_queue mid ≡ took ++ rest → (u : ObjState) → next p (Queue rest) z ≡ Some u → (v : ℤ) → GoesBefore p set c items a v → Item v took
          all_gone a (inl (same, none)) took rest all u step v goes =
              let empty = queue_empty rest u (replied of_queue rest u z none.0 none.3.0 Empty none.1 none.2 none.3.1 step) in
              let whole : items ++ puts of_queue mid ≡ took = all ∙ ap (λ (l : List ℤ). took ++ l) empty.0 ∙ append-nil took in
              subst (λ (l : List ℤ). Item v l) whole (elim goes [
                | inl i ↦ Item_early v items (puts of_queue mid) i
                | inr b ↦ Item_late v items (puts of_queue mid) (put_there of_queue mid b.0 v b.1 (in_front p set s c cs h mid z late place b.0 b.2 (subst (λ (n : ℕ). Before p b.0 n) same b.3)))
              ])
          all_gone a (inr (w, taken, put, only, not_yet)) took rest all u step v goes =
              let front = queue_answered rest u w (replied of_queue rest u z taken.0 taken.3.0 (Int w) taken.1 taken.2 taken.3.1 step) in
              elim (item_split items (puts of_queue mid) took w front.0 (all ∙ ap (λ (l : List ℤ). took ++ l) front.1)) [
                | inl q ↦ absurd (not_yet q)
                | inr q ↦ (
                    let x = put_place of_queue mid q.0 w front.0 q.2 in
                    let one : x.call ≡ a = only x.call x.put in
                    let shape : cs ≡ x.early ++ a ∷ (x.late ++ z ∷ late) =
                    place
                    ∙ ap (λ (l : List ℕ). l ++ z ∷ late) x.place
                    ∙ append_assoc x.early (x.call ∷ x.late) (z ∷ late)
                    ∙ ap (λ (n : ℕ). x.early ++ n ∷ (x.late ++ z ∷ late)) one in
                    subst (λ (l : List ℤ). Item v l) (sym q.1) (elim goes [
                      | inl i ↦ Item_early v items q.0 i
                      | inr b ↦ Item_late v items q.0 (subst (λ (l : List ℤ). Item v l) x.before (put_there of_queue x.early b.0 v b.1 (in_front p set s c cs h x.early a (x.late ++ z ∷ late) shape b.0 b.2 b.3)))
                    ]))
              ]

  -- no completion begins with the call
  pub lacks_begins_none : (set : List Bool) (s : ObjState) (c : ℕ) (items : List ℤ) → IsNext p set s c (Queue items) → LacksTakers p set c items → BeginsNone p set s c
  lacks_begins_none set s c items is_next (a, z, m, returns, other, finds, rest) cs h =
      elim (h.complete z (took_completed of_queue z returns.1.0 m returns.1.2.0 returns.1.1 returns.1.2.1)) [
        | inl q ↦ (let e = returns.0 in cc)
        | inr (inl e) ↦ other e
        | inr (inr there) ↦ (let at = in_place z cs there in too_few set s c items is_next cs h at.0 z at.1 m at.2 returns a finds rest.0 rest.1 rest.2)
      ]

  -- so it is, where it is known
  pub known_few : {E : Type 0} (set : List Bool) (s : ObjState) (c : ℕ) (t : ObjState) (items : List ℤ) → IsNext p set s c t → t ≡ Queue items → (result : Result Bool E) → IfOk result (λ lacks. IsTrue lacks → LacksTakers p set c items) → IfOk result (λ known. IsTrue known → BeginsNone p set s c)
  known_few set s c t items is_next is (Ok lacks) h = λ yes. lacks_begins_none set s c items (subst (λ (u : ObjState). IsNext p set s c u) is is_next) (h yes)
  known_few set s c t items is_next is (Err e) h = tt
