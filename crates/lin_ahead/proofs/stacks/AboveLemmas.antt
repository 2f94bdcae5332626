-- In a legal run of a stack an item that lies above another is popped before it.
use Rattle.std.proofs.Common.{◌≡◌, ℕ, Some, List, [], ◌∷◌, ◌++◌, ◌⊎◌, inl, inr, refl, sym, ◌∙◌, ap, subst, append_assoc}
use Rattle.std.specs.Prelude.{ℤ}
use Rattle.lin_object.specs.declared.op.Op.{Op}
use Rattle.lin_object.specs.declared.reply.Reply.{Reply}
use Rattle.lin_object.specs.declared.state.ObjState.{ObjState}
use Rattle.lin_object.specs.declared.state.ObjState.TheVariants.{Stack}
use Rattle.lin_history.specs.Problems.Problem.{Problem}
use Rattle.lin_history.specs.Problems.Lists.{In}
use Rattle.lin_history.specs.Problems.LegalLists.{next, Legal}
use Rattle.lin_laws.specs.Items.{Pushes}
use Rattle.lin_ahead.proofs.first.PlaceLemmas.{not_within, not_empty, put_on, taken_off}
use Rattle.lin_laws.specs.Exact.{IsExact}
use Rattle.lin_ahead.proofs.stacks.StackLemmas.{MayPop, LeavesBelow, IsPopped, IsPoppedBy, call_moves, after_push, inside_stack, leaves_legal}

module _ (p : Problem ObjState Op Reply) (exact : IsExact p) where
  -- ---- an item and those below it

  -- a step leaves the item where it lies, or pops it, where none lies above
  over : (above : List ℤ) (v : ℤ) (below : List ℤ) (m : ObjState) (c : ℕ) → next p (Stack (above ++ v ∷ below)) c ≡ Some m → ((mid : List ℤ) × (m ≡ Stack (mid ++ v ∷ below))) ⊎ ((above ≡ []) × MayPop p c v × (m ≡ Stack below))
  over above v below m c step = elim (call_moves p exact (above ++ v ∷ below) m c step) [
    | inl put ↦ inl (put.0 ∷ above, put.2)
    | inr (inl take) ↦ taken above take.0 take.1 take.2 take.3 take.4
    | inr (inr none) ↦ absurd (not_empty above v below none.0)
  ]
    where
      taken : (above : List ℤ) (w : ℤ) (rest : List ℤ) → MayPop p c w → above ++ v ∷ below ≡ w ∷ rest → m ≡ Stack rest → ((mid : List ℤ) × (m ≡ Stack (mid ++ v ∷ below))) ⊎ ((above ≡ []) × MayPop p c v × (m ≡ Stack below))
      taken [] w rest pops e f =
          let same : w ≡ v = cc in
          let left : rest ≡ below = cc in
          inr (refl, subst (λ (u : ℤ). MayPop p c u) same pops, f ∙ ap Stack left)
      taken (x ∷ above) w rest pops e f =
          let left : rest ≡ above ++ v ∷ below = cc in
          inl (above, f ∙ ap Stack left)

  -- the place of a list at which the item is popped
  abbrev pub PopPlace : List ℤ → ℤ → List ℤ → List ℕ → Type 0
  PopPlace above v below l = (early : List ℕ) × (j : ℕ) × (late : List ℕ) × (l ≡ early ++ j ∷ late) × IsPopped p above v below early j

  -- the item still lies there at the end
  abbrev pub LiesStill : List ℤ → ℤ → List ℤ → List ℕ → ObjState → Type 0
  LiesStill above v below l t = (end : List ℤ) × (t ≡ Stack (end ++ v ∷ below)) × LeavesBelow p (v ∷ below) above l end

  pub lies_or_popped : (l : List ℕ) (above : List ℤ) (v : ℤ) (below : List ℤ) (t : ObjState) → Legal p (Stack (above ++ v ∷ below)) l t → LiesStill above v below l t ⊎ PopPlace above v below l
  lies_or_popped [] above v below t e = inl (above, sym e, refl)
  lies_or_popped (c ∷ cs) above v below t (m, step, more) = elim (over above v below m c step) [
    | inl k ↦ elim (lies_or_popped cs k.0 v below t (subst (λ (s : ObjState). Legal p s cs t) k.1 more)) [
      | inl lies ↦ inl (lies.0, lies.1, (k.0, step ∙ ap Some k.1, lies.2))
      | inr at ↦ inr (c ∷ at.0, at.1, at.2, ap (λ (l : List ℕ). c ∷ l) at.3, record { stays = (k.0, step ∙ ap Some k.1, at.4.stays); pops = at.4.pops; step = at.4.step })
    ]
    | inr k ↦ inr (
      [],
      c,
      cs,
      refl,
      record {
        stays = k.0;
        pops = k.1;
        step = subst (λ (a : List ℤ). next p (Stack (a ++ v ∷ below)) c ≡ Some (Stack below)) k.0 (step ∙ ap Some k.2);
      },
    )
  ]

  leaves_split : (below : List ℤ) (xs ys : List ℕ) (above end : List ℤ) → LeavesBelow p below above (xs ++ ys) end → (mid : List ℤ) × LeavesBelow p below above xs mid × LeavesBelow p below mid ys end
  leaves_split below [] ys above end h = (above, refl, h)
  leaves_split below (x ∷ xs) ys above end (mid, step, more) = let k = leaves_split below xs ys mid end more in (k.0, (mid, step, k.1), k.2)

  -- the item is at some place
  abbrev pub HasItem : ℤ → List ℤ → Type 0
  HasItem w items = (front : List ℤ) × (rest : List ℤ) × (items ≡ front ++ w ∷ rest)

  abbrev pub PushedIn : ℤ → List ℕ → Type 0
  PushedIn w l = (d : ℕ) × In d l × Pushes p d w

  on_top : (c : ℕ) (cs : List ℕ) (u w : ℤ) (above front rest : List ℤ) → Pushes p c u → u ∷ above ≡ front ++ w ∷ rest → PushedIn w (c ∷ cs) ⊎ HasItem w above
  on_top c cs u w above [] rest pushes e = inl (c, inl refl, (let same : u ≡ w = cc in subst (λ (x : ℤ). Pushes p c x) same pushes))
  on_top c cs u w above (x ∷ front) rest pushes e = inr (front, rest, (cc))

  -- what lies above at the end lay there, or was pushed by one of the calls
  pub pushed_above : (below : List ℤ) (l : List ℕ) (above : List ℤ) (w : ℤ) (end : List ℤ) → LeavesBelow p below above l end → HasItem w end → PushedIn w l ⊎ HasItem w above
  pushed_above below [] above w end e has = inr (has.0, has.1, e ∙ has.2)
  pushed_above below (c ∷ cs) above w end (mid, step, more) has = elim (pushed_above below cs mid w end more has) [
    | inl k ↦ inl (k.0, inr k.1, k.2)
    | inr k ↦ elim (call_moves p exact (above ++ below) (Stack (mid ++ below)) c step) [
      | inl put ↦ on_top c cs put.0 w above k.0 k.1 put.1 (sym (put_on below mid above put.0 (inside_stack p exact (mid ++ below) (put.0 ∷ (above ++ below)) put.2)) ∙ k.2)
      | inr (inl take) ↦ inr (take.0 ∷ k.0, k.1, taken_off below mid above take.0 take.1 take.3 (inside_stack p exact (mid ++ below) take.1 take.4) ∙ ap (λ (l : List ℤ). take.0 ∷ l) k.2)
      | inr (inr none) ↦ absurd (not_empty k.0 w (k.1 ++ below) (sym (append_assoc k.0 (w ∷ k.1) below) ∙ ap (λ (m : List ℤ). m ++ below) (sym k.2) ∙ inside_stack p exact (mid ++ below) [] none.2))
    ]
  ]

  -- what is pushed between is popped in between
  pub popped_first : (v : ℤ) (below : List ℤ) (front : List ℕ) (d : ℕ) (rest : List ℕ) (w : ℤ) → Pushes p d w → LeavesBelow p (v ∷ below) [] (front ++ d ∷ rest) [] → (under : List ℤ) × LeavesBelow p (v ∷ below) [] front under × (next p (Stack (under ++ v ∷ below)) d ≡ Some (Stack (w ∷ under ++ v ∷ below))) × PopPlace [] w (under ++ v ∷ below) rest
  popped_first v below front d rest w pushes h =
      let k = leaves_split (v ∷ below) front (d ∷ rest) [] [] h in
      let new : Stack (k.2.0 ++ v ∷ below) ≡ Stack (w ∷ (k.0 ++ v ∷ below)) = after_push p exact (k.0 ++ v ∷ below) (Stack (k.2.0 ++ v ∷ below)) d w pushes k.2.1 in
      let legal : Legal p (Stack (w ∷ (k.0 ++ v ∷ below))) rest (Stack (v ∷ below)) = subst (λ (s : ObjState). Legal p s rest (Stack (v ∷ below))) new (leaves_legal p exact (v ∷ below) rest k.2.0 [] k.2.2) in (
        k.0,
        k.1,
        k.2.1 ∙ ap Some new,
        elim (lies_or_popped rest [] w (k.0 ++ v ∷ below) (Stack (v ∷ below)) legal) [
          | inl lies ↦ absurd (not_within lies.0 w k.0 (v ∷ below) (let e = lies.1 in cc))
          | inr at ↦ at
        ],
      )

  legal_joined : (xs ys : List ℕ) (s t u : ObjState) → Legal p s xs t → Legal p t ys u → Legal p s (xs ++ ys) u
  legal_joined [] ys s t u k l = subst (λ (x : ObjState). Legal p x ys u) (sym k) l
  legal_joined (x ∷ xs) ys s t u k l = (k.0, k.1, legal_joined xs ys k.0 t u k.2 l)

-- what is pushed between a push and the call that pops its item is popped in between
pub aboves : (p : Problem ObjState Op Reply) → IsExact p → (s : ObjState) (early : List ℕ) (b : ℕ) (mid : List ℕ) (j : ℕ) → IsPoppedBy p s early b mid j → (front : List ℕ) (d : ℕ) (rest : List ℕ) (w : ℤ) → mid ≡ front ++ d ∷ rest → Pushes p d w →
    (between : List ℕ) × (i : ℕ) × (late : List ℕ) × (rest ≡ between ++ i ∷ late) × IsPoppedBy p s (early ++ b ∷ front) d between i
aboves p exact s early b mid j k front d rest w place pushes =
    let f = popped_first p exact k.item k.below front d rest w pushes (subst (λ (l : List ℕ). LeavesBelow p (k.item ∷ k.below) [] l []) place k.popped.stays) in
    let at = f.3 in (
      at.0,
      at.1,
      at.2,
      at.3,
      record {
        item = w;
        below = f.0 ++ k.item ∷ k.below;
        so_far = legal_joined p exact early (b ∷ front) s (Stack k.below) (Stack (f.0 ++ k.item ∷ k.below)) k.so_far (Stack (k.item ∷ k.below), k.step, leaves_legal p exact (k.item ∷ k.below) front [] f.0 f.1);
        pushes = pushes;
        step = f.2;
        popped = at.4;
      },
    )
