-- What a call on a register found was written by one of its possible owners, the last call in front of it that changed the state.
use Rattle.std.proofs.Common.{◌≡◌, ℕ, Bool, true, false, not, ◌||◌, Option, Some, None, List, [], ◌∷◌, ◌++◌, length, ◌⊎◌, inl, inr, refl, sym, ◌∙◌, ap, subst, append_assoc, true≢false}
use Rattle.std.specs.Prelude.{ℤ, slice_get, IfSome, IsTrue}
use Rattle.std.specs.Ordering.{int_eq}
use Rattle.std.specs.Cmp.{signed_Decides}
use Rattle.lin_object.specs.declared.op.Op.{Op}
use Rattle.lin_object.specs.declared.op.Op.TheVariants.{Write, Read, Cas}
use Rattle.lin_object.specs.declared.reply.Reply.{Reply}
use Rattle.lin_object.specs.declared.reply.Reply.TheVariants.{Int, Flag}
use Rattle.lin_object.specs.declared.state.ObjState.{ObjState}
use Rattle.lin_object.specs.declared.state.ObjState.TheVariants.{Register}
use Rattle.lin_object.specs.Kinds.Register.{register_step}
use Rattle.lin_history.specs.declared.problems.problem.ProblemCall.{ProblemCall}
use Rattle.lin_history.specs.Problems.Problem.{Problem}
use Rattle.lin_history.specs.Problems.Lists.{In}
use Rattle.lin_history.specs.Problems.ListLemmas.{has_none, in_late, in_either, apart}
use Rattle.lin_history.specs.Problems.LegalLists.{state_if_fits, next, Legal}
use Rattle.lin_history.specs.Problems.Precedence.{Before}
use Rattle.lin_history.specs.Problems.Linearizations.{IsRun, IsLinearization}
use Rattle.lin_history.specs.OptionLemmas.{some_and}
use Rattle.lin_ahead.specs.declared.values.owners.Owners.{Owners}
use Rattle.lin_ahead.specs.Values.Register.{IsOfRegister, Finds}
use Rattle.lin_ahead.specs.Values.Owners.{Leaves, AllLeave, LastChange, AreOwners}
use Rattle.lin_ahead.specs.Values.PossibleOwners.{breaks, Breaks, IsNoOwner, IsNotFromStart, AreOwnersOf, AreOwnerRows}
use Rattle.lin_laws.specs.AnswerLemmas.{Is, reply_of, fits_some}
use Rattle.lin_ahead.proofs.first.NeedsLemmas.{not_before}
use Rattle.lin_ahead.proofs.values.RegisterLemmas.{step_tells, fits_recorded, has_call, tells, left, legal_split, from_start, finds_held, not_itself, same_value}

-- ---- the last change of a list of calls

module _ (p : Problem ObjState Op Reply) (exact : (s t : ObjState) → p.same_state s t ≡ true → s ≡ t) where
  -- where the last call of the list that changed the state stands; or all leave it as it is
  pub record Change (s t : ObjState) (l : List ℕ) : Type 0 where
    pub owner : ℕ
    pub front : List ℕ
    pub since : List ℕ
    pub place : l ≡ front ++ owner ∷ since
    pub from : ObjState
    pub before : Legal p s front from
    pub step : next p from owner ≡ Some t
    pub changed : p.same_state t from ≡ false
    pub kept : AllLeave p t since

  abbrev pub Changed : ObjState → ObjState → List ℕ → Type 0
  Changed s t l = Change s t l ⊎ ((t ≡ s) × AllLeave p s l)

  none_in : (c : ℕ) → In c [] → ⊥
  none_in c h = h

  pub last_change : (l : List ℕ) (s t : ObjState) → Legal p s l t → Changed s t l
  last_change [] s t legal = inr (sym legal, λ c h. absurd (none_in c h))
  last_change (c ∷ cs) s t (m, step, more) = elim (last_change cs m t more) [
    | inl k ↦ inl (record { owner = k.owner; front = c ∷ k.front; since = k.since; place = ap (λ (l : List ℕ). c ∷ l) k.place; from = k.from; before = (m, step, k.before); step = k.step; changed = k.changed; kept = k.kept })
    | inr q ↦ go (p.same_state m s) refl q.0 q.1
  ]
    where
      go : (b : Bool) → p.same_state m s ≡ b → t ≡ m → AllLeave p m cs → Changed s t (c ∷ cs)
      go true same e kept =
          let is : m ≡ s = exact m s same in
          inr (
            e ∙ is,
            λ d h. elim h [
              | inl here ↦ subst (λ (n : ℕ). Leaves p s n) (sym here) (m, step, same)
              | inr there ↦ subst (λ (u : ObjState). Leaves p u d) is (kept d there)
            ],
          )
      go false other e kept = inl (record {
        owner = c;
        front = [];
        since = cs;
        place = refl;
        from = s;
        before = refl;
        step = step ∙ ap Some (sym e);
        changed = subst (λ (u : ObjState). p.same_state u s ≡ false) (sym e) other;
        kept = subst (λ (u : ObjState). AllLeave p u cs) (sym e) kept;
      })

-- ---- calls that break a value

not_true : (x : Bool) → not x ≡ true → x ≡ false
not_true true e = absurd (cc)
not_true false e = refl

same_reply : {r q : Reply} → r ≡ q → q ≡ r
same_reply e = sym e

one_of_two : (x y : Bool) → (x || y) ≡ true → (x ≡ true) ⊎ (y ≡ true)
one_of_two true y e = inl refl
one_of_two false y e = inr e

differs : (u v : ℤ) → not (int_eq u v) ≡ true → u ≡ v → ⊥
differs u v e same = true≢false (sym ((signed_Decides u v).1 same) ∙ not_true (int_eq u v) e)

-- where a value stays, no call that breaks it has a step
breaks_step : (v : ℤ) (op : Op) (back : Option (ℕ × Reply)) (m : ObjState) (r : Reply) → Is (register_step v op) m r → IfSome back (λ q. q.1 ≡ r) → breaks v op back ≡ true → m ≡ Register v → ⊥
breaks_step v op None m r step k e stays = absurd (cc)
breaks_step v (Write u) (Some q) m r step k e stays =
    let t = step_tells v (Write u) (Some q) m r step k in
    differs u v e (sym (t.wrote u refl refl) ∙ same_value (sym t.ends ∙ stays))
breaks_step v Read (Some (n, Int u)) m r step k e stays =
    let t = step_tells v Read (Some (n, Int u)) m r step k in
    differs u v e (sym (t.found u refl))
breaks_step v (Cas a b) (Some (n, Flag true)) m r step k e stays =
    let t = step_tells v (Cas a b) (Some (n, Flag true)) m r step k in
    elim (one_of_two (not (int_eq a v)) (not (int_eq b v)) e) [
      | inl h ↦ differs a v h (sym (t.found a refl))
      | inr h ↦ differs b v h (sym (t.wrote b refl refl) ∙ same_value (sym t.ends ∙ stays))
    ]
breaks_step v (Cas a b) (Some (n, Flag false)) m r step k e stays =
    let same : int_eq v a ≡ true = (signed_Decides v a).1 (sym ((signed_Decides a v).0 e)) in
    let there : Is (Some (Register b, Flag true)) m r = rw same at step in
    let reply : Flag true ≡ r = reply_of there in
    absurd (cc)
breaks_step v op (Some q) m r step k e stays = absurd (cc)

-- ---- runs of a register

module _ {p : Problem ObjState Op Reply} {start : ℤ} (of : IsOfRegister p start) (exact : (s t : ObjState) → p.same_state s t ≡ true → s ≡ t) where
  -- a call that breaks a value does not leave it as it is
  pub broken : (v : ℤ) (c : ℕ) → Breaks p.calls c v → Leaves p (Register v) c → ⊥
  broken v c breaks_it leaves =
      let x = some_and (slice_get p.calls c) (λ (y : ProblemCall Op Reply). IsTrue (breaks v y.op y.returned)) breaks_it in
      let step : state_if_fits p.same_reply x.0.returned (p.after (Register v) x.0.process x.0.op) ≡ Some leaves.0 = rw x.1 at leaves.1 in
      let k = fits_some p.same_reply (p.after (Register v) x.0.process x.0.op) x.0.returned leaves.0 step in
      breaks_step v x.0.op x.0.returned leaves.0 k.0 (sym (of.after_is (Register v) x.0.process x.0.op) ∙ k.1) (fits_recorded of k.0 x.0.returned k.2) x.2 (exact leaves.0 (Register v) leaves.2)

  in_front : (c : ℕ) (front : List ℕ) → (has_or : ⊥ ⊎ In c front) → In c front
  in_front c front (inl h) = absurd h
  in_front c front (inr h) = h

  module _ (early : List ℕ) (g : ℕ) (late : List ℕ) (whole : IsLinearization p (early ++ g ∷ late)) where
    -- what returned before the call stands in front of it
    before_stands : (c : ℕ) → Before p c g → In c early
    before_stands c before = elim (whole.continuation.ordered early g late refl c before) [
      | inl q ↦ absurd (let x = has_none (length p.calls) c in cc)
      | inr q ↦ q
    ]

    -- a call that stands since another one was not called before ... in front of it
    stands_since : (front : List ℕ) (w : ℕ) (since : List ℕ) → early ≡ front ++ w ∷ since → (c : ℕ) → Before p w c → In c early → In c since
    stands_since front w since place c before there =
        let eq : early ++ g ∷ late ≡ front ++ w ∷ (since ++ g ∷ late) = ap (λ (l : List ℕ). l ++ g ∷ late) place ∙ append_assoc front (w ∷ since) (g ∷ late) in
        let run : IsRun p (front ++ w ∷ (since ++ g ∷ late)) = subst (λ (l : List ℕ). IsRun p l) eq whole.continuation in
        elim (in_either c front (w ∷ since) (subst (λ (l : List ℕ). In c l) place there)) [
          | inl q ↦ absurd (not_before front w (since ++ g ∷ late) run c before q)
          | inr (inl e) ↦ absurd (not_itself of front w (since ++ g ∷ late) run c before e)
          | inr (inr q) ↦ q
        ]

    module _ (owners : Owners) (told : AreOwnersOf p.calls start g owners) where
      found : Finds p g told.found
      found = told.finds

      -- the value is not there from the start on, where that is told
      not_from_start : AllLeave p (Register start) early → start ≡ told.found → IsNotFromStart p.calls start told.found g → ⊥
      not_from_start kept same (inl other) = other (sym same)
      not_from_start kept same (inr (c, before, breaks_it)) = broken told.found c breaks_it (subst (λ (v : ℤ). Leaves p (Register v) c) same (kept c (before_stands c before)))

      -- a call that is no owner is not the last one that changed the state into this value
      no_owner : (front : List ℕ) (w : ℕ) (since : List ℕ) → early ≡ front ++ w ∷ since → AllLeave p (Register told.found) since → IsNoOwner p.calls told.found g w → ⊥
      no_owner front w since place kept (inl e) = apart w early (g ∷ late) whole.continuation.distinct (subst (λ (l : List ℕ). In w l) (sym place) (in_late w front (w ∷ since) (inl refl))) (inl e)
      no_owner front w since place kept (inr (inl before)) = not_before early g late whole.continuation w before (subst (λ (l : List ℕ). In w l) (sym place) (in_late w front (w ∷ since) (inl refl)))
      no_owner front w since place kept (inr (inr (c, after, before, breaks_it))) = broken told.found c breaks_it (kept c (stands_since front w since place c after (before_stands c before)))

      -- the start, told by a flag
      at_start : (b : Bool) → owners.at_start ≡ b → AllLeave p (Register start) early → start ≡ told.found → IsTrue b
      at_start true e kept same = refl
      at_start false e kept same = absurd (not_from_start kept same (told.start_too e))

      pub owned : LastChange p owners.calls.items early ⊎ (IsTrue owners.at_start × AllLeave p p.start early)
      owned =
          let legal = whole.continuation.legal in
          let two = legal_split of early (g ∷ late) p.start legal.0 legal.1 in
          let k = left of early start two.0 (from_start of early two.0 two.1) in
          let goes : Legal p (Register k.0) (g ∷ late) legal.0 = subst (λ (s : ObjState). Legal p s (g ∷ late) legal.0) k.1 two.2 in
          let same : k.0 ≡ told.found = finds_held of k.0 told.found goes.0 g found goes.1 in
          let here : two.0 ≡ Register told.found = k.1 ∙ ap Register same in
          by_change two.0 here (last_change p exact early p.start two.0 two.1)
        where
          by_change : (t : ObjState) → t ≡ Register told.found → Changed p exact p.start t early → LastChange p owners.calls.items early ⊎ (IsTrue owners.at_start × AllLeave p p.start early)
          by_change t here (inr (same, kept)) =
              let from : AllLeave p (Register start) early = subst (λ (s : ObjState). AllLeave p s early) of.start_is kept in
              let value : start ≡ told.found = same_value (sym of.start_is ∙ sym same ∙ here) in
              inr (at_start owners.at_start refl from value, kept)
          by_change t here (inl k) =
              let w = left of k.front start k.from (from_start of k.front k.from k.before) in
              let step : next p (Register w.0) k.owner ≡ Some t = subst (λ (s : ObjState). next p s k.owner ≡ Some t) w.1 k.step in
              let x = has_call of (Register w.0) t k.owner step in
              let tell = tells of w.0 t k.owner x.0 x.1 step in
              let value : tell.value ≡ told.found = same_value (sym tell.ends ∙ here) in
              let kept : AllLeave p (Register told.found) k.since = subst (λ (s : ObjState). AllLeave p s k.since) here k.kept in
              elim tell.change [
                | inl e ↦ absurd (true≢false (sym (subst (λ (s : ObjState). p.same_state t s ≡ true) (sym (w.1 ∙ ap Register (sym e) ∙ sym tell.ends)) (subst (λ (s : ObjState). p.same_state s s ≡ true) (sym here) (of.same_itself told.found))) ∙ k.changed))
                | inr wrote ↦ elim (told.each k.owner x.0 x.1 (wrote ∙ ap Some value)) [
                  | inl among ↦ inl (record { owner = k.owner; front = k.front; since = k.since; place = k.place; one_of = among; from = k.from; to = t; before = k.before; step = k.step; changed = k.changed; kept = k.kept })
                  | inr none ↦ absurd (no_owner k.front k.owner k.since k.place kept none)
                ]
              ]

  -- the rows of a register tell owners
  pub are_owners : (rows : List Owners) → AreOwnerRows p.calls start rows → AreOwners p rows
  are_owners rows told g row there is l early late whole eq =
      owned early g late (subst (λ (m : List ℕ). IsLinearization p m) eq whole) row (told g row there is)
