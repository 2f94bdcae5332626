-- Which processes hold the mutex after the first calls, by what is noted of each.
use Rattle.std.proofs.Common.{◌≡◌, ◌↔◌, ℕ, ◌+◌, ◌<◌, ◌≤◌, ◌||◌, Bool, true, false, Option, Some, None, length, ◌⊎◌, inl, inr, refl, sym, ◌∙◌, ap, subst, true≢false, arith}
use Rattle.std.specs.Prelude.{IsSome, is_some}
use Rattle.std.specs.List.{slice_get}
use Rattle.std.proofs.lemmas.Bool.{cases_lt}
use Rattle.std.proofs.lemmas.Option.{slice_get_within}
use Rattle.lin_object.specs.declared.op.Op.{Op}
use Rattle.lin_object.specs.declared.op.Op.TheVariants.{Unlock}
use Rattle.lin_object.specs.declared.reply.Reply.{Reply}
use Rattle.lin_object.specs.declared.state.ObjState.{ObjState}
use Rattle.lin_history.specs.declared.problems.problem.ProblemCall.{ProblemCall}
use Rattle.lin_history.specs.Problems.Problem.{Problem}
use Rattle.lin_ahead.specs.Mutexes.Acquires.{acquired}
use Rattle.lin_ahead.specs.Mutexes.Strays.{HoldsAfter, IsStray, SomeIsStray, holds_then, is_held, is_unlock}
use Rattle.lin_ahead.proofs.mutexes.StepLemmas.{no_unlock}

one : {A : Type 0} (x y : A) → Some x ≡ Some y → x ≡ y
one x y e = cc

three : (i j : ℕ) → (i < j) ⊎ ((i ≡ j) ⊎ (j < i))
three i j = grind arith

-- an unlock, an acquire, or neither
abbrev Sort : Op → Option (ℕ × Reply) → Type 0
Sort op returned = (op ≡ Unlock) ⊎ (((event : ℕ) × (acquired op returned ≡ Some event) × ((before : Bool) → holds_then op returned before ≡ true)) ⊎ ((op ≡ Unlock → ⊥) × ((event : ℕ) → acquired op returned ≡ Some event → ⊥) × ((before : Bool) → holds_then op returned before ≡ before)))

unlock_gives : (op : Op) (returned : Option (ℕ × Reply)) (before : Bool) → op ≡ Unlock → holds_then op returned before ≡ false
unlock_gives op returned before e = subst (λ (o : Op). holds_then o returned before ≡ false) (sym e) refl

by_acquired : (o : Option ℕ) → ((event : ℕ) × (o ≡ Some event) × ((before : Bool) → is_some o || before ≡ true)) ⊎ (((event : ℕ) → o ≡ Some event → ⊥) × ((before : Bool) → is_some o || before ≡ before))
by_acquired None = inr ((λ event e. absurd (cc)), λ before. refl)
by_acquired (Some event) = inl (event, refl, λ before. refl)

no_other : (op : Op) → is_unlock op ≡ false → op ≡ Unlock → ⊥
no_other op e k = true≢false (sym (subst (λ (o : Op). is_unlock o ≡ true) (sym k) refl) ∙ e)

sort : (op : Op) (returned : Option (ℕ × Reply)) → Sort op returned
sort Unlock returned = inl refl
sort op returned = elim (by_acquired (acquired op returned)) [
  | inl k ↦ inr (inl k)
  | inr k ↦ inr (inr (no_other op refl, k.0, k.1))
]

module _ (p : Problem ObjState Op Reply) where
  one_call : (c : ℕ) (x y : ProblemCall Op Reply) → slice_get p.calls c ≡ Some x → slice_get p.calls c ≡ Some y → x ≡ y
  one_call c x y e f = one x y (sym e ∙ f)

  -- what is noted of each process says whether it holds the mutex after the first calls
  abbrev pub AreHeld : ℕ → (ℕ → Option Bool) → Type 0
  AreHeld n f = (q : ℕ) → (is_held (f q) ≡ true) ↔ HoldsAfter p n q

  pub none_held : (f : ℕ → Option Bool) → ((q : ℕ) → f q ≡ None) → AreHeld 0 f
  none_held f none q = (
    (λ e. absurd (true≢false (sym e ∙ ap is_held (none q)))),
    (λ h. absurd (let less = h.2 in omega (arith, less))),
  )

  -- the same of a process after a call that is none of its, or neither an acquire nor an unlock
  module _ (n q : ℕ) (y : ProblemCall Op Reply) (here : slice_get p.calls n ≡ Some y) where
    same_more : ((x : ProblemCall Op Reply) → x ≡ y → x.op ≡ Unlock → x.process ≡ q → ⊥) → HoldsAfter p n q → HoldsAfter p (n + 1) q
    same_more other h = (
      h.0,
      h.1,
      (let a = h.2 in omega (arith, a)),
      λ u unlocks low high. elim (cases_lt u n) [
        | inl less ↦ h.3 u unlocks low less
        | inr more ↦ (let at : u ≡ n = omega (arith, high, more) in other unlocks.0 (one_call n unlocks.0 y (subst (λ (k : ℕ). slice_get p.calls k ≡ Some unlocks.0) at unlocks.1) here) unlocks.2 unlocks.3)
      ],
    )

    same_fewer : ((x : ProblemCall Op Reply) (event : ℕ) → x ≡ y → acquired x.op x.returned ≡ Some event → x.process ≡ q → ⊥) → HoldsAfter p (n + 1) q → HoldsAfter p n q
    same_fewer other h = (h.0, h.1, less, λ u unlocks low high. h.3 u unlocks low (omega (arith, high)))
      where
        less : h.0 < n
        less = elim (cases_lt h.0 n) [
          | inl low ↦ low
          | inr high ↦ absurd (let top = h.2 in let at : h.0 ≡ n = omega (arith, top, high) in other h.1.0 h.1.1 (one_call n h.1.0 y (subst (λ (k : ℕ). slice_get p.calls k ≡ Some h.1.0) at h.1.2) here) h.1.3 h.1.4)
        ]

  module _ (n : ℕ) (y : ProblemCall Op Reply) (f g : ℕ → Option Bool) (here : slice_get p.calls n ≡ Some y) (held : AreHeld n f) (own : g y.process ≡ Some (holds_then y.op y.returned (is_held (f y.process)))) (others : (q : ℕ) → (q ≡ y.process → ⊥) → g q ≡ f q) where
    other_process : (q : ℕ) → (q ≡ y.process → ⊥) → (is_held (g q) ≡ true) ↔ HoldsAfter p (n + 1) q
    other_process q apart = (
      (λ e. same_more n q y here (λ x same op process. apart (sym process ∙ ap (λ (z : ProblemCall Op Reply). z.process) same)) ((held q).0 (sym (ap is_held (others q apart)) ∙ e))),
      (λ h. ap is_held (others q apart) ∙ (held q).1 (same_fewer n q y here (λ x event same is process. apart (sym process ∙ ap (λ (z : ProblemCall Op Reply). z.process) same)) h)),
    )

    noted : is_held (g y.process) ≡ holds_then y.op y.returned (is_held (f y.process))
    noted = ap is_held own

    own_process : (is_held (g y.process) ≡ true) ↔ HoldsAfter p (n + 1) y.process
    own_process = elim (sort y.op y.returned) [
      | inl unlock ↦ (
        (λ e. absurd (true≢false (sym e ∙ noted ∙ unlock_gives y.op y.returned (is_held (f y.process)) unlock))),
        (λ h. absurd (
            let top = h.2 in
            elim (cases_lt h.0 n) [
              | inl low ↦ h.3 n (y, here, unlock, refl) low (omega arith)
              | inr high ↦ (let at : h.0 ≡ n = omega (arith, top, high) in no_unlock h.1.0.op h.1.0.returned h.1.1 h.1.3 (ap (λ (z : ProblemCall Op Reply). z.op) (one_call n h.1.0 y (subst (λ (k : ℕ). slice_get p.calls k ≡ Some h.1.0) at h.1.2) here) ∙ unlock))
            ])),
      )
      | inr (inl acquire) ↦ (
        (λ e. (n, (y, acquire.0, here, acquire.1, refl), omega arith, λ u unlocks low high. absurd (omega (arith, low, high)))),
        (λ h. noted ∙ acquire.2 (is_held (f y.process))),
      )
      | inr (inr neither) ↦ (
        (λ e. same_more n y.process y here (λ x same op process. neither.0 (ap (λ (z : ProblemCall Op Reply). z.op) (sym same) ∙ op)) ((held y.process).0 (sym (noted ∙ neither.2 (is_held (f y.process))) ∙ e))),
        (λ h. noted ∙ (neither.2 (is_held (f y.process)) ∙ (held y.process).1 (same_fewer n y.process y here (λ x event same is process. neither.1 event (subst (λ (z : ProblemCall Op Reply). acquired z.op z.returned ≡ Some event) same is)) h))),
      )
    ]

    pub held_more : AreHeld (n + 1) g
    held_more q = from (three q y.process)
      where
        from : (q < y.process) ⊎ ((q ≡ y.process) ⊎ (y.process < q)) → (is_held (g q) ≡ true) ↔ HoldsAfter p (n + 1) q
        from (inl less) = other_process q (λ e. omega (arith, less, e))
        from (inr (inl same)) = subst (λ (r : ℕ). (is_held (g r) ≡ true) ↔ HoldsAfter p (n + 1) r) (sym same) own_process
        from (inr (inr more)) = other_process q (λ e. omega (arith, more, e))

    -- the call is an unlock that returned, of a process that does not hold it
    abbrev pub ReturnsUnheld : Type 0
    ReturnsUnheld = (y.op ≡ Unlock) × IsSome y.returned × (is_held (f y.process) ≡ false)

    pub is_stray : ReturnsUnheld → IsStray p n
    is_stray k = (y, here, k.0, k.1, λ h. true≢false (sym ((held y.process).1 h) ∙ k.2))

    pub not_stray : (ReturnsUnheld → ⊥) → IsStray p n → ⊥
    not_stray other s =
        let same : s.0 ≡ y = one_call n s.0 y s.1 here in
        other (subst (λ (z : ProblemCall Op Reply). z.op ≡ Unlock) same s.2, subst (λ (z : ProblemCall Op Reply). IsSome z.returned) same s.3, unheld (is_held (f y.process)) refl (subst (λ (z : ProblemCall Op Reply). HoldsAfter p n z.process → ⊥) same s.4))
      where
        unheld : (b : Bool) → is_held (f y.process) ≡ b → (HoldsAfter p n y.process → ⊥) → b ≡ false
        unheld true e none = absurd (none ((held y.process).0 e))
        unheld false e none = refl

  -- none of the first calls is such an unlock
  abbrev pub NoStrayTo : ℕ → Type 0
  NoStrayTo n = (u : ℕ) → u < n → IsStray p u → ⊥

  pub no_stray_more : (n : ℕ) → (IsStray p n → ⊥) → NoStrayTo n → NoStrayTo (n + 1)
  no_stray_more n other none u less s = elim (cases_lt u n) [
    | inl low ↦ none u low s
    | inr high ↦ (let at : u ≡ n = omega (arith, less, high) in other (subst (IsStray p) at s))
  ]

  pub no_stray_at_all : (n : ℕ) → length p.calls ≤ n → NoStrayTo n → SomeIsStray p → ⊥
  no_stray_at_all n all none (start, (u, s)) = none u (let k = slice_get_within p.calls u s.0 s.1 in omega (arith, k, all)) s
