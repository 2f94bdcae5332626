-- The calls of each process, one after the other.
use Rattle.std.proofs.Common.{◌≡◌, ℕ, ◌+◌, ◌<◌, ◌≤◌, Option, Some, None, length, ◌⊎◌, inl, inr, sym, ◌∙◌, ap, subst, arith}
use Rattle.std.specs.Prelude.{IfSome, IsSomeAnd}
use Rattle.std.specs.List.{slice_get}
use Rattle.std.proofs.lemmas.Bool.{cases_lt}
use Rattle.std.proofs.lemmas.Option.{slice_get_within}
use Rattle.lin_object.specs.declared.op.Op.{Op}
use Rattle.lin_object.specs.declared.reply.Reply.{Reply}
use Rattle.lin_object.specs.declared.state.ObjState.{ObjState}
use Rattle.lin_history.specs.declared.problems.problem.ProblemCall.{ProblemCall}
use Rattle.lin_history.specs.OptionLemmas.{some_and, and_some}
use Rattle.lin_history.specs.Problems.Problem.{Problem}
use Rattle.lin_history.specs.Problems.ProblemParts.{ProblemParts, AreTimed}
use Rattle.lin_history.specs.Problems.Precedence.{Before}
use Rattle.lin_history.specs.Problems.AnyProblem.{any_problem}
use Rattle.lin_laws.specs.InTurn.{AreInTurn}

three : (i j : ℕ) → (i < j) ⊎ ((i ≡ j) ⊎ (j < i))
three i j = grind arith

one : {A : Type 0} (x y : A) → Some x ≡ Some y → x ≡ y
one x y e = cc

module _ {Object : Type 0} (parts : ProblemParts Object ObjState Op Reply) where
  abbrev A : Problem ObjState Op Reply
  A = any_problem parts

  one_call : (c : ℕ) (x y : ProblemCall Op Reply) → slice_get parts.calls c ≡ Some x → slice_get parts.calls c ≡ Some y → x ≡ y
  one_call c x y e f = one x y (sym e ∙ f)

  -- the first calls come in turn
  abbrev pub InTurnTo : ℕ → Type 0
  InTurnTo n = (a b : ℕ) (x y : ProblemCall Op Reply) → a < b → b < n → slice_get parts.calls a ≡ Some x → slice_get parts.calls b ≡ Some y → x.process ≡ y.process → Before A a b

  -- it is noted which call of its process this one is, or precedes
  abbrev LastOf : ℕ → Option ℕ → Type 0
  LastOf a o = IsSomeAnd o (λ (l : ℕ). (a ≡ l) ⊎ Before A a l)

  -- for each process one of the first calls is noted that its other ones precede
  abbrev pub AreNoted : ℕ → (ℕ → Option ℕ) → Type 0
  AreNoted n f = (a : ℕ) (x : ProblemCall Op Reply) → a < n → slice_get parts.calls a ≡ Some x → LastOf a (f x.process)

  below : (c : ℕ) (x : ProblemCall Op Reply) → slice_get parts.calls c ≡ Some x → c < length parts.calls
  below c x e = slice_get_within parts.calls c x e

  pub all_in_turn : (n : ℕ) → length parts.calls ≤ n → InTurnTo n → AreInTurn A
  all_in_turn n all turn a b x y less e f same = turn a b x y less (let k = below b y f in omega (arith, k, all)) e f same

  -- what is noted of a process is one of the first calls, and its own
  abbrev pub AreCallsOf : ℕ → (ℕ → Option ℕ) → Type 0
  AreCallsOf n f = (q e : ℕ) → f q ≡ Some e → (e < n) × ((x : ProblemCall Op Reply) × (slice_get parts.calls e ≡ Some x) × (x.process ≡ q))

  pub calls_more : (n : ℕ) (y : ProblemCall Op Reply) (f : ℕ → Option ℕ) → slice_get parts.calls n ≡ Some y → AreCallsOf n f → (g : ℕ → Option ℕ) → g y.process ≡ Some n → ((q : ℕ) → (q ≡ y.process → ⊥) → g q ≡ f q) → AreCallsOf (n + 1) g
  calls_more n y f is calls g own others q e here = from (three q y.process)
    where
      other : (q ≡ y.process → ⊥) → (e < n + 1) × ((x : ProblemCall Op Reply) × (slice_get parts.calls e ≡ Some x) × (x.process ≡ q))
      other apart = (let k = calls q e (sym (others q apart) ∙ here) in (let less = k.0 in omega (arith, less), k.1))

      from : (q < y.process) ⊎ ((q ≡ y.process) ⊎ (y.process < q)) → (e < n + 1) × ((x : ProblemCall Op Reply) × (slice_get parts.calls e ≡ Some x) × (x.process ≡ q))
      from (inl less) = other (λ s. omega (arith, less, s))
      from (inr (inl same)) = (let at : n ≡ e = one n e (sym own ∙ ap g (sym same) ∙ here) in (omega (arith, at), (y, subst (λ (k : ℕ). slice_get parts.calls k ≡ Some y) at is, sym same)))
      from (inr (inr more)) = other (λ s. omega (arith, more, s))

  -- where the calls come in turn, what is noted of a call's process returned before it was called
  pub last_is_before : AreInTurn A → (n : ℕ) (y : ProblemCall Op Reply) (f : ℕ → Option ℕ) → slice_get parts.calls n ≡ Some y → AreCallsOf n f → (o : Option ℕ) → f y.process ≡ o → IfSome o (λ e. Before A e n)
  last_is_before turn n y f is calls None e = tt
  last_is_before turn n y f is calls (Some l) e = (let k = calls y.process l e in turn l n k.1.0 y k.0 k.1.1 is k.1.2)

  module _ (timed : AreTimed parts.calls) where
    -- a call that precedes one that precedes a third precedes that
    through : (a b c : ℕ) → Before A a b → Before A b c → Before A a c
    through a b c h k =
        let x = some_and (slice_get parts.calls a) _ h in
        let r = some_and x.0.returned _ x.2 in
        let y = some_and (slice_get parts.calls b) _ r.2 in
        let y2 = some_and (slice_get parts.calls b) _ k in
        let q = some_and y2.0.returned _ y2.2 in
        let z = some_and (slice_get parts.calls c) _ q.2 in
        let one_ : r.0.0 < y.0.called = y.2 in
        let two : q.0.0 < z.0.called = z.2 in
        let three_ : y2.0.called < q.0.0 = timed.returned b y2.0 q.0 y2.1 q.1 in
        let same : y.0.called ≡ y2.0.called = ap (λ (w : ProblemCall Op Reply). w.called) (one_call b y.0 y2.0 y.1 y2.1) in
        and_some (slice_get parts.calls a) _ x.0 x.1 (and_some x.0.returned _ r.0 r.1 (and_some (slice_get parts.calls c) _ z.0 z.1 (omega (arith, one_, two, three_, same))))

    module _ (n : ℕ) (y : ProblemCall Op Reply) (f : ℕ → Option ℕ) (is : slice_get parts.calls n ≡ Some y) (noted : AreNoted n f) (before : IfSome (f y.process) (λ e. Before A e n)) where
      earlier : (a : ℕ) (x : ProblemCall Op Reply) → a < n → slice_get parts.calls a ≡ Some x → x.process ≡ y.process → Before A a n
      earlier a x less e same =
          let l = some_and (f y.process) _ (subst (λ (q : ℕ). LastOf a (f q)) same (noted a x less e)) in
          let last : Before A l.0 n = subst (λ (o : Option ℕ). IfSome o (λ (k : ℕ). Before A k n)) l.1 before in
          elim l.2 [
            | inl at ↦ subst (λ (k : ℕ). Before A k n) (sym at) last
            | inr early ↦ through a l.0 n early last
          ]

      pub turn_more : InTurnTo n → InTurnTo (n + 1)
      turn_more turn a b x z less up e g same = elim (cases_lt b n) [
        | inl low ↦ turn a b x z less low e g same
        | inr high ↦ (
            let at : b ≡ n = omega (arith, up, high) in
            let z_is : z ≡ y = one_call n z y (subst (λ (k : ℕ). slice_get parts.calls k ≡ Some z) at g) is in
            subst (λ (k : ℕ). Before A a k) (sym at) (earlier a x (omega (arith, less, at)) e (same ∙ ap (λ (w : ProblemCall Op Reply). w.process) z_is))
            )
      ]

      pub noted_more : (g : ℕ → Option ℕ) → g y.process ≡ Some n → ((q : ℕ) → (q ≡ y.process → ⊥) → g q ≡ f q) → AreNoted (n + 1) g
      noted_more g own others a x up e = from (three x.process y.process)
        where
          same_process : x.process ≡ y.process → LastOf a (g x.process)
          same_process same = subst (LastOf a) (sym (ap g same ∙ own)) (elim (cases_lt a n) [
            | inl low ↦ inr (earlier a x low e same)
            | inr high ↦ inl (omega (arith, up, high))
          ])

          other_process : (x.process ≡ y.process → ⊥) → LastOf a (g x.process)
          other_process apart = elim (cases_lt a n) [
            | inl low ↦ subst (LastOf a) (sym (others x.process apart)) (noted a x low e)
            | inr high ↦ absurd (
                let at : a ≡ n = omega (arith, up, high) in
                apart (ap (λ (w : ProblemCall Op Reply). w.process) (one_call n x y (subst (λ (k : ℕ). slice_get parts.calls k ≡ Some x) at e) is))
                )
          ]

          from : (x.process < y.process) ⊎ ((x.process ≡ y.process) ⊎ (y.process < x.process)) → LastOf a (g x.process)
          from (inl less) = other_process (λ s. omega (arith, less, s))
          from (inr (inl same)) = same_process same
          from (inr (inr more)) = other_process (λ s. omega (arith, more, s))
