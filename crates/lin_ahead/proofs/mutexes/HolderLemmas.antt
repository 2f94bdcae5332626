-- The next unlock of each process, from the last call to the first.
use Rattle.std.specs.Prelude.{slice_index_or, unwrap_or}
use Rattle.std.proofs.Common.{◌≡◌, ◌≢◌, ℕ, ◌+◌, ◌<◌, ◌≤◌, Bool, true, false, Option, Some, None, List, length, set, ◌⊎◌, inl, inr, refl, sym, ◌∙◌, ap, subst, true≢false, arith, get_or-set_other}
use Rattle.std.specs.List.{slice_get}
use Rattle.std.proofs.lemmas.Bool.{cases_lt}
use Rattle.std.proofs.lemmas.List.{get_or-set_same, get_or_past}
use Rattle.std.proofs.lemmas.Option.{slice_get_within}
use Rattle.lin_object.specs.declared.op.Op.{Op}
use Rattle.lin_object.specs.declared.op.Op.TheVariants.{Unlock}
use Rattle.lin_object.specs.declared.reply.Reply.{Reply}
use Rattle.lin_object.specs.declared.state.ObjState.{ObjState}
use Rattle.lin_history.specs.declared.problems.problem.ProblemCall.{ProblemCall}
use Rattle.lin_history.specs.Problems.Problem.{Problem}
use Rattle.lin_ahead.specs.Mutexes.Strays.{UnlocksFor, is_unlock}
use Rattle.lin_ahead.specs.Mutexes.HeldUntil.{IsNextUnlock, IsHeldUntil, AreHeldUntil, TookFor, number_if, took}

one : {A : Type 0} (x y : A) → Some x ≡ Some y → x ≡ y
one x y e = cc

three : (i j : ℕ) → (i < j) ⊎ ((i ≡ j) ⊎ (j < i))
three i j = grind arith

unlock_is : (op : Op) → is_unlock op ≡ true → op ≡ Unlock
unlock_is Unlock e = refl
unlock_is op e = absurd (true≢false (sym e))

is_an_unlock : (op : Op) → op ≡ Unlock → is_unlock op ≡ true
is_an_unlock op e = subst (λ (o : Op). is_unlock o ≡ true) (sym e) refl

module _ (p : Problem ObjState Op Reply) where
  one_call : (c : ℕ) (x y : ProblemCall Op Reply) → slice_get p.calls c ≡ Some x → slice_get p.calls c ≡ Some y → x ≡ y
  one_call c x y e f = one x y (sym e ∙ f)

  -- of the unlocks of the process among the calls from this one on it is the first; where there is none, the number of calls
  abbrev pub IsFirstFrom : ℕ → ℕ → ℕ → Type 0
  IsFirstFrom n q v = ((u : ℕ) → UnlocksFor p q u → n ≤ u → v ≤ u) × ((v ≡ length p.calls) ⊎ ((n ≤ v) × UnlocksFor p q v))

  -- what is noted of each process
  abbrev pub AreFirstFrom : ℕ → (ℕ → Option ℕ) → Type 0
  AreFirstFrom n f = (q : ℕ) → IsFirstFrom n q (unwrap_or (f q) (length p.calls))

  pub none_from : (f : ℕ → Option ℕ) → ((q : ℕ) → f q ≡ None) → AreFirstFrom (length p.calls) f
  none_from f none q = subst (λ (o : Option ℕ). IsFirstFrom (length p.calls) q (unwrap_or o (length p.calls))) (sym (none q)) ((λ u unlocks low. low), inl refl)

  module _ (n : ℕ) (y : ProblemCall Op Reply) (here : slice_get p.calls n ≡ Some y) (f g : ℕ → Option ℕ) (first : AreFirstFrom (n + 1) f) where
    -- one call more, which is none of the process's unlocks
    same_from : (q : ℕ) → (UnlocksFor p q n → ⊥) → g q ≡ f q → IsFirstFrom n q (unwrap_or (g q) (length p.calls))
    same_from q other same = subst (λ (o : Option ℕ). IsFirstFrom n q (unwrap_or o (length p.calls))) (sym same) (
      (λ u unlocks low. elim (three n u) [
        | inl less ↦ (first q).0 u unlocks (omega (arith, less))
        | inr (inl e) ↦ absurd (other (subst (λ (i : ℕ). UnlocksFor p q i) (sym e) unlocks))
        | inr (inr more) ↦ absurd (omega (arith, more, low))
      ]),
      (elim (first q).1 [ inl end ↦ inl end | inr at ↦ inr ((let less = at.0 in omega (arith, less)), at.1) ]),
    )

    own_from : y.op ≡ Unlock → g y.process ≡ Some n → IsFirstFrom n y.process (unwrap_or (g y.process) (length p.calls))
    own_from op own = subst (λ (o : Option ℕ). IsFirstFrom n y.process (unwrap_or o (length p.calls))) (sym own) ((λ u unlocks low. low), inr (omega arith, (y, here, op, refl)))

    pub first_more : (is_unlock y.op ≡ true → g y.process ≡ Some n) → ((q : ℕ) → (is_unlock y.op ≡ true → q ≢ y.process) → g q ≡ f q) → AreFirstFrom n g
    first_more own others q = by (is_unlock y.op) refl (three q y.process)
      where
        no_unlock : (UnlocksFor p q n → is_unlock y.op ≡ false → ⊥)
        no_unlock unlocks e = true≢false (sym (is_an_unlock y.op (ap (λ (z : ProblemCall Op Reply). z.op) (one_call n y unlocks.0 here unlocks.1) ∙ unlocks.2)) ∙ e)

        of_other : q ≢ y.process → UnlocksFor p q n → ⊥
        of_other apart unlocks = apart (sym unlocks.3 ∙ ap (λ (z : ProblemCall Op Reply). z.process) (one_call n unlocks.0 y unlocks.1 here))

        by : (b : Bool) → is_unlock y.op ≡ b → (q < y.process) ⊎ ((q ≡ y.process) ⊎ (y.process < q)) → IsFirstFrom n q (unwrap_or (g q) (length p.calls))
        by false e order = same_from q (λ unlocks. no_unlock unlocks e) (others q (λ t. absurd (true≢false (sym t ∙ e))))
        by true e (inl less) = let apart : q ≢ y.process = λ s. omega (arith, less, s) in same_from q (of_other apart) (others q (λ t. apart))
        by true e (inr (inl same)) = subst (λ (i : ℕ). IsFirstFrom n i (unwrap_or (g i) (length p.calls))) (sym same) (own_from (unlock_is y.op e) (own e))
        by true e (inr (inr more)) = let apart : q ≢ y.process = λ s. omega (arith, more, s) in same_from q (of_other apart) (others q (λ t. apart))

    -- until which call this one is held
    pub held_here : IsHeldUntil p n (number_if (took y.op y.returned) (unwrap_or (f y.process) (length p.calls)))
    held_here = by (took y.op y.returned) refl
      where
        next_unlock : IsNextUnlock p y.process n (unwrap_or (f y.process) (length p.calls))
        next_unlock = (
          (λ u unlocks low. (first y.process).0 u unlocks (omega (arith, low))),
          (elim (first y.process).1 [ inl end ↦ inl end | inr at ↦ inr ((let less = at.0 in omega (arith, less)), at.1) ]),
        )

        not_taken : took y.op y.returned ≡ false → (process : ℕ) → TookFor p process n → ⊥
        not_taken e process took_it = true≢false (sym took_it.2 ∙ ap (λ (z : ProblemCall Op Reply). took z.op z.returned) (one_call n took_it.0 y took_it.1 here) ∙ e)

        by : (b : Bool) → took y.op y.returned ≡ b → IsHeldUntil p n (number_if (took y.op y.returned) (unwrap_or (f y.process) (length p.calls)))
        by false e = subst (λ (b : Bool). IsHeldUntil p n (number_if b (unwrap_or (f y.process) (length p.calls)))) (sym e) (inr (not_taken e, refl))
        by true e = subst (λ (b : Bool). IsHeldUntil p n (number_if b (unwrap_or (f y.process) (length p.calls)))) (sym e) (inl (y.process, (y, here, e, refl), next_unlock))

  -- the row, from the call on
  abbrev pub AreHeldFrom : ℕ → List ℕ → Type 0
  AreHeldFrom n row = (a : ℕ) → n ≤ a → a < length p.calls → IsHeldUntil p a (slice_index_or row a 0)

  pub held_more : (n v : ℕ) (row : List ℕ) → n < length row → IsHeldUntil p n v → AreHeldFrom (n + 1) row → AreHeldFrom n (set row n v)
  held_more n v row within held rest a low high = by (three n a)
    where
      by : (n < a) ⊎ ((n ≡ a) ⊎ (a < n)) → IsHeldUntil p a (slice_index_or (set row n v) a 0)
      by (inl less) = subst (IsHeldUntil p a) (sym (get_or-set_other row n a v 0 (λ e. omega (arith, less, e)))) (rest a (omega (arith, less)) high)
      by (inr (inl e)) = subst (λ (i : ℕ). IsHeldUntil p i (slice_index_or (set row n v) i 0)) e (subst (IsHeldUntil p n) (sym (get_or-set_same row n v 0 within)) held)
      by (inr (inr more)) = absurd (omega (arith, more, low))

  pub held_all : (row : List ℕ) → length row ≡ length p.calls → AreHeldFrom 0 row → AreHeldUntil p row
  held_all row count from a = elim (cases_lt a (length p.calls)) [
    | inl less ↦ from a (omega arith) less
    | inr more ↦ subst (IsHeldUntil p a) (sym (get_or_past row a 0 (omega (arith, count, more)))) (inr ((λ process took_it. (let w = slice_get_within p.calls a took_it.0 took_it.1 in omega (arith, w, more))), refl))
  ]
