-- More calls that took values of a register away than there are calls of which one made what each found: there is no linearization.
use Rattle.std.proofs.Common.{◌≡◌, ℕ, Bool, true, false, not, ◌||◌, true≢false, Option, Some, None, IsSome, List, [], ◌∷◌, ◌++◌, length, ◌⊎◌, inl, inr, ◌≢◌, suc, ◌≤◌, refl, sym, ◌∙◌, ap, subst, arith}
use Rattle.std.specs.Prelude.{ℤ, slice_get, IsTrue}
use Rattle.std.specs.Ordering.{int_eq}
use Rattle.std.specs.Cmp.{signed_Decides}
use Rattle.lin_object.specs.declared.op.Op.{Op}
use Rattle.lin_object.specs.declared.op.Op.TheVariants.{Cas}
use Rattle.lin_object.specs.declared.reply.Reply.{Reply}
use Rattle.lin_object.specs.declared.reply.Reply.TheVariants.{Flag}
use Rattle.lin_object.specs.declared.state.ObjState.{ObjState}
use Rattle.lin_history.specs.OptionLemmas.{some_and, and_some}
use Rattle.lin_history.specs.declared.problems.problem.ProblemCall.{ProblemCall}
use Rattle.lin_history.specs.Problems.Problem.{Problem}
use Rattle.lin_history.specs.Problems.Lists.{In, IsDistinct}
use Rattle.lin_history.specs.Problems.ListLemmas.{in_early, in_late, in_either, in_place}
use Rattle.lin_history.specs.Problems.Precedence.{IsCompleted}
use Rattle.lin_history.specs.Problems.Linearizations.{IsLinearization}
use Rattle.lin_ahead.specs.declared.values.owners.Owners.{Owners}
use Rattle.lin_ahead.specs.Values.Register.{IsOfRegister}
use Rattle.lin_ahead.specs.Values.Owners.{Leaves, AreOwners}
use Rattle.lin_ahead.specs.Values.PossibleOwners.{breaks, Breaks}
use Rattle.lin_ahead.specs.Values.Balance.{AreMakers, ComesFrom, AreTooManyTakers}
use Rattle.lin_ahead.specs.Values.TakenTwice.{takes, TakesAway}
use Rattle.lin_ahead.proofs.first.NeedsLemmas.{stands}
use Rattle.lin_ahead.proofs.values.RegisterLemmas.{left, from_start}
use Rattle.lin_ahead.proofs.values.OwnerLemmas.{broken}
use Rattle.lin_ahead.proofs.values.ClusterLemmas.{AlwaysChanges, Made, maker, made_once}

not_both : (a b v : ℤ) → not (int_eq a b) ≡ true → (not (int_eq a v) || not (int_eq b v)) ≡ true
not_both a b v e = go (int_eq a v) (int_eq b v) refl refl
  where
    go : (x y : Bool) → int_eq a v ≡ x → int_eq b v ≡ y → (not x || not y) ≡ true
    go false y f g = refl
    go true false f g = refl
    go true true f g = absurd (let same : int_eq a b ≡ true = (signed_Decides a b).1 ((signed_Decides a v).0 f ∙ sym ((signed_Decides b v).0 g)) in let h : not true ≡ true = rw same at e in true≢false (sym h))

-- what takes a value away breaks each value
takes_breaks : (v : ℤ) (op : Op) (back : Option (ℕ × Reply)) → takes op back ≡ true → breaks v op back ≡ true
takes_breaks v (Cas a b) (Some (n, Flag true)) e = not_both a b v e
takes_breaks v op back e = absurd (true≢false (sym e))

-- and has returned
takes_returned : (op : Op) (back : Option (ℕ × Reply)) → takes op back ≡ true → IsSome back
takes_returned op (Some r) e = refl
takes_returned op None e = absurd (no (none op) e)
  where
    none : (o : Op) → takes o None ≡ false
    none (Cas a b) = refl
    none o = refl

    no : {b : Bool} → b ≡ false → b ≡ true → ⊥
    no f g = true≢false (sym g ∙ f)

-- where no two takers have one maker, they are no more than the makers
module _ (Of : ℕ → ℕ → Type 0) where
  size : (xs ys : List ℕ) (x : ℕ) → length (xs ++ x ∷ ys) ≡ suc (length (xs ++ ys))
  size [] ys x = refl
  size (z ∷ xs) ys x = ap suc (size xs ys x)

  left_in : (xs ys : List ℕ) (x w : ℕ) → (w ≡ x → ⊥) → In w (xs ++ x ∷ ys) → In w (xs ++ ys)
  left_in xs ys x w other among = elim (in_either w xs (x ∷ ys) among) [
    | inl q ↦ in_early w xs ys q
    | inr (inl e) ↦ absurd (other e)
    | inr (inr q) ↦ in_late w xs ys q
  ]

  fewer : (takers makers : List ℕ) → IsDistinct takers → ((g : ℕ) → In g takers → (w : ℕ) × In w makers × Of w g) → ((w g h : ℕ) → g ≢ h → In g takers → In h takers → Of w g → Of w h → ⊥) → length takers ≤ length makers
  fewer [] makers distinct each one = omega arith
  fewer (g ∷ gs) makers distinct each one =
      let k = each g (inl refl) in
      let at = in_place k.0 makers k.1 in
      let rest : length gs ≤ length (at.0 ++ at.1) = fewer gs (at.0 ++ at.1) distinct.1 (λ h there. (
      let m = each h (inr there) in (
        m.0,
        left_in at.0 at.1 k.0 m.0 (λ e. one k.0 g h (λ same. distinct.0 (subst (λ (n : ℕ). In n gs) (sym same) there)) (inl refl) (inr there) k.2 (subst (λ (n : ℕ). Of n h) e m.2)) (subst (λ (l : List ℕ). In m.0 l) at.2 m.1),
        m.2,
      ))) (λ w a b other here there. one w a b other (inr here) (inr there)) in
      let count : length makers ≡ suc (length (at.0 ++ at.1)) = ap (λ (l : List ℕ). length l) at.2 ∙ size at.0 at.1 k.0 in
      omega (arith, count, rest)

module _ {p : Problem ObjState Op Reply} {start : ℤ} (of : IsOfRegister p start) (exact : (s t : ObjState) → p.same_state s t ≡ true → s ≡ t) where
  away_breaks : (g : ℕ) (v : ℤ) → TakesAway p.calls g → Breaks p.calls g v
  away_breaks g v away =
      let x = some_and (slice_get p.calls g) (λ (y : ProblemCall Op Reply). IsTrue (takes y.op y.returned)) away in
      and_some (slice_get p.calls g) (λ (y : ProblemCall Op Reply). IsTrue (breaks v y.op y.returned)) x.0 x.1 (takes_breaks v x.0.op x.0.returned x.2)

  away_completed : (g : ℕ) → TakesAway p.calls g → IsCompleted p g
  away_completed g away =
      let x = some_and (slice_get p.calls g) (λ (y : ProblemCall Op Reply). IsTrue (takes y.op y.returned)) away in
      and_some (slice_get p.calls g) (λ (y : ProblemCall Op Reply). IsSome y.returned) x.0 x.1 (takes_returned x.0.op x.0.returned x.2)

  -- it changes the state, wherever it stands
  away_changes : (g : ℕ) → TakesAway p.calls g → AlwaysChanges p g
  away_changes g away s (l, legal) leaves =
      let k = left of l start s (from_start of l s legal) in
      broken of exact k.0 g (away_breaks g k.0 away) (subst (λ (t : ObjState). Leaves p t g) k.1 leaves)

  module _ (rows : List Owners) (told : AreOwners p rows) where
    in_makers : (makers calls : List ℕ) → AreMakers makers calls → (c : ℕ) → In c calls → In c makers
    in_makers makers [] all c among = absurd among
    in_makers makers (d ∷ ds) all c among = elim among [
      | inl e ↦ subst (λ (n : ℕ). In n makers) (sym e) all.0
      | inr q ↦ in_makers makers ds all.1 c q
    ]

    -- more calls took values away than there are calls, or the start, of which one made what each found
    pub too_many_in_vain : AreTooManyTakers p.calls rows → (l : List ℕ) → IsLinearization p l → ⊥
    too_many_in_vain k l whole =
        let few : length k.takers ≤ length k.makers = fewer (Made p l (length p.calls)) k.takers k.makers k.distinct each one in
        let more = k.more in
        omega (arith, few, more)
      where
        each : (g : ℕ) → In g k.takers → (w : ℕ) × In w k.makers × Made p l (length p.calls) w g
        each g there =
            let t = k.each g there in
            let row = some_and (slice_get rows g) (ComesFrom k.makers (length p.calls)) t.1 in
            let m = maker p l whole row.0.calls.items row.0.at_start g (told g row.0 row.1 row.2.0) (away_completed g t.0) in (
              m.0,
              elim m.1 [
                | inl among ↦ in_makers k.makers row.0.calls.items row.2.1 m.0 among
                | inr q ↦ subst (λ (n : ℕ). In n k.makers) (sym q.1) (row.2.2 q.0)
              ],
              m.2,
            )

        in_whole : (g : ℕ) → In g k.takers → In g l
        in_whole g there =
            let at = stands l g whole (away_completed g (k.each g there).0) in
            subst (λ (m : List ℕ). In g m) (sym at.2) (in_late g at.0 (g ∷ at.1) (inl refl))

        one : (w g h : ℕ) → g ≢ h → In g k.takers → In h k.takers → Made p l (length p.calls) w g → Made p l (length p.calls) w h → ⊥
        one w g h other there here = made_once p l whole.continuation (length p.calls) w g h other (in_whole g there) (in_whole h here) (away_changes g (k.each g there).0) (away_changes h (k.each h here).0)
