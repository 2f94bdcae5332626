-- No completion begins with a call that changes the state and leaves calls to one owner which cannot own them all.
use Rattle.std.proofs.Common.{◌≡◌, ◌≢◌, ℕ, Bool, true, false, true≢false, Some, List, ◌∷◌, ◌++◌, inl, inr, refl, sym, ◌∙◌, subst}
use Rattle.lin_history.specs.Problems.Problem.{Problem}
use Rattle.lin_history.specs.Problems.Lists.{In}
use Rattle.lin_history.specs.Problems.ListLemmas.{in_late}
use Rattle.lin_history.specs.Problems.LegalLists.{Legal}
use Rattle.lin_history.specs.Problems.Continuations.{has, IsCompletion}
use Rattle.lin_history.specs.Problems.Linearizations.{IsRun, IsLinearization}
use Rattle.lin_history.specs.Problems.Configurations.{IsReachable}
use Rattle.lin_search.specs.NextCall.{IsNext}
use Rattle.lin_search.specs.AlikeLemmas.{AreAlike}
use Rattle.lin_ahead.specs.First.FirstProgress.{BeginsNone}
use Rattle.lin_ahead.specs.Values.Owners.{Leaves}
use Rattle.lin_ahead.specs.Values.Stranded.{IsLeftTo, IsOfCluster, AreOfCluster, AreCrossed, IsParted, AreStranded}
use Rattle.lin_ahead.proofs.first.NeedsLemmas.{joined, stands}
use Rattle.lin_ahead.proofs.values.ClusterLemmas.{Front, front_here, front_either, front_both, Changed, Owned, Member, owned_at, owner_changed, in_owners_front, none_changed, start_unchanged, none_cross, none_between}

same_owner : {w v : ℕ} → Some w ≡ Some v → v ≡ w
same_owner e = cc

module _ {State Op Reply : Type 0} (p : Problem State Op Reply) (exact : (a b : State) → p.same_state a b ≡ true → a ≡ b) (alike : AreAlike p p) (set : List Bool) (s : State) (reachable : IsReachable p set s) (c : ℕ) (t : State) (step : IsNext p set s c t) (differs : p.same_state t s ≡ false) where
  abbrev before : List ℕ
  before = reachable.run.0

  legal : Legal p p.start before s
  legal = subst (λ (m : State). Legal p p.start before m) (exact reachable.run.3.0 s reachable.run.3.2) reachable.run.3.1

  module _ (cs : List ℕ) (whole : IsCompletion p set s (c ∷ cs)) where
    abbrev l : List ℕ
    l = before ++ c ∷ cs

    linear : IsLinearization p l
    linear = joined p alike set s reachable (c ∷ cs) whole

    run : IsRun p l
    run = linear.continuation

    changed : Changed p l c
    changed = record { front = before; behind = cs; from = s; to = t; place = refl; before = legal; step = step.step; changed = differs }

    lifted_front : (x : ℕ) → has set x ≡ true → Front l x c
    lifted_front x inside = (before, cs, refl, (reachable.run.2 x).0 inside)

    not_lifted : (y : ℕ) → Front l y c → has set y ≡ true
    not_lifted y front = (reachable.run.2 y).1 (front_here run.distinct y c front before cs refl)

    other_call : (x : ℕ) → has set x ≡ true → c ≢ x
    other_call x inside e = (let out = step.outside in let here : has set c ≡ true = subst (λ (n : ℕ). has set n ≡ true) (sym e) inside in true≢false (sym here ∙ out))

    -- a call that is left to w is owned by it
    left_owned : (w y : ℕ) → IsLeftTo p set c w y → Owned p l w y
    left_owned w y (due, other) = elim (due.owned l at.0 at.1 linear at.2) [
      | inl k ↦ elim (due.inside k.owner k.one_of) [
        | inl inside ↦ absurd (cut k.owner inside (owned_at p l at.0 at.1 due.owners y at.2 k))
        | inr e ↦ subst (λ (n : ℕ). Owned p l n y) (same_owner e) (owned_at p l at.0 at.1 due.owners y at.2 k)
      ]
      | inr q ↦ absurd (start_unchanged p exact l run at.0 (y ∷ at.1) at.2 q.1 c changed (front_here run.distinct c y front at.0 at.1 at.2))
    ]
      where
        at : (early : List ℕ) × (late : List ℕ) × (l ≡ early ++ y ∷ late)
        at = stands l y linear due.completed

        there : In y l
        there = subst (λ (m : List ℕ). In y m) (sym at.2) (in_late y at.0 (y ∷ at.1) (inl refl))

        front : Front l c y
        front = elim (front_either run.distinct c y (λ e. other (sym e)) (in_late c before (c ∷ cs) (inl refl)) there) [
          | inl q ↦ q
          | inr q ↦ absurd (due.outside (inl (not_lifted y q)))
        ]

        cut : (x : ℕ) → has set x ≡ true → Owned p l x y → ⊥
        cut x inside k =
            front_both run.distinct x c (lifted_front x inside)
            (in_owners_front p l run.distinct x y k c front (other_call x inside) (λ i. none_changed p exact l run x y k c changed i))

    member : (w y : ℕ) → IsOfCluster p set c w y → Member p l w y
    member w y (inl e) = inl e
    member w y (inr left) = inr (left_owned w y left)

    owner_changes : (w y : ℕ) → IsOfCluster p set c w y → y ≢ w → Changed p l w
    owner_changes w y (inl e) other = absurd (other e)
    owner_changes w y (inr left) other = owner_changed p l w y (left_owned w y left)

    one_changes : (w x y : ℕ) → AreOfCluster p set c w x y → Changed p l w
    one_changes w x y (of_x, of_y, inl other) = owner_changes w x of_x other
    one_changes w x y (of_x, of_y, inr other) = owner_changes w y of_y other

    crossed : AreCrossed p set c → ⊥
    crossed k =
        none_cross p exact l run k.writer k.other k.first k.last k.early k.late
        (record { other = k.different; one = k.there; two = k.back })
        (one_changes k.writer k.first k.last k.one)
        (one_changes k.other k.early k.late k.two)
        (member k.writer k.first k.one.0) (member k.writer k.last k.one.1) (member k.other k.early k.two.0) (member k.other k.late k.two.1)

    parted : IsParted p set s c → ⊥
    parted k =
        let last = left_owned k.writer k.last k.stands.3 in
        none_between p exact l run k.writer k.first k.last k.between (owner_changed p l k.writer k.last last) (member k.writer k.first k.stands.2) (inr last) k.stands.0 k.stands.1
        (λ a reached can leaves. k.changes (subst (λ (m : State). Leaves p m k.between) (k.found a s reached (before, legal) can k.here) leaves))

  -- no completion begins with a call that strands others
  pub stranded_begins_none : AreStranded p set s c → BeginsNone p set s c
  stranded_begins_none (inl k) cs whole = crossed cs whole k
  stranded_begins_none (inr k) cs whole = parted cs whole k
