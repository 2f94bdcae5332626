-- A call is no owner of another one where the cluster that the two would be of crosses another cluster, or is parted by a call.
use Rattle.std.proofs.Common.{◌≡◌, ℕ, Bool, true, false, List, [], ◌∷◌, ◌++◌, ◌⊎◌, inl, inr, sym, subst}
use Rattle.lin_history.specs.Problems.Problem.{Problem}
use Rattle.lin_history.specs.Problems.Lists.{In}
use Rattle.lin_history.specs.Problems.Precedence.{Before, IsCompleted}
use Rattle.lin_history.specs.Problems.Linearizations.{IsLinearization}
use Rattle.lin_ahead.specs.Values.Owners.{LastChange, IsOwnedBy}
use Rattle.lin_ahead.proofs.values.ClusterLemmas.{Changed, Owned, Member, Parts, Cross, before_front, front_here, owned_here, owned_in, owner_changed, owner_front, front_trans, start_unchanged, none_cross, none_between}

-- the list with its owner among others
pub one_more : {State Op Reply : Type 0} (p : Problem State Op Reply) (calls more early : List ℕ) (k : LastChange p calls early) → In k.owner more → LastChange p more early
one_more p calls more early k among = record {
  owner = k.owner;
  front = k.front;
  since = k.since;
  place = k.place;
  one_of = among;
  from = k.from;
  to = k.to;
  before = k.before;
  step = k.step;
  changed = k.changed;
  kept = k.kept;
}

module _ {State Op Reply : Type 0} (p : Problem State Op Reply) where
  -- In no linearization is call w the last in front of call g that changed the state.
  abbrev pub NeverOwns : ℕ → ℕ → Type 0
  NeverOwns w g = (l early late : List ℕ) → IsLinearization p l → l ≡ early ++ g ∷ late → LastChange p (w ∷ []) early → ⊥

  -- a call that never owns it may be taken out of the owners of a call
  pub narrowed : (ws vs : List ℕ) (b : Bool) (w g : ℕ) → ((x : ℕ) → In x ws → (x ≡ w) ⊎ In x vs) → IsOwnedBy p ws b g → NeverOwns w g → IsOwnedBy p vs b g
  narrowed ws vs b w g left owned never l early late whole eq = elim (owned l early late whole eq) [
    | inl k ↦ elim (left k.owner k.one_of) [
      | inl e ↦ absurd (never l early late whole eq (one_more p ws (w ∷ []) early k (inl e)))
      | inr among ↦ inl (one_more p ws vs early k among)
    ]
    | inr q ↦ inr q
  ]

  -- A completed call that w alone may own, or w itself.
  abbrev pub IsForced : ℕ → ℕ → Type 0
  IsForced w y = IsOwnedBy p (w ∷ []) false y × IsCompleted p y

  abbrev pub InCluster : ℕ → ℕ → Type 0
  InCluster w y = (y ≡ w) ⊎ IsForced w y

  -- Call y is of that cluster, or it is g.
  abbrev pub InClusterWith : ℕ → ℕ → ℕ → Type 0
  InClusterWith w g y = (y ≡ g) ⊎ InCluster w y

  in_cluster : (l : List ℕ) → IsLinearization p l → (w y : ℕ) → InCluster w y → Member p l w y
  in_cluster l whole w y (inl e) = inl e
  in_cluster l whole w y (inr (owned, done)) = inr (owned_in p l whole w y owned done)

  in_cluster_with : (l : List ℕ) → IsLinearization p l → (w g y : ℕ) → Owned p l w g → InClusterWith w g y → Member p l w y
  in_cluster_with l whole w g y k (inl e) = inr (subst (λ (n : ℕ). Owned p l w n) (sym e) k)
  in_cluster_with l whole w g y k (inr of) = in_cluster l whole w y of

  -- Some call is forced to u, so that u changes the state.
  abbrev pub OwnsOne : ℕ → Type 0
  OwnsOne u = (f : ℕ) × IsForced u f

  owns_changed : (l : List ℕ) → IsLinearization p l → (u : ℕ) → OwnsOne u → Changed p l u
  owns_changed l whole u (f, forced) = owner_changed p l u f (owned_in p l whole u f forced.0 forced.1)

  -- the start is none where a call of a cluster returned before the call was called
  pub narrowed_start : ((a b : State) → p.same_state a b ≡ true → a ≡ b) → (ws : List ℕ) (b : Bool) (g u r : ℕ) → IsOwnedBy p ws b g → OwnsOne u → InCluster u r → Before p r g → IsOwnedBy p ws false g
  narrowed_start exact ws b g u r owned owns of before l early late whole eq = elim (owned l early late whole eq) [
    | inl k ↦ inl k
    | inr q ↦ absurd (start_unchanged p exact l whole.continuation early (g ∷ late) eq q.1 u (owns_changed l whole u owns) (there (in_cluster l whole u r of)))
  ]
    where
      here : In r early
      here = before_front p l whole.continuation r g before early late eq

      there : Member p l u r → In u early
      there (inl e) = subst (λ (n : ℕ). In n early) e here
      there (inr k) = front_here whole.continuation.distinct u g (front_trans whole.continuation.distinct u r g (owner_front p l u r k) (early, late, eq, here)) early late eq

  module _ (exact : (a b : State) → p.same_state a b ≡ true → a ≡ b) where
    -- with call g the cluster of w would cross another one
    pub never_crossed : (w u g y1 y2 q r : ℕ) → Cross p w u y1 y2 q r → OwnsOne u → InClusterWith w g y1 → InClusterWith w g y2 → InCluster u q → InCluster u r → NeverOwns w g
    never_crossed w u g y1 y2 q r cross owns first last early_one late_one l early late whole eq k =
        let owned = owned_here p l early late w g eq k in
        none_cross p exact l whole.continuation w u y1 y2 q r cross (owner_changed p l w g owned) (owns_changed l whole u owns)
        (in_cluster_with l whole w g y1 owned first) (in_cluster_with l whole w g y2 owned last) (in_cluster l whole u q early_one) (in_cluster l whole u r late_one)

    -- with call g the cluster of w would be parted by a call that does not leave what the second of its calls found
    pub never_parted : (w g y1 y2 x : ℕ) → InClusterWith w g y1 → InClusterWith w g y2 → Before p y1 x → Before p x y2 → Parts p x y2 → NeverOwns w g
    never_parted w g y1 y2 x first last one two parts l early late whole eq k =
        let owned = owned_here p l early late w g eq k in
        none_between p exact l whole.continuation w y1 y2 x (owner_changed p l w g owned) (in_cluster_with l whole w g y1 owned first) (in_cluster_with l whole w g y2 owned last) one two parts
