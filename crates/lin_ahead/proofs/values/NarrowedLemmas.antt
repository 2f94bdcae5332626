-- Rows of owners stay right where owners are taken out that would cross a cluster, or be parted.
use Rattle.std.proofs.Common.{◌≡◌, ℕ, zero, suc, ◌+◌, ◌<◌, ◌≤◌, Bool, true, false, true≢false, Some, List, [], ◌∷◌, ◌++◌, length, ◌⊎◌, inl, inr, refl, sym, ◌∙◌, ap, subst, arith}
use Rattle.std.specs.Prelude.{ℤ, slice_get, slice_set, IsTrue}
use Rattle.std.proofs.lemmas.Bool.{cases_lt}
use Rattle.std.proofs.lemmas.Option.{slice_get_within}
use Rattle.lin_object.specs.declared.op.Op.{Op}
use Rattle.lin_object.specs.declared.reply.Reply.{Reply}
use Rattle.lin_object.specs.declared.state.ObjState.{ObjState}
use Rattle.lin_history.specs.declared.problems.problem.ProblemCall.{ProblemCall}
use Rattle.lin_history.specs.OptionLemmas.{some_and, and_some}
use Rattle.lin_history.specs.Problems.Problem.{Problem}
use Rattle.lin_history.specs.Problems.Lists.{In}
use Rattle.lin_history.specs.Problems.ListLemmas.{in_early, in_late}
use Rattle.lin_history.specs.Problems.Linearizations.{IsLinearization}
use Rattle.lin_ahead.specs.declared.values.owners.Owners.{Owners}
use Rattle.lin_ahead.specs.Values.Register.{IsOfRegister, value_found}
use Rattle.lin_ahead.specs.Values.Owners.{Leaves, LastChange, AllLeave, IsOwnedBy, AreOwners}
use Rattle.lin_ahead.specs.Values.PossibleOwners.{Breaks, AreOwnerRows, IsTold}
use Rattle.lin_ahead.specs.Values.TakenTwice.{IsSoleOwner}
use Rattle.lin_ahead.specs.Values.Clusters.{OfCluster}
use Rattle.lin_ahead.specs.Values.Clusters as rows_of
use Rattle.lin_ahead.specs.Values.Narrowing.{ShowsFound, OfClusterWith, AreOfOther, IsTakenOut, IsNarrowedRow, AreRightRows, AreNarrowed}
use Rattle.lin_ahead.proofs.values.RegisterLemmas.{finds_completed}
use Rattle.lin_ahead.proofs.values.OwnerLemmas.{are_owners, broken}
use Rattle.lin_ahead.proofs.values.FoundStateLemmas.{found_here}
use Rattle.lin_ahead.proofs.values.ClusterLemmas.{Parts}
use Rattle.lin_ahead.proofs.values.NarrowLemmas.{one_more, NeverOwns, IsForced, InCluster, InClusterWith, OwnsOne, narrowed_start, never_crossed, never_parted}
use Rattle.lin_ahead.proofs.values.NumberLemmas.{written}

one : (v w : ℕ) → Some v ≡ Some w → v ≡ w
one v w e = cc

in_at : (l : List ℕ) (w : ℕ) → In w l → (i : ℕ) × (slice_get l i ≡ Some w)
in_at [] w h = absurd h
in_at (x ∷ xs) w (inl e) = (0, ap Some (sym e))
in_at (x ∷ xs) w (inr h) = let k = in_at xs w h in (suc k.0, k.1)

-- ---- the owners that are left

module _ (calls : List (ProblemCall Op Reply)) (rows : List Owners) (g : ℕ) where
  -- Each of the first owners, so many, is left, or is taken out.
  abbrev pub LeftTo : ℕ → List ℕ → List ℕ → Type 0
  LeftTo at owners left = (i w : ℕ) → i < at → slice_get owners i ≡ Some w → In w left ⊎ IsTakenOut calls rows w g

  pub left_kept : (at : ℕ) (owners left : List ℕ) (w : ℕ) → slice_get owners at ≡ Some w → LeftTo at owners left → LeftTo (at + 1) owners (left ++ w ∷ [])
  left_kept at owners left w there so_far i v less here = elim (cases_lt i at) [
    | inl below ↦ elim (so_far i v below here) [
      | inl h ↦ inl (in_early v left (w ∷ []) h)
      | inr h ↦ inr h
    ]
    | inr more ↦ (
        let same : i ≡ at = omega (arith, less, more) in
        let is : Some w ≡ Some v = sym there ∙ subst (λ (j : ℕ). slice_get owners j ≡ Some v) same here in
        inl (in_late v left (w ∷ []) (inl (sym (one w v is)))))
  ]

  pub left_out : (at : ℕ) (owners left : List ℕ) (w : ℕ) → slice_get owners at ≡ Some w → IsTakenOut calls rows w g → LeftTo at owners left → LeftTo (at + 1) owners left
  left_out at owners left w there out so_far i v less here = elim (cases_lt i at) [
    | inl below ↦ so_far i v below here
    | inr more ↦ (
        let same : i ≡ at = omega (arith, less, more) in
        let is : Some w ≡ Some v = sym there ∙ subst (λ (j : ℕ). slice_get owners j ≡ Some v) same here in
        inr (subst (λ (n : ℕ). IsTakenOut calls rows n g) (one w v is) out))
  ]

  pub left_all : (at : ℕ) (owners left : List ℕ) → length owners ≤ at → LeftTo at owners left → (w : ℕ) → In w owners → In w left ⊎ IsTakenOut calls rows w g
  left_all at owners left end all w among =
      let k = in_at owners w among in
      let within = slice_get_within owners k.0 w k.1 in
      all k.0 w (omega (arith, within, end)) k.1

-- ---- rows that are right

-- the first rows are right
pub right_rows : (calls : List (ProblemCall Op Reply)) (start : ℤ) (rows : List Owners) → AreOwnerRows calls start rows → AreRightRows calls start rows
right_rows calls start rows told = record {
  owned = λ p same of exact. are_owners of exact rows (subst (λ (l : List (ProblemCall Op Reply)). AreOwnerRows l start rows) (sym same) told);
  found = λ g row there is. (
      let k = told g row there is in (
        k.found,
        and_some (slice_get calls g) (λ (x : ProblemCall Op Reply). value_found x.op x.returned ≡ Some k.found) k.finds.0 k.finds.1 k.finds.2,
      ));
}

module _ {p : Problem ObjState Op Reply} {start : ℤ} (of : IsOfRegister p start) (exact : (s t : ObjState) → p.same_state s t ≡ true → s ≡ t) (rows : List Owners) (right : AreRightRows p.calls start rows) where
  owners : AreOwners p rows
  owners = right.owned p refl of exact

  row_owned : (g : ℕ) (row : Owners) → slice_get rows g ≡ Some row → IsTrue row.are_told → (calls : List ℕ) → row.calls.items ≡ calls → row.at_start ≡ false → IsOwnedBy p calls false g
  row_owned g row there is calls same none = subst (λ (b : Bool). IsOwnedBy p calls b g) none (subst (λ (l : List ℕ). IsOwnedBy p l row.at_start g) same (owners g row there is))

  forced : (w y : ℕ) → rows_of.IsForced rows w y → IsForced p w y
  forced w y is =
      let row = some_and (slice_get rows y) (λ o. IsSoleOwner o (Some w)) is in
      let k = right.found y row.0 row.1 row.2.0 in (
        row_owned y row.0 row.1 row.2.0 (w ∷ []) row.2.1 row.2.2,
        finds_completed of y k.0 (some_and (slice_get p.calls y) (λ (x : ProblemCall Op Reply). value_found x.op x.returned ≡ Some k.0) k.1),
      )

  in_cluster : (w y : ℕ) → OfCluster rows w y → InCluster p w y
  in_cluster w y (inl e) = inl e
  in_cluster w y (inr is) = inr (forced w y is)

  in_cluster_with : (w g y : ℕ) → OfClusterWith rows w g y → InClusterWith p w g y
  in_cluster_with w g y (inl e) = inl e
  in_cluster_with w g y (inr is) = inr (in_cluster w y is)

  owns : (u c d : ℕ) → AreOfOther rows u c d → OwnsOne p u
  owns u c d (one_of, other_of, inl is) = (c, forced u c is)
  owns u c d (one_of, other_of, inr is) = (d, forced u d is)

  -- a call that breaks a value never leaves a state in which a call can follow that found the value
  parts : (x y : ℕ) (v : ℤ) → Breaks p.calls x v → ShowsFound p.calls v y → Parts p x y
  parts x y v breaks_it found s reached can leaves =
      let finds = some_and (slice_get p.calls y) (λ (z : ProblemCall Op Reply). value_found z.op z.returned ≡ Some v) found in
      broken of exact v x breaks_it (subst (λ (t : ObjState). Leaves p t x) (found_here of y v finds s reached can) leaves)

  never : (w g : ℕ) → IsTakenOut p.calls rows w g → NeverOwns p w g
  never w g (inl k) =
      never_crossed p exact w k.other g k.first k.last k.early k.late
      (record { other = k.different; one = k.there; two = k.back })
      (owns k.other k.early k.late k.others)
      (in_cluster_with w g k.first k.is_first) (in_cluster_with w g k.last k.is_last)
      (in_cluster k.other k.early k.others.0) (in_cluster k.other k.late k.others.1)
  never w g (inr k) =
      never_parted p exact w g k.first k.last k.between (in_cluster_with w g k.first k.is_first) (in_cluster_with w g k.last k.is_last) k.there k.on
      (parts k.between k.last k.value k.broken k.found)

  -- the owners that are left own the call
  narrowed_owned : (g : ℕ) (row : Owners) → IsNarrowedRow p.calls rows g row → IsOwnedBy p row.calls.items row.at_start g
  narrowed_owned g row k l early late whole eq = elim (by_old g row k l early late whole eq) [
    | inl last ↦ elim (k.each last.owner last.one_of) [
      | inl among ↦ inl (one_more p k.old.calls.items row.calls.items early last among)
      | inr out ↦ absurd (never last.owner g out l early late whole eq (one_more p k.old.calls.items (last.owner ∷ []) early last (inl refl)))
    ]
    | inr q ↦ inr q
  ]
    where
      by_old : (g : ℕ) (row : Owners) (k : IsNarrowedRow p.calls rows g row) (l early late : List ℕ) → IsLinearization p l → l ≡ early ++ g ∷ late → LastChange p k.old.calls.items early ⊎ (IsTrue row.at_start × AllLeave p p.start early)
      by_old g row k l early late whole eq = elim (owners g k.old k.there k.told l early late whole eq) [
        | inl last ↦ inl last
        | inr q ↦ elim (k.start q.0) [
          | inl is ↦ inr (is, q.1)
          | inr past ↦ elim (narrowed_start p exact k.old.calls.items k.old.at_start g past.owner past.early (owners g k.old k.there k.told) (past.member, forced past.owner past.member past.forced) (in_cluster past.owner past.early past.is_early) past.there l early late whole eq) [
            | inl last ↦ inl last
            | inr none ↦ absurd (true≢false (sym none.0))
          ]
        ]
      ]

  pub owners_narrowed : (g : ℕ) (row : Owners) → IsNarrowedRow p.calls rows g row → AreOwners p (slice_set rows g row)
  owners_narrowed g row k h other there is = elim (written rows g h row other there) [
    | inl q ↦ subst (λ (n : ℕ). IsOwnedBy p other.calls.items other.at_start n) (sym q.0) (subst (λ (o : Owners). IsOwnedBy p o.calls.items o.at_start g) q.1 (narrowed_owned g row k))
    | inr q ↦ owners h other q.1 is
  ]

-- rows stay right if one of them is narrowed
right_narrowed : (calls : List (ProblemCall Op Reply)) (rows : List Owners) (g : ℕ) (row : Owners) → IsNarrowedRow calls rows g row → (start : ℤ) → AreRightRows calls start rows → AreRightRows calls start (slice_set rows g row)
right_narrowed calls rows g row k start right = record {
  owned = λ p same of exact.
      owners_narrowed of exact rows (subst (λ (l : List (ProblemCall Op Reply)). AreRightRows l start rows) (sym same) right) g row (subst (λ (l : List (ProblemCall Op Reply)). IsNarrowedRow l rows g row) (sym same) k);
  found = λ h other there is. elim (written rows g h row other there) [
    | inl q ↦ (
        let f = right.found g k.old k.there k.told in
        (f.0, subst (λ (n : ℕ). ShowsFound calls f.0 n) (sym q.0) f.1))
    | inr q ↦ right.found h other q.1 is
  ];
}

-- what was told stays told
told_set : (rows : List Owners) (g : ℕ) (row : Owners) (h : ℕ) → IsTrue row.are_told → IsTold rows h → IsTold (slice_set rows g row) h
told_set [] g row h told is = is
told_set (x ∷ xs) zero row zero told is = and_some (Some row) (λ (o : Owners). IsTrue o.are_told) row refl told
told_set (x ∷ xs) zero row (suc h) told is = is
told_set (x ∷ xs) (suc g) row zero told is = is
told_set (x ∷ xs) (suc g) row (suc h) told is = told_set xs g row h told is

-- rows are narrowed if one of them is
pub rows_narrowed : (calls : List (ProblemCall Op Reply)) (rows : List Owners) (g : ℕ) (row : Owners) → IsNarrowedRow calls rows g row → AreNarrowed calls rows (slice_set rows g row)
rows_narrowed calls rows g row k = (
  right_narrowed calls rows g row k,
  λ few h v found. elim (few h v found) [
    | inl is ↦ inl (told_set rows g row h k.still is)
    | inr many ↦ inr many
  ],
)
