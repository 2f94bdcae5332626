-- What putting a member into a list, or taking one out, does to it and to its rest.
use Rattle.std.specs.Prelude.{◌≡◌, ◌+◌, ◌<◌, ◌≤◌, ℕ, not, nat_lt, length, slice_index_or, slice_set, List, [], ◌∷◌, ◌++◌, Option, Some, None, take, drop, insert, remove, refl}
use Rattle.std.proofs.Common.{arith, Bool, true, false, zero, suc, ap, sym, subst, ◌∙◌}
use Rattle.std.specs.List.{filter, list_any, position, position_or_len}
use Rattle.std.proofs.lemmas.List.{set_split}
use Rattle.lin_object.proofs.BoolLemmas.{not_both}

-- answers
some_same : {a b : ℕ} → ◌≡◌ {A = Option ℕ} (Some a) (Some b) → a ≡ b
some_same e = cc

none_some : {a : ℕ} → ◌≡◌ {A = Option ℕ} None (Some a) → ⊥
none_some e = cc

module _ {X : Type 0} where
  -- what is put in and taken out again leaves the list as it was
  pub removed_again : (xs : List X) (k : ℕ) (x : X) → k ≤ length xs → remove (insert xs k x) k ≡ xs
  removed_again xs zero x within = refl
  removed_again [] (suc k) x within = absurd (omega (arith, within))
  removed_again (y ∷ ys) (suc k) x within = ap (λ (l : List X). y ∷ l) (removed_again ys k x (omega (arith, within)))

  pub inserted_within : (xs : List X) (k : ℕ) (x : X) → k ≤ length xs → k < length (insert xs k x)
  inserted_within xs zero x within = omega arith
  inserted_within [] (suc k) x within = absurd (omega (arith, within))
  inserted_within (y ∷ ys) (suc k) x within = let h = inserted_within ys k x (omega (arith, within)) in omega (arith, h)

  pub removed_within : (xs : List X) (k : ℕ) → k < length xs → k ≤ length (remove xs k)
  removed_within [] k within = absurd (omega (arith, within))
  removed_within (y ∷ ys) zero within = omega arith
  removed_within (y ∷ ys) (suc k) within = let h = removed_within ys k (omega (arith, within)) in omega (arith, h)

  -- the rest of a list that a member is put into, or taken out of
  pub drop_insert : (r : ℕ) (xs : List X) (j k : ℕ) (x : X) → j ≡ r + k → r ≤ length xs → drop r (insert xs j x) ≡ insert (drop r xs) k x
  drop_insert zero xs j k x e within = ap (λ (i : ℕ). insert xs i x) (omega (arith, e))
  drop_insert (suc r) [] j k x e within = absurd (omega (arith, within))
  drop_insert (suc r) (y ∷ ys) zero k x e within = absurd (omega (arith, e))
  drop_insert (suc r) (y ∷ ys) (suc j) k x e within = drop_insert r ys j k x (omega (arith, e)) (omega (arith, within))

  pub drop_remove : (r : ℕ) (xs : List X) (j k : ℕ) → j ≡ r + k → r ≤ length xs → drop r (remove xs j) ≡ remove (drop r xs) k
  drop_remove zero xs j k e within = ap (λ (i : ℕ). remove xs i) (omega (arith, e))
  drop_remove (suc r) [] j k e within = absurd (omega (arith, within))
  drop_remove (suc r) (y ∷ ys) zero k e within = absurd (omega (arith, e))
  drop_remove (suc r) (y ∷ ys) (suc j) k e within = drop_remove r ys j k (omega (arith, e)) (omega (arith, within))

  pub get_behind : (r : ℕ) (xs : List X) (j k : ℕ) (d : X) → j ≡ r + k → slice_index_or xs j d ≡ slice_index_or (drop r xs) k d
  get_behind zero xs j k d e = let same : j ≡ k = omega (arith, e) in ap (λ (i : ℕ). slice_index_or xs i d) same
  get_behind (suc r) [] j k d e = refl
  get_behind (suc r) (y ∷ ys) zero k d e = absurd (omega (arith, e))
  get_behind (suc r) (y ∷ ys) (suc j) k d e = get_behind r ys j k d (omega (arith, e))

  -- the rest of the rest
  drop_next : (r : ℕ) (xs : List X) → drop (suc r) xs ≡ drop 1 (drop r xs)
  drop_next zero xs = refl
  drop_next (suc r) [] = refl
  drop_next (suc r) (y ∷ ys) = drop_next r ys

  pub drop_more : (r : ℕ) (xs : List X) → drop (r + 1) xs ≡ drop 1 (drop r xs)
  drop_more r xs = let next : r + 1 ≡ suc r = omega arith in ap (λ (i : ℕ). drop i xs) next ∙ drop_next r xs

  -- what is taken out and put in again is where it was
  pub inserted_again : (xs : List X) (k : ℕ) (x : X) → k < length xs → x ≡ slice_index_or xs k x → insert (remove xs k) k x ≡ xs
  inserted_again [] k x within e = absurd (omega (arith, within))
  inserted_again (y ∷ ys) zero x within e = ap (λ (z : X). z ∷ ys) e
  inserted_again (y ∷ ys) (suc k) x within e = ap (λ (l : List X). y ∷ l) (inserted_again ys k x (omega (arith, within)) e)

  pub set_again : (xs : List X) (k : ℕ) (x y : X) → k < length xs → y ≡ slice_index_or xs k y → slice_set (slice_set xs k x) k y ≡ xs
  set_again [] k x y within e = absurd (omega (arith, within))
  set_again (z ∷ zs) zero x y within e = ap (λ (w : X). w ∷ zs) e
  set_again (z ∷ zs) (suc k) x y within e = ap (λ (l : List X). z ∷ l) (set_again zs k x y (omega (arith, within)) e)

  pub set_there : (xs : List X) (k : ℕ) (x : X) → k < length xs → slice_set xs k x ≡ take k xs ++ x ∷ drop (k + 1) xs
  set_there xs k x within = let next : k + 1 ≡ suc k = omega arith in set_split xs k x within ∙ ap (λ (i : ℕ). take k xs ++ x ∷ drop i xs) (sym next)

  -- what does not pass can't be left out by passing
  pub kept_all : (passes : X → Bool) (xs : List X) → list_any passes xs ≡ false → filter (λ x. not (passes x)) xs ≡ xs
  kept_all passes [] e = refl
  kept_all passes (x ∷ xs) e = go (passes x) refl (kept_all passes xs)
    where
      go : (b : Bool) → passes x ≡ b → (list_any passes xs ≡ false → filter (λ x. not (passes x)) xs ≡ xs) → filter (λ x. not (passes x)) (x ∷ xs) ≡ x ∷ xs
      go true q rest = absurd (not_both true refl (rw q at e))
      go false q rest = rw q (ap (λ (l : List X). x ∷ l) (rest (rw q at e)))

  -- one member alone that passes is left out by taking its place out
  without_one : (passes : X → Bool) (xs : List X) (k : ℕ) → position_or_len passes xs ≡ k → k < length xs → list_any passes (drop (suc k) xs) ≡ false → filter (λ x. not (passes x)) xs ≡ remove xs k
  without_one passes [] k at within e = absurd (omega (arith, within))
  without_one passes (x ∷ xs) zero at within e = go (passes x) refl
    where
      go : (b : Bool) → passes x ≡ b → filter (λ x. not (passes x)) (x ∷ xs) ≡ xs
      go true q = rw q (kept_all passes xs e)
      go false q = let h = rw q at at in absurd (omega (arith, h))
  without_one passes (x ∷ xs) (suc k) at within e = go (passes x) refl (without_one passes xs k)
    where
      go : (b : Bool) → passes x ≡ b → (position_or_len passes xs ≡ k → k < length xs → list_any passes (drop (suc k) xs) ≡ false → filter (λ x. not (passes x)) xs ≡ remove xs k) → filter (λ x. not (passes x)) (x ∷ xs) ≡ x ∷ remove xs k
      go true q rest = let h = rw q at at in absurd (omega (arith, h))
      go false q rest = let h = rw q at at in rw q (ap (λ (l : List X). x ∷ l) (rest (omega (arith, h)) (omega (arith, within)) e))

  pub without_only : (passes : X → Bool) (xs : List X) (k : ℕ) → position_or_len passes xs ≡ k → k < length xs → list_any passes (drop (k + 1) xs) ≡ false → filter (λ x. not (passes x)) xs ≡ remove xs k
  without_only passes xs k at within e =
      let next : k + 1 ≡ suc k = omega arith in
      without_one passes xs k at within (subst (λ (i : ℕ). list_any passes (drop i xs) ≡ false) next e)

  -- what `position` found is the first place
  pub place_found : (passes : X → Bool) (xs : List X) (place : ℕ) → position passes xs ≡ Some place → position_or_len passes xs ≡ place
  place_found passes xs place e = go (nat_lt (position_or_len passes xs) (length xs)) refl
    where
      go : (b : Bool) → nat_lt (position_or_len passes xs) (length xs) ≡ b → position_or_len passes xs ≡ place
      go true q = some_same (rw q at e)
      go false q = absurd (none_some (rw q at e))
