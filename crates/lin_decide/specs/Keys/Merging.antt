-- Orders of keys, and the list that a merge makes of them (this project's own).
use Rattle.std.specs.Prelude.{◌≡◌, ℕ, ◌<◌, ◌≤◌, Some, List, [], ◌∷◌, ◌++◌, length, drop, slice_index, slice_index_or}
use Rattle.lin_history.specs.Problems.Lists.{In, IsDistinct}
use Rattle.lin_history.specs.Problems.Problem.{Problem}
use Rattle.lin_history.specs.Problems.LegalLists.{Legal, next}
use Rattle.lin_history.specs.Problems.Precedence.{IsCompleted}
use Rattle.lin_history.specs.Problems.Linearizations.{IsLinearization}
use Rattle.lin_history.specs.Locality.OrderLemmas.{KeepsTime}
use Rattle.lin_decide.specs.Keys.Products.{with_key}

-- The order of the key; none where there is no such key.
abbrev pub order_at : List (List ℕ) → ℕ → List ℕ
order_at orders k = slice_index_or orders k []

-- The order of a key's calls has all of them; and where some linearization of the whole, cut down to the key, leaves it, it
-- goes on with no smaller call.
pub record IsKeyOrder {State Op Reply : Type 0} (p : Problem State Op Reply) (key : ℕ → ℕ) (k : ℕ) (order : List ℕ) : Type 0 where
  pub there : (c : ℕ) → c < length p.calls → key c ≡ k → In c order
  pub least : (l : List ℕ) → IsLinearization p l → (early : List ℕ) (h : ℕ) (rest : List ℕ) (c : ℕ) (late : List ℕ) → order ≡ early ++ h ∷ rest → with_key key k l ≡ early ++ c ∷ late → h ≤ c

-- The list takes at each place the least of the calls with which the keys' orders go on, and ends as soon as every completed
-- call is there.
pub record IsMerged {State Op Reply : Type 0} (p : Problem State Op Reply) (key : ℕ → ℕ) (orders : ℕ → List ℕ) (l : List ℕ) : Type 0 where
  pub fronts : (k : ℕ) → (rest : List ℕ) × (orders k ≡ with_key key k l ++ rest)
  pub least : (early : List ℕ) (x : ℕ) (late : List ℕ) → l ≡ early ++ x ∷ late → (k h : ℕ) (rest : List ℕ) → orders k ≡ with_key key k early ++ h ∷ rest → x ≤ h
  pub ends : (early : List ℕ) (x : ℕ) (late : List ℕ) → l ≡ early ++ x ∷ late → ((c : ℕ) → IsCompleted p c → In c early) → ⊥

-- The order of a key's calls is distinct, legal from the key's state, and keeps real time.
pub record IsKeyRun {State Op Reply : Type 0} (p : Problem State Op Reply) (only : State → State) (order : List ℕ) : Type 0 where
  pub distinct : IsDistinct order
  pub legal : (t : State) × Legal p (only p.start) order t
  pub time : KeepsTime p order

-- The list takes at each place the least of the calls with which the keys' orders go on: a merge on its way.
pub record IsMerging (key : ℕ → ℕ) (orders : ℕ → List ℕ) (l : List ℕ) : Type 0 where
  pub fronts : (k : ℕ) → (rest : List ℕ) × (orders k ≡ with_key key k l ++ rest)
  pub least : (early : List ℕ) (x : ℕ) (late : List ℕ) → l ≡ early ++ x ∷ late → (k h : ℕ) (rest : List ℕ) → orders k ≡ with_key key k early ++ h ∷ rest → x ≤ h

-- Each call has a key with an order, and each order has calls of its key alone, all of which are there.
pub record AreOrdersOfKeys (numbers : List ℕ) (orders : List (List ℕ)) : Type 0 where
  pub within : (c : ℕ) → c < length numbers → slice_index numbers c < length orders
  pub own : (k c : ℕ) → In c (order_at orders k) → slice_index numbers c ≡ k
  pub below : (k c : ℕ) → In c (order_at orders k) → c < length numbers

-- A merge that has come to its end: no order goes on.
pub record IsMergedWhole (numbers : List ℕ) (orders : List (List ℕ)) (l : List ℕ) : Type 0 where
  pub merging : IsMerging (slice_index numbers) (order_at orders) l
  pub whole : (k : ℕ) → order_at orders k ≡ with_key (slice_index numbers) k l

-- From the place on the calls of the order were put behind, up to the first that is greater than the call, where it goes on.
pub record IsTakenUpTo (order : List ℕ) (place call : ℕ) (old new : List ℕ) (next : ℕ) : Type 0 where
  pub taken : List ℕ
  pub is : drop place order ≡ taken ++ drop next order
  pub behind : new ≡ old ++ taken
  pub within : next ≤ length order
  pub low : (c : ℕ) → In c taken → c ≤ call
  pub high : (h : ℕ) (rest : List ℕ) → drop next order ≡ h ∷ rest → call < h

-- After every legal list each call that has not returned has a step.
abbrev pub IsTotal : {State Op Reply : Type 0} → Problem State Op Reply → Type 0
IsTotal {State} p = (l : List ℕ) (s : State) → Legal p p.start l s → (c : ℕ) → c < length p.calls → (IsCompleted p c → ⊥) → (t : State) × (next p s c ≡ Some t)
