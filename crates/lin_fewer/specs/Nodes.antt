-- The configurations that a search has open, each with the one that it came from, and blocks: what pending calls alone lead to from
-- one of them (this project's own).
use Rattle.std.specs.Prelude.{◌≡◌, ℕ, ◌<◌, ◌≤◌, Bool, List, ◌∷◌, ◌++◌, Some, slice_get, length, IsTrue, IsFalse}
use Rattle.lin_history.specs.Problems.Problem.{Problem}
use Rattle.lin_history.specs.Problems.Precedence.{IsCompleted}
use Rattle.lin_history.specs.Problems.Continuations.{IsCompletion}
use Rattle.lin_history.specs.Problems.Configurations.{IsReachable}
use Rattle.lin_search.specs.CallSet.{with_call}
use Rattle.lin_search.specs.Configuration.{Configuration}
use Rattle.lin_search.specs.NextCall.{IsNext}
use Rattle.lin_search.specs.NeedlessCalls.{LeavesStates}
use Rattle.lin_fewer.specs.Fewer.{IsNoWorse}
use Rattle.lin_fewer.specs.Knowledge.{IsBorne}
use Rattle.lin_fewer.specs.Fronts.{IsFirstLeft}

-- A configuration, its first completed call that is left, the node and the call that it came from and by, whether that call alone was
-- tried there, and the base of its block.
pub record Node (State : Type 0) : Type 0 where
  pub config : Configuration State
  pub first : ℕ
  pub from : ℕ
  pub by : ℕ
  pub alone : Bool
  pub base : ℕ

-- No completion begins with the call.
abbrev pub NoneBegins : {State Op Reply : Type 0} → Problem State Op Reply → List Bool → State → ℕ → Type 0
NoneBegins p set s c = (l : List ℕ) → IsCompletion p set s (c ∷ l) → ⊥

-- No completion begins with a completed call below this one.
abbrev pub NoneBeginsBelow : {State Op Reply : Type 0} → Problem State Op Reply → Configuration State → ℕ → Type 0
NoneBeginsBelow p x next = (c : ℕ) → c < next → IsCompleted p c → NoneBegins p x.lifted x.state c

-- One of the nodes from the one on and below the other has a completion that is no longer.
abbrev pub HasShorter : {State Op Reply : Type 0} → Problem State Op Reply → List (Node State) → ℕ → ℕ → ℕ → Type 0
HasShorter {State} p nodes low high n =
    (k : ℕ) × (x : Node State) × (low ≤ k) × (k < high) × (slice_get nodes k ≡ Some x) × ((l : List ℕ) × IsCompletion p x.config.lifted x.config.state l × (length l ≤ n))

-- Where a completion begins with the call, one of those nodes has a shorter one.
abbrev pub IsCovered : {State Op Reply : Type 0} → Problem State Op Reply → List (Node State) → ℕ → ℕ → Configuration State → ℕ → Type 0
IsCovered p nodes low high x c = (l : List ℕ) → IsCompletion p x.lifted x.state (c ∷ l) → HasShorter p nodes low high (length l)

-- It came from that node by a call that can follow it.
pub record CameFrom {State Op Reply : Type 0} (p : Problem State Op Reply) (nodes : List (Node State)) (k : ℕ) (x : Node State) : Type 0 where
  pub less : x.from < k
  pub node : Node State
  pub at : slice_get nodes x.from ≡ Some node
  pub next : IsNext p node.config.lifted node.config.state x.by x.config.state
  pub lifted : x.config.lifted ≡ with_call node.config.lifted x.by
  pub block : (x.base ≡ k → ⊥) → node.base ≡ x.base

-- A node of a search: not complete, with its block, and it came from a node before.
pub record IsNode {State Op Reply : Type 0} (p : Problem State Op Reply) (nodes : List (Node State)) (k : ℕ) (x : Node State) : Type 0 where
  pub reachable : IsReachable p x.config.lifted x.config.state
  pub first : IsFirstLeft p x.config.lifted x.first
  pub base : x.base ≤ k
  pub own : (z : Node State) × (slice_get nodes x.base ≡ Some z) × (z.base ≡ x.base)
  pub came : 0 < k → CameFrom p nodes k x

-- The nodes of one block. At each below the index every call is covered, and no completion begins with a completed one.
pub record IsBlockTo {State Op Reply : Type 0} (p : Problem State Op Reply) (nodes : List (Node State)) (low high index : ℕ) : Type 0 where
  pub done : (k : ℕ) (x : Node State) → low ≤ k → k < index → slice_get nodes k ≡ Some x → (c : ℕ) → IsCovered p nodes low high x.config c
  pub none : (k : ℕ) (x : Node State) → low ≤ k → k < index → slice_get nodes k ≡ Some x → (c : ℕ) → IsCompleted p c → NoneBegins p x.config.lifted x.config.state c
  pub same : (k : ℕ) (x : Node State) → low ≤ k → k < high → slice_get nodes k ≡ Some x → x.base ≡ low

-- The base of a block, and how far the block below got before it.
pub record IsSuspended {State Op Reply : Type 0} (p : Problem State Op Reply) (nodes : List (Node State)) (b : ℕ) (x : Node State) : Type 0 where
  pub node : Node State
  pub at : slice_get nodes x.from ≡ Some node
  pub block : IsBlockTo p nodes node.base b x.from
  pub alone : IsTrue x.alone → LeavesStates p x.by
  pub below : IsFalse x.alone → NoneBeginsBelow p node.config x.by

-- Each is a node.
abbrev pub AreNodes : {State Op Reply : Type 0} → Problem State Op Reply → List (Node State) → Type 0
AreNodes {State} p nodes = (k : ℕ) (x : Node State) → slice_get nodes k ≡ Some x → IsNode p nodes k x

-- Where a search is: the base of its block, the node at hand, and below which call none of its completed calls begins a completion.
pub record IsSearch {State Op Reply : Type 0} (p : Problem State Op Reply) (nodes : List (Node State)) (base index next : ℕ) : Type 0 where
  pub are : AreNodes p nodes
  pub suspended : (b : ℕ) (x : Node State) → 0 < b → slice_get nodes b ≡ Some x → x.base ≡ b → IsSuspended p nodes b x
  pub block : IsBlockTo p nodes base (length nodes) index
  pub own : (z : Node State) × (slice_get nodes base ≡ Some z) × (z.base ≡ base)
  pub up : base ≤ index
  pub within : index ≤ length nodes
  pub below : (x : Node State) → slice_get nodes index ≡ Some x → NoneBeginsBelow p x.config next

-- This holds of the node at the index, if there is one.
abbrev pub IsAt : {State : Type 0} → List (Node State) → ℕ → (Node State → Type 0) → Type 0
IsAt {State} nodes index P = (x : Node State) → slice_get nodes index ≡ Some x → P x

-- One of the nodes from the one on and below the other is no worse than the configuration.
abbrev pub HasNoWorse : {State Op Reply : Type 0} → Problem State Op Reply → List (Node State) → ℕ → ℕ → Configuration State → Type 0
HasNoWorse {State} p nodes low high x =
    (k : ℕ) × (y : Node State) × (low ≤ k) × (k < high) × (slice_get nodes k ≡ Some y) × IsNoWorse p y.config.lifted y.config.state x.lifted x.state

-- The call is covered at the node of the index.
abbrev pub IsCoveredAt : {State Op Reply : Type 0} → Problem State Op Reply → List (Node State) → ℕ → ℕ → Type 0
IsCoveredAt p nodes index c = IsAt nodes index (λ x. IsCovered p nodes x.base (length nodes) x.config c)

-- More nodes, in the block of the one at the index.
pub record IsMoreOf {State Op Reply : Type 0} (p : Problem State Op Reply) (old new : List (Node State)) (index : ℕ) : Type 0 where
  pub grown : (more : List (Node State)) × (new ≡ old ++ more)
  pub are : AreNodes p new
  pub same : (x : Node State) → slice_get old index ≡ Some x → (k : ℕ) (z : Node State) → length old ≤ k → slice_get new k ≡ Some z → z.base ≡ x.base

-- It is what the call leads to from the configuration.
pub record IsChild {State Op Reply : Type 0} (p : Problem State Op Reply) (x : Configuration State) (c : ℕ) (child : Configuration State) : Type 0 where
  pub lifted : child.lifted ≡ with_call x.lifted c
  pub next : IsNext p x.lifted x.state c child.state
  pub reachable : IsReachable p child.lifted child.state

-- The call leads to a configuration that bears this.
pub record BearsBy {State Op Reply : Type 0} (p : Problem State Op Reply) (x : Configuration State) (c : ℕ) (borne : List Bool) : Type 0 where
  pub state : State
  pub next : IsNext p x.lifted x.state c state
  pub bears : IsBorne p (with_call x.lifted c) state borne
