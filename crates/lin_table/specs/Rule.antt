-- The rule of a table's words: a word is 0 where its shard is home, and 1 where exactly one view has it out (this project's own).
use Rattle.std.specs.Prelude.{◌≡◌, ℕ, ◌*◌, ◌<◌, ◌≤◌, Bool, List, [], length, slice_index, All, Option, Some, None}
use Rattle.std.specs.Borrow.{Bor}
use mathlib.Core.Option.{Option as Maybe, some}
use lib.ListN.{get_elem?}
use Rattle.atomic_table.specs.Table.{State as TableState}
use Rattle.lin_history.specs.Problems.ProblemParts.{ProblemParts}
use Rattle.lin_search.specs.declared.longest.Longest.{Longest}
use Rattle.lin_search.specs.Configuration.{Configuration}
use Rattle.lin_search.specs.Store.{Store, Holds}
use Rattle.lin_table.specs.declared.rule.Entry.{Entry}
use Rattle.lin_table.specs.declared.rule.ShardOut.{ShardOut}
use Rattle.lin_table.specs.declared.rule.View.{View}
use Rattle.lin_table.specs.declared.rule.Plan.{Plan}
use Rattle.lin_table.specs.Home.{home_of}
use Rattle.lin_table.specs.Totals.{total, once_below, one_if_same}

-- the pairs of a shard, in order of storing
abbrev pub Pairs : Type 0 → Type 0
Pairs S = List (Configuration S × Longest)

-- the pairs of the memo that a table is over, where there is one: what was known before it was made
abbrev pub known_in : {O S A R : Type 0} → Option (Bor (Store O S A R)) → Pairs S
known_in (Some memo) = memo.now.pairs
known_in None = []

-- 1 where the shard k is out, and 0 else
abbrev pub out_at : {O S A R : Type 0} → ℕ → Option (ShardOut O S A R) → ℕ
out_at k (Some o) = one_if_same o.shard k
out_at k None = 0

module _ {O S A R : Type 0} where
  -- how many views have the shard k out
  abbrev pub outs : ℕ → List (View O S A R) → ℕ
  outs k = total (λ (v : View O S A R). out_at k v.out)

  -- how often an entry names the place p of the shard k
  abbrev pub named_by : ℕ → ℕ → Entry O S A R → ℕ
  named_by k p e = one_if_same e.shard k * one_if_same e.place p

  -- how often a view names the place p of the shard k
  abbrev pub names_of : ℕ → ℕ → View O S A R → ℕ
  names_of k p v = total (named_by k p) v.entries

  -- at the place of an entry is its configuration
  abbrev pub Stands : (ℕ → Pairs S) → ℕ → Entry O S A R → Type 0
  Stands lists n e = (e.shard < n) × ((pair : Configuration S × Longest) × (get_elem? (lists e.shard) e.place ≡ some pair) × (pair.0 ≡ e.config))

  -- what holds of one view by itself: a shard that it has out has the pairs of that shard, its entries say what is where, and a view with no part is empty
  pub record Fits (problem : ProblemParts O S A R) (n : ℕ) (lists : ℕ → Pairs S) (v : View O S A R) : Type 0 where
    pub problem_is : 0 < v.parts → v.problem ≡ Some problem
    pub out : (o : ShardOut O S A R) → v.out ≡ Some o → (o.shard < n) × (o.pairs ≡ lists o.shard)
    pub entries : (j : ℕ) (e : Entry O S A R) → get_elem? v.entries j ≡ some e → Stands lists n e
    pub empty : v.parts ≡ 0 → (v.entries ≡ []) × (v.out ≡ None)

  -- the shard is home: it names the problem, and has these pairs
  pub record IsHome (problem : ProblemParts O S A R) (pairs : Pairs S) (place : Maybe (Maybe (Store O S A R))) : Type 0 where
    pub shard : Store O S A R
    pub is_there : place ≡ some (some shard)
    pub problem_is : shard.problem ≡ problem
    pub pairs_are : shard.pairs ≡ pairs

  -- what holds of the words, the shards at home and all views together, between any two steps; each shard has its list of pairs, at home or out
  pub record RuleHolds (problem : ProblemParts O S A R) (n hands : ℕ) (words : List ℕ) (homes : List (Maybe (Store O S A R))) (views : List (View O S A R)) (lists : ℕ → Pairs S) : Type 0 where
    pub long : (length words ≡ n) × (length homes ≡ n)
    pub parts : total (λ (v : View O S A R). v.parts) views ≡ hands
    -- a shard's word says how many views have it out, which is at most one
    pub words_are : (k : ℕ) → k < n → slice_index words k ≡ outs k views
    pub at_most_one : (k : ℕ) → k < n → outs k views ≤ 1
    pub at_home : (k : ℕ) → k < n → outs k views ≡ 0 → IsHome problem (lists k) (get_elem? homes k)
    pub each : (id : ℕ) (v : View O S A R) → get_elem? views id ≡ some v → Fits problem n lists v
    -- all entries together name each place of each list once, and no other
    pub names : (k p : ℕ) → k < n → total (names_of k p) views ≡ once_below p (length (lists k))
    -- each configuration is in its home
    pub belongs : (k : ℕ) → k < n → All (λ (pair : Configuration S × Longest). home_of pair.0.lifted n ≡ k) (lists k)

  -- no configuration of these shards was known before
  abbrev pub AreFresh : (S → S → Bool) → Plan O S A R → (ℕ → Pairs S) → Type 0
  AreFresh same plan lists = (k : ℕ) → k < plan.shards → All (λ (pair : Configuration S × Longest). Holds same (known_in plan.known) pair.0.lifted pair.0.state → ⊥) (lists k)

  -- the rule: there is a list for each shard of which it holds
  abbrev pub KeepsRule : (S → S → Bool) → Plan O S A R → TableState (Store O S A R) (View O S A R) → Type 0
  KeepsRule same plan s = (lists : ℕ → Pairs S) × RuleHolds plan.problem.now plan.shards plan.hands s.words s.homes s.views lists × AreFresh same plan lists

  -- a view by its parts
  abbrev pub view : Option (ProblemParts O S A R) → ℕ → List (Entry O S A R) → Option (ShardOut O S A R) → View O S A R
  view problem parts entries out = record { problem = problem; parts = parts; entries = entries; out = out }

  -- the view of the first hand, which has a part for each hand
  abbrev pub opening_view : Plan O S A R → View O S A R
  opening_view plan = view (Some plan.problem.now) plan.hands [] None
