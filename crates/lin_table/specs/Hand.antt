-- What contracts see of a table and of its hands (this project's own).
use Rattle.std.specs.Prelude.{◌≡◌, ℕ, ◌<◌, ◌≤◌, Bool, List, [], ◌∷◌, ◌++◌, length, Option, Some, None}
use Rattle.atomic_table.specs.Seated.{TableId}
use Rattle.std.specs.Borrow.{Bor}
use Rattle.lin_history.specs.Problems.Problem.{problem_of}
use Rattle.lin_history.specs.Problems.ProblemParts.{ProblemParts}
use Rattle.lin_search.specs.declared.longest.Longest.{Longest}
use Rattle.lin_search.specs.Configuration.{Configuration}
use Rattle.lin_table.specs.declared.rule.Entry.{Entry}
use Rattle.lin_table.specs.declared.rule.View.{View}
use Rattle.lin_search.specs.Store.{Store, IsStore}
use Rattle.lin_table.specs.declared.hand.TheConstants.{MAX_STORED}
use Rattle.lin_table.specs.declared.table.TheConstants.{MAX_KNOWN}
use Rattle.lin_table.specs.Rule.{known_in}

-- Which table it is, its problem, what was known before it was made, and how many shards and hands it has.
pub record TableFacts (O S A R : Type 0) : Type 0 where
  pub id : TableId
  pub problem : ProblemParts O S A R
  pub known : List (Configuration S × Longest)
  pub shards : ℕ
  pub hands : ℕ

-- Which table a hand came with, the problem of that table where it has a view of it, and an entry for each configuration that it stored, in order.
pub record HandFacts (O S A R : Type 0) : Type 0 where
  pub table : TableId
  pub problem : Option (ProblemParts O S A R)
  pub entries : List (Entry O S A R)

-- What was known of the problem before a table was made, where there is a memo: the memo names the problem, and its pairs are lawful and not too many.
pub record IsKnownOf {O S A R : Type 0} (after : O → S → ℕ → A → Option (S × R)) (same_state : S → S → Bool) (same_reply : R → R → Bool) (problem : ProblemParts O S A R) (known : Option (Bor (Store O S A R))) : Type 0 where
  pub problem_is : (memo : Bor (Store O S A R)) → known ≡ Some memo → memo.now.problem ≡ problem
  pub store : IsStore (problem_of after same_state same_reply problem) (known_in known)
  pub few : length (known_in known) < MAX_KNOWN

-- The hand came with the table.
abbrev pub IsHandOf : {O S A R : Type 0} → TableFacts O S A R → HandFacts O S A R → Type 0
IsHandOf t h = (h.table ≡ t.id) × (h.problem ≡ Some t.problem)

-- The hand came with the table of this id.
abbrev pub CameWith : {O S A R : Type 0} → TableId → HandFacts O S A R → Type 0
CameWith id h = h.table ≡ id

-- A hand of the table that has stored nothing.
abbrev pub new_hand : {O S A R : Type 0} → TableFacts O S A R → HandFacts O S A R
new_hand t = record { table = t.id; problem = Some t.problem; entries = [] }

-- The facts of the hand that has this view at this table.
abbrev pub facts_of : {O S A R : Type 0} → TableId → List (View O S A R) → HandFacts O S A R
facts_of id [] = record { table = id; problem = None; entries = [] }
facts_of id (v ∷ vs) = record { table = id; problem = v.problem; entries = v.entries }

-- A hand between two calls: one view, with a part of its own, no shard out, and as many entries as the hand counts, which are not too many.
pub record IsFree {O S A R : Type 0} (views : List (View O S A R)) (count : ℕ) : Type 0 where
  pub v : View O S A R
  pub only : views ≡ v ∷ []
  pub part : v.parts ≡ 1
  pub free : v.out ≡ None
  pub counted : count ≡ length v.entries
  pub few : count ≤ MAX_STORED

-- The hand has one entry more: of this configuration, at some place of this shard.
abbrev pub HasStored : {O S A R : Type 0} → HandFacts O S A R → ℕ → Configuration S → HandFacts O S A R → Type 0
HasStored old shard config new = (place : ℕ) × (new ≡ record { table = old.table; problem = old.problem; entries = old.entries ++ record { shard = shard; place = place; config = config } ∷ [] })
