-- What each step of a hand does to its view, and what it answers the hand (this project's own).
use Rattle.std.specs.Prelude.{◌≡◌, ℕ, ◌+◌, ◌-◌, Bool, List, [], ◌∷◌, ◌++◌, length, map, drop, Option, Some, None}
use Rattle.atomic_table.specs.Table.{Me, Step, rest}
use Rattle.lin_search.specs.declared.longest.Longest.{Longest}
use Rattle.lin_search.specs.Configuration.{Configuration}
use Rattle.lin_search.specs.Store.{Store}
use Rattle.lin_table.specs.declared.rule.Entry.{Entry}
use Rattle.lin_table.specs.declared.rule.ShardOut.{ShardOut}
use Rattle.lin_table.specs.declared.rule.View.{View}
use Rattle.lin_table.specs.Home.{home_of}
use Rattle.lin_table.specs.Rule.{Pairs, view}

-- a hand's view, and the shards that it has out
abbrev pub Holder : Type 0 → Type 0 → Type 0 → Type 0 → Type 0
Holder O S A R = Me (Store O S A R) (View O S A R)

module _ {O S A R : Type 0} where
  -- with this shard out
  abbrev pub with_out : View O S A R → ShardOut O S A R → View O S A R
  with_out v o = view v.problem v.parts v.entries (Some o)

  -- with no shard out
  abbrev pub with_none_out : View O S A R → View O S A R
  with_none_out v = view v.problem v.parts v.entries None

  -- with one entry more, and no shard out
  abbrev pub with_entry : View O S A R → Entry O S A R → View O S A R
  with_entry v e = view v.problem v.parts (v.entries ++ e ∷ []) None

  -- where the exchange wins, the hand has the shard out, as it was, and it names the view's problem; else nothing changes
  abbrev pub TakeTells : Step (Store O S A R) → Holder O S A R → ℕ → Holder O S A R → Type 0
  TakeTells step before number after =
      (number ≡ 0 → (y : Store O S A R) × (after.1 ≡ (step.word, y) ∷ before.1) × (Some y.problem ≡ before.0.problem) × (after.0 ≡ with_out before.0 (record { shard = step.word; pairs = y.pairs })))
      × (¬ (number ≡ 0) → after ≡ before)

  -- the shard is home as it was taken
  abbrev pub GiveBackTells : Step (Store O S A R) → Holder O S A R → ℕ → Holder O S A R → Type 0
  GiveBackTells step before number after = (after.0 ≡ with_none_out before.0) × (after.1 ≡ rest before.1)

  -- the entries of the pairs that the shard has more than when it was taken
  abbrev pub added : ℕ → Option (ShardOut O S A R) → List (ℕ × Store O S A R) → List (Entry O S A R)
  added k (Some o) (c ∷ cs) = map (λ (pair : Configuration S × Longest). record { shard = k; place = length o.pairs; config = pair.0 }) (drop (length o.pairs) c.1.pairs)
  added k None cs = []
  added k (Some o) [] = []

  -- with the entries of the pairs that the shard has more than when it was taken, and no shard out
  abbrev pub with_added : ℕ → Holder O S A R → View O S A R
  with_added k me = view me.0.problem me.0.parts (me.0.entries ++ added k me.0.out me.1) None

  -- the shard is home with one pair more, which the view lists now
  abbrev pub GiveMoreTells : Step (Store O S A R) → Holder O S A R → ℕ → Holder O S A R → Type 0
  GiveMoreTells step before number after = (after.0 ≡ with_added step.word before) × (after.1 ≡ rest before.1)

  -- what is left of a view when one part goes to a new hand
  abbrev pub one_part_less : View O S A R → View O S A R
  one_part_less v = view v.problem (v.parts - 1) v.entries v.out

  -- the view of a new hand
  abbrev pub one_part : View O S A R → View O S A R
  one_part v = view v.problem 1 [] None

  -- what two views have together, where neither has a shard out
  abbrev pub both_views : View O S A R → View O S A R → View O S A R
  both_views v w = view v.problem (v.parts + w.parts) (v.entries ++ w.entries) None

  -- the view of a hand whose parts went to another
  abbrev pub no_part : View O S A R
  no_part = view None 0 [] None

-- the hand has taken this shard out, and has no other: it names the view's problem, and the view has its pairs
abbrev pub HasOut : {O S A R : Type 0} → ℕ → Holder O S A R → Holder O S A R → Type 0
HasOut {O} {S} {A} {R} shard before after = (y : Store O S A R) × (after.1 ≡ (shard, y) ∷ before.1) × (Some y.problem ≡ before.0.problem) × (after.0 ≡ with_out before.0 (record { shard = shard; pairs = y.pairs }))

-- the hand has this shard out, which has one pair more than when it was taken, of a configuration whose home it is and that was not known before
pub record HasMore {O S A R : Type 0} (known : List Bool → S → Type 0) (shard shards : ℕ) (me : Holder O S A R) : Type 0 where
  pub now : Store O S A R
  pub pairs : Pairs S
  pub pair : Configuration S × Longest
  pub holds : me.1 ≡ (shard, now) ∷ []
  pub problem_is : Some now.problem ≡ me.0.problem
  pub out : me.0.out ≡ Some (record { shard = shard; pairs = pairs })
  pub longer : now.pairs ≡ pairs ++ pair ∷ []
  pub home : home_of pair.0.lifted shards ≡ shard
  pub fresh : known pair.0.lifted pair.0.state → ⊥
