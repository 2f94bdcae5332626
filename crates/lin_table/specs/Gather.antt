-- How the views of all hands become one, and what the end of a table says (this project's own).
use Rattle.std.specs.Prelude.{◌≡◌, ℕ, ◌+◌, ◌<◌, ◌++◌, List, [], ◌∷◌, length, All, None}
use mathlib.Core.Option.{some}
use lib.ListN.{get_elem?}
use Rattle.lin_history.specs.Problems.Problem.{Problem}
use Rattle.lin_search.specs.declared.longest.Longest.{Longest}
use Rattle.lin_search.specs.Configuration.{Configuration}
use Rattle.lin_search.specs.Store.{Holds, IsStore}
use Rattle.lin_table.specs.declared.rule.Entry.{Entry}
use Rattle.lin_table.specs.declared.rule.View.{View}
use Rattle.lin_table.specs.Home.{home_of}
use Rattle.lin_table.specs.Totals.{total, once_below}
use Rattle.lin_table.specs.Rule.{Pairs, named_by, Stands}
use Rattle.lin_table.specs.Hand.{HandFacts}

module _ {O S A R : Type 0} where
  -- the view of one hand
  pub record IsViewOf (v : View O S A R) (hand : HandFacts O S A R) : Type 0 where
    pub part : v.parts ≡ 1
    pub free : v.out ≡ None
    pub entries : v.entries ≡ hand.entries

  -- the entries of all hands, those of the last hand first
  abbrev pub entries_in : List (HandFacts O S A R) → List (Entry O S A R)
  entries_in [] = []
  entries_in (hand ∷ hands) = entries_in hands ++ hand.entries

  -- the view u and the hands left have together what the view v and all hands had
  pub record Gathered (v : View O S A R) (all : List (HandFacts O S A R)) (u : View O S A R) (left : List (HandFacts O S A R)) : Type 0 where
    pub parts : u.parts + length left ≡ v.parts + length all
    pub free : u.out ≡ None
    pub entries : u.entries ++ entries_in left ≡ v.entries ++ entries_in all

  -- Where these are the pairs of each shard, in order of storing, and these are the entries of all hands: each shard is lawful, each configuration is in its
  -- home and was not known before, the entries name each place of each shard once and no other, and at each is the configuration of the entry.
  pub record AreStored (p : Problem S A R) (known : Pairs S) (shards : ℕ) (lists : ℕ → Pairs S) (entries : List (Entry O S A R)) : Type 0 where
    pub lawful : (k : ℕ) → k < shards → IsStore p (lists k)
    pub belongs : (k : ℕ) → k < shards → All (λ (pair : Configuration S × Longest). home_of pair.0.lifted shards ≡ k) (lists k)
    pub fresh : (k : ℕ) → k < shards → All (λ (pair : Configuration S × Longest). Holds p.same_state known pair.0.lifted pair.0.state → ⊥) (lists k)
    pub names : (k place : ℕ) → k < shards → total (named_by k place) entries ≡ once_below place (length (lists k))
    pub stands : (j : ℕ) (e : Entry O S A R) → get_elem? entries j ≡ some e → Stands lists shards e
