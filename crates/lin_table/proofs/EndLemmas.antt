-- What a view that has all parts says of all that the hands stored, at the end.
use Rattle.std.proofs.Common.{◌≡◌, ℕ, zero, suc, ◌+◌, ◌<◌, ◌≤◌, Bool, List, [], ◌∷◌, ◌++◌, length, sym, ap, ◌∙◌, subst, arith, length-append, append-nil, None}
use mathlib.Core.Option.{Option as Maybe, some, some-ne-none}
use lib.ListN.{get_elem?}
use Rattle.atomic_table.specs.Table.{Final, Seen}
use Rattle.lin_history.specs.Problems.Problem.{Problem}
use Rattle.lin_history.specs.Problems.ProblemParts.{ProblemParts}
use Rattle.lin_search.specs.declared.longest.Longest.{Longest}
use Rattle.lin_search.specs.Configuration.{Configuration}
use Rattle.lin_search.specs.Store.{Store, IsStore}
use Rattle.lin_table.specs.declared.rule.Entry.{Entry}
use Rattle.lin_table.specs.declared.rule.View.{View}
use Rattle.lin_table.specs.declared.rule.Plan.{Plan}
use Rattle.lin_table.specs.Totals.{total}
use Rattle.lin_table.specs.Rule.{known_in, out_at, named_by, names_of, IsHome, RuleHolds, KeepsRule}
use Rattle.lin_table.specs.Hand.{HandFacts}
use Rattle.lin_table.specs.Gather.{AreStored, IsViewOf, Gathered, entries_in}
use Rattle.lin_table.proofs.GatherLemmas.{entries-last}
use Rattle.lin_table.proofs.TotalLemmas.{total_at, total_alone}

module _ {O S A R : Type 0} (problem : ProblemParts O S A R) (n hands : ℕ) (words : List ℕ) (homes : List (Maybe (Store O S A R))) (views : List (View O S A R)) (lists : ℕ → List (Configuration S × Longest)) (h : RuleHolds problem n hands words homes views lists) (id : ℕ) (v : View O S A R) (at : get_elem? views id ≡ some v) (whole : hands ≤ v.parts) (free : v.out ≡ None) where
  -- the others have no part, and so nothing else
  only : (f : View O S A R → ℕ) → ((u : View O S A R) → (u.entries ≡ []) × (u.out ≡ None) → f u ≡ 0) → total f views ≡ f v
  only f none =
      let most = total_at (λ (u : View O S A R). u.parts) views id v at in
      let all = h.parts in
      total_alone (λ (u : View O S A R). u.parts) f views id v at (omega arith) (λ j u e z. none u ((h.each j u e).empty z))

  pub all_home : (k : ℕ) → k < n → IsHome problem (lists k) (get_elem? homes k)
  all_home k small = h.at_home k small (only (λ (u : View O S A R). out_at k u.out) (λ u nothing. ap (out_at k) nothing.1) ∙ ap (out_at k) free)

  pub all_named : (k place : ℕ) → k < n → total (named_by k place) v.entries ≡ total (names_of k place) views
  all_named k place small = sym (only (names_of k place) (λ u nothing. ap (total (named_by k place)) nothing.0))

-- by what the closed table tells
pub ends : {O S A R : Type 0} (of : ProblemParts O S A R → Problem S A R) (plan : Plan O S A R) (ws : List ℕ) (xs : List (Store O S A R)) (id : ℕ) (v : View O S A R) → Final (Seen (KeepsRule (of plan.problem.now).same_state plan) id v) ws xs → plan.hands ≤ v.parts → v.out ≡ None
    → ((k : ℕ) (shard : Store O S A R) → get_elem? xs k ≡ some shard → IsStore (of shard.problem) shard.pairs)
    → (lists : ℕ → List (Configuration S × Longest)) × AreStored (of plan.problem.now) (known_in plan.known) plan.shards lists v.entries
ends of plan ws xs id v (s, (k, at), same, long, there) whole free lawful =
    let h = k.1 in (
      k.0,
      record {
        lawful = λ i small.
            let home = all_home plan.problem.now plan.shards plan.hands s.words s.homes s.views k.0 h id v at whole free i small in
            subst (λ pairs. IsStore (of plan.problem.now) pairs) home.pairs_are (subst (λ problem. IsStore (of problem) home.shard.pairs) home.problem_is (lawful i home.shard (there i home.shard home.is_there)));
        belongs = h.belongs;
        fresh = k.2;
        names = λ i place small. all_named plan.problem.now plan.shards plan.hands s.words s.homes s.views k.0 h id v at whole free i place small ∙ h.names i place small;
        stands = (h.each id v at).entries;
      },
    )

-- no more hands than were made
pub few_hands : {O S A R : Type 0} (plan : Plan O S A R) (ws : List ℕ) (xs : List (Store O S A R)) (id : ℕ) (same : S → S → Bool) (v : View O S A R) → Final (Seen (KeepsRule same plan) id v) ws xs → v.parts ≤ plan.hands
few_hands plan ws xs id same_state v (s, (k, at), same, long, there) =
    let most = total_at (λ (u : View _ _ _ _). u.parts) s.views id v at in
    let all = k.1.parts in
    omega arith

-- what the end of a table says of all hands
pub record Settled {O S A R : Type 0} (of : ProblemParts O S A R → Problem S A R) (plan : Plan O S A R) (all : List (HandFacts O S A R)) : Type 0 where
  pub few : length all ≤ plan.hands
  pub lists : ℕ → List (Configuration S × Longest)
  pub stored : AreStored (of plan.problem.now) (known_in plan.known) plan.shards lists (entries_in all)

pub settles : {O S A R : Type 0} (of : ProblemParts O S A R → Problem S A R) (plan : Plan O S A R) (ws : List ℕ) (xs : List (Store O S A R)) (id : ℕ) (v : View O S A R) → Final (Seen (KeepsRule (of plan.problem.now).same_state plan) id v) ws xs
    → ((k : ℕ) (shard : Store O S A R) → get_elem? xs k ≡ some shard → IsStore (of shard.problem) shard.pairs)
    → (all rest : List (HandFacts O S A R)) (last : HandFacts O S A R) (v0 : View O S A R) → plan.hands ≤ length all → all ≡ rest ++ last ∷ [] → IsViewOf v0 last → Gathered v0 rest v []
    → Settled of plan all
settles of plan ws xs id v final lawful all rest last v0 enough is mine g =
    let long : length all ≡ length rest + 1 = ap length is ∙ length-append rest (last ∷ []) in
    let parts = g.parts in
    let one = mine.part in
    let whole : v.parts ≡ length all = omega arith in
    let most = few_hands plan ws xs id (of plan.problem.now).same_state v final in
    let told = ends of plan ws xs id v final (omega arith) g.free lawful in
    let mine_all : v.entries ≡ entries_in all = sym (append-nil v.entries) ∙ g.entries ∙ ap (λ es. es ++ entries_in rest) mine.entries ∙ sym (ap entries_in is ∙ entries-last rest last) in
    record {
      few = omega arith;
      lists = told.0;
      stored = subst (AreStored (of plan.problem.now) (known_in plan.known) plan.shards told.0) mine_all told.1;
    }

pub lawful_same : {O S A R : Type 0} (of : ProblemParts O S A R → Problem S A R) (a b : Store O S A R) → a ≡ b → IsStore (of a.problem) a.pairs → IsStore (of b.problem) b.pairs
lawful_same {O} {S} {A} {R} of a b e h = subst (λ (x : Store O S A R). IsStore (of x.problem) x.pairs) e h

pub within : {X : Type 0} (l : List X) (k : ℕ) (x : X) → get_elem? l k ≡ some x → k < length l
within [] k x e = absurd (some-ne-none x (sym e))
within (y ∷ l) zero x e = omega arith
within (y ∷ l) (suc k) x e = let r = within l k x e in omega arith

pub stored_as : {O S A R : Type 0} (of : ProblemParts O S A R → Problem S A R) (q r : ProblemParts O S A R) (k l : List (Configuration S × Longest)) (m n : ℕ) (lists : ℕ → List (Configuration S × Longest)) (entries : List (Entry O S A R)) → q ≡ r → k ≡ l → m ≡ n → AreStored (of q) k m lists entries → AreStored (of r) l n lists entries
stored_as {O} {S} {A} {R} of q r k l m n lists entries problem known shards h = subst (λ (i : ℕ). AreStored (of r) l i lists entries) shards (subst (λ (y : List (Configuration S × Longest)). AreStored (of r) y m lists entries) known (subst (λ (x : ProblemParts O S A R). AreStored (of x) k m lists entries) problem h))
