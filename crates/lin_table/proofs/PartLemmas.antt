-- A table at its start, and how its hands' views are split and joined.
use Rattle.std.proofs.Common.{◌≡◌, ◌≢◌, ℕ, zero, suc, ◌+◌, ◌<◌, Bool, List, [], ◌∷◌, ◌++◌, set, replicate, map, refl, sym, ap, ◌∙◌, subst, ⊎_elim, ◌⊎◌, inl, inr, arith, cond, None}
use mathlib.Core.Option.{Option as Maybe, some, some-ne-none, some-injective}
use lib.ListN.{get_elem?}
use Rattle.std.proofs.lemmas.Bool.{le-ltb}
use Rattle.std.proofs.lemmas.List.{length-replicate, get_or-replicate, length-map}
use Rattle.atomic_table.specs.Table.{Splits, Joins, opening}
use Rattle.atomic_table.proofs.Lists.{at_set, at_snoc}
use Rattle.lin_history.specs.Problems.ProblemParts.{ProblemParts}
use Rattle.lin_search.specs.declared.longest.Longest.{Longest}
use Rattle.lin_search.specs.Configuration.{Configuration}
use Rattle.lin_search.specs.Store.{Store}
use Rattle.lin_table.specs.declared.rule.Entry.{Entry}
use Rattle.lin_table.specs.declared.rule.View.{View}
use Rattle.lin_table.specs.declared.rule.Plan.{Plan}
use Rattle.lin_table.specs.Totals.{total}
use Rattle.lin_table.specs.Rule.{out_at, outs, named_by, names_of, Fits, RuleHolds, KeepsRule, opening_view}
use Rattle.lin_table.specs.Steps.{one_part_less, one_part, both_views, no_part}
use Rattle.lin_table.proofs.TotalLemmas.{total_set, total_append}
use Rattle.lin_table.proofs.StepLemmas.{each_set}

-- all places of a row of equal things
replicate_at : {X : Type 0} (n k : ℕ) (x : X) → k < n → get_elem? (map some (replicate n x)) k ≡ some (some x)
replicate_at zero k x h = absurd (omega arith)
replicate_at (suc n) zero x h = refl
replicate_at (suc n) (suc k) x h = replicate_at n k x (omega arith)

module _ {O S A R : Type 0} where
  -- a shard with nothing in it
  abbrev pub empty_shard : ProblemParts O S A R → Store O S A R
  empty_shard problem = record { problem = problem; pairs = [] }

  -- a table begins with every shard home and empty
  pub opens : (same : S → S → Bool) (a : Plan O S A R) → KeepsRule same a (opening (replicate a.shards 0) (replicate a.shards (empty_shard a.problem.now)) (opening_view a))
  opens same a =
      let n : ℕ = a.shards in
      let problem : ProblemParts O S A R = a.problem.now in (
        (λ k. []),
        record {
          long = (length-replicate n 0, length-map (replicate n (empty_shard problem)) some ∙ length-replicate n (empty_shard problem));
          parts = omega arith;
          words_are = λ k small. get_or-replicate n k 0 0 small;
          at_most_one = λ k small. omega arith;
          at_home = λ k small free. record { shard = empty_shard problem; is_there = replicate_at n k (empty_shard problem) small; problem_is = refl; pairs_are = refl };
          each = first;
          names = λ k p small. sym (ap (λ b. cond b 1 0) (le-ltb p 0 (omega arith)));
          belongs = λ k small j d no. absurd (omega arith);
        },
        λ k small j d no. absurd (omega arith),
      )
    where
      first : (id : ℕ) (v : View O S A R) → get_elem? (opening_view a ∷ []) id ≡ some v → Fits a.problem.now a.shards (λ k. []) v
      first zero v e = subst (Fits a.problem.now a.shards (λ k. [])) (some-injective _ _ e) (record { problem_is = λ _. refl; out = λ o no. absurd (cc); entries = λ j x no. absurd (some-ne-none x (sym no)); empty = λ _. (refl, refl) })
      first (suc id) v e = absurd (some-ne-none v (sym e))

  each_push : (P : View O S A R → Type 0) (views : List (View O S A R)) (w : View O S A R) → ((j : ℕ) (u : View O S A R) → get_elem? views j ≡ some u → P u) → P w → (j : ℕ) (u : View O S A R) → get_elem? (views ++ w ∷ []) j ≡ some u → P u
  each_push P views w all mine j u e = ⊎_elim (λ (was : get_elem? views j ≡ some u). all j u was) (λ (same : w ≡ u). subst P same mine) (at_snoc views w u j e)

  module _ (problem : ProblemParts O S A R) (n hands : ℕ) (words : List ℕ) (homes : List (Maybe (Store O S A R))) (views : List (View O S A R)) (lists : ℕ → List (Configuration S × Longest)) (h : RuleHolds problem n hands words homes views lists) (id : ℕ) (v : View O S A R) (at : get_elem? views id ≡ some v) where
    split_holds : 1 < v.parts → RuleHolds problem n hands words homes (set views id (one_part_less v) ++ one_part v ∷ []) lists
    split_holds more =
        let w = one_part_less v in
        let r = one_part v in
        let fits = h.each id v at in
        let sums : (f : View O S A R → ℕ) → total f (set views id w ++ r ∷ []) + f v ≡ total f views + f w + f r
        = λ f. let s = total_set f views id v w at in let t = total_append f (set views id w) (r ∷ []) in omega arith in
        let outs_are : (k : ℕ) → outs k (set views id w ++ r ∷ []) ≡ outs k views = λ k. let s = sums (λ (u : View O S A R). out_at k u.out) in omega arith in record {
          long = h.long;
          parts = let s = sums (λ (u : View O S A R). u.parts) in let a = h.parts in omega arith;
          words_are = λ k small. h.words_are k small ∙ sym (outs_are k);
          at_most_one = λ k small. let a = outs_are k in let b = h.at_most_one k small in omega arith;
          at_home = λ k small free. h.at_home k small (sym (outs_are k) ∙ free);
          each = each_push (Fits problem n lists) (set views id w) r
              (each_set problem n lists views id w h.each (record { problem_is = λ _. fits.problem_is (omega arith); out = fits.out; entries = fits.entries; empty = λ no. absurd (omega arith) }))
              (record { problem_is = λ _. fits.problem_is (omega arith); out = λ o no. absurd (cc); entries = λ j x no. absurd (some-ne-none x (sym no)); empty = λ no. absurd (omega arith) });
          names = λ k p small. let s = sums (names_of k p) in let a = h.names k p small in omega arith;
          belongs = h.belongs;
        }

    join_holds : 0 < v.parts → v.out ≡ None → (other : ℕ) (u : View O S A R) → u.out ≡ None → ¬ (other ≡ id) → get_elem? (set views id (both_views v u)) other ≡ some u → RuleHolds problem n hands words homes (set (set views id (both_views v u)) other no_part) lists
    join_holds part free other u free_too apart there =
        let w = both_views v u in
        let fits = h.each id v at in
        let was : get_elem? views other ≡ some u = ⊎_elim (λ (t : (other ≡ id) × (w ≡ u)). absurd (apart t.0)) (λ (t : (other ≢ id) × (get_elem? views other ≡ some u)). t.1) (at_set views id other w u there) in
        let fits_too = h.each other u was in
        let sums : (f : View O S A R → ℕ) → total f (set (set views id w) other no_part) + f u + f v ≡ total f views + f w + f no_part
        = λ f. let s = total_set f views id v w at in let t = total_set f (set views id w) other u no_part there in omega arith in
        let outs_are : (k : ℕ) → outs k (set (set views id w) other no_part) ≡ outs k views
        = λ k. let s = sums (λ (z : View O S A R). out_at k z.out) in let a : out_at k v.out ≡ 0 = ap (out_at k) free in let b : out_at k u.out ≡ 0 = ap (out_at k) free_too in omega arith in record {
          long = h.long;
          parts = let s = sums (λ (z : View O S A R). z.parts) in let a = h.parts in omega arith;
          words_are = λ k small. h.words_are k small ∙ sym (outs_are k);
          at_most_one = λ k small. let a = outs_are k in let b = h.at_most_one k small in omega arith;
          at_home = λ k small zero_out. h.at_home k small (sym (outs_are k) ∙ zero_out);
          each = each_set problem n lists (set views id w) other no_part
              (each_set problem n lists views id w h.each (record {
                problem_is = λ _. fits.problem_is part;
                out = λ o no. absurd (cc);
                entries = λ j x there'. ⊎_elim (fits.entries j x) (λ (t : (m : ℕ) × (get_elem? u.entries m ≡ some x)). fits_too.entries t.0 x t.1) (at_both v.entries u.entries j x there');
                empty = λ no. absurd (omega arith);
              }))
              (record { problem_is = λ no. absurd (omega arith); out = λ o no. absurd (cc); entries = λ j x no. absurd (some-ne-none x (sym no)); empty = λ _. (refl, refl) });
          names = λ k p small. let s = sums (names_of k p) in let t = total_append (named_by k p) v.entries u.entries in let a = h.names k p small in omega arith;
          belongs = h.belongs;
        }
      where
        -- what stands in two lists, one behind the other, stands in one of them
        at_both : (xs ys : List (Entry O S A R)) (j : ℕ) (x : Entry O S A R) → get_elem? (xs ++ ys) j ≡ some x → (get_elem? xs j ≡ some x) ⊎ ((m : ℕ) × (get_elem? ys m ≡ some x))
        at_both [] ys j x e = inr (j, e)
        at_both (y ∷ xs) ys zero x e = inl e
        at_both (y ∷ xs) ys (suc j) x e = at_both xs ys j x e

  pub split_allowed : (same : S → S → Bool) (a : Plan O S A R) (id : ℕ) (v : View O S A R) → 1 < v.parts → Splits (KeepsRule same a) id v (one_part_less v) (one_part v)
  split_allowed same a id v more s k at = (k.0, split_holds a.problem.now a.shards a.hands s.words s.homes s.views k.0 k.1 id v at more, k.2)

  pub join_allowed : (same : S → S → Bool) (a : Plan O S A R) (id : ℕ) (v : View O S A R) (other : ℕ) (u : View O S A R) → 0 < v.parts → v.out ≡ None → u.out ≡ None → Joins (KeepsRule same a) id v other u (both_views v u) no_part
  join_allowed same a id v other u part free free_too s k at apart there = (k.0, join_holds a.problem.now a.shards a.hands s.words s.homes s.views k.0 k.1 id v at part free other u free_too apart there, k.2)
