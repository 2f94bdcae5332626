-- All entries of all hands are so many reachable configurations, no two of them the same.
use Rattle.std.proofs.Common.{◌≡◌, ◌≢◌, ℕ, zero, suc, ◌+◌, ◌<◌, ◌≤◌, Bool, true, List, [], ◌∷◌, ◌++◌, length, length-append, get_or, refl, sym, ap, ◌∙◌, subst, ⊎_elim, ◌⊎◌, inl, inr, arith, cond}
use Rattle.std.specs.Cmp.{IsEquivalence}
use Rattle.std.proofs.lemmas.Bool.{cases_eq, cases_lt, lt-ltb, le-ltb}
use mathlib.Core.Option.{some, some-injective, some-ne-none}
use lib.ListN.{get_elem?}
use Rattle.lin_history.specs.Problems.Problem.{Problem}
use Rattle.lin_search.specs.declared.longest.Longest.{Longest}
use Rattle.lin_search.specs.Configuration.{Configuration}
use Rattle.lin_history.specs.Problems.Configurations.{IsReachable}
use Rattle.lin_search.specs.Count.{Among, AllApart, AllReachable, HasReachable}
use Rattle.lin_search.specs.Refutation.{IsRefutedWith}
use Rattle.lin_search.specs.CountLemmas.{stored_reachable, stored_count}
use Rattle.lin_search.specs.Store.{configurations, AllRefuted, Holds, IsStore}
use Rattle.lin_table.specs.declared.rule.Entry.{Entry}
use Rattle.lin_table.specs.Totals.{total, once_below}
use Rattle.lin_table.specs.Home.{home_of}
use Rattle.lin_table.specs.Rule.{named_by, Stands}
use Rattle.lin_table.specs.Gather.{AreStored}
use Rattle.lin_table.proofs.EndLemmas.{within}
use Rattle.lin_table.proofs.TotalLemmas.{total_at, one_where_same}

at_index : {X : Type 0} (l : List X) (k : ℕ) (x d : X) → get_elem? l k ≡ some x → get_or l k d ≡ x
at_index [] k x d e = absurd (some-ne-none x (sym e))
at_index (y ∷ l) zero x d e = some-injective _ _ e
at_index (y ∷ l) (suc k) x d e = at_index l k x d e

once_at_most : (x n : ℕ) → once_below x n ≤ 1
once_at_most x n =
    ⊎_elim
    (λ (h : x < n). let e : once_below x n ≡ 1 = ap (λ b. cond b 1 0) (lt-ltb x n h) in omega arith)
    (λ (h : n ≤ x). let e : once_below x n ≡ 0 = ap (λ b. cond b 1 0) (le-ltb x n h) in omega arith)
    (cases_lt x n)

module _ {S : Type 0} (same : S → S → Bool) (equal : IsEquivalence same) where
  among_from : (l : List (Configuration S × Longest)) (j : ℕ) (b : Configuration S × Longest) (set : List Bool) (s : S) → get_elem? l j ≡ some b → set ≡ b.0.lifted → same s b.0.state ≡ true → Among same (configurations l) set s
  among_from [] j b set s e lifted state = absurd (some-ne-none b (sym e))
  among_from (x ∷ l) zero b set s e lifted state =
      let is : x ≡ b = some-injective _ _ e in
      inl (lifted ∙ ap (λ (y : Configuration S × Longest). y.0.lifted) (sym is), ap (λ (y : Configuration S × Longest). same s y.0.state) is ∙ state)
  among_from (x ∷ l) (suc j) b set s e lifted state = inr (among_from l j b set s e lifted state)

  apart_at : (l : List (Configuration S × Longest)) (i j : ℕ) (a b : Configuration S × Longest) → AllApart same (configurations l) → get_elem? l i ≡ some a → get_elem? l j ≡ some b → i ≢ j → a.0.lifted ≡ b.0.lifted → same a.0.state b.0.state ≡ true → ⊥
  apart_at [] i j a b apart at_i at_j ne lifted state = some-ne-none a (sym at_i)
  apart_at (x ∷ l) zero zero a b apart at_i at_j ne lifted state = ne refl
  apart_at (x ∷ l) zero (suc j) a b apart at_i at_j ne lifted state =
      let is : x ≡ a = some-injective _ _ at_i in
      apart.0 (among_from l j b x.0.lifted x.0.state at_j (ap (λ (y : Configuration S × Longest). y.0.lifted) is ∙ lifted) (ap (λ (y : Configuration S × Longest). same y.0.state b.0.state) is ∙ state))
  apart_at (x ∷ l) (suc i) zero a b apart at_i at_j ne lifted state =
      let is : x ≡ b = some-injective _ _ at_j in
      apart.0 (among_from l i a x.0.lifted x.0.state at_i (ap (λ (y : Configuration S × Longest). y.0.lifted) is ∙ sym lifted) (ap (λ (y : Configuration S × Longest). same y.0.state a.0.state) is ∙ (equal.symm b.0.state a.0.state ∙ state)))
  apart_at (x ∷ l) (suc i) (suc j) a b apart at_i at_j ne lifted state = apart_at l i j a b apart.1 at_i at_j (λ e. ne (ap suc e)) lifted state

-- what is among two lists, one behind the other, is among one of them
among_either : {S : Type 0} (same : S → S → Bool) (xs ys : List (Configuration S)) (set : List Bool) (s : S) → Among same (xs ++ ys) set s → Among same xs set s ⊎ Among same ys set s
among_either same [] ys set s h = inr h
among_either same (x ∷ xs) ys set s h = elim h [
  | inl q ↦ inl (inl q)
  | inr q ↦ (elim (among_either same xs ys set s q) [ inl r ↦ inl (inr r) | inr r ↦ inr r ])
]

module _ {O S A R : Type 0} where
  abbrev configs_of : List (Entry O S A R) → List (Configuration S)
  configs_of [] = []
  configs_of (e ∷ es) = e.config ∷ configs_of es

  length_configs : (es : List (Entry O S A R)) → length (configs_of es) ≡ length es
  length_configs [] = refl
  length_configs (e ∷ es) = ap suc (length_configs es)

  among_at : (same : S → S → Bool) (es : List (Entry O S A R)) (set : List Bool) (s : S) → Among same (configs_of es) set s → (j : ℕ) × (e : Entry O S A R) × (get_elem? es j ≡ some e) × (set ≡ e.config.lifted) × (same s e.config.state ≡ true)
  among_at same [] set s h = absurd h
  among_at same (e ∷ es) set s h = elim h [
    | inl q ↦ (zero, e, refl, q.0, q.1)
    | inr q ↦ (let r = among_at same es set s q in (suc r.0, r.1, r.2, r.3, r.4))
  ]

module _ {O S A R : Type 0} (p : Problem S A R) (equal : IsEquivalence p.same_state) (known : List (Configuration S × Longest)) (lawful : IsStore p known) (n : ℕ) (lists : ℕ → List (Configuration S × Longest)) (all : List (Entry O S A R)) (stored : AreStored p known n lists all) where
  refuted_at : (l : List (Configuration S × Longest)) (k : ℕ) (pair : Configuration S × Longest) → AllRefuted p l → get_elem? l k ≡ some pair → IsRefutedWith p pair.0.lifted pair.0.state pair.1
  refuted_at [] k pair refuted e = absurd (some-ne-none pair (sym e))
  refuted_at (x ∷ l) zero pair refuted e = subst (λ (y : Configuration S × Longest). IsRefutedWith p y.0.lifted y.0.state y.1) (some-injective _ _ e) refuted.0
  refuted_at (x ∷ l) (suc k) pair refuted e = refuted_at l k pair refuted.1 e

  -- the home of an entry's configuration is the entry's shard
  home_is : (e : Entry O S A R) → Stands lists n e → home_of e.config.lifted n ≡ e.shard
  home_is e (small, (pair, at, is)) =
      let room = within (lists e.shard) e.place pair at in
      ap (λ (c : Configuration S). home_of c.lifted n) (sym is)
      ∙ ap (λ (y : Configuration S × Longest). home_of y.0.lifted n) (sym (at_index (lists e.shard) e.place pair pair at))
      ∙ stored.belongs e.shard small e.place pair room

  -- an entry's configuration was not known before
  is_fresh : (e : Entry O S A R) → Stands lists n e → Holds p.same_state known e.config.lifted e.config.state → ⊥
  is_fresh e (small, (pair, at, is)) =
      let room = within (lists e.shard) e.place pair at in
      subst (λ (c : Configuration S). Holds p.same_state known c.lifted c.state → ⊥) is
      (subst (λ (y : Configuration S × Longest). Holds p.same_state known y.0.lifted y.0.state → ⊥) (at_index (lists e.shard) e.place pair pair at) (stored.fresh e.shard small e.place pair room))

  all_reachable : (es : List (Entry O S A R)) → ((j : ℕ) (e : Entry O S A R) → get_elem? es j ≡ some e → Stands lists n e) → AllReachable p (configs_of es ++ configurations known)
  all_reachable [] stands = stored_reachable p known lawful.refuted
  all_reachable (e ∷ es) stands =
      let mine = stands 0 e refl in
      let pair = mine.1.0 in
      (subst (λ (c : Configuration S). IsReachable p c.lifted c.state) mine.1.2 (refuted_at (lists e.shard) e.place pair (stored.lawful e.shard mine.0).refuted mine.1.1).refuted.reachable, all_reachable es (λ j x at. stands (suc j) x at))

  all_apart : (es : List (Entry O S A R)) → ((j : ℕ) (e : Entry O S A R) → get_elem? es j ≡ some e → Stands lists n e) → ((k place : ℕ) → k < n → total (named_by k place) es ≤ 1) → AllApart p.same_state (configs_of es ++ configurations known)
  all_apart [] stands once = lawful.apart
  all_apart (e ∷ es) stands once =
      let mine = stands 0 e refl in (
        (λ among. ⊎_elim (λ (here : Among p.same_state (configs_of es) e.config.lifted e.config.state).
            let found = among_at p.same_state es e.config.lifted e.config.state here in
            let other = found.1 in
            let theirs = stands (suc found.0) other found.2 in
            let shard : e.shard ≡ other.shard = sym (home_is e mine) ∙ ap (λ set. home_of set n) found.3 ∙ home_is other theirs in
            let there : get_elem? (lists e.shard) other.place ≡ some theirs.1.0 = ap (λ k. get_elem? (lists k) other.place) shard ∙ theirs.1.1 in
            ⊎_elim
            (λ (place : e.place ≡ other.place).
            let one : named_by e.shard e.place e ≡ 1 = rw (one_where_same e.shard, one_where_same e.place) refl in
            let also : named_by e.shard e.place other ≡ 1 = rw (sym shard, sym place) (rw (one_where_same e.shard, one_where_same e.place) refl) in
            let most = total_at (named_by e.shard e.place) es found.0 other found.2 in
            let twice = once e.shard e.place mine.0 in
            omega arith)
            (λ (ne : e.place ≢ other.place).
            apart_at p.same_state equal (lists e.shard) e.place other.place mine.1.0 theirs.1.0 (stored.lawful e.shard mine.0).apart mine.1.1 there ne
            (ap (λ (c : Configuration S). c.lifted) mine.1.2 ∙ found.3 ∙ ap (λ (c : Configuration S). c.lifted) (sym theirs.1.2))
            (ap (λ (c : Configuration S). p.same_state c.state theirs.1.0.0.state) mine.1.2 ∙ ap (λ (c : Configuration S). p.same_state e.config.state c.state) theirs.1.2 ∙ found.4))
            (cases_eq e.place other.place))
            (is_fresh e mine)
            (among_either p.same_state (configs_of es) (configurations known) e.config.lifted e.config.state among)),
        all_apart es (λ j x at. stands (suc j) x at) (λ k place small. let t = once k place small in omega arith),
      )

  pub has_all : HasReachable p (length known + length all)
  has_all = (
    configs_of all ++ configurations known,
    record {
      apart = all_apart all stored.stands (λ k place small. let e = stored.names k place small in let o = once_at_most place (length (lists k)) in omega arith);
      reachable = all_reachable all stored.stands;
    },
    let a = length-append (configs_of all) (configurations known) in
        let b = length_configs all in
        let c = stored_count p known in
        omega arith,
  )
