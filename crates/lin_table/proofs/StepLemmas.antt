-- Each step keeps the rule of the shards.
use Rattle.std.proofs.Common.{◌≡◌, ◌≢◌, ℕ, ◌+◌, ◌*◌, ◌<◌, ◌≤◌, Bool, List, [], ◌∷◌, ◌++◌, length, get_or, set, refl, sym, ap, ◌∙◌, subst, ⊎_elim, arith, length-append, length-set, get_or-set_same, cond, eqb, eq-eqb, ne_eqb, Option, Some, None, All, map, drop}
use mathlib.Core.Option.{Option as Maybe, none, some}
use lib.ListN.{get_elem?}
use Rattle.std.proofs.lemmas.List.{get_or-set_other, set-get_or}
use Rattle.std.proofs.lemmas.Bool.{cases_eq}
use Rattle.atomic_table.specs.Table.{Me, step, keeps, takes, gives, put_back, rest, stepped, Allows}
use Rattle.atomic_table.proofs.Lists.{at_set, at_snoc, at_longer, at_last, set_again, set_here, set_else, exchanged}
use Rattle.std.proofs.lemmas.List.Elements.{All-push, All-same}
use Rattle.std.proofs.Math.Seq.{drop-append_seam}
use prog.Atomic.{either}
use Rattle.lin_history.specs.Problems.ProblemParts.{ProblemParts}
use Rattle.lin_search.specs.declared.longest.Longest.{Longest}
use Rattle.lin_search.specs.Configuration.{Configuration}
use Rattle.lin_search.specs.Store.{Store, Holds}
use Rattle.lin_table.specs.declared.rule.Entry.{Entry}
use Rattle.lin_table.specs.declared.rule.ShardOut.{ShardOut}
use Rattle.lin_table.specs.declared.rule.View.{View}
use Rattle.lin_table.specs.declared.rule.Plan.{Plan}
use Rattle.lin_table.specs.Home.{home_of}
use Rattle.lin_table.specs.Totals.{once_below, one_if_same}
use Rattle.lin_table.specs.Rule.{AreFresh, known_in, out_at, outs, named_by, names_of, Stands, Fits, IsHome, RuleHolds, KeepsRule, view}
use Rattle.lin_table.specs.Steps.{with_out, with_none_out, with_entry, with_added, TakeTells, GiveBackTells, GiveMoreTells, added, HasMore}
use Rattle.lin_table.proofs.TotalLemmas.{total_set, total_at, total_append, one_where_same, none_where_other, once_more}

pub some_same : {X : Type 0} {x y : X} → Some x ≡ Some y → x ≡ y
some_same e = cc (e)

-- a pair by its parts
abbrev pub pair_of : {S : Type 0} → Configuration S → Longest → Configuration S × Longest
pair_of config longest = (config, longest)

module _ {O S A R : Type 0} where
  pub each_set : (problem : ProblemParts O S A R) (n : ℕ) (lists : ℕ → List (Configuration S × Longest)) (views : List (View O S A R)) (id : ℕ) (w : View O S A R) → ((j : ℕ) (u : View O S A R) → get_elem? views j ≡ some u → Fits problem n lists u) → Fits problem n lists w → (j : ℕ) (u : View O S A R) → get_elem? (set views id w) j ≡ some u → Fits problem n lists u
  each_set problem n lists views id w all mine j u e =
      ⊎_elim
      (λ (t : (j ≡ id) × (w ≡ u)). subst (Fits problem n lists) t.1 mine)
      (λ (t : (j ≢ id) × (get_elem? views j ≡ some u)). all j u t.1)
      (at_set views id j w u e)

  module _ (problem : ProblemParts O S A R) (n hands : ℕ) (words : List ℕ) (homes : List (Maybe (Store O S A R))) (views : List (View O S A R)) (lists : ℕ → List (Configuration S × Longest)) (h : RuleHolds problem n hands words homes views lists) (id : ℕ) (v : View O S A R) (at : get_elem? views id ≡ some v) where
    pub take_holds : (i : ℕ) → i < n → 0 < v.parts → v.out ≡ None → outs i views ≡ 0 → (y : Store O S A R) → y.pairs ≡ lists i
        → RuleHolds problem n hands (set words i 1) (set homes i none) (set views id (with_out v (record { shard = i; pairs = y.pairs }))) lists
    take_holds i below part no_out free y is =
        let o : ShardOut O S A R = record { shard = i; pairs = y.pairs } in
        let w = with_out v o in
        let fits = h.each id v at in
        let wide = h.long in
        let outs_are : (k : ℕ) → outs k (set views id w) ≡ outs k views + one_if_same i k
        = λ k. let s = total_set (λ (u : View O S A R). out_at k u.out) views id v w at in let z : out_at k v.out ≡ 0 = ap (out_at k) no_out in omega arith in
        let mine : outs i (set views id w) ≡ 1 = let a = outs_are i in let b = one_where_same i in omega arith in record {
          long = (length-set words i 1 ∙ wide.0, length-set homes i none ∙ wide.1);
          parts = let s = total_set (λ (u : View O S A R). u.parts) views id v w at in let a = h.parts in omega arith;
          words_are = λ k small. ⊎_elim
              (λ (e : k ≡ i). subst (λ z. get_or (set words i 1) z 0 ≡ outs z (set views id w)) (sym e) (get_or-set_same words i 1 0 (omega arith) ∙ sym mine))
              (λ (ne : k ≢ i). let a = outs_are k in let b = none_where_other i k (λ e. ne (sym e)) in let c = h.words_are k small in let d = get_or-set_other words i k 1 0 ne in omega arith)
              (cases_eq k i);
          at_most_one = λ k small. ⊎_elim
              (λ (e : k ≡ i). subst (λ z. outs z (set views id w) ≤ 1) (sym e) (omega arith))
              (λ (ne : k ≢ i). let a = outs_are k in let b = none_where_other i k (λ e. ne (sym e)) in let c = h.at_most_one k small in omega arith)
              (cases_eq k i);
          at_home = λ k small zero_out. ⊎_elim
              (λ (e : k ≡ i). let a : outs i (set views id w) ≡ 0 = subst (λ z. outs z (set views id w) ≡ 0) e zero_out in absurd (omega arith))
              (λ (ne : k ≢ i). let a = outs_are k in subst (IsHome problem (lists k)) (sym (set_else homes i k none ne)) (h.at_home k small (omega arith)))
              (cases_eq k i);
          each = each_set problem n lists views id w h.each (record {
            problem_is = fits.problem_is;
            out = λ o' has. let e : o ≡ o' = cc in subst (λ (z : ShardOut O S A R). (z.shard < n) × (z.pairs ≡ lists z.shard)) e (below, is);
            entries = fits.entries;
            empty = λ no. absurd (omega arith);
          });
          names = λ k p small. let s = total_set (names_of k p) views id v w at in let a = h.names k p small in omega arith;
          belongs = h.belongs;
        }

    pub give_holds : (i : ℕ) (old : List (Configuration S × Longest)) → 0 < v.parts → v.out ≡ Some (record { shard = i; pairs = old }) → (y : Store O S A R) → y.problem ≡ problem → y.pairs ≡ old
        → RuleHolds problem n hands (set words i 0) (set homes i (some y)) (set views id (with_none_out v)) lists
    give_holds i old part has y theirs same =
        let w = with_none_out v in
        let fits = h.each id v at in
        let its = fits.out (record { shard = i; pairs = old }) has in
        let below : i < n = its.0 in
        let wide = h.long in
        let outs_are : (k : ℕ) → outs k (set views id w) + one_if_same i k ≡ outs k views
        = λ k. let s = total_set (λ (u : View O S A R). out_at k u.out) views id v w at in let z : out_at k v.out ≡ one_if_same i k = ap (out_at k) has in omega arith in
        let mine : outs i (set views id w) ≡ 0 = let a = outs_are i in let b = one_where_same i in let c = h.at_most_one i below in omega arith in record {
          long = (length-set words i 0 ∙ wide.0, length-set homes i (some y) ∙ wide.1);
          parts = let s = total_set (λ (u : View O S A R). u.parts) views id v w at in let a = h.parts in omega arith;
          words_are = λ k small. ⊎_elim
              (λ (e : k ≡ i). subst (λ z. get_or (set words i 0) z 0 ≡ outs z (set views id w)) (sym e) (get_or-set_same words i 0 0 (omega arith) ∙ sym mine))
              (λ (ne : k ≢ i). let a = outs_are k in let b = none_where_other i k (λ e. ne (sym e)) in let c = h.words_are k small in let d = get_or-set_other words i k 0 0 ne in omega arith)
              (cases_eq k i);
          at_most_one = λ k small. let a = outs_are k in let b = h.at_most_one k small in omega arith;
          at_home = λ k small zero_out. ⊎_elim
              (λ (e : k ≡ i). subst (λ z. IsHome problem (lists z) (get_elem? (set homes i (some y)) z)) (sym e) (record { shard = y; is_there = set_here homes i (some y) (omega arith); problem_is = theirs; pairs_are = same ∙ its.1 }))
              (λ (ne : k ≢ i). let a = outs_are k in let b = none_where_other i k (λ e. ne (sym e)) in subst (IsHome problem (lists k)) (sym (set_else homes i k (some y) ne)) (h.at_home k small (omega arith)))
              (cases_eq k i);
          each = each_set problem n lists views id w h.each (record {
            problem_is = fits.problem_is;
            out = λ o' no. absurd (cc);
            entries = fits.entries;
            empty = λ no. absurd (omega arith);
          });
          names = λ k p small. let s = total_set (names_of k p) views id v w at in let a = h.names k p small in omega arith;
          belongs = h.belongs;
        }

  pub takes_out : (same : S → S → Bool) (a : Plan O S A R) (slots id : ℕ) (me : Me (Store O S A R) (View O S A R)) (i : ℕ) → i < a.shards → 0 < me.0.parts → me.0.out ≡ None
      → Allows (KeepsRule same a) slots id me i (λ n. either (eqb n 0) 1 n) (TakeTells (step slots i 0 1 none) me)
  takes_out same a slots id me i below part no_out s k len at small =
      let v : View O S A R = me.0 in
      let r : ℕ = get_or s.words i 0 in
      let lists = k.0 in
      let h = k.1 in
      let mine = (h.each id v at).problem_is part in
      let is = h.words_are i below in
      ⊎_elim
      (λ (hit : r ≡ 0).
      let home = h.at_home i below (omega arith) in
      let o : ShardOut O S A R = record { shard = i; pairs = home.shard.pairs } in
      let Q : ℕ → Type 0 = λ (n : ℕ). KeepsRule same a (stepped s i n id me.1 (with_out v o) (takes i home.shard)) in (
        with_out v o,
        takes i home.shard,
        home.is_there,
        subst (λ (z : ℕ). Q (either (eqb z 0) 1 z)) (sym hit) (lists, take_holds a.problem.now a.shards a.hands s.words s.homes s.views lists h id v at i below part no_out (omega arith) home.shard home.pairs_are, k.2),
        ((λ _. (home.shard, refl, ap Some home.problem_is ∙ sym mine, refl)), (λ no. absurd (no hit))),
      ))
      (λ (miss : r ≢ 0). (
        v,
        keeps,
        tt,
        exchanged r 0 1 (λ (n : ℕ). KeepsRule same a (stepped s i n id me.1 v keeps)) (λ hit. absurd (miss hit))
            (λ _. (lists, subst (λ (z : List ℕ × List (View O S A R)). RuleHolds a.problem.now a.shards a.hands z.0 s.homes z.1 lists) (λ j. (sym (set-get_or s.words i 0) j, sym (set_again s.views id v at) j)) h, k.2)),
        ((λ hit. absurd (miss hit)), (λ _. refl)),
      ))
      (cases_eq r 0)

  pub gives_back : (same_state : S → S → Bool) (a : Plan O S A R) (slots id : ℕ) (me : Me (Store O S A R) (View O S A R)) (i : ℕ) (y : Store O S A R) (others : List (ℕ × Store O S A R)) → 0 < me.0.parts → me.1 ≡ (i, y) ∷ others → Some y.problem ≡ me.0.problem → me.0.out ≡ Some (record { shard = i; pairs = y.pairs })
      → Allows (KeepsRule same_state a) slots id me i (λ _. 0) (λ _. GiveBackTells (step slots i 0 0 none) me 0)
  gives_back same_state a slots id me i y others part holds theirs has s k len at small =
      let v : View O S A R = me.0 in
      let lists = k.0 in
      let h = k.1 in
      let mine = (h.each id v at).problem_is part in (
        with_none_out v,
        gives,
        tt,
        (lists, subst (λ (c : List (ℕ × Store O S A R)). RuleHolds a.problem.now a.shards a.hands (set s.words i 0) (put_back s.homes c) (set s.views id (with_none_out v)) lists) (sym holds) (give_holds a.problem.now a.shards a.hands s.words s.homes s.views lists h id v at i y.pairs part has y (some_same (theirs ∙ mine)) refl), k.2),
        (refl, refl),
      )

  module _ (problem : ProblemParts O S A R) (n hands : ℕ) (words : List ℕ) (homes : List (Maybe (Store O S A R))) (views : List (View O S A R)) (lists : ℕ → List (Configuration S × Longest)) (h : RuleHolds problem n hands words homes views lists) (id : ℕ) (v : View O S A R) (at : get_elem? views id ≡ some v) where
    pub more_holds : (i : ℕ) (old : List (Configuration S × Longest)) (q : Configuration S × Longest) → 0 < v.parts → v.out ≡ Some (record { shard = i; pairs = old }) → (y : Store O S A R) → y.problem ≡ problem → y.pairs ≡ old ++ q ∷ [] → home_of q.0.lifted n ≡ i
        → RuleHolds problem n hands (set words i 0) (set homes i (some y)) (set views id (with_entry v (record { shard = i; place = length old; config = q.0 }))) (λ k. cond (eqb k i) (old ++ q ∷ []) (lists k))
    more_holds i old q part has y theirs longer home =
        let e : Entry O S A R = record { shard = i; place = length old; config = q.0 } in
        let w = with_entry v e in
        let lists' : ℕ → List (Configuration S × Longest) = λ k. cond (eqb k i) (old ++ q ∷ []) (lists k) in
        let here : lists' i ≡ old ++ q ∷ [] = ap (λ b. cond b (old ++ q ∷ []) (lists i)) (eq-eqb i i refl) in
        let else' : (k : ℕ) → k ≢ i → lists' k ≡ lists k = λ k ne. ap (λ b. cond b (old ++ q ∷ []) (lists k)) (ne_eqb k i ne) in
        let fits = h.each id v at in
        let its = fits.out (record { shard = i; pairs = old }) has in
        let below : i < n = its.0 in
        let wide = h.long in
        let stays : (x : Entry O S A R) → Stands lists n x → Stands lists' n x
        = λ x (s : Stands lists n x). (
          s.0,
          (
            s.1.0,
            ⊎_elim
                (λ (a : x.shard ≡ i). subst (λ l. get_elem? l x.place ≡ some s.1.0) (sym (ap lists' a ∙ here)) (at_longer old (q ∷ []) x.place s.1.0 (subst (λ l. get_elem? l x.place ≡ some s.1.0) (ap lists a ∙ sym its.1) s.1.1)))
                (λ (ne : x.shard ≢ i). subst (λ l. get_elem? l x.place ≡ some s.1.0) (sym (else' x.shard ne)) s.1.1)
                (cases_eq x.shard i),
            s.1.2,
          ),
        ) in
        let outs_are : (k : ℕ) → outs k (set views id w) + one_if_same i k ≡ outs k views
        = λ k. let s = total_set (λ (u : View O S A R). out_at k u.out) views id v w at in let z : out_at k v.out ≡ one_if_same i k = ap (out_at k) has in omega arith in
        let mine : outs i (set views id w) ≡ 0 = let a = outs_are i in let b = one_where_same i in let c = h.at_most_one i below in omega arith in record {
          long = (length-set words i 0 ∙ wide.0, length-set homes i (some y) ∙ wide.1);
          parts = let s = total_set (λ (u : View O S A R). u.parts) views id v w at in let a = h.parts in omega arith;
          words_are = λ k small. ⊎_elim
              (λ (e : k ≡ i). subst (λ z. get_or (set words i 0) z 0 ≡ outs z (set views id w)) (sym e) (get_or-set_same words i 0 0 (omega arith) ∙ sym mine))
              (λ (ne : k ≢ i). let a = outs_are k in let b = none_where_other i k (λ e. ne (sym e)) in let c = h.words_are k small in let d = get_or-set_other words i k 0 0 ne in omega arith)
              (cases_eq k i);
          at_most_one = λ k small. let a = outs_are k in let b = h.at_most_one k small in omega arith;
          at_home = λ k small zero_out. ⊎_elim
              (λ (e : k ≡ i). subst (λ z. IsHome problem (lists' z) (get_elem? (set homes i (some y)) z)) (sym e) (record { shard = y; is_there = set_here homes i (some y) (omega arith); problem_is = theirs; pairs_are = longer ∙ sym here }))
              (λ (ne : k ≢ i). let a = outs_are k in let b = none_where_other i k (λ e. ne (sym e)) in
              subst (λ l. IsHome problem l (get_elem? (set homes i (some y)) k)) (sym (else' k ne)) (subst (IsHome problem (lists k)) (sym (set_else homes i k (some y) ne)) (h.at_home k small (omega arith))))
              (cases_eq k i);
          each = λ j u at'. ⊎_elim
              (λ (t : (j ≡ id) × (w ≡ u)). subst (Fits problem n lists') t.1 (record {
                problem_is = fits.problem_is;
                out = λ o' no. absurd (cc);
                entries = λ m x there. ⊎_elim (λ was. stays x (fits.entries m x was)) (λ (same : e ≡ x). subst (Stands lists' n) same (below, (q, subst (λ l. get_elem? l (length old) ≡ some q) (sym here) (at_last old q (length old) refl), refl))) (at_snoc v.entries e x m there);
                empty = λ no. absurd (omega arith);
              }))
              (λ (t : (j ≢ id) × (get_elem? views j ≡ some u)). let f = h.each j u t.1 in record {
                problem_is = f.problem_is;
                out = λ o' has'. let g = f.out o' has' in ⊎_elim
                    (λ (a : o'.shard ≡ i).
                    let x = total_at (λ (z : View O S A R). out_at i z.out) (set views id w) j u at' in
                    let z : out_at i u.out ≡ 1 = ap (out_at i) has' ∙ ap (λ s. one_if_same s i) a ∙ one_where_same i in absurd (omega arith))
                    (λ (ne : o'.shard ≢ i). (g.0, g.1 ∙ sym (else' o'.shard ne)))
                    (cases_eq o'.shard i);
                entries = λ m x there. stays x (f.entries m x there);
                empty = f.empty;
              })
              (at_set views id j w u at');
          names = λ k p small.
              let s = total_set (names_of k p) views id v w at in
              let t = total_append (named_by k p) v.entries (e ∷ []) in
              let a = h.names k p small in ⊎_elim
              (λ (b : k ≡ i).
              let l : length (lists' k) ≡ length old + 1 = ap (λ z. length (lists' z)) b ∙ ap length here ∙ length-append old (q ∷ []) in
              let l0 : length (lists k) ≡ length old = ap (λ z. length (lists z)) b ∙ sym (ap length its.1) in
              let o = once_more p (length old) in
              let o1 = ap (once_below p) l in let o0 = ap (once_below p) l0 in
              let one : one_if_same i k ≡ 1 = ap (one_if_same i) b ∙ one_where_same i in
              let prod : one_if_same i k * one_if_same (length old) p ≡ one_if_same (length old) p = ap (λ z. z * one_if_same (length old) p) one ∙ omega arith in omega arith)
              (λ (ne : k ≢ i).
              let none' : one_if_same i k ≡ 0 = none_where_other i k (λ e. ne (sym e)) in
              let prod : one_if_same i k * one_if_same (length old) p ≡ 0 = ap (λ z. z * one_if_same (length old) p) none' ∙ omega arith in
              let o1 = ap (λ l. once_below p (length l)) (else' k ne) in omega arith)
              (cases_eq k i);
          belongs = λ k small. let Q : ℕ → Configuration S × Longest → Type 0 = λ m (x : Configuration S × Longest). home_of x.0.lifted n ≡ m in ⊎_elim
              (λ (b : k ≡ i). subst (λ m. All (Q m) (lists' m)) (sym b) (All-same (Q i) _ _ here (All-push (Q i) old q (All-same (Q i) _ _ its.1 (h.belongs i below)) home)))
              (λ (ne : k ≢ i). All-same (Q k) _ _ (else' k ne) (h.belongs k small))
              (cases_eq k i);
        }

  -- the entry of a pair that is stored behind these
  abbrev pub entry_of : ℕ → List (Configuration S × Longest) → Configuration S × Longest → Entry O S A R
  entry_of i old q = record { shard = i; place = length old; config = q.0 }

  -- what a shard with one pair more adds to its hand's entries
  pub adds_one : (known : List Bool → S → Type 0) (i shards : ℕ) (me : Me (Store O S A R) (View O S A R)) (more : HasMore known i shards me) → with_added i me ≡ with_entry me.0 (entry_of i more.pairs more.pair)
  adds_one known i shards me more =
      let v : View O S A R = me.0 in
      let one : added i me.0.out me.1 ≡ entry_of i more.pairs more.pair ∷ [] =
      ap (λ (o : Option (ShardOut O S A R)). added i o me.1) more.out
      ∙ ap (added i (Some (record { shard = i; pairs = more.pairs }))) more.holds
      ∙ ap (map (λ (p : Configuration S × Longest). entry_of i more.pairs p)) (ap (drop (length more.pairs)) more.longer ∙ drop-append_seam more.pairs (more.pair ∷ [])) in
      ap (λ (l : List (Entry O S A R)). view v.problem v.parts (v.entries ++ l) None) one

  -- a pair that was not known goes to its shard
  fresh_more : (same : S → S → Bool) (a : Plan O S A R) (i : ℕ) (lists : ℕ → List (Configuration S × Longest)) (old : List (Configuration S × Longest)) (q : Configuration S × Longest) → i < a.shards → old ≡ lists i → (Holds same (known_in a.known) q.0.lifted q.0.state → ⊥) → AreFresh same a lists → AreFresh same a (λ k. cond (eqb k i) (old ++ q ∷ []) (lists k))
  fresh_more same a i lists old q below is fresh all k small =
      let Q : Configuration S × Longest → Type 0 = λ (x : Configuration S × Longest). Holds same (known_in a.known) x.0.lifted x.0.state → ⊥ in
      let lists' : ℕ → List (Configuration S × Longest) = λ k. cond (eqb k i) (old ++ q ∷ []) (lists k) in
      let here : lists' i ≡ old ++ q ∷ [] = ap (λ b. cond b (old ++ q ∷ []) (lists i)) (eq-eqb i i refl) in ⊎_elim
      (λ (b : k ≡ i). subst (λ m. All Q (lists' m)) (sym b) (All-same Q _ _ here (All-push Q old q (All-same Q _ _ is (all i below)) fresh)))
      (λ (ne : k ≢ i). All-same Q _ _ (ap (λ b. cond b (old ++ q ∷ []) (lists k)) (ne_eqb k i ne)) (all k small))
      (cases_eq k i)

  pub gives_more : (same : S → S → Bool) (a : Plan O S A R) (slots id : ℕ) (me : Me (Store O S A R) (View O S A R)) (i : ℕ) → 0 < me.0.parts → HasMore (Holds same (known_in a.known)) i a.shards me
      → Allows (KeepsRule same a) slots id me i (λ _. 0) (λ _. GiveMoreTells (step slots i 0 0 none) me 0)
  gives_more same a slots id me i part more s k len at small =
      let v : View O S A R = me.0 in
      let h = k.1 in
      let mine = (h.each id v at).problem_is part in
      let e : Entry O S A R = entry_of i more.pairs more.pair in (
        with_entry v e,
        gives,
        tt,
        (
          (λ m. cond (eqb m i) (more.pairs ++ more.pair ∷ []) (k.0 m)),
          subst (λ (c : List (ℕ × Store O S A R)). RuleHolds a.problem.now a.shards a.hands (set s.words i 0) (put_back s.homes c) (set s.views id (with_entry v e)) (λ m. cond (eqb m i) (more.pairs ++ more.pair ∷ []) (k.0 m))) (sym more.holds)
              (more_holds a.problem.now a.shards a.hands s.words s.homes s.views k.0 h id v at i more.pairs more.pair part more.out more.now (some_same (more.problem_is ∙ mine)) more.longer more.home),
          fresh_more same a i k.0 more.pairs more.pair ((h.each id v at).out (record { shard = i; pairs = more.pairs }) more.out).0 ((h.each id v at).out (record { shard = i; pairs = more.pairs }) more.out).1 more.fresh k.2,
        ),
        (sym (adds_one (Holds same (known_in a.known)) i a.shards me more), refl),
      )

  -- a hand that has added a pair to the shard that it has out
  pub has_more : (known : List Bool → S → Type 0) (i shards : ℕ) (me : Me (Store O S A R) (View O S A R)) (y now : Store O S A R) (q : Configuration S × Longest) → me.1 ≡ (i, y) ∷ [] → Some y.problem ≡ me.0.problem → me.0.out ≡ Some (record { shard = i; pairs = y.pairs })
      → now.problem ≡ y.problem → now.pairs ≡ y.pairs ++ q ∷ [] → home_of q.0.lifted shards ≡ i → (known q.0.lifted q.0.state → ⊥) → HasMore known i shards (me.0, (i, now) ∷ rest me.1)
  has_more known i shards me y now q holds theirs has same longer home fresh = record {
    now = now;
    pairs = y.pairs;
    pair = q;
    holds = ap (λ (l : List (ℕ × Store O S A R)). (i, now) ∷ rest l) holds;
    problem_is = ap Some same ∙ theirs;
    out = has;
    longer = longer;
    home = home;
    fresh = fresh;
  }

  -- and what that adds to its entries
  pub adds_pair : (known : List Bool → S → Type 0) (i shards : ℕ) (me : Me (Store O S A R) (View O S A R)) (y now : Store O S A R) (q : Configuration S × Longest) → me.1 ≡ (i, y) ∷ [] → Some y.problem ≡ me.0.problem → me.0.out ≡ Some (record { shard = i; pairs = y.pairs })
      → now.problem ≡ y.problem → now.pairs ≡ y.pairs ++ q ∷ [] → home_of q.0.lifted shards ≡ i → (known q.0.lifted q.0.state → ⊥) → with_added i (me.0, (i, now) ∷ rest me.1) ≡ with_entry me.0 (entry_of i y.pairs q)
  unfolding has_more
  adds_pair known i shards me y now q holds theirs has same longer home fresh = adds_one known i shards (me.0, (i, now) ∷ rest me.1) (has_more known i shards me y now q holds theirs has same longer home fresh)

  abbrev pub value_at : Store O S A R → List (ℕ × Store O S A R) → Store O S A R
  value_at d [] = d
  value_at d (x ∷ xs) = x.1
