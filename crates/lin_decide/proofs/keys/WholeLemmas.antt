-- What the orders of the keys tell of the whole.
use Rattle.std.proofs.Common.{◌≡◌, ℕ, zero, suc, ◌+◌, ◌<◌, ◌≤◌, Option, Some, List, [], ◌∷◌, ◌++◌, length, take, drop, inl, inr, refl, sym, ◌∙◌, ap, subst, append_assoc, arith}
use Rattle.std.specs.Prelude.{slice_index, ℤ}
use Rattle.std.specs.List.{slice_get}
use Rattle.std.specs.Prelude.{slice_index_or, pos}
use Rattle.std.proofs.lemmas.Bool.{cases_lt}
use Rattle.lin_object.specs.Kinds.{after}
use Rattle.lin_object.specs.Kinds.Map.{MapLaw}
use Rattle.lin_object.specs.Kinds.Set.{SetLaw}
use Rattle.lin_object.specs.contracts.state.ObjStatePartialEq.TheImpl.{eq-value as state_eq}
use Rattle.lin_history.specs.Problems.AnyProblem.{any_problem}
use Rattle.lin_object.specs.declared.op.Op.{Op}
use Rattle.lin_object.specs.declared.reply.Reply.{Reply}
use Rattle.lin_object.specs.declared.state.ObjState.{ObjState}
use Rattle.lin_decide.specs.Keys.KeyedCalls.{AreKeyNumbers, IsOnKey}
use Rattle.std.proofs.lemmas.Option.{slice_get_cases}
use Rattle.lin_history.specs.declared.problems.problem.ProblemCall.{ProblemCall}
use Rattle.lin_history.specs.Problems.Lists.{In, IsDistinct, IsLeast}
use Rattle.lin_history.specs.Problems.ListLemmas.{apart, distinct_early, in_early, in_either, in_late}
use Rattle.lin_history.specs.Problems.Problem.{Problem}
use Rattle.lin_history.specs.Problems.ProblemParts.{AreTimed, ProblemParts}
use Rattle.lin_history.specs.Problems.Precedence.{IsCompleted}
use Rattle.lin_history.specs.Problems.Linearizations.{IsLinearization}
use Rattle.lin_parts.specs.Parts.{part_of}
use Rattle.lin_decide.specs.Keys.Products.{with_key, IsProduct, AreOfKey, AreCallsOf, AreListsOfKeys, part_of_key}
use Rattle.lin_decide.specs.Keys.Merging.{order_at, AreOrdersOfKeys, IsKeyOrder, IsKeyRun, IsMerged, IsMergedWhole}
use Rattle.lin_decide.specs.Keys.PartOrder.{AreFullOrders, HasRefutedPart, IsFullOrder}
use Rattle.lin_search.specs.FirstCallLemmas.{no_part}
use Rattle.lin_parts.specs.PartLemmas.{completed_there, legal_calls, name_in, named_in}
use Rattle.lin_parts.specs.ListLemmas.{take_one}
use Rattle.lin_decide.proofs.keys.KeyLemmas.{key_in, in_key, key_append}
use Rattle.lin_decide.proofs.keys.KeyPartLemmas.{none_of_whole, order_of_key}
use Rattle.lin_decide.proofs.keys.MapKeyLemmas as maps
use Rattle.lin_decide.proofs.keys.SetKeyLemmas as sets
use Rattle.lin_decide.proofs.keys.MergeLemmas.{distinct_of_keys, merged_least_linearization, run_of_key, total_of_key}

none_past : (lists : List (List ℕ)) (k : ℕ) → length lists ≤ k → order_at lists k ≡ []
none_past [] k h = refl
none_past (x ∷ xs) zero h = absurd (omega (arith, h))
none_past (x ∷ xs) (suc k) h = none_past xs k (omega (arith, h))

take_then_drop : (l : List ℕ) (n : ℕ) → take n l ++ drop n l ≡ l
take_then_drop [] zero = refl
take_then_drop [] (suc n) = refl
take_then_drop (c ∷ l) zero = refl
take_then_drop (c ∷ l) (suc n) = ap (λ (z : List ℕ). c ∷ z) (take_then_drop l n)

-- the last call of a list stands behind what is in front of another
last_late : (early : List ℕ) (x : ℕ) (late front : List ℕ) (z : ℕ) → early ++ x ∷ late ≡ front ++ z ∷ [] → In z (x ∷ late)
last_late [] x late front z e = subst (λ (y : List ℕ). In z y) (sym e) (in_late z front (z ∷ []) (inl refl))
last_late (a ∷ early) x late [] z e = absurd (let f : early ++ x ∷ late ≡ [] = cc in no_end early f)
  where
    no_end : (l : List ℕ) → l ++ x ∷ late ≡ [] → ⊥
    no_end [] f = cc
    no_end (b ∷ l) f = cc
last_late (a ∷ early) x late (b ∷ front) z e = last_late early x late front z (cc)

module _ {State Op Reply : Type 0} (p : Problem State Op Reply) (numbers : List ℕ) (count : ℕ) (only : ℕ → State → State) (keeps : State → Type 0) (product : IsProduct p (slice_index numbers) count only keeps)
    (calls : length numbers ≡ length p.calls) (lists : List (List ℕ)) (all : length lists ≡ count)
    (of_keys : (k : ℕ) → k < count → AreCallsOf (slice_index numbers) (length numbers) k (order_at lists k)) where
  abbrev key : ℕ → ℕ
  key c = slice_index numbers c

  of_key : (k : ℕ) → k < count → AreOfKey p (slice_index numbers) k (order_at lists k)
  of_key k h = record {
    there = λ c w e. (of_keys k h).there c (omega (arith, w, calls)) e;
    own = (of_keys k h).own;
    within = λ c w. (let b = (of_keys k h).below c w in omega (arith, b, calls));
  }

  at_start : (k : ℕ) (own : List (ProblemCall Op Reply)) (P : Problem State Op Reply → Type 0) → P (part_of p own) → P (part_of_key p (only k) own)
  at_start k own P h = subst (λ (s : State). P (record p { start = s; calls = own })) (sym (product.same_start k)) h

  -- Where a part has no linearization the whole has none.
  pub none_of_parts : (k : ℕ) → k < length lists → HasRefutedPart p (order_at lists k) → (l : List ℕ) → IsLinearization p l → ⊥
  none_of_parts k h r = (let known : k < count = omega (arith, h, all) in none_of_whole p (slice_index numbers) count only keeps product k known (order_at lists k) r.calls (of_key k known) r.part (at_start k r.calls (λ q. (m : List ℕ) → IsLinearization q m → ⊥) r.none))

  module _ (orders : List (List ℕ)) (full : AreFullOrders p lists orders) where
    full_at : (k : ℕ) → k < count → IsFullOrder p (order_at lists k) (order_at orders k)
    full_at k h = full.each k (omega (arith, h, all))

    least_at : (k : ℕ) (h : k < count) → IsLeast (IsLinearization (part_of_key p (only k) (full_at k h).calls)) (full_at k h).first
    least_at k h = at_start k (full_at k h).calls (λ q. IsLeast (IsLinearization q) (full_at k h).first) (full_at k h).least

    key_order : (k : ℕ) → IsKeyOrder p (slice_index numbers) k (order_at orders k)
    key_order k = elim (cases_lt k count) [
      | inl h ↦ subst (λ (z : List ℕ). IsKeyOrder p (slice_index numbers) k z) (sym (full_at k h).is) (order_of_key p (slice_index numbers) count only keeps product k h (order_at lists k) (full_at k h).calls (of_key k h) (full_at k h).part (full_at k h).first (full_at k h).all (least_at k h) (full_at k h).filled)
      | inr past ↦ record {
        there = λ c w e. absurd (let b = product.within c w in omega (arith, b, e, past));
        least = λ l lin early h rest c late e f. absurd (no_order early h rest (sym (nothing k past) ∙ e));
      }
    ]
      where
        no_order : (early : List ℕ) (h : ℕ) (rest : List ℕ) → [] ≡ early ++ h ∷ rest → ⊥
        no_order [] h rest e = cc
        no_order (x ∷ early) h rest e = cc

        nothing : (k : ℕ) → count ≤ k → order_at orders k ≡ []
        nothing k past = none_past orders k (let e = full.count in omega (arith, e, all, past))

    key_run : (k : ℕ) → IsKeyRun p (only k) (order_at orders k)
    key_run k = elim (cases_lt k count) [
      | inl h ↦ subst (λ (z : List ℕ). IsKeyRun p (only k) z) (sym (full_at k h).is) (run_of_key p (slice_index numbers) count only keeps product k (order_at lists k) (full_at k h).calls (full_at k h).part (total_of_key p (slice_index numbers) count only keeps product k (order_at lists k) (full_at k h).calls (full_at k h).part (of_key k h).within) (full_at k h).first (full_at k h).all (least_at k h).0 (full_at k h).filled)
      | inr past ↦ subst (λ (z : List ℕ). IsKeyRun p (only k) z) (sym (none_past orders k (let e = full.count in omega (arith, e, all, past)))) (record { distinct = tt; legal = (only k p.start, refl); time = tt })
    ]

    in_order : (k c : ℕ) → In c (order_at orders k) → (k < count) × In c (order_at lists k)
    in_order k c h = elim (cases_lt k count) [
      | inl known ↦ (
        known,
        (
            let f = full_at k known in
            let n = named_in (order_at lists k) c f.all (subst (λ (z : List ℕ). In c z) f.is h) in
            subst (λ (d : ℕ). In d (order_at lists k)) (sym n.2) (name_in (order_at lists k) n.0 (in_all k known n.0 n.1))
            ),
      )
      | inr past ↦ absurd (subst (λ (z : List ℕ). In c z) (none_past orders k (let e = full.count in omega (arith, e, all, past))) h)
    ]
      where
        in_all : (k : ℕ) (known : k < count) (i : ℕ) → In i (full_at k known).all → i < length (order_at lists k)
        in_all k known i h = (
            let f = full_at k known in
            let e = f.part.count in
            elim (in_either i f.first f.filled.rest (subst (λ (z : List ℕ). In i z) f.filled.is h)) [
              | inl a ↦ (let w = legal_calls (part_of p f.calls) f.first p.start f.least.0.continuation.legal.0 f.least.0.continuation.legal.1 i a in omega (arith, w, e))
              | inr a ↦ f.filled.below i a
            ]
            )

    -- The orders are of the keys.
    pub orders_of_keys : AreOrdersOfKeys numbers orders
    orders_of_keys = record {
      within = λ c h. (let w = product.within c (omega (arith, h, calls)) in let e = full.count in omega (arith, w, e, all));
      own = λ k c h. (let i = in_order k c h in (of_keys k i.0).own c i.1);
      below = λ k c h. (let i = in_order k c h in (of_keys k i.0).below c i.1);
    }

    module _ (timed : AreTimed p.calls) (merged : List ℕ) (whole : IsMergedWhole numbers orders merged) (end : ℕ) (within : end ≤ length merged)
        (behind : (c : ℕ) → In c (drop end merged) → IsCompleted p c → ⊥)
        (last : (i : ℕ) → end ≡ suc i → slice_index merged i < length p.calls → IsCompleted p (slice_index merged i)) where
      parts : merged ≡ take end merged ++ drop end merged
      parts = sym (take_then_drop merged end)

      in_merged : (c : ℕ) → In c (take end merged) → In c merged
      in_merged c h = subst (λ (z : List ℕ). In c z) (sym parts) (in_early c (take end merged) (drop end merged) h)

      there : (c : ℕ) → In c merged → c < length p.calls
      there c h = (let b = orders_of_keys.below (key c) c (subst (λ (z : List ℕ). In c z) (sym (whole.whole (key c))) (in_key (slice_index numbers) (key c) c merged h refl)) in omega (arith, b, calls))

      front_of : (k : ℕ) → order_at orders k ≡ with_key (slice_index numbers) k (take end merged) ++ with_key (slice_index numbers) k (drop end merged)
      front_of k = whole.whole k ∙ ap (with_key (slice_index numbers) k) parts ∙ key_append (slice_index numbers) k (take end merged) (drop end merged)

      distinct : IsDistinct (take end merged)
      distinct = distinct_of_keys p (slice_index numbers) count only keeps product (take end merged) (λ k. distinct_early (with_key (slice_index numbers) k (take end merged)) (with_key (slice_index numbers) k (drop end merged)) (subst (λ (z : List ℕ). IsDistinct z) (front_of k) (key_run k).distinct))

      complete : (c : ℕ) → IsCompleted p c → In c (take end merged)
      complete c done =
          let o = (key_order (key c)).there c (completed_there p c done) refl in
          let m = (key_in (slice_index numbers) (key c) c merged (subst (λ (z : List ℕ). In c z) (whole.whole (key c)) o)).0 in
          elim (in_either c (take end merged) (drop end merged) (subst (λ (z : List ℕ). In c z) parts m)) [ inl h ↦ h | inr h ↦ absurd (behind c h done) ]

      ends_by : (n : ℕ) → end ≡ n → (early : List ℕ) (x : ℕ) (late : List ℕ) → take end merged ≡ early ++ x ∷ late → ((c : ℕ) → IsCompleted p c → In c early) → ⊥
      ends_by zero e early x late f done = no_part early x late (subst (λ (n : ℕ). take n merged ≡ early ++ x ∷ late) e f)
      ends_by (suc i) e early x late f done =
          let less : i < length merged = omega (arith, e, within) in
          let step : suc i ≡ i + 1 = omega arith in
          let is : take end merged ≡ take i merged ++ slice_index merged i ∷ [] = ap (λ (n : ℕ). take n merged) (e ∙ step) ∙ take_one merged i less in
          let here : In (slice_index merged i) (take end merged) = subst (λ (z : List ℕ). In (slice_index merged i) z) (sym is) (in_late (slice_index merged i) (take i merged) (slice_index merged i ∷ []) (inl refl)) in
          let completed = last i e (there (slice_index merged i) (in_merged (slice_index merged i) here)) in
          apart (slice_index merged i) early (x ∷ late) (subst (λ (z : List ℕ). IsDistinct z) f distinct) (done (slice_index merged i) completed) (last_late early x late (take i merged) (slice_index merged i) (sym f ∙ is))

      is_merged : IsMerged p (slice_index numbers) (order_at orders) (take end merged)
      is_merged = record {
        fronts = λ k. (with_key (slice_index numbers) k (drop end merged), front_of k);
        least = λ early x late f. whole.merging.least early x (late ++ drop end merged) (parts ∙ ap (λ (z : List ℕ). z ++ drop end merged) f ∙ append_assoc early (x ∷ late) (drop end merged));
        ends = ends_by end refl;
      }

      -- The merged orders up to the last completed call are the least linearization of the whole.
      pub whole_least : IsLeast (IsLinearization p) (take end merged)
      whole_least = merged_least_linearization p (slice_index numbers) count only keeps product timed (order_at orders) key_run (take end merged) is_merged key_order (λ c h. product.within c (there c (in_merged c h))) complete

-- ---- maps and sets

module _ {Object : Type 0} (parts : ProblemParts Object ObjState Op Reply) (keys : List ℤ) (numbers : List ℕ) (known : AreKeyNumbers parts keys numbers) where
  abbrev value : ℕ → ℤ
  value k = slice_index_or keys k (pos 0)

  read_there : (xs : List ℤ) (k : ℕ) (v : ℤ) → slice_get xs k ≡ Some v → (k < length xs) × (slice_index_or xs k (pos 0) ≡ v)
  read_there [] k v e = absurd (cc)
  read_there (x ∷ xs) zero v e = (omega arith, (let f : ◌≡◌ {A = Option ℤ} (Some x) (Some v) = e in cc))
  read_there (x ∷ xs) (suc k) v e = (let r = read_there xs k v e in ((let b = r.0 in omega (arith, b)), r.1))

  get_back : (xs : List ℤ) (k : ℕ) → k < length xs → slice_get xs k ≡ Some (slice_index_or xs k (pos 0))
  get_back [] k h = absurd (omega (arith, h))
  get_back (x ∷ xs) zero h = refl
  get_back (x ∷ xs) (suc k) h = get_back xs k (omega (arith, h))

  within : (c : ℕ) → c < length parts.calls → slice_index numbers c < length keys
  within c h = elim (slice_get_cases parts.calls c).1 [
    | inl there ↦ (let k = known.keyed c there.0 there.2 in (read_there keys (slice_index numbers c) k.0 k.1).0)
    | inr none ↦ absurd (let e = none.0 in omega (arith, h, e))
  ]

  pub numbers_within : (c : ℕ) → c < length numbers → slice_index numbers c < length keys
  numbers_within c h = (let e = known.count in within c (omega (arith, h, e)))

  keys_apart : (i j : ℕ) → i < length keys → j < length keys → value i ≡ value j → i ≡ j
  keys_apart i j h k e = known.distinct i j (value i) (get_back keys i h) (get_back keys j k ∙ ap (λ (v : ℤ). Some v) (sym e))

  on_value : (c : ℕ) (x : ProblemCall Op Reply) → slice_get parts.calls c ≡ Some x → IsOnKey parts.start x.op (value (slice_index numbers c))
  on_value c x e = (let k = known.keyed c x e in subst (λ (v : ℤ). IsOnKey parts.start x.op v) (sym (read_there keys (slice_index numbers c) k.0 k.1).1) k.2)

  -- What follows for every product of these keys holds of the problem, which is one.
  pub by_product : MapLaw after state_eq.it → SetLaw after state_eq.it → (G : Type 0) → ((only : ℕ → ObjState → ObjState) (keeps : ObjState → Type 0) → IsProduct (any_problem parts) (slice_index numbers) (length keys) only keeps → G) → G
  by_product map_law set_law G follows = elim known.empty [
    | inl e ↦ follows (λ (k : ℕ). maps.only (value k)) (maps.IsOrderedMap map_law) (maps.map_product map_law parts (slice_index numbers) (length keys) value within (λ c x f. maps.on_key map_law [] x.op (value (slice_index numbers c)) (subst (λ (s : ObjState). IsOnKey s x.op (value (slice_index numbers c))) e (on_value c x f))) keys_apart e)
    | inr e ↦ follows (λ (k : ℕ). sets.only (value k)) (sets.IsOrderedSet set_law) (sets.set_product set_law parts (slice_index numbers) (length keys) value within (λ c x f. sets.on_key set_law [] x.op (value (slice_index numbers c)) (subst (λ (s : ObjState). IsOnKey s x.op (value (slice_index numbers c))) e (on_value c x f))) keys_apart e)
  ]

  module _ (map_law : MapLaw after state_eq.it) (set_law : SetLaw after state_eq.it) (lists : List (List ℕ)) (all : AreListsOfKeys keys numbers lists) where
    pub none_by_keys : (k : ℕ) → k < length lists → HasRefutedPart (any_problem parts) (order_at lists k) → (l : List ℕ) → IsLinearization (any_problem parts) l → ⊥
    none_by_keys k h r l lin = by_product map_law set_law ⊥ (λ only keeps product. none_of_parts (any_problem parts) numbers (length keys) only keeps product known.count lists all.count all.calls k h r l lin)

    pub orders_by_keys : (orders : List (List ℕ)) → AreFullOrders (any_problem parts) lists orders → AreOrdersOfKeys numbers orders
    orders_by_keys orders full = by_product map_law set_law (AreOrdersOfKeys numbers orders) (λ only keeps product. orders_of_keys (any_problem parts) numbers (length keys) only keeps product known.count lists all.count all.calls orders full)

    pub least_by_keys : (orders : List (List ℕ)) → AreFullOrders (any_problem parts) lists orders → AreTimed parts.calls → (merged : List ℕ) → IsMergedWhole numbers orders merged → (end : ℕ) → end ≤ length merged
        → ((c : ℕ) → In c (drop end merged) → IsCompleted (any_problem parts) c → ⊥)
        → ((i : ℕ) → end ≡ suc i → slice_index merged i < length parts.calls → IsCompleted (any_problem parts) (slice_index merged i))
        → IsLeast (IsLinearization (any_problem parts)) (take end merged)
    least_by_keys orders full timed merged whole end below behind last = by_product map_law set_law (IsLeast (IsLinearization (any_problem parts)) (take end merged)) (λ only keeps product. whole_least (any_problem parts) numbers (length keys) only keeps product known.count lists all.count all.calls orders full timed merged whole end below behind last)
