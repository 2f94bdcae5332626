-- Maps are products of their keys: by the law of their runs, which says which value each key has.
use Rattle.std.proofs.Common.{◌≡◌, ℕ, ◌<◌, Bool, true, false, cond, Option, Some, None, List, [], ◌∷◌, length, inl, inr, refl, sym, ◌∙◌, ap, subst, arith, if◌then◌else◌}
use Rattle.std.specs.Prelude.{ℤ, find, filter, is_some, IsSome}
use Rattle.std.specs.List.{slice_get}
use Rattle.std.specs.Option.{option_map}
use Rattle.std.specs.Ordering.{int_eq, int_cmp}
use Rattle.std.specs.Cmp.{signed_Decides}
use Rattle.std.proofs.lemmas.Cmp.{int_eq_equiv}
use Rattle.std.specs.List.Sorted.{IsStrictlySortedBy}
use Rattle.std.proofs.lemmas.List.Kept.{IsStrictlySortedBy-filter}
use Rattle.std.proofs.lemmas.Option.{slice_get_cases}
use Rattle.lin_object.specs.declared.op.Op.{Op}
use Rattle.lin_object.specs.declared.op.Op.TheVariants.{Put, Lookup, Delete}
use Rattle.lin_object.specs.declared.pairs.Pair.{Pair}
use Rattle.lin_object.specs.declared.reply.Reply.{Reply}
use Rattle.lin_object.specs.declared.reply.Reply.TheVariants.{Okay, Flag}
use Rattle.lin_object.specs.declared.state.ObjState.{ObjState}
use Rattle.lin_object.specs.declared.state.ObjState.TheVariants.{Map}
use Rattle.lin_object.specs.Pairs.{value_at, reply_to_lookup, with_value, without_key}
use Rattle.lin_object.specs.contracts.reply.ReplyPartialEq.TheImpl.{eq-value as reply_eq}
use Rattle.lin_history.specs.declared.problems.problem.ProblemCall.{ProblemCall}
use Rattle.lin_history.specs.Problems.Problem.{Problem}
use Rattle.lin_history.specs.Problems.ProblemParts.{ProblemParts}
use Rattle.lin_history.specs.Problems.LegalLists.{next, after_call, state_if_fits, fits}
use Rattle.lin_history.specs.Problems.AnyProblem.{any_problem}
use Rattle.lin_history.specs.OptionLemmas.{and_some}
use Rattle.lin_history.specs.Problems.Precedence.{IsCompleted}
use Rattle.lin_search.specs.FirstCallLemmas.{next_within}
use Rattle.lin_decide.specs.Keys.KeyedCalls.{IsOnKey}
use Rattle.lin_decide.specs.Keys.Products.{IsProduct}
use Rattle.lin_object.specs.StepLemmas.{state_same}
use Rattle.lin_object.specs.Kinds.{after}
use Rattle.lin_object.specs.Kinds.Map.{HasKeysInOrder, MapLaw}
use Rattle.lin_object.specs.contracts.state.ObjStatePartialEq.TheImpl.{eq-value as state_eq}

-- the pairs of one key
abbrev pub of_key : ℤ → List Pair → List Pair
of_key k pairs = filter (λ (p : Pair). int_eq p.key k) pairs

-- a map of that key's pairs
abbrev pub only : ℤ → ObjState → ObjState
only k (Map pairs) = Map (of_key k pairs)
only k s = s

-- the operation is one of a map, on that key
abbrev pub IsOn : ℤ → Op → Type 0
IsOn k (Put q v) = q ≡ k
IsOn k (Lookup q) = q ≡ k
IsOn k (Delete q) = q ≡ k
IsOn k op = ⊥

map_pairs : (ps qs : List Pair) → ◌≡◌ {A = ObjState} (Map ps) (Map qs) → ps ≡ qs
map_pairs ps qs e = cc

module _ (law : MapLaw after state_eq.it) where
  -- maps whose keys have the same values are the same
  maps_same : (ps qs : List Pair) → HasKeysInOrder ps → HasKeysInOrder qs → ((key : ℤ) → value_at key ps ≡ value_at key qs) → ps ≡ qs
  maps_same ps qs h k same = map_pairs ps qs (state_same (Map ps) (Map qs) ((law.same ps qs h k).1 same))

  ordered_only : (k : ℤ) (ps : List Pair) → HasKeysInOrder ps → HasKeysInOrder (of_key k ps)
  ordered_only k ps h = IsStrictlySortedBy-filter (λ (p q : Pair). int_cmp p.key q.key) (λ (p : Pair). int_eq p.key k) ps h

  -- ---- the value of a key in the pairs of one

  value_cases : (b : Bool) (p : Pair) (o : Option Pair) → option_map (λ (pair : Pair). pair.value) (cond b (Some p) o) ≡ (if b then Some p.value else option_map (λ (pair : Pair). pair.value) o)
  value_cases true p o = refl
  value_cases false p o = refl

  value_with : (key : ℤ) (p : Pair) (ps : List Pair) → value_at key (p ∷ ps) ≡ (if int_eq p.key key then Some p.value else value_at key ps)
  value_with key p ps = value_cases (int_eq p.key key) p (find (λ (pair : Pair). int_eq pair.key key) ps)

  none_either : (b : Bool) → ◌≡◌ {A = Option ℤ} None (if b then None else None)
  none_either true = refl
  none_either false = refl

  value_only : (k key : ℤ) (ps : List Pair) → value_at key (of_key k ps) ≡ (if int_eq k key then value_at key ps else None)
  value_only k key [] = none_either (int_eq k key)
  value_only k key (p ∷ ps) = go (int_eq p.key k) (int_eq k key) refl refl (value_only k key ps)
    where
      go : (own asked : Bool) → int_eq p.key k ≡ own → int_eq k key ≡ asked → value_at key (of_key k ps) ≡ (if int_eq k key then value_at key ps else None) → value_at key (cond own (p ∷ of_key k ps) (of_key k ps)) ≡ (if asked then value_at key (p ∷ ps) else None)
      go true true e f rest =
          value_with key p (of_key k ps)
          ∙ ap (λ (o : Option ℤ). if int_eq p.key key then Some p.value else o) (rest ∙ ap (λ (b : Bool). if b then value_at key ps else None) f)
          ∙ sym (value_with key p ps)
      go true false e f rest =
          let other : int_eq p.key key ≡ false = subst (λ (z : ℤ). int_eq z key ≡ false) (sym ((signed_Decides p.key k).0 e)) f in
          value_with key p (of_key k ps) ∙ ap (λ (b : Bool). if b then Some p.value else value_at key (of_key k ps)) other ∙ rest ∙ ap (λ (b : Bool). if b then value_at key ps else None) f
      go false true e f rest =
          let other : int_eq p.key key ≡ false = subst (λ (z : ℤ). int_eq p.key z ≡ false) ((signed_Decides k key).0 f) e in
          rest ∙ ap (λ (b : Bool). if b then value_at key ps else None) f ∙ sym (value_with key p ps ∙ ap (λ (b : Bool). if b then Some p.value else value_at key ps) other)
      go false false e f rest = rest ∙ ap (λ (b : Bool). if b then value_at key ps else None) f

  value_own : (k : ℤ) (ps : List Pair) → value_at k (of_key k ps) ≡ value_at k ps
  value_own k ps = value_only k k ps ∙ ap (λ (b : Bool). if b then value_at k ps else None) (int_eq_equiv.refl k)

  -- ---- each step

  ordered_put : (k v : ℤ) (ps : List Pair) → HasKeysInOrder ps → HasKeysInOrder (with_value k v ps)
  ordered_put k v ps h = law.order ps (with_value k v ps) (record { process = 0; op = Put k v; reply = Okay } ∷ []) h (Map (with_value k v ps), refl, refl)

  ordered_delete : (k : ℤ) (ps : List Pair) → HasKeysInOrder ps → HasKeysInOrder (without_key k ps)
  ordered_delete k ps h = law.order ps (without_key k ps) (record { process = 0; op = Delete k; reply = Flag (is_some (value_at k ps)) } ∷ []) h (Map (without_key k ps), refl, refl)

  value_put : (key k v : ℤ) (ps : List Pair) → value_at key (with_value k v ps) ≡ (if int_eq k key then Some v else value_at key ps)
  value_put key k v ps =
      let run = law.values ps (record { process = 0; op = Put k v; reply = Okay } ∷ []) (Map (with_value k v ps)) (Map (with_value k v ps), refl, refl) in
      ap (value_at key) (map_pairs (with_value k v ps) run.0 run.1) ∙ run.2 key

  value_delete : (key k : ℤ) (ps : List Pair) → value_at key (without_key k ps) ≡ (if int_eq k key then None else value_at key ps)
  value_delete key k ps =
      let run = law.values ps (record { process = 0; op = Delete k; reply = Flag (is_some (value_at k ps)) } ∷ []) (Map (without_key k ps)) (Map (without_key k ps), refl, refl) in
      ap (value_at key) (map_pairs (without_key k ps) run.0 run.1) ∙ run.2 key

  either_way : (b : Bool) (x o : Option ℤ) → (if b then x else (if b then o else None)) ≡ (if b then (if b then x else o) else None)
  either_way true x o = refl
  either_way false x o = refl

  put_only : (k v : ℤ) (ps : List Pair) → HasKeysInOrder ps → with_value k v (of_key k ps) ≡ of_key k (with_value k v ps)
  put_only k v ps h = maps_same (with_value k v (of_key k ps)) (of_key k (with_value k v ps)) (ordered_put k v (of_key k ps) (ordered_only k ps h)) (ordered_only k (with_value k v ps) (ordered_put k v ps h))
      (λ key. value_put key k v (of_key k ps)
      ∙ ap (λ (o : Option ℤ). if int_eq k key then Some v else o) (value_only k key ps)
      ∙ either_way (int_eq k key) (Some v) (value_at key ps)
      ∙ sym (value_only k key (with_value k v ps) ∙ ap (λ (o : Option ℤ). if int_eq k key then o else None) (value_put key k v ps)))

  delete_only : (k : ℤ) (ps : List Pair) → HasKeysInOrder ps → without_key k (of_key k ps) ≡ of_key k (without_key k ps)
  delete_only k ps h = maps_same (without_key k (of_key k ps)) (of_key k (without_key k ps)) (ordered_delete k (of_key k ps) (ordered_only k ps h)) (ordered_only k (without_key k ps) (ordered_delete k ps h))
      (λ key. value_delete key k (of_key k ps)
      ∙ ap (λ (o : Option ℤ). if int_eq k key then None else o) (value_only k key ps)
      ∙ either_way (int_eq k key) None (value_at key ps)
      ∙ sym (value_only k key (without_key k ps) ∙ ap (λ (o : Option ℤ). if int_eq k key then o else None) (value_delete key k ps)))

  -- another key's pairs stay
  other_same : (j k : ℤ) (ps qs : List Pair) (x : Option ℤ) → (k ≡ j → ⊥) → HasKeysInOrder ps → HasKeysInOrder qs → ((key : ℤ) → value_at key qs ≡ (if int_eq k key then x else value_at key ps)) → of_key j qs ≡ of_key j ps
  other_same j k ps qs x apart h g values = maps_same (of_key j qs) (of_key j ps) (ordered_only j qs g) (ordered_only j ps h) (λ key. value_only j key qs ∙ go key (int_eq j key) refl ∙ sym (value_only j key ps))
    where
      go : (key : ℤ) (b : Bool) → int_eq j key ≡ b → (if b then value_at key qs else None) ≡ (if b then value_at key ps else None)
      go key false e = refl
      go key true e = values key ∙ still (int_eq k key) refl
        where
          still : (c : Bool) → int_eq k key ≡ c → (if c then x else value_at key ps) ≡ value_at key ps
          still false f = refl
          still true f = absurd (apart ((signed_Decides k key).0 f ∙ sym ((signed_Decides j key).0 e)))

  -- ---- every step

  -- what a step on key k does to the pairs: to those of the key as to all, and to no others
  abbrev OnlyKey : ℤ → List Pair → ℕ → Op → Option (ObjState × Reply) → Type 0
  OnlyKey k ps process op None = after (Map (of_key k ps)) process op ≡ None
  OnlyKey k ps process op (Some x) = (qs : List Pair) × (x.0 ≡ Map qs) × HasKeysInOrder qs × (after (Map (of_key k ps)) process op ≡ Some (Map (of_key k qs), x.1)) × ((j : ℤ) → (k ≡ j → ⊥) → of_key j qs ≡ of_key j ps)

  step_only : (k : ℤ) (ps : List Pair) (process : ℕ) (op : Op) → HasKeysInOrder ps → IsOn k op → OnlyKey k ps process op (after (Map ps) process op)
  step_only k ps process (Put q v) h on = (
    with_value q v ps,
    refl,
    ordered_put q v ps h,
    subst (λ (j : ℤ). ◌≡◌ {A = Option (ObjState × Reply)} (Some (Map (with_value q v (of_key j ps)), Okay)) (Some (Map (of_key j (with_value q v ps)), Okay))) on (ap (λ (rs : List Pair). Some (Map rs, Okay)) (put_only q v ps h)),
    (λ j apart. other_same j q ps (with_value q v ps) (Some v) (λ e. apart (sym on ∙ e)) h (ordered_put q v ps h) (λ key. value_put key q v ps)),
  )
  step_only k ps process (Lookup q) h on = (
    ps,
    refl,
    h,
    subst (λ (j : ℤ). ◌≡◌ {A = Option (ObjState × Reply)} (Some (Map (of_key j ps), reply_to_lookup (value_at q (of_key j ps)))) (Some (Map (of_key j ps), reply_to_lookup (value_at q ps)))) on (ap (λ (o : Option ℤ). Some (Map (of_key q ps), reply_to_lookup o)) (value_own q ps)),
    (λ j apart. refl),
  )
  step_only k ps process (Delete q) h on = (
    without_key q ps,
    refl,
    ordered_delete q ps h,
    subst (λ (j : ℤ). ◌≡◌ {A = Option (ObjState × Reply)} (Some (Map (without_key q (of_key j ps)), Flag (is_some (value_at q (of_key j ps))))) (Some (Map (of_key j (without_key q ps)), Flag (is_some (value_at q ps))))) on
        (ap (λ (o : Option ℤ). Some (Map (without_key q (of_key q ps)), Flag (is_some o))) (value_own q ps) ∙ ap (λ (rs : List Pair). Some (Map rs, Flag (is_some (value_at q ps)))) (delete_only q ps h)),
    (λ j apart. other_same j q ps (without_key q ps) None (λ e. apart (sym on ∙ e)) h (ordered_delete q ps h) (λ key. value_delete key q ps)),
  )
  step_only k ps process op h on = absurd on

  has_step : (k : ℤ) (ps : List Pair) (process : ℕ) (op : Op) → IsOn k op → (y : ObjState × Reply) × (after (Map ps) process op ≡ Some y)
  has_step k ps process (Put q v) on = ((Map (with_value q v ps), Okay), refl)
  has_step k ps process (Lookup q) on = ((Map ps, reply_to_lookup (value_at q ps)), refl)
  has_step k ps process (Delete q) on = ((Map (without_key q ps), Flag (is_some (value_at q ps))), refl)
  has_step k ps process op on = absurd on

  pub on_key : (pairs : List Pair) (op : Op) (k : ℤ) → IsOnKey (Map pairs) op k → IsOn k op
  on_key pairs (Put q v) k on = on
  on_key pairs (Lookup q) k on = on
  on_key pairs (Delete q) k on = on
  on_key pairs op k on = absurd on

  fits_then : (b : Bool) (u t : ObjState) → cond b (Some u) None ≡ Some t → (b ≡ true) × (u ≡ t)
  fits_then true u t e = (refl, (let same : ◌≡◌ {A = Option ObjState} (Some u) (Some t) = e in cc))
  fits_then false u t e = absurd (cc)

  no_pairs : HasKeysInOrder []
  unfolding IsStrictlySortedBy
  no_pairs = tt

  -- a map with its keys in order
  abbrev pub IsOrderedMap : ObjState → Type 0
  IsOrderedMap s = (ps : List Pair) × (s ≡ Map ps) × HasKeysInOrder ps

  module _ {Object : Type 0} (parts : ProblemParts Object ObjState Op Reply) (key : ℕ → ℕ) (count : ℕ) (value : ℕ → ℤ)
      (within : (c : ℕ) → c < length parts.calls → key c < count)
      (keyed : (c : ℕ) (x : ProblemCall Op Reply) → slice_get parts.calls c ≡ Some x → IsOn (value (key c)) x.op)
      (apart : (i j : ℕ) → i < count → j < count → value i ≡ value j → i ≡ j)
      (empty : parts.start ≡ Map []) where
    abbrev P : Problem ObjState Op Reply
    P = any_problem parts

    record IsKeyStep (ps : List Pair) (t : ObjState) (c : ℕ) : Type 0 where
      rest : List Pair
      is : t ≡ Map rest
      order : HasKeysInOrder rest
      own : next P (Map (of_key (value (key c)) ps)) c ≡ Some (Map (of_key (value (key c)) rest))
      other : (j : ℤ) → (value (key c) ≡ j → ⊥) → of_key j rest ≡ of_key j ps

    key_step : (ps : List Pair) (t : ObjState) (c : ℕ) → HasKeysInOrder ps → next P (Map ps) c ≡ Some t → IsKeyStep ps t c
    key_step ps t c h e = from (slice_get parts.calls c) refl e
      where
        answered : (x : ProblemCall Op Reply) → slice_get parts.calls c ≡ Some x → (a : Option (ObjState × Reply)) → OnlyKey (value (key c)) ps x.process x.op a → state_if_fits reply_eq.it x.returned a ≡ Some t → IsKeyStep ps t c
        answered x f None k n = absurd (cc)
        answered x f (Some y) k n =
            let b = fits_then (fits reply_eq.it y.1 x.returned) y.0 t n in
            record {
              rest = k.0;
              is = sym b.1 ∙ k.1;
              order = k.2;
              own = ap (after_call P (Map (of_key (value (key c)) ps))) f ∙ ap (λ (a : Option (ObjState × Reply)). state_if_fits reply_eq.it x.returned a) k.3 ∙ ap (λ (d : Bool). cond d (Some (Map (of_key (value (key c)) k.0))) None) b.0;
              other = k.4;
            }

        from : (o : Option (ProblemCall Op Reply)) → slice_get parts.calls c ≡ o → after_call P (Map ps) o ≡ Some t → IsKeyStep ps t c
        from None f n = absurd (cc)
        from (Some x) f n = answered x f (after (Map ps) x.process x.op) (step_only (value (key c)) ps x.process x.op h (keyed c x f)) n

    step_of : (s t : ObjState) (c : ℕ) (m : IsOrderedMap s) → next P s c ≡ Some t → IsKeyStep m.0 t c
    step_of s t c m e = key_step m.0 t c m.2 (subst (λ (u : ObjState). next P u c ≡ Some t) m.1 e)

    key_back : (ps : List Pair) (u : ObjState) (c : ℕ) → HasKeysInOrder ps → next P (Map (of_key (value (key c)) ps)) c ≡ Some u → (t : ObjState) × (next P (Map ps) c ≡ Some t) × (only (value (key c)) t ≡ u)
    key_back ps u c h e = from (slice_get parts.calls c) refl e
      where
        answered : (x : ProblemCall Op Reply) → slice_get parts.calls c ≡ Some x → (a : Option (ObjState × Reply)) → after (Map ps) x.process x.op ≡ a → OnlyKey (value (key c)) ps x.process x.op a → state_if_fits reply_eq.it x.returned (after (Map (of_key (value (key c)) ps)) x.process x.op) ≡ Some u → (t : ObjState) × (next P (Map ps) c ≡ Some t) × (only (value (key c)) t ≡ u)
        answered x f None g k n = absurd (let m = sym (ap (λ (a : Option (ObjState × Reply)). state_if_fits reply_eq.it x.returned a) k) ∙ n in cc)
        answered x f (Some y) g k n =
            let m = sym (ap (λ (a : Option (ObjState × Reply)). state_if_fits reply_eq.it x.returned a) k.3) ∙ n in
            let b = fits_then (fits reply_eq.it y.1 x.returned) (Map (of_key (value (key c)) k.0)) u m in
            (y.0, ap (after_call P (Map ps)) f ∙ ap (λ (a : Option (ObjState × Reply)). state_if_fits reply_eq.it x.returned a) g ∙ ap (λ (d : Bool). cond d (Some y.0) None) b.0, ap (only (value (key c))) k.1 ∙ b.1)

        from : (o : Option (ProblemCall Op Reply)) → slice_get parts.calls c ≡ o → after_call P (Map (of_key (value (key c)) ps)) o ≡ Some u → (t : ObjState) × (next P (Map ps) c ≡ Some t) × (only (value (key c)) t ≡ u)
        from None f n = absurd (cc)
        from (Some x) f n = answered x f (after (Map ps) x.process x.op) refl (step_only (value (key c)) ps x.process x.op h (keyed c x f)) n

    back_of : (s u : ObjState) (c : ℕ) → IsOrderedMap s → next P (only (value (key c)) s) c ≡ Some u → (t : ObjState) × (next P s c ≡ Some t) × (only (value (key c)) t ≡ u)
    back_of s u c m e = subst (λ (r : ObjState). (t : ObjState) × (next P r c ≡ Some t) × (only (value (key c)) t ≡ u)) (sym m.1) (key_back m.0 u c m.2 (subst (λ (r : ObjState). next P (only (value (key c)) r) c ≡ Some u) m.1 e))

    pending_step : (c : ℕ) (ps : List Pair) (x : ProblemCall Op Reply) → slice_get parts.calls c ≡ Some x → (r : Option (ℕ × Reply)) → x.returned ≡ r → (IsSome r → ⊥) → (t : ObjState) × (next P (Map ps) c ≡ Some t)
    pending_step c ps x f (Some r) e pending = absurd (pending refl)
    pending_step c ps x f None e pending =
        let y = has_step (value (key c)) ps x.process x.op (keyed c x f) in
        (y.0.0, ap (after_call P (Map ps)) f ∙ ap (λ (a : Option (ObjState × Reply)). state_if_fits reply_eq.it x.returned a) y.1 ∙ ap (λ (q : Option (ℕ × Reply)). state_if_fits reply_eq.it q (Some y.0)) e)

    total_of : (s : ObjState) (c : ℕ) → IsOrderedMap s → c < length parts.calls → (IsCompleted P c → ⊥) → (t : ObjState) × (next P s c ≡ Some t)
    total_of s c m h pending = elim (slice_get_cases parts.calls c).1 [
      | inl there ↦ subst (λ (u : ObjState). (t : ObjState) × (next P u c ≡ Some t)) (sym m.1) (pending_step c m.0 there.0 there.2 there.0.returned refl (λ done. pending (and_some (slice_get parts.calls c) (λ x. IsSome x.returned) there.0 there.2 done)))
      | inr none ↦ absurd (let e = none.0 in omega (arith, h, e))
    ]

    -- A map is the product of its keys.
    pub map_product : IsProduct P key count (λ (k : ℕ). only (value k)) IsOrderedMap
    map_product = record {
      back = back_of;
      within = within;
      start = ([], empty, no_pairs);
      same_start = λ k. rw empty refl;
      total = total_of;
      kept = λ s t c m e. (let k = step_of s t c m e in (k.rest, k.is, k.order));
      own = λ s t c m e. (let k = step_of s t c m e in rw (m.1, k.is) k.own);
      other = λ s t c j m e known other. (let k = step_of s t c m e in rw (m.1, k.is) (ap Map (k.other (value j) (λ same. other (apart (key c) j (within c (next_within P s t c e)) known same)))));
    }
