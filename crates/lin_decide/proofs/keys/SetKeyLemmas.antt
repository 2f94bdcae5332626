-- Sets are products of their items: by the law of their runs, which says which items are in.
use Rattle.std.proofs.Common.{◌≡◌, ℕ, ◌<◌, Bool, true, false, cond, ◌||◌, Option, Some, None, List, [], ◌∷◌, length, inl, inr, refl, sym, ◌∙◌, ap, subst, arith, if◌then◌else◌}
use Rattle.std.specs.Prelude.{ℤ, filter, IsSome}
use Rattle.std.specs.List.{slice_get}
use Rattle.std.specs.Ordering.{int_eq, int_cmp}
use Rattle.std.specs.Cmp.{signed_Decides}
use Rattle.std.proofs.lemmas.Cmp.{int_eq_equiv}
use Rattle.std.specs.List.Sorted.{IsStrictlySortedBy}
use Rattle.std.proofs.lemmas.List.Kept.{IsStrictlySortedBy-filter}
use Rattle.std.proofs.lemmas.Option.{slice_get_cases}
use Rattle.lin_object.specs.declared.op.Op.{Op}
use Rattle.lin_object.specs.declared.op.Op.TheVariants.{Insert, Remove, Contains}
use Rattle.lin_object.specs.declared.reply.Reply.{Reply}
use Rattle.lin_object.specs.declared.reply.Reply.TheVariants.{Flag}
use Rattle.lin_object.specs.declared.state.ObjState.{ObjState}
use Rattle.lin_object.specs.declared.state.ObjState.TheVariants.{Set}
use Rattle.lin_object.specs.contracts.state.ObjStatePartialEq.TheImpl.{eq-value as state_eq}
use Rattle.lin_object.specs.contracts.reply.ReplyPartialEq.TheImpl.{eq-value as reply_eq}
use Rattle.lin_object.specs.Items.{is_in, with_in_order, without_item}
use Rattle.lin_object.specs.StepLemmas.{state_same}
use Rattle.lin_object.specs.Kinds.{after}
use Rattle.lin_object.specs.Kinds.Set.{IsIncreasing, SetLaw}
use Rattle.lin_history.specs.declared.problems.problem.ProblemCall.{ProblemCall}
use Rattle.lin_history.specs.Problems.Problem.{Problem}
use Rattle.lin_history.specs.Problems.ProblemParts.{ProblemParts}
use Rattle.lin_history.specs.Problems.LegalLists.{next, after_call, state_if_fits, fits}
use Rattle.lin_history.specs.Problems.AnyProblem.{any_problem}
use Rattle.lin_history.specs.OptionLemmas.{and_some}
use Rattle.lin_history.specs.Problems.Precedence.{IsCompleted}
use Rattle.lin_search.specs.FirstCallLemmas.{next_within}
use Rattle.lin_decide.specs.Keys.KeyedCalls.{IsOnKey}
use Rattle.lin_decide.specs.Keys.Products.{IsProduct}

-- the items that are this one
abbrev pub of_item : ℤ → List ℤ → List ℤ
of_item k xs = filter (λ (x : ℤ). int_eq x k) xs

-- a set of these
abbrev pub only : ℤ → ObjState → ObjState
only k (Set xs) = Set (of_item k xs)
only k s = s

-- the operation is one of a set, on that item
abbrev pub IsOn : ℤ → Op → Type 0
IsOn k (Insert q) = q ≡ k
IsOn k (Remove q) = q ≡ k
IsOn k (Contains q) = q ≡ k
IsOn k op = ⊥

set_items : (xs ys : List ℤ) → ◌≡◌ {A = ObjState} (Set xs) (Set ys) → xs ≡ ys
set_items xs ys e = cc

ordered_only : (k : ℤ) (xs : List ℤ) → IsIncreasing xs → IsIncreasing (of_item k xs)
ordered_only k xs h = IsStrictlySortedBy-filter int_cmp (λ (x : ℤ). int_eq x k) xs h

false_either : (b : Bool) → false ≡ (if b then false else false)
false_either true = refl
false_either false = refl

or_with : (b o : Bool) (c : Bool) → b ≡ c → (b || o) ≡ (c || o)
or_with b o c e = ap (λ (x : Bool). x || o) e

member_only : (k item : ℤ) (xs : List ℤ) → is_in item (of_item k xs) ≡ (if int_eq k item then is_in item xs else false)
member_only k item [] = false_either (int_eq k item)
member_only k item (x ∷ xs) = go (int_eq x k) (int_eq k item) refl refl (member_only k item xs)
  where
    go : (own asked : Bool) → int_eq x k ≡ own → int_eq k item ≡ asked → is_in item (of_item k xs) ≡ (if int_eq k item then is_in item xs else false) → is_in item (cond own (x ∷ of_item k xs) (of_item k xs)) ≡ (if asked then is_in item (x ∷ xs) else false)
    go true true e f rest = ap (λ (o : Bool). int_eq x item || o) (rest ∙ ap (λ (b : Bool). if b then is_in item xs else false) f)
    go true false e f rest =
        let other : int_eq x item ≡ false = subst (λ (z : ℤ). int_eq z item ≡ false) (sym ((signed_Decides x k).0 e)) f in
        or_with (int_eq x item) (is_in item (of_item k xs)) false other ∙ rest ∙ ap (λ (b : Bool). if b then is_in item xs else false) f
    go false true e f rest =
        let other : int_eq x item ≡ false = subst (λ (z : ℤ). int_eq x z ≡ false) ((signed_Decides k item).0 f) e in
        rest ∙ ap (λ (b : Bool). if b then is_in item xs else false) f ∙ sym (or_with (int_eq x item) (is_in item xs) false other)
    go false false e f rest = rest ∙ ap (λ (b : Bool). if b then is_in item xs else false) f

member_own : (k : ℤ) (xs : List ℤ) → is_in k (of_item k xs) ≡ is_in k xs
member_own k xs = member_only k k xs ∙ ap (λ (b : Bool). if b then is_in k xs else false) (int_eq_equiv.refl k)

either_way : (b x o : Bool) → (if b then x else (if b then o else false)) ≡ (if b then (if b then x else o) else false)
either_way true x o = refl
either_way false x o = refl

module _ (law : SetLaw after state_eq.it) where
  sets_same : (xs ys : List ℤ) → IsIncreasing xs → IsIncreasing ys → ((item : ℤ) → is_in item xs ≡ is_in item ys) → xs ≡ ys
  sets_same xs ys h k same = set_items xs ys (state_same (Set xs) (Set ys) ((law.same xs ys h k).1 same))

  -- ---- each step that changes the set

  inserted : (k : ℤ) (xs : List ℤ) → is_in k xs ≡ false → ◌≡◌ {A = Option (ObjState × Reply)} (after (Set xs) 0 (Insert k)) (Some (Set (with_in_order k xs), Flag true))
  inserted k xs e = ap (λ (b : Bool). Some (if b then (Set xs, Flag false) else (Set (with_in_order k xs), Flag true))) e

  removed : (k : ℤ) (xs : List ℤ) → is_in k xs ≡ true → ◌≡◌ {A = Option (ObjState × Reply)} (after (Set xs) 0 (Remove k)) (Some (Set (without_item k xs), Flag true))
  removed k xs e = ap (λ (b : Bool). Some (if b then (Set (without_item k xs), Flag true) else (Set xs, Flag false))) e

  ordered_insert : (k : ℤ) (xs : List ℤ) → is_in k xs ≡ false → IsIncreasing xs → IsIncreasing (with_in_order k xs)
  ordered_insert k xs e h = law.order xs (with_in_order k xs) (record { process = 0; op = Insert k; reply = Flag true } ∷ []) h (Set (with_in_order k xs), inserted k xs e, refl)

  ordered_remove : (k : ℤ) (xs : List ℤ) → is_in k xs ≡ true → IsIncreasing xs → IsIncreasing (without_item k xs)
  ordered_remove k xs e h = law.order xs (without_item k xs) (record { process = 0; op = Remove k; reply = Flag true } ∷ []) h (Set (without_item k xs), removed k xs e, refl)

  member_insert : (item k : ℤ) (xs : List ℤ) → is_in k xs ≡ false → is_in item (with_in_order k xs) ≡ (if int_eq k item then true else is_in item xs)
  member_insert item k xs e =
      let run = law.members xs (record { process = 0; op = Insert k; reply = Flag true } ∷ []) (Set (with_in_order k xs)) (Set (with_in_order k xs), inserted k xs e, refl) in
      ap (is_in item) (set_items (with_in_order k xs) run.0 run.1) ∙ run.2 item

  member_remove : (item k : ℤ) (xs : List ℤ) → is_in k xs ≡ true → is_in item (without_item k xs) ≡ (if int_eq k item then false else is_in item xs)
  member_remove item k xs e =
      let run = law.members xs (record { process = 0; op = Remove k; reply = Flag true } ∷ []) (Set (without_item k xs)) (Set (without_item k xs), removed k xs e, refl) in
      ap (is_in item) (set_items (without_item k xs) run.0 run.1) ∙ run.2 item

  insert_only : (k : ℤ) (xs : List ℤ) → is_in k xs ≡ false → IsIncreasing xs → with_in_order k (of_item k xs) ≡ of_item k (with_in_order k xs)
  insert_only k xs e h =
      let f = member_own k xs ∙ e in
      sets_same (with_in_order k (of_item k xs)) (of_item k (with_in_order k xs)) (ordered_insert k (of_item k xs) f (ordered_only k xs h)) (ordered_only k (with_in_order k xs) (ordered_insert k xs e h))
      (λ item. member_insert item k (of_item k xs) f
      ∙ ap (λ (o : Bool). if int_eq k item then true else o) (member_only k item xs)
      ∙ either_way (int_eq k item) true (is_in item xs)
      ∙ sym (member_only k item (with_in_order k xs) ∙ ap (λ (o : Bool). if int_eq k item then o else false) (member_insert item k xs e)))

  remove_only : (k : ℤ) (xs : List ℤ) → is_in k xs ≡ true → IsIncreasing xs → without_item k (of_item k xs) ≡ of_item k (without_item k xs)
  remove_only k xs e h =
      let f = member_own k xs ∙ e in
      sets_same (without_item k (of_item k xs)) (of_item k (without_item k xs)) (ordered_remove k (of_item k xs) f (ordered_only k xs h)) (ordered_only k (without_item k xs) (ordered_remove k xs e h))
      (λ item. member_remove item k (of_item k xs) f
      ∙ ap (λ (o : Bool). if int_eq k item then false else o) (member_only k item xs)
      ∙ either_way (int_eq k item) false (is_in item xs)
      ∙ sym (member_only k item (without_item k xs) ∙ ap (λ (o : Bool). if int_eq k item then o else false) (member_remove item k xs e)))

  -- another item stays
  other_same : (j k : ℤ) (xs ys : List ℤ) (x : Bool) → (k ≡ j → ⊥) → IsIncreasing xs → IsIncreasing ys → ((item : ℤ) → is_in item ys ≡ (if int_eq k item then x else is_in item xs)) → of_item j ys ≡ of_item j xs
  other_same j k xs ys x apart h g members = sets_same (of_item j ys) (of_item j xs) (ordered_only j ys g) (ordered_only j xs h) (λ item. member_only j item ys ∙ go item (int_eq j item) refl ∙ sym (member_only j item xs))
    where
      go : (item : ℤ) (b : Bool) → int_eq j item ≡ b → (if b then is_in item ys else false) ≡ (if b then is_in item xs else false)
      go item false e = refl
      go item true e = members item ∙ still (int_eq k item) refl
        where
          still : (c : Bool) → int_eq k item ≡ c → (if c then x else is_in item xs) ≡ is_in item xs
          still false f = refl
          still true f = absurd (apart ((signed_Decides k item).0 f ∙ sym ((signed_Decides j item).0 e)))

  -- ---- every step

  -- what a step on item k does to the items: to that one as to all, and to no others
  abbrev OnlyItem : ℤ → List ℤ → ℕ → Op → Option (ObjState × Reply) → Type 0
  OnlyItem k xs process op None = after (Set (of_item k xs)) process op ≡ None
  OnlyItem k xs process op (Some x) = (ys : List ℤ) × (x.0 ≡ Set ys) × IsIncreasing ys × (after (Set (of_item k xs)) process op ≡ Some (Set (of_item k ys), x.1)) × ((j : ℤ) → (k ≡ j → ⊥) → of_item j ys ≡ of_item j xs)

  insert_step : (k : ℤ) (xs : List ℤ) (process : ℕ) → IsIncreasing xs → (b : Bool) → is_in k xs ≡ b → OnlyItem k xs process (Insert k) (Some (if b then (Set xs, Flag false) else (Set (with_in_order k xs), Flag true)))
  insert_step k xs process h true e = (xs, refl, h, ap (λ (b : Bool). Some (if b then (Set (of_item k xs), Flag false) else (Set (with_in_order k (of_item k xs)), Flag true))) (member_own k xs ∙ e), (λ j apart. refl))
  insert_step k xs process h false e = (
    with_in_order k xs,
    refl,
    ordered_insert k xs e h,
    ap (λ (b : Bool). Some (if b then (Set (of_item k xs), Flag false) else (Set (with_in_order k (of_item k xs)), Flag true))) (member_own k xs ∙ e) ∙ ap (λ (ys : List ℤ). Some (Set ys, Flag true)) (insert_only k xs e h),
    (λ j apart. other_same j k xs (with_in_order k xs) true apart h (ordered_insert k xs e h) (λ item. member_insert item k xs e)),
  )

  remove_step : (k : ℤ) (xs : List ℤ) (process : ℕ) → IsIncreasing xs → (b : Bool) → is_in k xs ≡ b → OnlyItem k xs process (Remove k) (Some (if b then (Set (without_item k xs), Flag true) else (Set xs, Flag false)))
  remove_step k xs process h false e = (xs, refl, h, ap (λ (b : Bool). Some (if b then (Set (without_item k (of_item k xs)), Flag true) else (Set (of_item k xs), Flag false))) (member_own k xs ∙ e), (λ j apart. refl))
  remove_step k xs process h true e = (
    without_item k xs,
    refl,
    ordered_remove k xs e h,
    ap (λ (b : Bool). Some (if b then (Set (without_item k (of_item k xs)), Flag true) else (Set (of_item k xs), Flag false))) (member_own k xs ∙ e) ∙ ap (λ (ys : List ℤ). Some (Set ys, Flag true)) (remove_only k xs e h),
    (λ j apart. other_same j k xs (without_item k xs) false apart h (ordered_remove k xs e h) (λ item. member_remove item k xs e)),
  )

  step_only : (k : ℤ) (xs : List ℤ) (process : ℕ) (op : Op) → IsIncreasing xs → IsOn k op → OnlyItem k xs process op (after (Set xs) process op)
  step_only k xs process (Insert q) h on = subst (λ (j : ℤ). OnlyItem j xs process (Insert q) (after (Set xs) process (Insert q))) on (insert_step q xs process h (is_in q xs) refl)
  step_only k xs process (Remove q) h on = subst (λ (j : ℤ). OnlyItem j xs process (Remove q) (after (Set xs) process (Remove q))) on (remove_step q xs process h (is_in q xs) refl)
  step_only k xs process (Contains q) h on = subst (λ (j : ℤ). OnlyItem j xs process (Contains q) (after (Set xs) process (Contains q))) on (xs, refl, h, ap (λ (b : Bool). Some (Set (of_item q xs), Flag b)) (member_own q xs), (λ j apart. refl))
  step_only k xs process op h on = absurd on

  has_step : (k : ℤ) (xs : List ℤ) (process : ℕ) (op : Op) → IsOn k op → (y : ObjState × Reply) × (after (Set xs) process op ≡ Some y)
  has_step k xs process (Insert q) on = ((if is_in q xs then (Set xs, Flag false) else (Set (with_in_order q xs), Flag true)), refl)
  has_step k xs process (Remove q) on = ((if is_in q xs then (Set (without_item q xs), Flag true) else (Set xs, Flag false)), refl)
  has_step k xs process (Contains q) on = ((Set xs, Flag (is_in q xs)), refl)
  has_step k xs process op on = absurd on

  pub on_key : (items : List ℤ) (op : Op) (k : ℤ) → IsOnKey (Set items) op k → IsOn k op
  on_key items (Insert q) k on = on
  on_key items (Remove q) k on = on
  on_key items (Contains q) k on = on
  on_key items op k on = absurd on

  fits_then : (b : Bool) (u t : ObjState) → cond b (Some u) None ≡ Some t → (b ≡ true) × (u ≡ t)
  fits_then true u t e = (refl, (let same : ◌≡◌ {A = Option ObjState} (Some u) (Some t) = e in cc))
  fits_then false u t e = absurd (cc)

  no_items : IsIncreasing []
  unfolding IsStrictlySortedBy
  no_items = tt

  -- a set in order
  abbrev pub IsOrderedSet : ObjState → Type 0
  IsOrderedSet s = (ps : List ℤ) × (s ≡ Set ps) × IsIncreasing ps

  module _ {Object : Type 0} (parts : ProblemParts Object ObjState Op Reply) (key : ℕ → ℕ) (count : ℕ) (value : ℕ → ℤ)
      (within : (c : ℕ) → c < length parts.calls → key c < count)
      (keyed : (c : ℕ) (x : ProblemCall Op Reply) → slice_get parts.calls c ≡ Some x → IsOn (value (key c)) x.op)
      (apart : (i j : ℕ) → i < count → j < count → value i ≡ value j → i ≡ j)
      (empty : parts.start ≡ Set []) where
    abbrev P : Problem ObjState Op Reply
    P = any_problem parts

    record IsKeyStep (ps : List ℤ) (t : ObjState) (c : ℕ) : Type 0 where
      rest : List ℤ
      is : t ≡ Set rest
      order : IsIncreasing rest
      own : next P (Set (of_item (value (key c)) ps)) c ≡ Some (Set (of_item (value (key c)) rest))
      other : (j : ℤ) → (value (key c) ≡ j → ⊥) → of_item j rest ≡ of_item j ps

    key_step : (ps : List ℤ) (t : ObjState) (c : ℕ) → IsIncreasing ps → next P (Set ps) c ≡ Some t → IsKeyStep ps t c
    key_step ps t c h e = from (slice_get parts.calls c) refl e
      where
        answered : (x : ProblemCall Op Reply) → slice_get parts.calls c ≡ Some x → (a : Option (ObjState × Reply)) → OnlyItem (value (key c)) ps x.process x.op a → state_if_fits reply_eq.it x.returned a ≡ Some t → IsKeyStep ps t c
        answered x f None k n = absurd (cc)
        answered x f (Some y) k n =
            let b = fits_then (fits reply_eq.it y.1 x.returned) y.0 t n in
            record {
              rest = k.0;
              is = sym b.1 ∙ k.1;
              order = k.2;
              own = ap (after_call P (Set (of_item (value (key c)) ps))) f ∙ ap (λ (a : Option (ObjState × Reply)). state_if_fits reply_eq.it x.returned a) k.3 ∙ ap (λ (d : Bool). cond d (Some (Set (of_item (value (key c)) k.0))) None) b.0;
              other = k.4;
            }

        from : (o : Option (ProblemCall Op Reply)) → slice_get parts.calls c ≡ o → after_call P (Set ps) o ≡ Some t → IsKeyStep ps t c
        from None f n = absurd (cc)
        from (Some x) f n = answered x f (after (Set ps) x.process x.op) (step_only (value (key c)) ps x.process x.op h (keyed c x f)) n

    step_of : (s t : ObjState) (c : ℕ) (m : IsOrderedSet s) → next P s c ≡ Some t → IsKeyStep m.0 t c
    step_of s t c m e = key_step m.0 t c m.2 (subst (λ (u : ObjState). next P u c ≡ Some t) m.1 e)

    key_back : (ps : List ℤ) (u : ObjState) (c : ℕ) → IsIncreasing ps → next P (Set (of_item (value (key c)) ps)) c ≡ Some u → (t : ObjState) × (next P (Set ps) c ≡ Some t) × (only (value (key c)) t ≡ u)
    key_back ps u c h e = from (slice_get parts.calls c) refl e
      where
        answered : (x : ProblemCall Op Reply) → slice_get parts.calls c ≡ Some x → (a : Option (ObjState × Reply)) → after (Set ps) x.process x.op ≡ a → OnlyItem (value (key c)) ps x.process x.op a → state_if_fits reply_eq.it x.returned (after (Set (of_item (value (key c)) ps)) x.process x.op) ≡ Some u → (t : ObjState) × (next P (Set ps) c ≡ Some t) × (only (value (key c)) t ≡ u)
        answered x f None g k n = absurd (let m = sym (ap (λ (a : Option (ObjState × Reply)). state_if_fits reply_eq.it x.returned a) k) ∙ n in cc)
        answered x f (Some y) g k n =
            let m = sym (ap (λ (a : Option (ObjState × Reply)). state_if_fits reply_eq.it x.returned a) k.3) ∙ n in
            let b = fits_then (fits reply_eq.it y.1 x.returned) (Set (of_item (value (key c)) k.0)) u m in
            (y.0, ap (after_call P (Set ps)) f ∙ ap (λ (a : Option (ObjState × Reply)). state_if_fits reply_eq.it x.returned a) g ∙ ap (λ (d : Bool). cond d (Some y.0) None) b.0, ap (only (value (key c))) k.1 ∙ b.1)

        from : (o : Option (ProblemCall Op Reply)) → slice_get parts.calls c ≡ o → after_call P (Set (of_item (value (key c)) ps)) o ≡ Some u → (t : ObjState) × (next P (Set ps) c ≡ Some t) × (only (value (key c)) t ≡ u)
        from None f n = absurd (cc)
        from (Some x) f n = answered x f (after (Set ps) x.process x.op) refl (step_only (value (key c)) ps x.process x.op h (keyed c x f)) n

    back_of : (s u : ObjState) (c : ℕ) → IsOrderedSet s → next P (only (value (key c)) s) c ≡ Some u → (t : ObjState) × (next P s c ≡ Some t) × (only (value (key c)) t ≡ u)
    back_of s u c m e = subst (λ (r : ObjState). (t : ObjState) × (next P r c ≡ Some t) × (only (value (key c)) t ≡ u)) (sym m.1) (key_back m.0 u c m.2 (subst (λ (r : ObjState). next P (only (value (key c)) r) c ≡ Some u) m.1 e))

    pending_step : (c : ℕ) (ps : List ℤ) (x : ProblemCall Op Reply) → slice_get parts.calls c ≡ Some x → (r : Option (ℕ × Reply)) → x.returned ≡ r → (IsSome r → ⊥) → (t : ObjState) × (next P (Set ps) c ≡ Some t)
    pending_step c ps x f (Some r) e pending = absurd (pending refl)
    pending_step c ps x f None e pending =
        let y = has_step (value (key c)) ps x.process x.op (keyed c x f) in
        (y.0.0, ap (after_call P (Set ps)) f ∙ ap (λ (a : Option (ObjState × Reply)). state_if_fits reply_eq.it x.returned a) y.1 ∙ ap (λ (q : Option (ℕ × Reply)). state_if_fits reply_eq.it q (Some y.0)) e)

    total_of : (s : ObjState) (c : ℕ) → IsOrderedSet s → c < length parts.calls → (IsCompleted P c → ⊥) → (t : ObjState) × (next P s c ≡ Some t)
    total_of s c m h pending = elim (slice_get_cases parts.calls c).1 [
      | inl there ↦ subst (λ (u : ObjState). (t : ObjState) × (next P u c ≡ Some t)) (sym m.1) (pending_step c m.0 there.0 there.2 there.0.returned refl (λ done. pending (and_some (slice_get parts.calls c) (λ x. IsSome x.returned) there.0 there.2 done)))
      | inr none ↦ absurd (let e = none.0 in omega (arith, h, e))
    ]

    -- A set is the product of its items.
    pub set_product : IsProduct P key count (λ (k : ℕ). only (value k)) IsOrderedSet
    set_product = record {
      back = back_of;
      within = within;
      start = ([], empty, no_items);
      same_start = λ k. rw empty refl;
      total = total_of;
      kept = λ s t c m e. (let k = step_of s t c m e in (k.rest, k.is, k.order));
      own = λ s t c m e. (let k = step_of s t c m e in rw (m.1, k.is) k.own);
      other = λ s t c j m e known other. (let k = step_of s t c m e in rw (m.1, k.is) (ap Set (k.other (value j) (λ same. other (apart (key c) j (within c (next_within P s t c e)) known same)))));
    }
