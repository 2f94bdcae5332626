-- What is known ahead of a register that tells whether an item is in is right for the set whose calls are all on that item.
use Rattle.std.proofs.Common.{◌≡◌, ℕ, Bool, true, false, not, Option, Some, None, List, [], ◌∷◌, refl, sym, ◌∙◌, ap, subst, true≢false}
use Rattle.std.specs.Prelude.{ℤ, map, slice_get, if◌then◌else◌}
use Rattle.std.specs.Ordering.{int_eq}
use Rattle.std.specs.List.Sorted.{IsStrictlySortedBy}
use Rattle.std.specs.Cmp.{signed_Decides}
use Rattle.lin_object.specs.declared.op.Op.{Op}
use Rattle.lin_object.specs.declared.op.Op.TheVariants.{Insert, Remove, Contains}
use Rattle.lin_object.specs.declared.reply.Reply.{Reply}
use Rattle.lin_object.specs.declared.reply.Reply.TheVariants.{Okay, Int, Flag}
use Rattle.lin_object.specs.declared.state.ObjState.{ObjState}
use Rattle.lin_object.specs.declared.state.ObjState.TheVariants.{Register, Set}
use Rattle.lin_object.specs.Items.{is_in}
use Rattle.lin_object.specs.Kinds.{after}
use Rattle.lin_object.specs.Kinds.Register.{register_step}
use Rattle.lin_object.specs.Kinds.Set.{IsIncreasing, SetLaw, is_in_after_step}
use Rattle.lin_object.specs.Runs.{Step, RunsFrom}
use Rattle.lin_object.specs.StepAnswers.{step_reply}
use Rattle.lin_object.specs.StepLemmas.{state_same}
use Rattle.lin_object.specs.contracts.reply.ReplyPartialEq.TheImpl.{eq-value as reply_eq}
use Rattle.lin_object.specs.contracts.state.ObjStatePartialEq.TheImpl.{eq-value as state_eq}
use Rattle.lin_history.specs.declared.problems.problem.ProblemCall.{ProblemCall}
use Rattle.lin_history.specs.Problems.AnyProblem.{any_problem}
use Rattle.lin_history.specs.Problems.ProblemParts.{ProblemParts}
use Rattle.lin_history.specs.Problems.LegalLists.{fits, state_if_fits, after_call}
use Rattle.lin_history.specs.ReplyLemmas.{reply_same}
use Rattle.lin_ahead.specs.declared.values.item_value.TheConstants.{ITEM_IN, ITEM_OUT}
use Rattle.lin_ahead.specs.declared.values.rows.ValuesAhead.{ValuesAhead}
use Rattle.lin_ahead.specs.Behind.{IsRightOfValues}
use Rattle.lin_ahead.specs.Values.ToldOfRegister.{IsToldOfRegister}
use Rattle.lin_ahead.specs.Values.ItemValue.{item_at, is_on_item, are_on_item, on_this_item, of_one_item, value_if_in, op_on_item, returned_on_item, call_on_item, on_item}
use Rattle.lin_ahead.proofs.values.ReadingLemmas.{fit_some, some_fit, int_fits, chosen, other_chosen, same_value, each_call, IsReadAs, right_by_reading}
use Rattle.lin_ahead.proofs.values.VainLemmas.{register_right}

-- ---- one step

-- A call on the item, as one of the register, that leads to this state.
abbrev LeadsTo : Bool → Op → Option (ℕ × Reply) → ℤ → Type 0
LeadsTo b op back v = state_if_fits reply_eq.it (returned_on_item op back) (register_step (value_if_in b) (op_on_item op back)) ≡ Some (Register v)

insert_next : (k : ℤ) (b : Bool) (back : Option (ℕ × Reply)) → fits reply_eq.it (Flag (not b)) back ≡ true → LeadsTo b (Insert k) back ITEM_IN
insert_next k b None e = refl
insert_next k true (Some (n, r)) e = subst (λ (q : Reply). LeadsTo true (Insert k) (Some (n, q)) ITEM_IN) (reply_same (Flag false) r e) (some_fit (Some (n, Int ITEM_IN)) (Register ITEM_IN) (Int ITEM_IN) (int_fits ITEM_IN))
insert_next k false (Some (n, r)) e = subst (λ (q : Reply). LeadsTo false (Insert k) (Some (n, q)) ITEM_IN) (reply_same (Flag true) r e) refl

remove_next : (k : ℤ) (b : Bool) (back : Option (ℕ × Reply)) → fits reply_eq.it (Flag b) back ≡ true → LeadsTo b (Remove k) back ITEM_OUT
remove_next k b None e = refl
remove_next k true (Some (n, r)) e = subst (λ (q : Reply). LeadsTo true (Remove k) (Some (n, q)) ITEM_OUT) (reply_same (Flag true) r e) refl
remove_next k false (Some (n, r)) e = subst (λ (q : Reply). LeadsTo false (Remove k) (Some (n, q)) ITEM_OUT) (reply_same (Flag false) r e) (some_fit (Some (n, Int ITEM_OUT)) (Register ITEM_OUT) (Int ITEM_OUT) (int_fits ITEM_OUT))

contains_next : (k : ℤ) (b : Bool) (back : Option (ℕ × Reply)) → fits reply_eq.it (Flag b) back ≡ true → LeadsTo b (Contains k) back (value_if_in b)
contains_next k b None e = refl
contains_next k b (Some (n, r)) e = subst (λ (q : Reply). LeadsTo b (Contains k) (Some (n, q)) (value_if_in b)) (reply_same (Flag b) r e) (some_fit (Some (n, Int (value_if_in b))) (Register (value_if_in b)) (Int (value_if_in b)) (int_fits (value_if_in b)))

-- What an operation of a set replies, where its item is in or is not.
abbrev reply_told : Bool → Op → Reply
reply_told b (Insert v) = Flag (not b)
reply_told b (Remove v) = Flag b
reply_told b (Contains v) = Flag b
reply_told b op = Okay

next_read : (k : ℤ) (b : Bool) (op : Op) (back : Option (ℕ × Reply)) → is_on_item k op ≡ true → fits reply_eq.it (reply_told b op) back ≡ true → LeadsTo b op back (value_if_in (is_in_after_step k b op))
next_read k b (Insert q) back on e = insert_next q b back e ∙ ap (λ (c : Bool). Some (Register (value_if_in c))) (sym (chosen (int_eq q k) true b on))
next_read k b (Remove q) back on e = remove_next q b back e ∙ ap (λ (c : Bool). Some (Register (value_if_in c))) (sym (chosen (int_eq q k) false b on))
next_read k b (Contains q) back on e = contains_next q b back e
next_read k b op back on e = absurd (true≢false (sym on))

-- it leaves the other items as they are
still : (k item : ℤ) (op : Op) (b : Bool) → is_on_item k op ≡ true → int_eq k item ≡ false → is_in_after_step item b op ≡ b
still k item (Insert q) b on apart = other_chosen (int_eq q item) true b (subst (λ (z : ℤ). int_eq z item ≡ false) (sym ((signed_Decides q k).0 on)) apart)
still k item (Remove q) b on apart = other_chosen (int_eq q item) false b (subst (λ (z : ℤ). int_eq z item ≡ false) (sym ((signed_Decides q k).0 on)) apart)
still k item op b on apart = refl

replying : (a : Option (ObjState × Reply)) (r : Reply) → step_reply a ≡ Some r → (t : ObjState) × (a ≡ Some (t, r))
replying None r e = absurd (cc)
replying (Some x) r e = (x.0, (let same : x.1 ≡ r = cc in ap (λ (y : Reply). Some (x.0, y)) same))

same_in : (a b : Bool) → value_if_in a ≡ value_if_in b → a ≡ b
same_in true true e = refl
same_in false false e = refl
same_in true false e = absurd (true≢false (sym ((signed_Decides ITEM_IN ITEM_OUT).1 e)))
same_in false true e = absurd (true≢false (sym ((signed_Decides ITEM_OUT ITEM_IN).1 e)))

no_items : IsIncreasing []
unfolding IsStrictlySortedBy
no_items = tt

module _ (law : SetLaw after state_eq.it) where
  -- what the register holds where the set has these items
  abbrev item_shown : ℤ → ObjState → ObjState
  item_shown k (Set items) = Register (value_if_in (is_in k items))
  item_shown k s = s

  -- a set on whose other items there was no call
  record IsOfItem (k : ℤ) (s : ObjState) : Type 0 where
    items : List ℤ
    is : s ≡ Set items
    order : IsIncreasing items
    others : (item : ℤ) → int_eq k item ≡ false → is_in item items ≡ false

  told : (k : ℤ) (items : List ℤ) (op : Op) (process : ℕ) → is_on_item k op ≡ true → step_reply (after (Set items) process op) ≡ Some (reply_told (is_in k items) op)
  told k items (Insert q) process on = law.inserts items q process ∙ ap (λ (z : ℤ). Some (Flag (not (is_in z items)))) ((signed_Decides q k).0 on)
  told k items (Remove q) process on = law.removes items q process ∙ ap (λ (z : ℤ). Some (Flag (is_in z items))) ((signed_Decides q k).0 on)
  told k items (Contains q) process on = law.contains items q process ∙ ap (λ (z : ℤ). Some (Flag (is_in z items))) ((signed_Decides q k).0 on)
  told k items op process on = absurd (true≢false (sym on))

  -- a step of the set, and one of the register that fits the call as one on the item
  stepped : (k : ℤ) (x : ProblemCall Op Reply) (s m : ObjState) → (kept : IsOfItem k s) → is_on_item k x.op ≡ true → state_if_fits reply_eq.it x.returned (after (Set kept.items) x.process x.op) ≡ Some m → IsOfItem k m × (state_if_fits reply_eq.it (returned_on_item x.op x.returned) (register_step (value_if_in (is_in k kept.items)) (op_on_item x.op x.returned)) ≡ Some (item_shown k m))
  stepped k x s m kept on e =
      let r : Reply = reply_told (is_in k kept.items) x.op in
      let to = replying (after (Set kept.items) x.process x.op) r (told k kept.items x.op x.process on) in
      let run : List Step = record { process = x.process; op = x.op; reply = r } ∷ [] in
      let goes : RunsFrom after (Set kept.items) run to.0 = (to.0, to.1, refl) in
      let rest = law.members kept.items run to.0 goes in
      let fit = fit_some x.returned to.0 m r (subst (λ (o : Option (ObjState × Reply)). state_if_fits reply_eq.it x.returned o ≡ Some m) to.1 e) in
      let is : m ≡ Set rest.0 = sym fit.0 ∙ rest.1 in
      let now : item_shown k m ≡ Register (value_if_in (is_in_after_step k (is_in k kept.items) x.op)) = ap (item_shown k) is ∙ ap (λ (b : Bool). Register (value_if_in b)) (rest.2 k) in (
        record {
          items = rest.0;
          is = is;
          order = law.order kept.items rest.0 run kept.order (subst (λ (z : ObjState). RunsFrom after (Set kept.items) run z) rest.1 goes);
          others = λ item apart. rest.2 item ∙ still k item x.op (is_in item kept.items) on apart ∙ kept.others item apart;
        },
        next_read k (is_in k kept.items) x.op x.returned on fit.1 ∙ ap Some (sym now),
      )

  -- sets that show the same are the same
  same_set : (k : ℤ) (s t : ObjState) → IsOfItem k s → IsOfItem k t → item_shown k s ≡ item_shown k t → s ≡ t
  same_set k s t one two shows =
      let held : Register (value_if_in (is_in k one.items)) ≡ Register (value_if_in (is_in k two.items)) = sym (ap (item_shown k) one.is) ∙ shows ∙ ap (item_shown k) two.is in
      let own : is_in k one.items ≡ is_in k two.items = same_in (is_in k one.items) (is_in k two.items) (same_value held) in
      one.is ∙ state_same (Set one.items) (Set two.items) ((law.same one.items two.items one.order two.order).1 (λ item. at item (int_eq k item) refl own)) ∙ sym two.is
    where
      at : (item : ℤ) (b : Bool) → int_eq k item ≡ b → is_in k one.items ≡ is_in k two.items → is_in item one.items ≡ is_in item two.items
      at item true e own = subst (λ (z : ℤ). is_in z one.items ≡ is_in z two.items) ((signed_Decides k item).0 e) own
      at item false e own = one.others item e ∙ sym (two.others item e)

  module _ {Object : Type 0} (p : ProblemParts Object ObjState Op Reply) (k : ℤ) (start : p.start ≡ Set []) (on : are_on_item k p.calls ≡ true) where
    step_read : (c : ℕ) (x : ProblemCall Op Reply) (s m : ObjState) → slice_get p.calls c ≡ Some x → IsOfItem k s → after_call (any_problem p) s (Some x) ≡ Some m → IsOfItem k m × (after_call (any_problem (on_item p)) (item_shown k s) (Some (call_on_item x)) ≡ Some (item_shown k m))
    step_read c x s m there kept step =
        let here : state_if_fits reply_eq.it x.returned (after (Set kept.items) x.process x.op) ≡ Some m = subst (λ (z : ObjState). state_if_fits reply_eq.it x.returned (after z x.process x.op) ≡ Some m) kept.is step in
        let one = stepped k x s m kept (each_call (λ (z : ProblemCall Op Reply). is_on_item k z.op) p.calls on c x there) here in
        (one.0, subst (λ (z : ObjState). after_call (any_problem (on_item p)) (item_shown k z) (Some (call_on_item x)) ≡ Some (item_shown k m)) (sym kept.is) one.1)

    -- the set is read as a register
    item_read : IsReadAs p (on_item p) (item_shown k) (IsOfItem k) call_on_item
    item_read = record {
      calls = refl;
      called = λ x. refl;
      returned = λ x r e. back x.op x.returned r e;
      start = ap (item_shown k) start;
      kept = record { items = []; is = start; order = no_items; others = λ item apart. refl };
      step = step_read;
      one = same_set k;
    }
      where
        back : (op : Op) (o : Option (ℕ × Reply)) (r : ℕ × Reply) → returned_on_item op o ≡ Some r → (reply : Reply) × (o ≡ Some (r.0, reply))
        back op None r e = absurd (cc)
        back op (Some y) r e = (y.1, (let number : y.0 ≡ r.0 = cc in ap (λ (n : ℕ). Some (n, y.1)) number))

-- the calls are on an item
on_one_item : (calls : List (ProblemCall Op Reply)) → of_one_item calls ≡ true → (k : ℤ) × (are_on_item k calls ≡ true)
on_one_item calls e = go (item_at (slice_get calls 0)) e
  where
    go : (o : Option ℤ) → on_this_item o calls ≡ true → (k : ℤ) × (are_on_item k calls ≡ true)
    go None f = absurd (cc)
    go (Some k) f = (k, f)

module _ (law : SetLaw after state_eq.it) {Object : Type 0} (p : ProblemParts Object ObjState Op Reply) where
  -- what is known ahead of a set whose calls are on one item is right
  pub item_right : p.start ≡ Set [] → of_one_item p.calls ≡ true → (ahead : ValuesAhead) → IsToldOfRegister ITEM_OUT (map call_on_item p.calls) ahead → IsRightOfValues (any_problem p) ahead
  item_right start one ahead rows =
      let k = on_one_item p.calls one in
      right_by_reading p (on_item p) (item_shown law k.0) (IsOfItem law k.0) call_on_item (item_read law p k.0 start k.1) ahead (register_right (on_item p) ITEM_OUT refl ahead rows)
