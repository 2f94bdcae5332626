-- What is known ahead of a register that holds a key's value is right for the map whose calls are all on that key.
use Rattle.std.proofs.Common.{◌≡◌, ◌≢◌, ℕ, Bool, true, false, not, Option, Some, None, List, [], ◌∷◌, refl, sym, ◌∙◌, ap, subst, true≢false}
use Rattle.std.specs.Prelude.{◌↔◌, ℤ, map, is_some, slice_get, IsTrue, if◌then◌else◌}
use Rattle.std.specs.Ordering.{int_eq}
use Rattle.std.specs.Option.{unwrap_or}
use Rattle.std.specs.List.Sorted.{IsStrictlySortedBy}
use Rattle.std.specs.Cmp.{signed_Decides}
use Rattle.std.proofs.lemmas.Bool.{and_parts}
use Rattle.lin_object.specs.declared.op.Op.{Op}
use Rattle.lin_object.specs.declared.op.Op.TheVariants.{Put, Lookup, Delete}
use Rattle.lin_object.specs.declared.pairs.Pair.{Pair}
use Rattle.lin_object.specs.declared.reply.Reply.{Reply}
use Rattle.lin_object.specs.declared.reply.Reply.TheVariants.{Okay, Int, Flag}
use Rattle.lin_object.specs.declared.state.ObjState.{ObjState}
use Rattle.lin_object.specs.declared.state.ObjState.TheVariants.{Map, Register}
use Rattle.lin_object.specs.Pairs.{value_at, reply_to_lookup, with_value, without_key}
use Rattle.lin_object.specs.Kinds.{after}
use Rattle.lin_object.specs.Kinds.Map.{HasKeysInOrder, MapLaw, map_step}
use Rattle.lin_object.specs.Kinds.Register.{register_step}
use Rattle.lin_object.specs.StepLemmas.{state_same}
use Rattle.lin_object.specs.contracts.reply.ReplyPartialEq.TheImpl.{eq-value as reply_eq}
use Rattle.lin_object.specs.contracts.state.ObjStatePartialEq.TheImpl.{eq-value as state_eq}
use Rattle.lin_history.specs.declared.problems.problem.ProblemCall.{ProblemCall}
use Rattle.lin_history.specs.Problems.ProblemParts.{ProblemParts}
use Rattle.lin_history.specs.Problems.LegalLists.{fits, state_if_fits, after_call}
use Rattle.lin_ahead.specs.declared.values.key_value.TheConstants.{NOTHING}
use Rattle.lin_ahead.specs.declared.values.rows.ValuesAhead.{ValuesAhead}
use Rattle.lin_history.specs.Problems.AnyProblem.{any_problem}
use Rattle.lin_ahead.specs.Behind.{IsRightOfValues}
use Rattle.lin_ahead.specs.Values.ToldOfRegister.{IsToldOfRegister}
use Rattle.lin_ahead.specs.Values.KeyValue.{key_at, is_on, are_on, on_this_key, of_one_key, op_on_value, reply_on_value, returned_on_value, call_on_value, on_value}
use Rattle.lin_history.specs.ReplyLemmas.{reply_same}
use Rattle.lin_ahead.proofs.values.ReadingLemmas.{fit_some, some_fit, int_fits, chosen, other_chosen, same_value, each_call, IsReadAs, right_by_reading}
use Rattle.lin_ahead.proofs.values.VainLemmas.{register_right}

-- ---- one step

put_fits : (k v : ℤ) (back : Option (ℕ × Reply)) → fits reply_eq.it Okay back ≡ true → fits reply_eq.it Okay (returned_on_value (Put k v) back) ≡ true
put_fits k v None e = refl
put_fits k v (Some r) e = e

lookup_fits : (k : ℤ) (o : Option ℤ) (back : Option (ℕ × Reply)) → fits reply_eq.it (reply_to_lookup o) back ≡ true → fits reply_eq.it (Int (unwrap_or o NOTHING)) (returned_on_value (Lookup k) back) ≡ true
lookup_fits k o None e = refl
lookup_fits k o (Some (n, r)) e = subst (λ (q : Reply). reply_eq.it (Int (unwrap_or o NOTHING)) (reply_on_value (Lookup k) q) ≡ true) (reply_same (reply_to_lookup o) r e) (go o)
  where
    go : (a : Option ℤ) → reply_eq.it (Int (unwrap_or a NOTHING)) (reply_on_value (Lookup k) (reply_to_lookup a)) ≡ true
    go None = int_fits NOTHING
    go (Some v) = int_fits v

delete_next : (k : ℤ) (o : Option ℤ) (back : Option (ℕ × Reply)) → fits reply_eq.it (Flag (is_some o)) back ≡ true → state_if_fits reply_eq.it (returned_on_value (Delete k) back) (register_step (unwrap_or o NOTHING) (op_on_value (Delete k) back)) ≡ Some (Register NOTHING)
delete_next k o None e = refl
delete_next k o (Some (n, r)) e = subst (λ (q : Reply). state_if_fits reply_eq.it (returned_on_value (Delete k) (Some (n, q))) (register_step (unwrap_or o NOTHING) (op_on_value (Delete k) (Some (n, q)))) ≡ Some (Register NOTHING)) (reply_same (Flag (is_some o)) r e) (go o)
  where
    go : (a : Option ℤ) → state_if_fits reply_eq.it (returned_on_value (Delete k) (Some (n, Flag (is_some a)))) (register_step (unwrap_or a NOTHING) (op_on_value (Delete k) (Some (n, Flag (is_some a))))) ≡ Some (Register NOTHING)
    go None = some_fit (Some (n, Int NOTHING)) (Register NOTHING) (Int NOTHING) (int_fits NOTHING)
    go (Some v) = refl

-- ---- the value of a key

map_pairs : (ps qs : List Pair) → ◌≡◌ {A = ObjState} (Map ps) (Map qs) → ps ≡ qs
map_pairs ps qs e = cc

not_true : (x : Bool) → not x ≡ true → x ≡ false
not_true true e = absurd (cc)
not_true false e = refl

-- two values that are none that stands for no value are told apart
same_shown : (a b : Option ℤ) → a ≢ Some NOTHING → b ≢ Some NOTHING → unwrap_or a NOTHING ≡ unwrap_or b NOTHING → a ≡ b
same_shown None None f g e = refl
same_shown (Some v) (Some w) f g e = ap Some e
same_shown None (Some w) f g e = absurd (g (ap Some (sym e)))
same_shown (Some v) None f g e = absurd (f (ap Some e))

same_some : {x y : ℤ} → Some x ≡ Some y → x ≡ y
same_some e = cc

none_some : {x : ℤ} → ◌≡◌ {A = Option ℤ} None (Some x) → ⊥
none_some e = cc

no_pairs : HasKeysInOrder []
unfolding IsStrictlySortedBy
no_pairs = tt

module _ (law : MapLaw after state_eq.it) where
  value_put : (key k v : ℤ) (ps : List Pair) → value_at key (with_value k v ps) ≡ (if int_eq k key then Some v else value_at key ps)
  value_put key k v ps =
      let run = law.values ps (record { process = 0; op = Put k v; reply = Okay } ∷ []) (Map (with_value k v ps)) (Map (with_value k v ps), refl, refl) in
      ap (value_at key) (map_pairs (with_value k v ps) run.0 run.1) ∙ run.2 key

  value_delete : (key k : ℤ) (ps : List Pair) → value_at key (without_key k ps) ≡ (if int_eq k key then None else value_at key ps)
  value_delete key k ps =
      let run = law.values ps (record { process = 0; op = Delete k; reply = Flag (is_some (value_at k ps)) } ∷ []) (Map (without_key k ps)) (Map (without_key k ps), refl, refl) in
      ap (value_at key) (map_pairs (without_key k ps) run.0 run.1) ∙ run.2 key

  -- what the register holds where the map has these pairs
  abbrev value_shown : ℤ → ObjState → ObjState
  value_shown k (Map pairs) = Register (unwrap_or (value_at k pairs) NOTHING)
  value_shown k s = s

  -- a map on whose other keys there was no call
  record IsOfKey (k : ℤ) (s : ObjState) : Type 0 where
    pairs : List Pair
    is : s ≡ Map pairs
    order : HasKeysInOrder pairs
    some : value_at k pairs ≢ Some NOTHING
    others : (key : ℤ) → int_eq k key ≡ false → value_at key pairs ≡ None

  -- a step of the map, and one of the register that fits the call as one on the value
  abbrev Stepped : ℤ → List Pair → ProblemCall Op Reply → ObjState → Type 0
  Stepped k pairs x m = IsOfKey k m × (state_if_fits reply_eq.it (returned_on_value x.op x.returned) (register_step (unwrap_or (value_at k pairs) NOTHING) (op_on_value x.op x.returned)) ≡ Some (value_shown k m))

  stepped : (k : ℤ) (pairs : List Pair) (x : ProblemCall Op Reply) (op : Op) → x.op ≡ op → HasKeysInOrder pairs → value_at k pairs ≢ Some NOTHING → ((key : ℤ) → int_eq k key ≡ false → value_at key pairs ≡ None) → is_on k op ≡ true → (m : ObjState) → state_if_fits reply_eq.it x.returned (map_step pairs op) ≡ Some m → Stepped k pairs x m
  stepped k pairs x (Put q v) same order some others on m e =
      let is = and_parts (int_eq q k) (not (int_eq v NOTHING)) on in
      let fit = fit_some x.returned (Map (with_value q v pairs)) m Okay e in
      let own : value_at k (with_value q v pairs) ≡ Some v = value_put k q v pairs ∙ chosen (int_eq q k) (Some v) (value_at k pairs) is.0 in
      let to : Register v ≡ value_shown k m = ap (λ (o : Option ℤ). Register (unwrap_or o NOTHING)) (sym own) ∙ ap (value_shown k) fit.0 in (
        record {
          pairs = with_value q v pairs;
          is = sym fit.0;
          order = law.order pairs (with_value q v pairs) (record { process = 0; op = Put q v; reply = Okay } ∷ []) order (Map (with_value q v pairs), refl, refl);
          some = λ none. true≢false (sym ((signed_Decides v NOTHING).1 (same_some (sym own ∙ none))) ∙ not_true (int_eq v NOTHING) is.1);
          others = λ key apart. value_put key q v pairs ∙ other_chosen (int_eq q key) (Some v) (value_at key pairs) (subst (λ (z : ℤ). int_eq z key ≡ false) (sym ((signed_Decides q k).0 is.0)) apart) ∙ others key apart;
        },
        rw same (some_fit (returned_on_value (Put q v) x.returned) (Register v) Okay (put_fits q v x.returned fit.1)) ∙ ap Some to,
      )
  stepped k pairs x (Lookup q) same order some others on m e =
      let fit = fit_some x.returned (Map pairs) m (reply_to_lookup (value_at q pairs)) e in
      let key : q ≡ k = (signed_Decides q k).0 on in
      let here : fits reply_eq.it (reply_to_lookup (value_at k pairs)) x.returned ≡ true = subst (λ (z : ℤ). fits reply_eq.it (reply_to_lookup (value_at z pairs)) x.returned ≡ true) key fit.1 in (
        record { pairs = pairs; is = sym fit.0; order = order; some = some; others = others },
        rw same (some_fit (returned_on_value (Lookup q) x.returned) (Register (unwrap_or (value_at k pairs) NOTHING)) (Int (unwrap_or (value_at k pairs) NOTHING)) (lookup_fits q (value_at k pairs) x.returned here)) ∙ ap (λ (z : ObjState). Some (value_shown k z)) fit.0,
      )
  stepped k pairs x (Delete q) same order some others on m e =
      let fit = fit_some x.returned (Map (without_key q pairs)) m (Flag (is_some (value_at q pairs))) e in
      let key : q ≡ k = (signed_Decides q k).0 on in
      let here : fits reply_eq.it (Flag (is_some (value_at k pairs))) x.returned ≡ true = subst (λ (z : ℤ). fits reply_eq.it (Flag (is_some (value_at z pairs))) x.returned ≡ true) key fit.1 in
      let own : value_at k (without_key q pairs) ≡ None = value_delete k q pairs ∙ chosen (int_eq q k) None (value_at k pairs) on in
      let to : Register NOTHING ≡ value_shown k m = ap (λ (o : Option ℤ). Register (unwrap_or o NOTHING)) (sym own) ∙ ap (value_shown k) fit.0 in (
        record {
          pairs = without_key q pairs;
          is = sym fit.0;
          order = law.order pairs (without_key q pairs) (record { process = 0; op = Delete q; reply = Flag (is_some (value_at q pairs)) } ∷ []) order (Map (without_key q pairs), refl, refl);
          some = λ none. none_some (sym own ∙ none);
          others = λ other apart. value_delete other q pairs ∙ other_chosen (int_eq q other) None (value_at other pairs) (subst (λ (z : ℤ). int_eq z other ≡ false) (sym key) apart) ∙ others other apart;
        },
        rw same (delete_next q (value_at k pairs) x.returned here) ∙ ap Some to,
      )
  stepped k pairs x op same order some others on m e = absurd (true≢false (sym on))

  -- maps that show the same are the same
  same_map : (k : ℤ) (s t : ObjState) → IsOfKey k s → IsOfKey k t → value_shown k s ≡ value_shown k t → s ≡ t
  same_map k s t one two shows =
      let held : Register (unwrap_or (value_at k one.pairs) NOTHING) ≡ Register (unwrap_or (value_at k two.pairs) NOTHING) = sym (ap (value_shown k) one.is) ∙ shows ∙ ap (value_shown k) two.is in
      let own : value_at k one.pairs ≡ value_at k two.pairs = same_shown (value_at k one.pairs) (value_at k two.pairs) one.some two.some (same_value held) in
      one.is ∙ state_same (Map one.pairs) (Map two.pairs) ((law.same one.pairs two.pairs one.order two.order).1 (λ key. at key (int_eq k key) refl own)) ∙ sym two.is
    where
      at : (key : ℤ) (b : Bool) → int_eq k key ≡ b → value_at k one.pairs ≡ value_at k two.pairs → value_at key one.pairs ≡ value_at key two.pairs
      at key true e own = subst (λ (z : ℤ). value_at z one.pairs ≡ value_at z two.pairs) ((signed_Decides k key).0 e) own
      at key false e own = one.others key e ∙ sym (two.others key e)

  module _ {Object : Type 0} (p : ProblemParts Object ObjState Op Reply) (k : ℤ) (start : p.start ≡ Map []) (on : are_on k p.calls ≡ true) where
    step_read : (c : ℕ) (x : ProblemCall Op Reply) (s m : ObjState) → slice_get p.calls c ≡ Some x → IsOfKey k s → after_call (any_problem p) s (Some x) ≡ Some m → IsOfKey k m × (after_call (any_problem (on_value p)) (value_shown k s) (Some (call_on_value x)) ≡ Some (value_shown k m))
    step_read c x s m there kept step =
        let here : state_if_fits reply_eq.it x.returned (map_step kept.pairs x.op) ≡ Some m = subst (λ (z : ObjState). state_if_fits reply_eq.it x.returned (after z x.process x.op) ≡ Some m) kept.is step in
        let one = stepped k kept.pairs x x.op refl kept.order kept.some kept.others (each_call (λ (z : ProblemCall Op Reply). is_on k z.op) p.calls on c x there) m here in
        (one.0, subst (λ (z : ObjState). after_call (any_problem (on_value p)) (value_shown k z) (Some (call_on_value x)) ≡ Some (value_shown k m)) (sym kept.is) one.1)

    -- the map is read as a register
    key_read : IsReadAs p (on_value p) (value_shown k) (IsOfKey k) call_on_value
    key_read = record {
      calls = refl;
      called = λ x. refl;
      returned = λ x r e. back x.op x.returned r e;
      start = ap (value_shown k) start;
      kept = record { pairs = []; is = start; order = no_pairs; some = λ e. none_some e; others = λ key apart. refl };
      step = step_read;
      one = same_map k;
    }
      where
        back : (op : Op) (o : Option (ℕ × Reply)) (r : ℕ × Reply) → returned_on_value op o ≡ Some r → (reply : Reply) × (o ≡ Some (r.0, reply))
        back op None r e = absurd (cc)
        back op (Some y) r e = (y.1, (let number : y.0 ≡ r.0 = cc in ap (λ (n : ℕ). Some (n, y.1)) number))

-- the calls are on a key
pub on_one_key : (calls : List (ProblemCall Op Reply)) → of_one_key calls ≡ true → (k : ℤ) × (are_on k calls ≡ true)
on_one_key calls e = go (key_at (slice_get calls 0)) e
  where
    go : (o : Option ℤ) → on_this_key o calls ≡ true → (k : ℤ) × (are_on k calls ≡ true)
    go None f = absurd (cc)
    go (Some k) f = (k, f)

module _ (law : MapLaw after state_eq.it) {Object : Type 0} (p : ProblemParts Object ObjState Op Reply) where
  -- what is known ahead of a map whose calls are on one key is right
  pub key_right : p.start ≡ Map [] → of_one_key p.calls ≡ true → (ahead : ValuesAhead) → IsToldOfRegister NOTHING (map call_on_value p.calls) ahead → IsRightOfValues (any_problem p) ahead
  key_right start one ahead rows =
      let k = on_one_key p.calls one in
      right_by_reading p (on_value p) (value_shown law k.0) (IsOfKey law k.0) call_on_value (key_read law p k.0 start k.1) ahead (register_right (on_value p) NOTHING refl ahead rows)

-- a state that equals an empty map is one
pub empty_map : (s t : ObjState) (b : Bool) → b ≡ state_eq.it s t → t ≡ Map [] → IsTrue b ↔ (s ≡ Map [])
empty_map s t b e f = ((λ is. state_same s t (sym e ∙ is) ∙ f), (λ is. e ∙ rw (is, f) refl))
