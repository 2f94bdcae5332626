-- Maps by some values of one of their keys: by the law of their runs.
use Rattle.std.proofs.Common.{◌≡◌, ℕ, Bool, true, false, cond, Option, Some, None, List, [], ◌∷◌, ◌⊎◌, inl, inr, refl, sym, ◌∙◌, ap, subst}
use Rattle.std.specs.Prelude.{ℤ, not, ◌&&◌, is_some, if◌then◌else◌}
use Rattle.std.specs.Ordering.{int_eq}
use Rattle.std.specs.Cmp.{signed_Decides}
use Rattle.lin_object.specs.declared.op.Op.{Op}
use Rattle.lin_object.specs.declared.op.Op.TheVariants.{Put, Lookup, Delete}
use Rattle.lin_object.specs.declared.pairs.Pair.{Pair}
use Rattle.lin_object.specs.declared.reply.Reply.{Reply}
use Rattle.lin_object.specs.declared.reply.Reply.TheVariants.{Okay, Flag, Int, Empty}
use Rattle.lin_object.specs.declared.state.ObjState.{ObjState}
use Rattle.lin_object.specs.declared.state.ObjState.TheVariants.{Map}
use Rattle.lin_object.specs.contracts.reply.ReplyPartialEq.TheImpl.{eq-value as reply_eq}
use Rattle.lin_object.specs.contracts.state.ObjStatePartialEq.TheImpl.{eq-value as state_eq}
use Rattle.lin_object.specs.Items.{is_in}
use Rattle.lin_object.specs.Pairs.{value_at, reply_to_lookup, with_value, without_key}
use Rattle.lin_object.specs.Kinds.{after}
use Rattle.lin_object.specs.Kinds.Map.{value_after_step, MapLaw}
use Rattle.lin_object.specs.StepLemmas.{state_same}
use Rattle.lin_history.specs.declared.problems.problem.ProblemCall.{ProblemCall}
use Rattle.lin_history.specs.ReplyLemmas.{reply_same}
use Rattle.lin_history.specs.Problems.ProblemParts.{ProblemParts}
use Rattle.lin_history.specs.Problems.LegalLists.{fits, state_if_fits}
use Rattle.lin_history.specs.Problems.AnyProblem.{any_problem}
use Rattle.lin_core.specs.KeyValues.{is_known, tells, may_tell, is_on_key, is_off_key, IsOnKey, IsOffKey, IsMap, KeyValuesLaw}
use Rattle.lin_core.proofs.CutLemmas.{left}
use Rattle.lin_core.proofs.LawLemmas.{fitting}
use Rattle.lin_core.proofs.OnValues.{both, clash}

module _ (law : MapLaw after state_eq.it) (key : ℤ) (nothing : Bool) (values : List ℤ) where
  -- what is known of the key in the whole's state, the part's state has
  abbrev pub Knows : ObjState → ObjState → Type 0
  Knows (Map ps) (Map qs) = is_known nothing values (value_at key ps) ≡ true → value_at key ps ≡ value_at key qs
  Knows s u = ⊥

  -- what the key has after a put or a delete
  pub put_gives : (k v : ℤ) (ps : List Pair) → value_at key (with_value k v ps) ≡ (if int_eq k key then Some v else value_at key ps)
  put_gives k v ps = at (law.values ps (record { process = 0; op = Put k v; reply = Okay } ∷ []) (Map (with_value k v ps)) (Map (with_value k v ps), refl, refl))
    where
      at : (rest : List Pair) × (Map (with_value k v ps) ≡ Map rest) × ((other : ℤ) → value_at other rest ≡ value_after_step other (value_at other ps) (Put k v)) → value_at key (with_value k v ps) ≡ (if int_eq k key then Some v else value_at key ps)
      at m = (let same : with_value k v ps ≡ m.0 = (let e = m.1 in cc) in ap (value_at key) same ∙ m.2 key)

  pub delete_gives : (k : ℤ) (ps : List Pair) → value_at key (without_key k ps) ≡ (if int_eq k key then None else value_at key ps)
  delete_gives k ps = at (law.values ps (record { process = 0; op = Delete k; reply = Flag (is_some (value_at k ps)) } ∷ []) (Map (without_key k ps)) (Map (without_key k ps), refl, refl))
    where
      at : (rest : List Pair) × (Map (without_key k ps) ≡ Map rest) × ((other : ℤ) → value_at other rest ≡ value_after_step other (value_at other ps) (Delete k)) → value_at key (without_key k ps) ≡ (if int_eq k key then None else value_at key ps)
      at m = (let same : without_key k ps ≡ m.0 = (let e = m.1 in cc) in ap (value_at key) same ∙ m.2 key)

  -- both maps have the same after a put of the key
  put_alike : (k v : ℤ) (ps qs : List Pair) → int_eq k key ≡ true → value_at key (with_value k v ps) ≡ value_at key (with_value k v qs)
  put_alike k v ps qs same = put_gives k v ps ∙ ap (λ (b : Bool). if b then Some v else value_at key ps) same ∙ sym (put_gives k v qs ∙ ap (λ (b : Bool). if b then Some v else value_at key qs) same)

  -- where it is not known after, or is as it was
  still : (k : ℤ) (b : Bool) (o : Option ℤ) (ps qs : List Pair) (after_it : Option ℤ) → int_eq k key ≡ b → after_it ≡ (if int_eq k key then o else value_at key ps) → (b ≡ true → is_known nothing values o ≡ false) → (is_known nothing values (value_at key ps) ≡ true → value_at key ps ≡ value_at key qs) → is_known nothing values after_it ≡ true → after_it ≡ value_at key qs
  still k true o ps qs after_it same gives out e h = clash h (ap (is_known nothing values) (gives ∙ ap (λ (b : Bool). if b then o else value_at key ps) same) ∙ out refl)
  still k false o ps qs after_it same gives out e h =
      let as_it_was : after_it ≡ value_at key ps = gives ∙ ap (λ (b : Bool). if b then o else value_at key ps) same in
      as_it_was ∙ e (subst (λ (x : Option ℤ). is_known nothing values x ≡ true) as_it_was h)

  not_both : (a b : Bool) → not (a && b) ≡ true → a ≡ true → b ≡ false
  not_both true true e h = absurd (cc)
  not_both true false e h = refl
  not_both false b e h = absurd (cc)

  -- a lookup that is kept tells what is known, or is pending
  told : (o : Option ℤ) (b : Bool) (returned : Option (ℕ × Reply)) → is_known nothing values o ≡ b → may_tell nothing values returned ≡ true → fits reply_eq.it (reply_to_lookup o) returned ≡ true → (is_known nothing values o ≡ true) ⊎ (returned ≡ None)
  told o true returned k h f = inl k
  told o false None k h f = inr refl
  told None false (Some r) k h f = clash (subst (λ (x : Reply). tells nothing values x ≡ true) (sym (reply_same Empty r.1 f)) h) k
  told (Some v) false (Some r) k h f = clash (subst (λ (x : Reply). tells nothing values x ≡ true) (sym (reply_same (Int v) r.1 f)) h) k

  abbrev Stays : Op → ℕ → Option (ℕ × Reply) → ObjState → ObjState → Type 0
  Stays op process returned t u = ((v : ObjState) × (state_if_fits reply_eq.it returned (after u process op) ≡ Some v) × Knows t v) ⊎ (Knows t u × (returned ≡ None))

  fitted : (r : Reply) (s : ObjState) (returned : Option (ℕ × Reply)) → fits reply_eq.it r returned ≡ true → state_if_fits reply_eq.it returned (Some (s, r)) ≡ Some s
  fitted r s returned f = ap (λ (b : Bool). cond b (Some s) None) f

  key_stays : (ps qs : List Pair) (op : Op) (process : ℕ) (returned : Option (ℕ × Reply)) (t : ObjState) → is_on_key key nothing values op returned ≡ true → Knows (Map ps) (Map qs) → state_if_fits reply_eq.it returned (after (Map ps) process op) ≡ Some t → Stays op process returned t (Map qs)
  key_stays ps qs (Put k v) process returned t on e n =
      let f = fitting reply_eq.it returned (Some (Map (with_value k v ps), Okay)) t n in
      let is : f.0 ≡ (Map (with_value k v ps), Okay) = (let g = f.1 in cc) in
      let fit : fits reply_eq.it Okay returned ≡ true = subst (λ (x : ObjState × Reply). fits reply_eq.it x.1 returned ≡ true) is f.2 in
      let to : Map (with_value k v ps) ≡ t = ap (λ (x : ObjState × Reply). x.0) (sym is) ∙ f.3 in
      inl (Map (with_value k v qs), fitted Okay (Map (with_value k v qs)) returned fit, subst (λ (s : ObjState). Knows s (Map (with_value k v qs))) to (λ h. put_alike k v ps qs (both (int_eq k key) (is_in v values) on).0))
  key_stays ps qs (Lookup k) process returned t on e n =
      let f = fitting reply_eq.it returned (Some (Map ps, reply_to_lookup (value_at k ps))) t n in
      let is : f.0 ≡ (Map ps, reply_to_lookup (value_at k ps)) = (let g = f.1 in cc) in
      let here : k ≡ key = (signed_Decides k key).0 (both (int_eq k key) _ on).0 in
      let fit : fits reply_eq.it (reply_to_lookup (value_at key ps)) returned ≡ true = subst (λ (x : ℤ). fits reply_eq.it (reply_to_lookup (value_at x ps)) returned ≡ true) here (subst (λ (x : ObjState × Reply). fits reply_eq.it x.1 returned ≡ true) is f.2) in
      let to : Map ps ≡ t = ap (λ (x : ObjState × Reply). x.0) (sym is) ∙ f.3 in
      let keeps : Knows t (Map qs) = subst (λ (s : ObjState). Knows s (Map qs)) to e in
      elim (told (value_at key ps) (is_known nothing values (value_at key ps)) returned refl (both (int_eq k key) _ on).1 fit) [
        | inl known ↦ inl (Map qs, fitted (reply_to_lookup (value_at k qs)) (Map qs) returned (subst (λ (x : ℤ). fits reply_eq.it (reply_to_lookup (value_at x qs)) returned ≡ true) (sym here) (subst (λ (o : Option ℤ). fits reply_eq.it (reply_to_lookup o) returned ≡ true) (e known) fit)), keeps)
        | inr pending ↦ inr (keeps, pending)
      ]
  key_stays ps qs op process returned t on e n = absurd (cc)

  pub any_key_stays : (x : ProblemCall Op Reply) (s t u : ObjState) → IsOnKey key nothing values x → Knows s u → state_if_fits reply_eq.it x.returned (after s x.process x.op) ≡ Some t → Stays x.op x.process x.returned t u
  any_key_stays x (Map ps) t (Map qs) on e n = key_stays ps qs x.op x.process x.returned t on e n
  any_key_stays x s t u on e n = absurd e

  key_goes : (ps qs : List Pair) (op : Op) (process : ℕ) (returned : Option (ℕ × Reply)) (t : ObjState) → is_off_key key nothing values op ≡ true → Knows (Map ps) (Map qs) → state_if_fits reply_eq.it returned (after (Map ps) process op) ≡ Some t → Knows t (Map qs)
  key_goes ps qs (Put k v) process returned t off e n =
      let f = fitting reply_eq.it returned (Some (Map (with_value k v ps), Okay)) t n in
      let to : Map (with_value k v ps) ≡ t = (let g = f.1 in let h = f.3 in cc) in
      subst (λ (s : ObjState). Knows s (Map qs)) to (still k (int_eq k key) (Some v) ps qs (value_at key (with_value k v ps)) refl (put_gives k v ps) (not_both (int_eq k key) (is_in v values) off) e)
  key_goes ps qs (Delete k) process returned t off e n =
      let f = fitting reply_eq.it returned (Some (Map (without_key k ps), Flag (is_some (value_at k ps)))) t n in
      let to : Map (without_key k ps) ≡ t = (let g = f.1 in let h = f.3 in cc) in
      subst (λ (s : ObjState). Knows s (Map qs)) to (still k (int_eq k key) None ps qs (value_at key (without_key k ps)) refl (delete_gives k ps) (not_both (int_eq k key) nothing off) e)
  key_goes ps qs op process returned t off e n = absurd (cc)

  pub any_key_goes : (x : ProblemCall Op Reply) (s t u : ObjState) → IsOffKey key nothing values x → Knows s u → state_if_fits reply_eq.it x.returned (after s x.process x.op) ≡ Some t → Knows t u
  any_key_goes x (Map ps) t (Map qs) off e n = elim off [
    | inl other ↦ key_goes ps qs x.op x.process x.returned t other e n
    | inr idle ↦ (
        let f = fitting reply_eq.it x.returned (after (Map ps) x.process x.op) t n in
        subst (λ (y : ObjState). Knows y (Map qs)) (state_same (Map ps) f.0.0 (idle (Map ps) x.process f.0 f.1 f.2) ∙ f.3) e
        )
  ]
  any_key_goes x s t u off e n = absurd e

  starts_known : (s : ObjState) → IsMap s → Knows s s
  starts_known (Map ps) e = λ h. refl
  starts_known s e = absurd e

pub key_values_law : {Object : Type 0} → MapLaw after state_eq.it → (parts : ProblemParts Object ObjState Op Reply) → KeyValuesLaw (any_problem parts)
key_values_law law parts key nothing values event kept calls is_map enough = left (any_problem parts) (Knows law key nothing values) (IsOnKey key nothing values) (IsOffKey key nothing values) (starts_known law key nothing values parts.start is_map)
    (any_key_stays law key nothing values)
    (any_key_goes law key nothing values)
    event kept calls enough
