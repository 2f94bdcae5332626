-- Maps by one of their keys, where values that no reply gives are one: by the law of their runs.
use Rattle.std.proofs.Common.{◌≡◌, ℕ, Bool, true, false, cond, Option, Some, None, List, [], ◌∷◌, ◌⊎◌, inl, inr, refl, sym, ◌∙◌, ap, subst}
use Rattle.std.specs.Prelude.{ℤ, not, ◌&&◌, ◌||◌, is_some, if◌then◌else◌}
use Rattle.std.specs.Option.{option_map}
use Rattle.std.specs.Ordering.{int_eq}
use Rattle.std.specs.Cmp.{signed_Decides}
use Rattle.std.proofs.Math.Bool.{or-true}
use Rattle.lin_object.specs.declared.op.Op.{Op}
use Rattle.lin_object.specs.declared.op.Op.TheVariants.{Put, Lookup, Delete}
use Rattle.lin_object.specs.declared.pairs.Pair.{Pair}
use Rattle.lin_object.specs.declared.reply.Reply.{Reply}
use Rattle.lin_object.specs.declared.reply.Reply.TheVariants.{Okay, Flag, Int, Empty}
use Rattle.lin_object.specs.declared.state.ObjState.{ObjState}
use Rattle.lin_object.specs.declared.state.ObjState.TheVariants.{Map}
use Rattle.lin_object.specs.contracts.reply.ReplyPartialEq.TheImpl.{eq-value as reply_eq}
use Rattle.lin_object.specs.contracts.state.ObjStatePartialEq.TheImpl.{eq-value as state_eq}
use Rattle.lin_object.specs.Items.{is_in}
use Rattle.lin_object.specs.Pairs.{value_at, reply_to_lookup, with_value, without_key}
use Rattle.lin_object.specs.Kinds.{after}
use Rattle.lin_object.specs.Kinds.Map.{MapLaw}
use Rattle.lin_object.specs.StepLemmas.{state_same}
use Rattle.lin_history.specs.declared.problems.problem.ProblemCall.{ProblemCall}
use Rattle.lin_history.specs.ReplyLemmas.{reply_same}
use Rattle.lin_history.specs.Problems.LegalLists.{fits, state_if_fits}
use Rattle.lin_core.specs.KeyValues.{is_known, tells, may_tell, IsMap}
use Rattle.lin_core.specs.Suffixes.{is_at_key, is_away, IsAtKey, IsBesideKey, IsKeyBeginning}
use Rattle.lin_core.proofs.LawLemmas.{fitting}
use Rattle.lin_core.proofs.OnValues.{both, clash, not_in}
use Rattle.lin_core.proofs.KeyValueLemmas.{Knows, put_gives, delete_gives}

-- a map stays one
pub map_step : (x : ProblemCall Op Reply) (s t : ObjState) → IsMap s → state_if_fits reply_eq.it x.returned (after s x.process x.op) ≡ Some t → IsMap t
map_step x (Map ps) t k n = by x.op n
  where
    is_map : (op : Op) (a : ObjState × Reply) → after (Map ps) x.process op ≡ Some a → IsMap a.0
    is_map (Put k v) a e = subst (λ (y : ObjState × Reply). IsMap y.0) (the_one (Map (with_value k v ps), Okay) a e) tt
      where
        the_one : (b c : ObjState × Reply) → Some b ≡ Some c → b ≡ c
        the_one b c f = cc
    is_map (Lookup k) a e = subst (λ (y : ObjState × Reply). IsMap y.0) (the_one (Map ps, reply_to_lookup (value_at k ps)) a e) tt
      where
        the_one : (b c : ObjState × Reply) → Some b ≡ Some c → b ≡ c
        the_one b c f = cc
    is_map (Delete k) a e = subst (λ (y : ObjState × Reply). IsMap y.0) (the_one (Map (without_key k ps), Flag (is_some (value_at k ps))) a e) tt
      where
        the_one : (b c : ObjState × Reply) → Some b ≡ Some c → b ≡ c
        the_one b c f = cc
    is_map op a e = absurd (cc)

    by : (op : Op) → state_if_fits reply_eq.it x.returned (after (Map ps) x.process op) ≡ Some t → IsMap t
    by op e = let f = fitting reply_eq.it x.returned (after (Map ps) x.process op) t e in subst IsMap f.3 (is_map op f.0 f.1)
map_step x s t k n = absurd k

-- what a map with one pair has at its key
pub one_pair : (key v : ℤ) → value_at key (record { key = key; value = v } ∷ []) ≡ Some v
one_pair key v = ap (λ (b : Bool). option_map (λ (pair : Pair). pair.value) (if b then Some (record { key = key; value = v }) else None)) ((signed_Decides key key).1 refl)

module _ (law : MapLaw after state_eq.it) (key : ℤ) (nothing : Bool) (values : List ℤ) where
  -- from some such state on, all that is known of the key is as it was
  pub known_from : (s : ObjState) → IsMap s → (u : ObjState) × IsKeyBeginning key values u × Knows law key nothing values s u
  known_from (Map ps) k = by (value_at key ps) refl
    where
      other : (o : Option ℤ) → value_at key ps ≡ o → (v : ℤ) → o ≡ Some v → (b : Bool) → is_in v values ≡ b → (u : ObjState) × IsKeyBeginning key values u × Knows law key nothing values (Map ps) u
      other o e v f true h = (Map (record { key = key; value = v } ∷ []), inr (v, h, refl), λ g. e ∙ f ∙ sym (one_pair key v))
      other o e v f false h = (Map [], inl refl, λ g. clash (subst (λ (x : Option ℤ). is_known nothing values x ≡ true) (e ∙ f) g) h)

      by : (o : Option ℤ) → value_at key ps ≡ o → (u : ObjState) × IsKeyBeginning key values u × Knows law key nothing values (Map ps) u
      by None e = (Map [], inl refl, λ g. e)
      by (Some v) e = other (Some v) e v refl (is_in v values) refl
  known_from s k = absurd k

module _ (law : MapLaw after state_eq.it) (key : ℤ) (seen : List ℤ) where
  -- both have none, or the same value, or each one that no reply gives
  abbrev pub AreAlike : Option ℤ → Option ℤ → Type 0
  AreAlike None None = Unit {0}
  AreAlike (Some v) (Some w) = (v ≡ w) ⊎ ((is_in v seen ≡ false) × (is_in w seen ≡ false))
  AreAlike o r = ⊥

  abbrev pub HasAlike : ObjState → ObjState → Type 0
  HasAlike (Map ps) (Map qs) = AreAlike (value_at key ps) (value_at key qs)
  HasAlike s u = ⊥

  alike_itself : (o : Option ℤ) → AreAlike o o
  alike_itself None = tt
  alike_itself (Some v) = inl refl

  same_alike : (a b c d : Option ℤ) → a ≡ b → c ≡ d → AreAlike b d → AreAlike a c
  same_alike a b c d e f k = rw (e, f) k

  -- where both tell alike, a reply that fits one fits the other
  alike_tells : (o r : Option ℤ) (returned : Option (ℕ × Reply)) → AreAlike o r → may_tell true seen returned ≡ true → fits reply_eq.it (reply_to_lookup o) returned ≡ true → fits reply_eq.it (reply_to_lookup r) returned ≡ true
  alike_tells o r None k h f = refl
  alike_tells None None (Some a) k h f = f
  alike_tells (Some v) (Some w) (Some a) k h f = elim k [
    | inl e ↦ subst (λ (x : ℤ). fits reply_eq.it (Int x) (Some a) ≡ true) e f
    | inr out ↦ clash (subst (λ (x : Reply). tells true seen x ≡ true) (sym (reply_same (Int v) a.1 f)) h) out.0
  ]
  alike_tells None (Some w) (Some a) k h f = absurd k
  alike_tells (Some v) None (Some a) k h f = absurd k

  alike_there : (o r : Option ℤ) → AreAlike o r → is_some o ≡ is_some r
  alike_there None None k = refl
  alike_there (Some v) (Some w) k = refl
  alike_there None (Some w) k = absurd k
  alike_there (Some v) None k = absurd k

  abbrev StaysAlike : Op → ℕ → Option (ℕ × Reply) → ObjState → ObjState → Type 0
  StaysAlike op process returned t u = (v : ObjState) × (state_if_fits reply_eq.it returned (after u process op) ≡ Some v) × HasAlike t v

  fitted : (r : Reply) (s : ObjState) (returned : Option (ℕ × Reply)) → fits reply_eq.it r returned ≡ true → state_if_fits reply_eq.it returned (Some (s, r)) ≡ Some s
  fitted r s returned f = ap (λ (b : Bool). cond b (Some s) None) f

  at_stays : (ps qs : List Pair) (op : Op) (process : ℕ) (returned : Option (ℕ × Reply)) (t : ObjState) → is_at_key key seen op returned ≡ true → HasAlike (Map ps) (Map qs) → state_if_fits reply_eq.it returned (after (Map ps) process op) ≡ Some t → StaysAlike op process returned t (Map qs)
  at_stays ps qs (Put k v) process returned t on e n =
      let f = fitting reply_eq.it returned (Some (Map (with_value k v ps), Okay)) t n in
      let is : f.0 ≡ (Map (with_value k v ps), Okay) = (let g = f.1 in cc) in
      let fit : fits reply_eq.it Okay returned ≡ true = subst (λ (x : ObjState × Reply). fits reply_eq.it x.1 returned ≡ true) is f.2 in
      let to : Map (with_value k v ps) ≡ t = ap (λ (x : ObjState × Reply). x.0) (sym is) ∙ f.3 in
      let a : value_at key (with_value k v ps) ≡ Some v = put_gives law key true seen k v ps ∙ ap (λ (b : Bool). if b then Some v else value_at key ps) on in
      let b : value_at key (with_value k v qs) ≡ Some v = put_gives law key true seen k v qs ∙ ap (λ (b : Bool). if b then Some v else value_at key qs) on in
      (Map (with_value k v qs), fitted Okay (Map (with_value k v qs)) returned fit, subst (λ (s : ObjState). HasAlike s (Map (with_value k v qs))) to (same_alike (value_at key (with_value k v ps)) (Some v) (value_at key (with_value k v qs)) (Some v) a b (inl refl)))
  at_stays ps qs (Lookup k) process returned t on e n =
      let f = fitting reply_eq.it returned (Some (Map ps, reply_to_lookup (value_at k ps))) t n in
      let is : f.0 ≡ (Map ps, reply_to_lookup (value_at k ps)) = (let g = f.1 in cc) in
      let here : k ≡ key = (signed_Decides k key).0 (both (int_eq k key) _ on).0 in
      let fit : fits reply_eq.it (reply_to_lookup (value_at key ps)) returned ≡ true = subst (λ (x : ℤ). fits reply_eq.it (reply_to_lookup (value_at x ps)) returned ≡ true) here (subst (λ (x : ObjState × Reply). fits reply_eq.it x.1 returned ≡ true) is f.2) in
      let to : Map ps ≡ t = ap (λ (x : ObjState × Reply). x.0) (sym is) ∙ f.3 in
      (Map qs, fitted (reply_to_lookup (value_at k qs)) (Map qs) returned (subst (λ (x : ℤ). fits reply_eq.it (reply_to_lookup (value_at x qs)) returned ≡ true) (sym here) (alike_tells (value_at key ps) (value_at key qs) returned e (both (int_eq k key) _ on).1 fit)), subst (λ (s : ObjState). HasAlike s (Map qs)) to e)
  at_stays ps qs (Delete k) process returned t on e n =
      let f = fitting reply_eq.it returned (Some (Map (without_key k ps), Flag (is_some (value_at k ps)))) t n in
      let is : f.0 ≡ (Map (without_key k ps), Flag (is_some (value_at k ps))) = (let g = f.1 in cc) in
      let here : k ≡ key = (signed_Decides k key).0 on in
      let fit : fits reply_eq.it (Flag (is_some (value_at key ps))) returned ≡ true = subst (λ (x : ℤ). fits reply_eq.it (Flag (is_some (value_at x ps))) returned ≡ true) here (subst (λ (x : ObjState × Reply). fits reply_eq.it x.1 returned ≡ true) is f.2) in
      let to : Map (without_key k ps) ≡ t = ap (λ (x : ObjState × Reply). x.0) (sym is) ∙ f.3 in
      let a : value_at key (without_key k ps) ≡ None = delete_gives law key true seen k ps ∙ ap (λ (b : Bool). if b then None else value_at key ps) on in
      let b : value_at key (without_key k qs) ≡ None = delete_gives law key true seen k qs ∙ ap (λ (b : Bool). if b then None else value_at key qs) on in
      let same : fits reply_eq.it (Flag (is_some (value_at key qs))) returned ≡ true = subst (λ (x : Bool). fits reply_eq.it (Flag x) returned ≡ true) (alike_there (value_at key ps) (value_at key qs) e) fit in
      (Map (without_key k qs), fitted (Flag (is_some (value_at k qs))) (Map (without_key k qs)) returned (subst (λ (x : ℤ). fits reply_eq.it (Flag (is_some (value_at x qs))) returned ≡ true) (sym here) same), subst (λ (s : ObjState). HasAlike s (Map (without_key k qs))) to (same_alike (value_at key (without_key k ps)) None (value_at key (without_key k qs)) None a b tt))
  at_stays ps qs op process returned t on e n = absurd (cc)

  pub any_at_stays : (x : ProblemCall Op Reply) (s t u : ObjState) → IsAtKey key seen x → HasAlike s u → state_if_fits reply_eq.it x.returned (after s x.process x.op) ≡ Some t → StaysAlike x.op x.process x.returned t u
  any_at_stays x (Map ps) t (Map qs) on e n = at_stays ps qs x.op x.process x.returned t on e n
  any_at_stays x s t u on e n = absurd e

  away : (a b c : Option ℤ) (d : Bool) → not d ≡ true → a ≡ (if d then b else c) → a ≡ c
  away a b c true off e = absurd (cc)
  away a b c false off e = e

  away_goes : (ps qs : List Pair) (op : Op) (process : ℕ) (returned : Option (ℕ × Reply)) (t : ObjState) → is_away key op ≡ true → HasAlike (Map ps) (Map qs) → state_if_fits reply_eq.it returned (after (Map ps) process op) ≡ Some t → HasAlike t (Map qs)
  away_goes ps qs (Put k v) process returned t off e n =
      let f = fitting reply_eq.it returned (Some (Map (with_value k v ps), Okay)) t n in
      let to : Map (with_value k v ps) ≡ t = (let g = f.1 in let h = f.3 in cc) in
      subst (λ (s : ObjState). HasAlike s (Map qs)) to (same_alike (value_at key (with_value k v ps)) (value_at key ps) (value_at key qs) (value_at key qs) (away (value_at key (with_value k v ps)) (Some v) (value_at key ps) (int_eq k key) off (put_gives law key true seen k v ps)) refl e)
  away_goes ps qs (Delete k) process returned t off e n =
      let f = fitting reply_eq.it returned (Some (Map (without_key k ps), Flag (is_some (value_at k ps)))) t n in
      let to : Map (without_key k ps) ≡ t = (let g = f.1 in let h = f.3 in cc) in
      subst (λ (s : ObjState). HasAlike s (Map qs)) to (same_alike (value_at key (without_key k ps)) (value_at key ps) (value_at key qs) (value_at key qs) (away (value_at key (without_key k ps)) None (value_at key ps) (int_eq k key) off (delete_gives law key true seen k ps)) refl e)
  away_goes ps qs op process returned t off e n = absurd (cc)

  pub any_away_goes : (x : ProblemCall Op Reply) (s t u : ObjState) → IsBesideKey key x → HasAlike s u → state_if_fits reply_eq.it x.returned (after s x.process x.op) ≡ Some t → HasAlike t u
  any_away_goes x (Map ps) t (Map qs) off e n = elim off [
    | inl other ↦ away_goes ps qs x.op x.process x.returned t other e n
    | inr idle ↦ (
        let f = fitting reply_eq.it x.returned (after (Map ps) x.process x.op) t n in
        subst (λ (y : ObjState). HasAlike y (Map qs)) (state_same (Map ps) f.0.0 (idle (Map ps) x.process f.0 f.1 f.2) ∙ f.3) e
        )
  ]
  any_away_goes x s t u off e n = absurd e

  or_nothing : (b : Bool) → b || false ≡ true → b ≡ true
  or_nothing true e = refl
  or_nothing false e = e

  -- of maps that are alike the one has each value of those seen where the other has it
  pub alike_knows : (v : ℤ) → is_in v seen ≡ true → (s u : ObjState) → HasAlike s u → Knows law key false (v ∷ []) s u
  alike_knows v h (Map ps) (Map qs) k = λ g. by (value_at key ps) (value_at key qs) k g
    where
      by : (o r : Option ℤ) → AreAlike o r → is_known false (v ∷ []) o ≡ true → o ≡ r
      by None None e g = refl
      by (Some x) (Some y) e g = elim e [
        | inl same ↦ ap Some same
        | inr out ↦ clash (subst (λ (z : ℤ). is_in z seen ≡ true) ((signed_Decides v x).0 (or_nothing (int_eq v x) g)) h) out.0
      ]
      by None (Some y) e g = absurd e
      by (Some x) None e g = absurd e
  alike_knows v h s u k = absurd k

  -- one other value stands for all that no reply gives
  pub alike_from : (other : ℤ) → is_in other seen ≡ false → (s : ObjState) → IsMap s → (u : ObjState) × IsKeyBeginning key (other ∷ seen) u × HasAlike s u
  alike_from other out (Map ps) k = by (value_at key ps) refl
    where
      with_one : (v w : ℤ) → value_at key ps ≡ Some v → is_in w (other ∷ seen) ≡ true → AreAlike (Some v) (Some w) → (u : ObjState) × IsKeyBeginning key (other ∷ seen) u × HasAlike (Map ps) u
      with_one v w e h a = (Map (record { key = key; value = w } ∷ []), inr (w, h, refl), same_alike (value_at key ps) (Some v) (value_at key (record { key = key; value = w } ∷ [])) (Some w) e (one_pair key w) a)

      first : is_in other (other ∷ seen) ≡ true
      first = ap (λ (b : Bool). b || is_in other seen) ((signed_Decides other other).1 refl)

      later : (v : ℤ) → is_in v seen ≡ true → is_in v (other ∷ seen) ≡ true
      later v h = ap (λ (b : Bool). int_eq other v || b) h ∙ or-true (int_eq other v)

      seen_or : (v : ℤ) → value_at key ps ≡ Some v → (b : Bool) → is_in v seen ≡ b → (u : ObjState) × IsKeyBeginning key (other ∷ seen) u × HasAlike (Map ps) u
      seen_or v e true h = with_one v v e (later v h) (inl refl)
      seen_or v e false h = with_one v other e first (inr (h, out))

      by : (o : Option ℤ) → value_at key ps ≡ o → (u : ObjState) × IsKeyBeginning key (other ∷ seen) u × HasAlike (Map ps) u
      by None e = (Map [], inl refl, same_alike (value_at key ps) None None None e refl tt)
      by (Some v) e = seen_or v e (is_in v seen) refl
  alike_from other out s k = absurd k
