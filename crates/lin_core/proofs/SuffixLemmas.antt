-- The laws of windows: of any lawful object, of the calls on some values, and of those on a key of a map.
use Rattle.std.proofs.Common.{◌≡◌, ℕ, ◌≤◌, ◌==◌, Bool, true, false, cond, Option, Some, None, List, [], ◌∷◌, length, ◌⊎◌, inl, inr, refl, sym, ◌∙◌, ap, subst, leb-true, arith}
use Rattle.std.specs.Prelude.{◌<◌, ℤ, pos, not, ◌&&◌, ◌||◌, IsSomeAnd, slice_get, if◌then◌else◌}
use Rattle.std.specs.Ordering.{int_eq}
use Rattle.std.specs.Cmp.{signed_Decides}
use Rattle.lin_object.specs.declared.op.Op.{Op}
use Rattle.lin_object.specs.declared.op.Op.TheVariants.{Write, Read, Cas, Insert, Remove, Contains, Lock, Unlock, TryLock, Put, Delete}
use Rattle.lin_object.specs.declared.reply.Reply.{Reply}
use Rattle.lin_object.specs.declared.reply.Reply.TheVariants.{Okay, Int, Flag}
use Rattle.lin_object.specs.declared.state.ObjState.{ObjState}
use Rattle.lin_object.specs.declared.state.ObjState.TheVariants.{Register, Counter, Queue, Stack, Set, Mutex, Map}
use Rattle.lin_object.specs.contracts.reply.ReplyPartialEq.TheImpl.{eq-value as reply_eq}
use Rattle.lin_object.specs.contracts.state.ObjStatePartialEq.TheImpl.{eq-value as state_eq}
use Rattle.lin_object.specs.Items.{is_in}
use Rattle.lin_object.specs.Kinds.{after}
use Rattle.lin_object.specs.Kinds.Register.{register_step}
use Rattle.lin_object.specs.Kinds.Set.{set_step, SetLaw}
use Rattle.lin_object.specs.Kinds.Mutex.{mutex_step}
use Rattle.lin_object.specs.Kinds.Map.{MapLaw}
use Rattle.lin_object.specs.Laws.{IsLawful}
use Rattle.lin_history.specs.declared.problems.problem.ProblemCall.{ProblemCall}
use Rattle.lin_history.specs.OptionLemmas.{and_some, some_more}
use Rattle.lin_history.specs.Problems.Lists.{In}
use Rattle.lin_history.specs.Problems.Problem.{Problem, problem_of}
use Rattle.lin_history.specs.Problems.ProblemParts.{ProblemParts}
use Rattle.lin_history.specs.Problems.Precedence.{Before}
use Rattle.lin_history.specs.Problems.LegalLists.{after_call, fits, state_if_fits}
use Rattle.lin_history.specs.Problems.AnyProblem.{any_problem}
use Rattle.lin_search.specs.SameLemmas.{alike_itself}
use Rattle.lin_core.specs.Laws.{Any, IsIdle, IsOn, IsOff}
use Rattle.lin_core.specs.OnValues.{holder_among, IsOnValues}
use Rattle.lin_core.specs.KeyValues.{is_off_key, IsOnKey, IsOffKey, IsMap}
use Rattle.lin_core.specs.Windows.{returned_in, call_in, is_over, AreEnoughWithin}
use Rattle.lin_core.specs.Suffixes.{IsLeftFrom, IsAnyState, SuffixLaw, HasBeginnings, IsBeginning, SuffixValuesLaw, IsKeyBeginning, SuffixKeyValuesLaw, IsAtKey, is_away, IsBesideKey, SuffixKeyLaw, is_back_by, IsAtKeyUntil, IsBesideKeyAfter, SuffixKeyLaterLaw}
use Rattle.lin_parts.specs.Parts.{name}
use Rattle.lin_core.proofs.CheckLemmas.{below}
use Rattle.lin_core.proofs.WindowLemmas.{by_window, left_from}
use Rattle.lin_core.proofs.LawLemmas.{fitting, any_stays, any_goes}
use Rattle.lin_core.proofs.SinceLemmas.{one_in}
use Rattle.lin_core.proofs.OnValues.{clash}
use Rattle.lin_core.proofs.KeyValueLemmas.{Knows, any_key_stays, any_key_goes}
use Rattle.lin_core.proofs.KeyStateLemmas.{map_step, known_from, HasAlike, any_at_stays, any_away_goes, alike_knows, alike_from}

-- ---- by what each call may

module _ {State Op Reply : Type 0} (p : Problem State Op Reply) (R : State → State → Type 0) (may_stay may_go : ProblemCall Op Reply → Type 0)
    (stays : (x : ProblemCall Op Reply) (s t u : State) → may_stay x → R s u → after_call p s (Some x) ≡ Some t → ((v : State) × (after_call p u (Some x) ≡ Some v) × R t v) ⊎ (R t u × (x.returned ≡ None)))
    (goes : (x : ProblemCall Op Reply) (s t u : State) → may_go x → R s u → after_call p s (Some x) ≡ Some t → R t u)
    (Kind Start : State → Type 0) (kind : Kind p.start) (kind_step : (x : ProblemCall Op Reply) (s t : State) → Kind s → after_call p s (Some x) ≡ Some t → Kind t)
    (covers : (s : State) → Kind s → (u : State) × Start u × R s u)
    (from event : ℕ) (kept : List ℕ) (calls : List (ProblemCall Op Reply)) (enough : AreEnoughWithin p from event kept calls may_stay may_go) where
  pub left_within : IsLeftFrom p Start kept calls
  left_within = left_from p from event kept calls enough.within (λ past. R)
      (λ past x i s t u is fresh e n. stays x s t u (enough.stay i x is) e n)
      (λ past c x s t u is up out not_over first e n. elim (enough.go c x is up) [
        | inl there ↦ absurd (out there)
        | inr (inl over) ↦ absurd (not_over over)
        | inr (inr off) ↦ goes x s t u off e n
      ])
      Kind Start kind kind_step (λ past. covers)

-- ---- any lawful object

module _ {Object State Op Reply : Type 0} {after : Object → State → ℕ → Op → Option (State × Reply)} {same_object : Object → Object → Bool} {same_state : State → State → Bool} {same_op : Op → Op → Bool} {same_reply : Reply → Reply → Bool} (lawful : IsLawful after same_object same_state same_op same_reply) (parts : ProblemParts Object State Op Reply) where
  abbrev P : Problem State Op Reply
  P = problem_of after same_state same_reply parts

  pub suffix_law : SuffixLaw P
  suffix_law from event kept calls enough = left_within P (λ s u. same_state s u ≡ true) Any (IsIdle P)
      (λ x s t u any e n. inl ((alike_itself lawful (record parts { calls = x ∷ [] })).there.steps s u t 0 e n))
      (λ x s t u idle e n. (
      let f = fitting same_reply x.returned (after parts.object s x.process x.op) t n in
      let still : same_state s t ≡ true = subst (λ (y : State). same_state s y ≡ true) f.3 (idle s x.process f.0 f.1 f.2) in
      sym (lawful.states.congr s t u still) ∙ e
      ))
      (λ s. Unit {0}) IsAnyState tt (λ x s t k n. tt) (λ s k. (s, tt, lawful.states.refl s))
      from event kept calls enough

-- ---- what stays a register, a set, a mutex

abbrev pub SameKind : ObjState → ObjState → Type 0
SameKind (Register z) (Register w) = Unit {0}
SameKind (Set items) (Set others) = Unit {0}
SameKind (Mutex holder) (Mutex other) = Unit {0}
SameKind s u = ⊥

abbrev Leads : ObjState → Option (ObjState × Reply) → Type 0
Leads s None = Unit {0}
Leads s (Some a) = SameKind s a.0

chosen : (s : ObjState) (b : Bool) (x y : ObjState × Reply) → SameKind s x.0 → SameKind s y.0 → SameKind s (if b then x else y).0
chosen s true x y k h = k
chosen s false x y k h = h

register_leads : (z v : ℤ) (op : Op) → Leads (Register z) (register_step v op)
register_leads z v (Write w) = tt
register_leads z v Read = tt
register_leads z v (Cas a b) = chosen (Register z) (int_eq v a) (Register b, Flag true) (Register v, Flag false) tt tt
register_leads z v op = tt

set_leads : (zs items : List ℤ) (op : Op) → Leads (Set zs) (set_step items op)
set_leads zs items (Insert v) = chosen (Set zs) (is_in v items) _ _ tt tt
set_leads zs items (Remove v) = chosen (Set zs) (is_in v items) _ _ tt tt
set_leads zs items (Contains v) = tt
set_leads zs items op = tt

released : (z : Option ℕ) (b : Bool) → Leads (Mutex z) (if b then Some (Mutex None, Okay) else None)
released z true = tt
released z false = tt

mutex_leads : (z holder : Option ℕ) (process : ℕ) (op : Op) → Leads (Mutex z) (mutex_step holder process op)
mutex_leads z None process Lock = tt
mutex_leads z (Some h) process Lock = tt
mutex_leads z None process Unlock = tt
mutex_leads z (Some h) process Unlock = released z (h == process)
mutex_leads z None process TryLock = tt
mutex_leads z (Some h) process TryLock = tt
mutex_leads z None process op = tt
mutex_leads z (Some h) process op = tt

kind_of : (s : ObjState) (a : Option (ObjState × Reply)) (returned : Option (ℕ × Reply)) (t : ObjState) → Leads s a → state_if_fits reply_eq.it returned a ≡ Some t → SameKind s t
kind_of s a returned t k n =
    let f = fitting reply_eq.it returned a t n in
    subst (SameKind s) f.3 (subst (Leads s) f.1 k)

kind_step : (z : ObjState) (x : ProblemCall Op Reply) (s t : ObjState) → SameKind z s → state_if_fits reply_eq.it x.returned (after s x.process x.op) ≡ Some t → SameKind z t
kind_step (Register z) x (Register v) t k n = kind_of (Register z) (after (Register v) x.process x.op) x.returned t (register_leads z v x.op) n
kind_step (Set zs) x (Set items) t k n = kind_of (Set zs) (after (Set items) x.process x.op) x.returned t (set_leads zs items x.op) n
kind_step (Mutex z) x (Mutex holder) t k n = kind_of (Mutex z) (after (Mutex holder) x.process x.op) x.returned t (mutex_leads z holder x.process x.op) n
kind_step z x s t k n = absurd k

-- ---- what stands for a state

register_from : (values : List ℤ) (z v : ℤ) (b : Bool) → is_in v values ≡ b → (u : ObjState) × IsBeginning values (Register z) u × IsOnValues values (Register v) u
register_from values z v true e = (Register v, inr (v, e, refl), λ h. refl)
register_from values z v false e = (Register z, inl refl, λ h. clash h e)

mutex_from : (values : List ℤ) (z : Option ℕ) (h : ℕ) (b : Bool) → is_in (pos h) values ≡ b → (u : ObjState) × IsBeginning values (Mutex z) u × IsOnValues values (Mutex (Some h)) u
mutex_from values z h true e = (Mutex (Some h), inr (h, e, refl), ap (λ (b : Bool). if b then Some h else None) e)
mutex_from values z h false e = (Mutex None, inl refl, ap (λ (b : Bool). if b then Some h else None) e)

-- the one item of the list
only_item : (v : ℤ) (values : List ℤ) → length values ≡ 1 → is_in v values ≡ true → (items : List ℤ) (b : Bool) → is_in v items ≡ b → (item : ℤ) → is_in item values ≡ true → item ≡ v
only_item v values one h items b e item k = first_is (one_in values v one h) (one_in values item one k)
  where
    head_is : (a c : ℤ) → a ∷ [] ≡ c ∷ [] → c ≡ a
    head_is a c f = cc

    first_is : values ≡ v ∷ [] → values ≡ item ∷ [] → item ≡ v
    first_is f g = head_is v item (sym f ∙ g)

nothing_in : (item : ℤ) → is_in item [] ≡ false
nothing_in item = refl

set_from : (values zs items : List ℤ) → length values ≡ 1 → (u : ObjState) × IsBeginning values (Set zs) u × IsOnValues values (Set items) u
set_from [] zs items one = absurd (omega (arith, one))
set_from (v ∷ []) zs items one = by (is_in v items) refl
  where
    there : is_in v (v ∷ []) ≡ true
    there = ap (λ (b : Bool). b || false) ((signed_Decides v v).1 refl)

    by : (b : Bool) → is_in v items ≡ b → (u : ObjState) × IsBeginning (v ∷ []) (Set zs) u × IsOnValues (v ∷ []) (Set items) u
    by true e = (Set (v ∷ []), inr refl, λ item h. subst (λ (x : ℤ). is_in x items ≡ is_in x (v ∷ [])) (sym (only_item v (v ∷ []) refl there items true e item h)) (e ∙ sym there))
    by false e = (Set [], inl refl, λ item h. subst (λ (x : ℤ). is_in x items ≡ false) (sym (only_item v (v ∷ []) refl there items false e item h)) e)
set_from (v ∷ w ∷ rest) zs items one = absurd (omega (arith, one))

begins_from : (values : List ℤ) (z s : ObjState) → HasBeginnings values z → SameKind z s → (u : ObjState) × IsBeginning values z u × IsOnValues values s u
begins_from values (Register z) (Register v) has k = register_from values z v (is_in v values) refl
begins_from values (Set zs) (Set items) has k = set_from values zs items has
begins_from values (Mutex z) (Mutex None) has k = (Mutex None, inl refl, refl)
begins_from values (Mutex z) (Mutex (Some h)) has k = mutex_from values z h (is_in (pos h) values) refl
begins_from values z s has k = absurd k

kind_itself : (values : List ℤ) (z : ObjState) → HasBeginnings values z → SameKind z z
kind_itself values (Register z) has = tt
kind_itself values (Set items) has = tt
kind_itself values (Mutex holder) has = tt
kind_itself values z has = absurd has

-- ---- a key of which only one value counts from an event on

not_and : (a b : Bool) → not a ≡ true → not (a && b) ≡ true
not_and true b e = absurd (cc)
not_and false b e = refl

-- what changes nothing of the key changes nothing of what is known of one value
beside_off : (key value : ℤ) (x : ProblemCall Op Reply) → IsBesideKey key x → IsOffKey key false (value ∷ []) x
beside_off key value x beside = elim beside [ inl away ↦ inl (away_off x.op away) | inr idle ↦ inr idle ]
  where
    away_off : (op : Op) → is_away key op ≡ true → is_off_key key false (value ∷ []) op ≡ true
    away_off (Put k v) e = not_and (int_eq k key) (is_in v (value ∷ [])) e
    away_off (Delete k) e = not_and (int_eq k key) false e
    away_off op e = absurd (cc)

back_return : (event : ℕ) (o : Option (ℕ × Reply)) → is_back_by event o ≡ true → IsSomeAnd o (λ r. r.0 ≤ event)
back_return event None e = absurd (cc)
back_return event (Some r) e = leb-true r.0 event e

module _ {Object : Type 0} (parts : ProblemParts Object ObjState Op Reply) (law : MapLaw after state_eq.it) (key other value : ℤ) (seen : List ℤ) (late from event : ℕ) (kept : List ℕ) (calls : List (ProblemCall Op Reply)) (out : is_in other seen ≡ false) (seen_it : is_in value seen ≡ true)
    (enough : AreEnoughWithin (any_problem parts) from event kept calls (IsAtKeyUntil key seen value late) (IsBesideKeyAfter key value late)) where
  abbrev W : Problem ObjState Op Reply
  W = any_problem parts

  -- all that returned by the event have come
  abbrev HaveCome : List ℕ → Type 0
  HaveCome past = (i : ℕ) (y : ProblemCall Op Reply) → slice_get calls i ≡ Some y → is_back_by late y.returned ≡ true → In (name kept i) past

  -- both maps are alike; or all that returned by the event have come, and the part has the value where the whole has it
  abbrev R : List ℕ → ObjState → ObjState → Type 0
  R past s u = HasAlike law key seen s u ⊎ (HaveCome past × Knows law key false (value ∷ []) s u)

  come_more : (past : List ℕ) (c : ℕ) → HaveCome past → HaveCome (c ∷ past)
  come_more past c come i y is back = inr (come i y is back)

  stays : (past : List ℕ) (x : ProblemCall Op Reply) (i : ℕ) (s t u : ObjState) → slice_get calls i ≡ Some x → (In (name kept i) past → ⊥) → R past s u → after_call W s (Some x) ≡ Some t → ((v : ObjState) × (after_call W u (Some x) ≡ Some v) × R (name kept i ∷ past) t v) ⊎ (R (name kept i ∷ past) t u × (x.returned ≡ None))
  stays past x i s t u is fresh r n = elim r [
    | inl alike ↦ (let k = any_at_stays law key seen x s t u (enough.stay i x is).0 alike n in inl (k.0, k.1, inl k.2))
    | inr known ↦ elim (enough.stay i x is).1 [
      | inl back ↦ absurd (fresh (known.0 i x is back))
      | inr on ↦ elim (any_key_stays law key false (value ∷ []) x s t u on known.1 n) [
        | inl a ↦ inl (a.0, a.1, inr (come_more past (name kept i) known.0, a.2))
        | inr a ↦ inr (inr (come_more past (name kept i) known.0, a.0), a.1)
      ]
    ]
  ]

  -- a call that was called after the event comes behind all that returned by it
  have_come : (past : List ℕ) (c : ℕ) (x : ProblemCall Op Reply) → slice_get parts.calls c ≡ Some x → ((a : ℕ) → Before W a c → In a past) → late < x.called → HaveCome past
  have_come past c x f first less i y is back = first (name kept i) before
    where
      within : i < length kept
      within = (let k = below calls i y is in let e = enough.within.count in omega (arith, k, e))

      one : (a b : ProblemCall Op Reply) → Some a ≡ Some b → a ≡ b
      one a b e = cc

      before : Before W (name kept i) c
      before =
          let k = enough.within.each i within in
          let same : y ≡ call_in from event k.0 = one y (call_in from event k.0) (sym is ∙ k.3) in
          let returned = by_window from event k.0.called k.0.returned (λ r. r.0 ≤ late) (back_return late (returned_in from event k.0.called k.0.returned) (subst (λ (z : ProblemCall Op Reply). is_back_by late z.returned ≡ true) same back)) in
          and_some (slice_get parts.calls (name kept i)) _ k.0 k.1 (some_more k.0.returned _ _ (λ r h. and_some (slice_get parts.calls c) (λ z. r.0 < z.called) x f (let g = h.1 in omega (arith, g, less))) returned.1)

  knows : (past : List ℕ) (s u : ObjState) → R past s u → Knows law key false (value ∷ []) s u
  knows past s u r = elim r [ inl alike ↦ alike_knows law key seen value seen_it s u alike | inr known ↦ known.1 ]

  goes : (past : List ℕ) (c : ℕ) (x : ProblemCall Op Reply) (s t u : ObjState) → slice_get parts.calls c ≡ Some x → x.called ≤ event → (In c kept → ⊥) → (is_over from x.returned ≡ true → ⊥) → ((a : ℕ) → Before W a c → In a past) → R past s u → after_call W s (Some x) ≡ Some t → R (c ∷ past) t u
  goes past c x s t u f up not_kept not_over first r n = elim (enough.go c x f up) [
    | inl there ↦ absurd (not_kept there)
    | inr (inl over) ↦ absurd (not_over over)
    | inr (inr (inl beside)) ↦ elim r [
      | inl alike ↦ inl (any_away_goes law key seen x s t u beside alike n)
      | inr known ↦ inr (come_more past c known.0, any_key_goes law key false (value ∷ []) x s t u (beside_off key value x beside) known.1 n)
    ]
    | inr (inr (inr later)) ↦ inr (come_more past c (have_come past c x f first later.0), any_key_goes law key false (value ∷ []) x s t u later.1 (knows past s u r) n)
  ]

  covers : (past : List ℕ) (s : ObjState) → IsMap s → (u : ObjState) × IsKeyBeginning key (other ∷ seen) u × R past s u
  covers past s k = let a = alike_from law key seen other out s k in (a.0, a.1, inl a.2)

  later_left : IsMap parts.start → IsLeftFrom W (IsKeyBeginning key (other ∷ seen)) kept calls
  later_left is_map = left_from W from event kept calls enough.within R stays goes IsMap (IsKeyBeginning key (other ∷ seen)) is_map map_step covers

-- ---- the laws of the kinds

module _ {Object : Type 0} (parts : ProblemParts Object ObjState Op Reply) where
  abbrev A : Problem ObjState Op Reply
  A = any_problem parts

  pub suffix_values_law : SetLaw after state_eq.it → MapLaw after state_eq.it → SuffixValuesLaw A
  suffix_values_law sets maps values from event kept calls has enough = left_within A (IsOnValues values) (IsOn values) (IsOff values)
      (any_stays sets maps values)
      (any_goes sets maps values)
      (SameKind parts.start) (IsBeginning values parts.start) (kind_itself values parts.start has) (kind_step parts.start) (λ s k. begins_from values parts.start s has k)
      from event kept calls enough

  pub suffix_key_values_law : MapLaw after state_eq.it → SuffixKeyValuesLaw A
  suffix_key_values_law law key nothing values from event kept calls is_map enough = left_within A (Knows law key nothing values) (IsOnKey key nothing values) (IsOffKey key nothing values)
      (any_key_stays law key nothing values)
      (any_key_goes law key nothing values)
      IsMap (IsKeyBeginning key values) is_map map_step (known_from law key nothing values)
      from event kept calls enough

  pub suffix_key_law : MapLaw after state_eq.it → SuffixKeyLaw A
  suffix_key_law law key other seen from event kept calls is_map out enough = left_within A (HasAlike law key seen) (IsAtKey key seen) (IsBesideKey key)
      (λ x s t u on e n. inl (any_at_stays law key seen x s t u on e n))
      (any_away_goes law key seen)
      IsMap (IsKeyBeginning key (other ∷ seen)) is_map map_step (alike_from law key seen other out)
      from event kept calls enough

  pub suffix_key_later_law : MapLaw after state_eq.it → SuffixKeyLaterLaw A
  suffix_key_later_law law key other value seen late from event kept calls is_map out seen_it enough = later_left parts law key other value seen late from event kept calls out seen_it enough is_map
