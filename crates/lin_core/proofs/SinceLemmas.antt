-- From a call on that begins anew the calls before it may be left out.
use Rattle.std.proofs.Common.{◌≡◌, ℕ, ◌<◌, ◌≤◌, Bool, true, false, cond, Option, Some, None, List, [], ◌∷◌, length, ◌⊎◌, inl, inr, refl, sym, ◌∙◌, ap, subst, arith}
use Rattle.std.specs.Prelude.{ℤ, not, ◌||◌, if◌then◌else◌}
use Rattle.std.specs.Ordering.{int_eq}
use Rattle.std.specs.Cmp.{signed_Decides}
use Rattle.std.specs.List.{slice_get}
use Rattle.lin_object.specs.declared.op.Op.{Op}
use Rattle.lin_object.specs.declared.op.Op.TheVariants.{Write, Insert, Put}
use Rattle.lin_object.specs.declared.pairs.Pair.{Pair}
use Rattle.lin_object.specs.declared.reply.Reply.{Reply}
use Rattle.lin_object.specs.declared.reply.Reply.TheVariants.{Okay, Flag}
use Rattle.lin_object.specs.declared.state.ObjState.{ObjState}
use Rattle.lin_object.specs.declared.state.ObjState.TheVariants.{Register, Counter, Queue, Stack, Set, Mutex, Map}
use Rattle.lin_object.specs.contracts.reply.ReplyPartialEq.TheImpl.{eq-value as reply_eq}
use Rattle.lin_object.specs.contracts.state.ObjStatePartialEq.TheImpl.{eq-value as state_eq}
use Rattle.lin_object.specs.Items.{is_in}
use Rattle.lin_object.specs.Pairs.{value_at}
use Rattle.lin_object.specs.Kinds.{after}
use Rattle.lin_object.specs.Kinds.Set.{SetLaw}
use Rattle.lin_object.specs.Kinds.Map.{MapLaw, value_after_step}
use Rattle.lin_object.specs.StepAnswers.{step_reply}
use Rattle.lin_object.specs.StepLemmas.{state_same}
use Rattle.lin_history.specs.declared.problems.problem.ProblemCall.{ProblemCall}
use Rattle.lin_history.specs.Problems.Lists.{In}
use Rattle.lin_history.specs.Problems.Problem.{Problem}
use Rattle.lin_history.specs.Problems.ProblemParts.{ProblemParts}
use Rattle.lin_history.specs.ReplyLemmas.{reply_same}
use Rattle.lin_history.specs.Problems.LegalLists.{after_call, fits, state_if_fits}
use Rattle.lin_history.specs.Problems.Precedence.{Before}
use Rattle.lin_history.specs.Problems.AnyProblem.{any_problem}
use Rattle.lin_parts.specs.Parts.{name}
use Rattle.lin_parts.specs.PartLemmas.{name_in, three}
use Rattle.lin_core.specs.Cuts.{call_by}
use Rattle.lin_core.specs.Laws.{Any, IsIdle, IsLeft, IsOn, IsOff}
use Rattle.lin_core.specs.OnValues.{IsOnValues, BeginsAnew, AreEnoughFrom, AreEnoughSince, LeavesOneState, AreAllThatChange}
use Rattle.lin_core.proofs.CheckLemmas.{below}
use Rattle.lin_core.proofs.CutLemmas.{Comes, left, left_by}
use Rattle.lin_core.proofs.OnValues.{fits_then, not_in, stay_of, clash}
use Rattle.lin_core.proofs.SetLemmas.{set_stays, replying, valued}
use Rattle.lin_core.proofs.LawLemmas.{any_stays, any_goes, fitting}

none_some : {A B : Type 0} (x : A) → ◌≡◌ {A = Option A} None (Some x) → B
none_some x e = absurd (cc)

some_none : {A : Type 0} (x : A) → ◌≡◌ {A = Option A} (Some x) None → ⊥
some_none x e = cc

flag_of : (b : Bool) → Flag b ≡ Flag true → b ≡ true
flag_of true e = refl
flag_of false e = absurd (cc)

one_of : {A : Type 0} (x y : A) → Some x ≡ Some y → x ≡ y
one_of x y e = cc

module _ {Object : Type 0} (parts : ProblemParts Object ObjState Op Reply) where
  abbrev A : Problem ObjState Op Reply
  A = any_problem parts

  -- a relation of the states of the whole and of the part, which calls keep that stay or go, and which holds after one that begins anew
  module _ (On : ObjState → ObjState → Type 0) (may_stay may_go anew : ProblemCall Op Reply → Type 0)
      (stays_on : (x : ProblemCall Op Reply) (s t u : ObjState) → may_stay x → On s u → after_call A s (Some x) ≡ Some t → ((v : ObjState) × (after_call A u (Some x) ≡ Some v) × On t v) ⊎ (On t u × (x.returned ≡ None)))
      (goes_on : (x : ProblemCall Op Reply) (s t u : ObjState) → may_go x → On s u → after_call A s (Some x) ≡ Some t → On t u)
      (begins_on : (x : ProblemCall Op Reply) (s t : ObjState) → anew x → after_call A s (Some x) ≡ Some t → (v : ObjState) × (after_call A A.start (Some x) ≡ Some v) × On t v)
      (event : ℕ) (kept : List ℕ) (calls : List (ProblemCall Op Reply)) (enough : AreEnoughFrom A event kept calls may_stay may_go anew) where
    abbrev Closed : List ℕ → Type 0
    Closed past = (a b : ℕ) → In b past → Before A a b → In a past

    -- the first call has not come, and the part is as at its start; or it has
    abbrev R : List ℕ → ObjState → ObjState → Type 0
    R past s u = Closed past × (((In (name kept 0) past → ⊥) × (u ≡ parts.start)) ⊎ (In (name kept 0) past × On s u))

    abbrev CanCome : List ℕ → ℕ → Type 0
    CanCome past c = Comes A event kept calls enough.cut past c

    closed_more : (past : List ℕ) (c : ℕ) → CanCome past c → Closed past → Closed (c ∷ past)
    closed_more past c comes closed a b h before = elim h [
      | inl e ↦ inr (comes.1 a (subst (λ (n : ℕ). Before A a n) e before))
      | inr more ↦ inr (closed a b more before)
    ]

    abbrev Stays : List ℕ → ℕ → ProblemCall Op Reply → ObjState → ObjState → Type 0
    Stays past c x t u = ((v : ObjState) × (after_call A u (Some (call_by event x)) ≡ Some v) × R (c ∷ past) t v) ⊎ (R (c ∷ past) t u × ((call_by event x).returned ≡ None))

    begin : (past : List ℕ) (c : ℕ) (x : ProblemCall Op Reply) (s t u : ObjState) → name kept 0 ≡ c → slice_get calls 0 ≡ Some (call_by event x) → CanCome past c → R past s u → after_call A s (Some (call_by event x)) ≡ Some t → Stays past c x t u
    begin past c x s t u is here comes r n = elim r.1 [
      | inl k ↦ (
          let same : enough.begins.0 ≡ call_by event x = one_of enough.begins.0 (call_by event x) (sym enough.begins.1 ∙ here) in
          let v = begins_on (call_by event x) s t (subst anew same enough.begins.2) n in
          inl (v.0, subst (λ (z : ObjState). after_call A z (Some (call_by event x)) ≡ Some v.0) (sym k.1) v.1, (closed_more past c comes r.0, inr (inl is, v.2)))
          )
      | inr k ↦ absurd (comes.0 (subst (λ (m : ℕ). In m past) is k.0))
    ]

    go_on : (past : List ℕ) (c i : ℕ) (x : ProblemCall Op Reply) (s t u : ObjState) → Before A (name kept 0) c → slice_get calls i ≡ Some (call_by event x) → CanCome past c → R past s u → after_call A s (Some (call_by event x)) ≡ Some t → Stays past c x t u
    go_on past c i x s t u later here comes r n = elim r.1 [
      | inl k ↦ absurd (k.0 (comes.1 (name kept 0) later))
      | inr k ↦ elim (stays_on (call_by event x) s t u (enough.stay i (call_by event x) here) k.1 n) [
        | inl a ↦ inl (a.0, a.1, (closed_more past c comes r.0, inr (inr k.0, a.2)))
        | inr a ↦ inr ((closed_more past c comes r.0, inr (inr k.0, a.0)), a.1)
      ]
    ]

    stays : (past : List ℕ) (c i : ℕ) (x : ProblemCall Op Reply) (s t u : ObjState) → name kept i ≡ c → slice_get calls i ≡ Some (call_by event x) → CanCome past c → R past s u → after_call A s (Some (call_by event x)) ≡ Some t → Stays past c x t u
    stays past c i x s t u is here comes r n = by (three i 0)
      where
        within : i < length kept
        within = (let k = below calls i (call_by event x) here in let e = enough.cut.count in omega (arith, k, e))

        by : (i < 0) ⊎ ((i ≡ 0) ⊎ (0 < i)) → Stays past c x t u
        by (inl less) = absurd (omega (arith, less))
        by (inr (inl e)) = begin past c x s t u (subst (λ (m : ℕ). name kept m ≡ c) e is) (subst (λ (m : ℕ). slice_get calls m ≡ Some (call_by event x)) e here) comes r n
        by (inr (inr more)) = go_on past c i x s t u (subst (λ (m : ℕ). Before A (name kept 0) m) is (enough.later i more within)) here comes r n

    goes : (past : List ℕ) (c : ℕ) (x : ProblemCall Op Reply) (s t u : ObjState) → slice_get parts.calls c ≡ Some x → x.called ≤ event → (In c kept → ⊥) → CanCome past c → R past s u → after_call A s (Some x) ≡ Some t → R (c ∷ past) t u
    goes past c x s t u f up out comes r n = (closed_more past c comes r.0, elim r.1 [ inl k ↦ inl (not_yet k.0, k.1) | inr k ↦ inr (inr k.0, since k.0 k.1) ])
      where
        there : In (name kept 0) kept
        there = name_in kept 0 (let k = below calls 0 enough.begins.0 enough.begins.1 in let e = enough.cut.count in omega (arith, k, e))

        not_yet : (In (name kept 0) past → ⊥) → In (name kept 0) (c ∷ past) → ⊥
        not_yet fresh h = elim h [
          | inl e ↦ out (subst (λ (m : ℕ). In m kept) e there)
          | inr more ↦ fresh more
        ]

        since : In (name kept 0) past → On s u → On t u
        since came on = elim (enough.go c x f up) [
          | inl h ↦ absurd (out h)
          | inr (inl off) ↦ goes_on x s t u off on n
          | inr (inr before) ↦ absurd (comes.0 (r.0 c (name kept 0) came before))
        ]

    left_from : IsLeft A kept calls
    left_from = left_by A event kept calls enough.cut R ((λ a b h before. h), inl ((λ h. h), refl))
        (λ past c i x s t u f is up here there comes r n. stays past c i x s t u is here comes r n)
        goes

  -- the calls on some values
  pub since_left : SetLaw after state_eq.it → MapLaw after state_eq.it → (values : List ℤ) (event : ℕ) (kept : List ℕ) (calls : List (ProblemCall Op Reply)) → AreEnoughSince A event kept calls values → IsLeft A kept calls
  since_left sets maps values event kept calls enough = left_from (IsOnValues values) (IsOn values) (IsOff values) (BeginsAnew A values) (any_stays sets maps values) (any_goes sets maps values) (λ x s t anew n. anew s t n) event kept calls enough

  -- all that change anything
  idle_goes : (x : ProblemCall Op Reply) (s t u : ObjState) → IsIdle A x → s ≡ u → after_call A s (Some x) ≡ Some t → t ≡ u
  idle_goes x s t u idle e n =
      let f = fitting reply_eq.it x.returned (after s x.process x.op) t n in
      sym f.3 ∙ sym (state_same s f.0.0 (idle s x.process f.0 f.1 f.2)) ∙ e

  one_stays : (x : ProblemCall Op Reply) (s t u : ObjState) → Any x → s ≡ u → after_call A s (Some x) ≡ Some t → ((v : ObjState) × (after_call A u (Some x) ≡ Some v) × (t ≡ v)) ⊎ ((t ≡ u) × (x.returned ≡ None))
  one_stays x s t u any e n = inl (t, ap (λ (y : ObjState). after_call A y (Some x)) (sym e) ∙ n, refl)

  pub all_left : (event : ℕ) (kept : List ℕ) (calls : List (ProblemCall Op Reply)) → AreAllThatChange A event kept calls → IsLeft A kept calls
  all_left event kept calls (inl enough) = left A (λ s u. s ≡ u) Any (IsIdle A) refl one_stays idle_goes event kept calls enough
  all_left event kept calls (inr enough) = left_from (λ s u. s ≡ u) Any (IsIdle A) (LeavesOneState A) one_stays idle_goes (λ x s t leaves n. (t, leaves s t n, refl)) event kept calls enough

-- ---- calls that begin anew

-- each of the values is this one
abbrev pub IsOnly : ℤ → List ℤ → Type 0
IsOnly v values = (item : ℤ) → is_in item values ≡ true → item ≡ v

-- a write leaves what it wrote
written : (values : List ℤ) (v w z : ℤ) (process : ℕ) (returned : Option (ℕ × Reply)) (t : ObjState) → state_if_fits reply_eq.it returned (after (Register w) process (Write v)) ≡ Some t → (u : ObjState) × (state_if_fits reply_eq.it returned (after (Register z) process (Write v)) ≡ Some u) × IsOnValues values t u
written values v w z process returned t e = (Register v, e ∙ ap Some (sym at), subst (λ (s : ObjState). IsOnValues values s (Register v)) at (λ h. refl))
  where
    at : Register v ≡ t
    at = (fits_then (fits reply_eq.it Okay returned) (Register v) t e).1

module _ (sets : SetLaw after state_eq.it) (maps : MapLaw after state_eq.it) (values : List ℤ) (process : ℕ) (returned : Option (ℕ × Reply)) (t : ObjState) where
  abbrev Anew : ObjState → Op → Type 0
  Anew z op = (u : ObjState) × (state_if_fits reply_eq.it returned (after z process op) ≡ Some u) × IsOnValues values t u

  register_anew : (v z : ℤ) (s : ObjState) → state_if_fits reply_eq.it returned (after s process (Write v)) ≡ Some t → Anew (Register z) (Write v)
  register_anew v z (Register w) e = written values v w z process returned t e
  register_anew v z (Counter w) e = none_some t e
  register_anew v z (Queue []) e = none_some t e
  register_anew v z (Queue (w ∷ items)) e = none_some t e
  register_anew v z (Stack []) e = none_some t e
  register_anew v z (Stack (w ∷ items)) e = none_some t e
  register_anew v z (Set items) e = none_some t e
  register_anew v z (Mutex None) e = none_some t e
  register_anew v z (Mutex (Some h)) e = none_some t e
  register_anew v z (Map pairs) e = none_some t e

  -- an insert that answered 'yes' found no such item, as at the start
  inserted : (v : ℤ) (xs ys : List ℤ) (n : ℕ) → IsOnly v values → is_in v values ≡ true → is_in v ys ≡ false → returned ≡ Some (n, Flag true) → state_if_fits reply_eq.it returned (after (Set xs) process (Insert v)) ≡ Some t → Anew (Set ys) (Insert v)
  inserted v xs ys n only on out is e = elim (stay_of values process (Insert v) returned t (Set ys) (after (Set xs) process (Insert v)) (set_stays values process returned sets xs ys (Insert v) on same) e) [
    | inl a ↦ a
    | inr a ↦ absurd (some_none (n, Flag true) (sym is ∙ a.1))
  ]
    where
      f : (x : ObjState × Reply) × (after (Set xs) process (Insert v) ≡ Some x) × (fits reply_eq.it x.1 returned ≡ true) × (x.0 ≡ t)
      f = fitting reply_eq.it returned (after (Set xs) process (Insert v)) t e

      reply : f.0.1 ≡ Flag (not (is_in v xs))
      reply = one_of f.0.1 (Flag (not (is_in v xs))) (sym (ap step_reply f.1) ∙ sets.inserts xs v process)

      told : f.0.1 ≡ Flag true
      told = reply_same f.0.1 (Flag true) (subst (λ (r : Option (ℕ × Reply)). fits reply_eq.it f.0.1 r ≡ true) is f.2)

      absent : is_in v xs ≡ false
      absent = not_in (is_in v xs) (flag_of (not (is_in v xs)) (sym reply ∙ told))

      same : (item : ℤ) → is_in item values ≡ true → is_in item xs ≡ is_in item ys
      same item h = subst (λ (x : ℤ). is_in x xs ≡ is_in x ys) (sym (only item h)) (absent ∙ sym out)

  set_anew : (v : ℤ) (ys : List ℤ) (n : ℕ) → IsOnly v values → is_in v values ≡ true → is_in v ys ≡ false → returned ≡ Some (n, Flag true) → (s : ObjState) → state_if_fits reply_eq.it returned (after s process (Insert v)) ≡ Some t → Anew (Set ys) (Insert v)
  set_anew v ys n only on out is (Set xs) e = inserted v xs ys n only on out is e
  set_anew v ys n only on out is (Register w) e = none_some t e
  set_anew v ys n only on out is (Counter w) e = none_some t e
  set_anew v ys n only on out is (Queue []) e = none_some t e
  set_anew v ys n only on out is (Queue (w ∷ items)) e = none_some t e
  set_anew v ys n only on out is (Stack []) e = none_some t e
  set_anew v ys n only on out is (Stack (w ∷ items)) e = none_some t e
  set_anew v ys n only on out is (Mutex None) e = none_some t e
  set_anew v ys n only on out is (Mutex (Some h)) e = none_some t e
  set_anew v ys n only on out is (Map pairs) e = none_some t e

  -- a put leaves what it put
  put_same : (k v : ℤ) (ps qs : List Pair) → IsOnly k values → (key : ℤ) → is_in key values ≡ true → value_after_step key (value_at key ps) (Put k v) ≡ value_after_step key (value_at key qs) (Put k v)
  put_same k v ps qs only key h =
      let is : int_eq k key ≡ true = (signed_Decides k key).1 (sym (only key h)) in
      ap (λ (b : Bool). if b then Some v else value_at key ps) is ∙ sym (ap (λ (b : Bool). if b then Some v else value_at key qs) is)

  put_on : (k v : ℤ) (ps qs : List Pair) → IsOnly k values → state_if_fits reply_eq.it returned (after (Map ps) process (Put k v)) ≡ Some t → Anew (Map qs) (Put k v)
  put_on k v ps qs only e =
      let a = replying (after (Map ps) process (Put k v)) Okay (maps.puts ps k v process) in
      let b = replying (after (Map qs) process (Put k v)) Okay (maps.puts qs k v process) in
      let m = valued values process returned maps ps (Put k v) a.0 Okay a.1 in
      let n = valued values process returned maps qs (Put k v) b.0 Okay b.1 in
      let g = fits_then (fits reply_eq.it Okay returned) a.0 t (subst (λ (o : Option (ObjState × Reply)). state_if_fits reply_eq.it returned o ≡ Some t) a.1 e) in
      let on : IsOnValues values (Map m.0) (Map n.0) = λ key h. m.2 key ∙ put_same k v ps qs only key h ∙ sym (n.2 key) in
      let on_t : IsOnValues values t (Map n.0) = subst (λ (s : ObjState). IsOnValues values s (Map n.0)) (sym m.1 ∙ g.1) on in
      (b.0, ap (λ (o : Option (ObjState × Reply)). state_if_fits reply_eq.it returned o) b.1 ∙ ap (λ (d : Bool). cond d (Some b.0) None) g.0, subst (λ (s : ObjState). IsOnValues values t s) (sym n.1) on_t)

  map_anew : (k v : ℤ) (qs : List Pair) → IsOnly k values → (s : ObjState) → state_if_fits reply_eq.it returned (after s process (Put k v)) ≡ Some t → Anew (Map qs) (Put k v)
  map_anew k v qs only (Map ps) e = put_on k v ps qs only e
  map_anew k v qs only (Register w) e = none_some t e
  map_anew k v qs only (Counter w) e = none_some t e
  map_anew k v qs only (Queue []) e = none_some t e
  map_anew k v qs only (Queue (w ∷ items)) e = none_some t e
  map_anew k v qs only (Stack []) e = none_some t e
  map_anew k v qs only (Stack (w ∷ items)) e = none_some t e
  map_anew k v qs only (Set items) e = none_some t e
  map_anew k v qs only (Mutex None) e = none_some t e
  map_anew k v qs only (Mutex (Some h)) e = none_some t e

-- the only value of a list
pub only_one : (v : ℤ) (values : List ℤ) → values ≡ v ∷ [] → IsOnly v values
only_one v values is item h = by (int_eq v item) refl
  where
    by : (b : Bool) → int_eq v item ≡ b → item ≡ v
    by true e = sym ((signed_Decides v item).0 e)
    by false e = clash (subst (λ (xs : List ℤ). is_in item xs ≡ true) is h) (ap (λ (b : Bool). b || false) e)

pub in_one : (v : ℤ) (values : List ℤ) → values ≡ v ∷ [] → is_in v values ≡ true
in_one v values is = subst (λ (xs : List ℤ). is_in v xs ≡ true) (sym is) (ap (λ (b : Bool). b || false) ((signed_Decides v v).1 refl))

pub one_in : (values : List ℤ) (v : ℤ) → length values ≡ 1 → is_in v values ≡ true → values ≡ v ∷ []
one_in [] v e h = absurd (omega (arith, e))
one_in (x ∷ []) v e h = by (int_eq x v) refl
  where
    by : (b : Bool) → int_eq x v ≡ b → x ∷ [] ≡ v ∷ []
    by true f = ap (λ (y : ℤ). y ∷ []) ((signed_Decides x v).0 f)
    by false f = clash h (ap (λ (b : Bool). b || false) f)
one_in (x ∷ y ∷ rest) v e h = absurd (omega (arith, e))

-- ---- as the checks find it

module _ {Object : Type 0} (sets : SetLaw after state_eq.it) (maps : MapLaw after state_eq.it) (parts : ProblemParts Object ObjState Op Reply) (values : List ℤ) (x : ProblemCall Op Reply) where
  abbrev Begins : Type 0
  Begins = BeginsAnew (any_problem parts) values x

  start_as : (z : ObjState) (op : Op) → parts.start ≡ z → x.op ≡ op → ((s t : ObjState) → state_if_fits reply_eq.it x.returned (after s x.process op) ≡ Some t → Anew sets maps values x.process x.returned t z op) → Begins
  start_as z op is same k s t e =
      let v = k s t (subst (λ (o : Op). state_if_fits reply_eq.it x.returned (after s x.process o) ≡ Some t) same e) in
      (v.0, subst (λ (u : ObjState). state_if_fits reply_eq.it x.returned (after u x.process x.op) ≡ Some v.0) (sym is) (subst (λ (o : Op). state_if_fits reply_eq.it x.returned (after z x.process o) ≡ Some v.0) (sym same) v.1), v.2)

  pub write_begins : (v z : ℤ) → parts.start ≡ Register z → x.op ≡ Write v → Begins
  write_begins v z is same = start_as (Register z) (Write v) is same (λ s t e. register_anew sets maps values x.process x.returned t v z s e)

  pub put_begins : (k v : ℤ) (qs : List Pair) → parts.start ≡ Map qs → x.op ≡ Put k v → values ≡ k ∷ [] → Begins
  put_begins k v qs is same only = start_as (Map qs) (Put k v) is same (λ s t e. map_anew sets maps values x.process x.returned t k v qs (only_one k values only) s e)

  pub insert_begins : (v : ℤ) (ys : List ℤ) (n : ℕ) → parts.start ≡ Set ys → x.op ≡ Insert v → x.returned ≡ Some (n, Flag true) → values ≡ v ∷ [] → is_in v ys ≡ false → Begins
  insert_begins v ys n is same answer only out = start_as (Set ys) (Insert v) is same (λ s t e. set_anew sets maps values x.process x.returned t v ys n (only_one v values only) (in_one v values only) out answer s e)

-- a write leaves what it wrote, wherever it is done
module _ {Object : Type 0} (parts : ProblemParts Object ObjState Op Reply) (x : ProblemCall Op Reply) (v z : ℤ) where
  one_written : (s t : ObjState) → state_if_fits reply_eq.it x.returned (after s x.process (Write v)) ≡ Some t → state_if_fits reply_eq.it x.returned (after (Register z) x.process (Write v)) ≡ Some t
  one_written (Register w) t e = e
  one_written (Counter w) t e = none_some t e
  one_written (Queue []) t e = none_some t e
  one_written (Queue (w ∷ items)) t e = none_some t e
  one_written (Stack []) t e = none_some t e
  one_written (Stack (w ∷ items)) t e = none_some t e
  one_written (Set items) t e = none_some t e
  one_written (Mutex None) t e = none_some t e
  one_written (Mutex (Some h)) t e = none_some t e
  one_written (Map pairs) t e = none_some t e

  pub write_leaves : parts.start ≡ Register z → x.op ≡ Write v → LeavesOneState (any_problem parts) x
  write_leaves is same s t e =
      let k = one_written s t (subst (λ (o : Op). state_if_fits reply_eq.it x.returned (after s x.process o) ≡ Some t) same e) in
      subst (λ (u : ObjState). state_if_fits reply_eq.it x.returned (after u x.process x.op) ≡ Some t) (sym is) (subst (λ (o : Op). state_if_fits reply_eq.it x.returned (after (Register z) x.process o) ≡ Some t) (sym same) k)
