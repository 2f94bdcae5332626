-- Once a register has left a value that has a rank, it does not come back to it.
use Rattle.std.proofs.Common.{◌≡◌, ◌≢◌, ℕ, ◌<◌, Bool, true, false, not, true≢false, Option, Some, None, IsSome, List, [], ◌∷◌, ◌++◌, ◌⊎◌, inl, inr, refl, sym, ◌∙◌, ap, subst, append_assoc, arith, ◌+◌, ◌≤◌, length}
use Rattle.std.specs.Prelude.{ℤ, nat_lt, slice_get, IfSome, IsSomeAnd, IsTrue, if◌then◌else◌}
use Rattle.std.specs.Ordering.{int_eq}
use Rattle.std.specs.Cmp.{signed_Decides}
use Rattle.std.proofs.lemmas.Bool.{cases_lt, ltb-true, lt-ltb}
use Rattle.std.proofs.lemmas.Option.{slice_get_within}
use Rattle.lin_object.specs.declared.op.Op.{Op}
use Rattle.lin_object.specs.declared.op.Op.TheVariants.{Write, Read, Cas}
use Rattle.lin_object.specs.declared.reply.Reply.{Reply}
use Rattle.lin_object.specs.declared.reply.Reply.TheVariants.{Flag}
use Rattle.lin_object.specs.declared.state.ObjState.{ObjState}
use Rattle.lin_object.specs.declared.state.ObjState.TheVariants.{Register}
use Rattle.lin_object.specs.Kinds.Register.{register_step}
use Rattle.lin_history.specs.declared.problems.problem.ProblemCall.{ProblemCall}
use Rattle.lin_history.specs.Problems.Problem.{Problem}
use Rattle.lin_history.specs.Problems.Lists.{In}
use Rattle.lin_history.specs.Problems.ListLemmas.{in_late, in_place}
use Rattle.lin_history.specs.Problems.LegalLists.{state_if_fits, next, Legal}
use Rattle.lin_history.specs.Problems.Precedence.{Before, IsCompleted}
use Rattle.lin_history.specs.Problems.Linearizations.{IsLinearization}
use Rattle.lin_history.specs.OptionLemmas.{some_and, some_is}
use Rattle.lin_ahead.specs.Values.Register.{IsOfRegister, value_written, value_found, Finds}
use Rattle.lin_ahead.specs.Values.TakenTwice.{takes}
use Rattle.lin_ahead.specs.Values.Ranks.{rank_by, TookAway, IsUnder, IsFromUnder, KeepsRanks, ShowsOver, AreRanked, AreTwo, IsLate, AreRanksBroken}
use Rattle.lin_laws.specs.AnswerLemmas.{Is, state_of, fits_some}
use Rattle.lin_ahead.proofs.first.NeedsLemmas.{stands}
use Rattle.lin_ahead.proofs.values.ClusterLemmas.{Front, front_either, before_front}
use Rattle.lin_ahead.proofs.values.RegisterLemmas.{has_call, tells, left, legal_split, from_start, finds_held, finds_completed, same_value}

-- a cas leaves what it finds, or it finds what it looks for
cas_leaves : (hit : Bool) (w a b : ℤ) (m : ObjState) (r : Reply) → int_eq w a ≡ hit → Is (Some (if hit then (Register b, Flag true) else (Register w, Flag false))) m r → (m ≡ Register w) ⊎ (w ≡ a)
cas_leaves true w a b m r e step = inr ((signed_Decides w a).0 e)
cas_leaves false w a b m r e step = inl (sym (state_of step))

some_one : {A : Type 0} (x y : A) → Some x ≡ Some y → x ≡ y
some_one x y e = cc

none_some : {A : Type 0} (x : A) → ◌≡◌ {A = Option A} None (Some x) → ⊥
none_some x e = cc

-- the rank of a value by its index, as the value is passed on and as it was
pub by_index : (ranks : List ℕ) (index : ℤ → Option ℕ) (a b : ℤ) (o : Option ℕ) → a ≡ b → o ≡ index a → rank_by ranks o ≡ rank_by ranks (index b)
by_index ranks index a b o same e = ap (rank_by ranks) (e ∙ ap index same)

module _ (rank : ℤ → Option ℕ) where
  under_itself : (v : ℤ) → IsUnder rank v v
  under_itself v n e = inl refl

  under_by : (u v : ℤ) → u ≡ v → IsUnder rank u v
  under_by u v same n e = inl same

  under_more : (u v w : ℤ) → IsUnder rank u v → IsUnder rank v w → IsUnder rank u w
  under_more u v w one two n e = elim (two n e) [
    | inl same ↦ subst (λ (x : ℤ). (u ≡ x) ⊎ ((m : ℕ) × (rank u ≡ Some m) × (m < n))) same (one n (ap rank same ∙ e))
    | inr (m, f, less) ↦ elim (one m f) [
      | inl same ↦ inr (m, ap rank same ∙ f, less)
      | inr (k, g, lower) ↦ inr (k, g, omega (arith, less, lower))
    ]
  ]

  -- what two values that are under one another tell: they are one, if one of them has a rank
  under_both : (u v : ℤ) (n : ℕ) → rank v ≡ Some n → IsUnder rank u v → IsUnder rank v u → u ≡ v
  under_both u v n e one two = elim (one n e) [
    | inl same ↦ same
    | inr (m, f, less) ↦ elim (two m f) [
      | inl same ↦ sym same
      | inr (k, g, lower) ↦ absurd (let is : k ≡ n = some_one k n (sym g ∙ e) in omega (arith, is, less, lower))
    ]
  ]

  -- ---- what is known so far

  -- the first calls, so many, keep to the ranks
  abbrev pub AreRankedTo : List (ProblemCall Op Reply) → ℕ → Type 0
  AreRankedTo calls count = (c : ℕ) (x : ProblemCall Op Reply) → c < count → slice_get calls c ≡ Some x → KeepsRanks rank x

  kept_at : (o : Option (ProblemCall Op Reply)) (x : ProblemCall Op Reply) → o ≡ Some x → IfSome o (KeepsRanks rank) → KeepsRanks rank x
  kept_at None x e kept = absurd (cc)
  kept_at (Some y) x e kept = subst (λ (z : ProblemCall Op Reply). KeepsRanks rank z) (some_one y x e) kept

  pub ranked_more : (calls : List (ProblemCall Op Reply)) (count : ℕ) → IfSome (slice_get calls count) (KeepsRanks rank) → AreRankedTo calls count → AreRankedTo calls (count + 1)
  ranked_more calls count kept so_far c x less there = elim (cases_lt c count) [
    | inl low ↦ so_far c x low there
    | inr high ↦ kept_at (slice_get calls count) x (let same : count ≡ c = omega (arith, less, high) in subst (λ (n : ℕ). slice_get calls n ≡ Some x) (sym same) there) kept
  ]

  pub ranked_all : (calls : List (ProblemCall Op Reply)) (count : ℕ) → length calls ≤ count → AreRankedTo calls count → AreRanked rank calls
  ranked_all calls count all so_far c x there = so_far c x (let within = slice_get_within calls c x there in omega (arith, all, within)) there

  -- ---- what a program tells of ranks, by values as they were passed on

  pub under_unranked : (u v w : ℤ) → w ≡ v → None ≡ rank w → IsUnder rank u v
  under_unranked u v w same none n e = absurd (none_some n (none ∙ ap rank same ∙ e))

  pub under_lower : (u v x w : ℤ) → x ≡ u → w ≡ v → (m n : ℕ) → Some m ≡ rank x → Some n ≡ rank w → nat_lt m n ≡ true → IsUnder rank u v
  under_lower u v x w same too m n low high less k e =
      let is : n ≡ k = some_one n k (high ∙ ap rank too ∙ e) in
      let lower : m < n = ltb-true m n less in
      inr (m, sym (low ∙ ap rank same), omega (arith, is, lower))

  pub lower_told : (u v x w : ℤ) → x ≡ u → w ≡ v → (m n : ℕ) → Some m ≡ rank x → Some n ≡ rank w → (u ≡ v → ⊥) → IsUnder rank u v → nat_lt m n ≡ true
  lower_told u v x w same too m n low high other under = elim (under n (sym (high ∙ ap rank too))) [
    | inl e ↦ absurd (other e)
    | inr (k, f, less) ↦ (
        let is : k ≡ m = some_one k m (sym f ∙ sym (low ∙ ap rank same)) in
        let lower : m < n = omega (arith, is, less) in
        lt-ltb m n lower)
  ]

  pub unranked_not_under : (u v x w : ℤ) → x ≡ u → w ≡ v → (n : ℕ) → None ≡ rank x → Some n ≡ rank w → (u ≡ v → ⊥) → IsUnder rank u v → ⊥
  unranked_not_under u v x w same too n none high other under = elim (under n (sym (high ∙ ap rank too))) [
    | inl e ↦ other e
    | inr (k, f, less) ↦ none_some k (none ∙ ap rank same ∙ f)
  ]

  pub under_as : (u v x w : ℤ) → u ≡ x → v ≡ w → IsUnder rank u v → IsUnder rank x w
  under_as u v x w same too under = subst (λ (z : ℤ). IsUnder rank x z) too (subst (λ (z : ℤ). IsUnder rank z v) same under)

  pub unranked_from : (op : Op) → ((a b : ℤ) → op ≡ Cas a b → ⊥) → (v : ℤ) → rank v ≡ None → IsFromUnder rank op v
  unranked_from (Cas a b) other v none = absurd (other a b refl)
  unranked_from op other v none = none

  -- ---- a run of a register

  module _ {p : Problem ObjState Op Reply} {start : ℤ} (of : IsOfRegister p start) (ranked : AreRanked rank p.calls) where
    by_op : (op : Op) (w : ℤ) (m : ObjState) (r : Reply) (u : ℤ) → Is (register_step w op) m r → m ≡ Register u → IsFromUnder rank op u → IsUnder rank w u
    by_op (Cas a b) w m r u step ends from = elim (cas_leaves (int_eq w a) w a b m r refl step) [
      | inl same ↦ under_by w u (same_value (sym same ∙ ends))
      | inr found ↦ subst (λ (x : ℤ). IsUnder rank x u) (sym found) from
    ]
    by_op op w m r u step ends none = λ n e. absurd (none_some n (sym none ∙ e))

    step_under : (w u : ℤ) (c : ℕ) → next p (Register w) c ≡ Some (Register u) → IsUnder rank w u
    step_under w u c step =
        let x = has_call of (Register w) (Register u) c step in
        let tell = tells of w (Register u) c x.0 x.1 step in
        elim tell.change [
          | inl same ↦ under_by w u (sym same ∙ same_value (sym tell.ends))
          | inr wrote ↦ (
              let here : state_if_fits p.same_reply x.0.returned (p.after (Register w) x.0.process x.0.op) ≡ Some (Register u) = rw x.1 at step in
              let k = fits_some p.same_reply (p.after (Register w) x.0.process x.0.op) x.0.returned (Register u) here in
              by_op x.0.op w (Register u) k.0 u (sym (of.after_is (Register w) x.0.process x.0.op) ∙ k.1) refl
              (ranked c x.0 x.1 u (wrote ∙ ap Some (same_value (sym tell.ends)))))
        ]

    run_under : (l : List ℕ) (w u : ℤ) → Legal p (Register w) l (Register u) → IsUnder rank w u
    run_under [] w u same = under_by w u (same_value same)
    run_under (c ∷ cs) w u (m, step, more) =
        let x = has_call of (Register w) m c step in
        let tell = tells of w m c x.0 x.1 step in
        under_more w tell.value u
        (step_under w tell.value c (subst (λ (s : ObjState). next p (Register w) c ≡ Some s) tell.ends step))
        (run_under cs tell.value u (subst (λ (s : ObjState). Legal p s cs (Register u)) tell.ends more))

    -- What a run shows at a call, and at a later one that found v.
    record Later (c : ℕ) (x : ProblemCall Op Reply) (v : ℤ) : Type 0 where
      from : ℤ
      to : ℤ
      found : (w : ℤ) → value_found x.op x.returned ≡ Some w → from ≡ w
      wrote : (w : ℤ) → IsSome x.returned → value_written x.op x.returned ≡ Some w → to ≡ w
      under_from : IsUnder rank from v
      under_to : IsUnder rank to v

    later : (l : List ℕ) (c g : ℕ) (v : ℤ) (x : ProblemCall Op Reply) → IsLinearization p l → Front l c g → slice_get p.calls c ≡ Some x → Finds p g v → Later c x v
    later l c g v x whole (early, late, eq, among) there finds =
        let at = in_place c early among in
        let place : l ≡ at.0 ++ c ∷ (at.1 ++ g ∷ late) = eq ∙ ap (λ (m : List ℕ). m ++ g ∷ late) at.2 ∙ append_assoc at.0 (c ∷ at.1) (g ∷ late) in
        let legal = whole.continuation.legal in
        let two = legal_split of at.0 (c ∷ (at.1 ++ g ∷ late)) p.start legal.0 (subst (λ (m : List ℕ). Legal p p.start m legal.0) place legal.1) in
        let w = left of at.0 start two.0 (from_start of at.0 two.0 two.1) in
        let goes : Legal p (Register w.0) (c ∷ (at.1 ++ g ∷ late)) legal.0 = subst (λ (s : ObjState). Legal p s (c ∷ (at.1 ++ g ∷ late)) legal.0) w.1 two.2 in
        let tell = tells of w.0 goes.0 c x there goes.1 in
        let rest : Legal p (Register tell.value) (at.1 ++ g ∷ late) legal.0 = subst (λ (s : ObjState). Legal p s (at.1 ++ g ∷ late) legal.0) tell.ends goes.2 in
        let three = legal_split of at.1 (g ∷ late) (Register tell.value) legal.0 rest in
        let u = left of at.1 tell.value three.0 three.1 in
        let last : Legal p (Register u.0) (g ∷ late) legal.0 = subst (λ (s : ObjState). Legal p s (g ∷ late) legal.0) u.1 three.2 in
        let same : u.0 ≡ v = finds_held of u.0 v last.0 g finds last.1 in
        let under : IsUnder rank tell.value v = run_under at.1 tell.value v (subst (λ (s : ObjState). Legal p (Register tell.value) at.1 s) (u.1 ∙ ap Register same) three.1) in
        record {
          from = w.0;
          to = tell.value;
          found = tell.found;
          wrote = tell.wrote;
          under_from = under_more w.0 tell.value v (step_under w.0 tell.value c (subst (λ (s : ObjState). next p (Register w.0) c ≡ Some s) tell.ends goes.1)) under;
          under_to = under;
        }

    -- ---- calls that are too late

    shown_under : (c : ℕ) (x : ProblemCall Op Reply) (v w : ℤ) → Later c x v → IsSome x.returned → (value_found x.op x.returned ≡ Some w) ⊎ (value_written x.op x.returned ≡ Some w) → IsUnder rank w v
    shown_under c x v w k done (inl found) = subst (λ (u : ℤ). IsUnder rank u v) (k.found w found) k.under_from
    shown_under c x v w k done (inr wrote) = subst (λ (u : ℤ). IsUnder rank u v) (k.wrote w done wrote) k.under_to

    late_in_vain : IsLate rank p.calls → (l : List ℕ) → IsLinearization p l → ⊥
    late_in_vain (v, (c, g, before, shows, found)) l whole =
        let finds : Finds p g v = some_and (slice_get p.calls g) (λ (x : ProblemCall Op Reply). value_found x.op x.returned ≡ Some v) found in
        let x = some_and (slice_get p.calls c) (ShowsOver rank v) shows in
        let y = some_and (slice_get p.calls c) (λ (z : ProblemCall Op Reply). IsSomeAnd z.returned (λ r. IsSomeAnd (slice_get p.calls g) (λ (w : ProblemCall Op Reply). r.0 < w.called))) before in
        let r = some_and y.0.returned (λ (q : ℕ × Reply). IsSomeAnd (slice_get p.calls g) (λ (w : ProblemCall Op Reply). q.0 < w.called)) y.2 in
        let same : y.0 ≡ x.0 = some_one y.0 x.0 (sym y.1 ∙ x.1) in
        let done : IsSome x.0.returned = subst (λ (z : ProblemCall Op Reply). IsSome z.returned) same (some_is y.0.returned r.0 r.1) in
        let at = stands l g whole (finds_completed of g v finds) in
        let front : Front l c g = (at.0, at.1, at.2, before_front p l whole.continuation c g before at.0 at.1 at.2) in
        x.2.2 (shown_under c x.0 v x.2.0 (later l c g v x.0 whole front x.1 finds) done x.2.1)

    -- ---- two calls that took one value away

    differs : (u v : ℤ) → not (int_eq u v) ≡ true → u ≡ v → ⊥
    differs u v e same = true≢false (sym e ∙ ap not ((signed_Decides u v).1 same))

    -- what takes a value away writes another one, and finds that one
    record Takes (x : ProblemCall Op Reply) (v : ℤ) : Type 0 where
      done : IsSome x.returned
      to : ℤ
      other : to ≡ v → ⊥
      wrote : value_written x.op x.returned ≡ Some to
      under : (IsFromUnder rank x.op to) → IsUnder rank v to

    took : (op : Op) (back : Option (ℕ × Reply)) (x : ProblemCall Op Reply) (v : ℤ) → x.op ≡ op → x.returned ≡ back → takes op back ≡ true → value_found op back ≡ Some v → Takes x v
    took (Cas a b) (Some (n, Flag true)) x v e f is found =
        let same : a ≡ v = some_one a v found in
        record {
          done = rw f refl;
          to = b;
          other = λ back. differs a b is (same ∙ sym back);
          wrote = rw (e, f) refl;
          under = λ from. subst (λ (u : ℤ). IsUnder rank u b) same (subst (λ (o : Op). IsFromUnder rank o b) e from);
        }
    took op back x v e f is found = absurd (true≢false (sym is))

    taken_once : (l : List ℕ) (g h : ℕ) (v : ℤ) → IsSome (rank v) → IsLinearization p l → TookAway p.calls v g → TookAway p.calls v h → Front l g h → ⊥
    taken_once l g h v has whole one two front =
        let x = some_and (slice_get p.calls g) (λ (y : ProblemCall Op Reply). IsTrue (takes y.op y.returned) × (value_found y.op y.returned ≡ Some v)) one in
        let y = some_and (slice_get p.calls h) (λ (z : ProblemCall Op Reply). IsTrue (takes z.op z.returned) × (value_found z.op z.returned ≡ Some v)) two in
        let k = later l g h v x.0 whole front x.1 (y.0, y.1, y.2.1) in
        let t = took x.0.op x.0.returned x.0 v refl refl x.2.0 x.2.1 in
        let up : IsUnder rank v t.to = t.under (ranked g x.0 x.1 t.to t.wrote) in
        let down : IsUnder rank t.to v = subst (λ (u : ℤ). IsUnder rank u v) (k.wrote t.to t.done t.wrote) k.under_to in
        go (rank v) refl has t.to t.other up down
      where
        go : (o : Option ℕ) → rank v ≡ o → IsSome o → (u : ℤ) → (u ≡ v → ⊥) → IsUnder rank v u → IsUnder rank u v → ⊥
        go None e some u other up down = absurd (cc)
        go (Some n) e some u other up down = other (under_both u v n e down up)

    two_in_vain : AreTwo rank p.calls → (l : List ℕ) → IsLinearization p l → ⊥
    two_in_vain (v, has, (g, h, other, one, two)) l whole =
        elim (front_either whole.continuation.distinct g h other (in_whole g one) (in_whole h two)) [
          | inl front ↦ taken_once l g h v has whole one two front
          | inr front ↦ taken_once l h g v has whole two one front
        ]
      where
        in_whole : (c : ℕ) → TookAway p.calls v c → In c l
        in_whole c away =
            let x = some_and (slice_get p.calls c) (λ (y : ProblemCall Op Reply). IsTrue (takes y.op y.returned) × (value_found y.op y.returned ≡ Some v)) away in
            let at = stands l c whole (finds_completed of c v (x.0, x.1, x.2.1)) in
            subst (λ (m : List ℕ). In c m) (sym at.2) (in_late c at.0 (c ∷ at.1) (inl refl))

-- calls that break ranks leave no linearization
pub broken_in_vain : {p : Problem ObjState Op Reply} {start : ℤ} → IsOfRegister p start → AreRanksBroken p.calls → (l : List ℕ) → IsLinearization p l → ⊥
broken_in_vain of (rank, ranked, inl two) l whole = two_in_vain rank of ranked two l whole
broken_in_vain of (rank, ranked, inr late) l whole = late_in_vain rank of ranked late l whole
