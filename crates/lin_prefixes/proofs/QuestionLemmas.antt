-- The first calls, of which those that are not required are made pending, and some that change nothing are left out: where they have
-- no linearization there is no run of the last with those kept.
use Rattle.std.proofs.Common.{◌≡◌, ℕ, ◌+◌, ◌<◌, ◌≤◌, Bool, true, false, cond, Option, Some, None, List, [], ◌∷◌, ◌++◌, length, length-append, zero, suc, ◌⊎◌, inl, inr, refl, sym, ◌∙◌, ap, subst, arith}
use Rattle.std.specs.Prelude.{ℤ}
use Rattle.std.specs.List.{slice_get}
use Rattle.std.proofs.lemmas.Option.{slice_get_cases, slice_get_within}
use Rattle.lin_object.specs.declared.op.Op.{Op}
use Rattle.lin_object.specs.declared.reply.Reply.{Reply}
use Rattle.lin_object.specs.declared.state.ObjState.{ObjState}
use Rattle.lin_object.specs.contracts.reply.ReplyPartialEq.TheImpl.{eq-value as reply_eq}
use Rattle.lin_object.specs.contracts.state.ObjStatePartialEq.TheImpl.{eq-value as state_eq}
use Rattle.lin_object.specs.Kinds.{after}
use Rattle.lin_object.specs.StepAnswers.{ChangesNothing}
use Rattle.lin_object.specs.StepLemmas.{state_same}
use Rattle.lin_history.specs.declared.problems.problem.ProblemCall.{ProblemCall}
use Rattle.lin_history.specs.OptionLemmas.{none_has_none}
use Rattle.lin_history.specs.Locality.OrderLemmas.{KeepsTime, keeps_time}
use Rattle.lin_history.specs.Problems.AnyProblem.{any_problem}
use Rattle.lin_history.specs.Problems.Lists.{In, IsDistinct}
use Rattle.lin_history.specs.Problems.Problem.{Problem}
use Rattle.lin_history.specs.Problems.ProblemParts.{ProblemParts, AreTimed}
use Rattle.lin_history.specs.Problems.LegalLists.{next, after_call, state_if_fits, fits, Legal}
use Rattle.lin_history.specs.Problems.Precedence.{Before, IsCompleted}
use Rattle.lin_history.specs.Problems.Linearizations.{IsLinearization, IsRun}
use Rattle.lin_history.specs.ReplyLemmas.{reply_same}
use Rattle.lin_laws.specs.Exact.{IsExact}
use Rattle.lin_parts.specs.ListLemmas.{in_more, last_or, rising_more}
use Rattle.lin_parts.specs.Parts.{ArePart, part_of}
use Rattle.lin_parts.specs.PartLemmas.{before_there, completed_there, part_of_list}
use Rattle.lin_history.specs.Problems.ListLemmas.{in_early, in_either, in_late}
use Rattle.lin_prefixes.specs.Prefixes.{IsRunOf, HasNoRunWith}
use Rattle.lin_prefixes.specs.Freed.{AreTakers}
use Rattle.lin_prefixes.specs.Questions.{AreAsked, IsIdle, IsLoosened, IsLoosePrefix, IsRequired}
use Rattle.lin_prefixes.proofs.FreedLemmas.{IsThinned, thin_all}
use Rattle.lin_prefixes.proofs.ItemStepLemmas.{HoldsItems, answered, queue_holds, stack_holds}
use Rattle.lin_prefixes.proofs.LackLemmas.{in_or_not}

if_some : {A : Type 0} (b : Bool) (a t : A) → cond b (Some a) None ≡ Some t → Some a ≡ Some t
if_some true a t e = e
if_some false a t e = absurd (cc)

any_reply : {State Reply : Type 0} (same : Reply → Reply → Bool) (o : Option (ℕ × Reply)) (a : Option (State × Reply)) (t : State) → state_if_fits same o a ≡ Some t → state_if_fits same None a ≡ Some t
any_reply same o None t e = absurd (cc)
any_reply same o (Some a) t e = if_some (fits same a.1 o) a.0 t e

-- ---- what the loops make

module _ (p : Problem ObjState Op Reply) (k : ℕ) (kept takers : List ℕ) where
  -- the calls so far
  abbrev pub AreLoosened : ℕ → List (ProblemCall Op Reply) → Type 0
  AreLoosened n calls = (length calls ≡ n) × ((c : ℕ) → c < n → (y : ProblemCall Op Reply) × (slice_get calls c ≡ Some y) × IsLoosened p k kept takers c y)

  pub loosened_more : (n : ℕ) (old new : List (ProblemCall Op Reply)) (y : ProblemCall Op Reply) → new ≡ old ++ y ∷ [] → IsLoosened p k kept takers n y → AreLoosened n old → AreLoosened (n + 1) new
  loosened_more n old new y is one so_far = rw is (
    count old so_far.0,
    λ c less. elim (last_or c n less) [
      | inl early ↦ (let z = so_far.1 c early in (z.0, get_front old y c (let e = so_far.0 in omega (arith, early, e)) ∙ z.1, z.2))
      | inr same ↦ (y, ap (slice_get (old ++ y ∷ [])) (same ∙ sym so_far.0) ∙ get_last old y, subst (λ (m : ℕ). IsLoosened p k kept takers m y) (sym same) one)
    ],
  )
    where
      count : (xs : List (ProblemCall Op Reply)) → length xs ≡ n → length (xs ++ y ∷ []) ≡ n + 1
      count xs e = length-append xs (y ∷ []) ∙ ap (λ (m : ℕ). m + 1) e

      get_front : (xs : List (ProblemCall Op Reply)) (z : ProblemCall Op Reply) (i : ℕ) → i < length xs → slice_get (xs ++ z ∷ []) i ≡ slice_get xs i
      get_front [] z i h = absurd (omega (arith, h))
      get_front (x ∷ xs) z zero h = refl
      get_front (x ∷ xs) z (suc i) h = get_front xs z i (omega (arith, h))

      get_last : (xs : List (ProblemCall Op Reply)) (z : ProblemCall Op Reply) → slice_get (xs ++ z ∷ []) (length xs) ≡ Some z
      get_last [] z = refl
      get_last (x ∷ xs) z = get_last xs z

-- the calls that are asked for so far
module _ (p : Problem ObjState Op Reply) (n : ℕ) (takers : List ℕ) where
  pub asked_not : (l : List ℕ) → In n takers ⊎ IsIdle p n → AreAsked p n takers l → AreAsked p (n + 1) takers l
  asked_not l out a = record {
    rises = a.rises;
    below = λ c h. (let less = a.below c h in omega (arith, less));
    there = λ c h. elim (last_or c n h) [ inl less ↦ a.there c less | inr same ↦ inr (subst (λ (m : ℕ). In m takers ⊎ IsIdle p m) (sym same) out) ];
    apart = a.apart;
  }

  pub asked_more : (l new : List ℕ) → new ≡ l ++ n ∷ [] → (In n takers → ⊥) → AreAsked p n takers l → AreAsked p (n + 1) takers new
  asked_more l new e other a = rw e (record {
    rises = rising_more l n a.rises a.below;
    below = λ c h. in_more l c n n a.below refl h;
    there = λ c h. elim (last_or c n h) [
      | inl less ↦ elim (a.there c less) [ inl before ↦ inl (in_early c l (n ∷ []) before) | inr out ↦ inr out ]
      | inr same ↦ inl (in_late c l (n ∷ []) (inl same))
    ];
    apart = λ c h taker. elim (in_either c l (n ∷ []) h) [
      | inl before ↦ a.apart c before taker
      | inr (inl same) ↦ other (subst (λ (m : ℕ). In m takers) same taker)
      | inr (inr none) ↦ none
    ];
  })

-- ---- a call that changes nothing

module _ {Object : Type 0} (whole : ProblemParts Object ObjState Op Reply) where
  abbrev A : Problem ObjState Op Reply
  A = any_problem whole

  pub exact : IsExact A
  exact = record { after_is = λ s process op. refl; exact = reply_same }

  pub idle_call : (c : ℕ) (x : ProblemCall Op Reply) → slice_get whole.calls c ≡ Some x → ChangesNothing state_eq.it reply_eq.it after x.op x.returned → IsIdle A c
  idle_call c x there idle s t step =
      let k = answered exact s t c x there step in
      sym (state_same s t (idle s x.process (t, k.0) k.1 k.2))

-- ---- the prefix and its runs

module _ (p : Problem ObjState Op Reply) (k : ℕ) (kept takers : List ℕ) (calls : List (ProblemCall Op Reply)) (loose : IsLoosePrefix p k kept takers calls) where
  abbrev Q : Problem ObjState Op Reply
  Q = part_of p calls

  there : (c : ℕ) → c < length p.calls → (x : ProblemCall Op Reply) × (slice_get p.calls c ≡ Some x)
  there c h = elim (slice_get_cases p.calls c).1 [ inl q ↦ (q.0, q.2) | inr q ↦ absurd (let e = q.0 in omega (arith, e, h)) ]

  within : (c : ℕ) → c < length calls → c < k + 1
  within c h = let e = loose.count in omega (arith, h, e)

  some_of : (s t : ObjState) (c : ℕ) → c ≤ k → next p s c ≡ Some t → next Q s c ≡ Some t
  some_of s t c h e = from (slice_get p.calls c) refl e
    where
      from : (o : Option (ProblemCall Op Reply)) → slice_get p.calls c ≡ o → after_call p s o ≡ Some t → next Q s c ≡ Some t
      from None f n = absurd (cc)
      from (Some x) f n =
          let y = loose.each c (omega (arith, h)) in
          elim (y.2 x f) [
            | inl same ↦ ap (after_call p s) (y.1 ∙ ap Some same.0) ∙ n
            | inr made ↦ ap (after_call p s) (y.1 ∙ ap Some made) ∙ any_reply p.same_reply x.returned (p.after s x.process x.op) t n
          ]

  legal_loose : (l : List ℕ) (s t : ObjState) → ((c : ℕ) → In c l → c ≤ k) → Legal p s l t → Legal Q s l t
  legal_loose [] s t up n = n
  legal_loose (c ∷ l) s t up n = (n.0, some_of s n.0 c (up c (inl refl)) n.1, legal_loose l n.0 t (λ d h. up d (inr h)) n.2)

  module _ (last : k < length p.calls) where
    -- which call of the whole the call is
    origin : (a : ℕ) (y : ProblemCall Op Reply) → slice_get calls a ≡ Some y → (x : ProblemCall Op Reply) × (slice_get p.calls a ≡ Some x) × (y.called ≡ x.called) × ((r : ℕ × Reply) → y.returned ≡ Some r → x.returned ≡ Some r)
    origin a y at =
        let less = within a (slice_get_within calls a y at) in
        let m = loose.each a less in
        let same : y ≡ m.0 = (let f : Some y ≡ Some m.0 = sym at ∙ m.1 in cc) in
        let x = there a (omega (arith, less, last)) in
        elim (m.2 x.0 x.1) [
          | inl it ↦ (let e : y ≡ x.0 = same ∙ it.0 in (x.0, x.1, ap (λ (z : ProblemCall Op Reply). z.called) e, λ r back. sym (ap (λ (z : ProblemCall Op Reply). z.returned) e) ∙ back))
          | inr made ↦ (let e : y ≡ record x.0 { returned = None } = same ∙ made in (x.0, x.1, ap (λ (z : ProblemCall Op Reply). z.called) e, λ r back. absurd (let f : ◌≡◌ {A = Option (ℕ × Reply)} None (Some r) = sym (ap (λ (z : ProblemCall Op Reply). z.returned) e) ∙ back in cc)))
        ]

    pub loose_timed : AreTimed p.calls → AreTimed calls
    loose_timed timed = record {
      called = λ a b x y less at_a at_b. (let u = origin a x at_a in let v = origin b y at_b in let order = timed.called a b u.0 v.0 less u.1 v.1 in let e = u.2 in let f = v.2 in omega (arith, order, e, f));
      returned = λ a x r at_a back. (let u = origin a x at_a in let order = timed.returned a u.0 r u.1 (u.3 r back) in let e = u.2 in omega (arith, order, e));
      apart = λ a b x y r at_a at_b back. (let u = origin a x at_a in let v = origin b y at_b in λ same. timed.apart a b u.0 v.0 r u.1 v.1 (u.3 r back) (same ∙ v.2));
    }

    completed_loose : (c : ℕ) → IsCompleted Q c → IsRequired p k kept takers c
    completed_loose c done =
        let h = within c (completed_there Q c done) in
        let x = there c (omega (arith, h, last)) in
        let y = loose.each c h in
        elim (y.2 x.0 x.1) [
          | inl same ↦ same.1
          | inr made ↦ absurd (none_has_none {A = ℕ × Reply} None refl (rw (y.1 ∙ ap Some made) at done))
        ]

    before_loose : (a b : ℕ) → Before Q a b → Before p a b
    before_loose a b before =
        let h = before_there Q a b before in
        let ha = within a h.0 in
        let hb = within b h.1 in
        let x = there a (omega (arith, ha, last)) in
        let y = there b (omega (arith, hb, last)) in
        let u = loose.each a ha in
        let v = loose.each b hb in
        elim (u.2 x.0 x.1) [
          | inr made ↦ absurd (rw (u.1 ∙ ap Some made) at before)
          | inl same ↦ elim (v.2 y.0 y.1) [
            | inl other_same ↦ rw (x.1, y.1) (rw (u.1 ∙ ap Some same.0, v.1 ∙ ap Some other_same.0) at before)
            | inr made ↦ rw (x.1, y.1) (rw (u.1 ∙ ap Some same.0, v.1 ∙ ap Some made) at before)
          ]
        ]

    keeps_loose : (l : List ℕ) → KeepsTime p l → KeepsTime Q l
    keeps_loose [] k = tt
    keeps_loose (c ∷ cs) k = ((λ d h before. k.0 d h (before_loose d c before)), keeps_loose cs k.1)

    -- ---- a run without the calls that take, and what they took

    module _ (exact : IsExact p) (takers_are : AreTakers p takers) where
      abbrev Thinned : List ℕ → Type 0
      Thinned r = (l : List ℕ) × IsThinned p takers r l × ((t : ObjState) × Legal p p.start l t) × ((g : ℕ) → In g takers → In g l → ⊥)

      -- of a queue or a stack
      thinned_items : {state : List ℤ → ObjState} {IsTaker : ℕ → Type 0} → HoldsItems p state IsTaker → p.start ≡ state [] → ((g : ℕ) → In g takers → IsTaker g) → (r : List ℕ) → IsThinned p takers r r → IsRun p r → Thinned r
      thinned_items {state} holds start each r itself run =
          let m = thin_all holds takers r each takers (λ g h. h) r itself run.legal.0 (subst (λ (s : ObjState). Legal p s r run.legal.0) start run.legal.1) in
          (m.0, m.1, (m.2.0, subst (λ (s : ObjState). Legal p s m.0 m.2.0) (sym start) m.2.1), m.4)

      thinned : (r : List ℕ) → IsRun p r → Thinned r
      thinned r run = elim takers_are [
        | inl none ↦ (r, itself, (run.legal.0, run.legal.1), λ g h i. (let out : In g [] = subst (λ (l : List ℕ). In g l) none h in out))
        | inr (inl queue) ↦ thinned_items (queue_holds exact) queue.0 queue.1 r itself run
        | inr (inr stack) ↦ thinned_items (stack_holds exact) stack.0 stack.1 r itself run
      ]
        where
          itself : IsThinned p takers r r
          itself = record { distinct = run.distinct; inside = λ b h. h; left = λ b h. inl h; time = keeps_time p r run }

      -- ---- and without those that change nothing

      module _ (names : List ℕ) (asked : AreAsked p (k + 1) takers names) where
        -- the calls of the list that are asked for
        record IsOnly (s t : ObjState) (l m : List ℕ) : Type 0 where
          distinct : IsDistinct m
          legal : Legal p s m t
          time : KeepsTime p m
          inside : (b : ℕ) → In b m → In b l × In b names
          left : (b : ℕ) → In b l → In b names → In b m

        only : (l : List ℕ) (s t : ObjState) → Legal p s l t → IsDistinct l → KeepsTime p l → ((c : ℕ) → In c l → In c names ⊎ IsIdle p c) → (m : List ℕ) × IsOnly s t l m
        only [] s t legal distinct time each = ([], record { distinct = tt; legal = legal; time = tt; inside = λ b h. absurd h; left = λ b h there. h })
        only (c ∷ cs) s t legal distinct time each = elim (in_or_not c names) [
          | inl named ↦ (
              let rest = only cs legal.0 t legal.2 distinct.1 time.1 (λ d h. each d (inr h)) in (
                c ∷ rest.0,
                record {
                  distinct = ((λ h. distinct.0 (rest.1.inside c h).0), rest.1.distinct);
                  legal = (legal.0, legal.1, rest.1.legal);
                  time = ((λ d h before. time.0 d (elim h [ inl e ↦ inl e | inr more ↦ inr (rest.1.inside d more).0 ]) before), rest.1.time);
                  inside = λ b h. elim h [
                    | inl e ↦ (inl e, subst (λ (d : ℕ). In d names) (sym e) named)
                    | inr more ↦ (let i = rest.1.inside b more in (inr i.0, i.1))
                  ];
                  left = λ b h there'. elim h [ inl e ↦ inl e | inr more ↦ inr (rest.1.left b more there') ];
                },
              ))
          | inr out ↦ (
              let same : legal.0 ≡ s = elim (each c (inl refl)) [ inl named ↦ absurd (out named) | inr idle ↦ idle s legal.0 legal.1 ] in
              let rest = only cs s t (subst (λ (u : ObjState). Legal p u cs t) same legal.2) distinct.1 time.1 (λ d h. each d (inr h)) in (
                rest.0,
                record {
                  distinct = rest.1.distinct;
                  legal = rest.1.legal;
                  time = rest.1.time;
                  inside = λ b h. (let i = rest.1.inside b h in (inr i.0, i.1));
                  left = λ b h there'. elim h [ inl e ↦ absurd (out (subst (λ (d : ℕ). In d names) e there')) | inr more ↦ rest.1.left b more there' ];
                },
              ))
        ]

        module _ (part : List (ProblemCall Op Reply)) (is_part : ArePart Q names part) where
          part_run : (r : List ℕ) → IsRunOf p k r → ((c : ℕ) → In c kept → In c r) → (l : List ℕ) × IsLinearization (part_of p part) l
          part_run r w all =
              let thin = thinned r w.run in
              let up : (c : ℕ) → In c thin.0 → c ≤ k = λ c h. w.up_to c (thin.1.inside c h) in
              let each : (c : ℕ) → In c thin.0 → In c names ⊎ IsIdle p c = λ c h. elim (asked.there c (let less = up c h in omega (arith, less))) [
                | inl named ↦ inl named
                | inr (inl taker) ↦ absurd (thin.3 c taker h)
                | inr (inr idle) ↦ inr idle
              ] in
              let m = only thin.0 p.start thin.2.0 thin.2.1 thin.1.distinct thin.1.time each in
              let l = part_of_list Q names part is_part m.0 m.1.distinct (thin.2.0, legal_loose m.0 p.start thin.2.0 (λ c h. up c (m.1.inside c h).0) m.1.legal) (keeps_loose m.0 m.1.time) (λ c h. (m.1.inside c h).1) (λ c named done. m.1.left c (there_in c done) named) in
              (l.0, l.3)
            where
              there_in : (c : ℕ) → IsCompleted Q c → In c (thinned r w.run).0
              there_in c done =
                  let required = completed_loose c done in
                  let in_run : In c r = elim required.0 [ inl before ↦ w.front c before | inr one ↦ all c one ] in
                  elim ((thinned r w.run).1.left c in_run) [ inl left ↦ left | inr freed ↦ absurd (required.1 freed) ]

          pub no_run_by_part : ((l : List ℕ) → IsLinearization (part_of p part) l → ⊥) → HasNoRunWith p k kept
          no_run_by_part none r w all = (let l = part_run r w all in none l.0 l.1)

-- ---- the problem that is made

module _ {Object : Type 0} (whole prefix part : ProblemParts Object ObjState Op Reply) (prefix_start : prefix.start ≡ whole.start) (part_start : part.start ≡ prefix.start) where
  pub question_answer : (k : ℕ) (kept takers names : List ℕ) → k < length whole.calls → IsLoosePrefix (any_problem whole) k kept takers prefix.calls → AreTakers (any_problem whole) takers → AreAsked (any_problem whole) (k + 1) takers names
      → ArePart (any_problem prefix) names part.calls → ((l : List ℕ) → IsLinearization (any_problem part) l → ⊥) → HasNoRunWith (any_problem whole) k kept
  question_answer k kept takers names last loose takers_are asked is_part none =
      no_run_by_part (any_problem whole) k kept takers prefix.calls loose last (exact whole) takers_are names asked part.calls
      (subst (λ (s : ObjState). ArePart (record (any_problem prefix) { start = s }) names part.calls) prefix_start is_part)
      (subst (λ (s : ObjState). (l : List ℕ) → IsLinearization (record (any_problem part) { start = s }) l → ⊥) (part_start ∙ prefix_start) none)
