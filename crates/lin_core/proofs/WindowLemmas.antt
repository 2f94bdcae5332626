-- The calls of a window, restricted: of a linearization of the whole, what comes behind the last call that was over leaves a
-- linearization of them.
use Rattle.std.proofs.Common.{◌≡◌, ℕ, ◌<◌, ◌≤◌, Bool, true, false, cond, Option, Some, None, List, [], ◌∷◌, ◌++◌, length, IsSome, ◌⊎◌, inl, inr, refl, sym, ◌∙◌, ap, subst, leb-true, arith}
use Rattle.std.specs.Prelude.{IsSomeAnd, nat_le, nat_lt}
use Rattle.std.specs.List.{slice_get}
use Rattle.std.proofs.lemmas.Bool.{cases_lt, ltb-true, lt-ltb}
use Rattle.std.proofs.lemmas.List.{append_assoc}
use Rattle.lin_history.specs.declared.problems.problem.ProblemCall.{ProblemCall}
use Rattle.lin_history.specs.OptionLemmas.{and_some, some_and, some_more, none_has_none}
use Rattle.lin_history.specs.Problems.Lists.{In, IsDistinct}
use Rattle.lin_history.specs.Problems.ListLemmas.{has_none, in_either, distinct_late, apart}
use Rattle.lin_history.specs.Problems.Problem.{Problem}
use Rattle.lin_history.specs.Problems.LegalLists.{next, after_call, state_if_fits, Legal}
use Rattle.lin_history.specs.Problems.Precedence.{Before, IsCompleted}
use Rattle.lin_history.specs.Problems.Linearizations.{IsLinearization}
use Rattle.lin_history.specs.Locality.OrderLemmas.{KeepsTime, keeps_time, earlier}
use Rattle.lin_core.specs.Cuts.{returned_by}
use Rattle.lin_core.specs.Windows.{returned_in, call_in, is_over, AreWithin, AreEnoughWithin}
use Rattle.lin_parts.specs.Parts.{name, named}
use Rattle.lin_parts.specs.PartLemmas.{before_there, completed_there, completed_of, index_in, name_in, one_name}
use Rattle.lin_core.specs.Laws.{IsSomeOf}
use Rattle.lin_core.specs.Suffixes.{part_from}
use Rattle.lin_core.proofs.RestrictionLemmas.{IsFollowed, IsPassed, IsAtEnd, IsThin, follow}
use Rattle.lin_core.proofs.CutLemmas.{if_some, by_event, some_any, any_some, looser, in_or_not}
use Rattle.lin_core.proofs.SplitLemmas.{legal_split, keeps_late, IsSplit, split}

-- ---- returns in a window

not_less : (n m : ℕ) → nat_lt n m ≡ false → m ≤ n
not_less n m e = elim (cases_lt n m) [ inl less ↦ absurd (let t = lt-ltb n m less in cc) | inr k ↦ omega (arith, k) ]

-- what has returned in the window was called in it
pub by_window : {Reply : Type 0} (from event called : ℕ) (o : Option (ℕ × Reply)) (P : ℕ × Reply → Type 0) → IsSomeAnd (returned_in from event called o) P → (from ≤ called) × IsSomeAnd o (λ r. (r.0 ≤ event) × P r)
by_window {Reply} from event called o P h = go (nat_lt called from) refl h
  where
    go : (b : Bool) → nat_lt called from ≡ b → IsSomeAnd (cond b None (returned_by event o)) P → (from ≤ called) × IsSomeAnd o (λ r. (r.0 ≤ event) × P r)
    go true e k = absurd k
    go false e k = (not_less called from e, by_event event o P k)

-- a step with a reply that fits is one where less has returned
freed : {State Reply : Type 0} (same : Reply → Reply → Bool) (o : Option (ℕ × Reply)) (a : Option (State × Reply)) (t : State) → state_if_fits same o a ≡ Some t → state_if_fits same None a ≡ Some t
freed same o None t e = absurd (cc)
freed same None (Some a) t e = e
freed same (Some r) (Some a) t e = if_some (same a.1 r.1) a.0 t e

loose : {State Reply : Type 0} (same : Reply → Reply → Bool) (from event called : ℕ) (o : Option (ℕ × Reply)) (a : Option (State × Reply)) (t : State) → state_if_fits same o a ≡ Some t → state_if_fits same (returned_in from event called o) a ≡ Some t
loose same from event called o a t e = go (nat_lt called from)
  where
    go : (b : Bool) → state_if_fits same (cond b None (returned_by event o)) a ≡ Some t
    go true = freed same o a t e
    go false = looser same event o a t e

-- the call of this number is over
abbrev over_of : {Op Reply : Type 0} → ℕ → Option (ProblemCall Op Reply) → Bool
over_of from None = false
over_of from (Some x) = is_over from x.returned

over_return : {Reply : Type 0} (from : ℕ) (o : Option (ℕ × Reply)) → is_over from o ≡ true → IsSomeAnd o (λ r. r.0 < from)
over_return from None e = absurd (cc)
over_return from (Some r) e = ltb-true r.0 from e

over_before : {Op Reply : Type 0} (from : ℕ) (o : Option (ProblemCall Op Reply)) → over_of from o ≡ true → IsSomeAnd o (λ x. IsSomeAnd x.returned (λ r. r.0 < from))
over_before from None e = absurd (cc)
over_before from (Some x) e = over_return from x.returned e

module _ {State Op Reply : Type 0} (p : Problem State Op Reply) (from event : ℕ) (kept : List ℕ) (calls : List (ProblemCall Op Reply)) (cut : AreWithin p from event kept calls) where
  abbrev Q : State → Problem State Op Reply
  Q u = part_from p u calls

  abbrev over_at : ℕ → Bool
  over_at c = over_of from (slice_get p.calls c)

  within : (i : ℕ) → i < length calls → i < length kept
  within i h = let e = cut.count in omega (arith, h, e)

  -- a call that has returned in the part was called in the window, and returned by the event
  returned_there : (u : State) (i : ℕ) → IsCompleted (Q u) i → IsSomeAnd (slice_get p.calls (name kept i)) (λ x. (from ≤ x.called) × IsSomeAnd x.returned (λ r. r.0 ≤ event))
  returned_there u i done =
      let k = cut.each i (within i (completed_there (Q u) i done)) in
      let some : IsSome (returned_in from event k.0.called k.0.returned) = rw k.3 at done in
      let w = by_window from event k.0.called k.0.returned (λ r. Unit {0}) (some_any (returned_in from event k.0.called k.0.returned) some) in
      and_some (slice_get p.calls (name kept i)) _ k.0 k.1 (w.0, some_more k.0.returned _ _ (λ r h. h.0) w.1)

  completed : (u : State) (i : ℕ) → IsCompleted (Q u) i → IsCompleted p (name kept i)
  completed u i done = some_more (slice_get p.calls (name kept i)) _ _ (λ x h. any_some x.returned _ h.1) (returned_there u i done)

  before : (u : State) (i j : ℕ) → Before (Q u) i j → Before p (name kept i) (name kept j)
  before u i j h =
      let b = before_there (Q u) i j h in
      let k = cut.each i (within i b.0) in
      let n = cut.each j (within j b.1) in
      let both : IsSomeAnd (returned_in from event k.0.called k.0.returned) (λ r. r.0 < n.0.called) = rw (k.3, n.3) at h in
      and_some (slice_get p.calls (name kept i)) _ k.0 k.1 (some_more k.0.returned _ _ (λ r less. and_some (slice_get p.calls (name kept j)) (λ y. r.0 < y.called) n.0 n.1 less.1) (by_window from event k.0.called k.0.returned (λ r. r.0 < n.0.called) both).1)

  at_end : (u : State) (c : ℕ) (y : ProblemCall Op Reply) → slice_get p.calls c ≡ Some y → event < y.called → (i : ℕ) → IsCompleted (Q u) i → Before p (name kept i) c
  at_end u c y e late i done = some_more (slice_get p.calls (name kept i)) _ _ (λ x h. some_more x.returned _ _ (λ r up. and_some (slice_get p.calls c) (λ z. r.0 < z.called) y e (omega (arith, up, late))) h.1) (returned_there u i done)

  -- what is over precedes what is completed in the part
  after_over : (u : State) (i z : ℕ) → IsCompleted (Q u) i → over_at z ≡ true → Before p z (name kept i)
  after_over u i z done over =
      let k = some_and (slice_get p.calls (name kept i)) _ (returned_there u i done) in
      some_more (slice_get p.calls z) _ _ (λ x h. some_more x.returned _ _ (λ r less. and_some (slice_get p.calls (name kept i)) (λ y. r.0 < y.called) k.0 k.1 (let up = k.2.0 in omega (arith, less, up))) h) (over_before from (slice_get p.calls z) over)

  -- R relates the calls so far, the last first, the state of the whole and that of the part
  module _ (R : List ℕ → State → State → Type 0)
      (stays : (past : List ℕ) (x : ProblemCall Op Reply) (i : ℕ) (s t u : State) → slice_get calls i ≡ Some x → (In (name kept i) past → ⊥) → R past s u → after_call p s (Some x) ≡ Some t → ((v : State) × (after_call p u (Some x) ≡ Some v) × R (name kept i ∷ past) t v) ⊎ (R (name kept i ∷ past) t u × (x.returned ≡ None)))
      (goes : (past : List ℕ) (c : ℕ) (x : ProblemCall Op Reply) (s t u : State) → slice_get p.calls c ≡ Some x → x.called ≤ event → (In c kept → ⊥) → (is_over from x.returned ≡ true → ⊥) → ((a : ℕ) → Before p a c → In a past) → R past s u → after_call p s (Some x) ≡ Some t → R (c ∷ past) t u) where
    -- all calls that are over came already
    abbrev Since : List ℕ → List ℕ → State → State → Type 0
    Since early past s u = ((c : ℕ) → In c early → In c past) × R past s u

    abbrev Step : List ℕ → State → List ℕ → ℕ → State → State → Type 0
    Step early w past c t u = IsFollowed p (Q w) kept (Since early) past c t u ⊎ (IsPassed p (Q w) kept (Since early) past c t u ⊎ IsAtEnd p (Q w) kept (Since early) c)

    module _ (early : List ℕ) (w : State) (all : (c : ℕ) → over_at c ≡ true → In c early) where
      step : (past : List ℕ) (c : ℕ) (s t u : State) → (In c past → ⊥) → ((a : ℕ) → Before p a c → In a past) → Since early past s u → next p s c ≡ Some t → Step early w past c t u
      step past c s t u fresh first r e = from_call (slice_get p.calls c) refl e
        where
          came : (d : ℕ) → In d early → In d (c ∷ past)
          came d h = inr (r.0 d h)

          kept_step : (x : ProblemCall Op Reply) → slice_get p.calls c ≡ Some x → after_call p s (Some x) ≡ Some t → In c kept → Step early w past c t u
          kept_step x f n there = at (index_in kept c there).0 (index_in kept c there).1 (index_in kept c there).2
            where
              at : (i : ℕ) → i < length kept → name kept i ≡ c → Step early w past c t u
              at i below is =
                  let k = cut.each i below in
                  let same : k.0 ≡ x = (let g : slice_get p.calls (name kept i) ≡ Some x = rw is f in let g1 = k.1 in cc) in
                  let here : slice_get calls i ≡ Some (call_in from event x) = rw (← same) k.3 in
                  elim (stays past (call_in from event x) i s t u here (λ h. fresh (subst (λ (y : ℕ). In y past) is h)) r.1 (loose p.same_reply from event x.called x.returned (p.after s x.process x.op) t n)) [
                    | inl a ↦ inl (i, below, is, a.0, ap (after_call p u) here ∙ a.1, (came, subst (λ (y : ℕ). R (y ∷ past) t a.0) is a.2))
                    | inr a ↦ inr (inl ((came, subst (λ (y : ℕ). R (y ∷ past) t u) is a.0), λ j low e done. none_has_none (returned_in from event x.called x.returned) a.1 (rw here at (subst (λ (y : ℕ). IsCompleted (Q w) y) (one_name kept cut.rises j i low below (e ∙ sym is)) done))))
                  ]

          not_over : (x : ProblemCall Op Reply) → slice_get p.calls c ≡ Some x → is_over from x.returned ≡ true → ⊥
          not_over x f over = fresh (r.0 c (all c (ap (over_of from) f ∙ over)))

          from_call : (o : Option (ProblemCall Op Reply)) → slice_get p.calls c ≡ o → after_call p s o ≡ Some t → Step early w past c t u
          from_call None f n = absurd (cc)
          from_call (Some x) f n = elim (cases_lt event x.called) [
            | inl late ↦ inr (inr (at_end w c x f late))
            | inr up ↦ elim (in_or_not c kept) [
              | inl there ↦ kept_step x f n there
              | inr out ↦ inr (inl ((came, goes past c x s t u f (omega (arith, up)) out (not_over x f) first r.1 n), λ j low is done. out (subst (λ (y : ℕ). In y kept) is (name_in kept j low))))
            ]
          ]

    module _ (Kind Start : State → Type 0) (kind : Kind p.start) (kind_step : (x : ProblemCall Op Reply) (s t : State) → Kind s → after_call p s (Some x) ≡ Some t → Kind t) (covers : (past : List ℕ) (s : State) → Kind s → (u : State) × Start u × R past s u) where
      kind_after : (l : List ℕ) (s t : State) → Kind s → Legal p s l t → Kind t
      kind_after [] s t k e = subst Kind e k
      kind_after (c ∷ l) s t k e = kind_after l e.0 t (step_at (slice_get p.calls c) e.1) e.2
        where
          step_at : (o : Option (ProblemCall Op Reply)) → after_call p s o ≡ Some e.0 → Kind e.0
          step_at None f = absurd (cc)
          step_at (Some x) f = kind_step x s e.0 k f

      -- Of a linearization of the whole, what comes behind the last call that was over leaves one of the part.
      pub left_from : (l : List ℕ) → IsLinearization p l → (u : State) × Start u × (m : List ℕ) × IsLinearization (Q u) m × IsSomeOf (named kept m) l
      left_from l lin = (u, start.1, m, is_one, some_behind (named kept m) early late l cut_at.is thin.some)
        where
          time : KeepsTime p l
          time = keeps_time p l lin.continuation

          parts : (early : List ℕ) × (late : List ℕ) × IsSplit p over_at l early late
          parts = split p over_at l time

          early : List ℕ
          early = parts.0

          late : List ℕ
          late = parts.1

          cut_at : IsSplit p over_at l early late
          cut_at = parts.2

          states : (s : State) × Legal p p.start early s × Legal p s late lin.continuation.legal.0
          states = legal_split p early late p.start lin.continuation.legal.0 (subst (λ (x : List ℕ). Legal p p.start x lin.continuation.legal.0) cut_at.is lin.continuation.legal.1)

          start : (u : State) × Start u × R early states.0 u
          start = covers early states.0 (kind_after early p.start states.0 kind states.1)

          u : State
          u = start.0

          distinct : IsDistinct (early ++ late)
          distinct = subst IsDistinct cut_at.is lin.continuation.distinct

          there : (c : ℕ) → IsCompleted p c → In c early ⊎ In c late
          there c done = in_either c early late (subst (λ (x : List ℕ). In c x) cut_at.is (elim (lin.complete c done) [
            | inl h ↦ absurd (let none = has_none (length p.calls) c in cc)
            | inr h ↦ h
          ]))

          over_done : (c : ℕ) → over_at c ≡ true → IsCompleted p c
          over_done c over = some_more (slice_get p.calls c) _ _ (λ x h. any_some x.returned _ h) (over_before from (slice_get p.calls c) over)

          all : (c : ℕ) → over_at c ≡ true → In c early
          all c over = elim (there c (over_done c over)) [
            | inl h ↦ h
            | inr h ↦ absurd (let no_more = cut_at.none c h in cc)
          ]

          ordered : (front : List ℕ) (b : ℕ) (back : List ℕ) → late ≡ front ++ b ∷ back → (a : ℕ) → Before p a b → In a early ⊎ In a front
          ordered front b back e a before_b = elim (lin.continuation.ordered (early ++ front) b back (cut_at.is ∙ ap (λ (x : List ℕ). early ++ x) e ∙ sym (append_assoc early front (b ∷ back))) a before_b) [
            | inl h ↦ absurd (let none = has_none (length p.calls) a in cc)
            | inr h ↦ in_either a early front h
          ]

          found : (m : List ℕ) × IsThin p (Q u) kept (Since early) late m u
          found = follow p (Q u) kept (Since early) (record {
            count = cut.count;
            rises = cut.rises;
            completed = completed u;
            before = before u;
            step = λ past c s t v fresh first r e. step early u all past c s t v fresh first r e;
          }) early late states.0 lin.continuation.legal.0 u (distinct_late early late distinct) (λ c h k. apart c early late distinct k h) ordered (keeps_late p early late (subst (KeepsTime p) cut_at.is time)) ((λ c h. h), start.2) states.2

          m : List ℕ
          m = found.0

          thin : IsThin p (Q u) kept (Since early) late m u
          thin = found.1

          complete : (i : ℕ) → IsCompleted (Q u) i → In i m
          complete i done = thin.complete i done (elim (there (name kept i) (completed u i done)) [
            | inl h ↦ absurd (cut_at.front (name kept i) h (λ z over. after_over u i z done over))
            | inr h ↦ h
          ])

          is_one : IsLinearization (Q u) m
          is_one = record {
            continuation = record {
              distinct = thin.distinct;
              outside = λ c h. has_none (length calls) c;
              legal = thin.legal;
              ordered = λ front b back e a before_b. inr (earlier (Q u) m front b back thin.time e a before_b (complete a (completed_of (Q u) a b before_b)));
            };
            complete = λ c done. inr (complete c done);
          }

          some_behind : (some xs ys l : List ℕ) → l ≡ xs ++ ys → IsSomeOf some ys → IsSomeOf some l
          some_behind some xs ys l e h = subst (IsSomeOf some) (sym e) (behind xs)
            where
              behind : (zs : List ℕ) → IsSomeOf some (zs ++ ys)
              behind [] = h
              behind (z ∷ zs) = inl (behind zs)
