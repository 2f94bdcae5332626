-- Whoever takes a mutex before an acquire gives it back before that one: so the acquires stand in the order of their returns, and no
-- pending call takes the mutex before one.
use Rattle.std.proofs.Common.{◌≡◌, ◌≢◌, ℕ, ◌<◌, ◌≤◌, Bool, true, false, Option, Some, None, List, [], ◌∷◌, ◌++◌, length, ◌⊎◌, inl, inr, refl, sym, ◌∙◌, ap, subst, append_assoc, arith}
use Rattle.std.specs.List.{slice_get}
use Rattle.std.specs.Prelude.{slice_index_or}
use Rattle.std.proofs.lemmas.Option.{slice_get_within, slice_get-get_or}
use Rattle.lin_object.specs.declared.op.Op.{Op}
use Rattle.lin_object.specs.declared.op.Op.TheVariants.{Unlock, TryLock}
use Rattle.lin_object.specs.declared.reply.Reply.{Reply}
use Rattle.lin_object.specs.declared.reply.Reply.TheVariants.{Flag}
use Rattle.lin_object.specs.declared.state.ObjState.{ObjState}
use Rattle.lin_object.specs.declared.state.ObjState.TheVariants.{Mutex}
use Rattle.lin_object.specs.contracts.reply.ReplyPartialEq.TheImpl.{eq-value as reply_eq}
use Rattle.lin_object.specs.Kinds.{after}
use Rattle.lin_history.specs.declared.problems.problem.ProblemCall.{ProblemCall}
use Rattle.lin_history.specs.OptionLemmas.{some_and, and_some, some_is}
use Rattle.lin_history.specs.Problems.Lists.{In, IsDistinct}
use Rattle.lin_history.specs.Problems.ListLemmas.{in_early, in_late, in_either, in_place, apart, has_none}
use Rattle.lin_history.specs.Problems.Problem.{Problem}
use Rattle.lin_history.specs.Problems.ProblemParts.{ProblemParts, AreTimed}
use Rattle.lin_history.specs.Problems.LegalLists.{after_call, fits, state_if_fits, next, Legal}
use Rattle.lin_history.specs.Problems.Precedence.{Before, IsCompleted}
use Rattle.lin_history.specs.Problems.Continuations.{has, no_calls, IsContinuation}
use Rattle.lin_history.specs.Problems.Linearizations.{IsLinearization, IsRun}
use Rattle.lin_history.specs.Problems.AnyProblem.{any_problem}
use Rattle.lin_ahead.specs.First.FirstProgress.{BeginsNone}
use Rattle.lin_ahead.specs.Mutexes.Acquires.{acquired, IsAcquire, takes_if_free, ReturnsFrom, UnlocksBetween}
use Rattle.lin_laws.specs.InTurn.{AreInTurn}
use Rattle.lin_ahead.specs.Mutexes.Sections.{SomeHoldTogether}
use Rattle.lin_ahead.specs.Mutexes.Strays.{UnlocksFor}
use Rattle.lin_ahead.specs.Mutexes.HeldUntil.{TookFor, IsNextUnlock, IsHeldUntil, AreHeldUntil, took}
use Rattle.lin_laws.specs.StandIns.{AreStandIns}
use Rattle.lin_ahead.proofs.mutexes.StepLemmas.{none_some, not_refused, no_unlock, no_taker, acquired_then, acquired_finds, acquired_free, takes, taken, held_step, took_acquires, took_takes, try_fails}

three : (i j : ℕ) → (i < j) ⊎ ((i ≡ j) ⊎ (j < i))
three i j = grind arith

one : {A : Type 0} (x y : A) → Some x ≡ Some y → x ≡ y
one x y e = cc

true_false : {A : Type 0} {b : Bool} → b ≡ true → b ≡ false → A
true_false e f = absurd (cc)

-- where a list has a call at a place, and another one at another
placed : (front rest early late : List ℕ) (a c : ℕ) → front ++ a ∷ rest ≡ early ++ c ∷ late → ((mid : List ℕ) × (front ≡ early ++ c ∷ mid)) ⊎ (((c ≡ a) × (early ≡ front)) ⊎ ((mid : List ℕ) × (early ≡ front ++ a ∷ mid) × (rest ≡ mid ++ c ∷ late)))
placed [] rest [] late a c e = inr (inl ((cc), refl))
placed [] rest (d ∷ early) late a c e = inr (inr (early, ap (λ (z : ℕ). z ∷ early) (let h : d ≡ a = cc in h), (cc)))
placed (f ∷ front) rest [] late a c e = inl (front, ap (λ (z : ℕ). z ∷ front) (let h : f ≡ c = cc in h))
placed (f ∷ front) rest (d ∷ early) late a c e = (
    let h : d ≡ f = cc in
    let more : front ++ a ∷ rest ≡ early ++ c ∷ late = cc in
    elim (placed front rest early late a c more) [
      | inl r ↦ inl (r.0, (let g = r.1 in cc))
      | inr (inl r) ↦ inr (inl (r.0, (let g = r.1 in cc)))
      | inr (inr r) ↦ inr (inr (r.0, (let g = r.1 in cc), r.2))
    ]
    )

-- a list of distinct calls with another call in the place of one
distinct_with : (front : List ℕ) (a b : ℕ) (rest : List ℕ) → IsDistinct (front ++ b ∷ rest) → (In a (front ++ b ∷ rest) → ⊥) → IsDistinct (front ++ a ∷ rest)
distinct_with [] a b rest d out = ((λ h. out (inr h)), d.1)
distinct_with (c ∷ front) a b rest d out = (
  (λ h. elim (in_either c front (a ∷ rest) h) [
    | inl f ↦ d.0 (in_early c front (b ∷ rest) f)
    | inr (inl e) ↦ out (inl (sym e))
    | inr (inr more) ↦ d.0 (in_late c front (b ∷ rest) (inr more))
  ]),
  distinct_with front a b rest d.1 (λ h. out (inr h)),
)

module _ {Object : Type 0} (parts : ProblemParts Object ObjState Op Reply) where
  abbrev A : Problem ObjState Op Reply
  A = any_problem parts

  -- a legal list in front of a call, the call's step, and what is behind it
  legal_parts : (front : List ℕ) (c : ℕ) (rest : List ℕ) (s u : ObjState) → Legal A s (front ++ c ∷ rest) u → (e : ObjState) × (m : ObjState) × Legal A s front e × (next A e c ≡ Some m) × Legal A m rest u
  legal_parts [] c rest s u k = (s, k.0, refl, k.1, k.2)
  legal_parts (d ∷ front) c rest s u k = (let r = legal_parts front c rest k.0 u k.2 in (r.0, r.1, (k.0, k.1, r.2), r.3, r.4))

  legal_together : (front : List ℕ) (c : ℕ) (rest : List ℕ) (s e m u : ObjState) → Legal A s front e → next A e c ≡ Some m → Legal A m rest u → Legal A s (front ++ c ∷ rest) u
  legal_together [] c rest s e m u k step more = (m, subst (λ (z : ObjState). next A z c ≡ Some m) (sym k) step, more)
  legal_together (d ∷ front) c rest s e m u k step more = (k.0, k.1, legal_together front c rest k.0 e m u k.2 step more)

  -- what precedes a call precedes the later ones
  before_later : AreTimed parts.calls → (c a b : ℕ) (y : ProblemCall Op Reply) → a < b → slice_get parts.calls b ≡ Some y → Before A c a → Before A c b
  before_later timed c a b y less here before =
      let x = some_and (slice_get parts.calls c) _ before in
      let r = some_and x.0.returned _ x.2 in
      let z = some_and (slice_get parts.calls a) _ r.2 in
      let first : r.0.0 < z.0.called = z.2 in
      let second = timed.called a b z.0 y less z.1 here in
      and_some (slice_get parts.calls c) _ x.0 x.1 (and_some x.0.returned _ r.0 r.1 (and_some (slice_get parts.calls b) _ y here (omega (arith, first, second))))

  -- the call of a step, and what it does
  stepped : (o : Option (ProblemCall Op Reply)) (s t : ObjState) → after_call A s o ≡ Some t → (x : ProblemCall Op Reply) × (o ≡ Some x) × (state_if_fits reply_eq.it x.returned (after s x.process x.op) ≡ Some t)
  stepped None s t e = none_some t e
  stepped (Some x) s t e = (x, refl, e)

  one_call : (c : ℕ) (x y : ProblemCall Op Reply) → slice_get parts.calls c ≡ Some x → slice_get parts.calls c ≡ Some y → x ≡ y
  one_call c x y e f = one x y (sym e ∙ f)

  -- an unlock of the process stands in the list, and the acquire behind it
  record GivesBack (h : ℕ) (l : List ℕ) (a : ℕ) : Type 0 where
    early : List ℕ
    w : ℕ
    late : List ℕ
    x : ProblemCall Op Reply
    is : l ≡ early ++ w ∷ late
    call : slice_get parts.calls w ≡ Some x
    op : x.op ≡ Unlock
    process : x.process ≡ h
    behind : In a late

  gives_back : (h : ℕ) (l : List ℕ) (u : ObjState) → Legal A (Mutex (Some h)) l u → (a event : ℕ) → IsAcquire A a event → In a l → GivesBack h l a
  gives_back h [] u legal a event acquire there = absurd there
  gives_back h (d ∷ ds) u (m, step, rest) a event acquire there =
      let s = stepped (slice_get parts.calls d) (Mutex (Some h)) m step in
      elim (held_step s.0.process s.0.returned m h s.0.op s.2) [
        | inl k ↦ unlocked s.0 s.1 k.0 k.1
        | inr k ↦ tried s.0 s.1 k.0 k.2 (λ more. gives_back h ds u (subst (λ (z : ObjState). Legal A z ds u) k.1 rest) a event acquire more)
      ]
    where
      same : (x : ProblemCall Op Reply) → slice_get parts.calls d ≡ Some x → a ≡ d → acquired x.op x.returned ≡ Some event
      same x e is = subst (λ (y : ProblemCall Op Reply). acquired y.op y.returned ≡ Some event) (one_call d acquire.0 x (subst (λ (n : ℕ). slice_get parts.calls n ≡ Some acquire.0) is acquire.1) e) acquire.2

      unlocked : (x : ProblemCall Op Reply) → slice_get parts.calls d ≡ Some x → x.op ≡ Unlock → x.process ≡ h → GivesBack h (d ∷ ds) a
      unlocked x e op own = elim there [
        | inl is ↦ absurd (no_unlock x.op x.returned event (same x e is) op)
        | inr more ↦ record { early = []; w = d; late = ds; x = x; is = refl; call = e; op = op; process = own; behind = more }
      ]

      tried : (x : ProblemCall Op Reply) → slice_get parts.calls d ≡ Some x → x.op ≡ TryLock → fits reply_eq.it (Flag false) x.returned ≡ true → (In a ds → GivesBack h ds a) → GivesBack h (d ∷ ds) a
      tried x e op told on = elim there [
        | inl is ↦ absurd (not_refused x.op x.returned event (same x e is) op told)
        | inr more ↦ (
            let g = on more in
            record { early = d ∷ g.early; w = g.w; late = g.late; x = g.x; is = ap (λ (l : List ℕ). d ∷ l) g.is; call = g.call; op = g.op; process = g.process; behind = g.behind }
            )
      ]

  -- while a mutex is held by a process that does not give it back, it does not matter by whom
  held_rest : (h g : ℕ) (l : List ℕ) (u : ObjState) → Legal A (Mutex (Some h)) l u → ((w : ℕ) → In w l → UnlocksFor A h w → ⊥) → (v : ObjState) × Legal A (Mutex (Some g)) l v
  held_rest h g [] u legal none = (Mutex (Some g), refl)
  held_rest h g (d ∷ ds) u (m, step, rest) none =
      let s = stepped (slice_get parts.calls d) (Mutex (Some h)) m step in
      elim (held_step s.0.process s.0.returned m h s.0.op s.2) [
        | inl k ↦ absurd (none d (inl refl) (s.0, s.1, k.0, k.1))
        | inr k ↦ (
            let more = held_rest h g ds u (subst (λ (z : ObjState). Legal A z ds u) k.1 rest) (λ w there. none w (inr there)) in
            (more.0, (Mutex (Some g), ap (after_call A (Mutex (Some g))) s.1 ∙ try_fails g s.0.process s.0.op s.0.returned k.0 k.2, more.1))
            )
      ]

  -- what can follow the set, where a call that takes the mutex stands before an acquire: between the two the process of the first calls
  -- an unlock, which the first precedes, and which the acquire does not precede
  record Released (l : List ℕ) (c a : ℕ) (process : ℕ) : Type 0 where
    w : ℕ
    x : ProblemCall Op Reply
    call : slice_get parts.calls w ≡ Some x
    op : x.op ≡ Unlock
    own : x.process ≡ process
    after_first : Before A c w
    not_behind : Before A a w → ⊥

  module _ (turn : AreInTurn A) where
    released : (set : List Bool) (s : ObjState) (l : List ℕ) → IsContinuation A set s l → (front : List ℕ) (c : ℕ) (rest : List ℕ) → l ≡ front ++ c ∷ rest → (y : ProblemCall Op Reply) → slice_get parts.calls c ≡ Some y → takes_if_free y.op ≡ true → (u : ObjState) → Legal A (Mutex (Some y.process)) rest u → (a event : ℕ) → IsAcquire A a event → In a rest → Released l c a y.process
    released set s l can front c rest is y e takes u legal a event acquire there = record {
      w = g.w;
      x = g.x;
      call = g.call;
      op = g.op;
      own = g.process;
      after_first = by (three c g.w);
      not_behind = λ before. elim (can.ordered (front ++ c ∷ g.early) g.w g.late place a before) [
        | inl q ↦ true_false q (can.outside a (subst (In a) (sym is) (in_late a front (c ∷ rest) (inr there))))
        | inr q ↦ apart a (front ++ c ∷ g.early) (g.w ∷ g.late) (subst IsDistinct place can.distinct) q (inr g.behind)
      ];
    }
      where
        g : GivesBack y.process rest a
        g = gives_back y.process rest u legal a event acquire there

        place : l ≡ (front ++ c ∷ g.early) ++ g.w ∷ g.late
        place = is ∙ ap (λ (k : List ℕ). front ++ c ∷ k) g.is ∙ sym (append_assoc front (c ∷ g.early) (g.w ∷ g.late))

        by : (c < g.w) ⊎ ((c ≡ g.w) ⊎ (g.w < c)) → Before A c g.w
        by (inl less) = turn c g.w y g.x less e g.call (sym g.process)
        by (inr (inl same)) = absurd (no_taker y.op takes (ap (λ (z : ProblemCall Op Reply). z.op) (one_call c y g.x e (subst (λ (n : ℕ). slice_get parts.calls n ≡ Some g.x) (sym same) g.call)) ∙ g.op))
        by (inr (inr more)) = elim (can.ordered front c rest is g.w (turn g.w c g.x y more g.call e g.process)) [
          | inl q ↦ true_false q (can.outside g.w (subst (In g.w) (sym place) (in_late g.w (front ++ c ∷ g.early) (g.w ∷ g.late) (inl refl))))
          | inr q ↦ absurd (apart g.w (front ++ c ∷ g.early) (g.w ∷ g.late) (subst IsDistinct place can.distinct) (in_early g.w front (c ∷ g.early) q) (inl refl))
        ]

    -- where the one that took it returned later than the acquire, or never, it cannot be
    too_late : (l : List ℕ) (c a event process : ℕ) (y : ProblemCall Op Reply) → slice_get parts.calls c ≡ Some y → IsAcquire A a event → ReturnsFrom event y.returned → Released l c a process → ⊥
    too_late l c a event process y e acquire earlier r = r.not_behind (
        let z = some_and (slice_get parts.calls c) _ r.after_first in
        let q = some_and z.0.returned _ z.2 in
        let w = some_and (slice_get parts.calls r.w) _ q.2 in
        let told : ReturnsFrom event (Some q.0) = subst (ReturnsFrom event) (ap (λ (x : ProblemCall Op Reply). x.returned) (one_call c y z.0 e z.1) ∙ q.1) earlier in
        let own = acquired_then acquire.0.op acquire.0.returned event acquire.2 in
        let less : q.0.0 < w.0.called = w.2 in
        let earlier_event : event ≤ q.0.0 = told in
        and_some (slice_get parts.calls a) _ acquire.0 acquire.1 (and_some acquire.0.returned _ (event, own.0) own.1 (and_some (slice_get parts.calls r.w) _ w.0 w.1 (omega (arith, less, earlier_event))))
        )

    acquire_is_completed : (a event : ℕ) → IsAcquire A a event → IsCompleted A a
    acquire_is_completed a event acquire =
        let own = acquired_then acquire.0.op acquire.0.returned event acquire.2 in
        and_some (slice_get parts.calls a) _ acquire.0 acquire.1 (some_is acquire.0.returned (event, own.0) own.1)

    -- no completion begins with a call that takes the mutex while an acquire is left that returned before it
    pub too_early : (set : List Bool) (c a event : ℕ) (y : ProblemCall Op Reply) → slice_get parts.calls c ≡ Some y → takes_if_free y.op ≡ true → IsAcquire A a event → has set a ≡ false → a ≢ c → ReturnsFrom event y.returned → BeginsNone A set (Mutex None) c
    too_early set c a event y e takes acquire out other earlier cs h =
        let u = h.continuation.legal.0 in
        let m = h.continuation.legal.1.0 in
        let s = stepped (slice_get parts.calls c) (Mutex None) m h.continuation.legal.1.1 in
        let same : y ≡ s.0 = one_call c y s.0 e s.1 in
        let step : state_if_fits reply_eq.it y.returned (after (Mutex None) y.process y.op) ≡ Some m = subst (λ (x : ProblemCall Op Reply). state_if_fits reply_eq.it x.returned (after (Mutex None) x.process x.op) ≡ Some m) (sym same) s.2 in
        let held : m ≡ Mutex (Some y.process) = taken y.process y.returned m y.op takes step in
        let there : In a cs = elim (h.complete a (acquire_is_completed a event acquire)) [
          | inl q ↦ true_false q out
          | inr q ↦ elim q [ inl is ↦ absurd (other is) | inr more ↦ more ]
        ] in
        too_late (c ∷ cs) c a event y.process y e acquire earlier (released set (Mutex None) (c ∷ cs) h.continuation [] c cs refl y e takes u (subst (λ (z : ObjState). Legal A z cs u) held h.continuation.legal.1.2) a event acquire there)

    -- the place of a call in a legal list
    legal_at : (front : List ℕ) (c : ℕ) (rest : List ℕ) (s u : ObjState) → Legal A s (front ++ c ∷ rest) u → (e : ObjState) × (m : ObjState) × (next A e c ≡ Some m) × Legal A m rest u
    legal_at [] c rest s u k = (s, k.0, k.1, k.2)
    legal_at (d ∷ front) c rest s u k = legal_at front c rest k.0 u k.2

    -- of two acquires in a linearization: between the first and the second the first one's process gives the mutex back
    gives_way : (l : List ℕ) → IsLinearization A l → (front : List ℕ) (c : ℕ) (rest : List ℕ) → l ≡ front ++ c ∷ rest → (m : ℕ) → (own : IsAcquire A c m) → (a n : ℕ) → IsAcquire A a n → In a rest → Released l c a own.0.process
    gives_way l whole front c rest is m own a n acquire there =
        let u = whole.continuation.legal.0 in
        let k = legal_at front c rest parts.start u (subst (λ (z : List ℕ). Legal A parts.start z u) is whole.continuation.legal.1) in
        let s = stepped (slice_get parts.calls c) k.0 k.1 k.2 in
        let same : own.0 ≡ s.0 = one_call c own.0 s.0 own.1 s.1 in
        let step : state_if_fits reply_eq.it own.0.returned (after k.0 own.0.process own.0.op) ≡ Some k.1 = subst (λ (x : ProblemCall Op Reply). state_if_fits reply_eq.it x.returned (after k.0 x.process x.op) ≡ Some k.1) (sym same) s.2 in
        let held : k.1 ≡ Mutex (Some own.0.process) = acquired_free own.0.process own.0.returned k.1 k.0 own.0.op m own.2 step in
        released (no_calls A) parts.start l whole.continuation front c rest is own.0 own.1 (takes own.0.op own.0.returned m own.2) u (subst (λ (z : ObjState). Legal A z rest u) held k.3) a n acquire there

    -- so there is no linearization where its process calls no unlock between their returns
    pub none_between : (a b m n : ℕ) → (first : IsAcquire A a m) → IsAcquire A b n → a ≢ b → m ≤ n → (UnlocksBetween A first.0.process m n → ⊥) → (l : List ℕ) → IsLinearization A l → ⊥
    none_between a b m n first second other less none l whole = at (in_place a l (stands a m first)) (stands b n second)
      where
        stands : (c event : ℕ) → IsAcquire A c event → In c l
        stands c event acquire = elim (whole.complete c (acquire_is_completed c event acquire)) [
          | inl q ↦ true_false q (has_none (length parts.calls) c)
          | inr q ↦ q
        ]

        between : Released l a b first.0.process → UnlocksBetween A first.0.process m n
        between r = (r.w, r.x, r.call, r.op, r.own, after_first, not_behind)
          where
            after_first : m < r.x.called
            after_first =
                let z = some_and (slice_get parts.calls a) _ r.after_first in
                let q = some_and z.0.returned _ z.2 in
                let w = some_and (slice_get parts.calls r.w) _ q.2 in
                let own = acquired_then first.0.op first.0.returned m first.2 in
                let event : Some (m, own.0) ≡ Some q.0 = sym own.1 ∙ ap (λ (x : ProblemCall Op Reply). x.returned) (one_call a first.0 z.0 first.1 z.1) ∙ q.1 in
                let at_event : m ≡ q.0.0 = ap (λ (r : ℕ × Reply). r.0) (one (m, own.0) q.0 event) in
                let call : w.0.called ≡ r.x.called = ap (λ (x : ProblemCall Op Reply). x.called) (one_call r.w w.0 r.x w.1 r.call) in
                let is_less : q.0.0 < w.0.called = w.2 in
                omega (arith, at_event, call, is_less)

            not_behind : r.x.called ≤ n
            not_behind = elim (three n r.x.called) [
              | inl more ↦ absurd (r.not_behind (
                  let own = acquired_then second.0.op second.0.returned n second.2 in
                  and_some (slice_get parts.calls b) _ second.0 second.1 (and_some second.0.returned _ (n, own.0) own.1 (and_some (slice_get parts.calls r.w) _ r.x r.call more))
                  ))
              | inr (inl same) ↦ omega (arith, same)
              | inr (inr fewer) ↦ omega (arith, fewer)
            ]

        at : (early : List ℕ) × (late : List ℕ) × (l ≡ early ++ a ∷ late) → In b l → ⊥
        at place there = elim (in_either b place.0 (a ∷ place.1) (subst (In b) place.2 there)) [
          | inl early ↦ (
              let at_b = in_place b place.0 early in
              let is : l ≡ at_b.0 ++ b ∷ (at_b.1 ++ a ∷ place.1) = place.2 ∙ ap (λ (z : List ℕ). z ++ a ∷ place.1) at_b.2 ∙ append_assoc at_b.0 (b ∷ at_b.1) (a ∷ place.1) in
              let own = acquired_then second.0.op second.0.returned n second.2 in
              too_late l b a m second.0.process second.0 second.1 first (subst (ReturnsFrom m) (sym own.1) less) (gives_way l whole at_b.0 b (at_b.1 ++ a ∷ place.1) is n second a m first (in_late a at_b.1 (a ∷ place.1) (inl refl)))
              )
          | inr (inl same) ↦ other (sym same)
          | inr (inr late) ↦ none (between (gives_way l whole place.0 a place.1 place.2 m first b n second late))
        ]

    -- where some two acquires exclude each other there is none
    pub none_together : SomeHoldTogether A → (l : List ℕ) → IsLinearization A l → ⊥
    none_together (s, v, first, second, (other, less, none)) l whole =
        none_between s.acquire v.acquire s.from v.from (first.0, first.1, first.2) (second.0, second.1, second.2) other less (λ h. none (subst (λ (q : ℕ). UnlocksBetween A q s.from v.from) first.3 h)) l whole

    -- a run with calls up to k alone
    module _ (k : ℕ) (l : List ℕ) (run : IsRun A l) (up_to : (c : ℕ) → In c l → c ≤ k) where
      -- behind a call that took the mutex for longer there is no unlock of its process
      none_behind : (front : List ℕ) (c : ℕ) (rest : List ℕ) → l ≡ front ++ c ∷ rest → (q n : ℕ) → TookFor A q c → IsNextUnlock A q c n → k < n → (w : ℕ) → In w rest → UnlocksFor A q w → ⊥
      none_behind front c rest is q n (y, here, took_it, own) next_unlock above w there unlocks = at (three c w)
        where
          in_run : In w l
          in_run = subst (In w) (sym is) (in_late w front (c ∷ rest) (inr there))

          at : (c < w) ⊎ ((c ≡ w) ⊎ (w < c)) → ⊥
          at (inl less) = (let last = up_to w in_run in let far = next_unlock.0 w unlocks less in omega (arith, last, far, above))
          at (inr (inl e)) =
              let acquires = took_acquires y.op y.returned took_it in
              no_unlock y.op y.returned acquires.0 acquires.1 (ap (λ (z : ProblemCall Op Reply). z.op) (one_call c y unlocks.0 here (subst (λ (i : ℕ). slice_get parts.calls i ≡ Some unlocks.0) (sym e) unlocks.1)) ∙ unlocks.2)
          at (inr (inr more)) = elim (run.ordered front c rest is w (turn w c unlocks.0 y more unlocks.1 here (unlocks.3 ∙ sym own))) [
            | inl z ↦ true_false z (has_none (length parts.calls) w)
            | inr z ↦ apart w front (c ∷ rest) (subst IsDistinct is run.distinct) z (inr there)
          ]

      -- so there is no other acquire behind it
      gives_up : (front : List ℕ) (c : ℕ) (rest : List ℕ) → l ≡ front ++ c ∷ rest → (q n : ℕ) → TookFor A q c → IsNextUnlock A q c n → k < n → (a event : ℕ) → IsAcquire A a event → In a rest → ⊥
      gives_up front c rest is q n (y, here, took_it, own) next_unlock above a event acquire there =
          let acquires = took_acquires y.op y.returned took_it in
          let u = run.legal.0 in
          let m = legal_at front c rest parts.start u (subst (λ (z : List ℕ). Legal A parts.start z u) is run.legal.1) in
          let s = stepped (slice_get parts.calls c) m.0 m.1 m.2 in
          let same : y ≡ s.0 = one_call c y s.0 here s.1 in
          let step : state_if_fits reply_eq.it y.returned (after m.0 y.process y.op) ≡ Some m.1 = subst (λ (x : ProblemCall Op Reply). state_if_fits reply_eq.it x.returned (after m.0 x.process x.op) ≡ Some m.1) (sym same) s.2 in
          let held : m.1 ≡ Mutex (Some y.process) = acquired_free y.process y.returned m.1 m.0 y.op acquires.0 acquires.1 step in
          let g = gives_back y.process rest u (subst (λ (z : ObjState). Legal A z rest u) held m.3) a event acquire there in
          none_behind front c rest is q n (y, here, took_it, own) next_unlock above g.w (subst (In g.w) (sym g.is) (in_late g.w g.early (g.w ∷ g.late) (inl refl))) (g.x, g.call, g.op, g.process ∙ own)

      took_is : (q a : ℕ) → TookFor A q a → (event : ℕ) × IsAcquire A a event
      took_is q a (x, is, took_it, own) = (let acquires = took_acquires x.op x.returned took_it in (acquires.0, (x, is, acquires.1)))

      -- two calls that are held beyond k do not both stand in it
      not_both : (a b n m : ℕ) → a ≢ b → IsHeldUntil A a n → IsHeldUntil A b m → k < n → k < m → In a l → In b l → ⊥
      not_both a b n m other (inr (none, zero)) second above more ia ib = omega (arith, above, zero)
      not_both a b n m other (inl first) (inr (none, zero)) above more ia ib = omega (arith, more, zero)
      not_both a b n m other (inl (q, took_a, next_a)) (inl (r, took_b, next_b)) above more ia ib = at (in_place a l ia)
        where
          at : (early : List ℕ) × (late : List ℕ) × (l ≡ early ++ a ∷ late) → ⊥
          at (early, late, place) = elim (in_either b early (a ∷ late) (subst (In b) place ib)) [
            | inl before ↦ (
                let p = in_place b early before in
                let is = took_is q a took_a in
                gives_up p.0 b (p.1 ++ a ∷ late) (place ∙ ap (λ (z : List ℕ). z ++ a ∷ late) p.2 ∙ append_assoc p.0 (b ∷ p.1) (a ∷ late)) r m took_b next_b more a is.0 is.1 (in_late a p.1 (a ∷ late) (inl refl))
                )
            | inr (inl same) ↦ other (sym same)
            | inr (inr behind) ↦ (let is = took_is r b took_b in gives_up early a late place q n took_a next_a above b is.0 is.1 behind)
          ]

      -- one that is held beyond k, and precedes no call of the run, may be replaced by an earlier one
      module _ (timed : AreTimed parts.calls) (a b : ℕ) (less : a < b) (x y : ProblemCall Op Reply) (a_is : slice_get parts.calls a ≡ Some x) (b_is : slice_get parts.calls b ≡ Some y) (took_a : took x.op x.returned ≡ true) (took_b : took y.op y.returned ≡ true) (n : ℕ) (next_b : IsNextUnlock A y.process b n) (above : k < n) (last : (c : ℕ) → In c l → Before A b c → ⊥) (out : In a l → ⊥) (front rest : List ℕ) (place : l ≡ front ++ b ∷ rest) where
        legal_there : (u : ObjState) × Legal A parts.start (front ++ a ∷ rest) u
        legal_there =
            let acquires = took_acquires y.op y.returned took_b in
            let u = run.legal.0 in
            let m = legal_parts front b rest parts.start u (subst (λ (z : List ℕ). Legal A parts.start z u) place run.legal.1) in
            let s = stepped (slice_get parts.calls b) m.0 m.1 m.3 in
            let same : y ≡ s.0 = one_call b y s.0 b_is s.1 in
            let step : state_if_fits reply_eq.it y.returned (after m.0 y.process y.op) ≡ Some m.1 = subst (λ (z : ProblemCall Op Reply). state_if_fits reply_eq.it z.returned (after m.0 z.process z.op) ≡ Some m.1) (sym same) s.2 in
            let found = acquired_finds y.process y.returned m.1 m.0 y.op acquires.0 acquires.1 step in
            let more = held_rest y.process x.process rest u (subst (λ (z : ObjState). Legal A z rest u) found.1 m.4) (none_behind front b rest place y.process n (y, b_is, took_b, refl) next_b above) in
            let takes_it : next A m.0 a ≡ Some (Mutex (Some x.process)) = ap (after_call A m.0) a_is ∙ ap (λ (z : ObjState). state_if_fits reply_eq.it x.returned (after z x.process x.op)) found.0 ∙ took_takes x.process x.op x.returned took_a in
            (more.0, legal_together front a rest parts.start m.0 (Mutex (Some x.process)) more.0 m.2 takes_it more.1)

        ordered_there : (early : List ℕ) (c : ℕ) (late : List ℕ) → front ++ a ∷ rest ≡ early ++ c ∷ late → (z : ℕ) → Before A z c → (has (no_calls A) z ≡ true) ⊎ In z early
        ordered_there early c late e z before = by (placed front rest early late a c e)
          where
            by : ((mid : List ℕ) × (front ≡ early ++ c ∷ mid)) ⊎ (((c ≡ a) × (early ≡ front)) ⊎ ((mid : List ℕ) × (early ≡ front ++ a ∷ mid) × (rest ≡ mid ++ c ∷ late))) → (has (no_calls A) z ≡ true) ⊎ In z early
            by (inl (mid, same)) = run.ordered early c (mid ++ b ∷ rest) (place ∙ ap (λ (m : List ℕ). m ++ b ∷ rest) same ∙ append_assoc early (c ∷ mid) (b ∷ rest)) z before
            by (inr (inl (same, at))) = subst (λ (m : List ℕ). (has (no_calls A) z ≡ true) ⊎ In z m) (sym at) (run.ordered front b rest place z (before_later timed z a b y less b_is (subst (λ (i : ℕ). Before A z i) same before)))
            by (inr (inr (mid, at, same))) =
                let whole : l ≡ (front ++ b ∷ mid) ++ c ∷ late = place ∙ ap (λ (m : List ℕ). front ++ b ∷ m) same ∙ sym (append_assoc front (b ∷ mid) (c ∷ late)) in
                elim (run.ordered (front ++ b ∷ mid) c late whole z before) [
                  | inl h ↦ inl h
                  | inr h ↦ inr (subst (In z) (sym at) (elim (in_either z front (b ∷ mid) h) [
                    | inl f ↦ in_early z front (a ∷ mid) f
                    | inr (inl is) ↦ absurd (last c (subst (In c) (sym whole) (in_late c (front ++ b ∷ mid) (c ∷ late) (inl refl))) (subst (λ (i : ℕ). Before A i c) is before))
                    | inr (inr more) ↦ in_late z front (a ∷ mid) (inr more)
                  ]))
                ]

        replaced : IsRun A (front ++ a ∷ rest)
        replaced = record {
          distinct = distinct_with front a b rest (subst IsDistinct place run.distinct) (λ h. out (subst (In a) (sym place) h));
          outside = λ c h. has_none (length parts.calls) c;
          legal = legal_there;
          ordered = ordered_there;
        }

      module _ (timed : AreTimed parts.calls) where
        above_none : (b n : ℕ) (y : ProblemCall Op Reply) → slice_get parts.calls b ≡ Some y → IsNextUnlock A y.process b n → k < n → k < length parts.calls
        above_none b n y is next_b above = elim next_b.1 [
          | inl end ↦ omega (arith, end, above)
          | inr at ↦ (let w = slice_get_within parts.calls n at.1.0 at.1.1 in omega (arith, w, above))
        ]

        replaced_at : (a b n m : ℕ) → a < b → IsHeldUntil A a n → IsHeldUntil A b m → k < n → k < m → (Before A b k → ⊥) → (In a l → ⊥) → In b l → (front rest : List ℕ) × (l ≡ front ++ b ∷ rest) × IsRun A (front ++ a ∷ rest)
        replaced_at a b n m less (inr (none, zero)) second above more open_b out ib = absurd (omega (arith, above, zero))
        replaced_at a b n m less (inl first) (inr (none, zero)) above more open_b out ib = absurd (omega (arith, more, zero))
        replaced_at a b n m less (inl (q, (x, x_is, took_x, x_own), next_a)) (inl (r, (y, y_is, took_y, y_own), next_b)) above more open_b out ib =
            let place = in_place b l ib in
            let own : IsNextUnlock A y.process b m = subst (λ (i : ℕ). IsNextUnlock A i b m) (sym y_own) next_b in
            let within = above_none b m y y_is own more in
            (place.0, place.1, place.2, replaced timed a b less x y x_is y_is took_x took_y m own more (λ c h before. open_b (up_to_last c (up_to c h) within before)) out place.0 place.1 place.2)
          where
            up_to_last : (c : ℕ) → c ≤ k → k < length parts.calls → Before A b c → Before A b k
            up_to_last c low within before = elim (three c k) [
              | inl fewer ↦ before_later timed b c k (slice_index_or parts.calls k y) fewer (slice_get-get_or parts.calls k y within) before
              | inr (inl same) ↦ subst (λ (i : ℕ). Before A b i) same before
              | inr (inr over) ↦ absurd (omega (arith, over, low))
            ]

    -- So the row tells which calls may stand in for others.
    pub stand_ins : AreTimed parts.calls → (row : List ℕ) → AreHeldUntil A row → AreStandIns A row
    stand_ins timed row held = record {
      one = λ k a b other above more l run up_to ia ib. not_both k l run up_to a b (slice_index_or row a 0) (slice_index_or row b 0) other (held a) (held b) above more ia ib;
      in_place = λ k a b less above more open_b l run up_to ib. replaced_at k l run up_to timed a b (slice_index_or row a 0) (slice_index_or row b 0) less (held a) (held b) above more open_b
          (λ ia. not_both k l run up_to a b (slice_index_or row a 0) (slice_index_or row b 0) (λ e. omega (arith, less, e)) (held a) (held b) above more ia ib)
          ib;
    }
