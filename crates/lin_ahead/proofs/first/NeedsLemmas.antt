-- A completion of a reachable configuration, put behind its run, is a linearization: so none begins with a call that needs one that is left out, or with a pending one that would get a reply which is owed.
use Rattle.std.proofs.Common.{◌≡◌, ℕ, Bool, true, false, Some, List, [], ◌∷◌, ◌++◌, length, ◌⊎◌, inl, inr, refl, sym, ◌∙◌, ap, subst, append_assoc}
use Rattle.std.specs.Prelude.{Option, None, is_some, IfSome}
use Rattle.lin_history.specs.Problems.Problem.{Problem}
use Rattle.lin_history.specs.Problems.Lists.{In, IsDistinct}
use Rattle.lin_history.specs.Problems.ListLemmas.{apart, has_none, in_early, in_late, in_either, in_place}
use Rattle.lin_history.specs.Problems.LegalLists.{Legal}
use Rattle.lin_history.specs.Problems.Precedence.{Before, IsCompleted}
use Rattle.lin_history.specs.Problems.Continuations.{has, no_calls, IsCompletion}
use Rattle.lin_history.specs.Problems.Linearizations.{IsRun, IsLinearization}
use Rattle.lin_history.specs.Problems.Configurations.{IsReachable}
use Rattle.lin_search.specs.CallSetLemmas.{no_calls_has}
use Rattle.lin_search.specs.AlikeLemmas.{AreAlike, turned, like_completion}
use Rattle.lin_object.specs.StepAnswers.{SameStep}
use Rattle.lin_ahead.specs.First.FirstProgress.{BeginsNone}
use Rattle.lin_ahead.specs.Behind.{NeedsBehind}
use Rattle.lin_ahead.specs.Items.Owed.{IsPendingAnswer, IsOwed}

distinct_joined : (xs ys : List ℕ) → IsDistinct xs → IsDistinct ys → ((c : ℕ) → In c xs → In c ys → ⊥) → IsDistinct (xs ++ ys)
distinct_joined [] ys d e apart = e
distinct_joined (x ∷ xs) ys d e apart = (
  (λ h. elim (in_either x xs ys h) [ inl p ↦ d.0 p | inr p ↦ apart x (inl refl) p ]),
  distinct_joined xs ys d.1 e (λ c h k. apart c (inr h) k),
)

-- a place in a list of two parts is in the first or in the second
pub place_split : (xs ys early : List ℕ) (b : ℕ) (late : List ℕ) → xs ++ ys ≡ early ++ b ∷ late → ((rest : List ℕ) × (xs ≡ early ++ b ∷ rest)) ⊎ ((front : List ℕ) × (early ≡ xs ++ front) × (ys ≡ front ++ b ∷ late))
place_split [] ys early b late e = inr (early, refl, e)
place_split (x ∷ xs) ys [] b late e = inl (xs, (let h : x ≡ b = cc in ap (λ (y : ℕ). y ∷ xs) h))
place_split (x ∷ xs) ys (d ∷ early) b late e =
    let h : x ≡ d = cc in
    let tail : xs ++ ys ≡ early ++ b ∷ late = cc in
    elim (place_split xs ys early b late tail) [
      | inl q ↦ (let r = q.1 in inl (q.0, cc))
      | inr q ↦ (let r = q.1 in inr (q.0, cc, q.2))
    ]

module _ {State Op Reply : Type 0} {p : Problem State Op Reply} where
  -- what a call precedes does not stand in front of it
  pub not_before : (early : List ℕ) (i : ℕ) (late : List ℕ) → IsRun p (early ++ i ∷ late) → (j : ℕ) → Before p i j → In j early → ⊥
  not_before early i late run j before h =
      let at = in_place j early h in
      let eq : early ++ i ∷ late ≡ at.0 ++ j ∷ (at.1 ++ i ∷ late) = ap (λ (l : List ℕ). l ++ i ∷ late) at.2 ∙ append_assoc at.0 (j ∷ at.1) (i ∷ late) in
      elim (run.ordered at.0 j (at.1 ++ i ∷ late) eq i before) [
        | inl q ↦ (let x = has_none (length p.calls) i in cc)
        | inr q ↦ apart i early (i ∷ late) run.distinct (subst (λ (l : List ℕ). In i l) (sym at.2) (in_early i at.0 (j ∷ at.1) q)) (inl refl)
      ]

  -- a completed call stands in a linearization
  pub stands : (l : List ℕ) (i : ℕ) → IsLinearization p l → IsCompleted p i → (early : List ℕ) × (late : List ℕ) × (l ≡ early ++ i ∷ late)
  stands l i whole done = elim (whole.complete i done) [
    | inl q ↦ absurd (let x = has_none (length p.calls) i in cc)
    | inr q ↦ in_place i l q
  ]

module _ {State Op Reply : Type 0} (p : Problem State Op Reply) where
  legal_joined : (xs ys : List ℕ) (s t u : State) → Legal p s xs t → Legal p t ys u → Legal p s (xs ++ ys) u
  legal_joined [] ys s t u k l = subst (λ (x : State). Legal p x ys u) (sym k) l
  legal_joined (x ∷ xs) ys s t u k l = (k.0, k.1, legal_joined xs ys k.0 t u k.2 l)

  -- the run of a reachable configuration, and then a completion of it
  pub joined : AreAlike p p → (set : List Bool) (s : State) → (k : IsReachable p set s) → (c : List ℕ) → IsCompletion p set s c → IsLinearization p (k.run.0 ++ c)
  joined alike set s k c h = record {
    continuation = record {
      distinct = distinct_joined l c run.distinct more.continuation.distinct (λ d i j. let x = (k.run.2 d).1 i in let y = more.continuation.outside d j in cc);
      outside = λ d i. no_calls_has (length p.calls) d;
      legal = (more.continuation.legal.0, legal_joined l c p.start e more.continuation.legal.0 k.run.3.1 more.continuation.legal.1);
      ordered = ordered;
    };
    complete = λ d i. elim (more.complete d i) [
      | inl q ↦ inr (in_early d l c ((k.run.2 d).0 q))
      | inr q ↦ inr (in_late d l c q)
    ];
  }
    where
      l : List ℕ
      l = k.run.0

      run : IsRun p l
      run = k.run.1

      e : State
      e = k.run.3.0

      more : IsCompletion p set e c
      more = like_completion alike.back set s e c (turned alike e s k.run.3.2) h

      ordered : (early : List ℕ) (b : ℕ) (late : List ℕ) → l ++ c ≡ early ++ b ∷ late → (a : ℕ) → Before p a b → (has (no_calls p) a ≡ true) ⊎ In a early
      ordered early b late eq a before = elim (place_split l c early b late eq) [
        | inl q ↦ run.ordered early b q.0 q.1 a before
        | inr q ↦ elim (more.continuation.ordered q.0 b late q.2 a before) [
          | inl i ↦ inr (subst (λ (m : List ℕ). In a m) (sym q.1) (in_early a l q.0 ((k.run.2 a).0 i)))
          | inr i ↦ inr (subst (λ (m : List ℕ). In a m) (sym q.1) (in_late a l q.0 i))
        ]
      ]

  -- no completion of a reachable configuration begins with a call that needs one that is left out
  needs_left_out : AreAlike p p → (set : List Bool) (s : State) → IsReachable p set s → (a b : ℕ) → NeedsBehind p set a b → has set a ≡ false → BeginsNone p set s b
  needs_left_out alike set s k a b needs out c h =
      let there : In a k.run.0 = needs (k.run.0 ++ b ∷ c) k.run.0 c (joined alike set s k (b ∷ c) h) refl (λ d i. h.continuation.outside d (inr i)) in
      let inside = (k.run.2 a).1 there in
      cc

  -- the same, of a call that may have been found
  pub begins_left_out : AreAlike p p → (set : List Bool) (s : State) → IsReachable p set s → (found : Option ℕ) (b : ℕ) → IfSome found (λ (a : ℕ). NeedsBehind p set a b × (has set a ≡ false)) → is_some found ≡ true → BeginsNone p set s b
  begins_left_out alike set s k None b h e = absurd (cc)
  begins_left_out alike set s k (Some a) b h e = needs_left_out alike set s k a b h.0 h.1

-- a step that is alike has such a reply too
alike_answer : {State Reply : Type 0} (same_state : State → State → Bool) (same_reply : Reply → Reply → Bool) (m n : Option (State × Reply)) (t : State) (r : Reply) → SameStep same_state same_reply m n → n ≡ Some (t, r) → (u : State) × (q : Reply) × (m ≡ Some (u, q)) × (same_reply q r ≡ true)
alike_answer ss sr None None t r k e = absurd (cc)
alike_answer ss sr (Some a) None t r k e = absurd k
alike_answer ss sr None (Some b) t r k e = absurd k
alike_answer {State} {Reply} ss sr (Some a) (Some b) t r k e =
    let same : b ≡ (t, r) = cc in
    (a.0, a.1, refl, subst (λ (q : Reply). sr a.1 q ≡ true) (ap (λ (answer : State × Reply). answer.1) same) k.1)

module _ {State Op Reply : Type 0} (p : Problem State Op Reply) where
  -- no completion begins with a pending call whose reply would be one that is owed
  pub owed_begins_none : AreAlike p p → ((e s : State) (process : ℕ) (op : Op) → p.same_state e s ≡ true → SameStep p.same_state p.same_reply (p.after e process op) (p.after s process op)) → (set : List Bool) (s : State) → IsReachable p set s → (c : ℕ) (r : Reply) → IsPendingAnswer p s c r → IsOwed p r → BeginsNone p set s c
  owed_begins_none alike steps set s k c r answer owed cs h =
      let x = answer.0 in
      let there = alike_answer p.same_state p.same_reply (p.after k.run.3.0 x.process x.op) (p.after s x.process x.op) answer.3.0 r (steps k.run.3.0 s x.process x.op k.run.3.2) answer.3.1 in
      owed (k.run.0 ++ c ∷ cs) k.run.0 cs c k.run.3.0 there.1 (joined p alike set s k (c ∷ cs) h) refl k.run.3.1 (x, answer.1, answer.2, (there.0, there.2)) there.3
