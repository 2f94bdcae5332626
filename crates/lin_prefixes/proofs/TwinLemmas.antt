-- A call that repeats an earlier one: where a run has it, the earlier one fits right before it.
use Rattle.std.proofs.Common.{◌≡◌, ℕ, ◌<◌, Some, List, [], ◌∷◌, ◌++◌, length, ◌⊎◌, inl, inr, refl, sym, ◌∙◌, ap, subst, append_assoc, arith}
use Rattle.std.specs.List.{slice_get}
use Rattle.lin_object.specs.declared.op.Op.{Op}
use Rattle.lin_object.specs.declared.reply.Reply.{Reply}
use Rattle.lin_object.specs.declared.state.ObjState.{ObjState}
use Rattle.lin_object.specs.contracts.reply.ReplyPartialEq.TheImpl.{eq-value as reply_eq}
use Rattle.lin_object.specs.contracts.state.ObjStatePartialEq.TheImpl.{eq-value as state_eq}
use Rattle.lin_object.specs.Kinds.{after}
use Rattle.lin_object.specs.StepAnswers.{ChangesNothing, IgnoresProcess}
use Rattle.lin_history.specs.declared.problems.problem.ProblemCall.{ProblemCall}
use Rattle.lin_history.specs.Problems.AnyProblem.{any_problem}
use Rattle.lin_history.specs.Problems.Lists.{In, IsDistinct}
use Rattle.lin_history.specs.Problems.ListLemmas.{has_none, in_early, in_late, in_place}
use Rattle.lin_history.specs.Problems.LegalLists.{Legal, fits, next}
use Rattle.lin_history.specs.Problems.Problem.{Problem}
use Rattle.lin_history.specs.Problems.ProblemParts.{ProblemParts, AreTimed}
use Rattle.lin_history.specs.Problems.Precedence.{Before}
use Rattle.lin_history.specs.Problems.Linearizations.{IsRun}
use Rattle.lin_parts.specs.PartLemmas.{legal_calls}
use Rattle.lin_parts.specs.RunLemmas.{before_later, run_before}
use Rattle.lin_prefixes.specs.Prefixes.{IsRunOf, IsWith, StandsBefore}
use Rattle.lin_prefixes.proofs.FreedLemmas.{in_with, in_without, join, split}
use Rattle.lin_prefixes.proofs.ItemStepLemmas.{again, answered}
use Rattle.lin_prefixes.proofs.LackLemmas.{in_or_not}
use Rattle.lin_prefixes.proofs.QuestionLemmas.{exact, idle_call}

split_place : (xs ys early : List ℕ) (b : ℕ) (late : List ℕ) → xs ++ ys ≡ early ++ b ∷ late → ((more : List ℕ) × (early ≡ xs ++ more) × (ys ≡ more ++ b ∷ late)) ⊎ ((more : List ℕ) × (xs ≡ early ++ b ∷ more))
split_place [] ys early b late e = inl (early, refl, e)
split_place (x ∷ xs) ys [] b late e = inr (xs, (let h : x ≡ b = cc in ap (λ (c : ℕ). c ∷ xs) h))
split_place (x ∷ xs) ys (z ∷ early) b late e =
    let h : x ≡ z = cc in
    let tail : xs ++ ys ≡ early ++ b ∷ late = cc in
    elim (split_place xs ys early b late tail) [
      | inl q ↦ (let f = q.1 in inl (q.0, cc, q.2))
      | inr q ↦ (let f = q.1 in inr (q.0, cc))
    ]

-- a list with one call more
pub distinct_with : (xs ys : List ℕ) (a : ℕ) → IsDistinct (xs ++ ys) → (In a (xs ++ ys) → ⊥) → IsDistinct (xs ++ a ∷ ys)
distinct_with [] ys a d out = (out, d)
distinct_with (z ∷ xs) ys a d out = (
  (λ h. elim (in_without z a xs ys h) [ inl still ↦ d.0 still | inr same ↦ out (inl (sym same)) ]),
  distinct_with xs ys a d.1 (λ h. out (inr h)),
)

module _ (p : Problem ObjState Op Reply) (timed : AreTimed p.calls) (k a b : ℕ) (less : a < b) (idle : (s t : ObjState) → next p s b ≡ Some t → t ≡ s) (alike : (s t : ObjState) → next p s b ≡ Some t → next p s a ≡ Some t) where
  module _ (front rest : List ℕ) (run : IsRun p (front ++ b ∷ rest)) (out : In a (front ++ b ∷ rest) → ⊥) where
    legal_with : (t : ObjState) × Legal p p.start (front ++ a ∷ (b ∷ rest)) t
    legal_with =
        let parts = split p front (b ∷ rest) p.start run.legal.0 run.legal.1 in
        let here = parts.2 in
        let same : here.0 ≡ parts.0 = idle parts.0 here.0 here.1 in
        let first : next p parts.0 a ≡ Some parts.0 = alike parts.0 here.0 here.1 ∙ ap Some same in
        (run.legal.0, join p front (a ∷ (b ∷ rest)) p.start parts.0 run.legal.0 parts.1 (parts.0, first, here))

    there_b : b < length p.calls
    there_b = legal_calls p (front ++ b ∷ rest) p.start run.legal.0 run.legal.1 b (in_late b front (b ∷ rest) (inl refl))

    ordered_with : (early : List ℕ) (y : ℕ) (late : List ℕ) → front ++ a ∷ (b ∷ rest) ≡ early ++ y ∷ late → (x : ℕ) → Before p x y → In x early
    ordered_with early y late e x before = elim (split_place front (a ∷ (b ∷ rest)) early y late e) [
      | inr q ↦ run_before p (front ++ b ∷ rest) run early y (q.0 ++ b ∷ rest) (ap (λ (l : List ℕ). l ++ b ∷ rest) q.1 ∙ append_assoc early (y ∷ q.0) (b ∷ rest)) x before
      | inl q ↦ behind q.0 q.1 q.2
    ]
      where
        behind : (more : List ℕ) → early ≡ front ++ more → a ∷ (b ∷ rest) ≡ more ++ y ∷ late → In x early
        behind [] is at =
            let same : a ≡ y = cc in
            let earlier : Before p x b = before_later p timed x a b less there_b (subst (λ (c : ℕ). Before p x c) (sym same) before) in
            subst (In x) (sym is) (in_early x front [] (run_before p (front ++ b ∷ rest) run front b rest refl x earlier))
        behind (z ∷ more) is at =
            let tail : b ∷ rest ≡ more ++ y ∷ late = cc in
            let place : front ++ b ∷ rest ≡ (front ++ more) ++ y ∷ late = ap (λ (l : List ℕ). front ++ l) tail ∙ sym (append_assoc front more (y ∷ late)) in
            subst (In x) (sym is) (in_with x z front more (run_before p (front ++ b ∷ rest) run (front ++ more) y late place x before))

    run_with : IsRun p (front ++ a ∷ (b ∷ rest))
    run_with = record {
      distinct = distinct_with front (b ∷ rest) a run.distinct out;
      outside = λ c h. has_none (length p.calls) c;
      legal = legal_with;
      ordered = λ early y late e x before. inr (ordered_with early y late e x before);
    }

  stands : StandsBefore p k a b
  stands r w there = elim (in_or_not a r) [
    | inl has ↦ inl has
    | inr out ↦ (let m = in_place b r there in inr (placed m.0 m.1 m.2 out))
  ]
    where
      placed : (front rest : List ℕ) → r ≡ front ++ b ∷ rest → (In a r → ⊥) → (l : List ℕ) × IsRunOf p k l × IsWith a r l
      placed front rest e out = (
        front ++ a ∷ (b ∷ rest),
        record {
          run = run_with front rest (subst (λ (l : List ℕ). IsRun p l) e w.run) (λ h. out (subst (In a) (sym e) h));
          up_to = λ c h. elim (in_without c a front (b ∷ rest) h) [
            | inl own ↦ w.up_to c (subst (In c) (sym e) own)
            | inr same ↦ (let high = w.up_to b there in omega (arith, high, less, same))
          ];
          front = λ x before. in_with x a front (b ∷ rest) (subst (In x) e (w.front x before));
        },
        record { front = front; rest = b ∷ rest; without = e; with_it = refl },
      )

-- ---- calls with one operation and one reply

module _ {Object : Type 0} (whole : ProblemParts Object ObjState Op Reply) where
  pub repeated : (a b k : ℕ) (x y : ProblemCall Op Reply) (q r : ℕ × Reply) → AreTimed whole.calls → a < b → slice_get whole.calls a ≡ Some x → slice_get whole.calls b ≡ Some y → x.op ≡ y.op → x.returned ≡ Some q → y.returned ≡ Some r → q.1 ≡ r.1
      → ChangesNothing state_eq.it reply_eq.it after y.op y.returned → IgnoresProcess reply_eq.it after y.op y.returned → StandsBefore (any_problem whole) k a b
  repeated a b k x y q r timed less at_a at_b op back_a back_b reply idle any =
      stands (any_problem whole) timed k a b less (idle_call whole b y at_b idle) (λ s t step.
      let h = answered (exact whole) s t b y at_b step in
      again (exact whole) s t a x h.0 at_a
      (subst (λ (o : Op). after s x.process o ≡ Some (t, h.0)) (sym op) (any s y.process x.process (t, h.0) h.1 h.2))
      (ap (fits reply_eq.it h.0) back_a ∙ (ap (reply_eq.it h.0) reply ∙ (sym (ap (fits reply_eq.it h.0) back_b) ∙ h.2))))
