-- Two calls that cross: there is no linearization.
use Rattle.std.proofs.Common.{◌≡◌, ◌≢◌, ℕ, ◌+◌, ◌<◌, ◌≤◌, Some, IsSome, List, ◌∷◌, ◌++◌, length, ◌⊎◌, inl, inr, refl, sym, ◌∙◌, ap, subst, append_assoc, arith}
use Rattle.std.specs.List.{slice_get}
use Rattle.std.specs.Prelude.{IsSomeAnd}
use Rattle.std.proofs.lemmas.Option.{slice_get_within, same_Some}
use Rattle.lin_history.specs.declared.problems.timeline.ProblemEvent.{ProblemEvent}
use Rattle.lin_history.specs.declared.problems.timeline.ProblemEvent.TheVariants.{Call, Return}
use Rattle.lin_history.specs.OptionLemmas.{some_and, and_some, some_is}
use Rattle.lin_history.specs.Problems.EventLemmas.{same_call, same_return}
use Rattle.lin_history.specs.Problems.Lists.{In, IsDistinct}
use Rattle.lin_history.specs.Problems.ListLemmas.{has_none, in_early, in_place, apart}
use Rattle.lin_history.specs.Problems.Problem.{Problem}
use Rattle.lin_history.specs.Problems.Precedence.{Before, IsCompleted}
use Rattle.lin_history.specs.Problems.Linearizations.{IsLinearization}
use Rattle.lin_history.specs.Problems.Needs.{NeedNumbers, Needs}
use Rattle.lin_history.specs.Problems.Timeline.{IsTimeline}
use Rattle.lin_ahead.specs.Behind.{AreOtherNeeds}
use Rattle.lin_decide.specs.Crossing.{SomeCross}
use Rattle.lin_parts.specs.RunLemmas.{run_before}

below : (i j : ℕ) → j < i + 1 → (j < i) ⊎ (j ≡ i)
below i j h = grind arith

module _ {State Op Reply : Type 0} (p : Problem State Op Reply) where
  -- b precedes a, is there, and needs a
  crossed : (a b : ℕ) → Needs p a b → Before p b a → IsCompleted p b → (l : List ℕ) → IsLinearization p l → ⊥
  crossed a b needs before done l lin =
      let s = in_place b l (elim (lin.complete b done) [ inl h ↦ absurd (let none = has_none (length p.calls) b in cc) | inr h ↦ h ]) in
      let t = in_place a s.0 (needs l lin s.0 s.1 s.2) in
      twice s.0 s.1 t.0 t.1 s.2 t.2
    where
      -- b stands behind a, and in front of it
      twice : (early late first rest : List ℕ) → l ≡ early ++ b ∷ late → early ≡ first ++ a ∷ rest → ⊥
      twice early late first rest e f =
          apart b early (b ∷ late) (subst (λ (x : List ℕ). IsDistinct x) e lin.continuation.distinct)
          (subst (In b) (sym f) (in_early b first (a ∷ rest) (run_before p l lin.continuation first a (rest ++ b ∷ late) (e ∙ ap (λ (x : List ℕ). x ++ b ∷ late) f ∙ append_assoc first (a ∷ rest) (b ∷ late)) b before)))
          (inl refl)

  module _ (rows : NeedNumbers) (events : List ProblemEvent) (t : IsTimeline p events) where
    -- What is known once so many events were looked at: the most that the calls which returned by then need, and that no call which was
    -- called by then crosses one.
    pub record Looked (i most : ℕ) : Type 0 where
      pub told : (most ≡ 0) ⊎ ((a : ℕ) × (j : ℕ) × (j < i) × (slice_get events j ≡ Some (Return a)) × (slice_get rows.from a ≡ Some most))
      pub most_of : (a j n : ℕ) → j < i → slice_get events j ≡ Some (Return a) → slice_get rows.from a ≡ Some n → n ≤ most
      pub none : (b j : ℕ) → j < i → slice_get events j ≡ Some (Call b) → (a m n : ℕ) → Before p a b → slice_get rows.by b ≡ Some m → slice_get rows.from a ≡ Some n → m < n → ⊥

    pub looked_at_none : Looked 0 0
    looked_at_none = record {
      told = inl refl;
      most_of = λ a j n h. absurd (omega (arith, h));
      none = λ b j h. absurd (omega (arith, h));
    }

    -- a call that precedes another has returned
    returned_before : (a b : ℕ) → Before p a b → IsCompleted p a
    returned_before a b h =
        let x = some_and (slice_get p.calls a) (λ x. IsSomeAnd x.returned (λ r. IsSomeAnd (slice_get p.calls b) (λ y. r.0 < y.called))) h in
        let r = some_and x.0.returned (λ r. IsSomeAnd (slice_get p.calls b) (λ y. r.0 < y.called)) x.2 in
        and_some (slice_get p.calls a) (λ x. IsSome x.returned) x.0 x.1 (some_is x.0.returned r.0 r.1)

    pub looked_at_call : (i b most : ℕ) → Looked i most → slice_get events i ≡ Some (Call b) → (IsSomeAnd (slice_get rows.by b) (λ m. m < most) → ⊥) → Looked (i + 1) most
    looked_at_call i b most l at free = record {
      told = elim l.told [ inl z ↦ inl z | inr q ↦ inr (q.0, q.1, (let h = q.2 in omega (arith, h)), q.3, q.4) ];
      most_of = λ a j n h e. elim (below i j h) [
        | inl k ↦ l.most_of a j n k e
        | inr k ↦ absurd (let f : Some (Return a) ≡ Some (Call b) = sym e ∙ ap (slice_get events) k ∙ at in cc)
      ];
      none = λ c j h e. elim (below i j h) [
        | inl k ↦ l.none c j k e
        | inr k ↦ λ a m n before by from less.
            let same : c ≡ b = same_call c b (same_Some (Call c) (Call b) (sym e ∙ ap (slice_get events) k ∙ at)) in
            let r = t.returned a (returned_before a c before) in
            let early = (t.precedence a c r.0 j r.1 e).1 before in
            let high = l.most_of a r.0 n (omega (arith, early, k)) r.1 from in
            free (and_some (slice_get rows.by b) (λ m. m < most) m (ap (slice_get rows.by) (sym same) ∙ by) (omega (arith, less, high)))
      ];
    }

    pub looked_at_return : (i a most next : ℕ) → Looked i most → slice_get events i ≡ Some (Return a) → most ≤ next → ((n : ℕ) → slice_get rows.from a ≡ Some n → n ≤ next) → (next ≡ most) ⊎ (slice_get rows.from a ≡ Some next) → Looked (i + 1) next
    looked_at_return i a most next l at least own told = record {
      told = elim told [
        | inl same ↦ elim l.told [ inl z ↦ inl (same ∙ z) | inr q ↦ inr (q.0, q.1, (let h = q.2 in omega (arith, h)), q.3, q.4 ∙ ap (λ (n : ℕ). Some n) (sym same)) ]
        | inr from ↦ inr (a, i, (omega arith), at, from)
      ];
      most_of = λ c j n h e from. elim (below i j h) [
        | inl k ↦ (let low = l.most_of c j n k e from in omega (arith, low, least))
        | inr k ↦ own n (ap (slice_get rows.from) (same_return a c (same_Some (Return a) (Return c) (sym at ∙ ap (slice_get events) (sym k) ∙ e))) ∙ from)
      ];
      none = λ c j h e. elim (below i j h) [
        | inl k ↦ l.none c j k e
        | inr k ↦ absurd (let f : Some (Call c) ≡ Some (Return a) = sym e ∙ ap (slice_get events) k ∙ at in cc)
      ];
    }

    -- a call that is needed before what a call that has returned needs most
    pub crossing : (i b most : ℕ) → Looked i most → slice_get events i ≡ Some (Call b) → IsSomeAnd (slice_get rows.by b) (λ m. m < most) → SomeCross p rows
    crossing i b most l at needed =
        let m = some_and (slice_get rows.by b) (λ m. m < most) needed in
        let less = m.2 in
        elim l.told [
          | inl z ↦ absurd (omega (arith, less, z))
          | inr q ↦ (q.0, b, m.0, most, (t.precedence q.0 b q.1 i q.3 at).0 q.2, m.1, q.4, less)
        ]

    pub no_crossing : (i most : ℕ) → length events ≤ i → length rows.by ≡ length p.calls → Looked i most → SomeCross p rows → ⊥
    no_crossing i most over each l c =
        let within = slice_get_within rows.by c.1 c.2 c.5 in
        let at = t.called c.1 (omega (arith, within, each)) in
        let low = slice_get_within events at.0 (Call c.1) at.1 in
        l.none c.1 at.0 (omega (arith, low, over)) at.1 c.0 c.2 c.3 c.4 c.5 c.6 c.7

    -- no call precedes itself
    not_itself : (a b : ℕ) → b < length p.calls → Before p a b → a ≢ b
    not_itself a b h before same =
        let r = t.returned a (returned_before a b before) in
        let k = t.called b h in
        let early = (t.precedence a b r.0 k.0 r.1 k.1).1 before in
        let late = t.after_call a k.0 r.0 (k.1 ∙ ap (λ (x : ℕ). Some (Call x)) (sym same)) r.1 in
        omega (arith, early, late)

    pub crossed_none : AreOtherNeeds p rows → SomeCross p rows → (l : List ℕ) → IsLinearization p l → ⊥
    crossed_none are c =
        let within = slice_get_within rows.by c.1 c.2 c.5 in
        let each = are.each_by in
        let other = not_itself c.0 c.1 (omega (arith, within, each)) c.4 in
        crossed c.1 c.0 (are.needed c.1 c.0 c.2 c.3 c.5 c.6 c.7 (λ same. other (sym same))) c.4 (returned_before c.0 c.1 c.4)
