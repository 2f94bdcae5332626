-- The calls by their events, and the unlocks among them.
use Rattle.std.proofs.Common.{◌≡◌, ℕ, ◌+◌, ◌<◌, ◌≤◌, leb, Bool, true, false, Some, List, inl, inr, refl, sym, ◌∙◌, subst, true≢false, arith}
use Rattle.std.specs.List.{slice_get}
use Rattle.std.specs.List.Sorted.{IsPartitionPoint, IsPartitionedBy}
use Rattle.std.proofs.lemmas.Bool.{leb-true, le-leb, cases_lt}
use Rattle.std.proofs.lemmas.Bool.Decides.{leb_tells}
use Rattle.std.proofs.lemmas.Option.{slice_get-get_or, get_or_from_slice_get, slice_get_within}
use Rattle.std.specs.Prelude.{not, slice_index_or}
use Rattle.lin_object.specs.declared.op.Op.{Op}
use Rattle.lin_object.specs.declared.op.Op.TheVariants.{Unlock}
use Rattle.lin_object.specs.declared.reply.Reply.{Reply}
use Rattle.lin_object.specs.declared.state.ObjState.{ObjState}
use Rattle.lin_history.specs.declared.problems.problem.ProblemCall.{ProblemCall}
use Rattle.lin_history.specs.Problems.ProblemParts.{ProblemParts, AreTimed}

-- ---- calls by their events

-- it was called by the event
abbrev pub is_called_by : ℕ → ProblemCall Op Reply → Bool
is_called_by event x = leb x.called event

module _ (calls : List (ProblemCall Op Reply)) (event : ℕ) where
  pub calls_in_two : AreTimed calls → IsPartitionedBy (is_called_by event) calls
  calls_in_two timed i j d low within called = elim (cases_lt i j) [
    | inl less ↦ (
        let first = slice_get-get_or calls i d (omega (arith, less, within)) in
        let second = slice_get-get_or calls j d within in
        let order = timed.called i j (slice_index_or calls i d) (slice_index_or calls j d) less first second in
        let told = leb-true (slice_index_or calls j d).called event called in
        le-leb (slice_index_or calls i d).called event (omega (arith, order, told))
        )
    | inr more ↦ subst (λ (k : ℕ). is_called_by event (slice_index_or calls k d) ≡ true) (let e : j ≡ i = omega (arith, low, more) in e) called
  ]

  module _ (point : ℕ) (is : IsPartitionPoint (λ x. is_called_by event x ≡ true) (λ x. is_called_by event x ≡ false) calls point) where
    pub called_before : (c : ℕ) (x : ProblemCall Op Reply) → slice_get calls c ≡ Some x → c < point → x.called ≤ event
    called_before c x e less = leb-true x.called event (subst (λ (y : ProblemCall Op Reply). is_called_by event y ≡ true) (get_or_from_slice_get calls c x x e) (is.0 c x (omega arith) less))

    pub called_after : (c : ℕ) (x : ProblemCall Op Reply) → slice_get calls c ≡ Some x → point ≤ c → event < x.called
    called_after c x e more =
        let f : is_called_by event x ≡ false = subst (λ (y : ProblemCall Op Reply). is_called_by event y ≡ false) (get_or_from_slice_get calls c x x e) (is.1 c x more (slice_get_within calls c x e)) in
        elim (leb_tells x.called event) [
          | inl t ↦ absurd (let g = t.0 in cc)
          | inr t ↦ t.1
        ]

-- ---- unlocks

pub not_in : (b : Bool) → not b ≡ true → b ≡ false
not_in true e = absurd (true≢false (sym e))
not_in false e = refl

module _ {Object : Type 0} (parts : ProblemParts Object ObjState Op Reply) (process first : ℕ) where
  -- none of the calls from the first one to the end is an unlock of the process
  abbrev pub NoneAmong : ℕ → Type 0
  NoneAmong end = (w : ℕ) (x : ProblemCall Op Reply) → slice_get parts.calls w ≡ Some x → x.op ≡ Unlock → x.process ≡ process → first ≤ w → w < end → ⊥

  pub none_more : (end : ℕ) (y : ProblemCall Op Reply) → slice_get parts.calls end ≡ Some y → ((y.op ≡ Unlock) × (y.process ≡ process) → ⊥) → NoneAmong end → NoneAmong (end + 1)
  none_more end y here other none w x e op own low high = elim (cases_lt w end) [
    | inl less ↦ none w x e op own low less
    | inr more ↦ (
        let at : w ≡ end = omega (arith, high, more) in
        let same : x ≡ y = (let f : Some x ≡ Some y = sym e ∙ subst (λ (k : ℕ). slice_get parts.calls k ≡ Some y) (sym at) here in cc) in
        other (subst (λ (z : ProblemCall Op Reply). (z.op ≡ Unlock) × (z.process ≡ process)) same (op, own))
        )
  ]
