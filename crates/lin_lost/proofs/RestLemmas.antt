-- Which calls are kept, and whether each item is taken as often as it is put in, as the loops go through the calls.
use Rattle.std.proofs.Common.{◌≡◌, ℕ, ◌+◌, ◌<◌, ◌≤◌, Bool, true, false, Option, Some, None, List, [], ◌∷◌, ◌++◌, length, ◌⊎◌, inl, inr, refl, sym, ◌∙◌, ap, subst, arith}
use Rattle.std.specs.Prelude.{◌↔◌, ℤ, IfSome, nat_eq, slice_get}
use Rattle.std.proofs.lemmas.Option.{slice_get_within, same_Some}
use Rattle.lin_object.specs.declared.op.Op.{Op}
use Rattle.lin_object.specs.declared.op.Op.TheVariants.{Enqueue, Dequeue, Push, Pop}
use Rattle.lin_object.specs.declared.reply.Reply.{Reply}
use Rattle.lin_object.specs.declared.state.ObjState.{ObjState}
use Rattle.lin_history.specs.declared.problems.problem.ProblemCall.{ProblemCall}
use Rattle.lin_history.specs.Problems.Lists.{In}
use Rattle.lin_history.specs.Problems.Problem.{Problem}
use Rattle.lin_history.specs.Problems.ProblemParts.{ProblemParts}
use Rattle.lin_history.specs.Problems.Linearizations.{IsLinearization}
use Rattle.lin_history.specs.Problems.AnyProblem.{any_problem}
use Rattle.lin_history.specs.Problems.ListLemmas.{in_early, in_late, in_either}
use Rattle.lin_parts.specs.Parts.{ArePart, IsRising}
use Rattle.lin_parts.specs.ListLemmas.{in_more, last_or, rising_more}
use Rattle.lin_lost.specs.Counts.{item_put, puts_of, takes_of}
use Rattle.lin_lost.specs.Lost.{HoldsNothing, IsTakenAsOften, IsWithoutLost, is_left_out}
use Rattle.lin_lost.proofs.CountLemmas.{none_or_one}
use Rattle.lin_lost.proofs.StepLemmas.{clash}
use Rattle.lin_lost.proofs.LostLemmas.{lost_law}

-- ---- which calls are kept

module _ (calls : List (ProblemCall Op Reply)) (takes : ℤ → ℕ) where
  -- of the first n calls those that are kept
  pub record AreKept (n : ℕ) (kept : List ℕ) : Type 0 where
    pub rises : IsRising kept
    pub below : (c : ℕ) → In c kept → c < n
    pub each : (c : ℕ) (x : ProblemCall Op Reply) → c < n → slice_get calls c ≡ Some x → In c kept ↔ (is_left_out takes x.op x.returned ≡ false)

  pub kept_none : AreKept 0 []
  kept_none = record { rises = tt; below = λ c h. absurd h; each = λ c x h. absurd (omega (arith, h)) }

  module _ (n : ℕ) (kept : List ℕ) (x : ProblemCall Op Reply) (at : slice_get calls n ≡ Some x) (k : AreKept n kept) where
    pub kept_one : is_left_out takes x.op x.returned ≡ false → AreKept (n + 1) (kept ++ n ∷ [])
    kept_one e = record {
      rises = rising_more kept n k.rises k.below;
      below = λ c h. in_more kept c n n k.below refl h;
      each = λ c y h there. elim (last_or c n h) [
        | inl less ↦ (
          λ i. elim (in_either c kept (n ∷ []) i) [
            | inl old ↦ (k.each c y less there).0 old
            | inr (inl same) ↦ absurd (omega (arith, less, same))
            | inr (inr none) ↦ absurd none
          ],
          λ f. in_early c kept (n ∷ []) ((k.each c y less there).1 f),
        )
        | inr same ↦ (
          λ i. ap (λ (z : ProblemCall Op Reply). is_left_out takes z.op z.returned) (this_one c y same there) ∙ e,
          λ f. in_late c kept (n ∷ []) (inl same),
        )
      ];
    }
      where
        this_one : (c : ℕ) (y : ProblemCall Op Reply) → c ≡ n → slice_get calls c ≡ Some y → y ≡ x
        this_one c y same there = same_Some y x (sym there ∙ ap (slice_get calls) same ∙ at)

    pub kept_no_more : is_left_out takes x.op x.returned ≡ true → AreKept (n + 1) kept
    kept_no_more e = record {
      rises = k.rises;
      below = λ c h. (let less = k.below c h in omega (arith, less));
      each = λ c y h there. elim (last_or c n h) [
        | inl less ↦ k.each c y less there
        | inr same ↦ (
          λ i. absurd (let less = k.below c i in omega (arith, less, same)),
          λ f. clash e (ap (λ (z : ProblemCall Op Reply). is_left_out takes z.op z.returned) (sym (this_one c y same there)) ∙ f),
        )
      ];
    }
      where
        this_one : (c : ℕ) (y : ProblemCall Op Reply) → c ≡ n → slice_get calls c ≡ Some y → y ≡ x
        this_one c y same there = same_Some y x (sym there ∙ ap (slice_get calls) same ∙ at)

-- ---- items that are put in

module _ (calls : List (ProblemCall Op Reply)) (puts takes : ℤ → ℕ) (are_puts : (v : ℤ) → puts v ≡ puts_of calls v) (are_takes : (v : ℤ) → takes v ≡ takes_of calls v) where
  counted_as : (v : ℤ) → IsTakenAsOften puts takes v → IsTakenAsOften (puts_of calls) (takes_of calls) v
  counted_as v h = elim h [
    | inl none ↦ inl (sym (are_takes v) ∙ none)
    | inr less ↦ inr (let p = are_puts v in let t = are_takes v in omega (arith, p, t, less))
  ]

  -- each call's item is, so all are
  pub all_as_often : ((c : ℕ) (x : ProblemCall Op Reply) → slice_get calls c ≡ Some x → IfSome (item_put x.op) (IsTakenAsOften puts takes)) → (v : ℤ) → IsTakenAsOften (puts_of calls) (takes_of calls) v
  all_as_often each v = elim (none_or_one (λ x. item_put x.op) calls v) [
    | inl none ↦ inr (omega (arith, none))
    | inr one ↦ counted_as v (subst (λ (o : Option ℤ). IfSome o (IsTakenAsOften puts takes)) one.3 (each one.0 one.1 one.2))
  ]

  -- all are, so a call's item is
  pub one_as_often : ((v : ℤ) → IsTakenAsOften (puts_of calls) (takes_of calls) v) → (o : Option ℤ) → IfSome o (IsTakenAsOften puts takes)
  one_as_often all None = tt
  one_as_often all (Some v) = elim (all v) [
    | inl none ↦ inl (are_takes v ∙ none)
    | inr less ↦ inr (let p = are_puts v in let t = are_takes v in omega (arith, p, t, less))
  ]

-- ---- the rest

-- by numbers of calls that are the same
pub left_out_as : (t u : ℤ → ℕ) → ((v : ℤ) → t v ≡ u v) → (op : Op) (returned : Option (ℕ × Reply)) → is_left_out t op returned ≡ is_left_out u op returned
left_out_as t u h (Enqueue v) returned = ap (λ (n : ℕ). nat_eq n 0) (h v)
left_out_as t u h (Push v) returned = ap (λ (n : ℕ). nat_eq n 0) (h v)
left_out_as t u h Dequeue returned = refl
left_out_as t u h Pop returned = refl
left_out_as t u h op returned = refl

pub without_lost : (p : Problem ObjState Op Reply) (kept : List ℕ) (calls : List (ProblemCall Op Reply)) (takes : ℤ → ℕ) → HoldsNothing p.start → ((v : ℤ) → IsTakenAsOften (puts_of p.calls) (takes_of p.calls) v) → ArePart p kept calls → ((v : ℤ) → takes v ≡ takes_of p.calls v) → ((c : ℕ) (x : ProblemCall Op Reply) → slice_get p.calls c ≡ Some x → In c kept ↔ (is_left_out takes x.op x.returned ≡ false)) → IsWithoutLost p kept calls
without_lost p kept calls takes starts as_often part same each = record {
  starts = starts;
  as_often = as_often;
  part = part;
  each = λ c x at. (let k = each c x at in let e = left_out_as takes (takes_of p.calls) same x.op x.returned in ((λ h. sym e ∙ k.0 h), (λ f. k.1 (e ∙ f))));
}

module _ {Object : Type 0} (p part : ProblemParts Object ObjState Op Reply) (start : part.start ≡ p.start) (kept : List ℕ) (w : IsWithoutLost (any_problem p) kept part.calls) where
  -- a linearization of the whole leaves one of the rest
  pub rest_left : (l : List ℕ) → IsLinearization (any_problem p) l → (m : List ℕ) × IsLinearization (any_problem part) m
  rest_left l lin =
      let k = lost_law p kept part.calls w l lin in
      (k.0, subst (λ (s : ObjState). IsLinearization (record (any_problem part) { start = s }) k.0) (sym start) k.1)
