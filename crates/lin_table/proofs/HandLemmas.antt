-- A hand after a look, and after it stored a configuration.
use Rattle.std.proofs.Common.{◌≡◌, ℕ, ◌+◌, ◌<◌, List, [], ◌∷◌, ◌++◌, length, ap, ◌∙◌, refl, arith, length-append, Option}
use Rattle.lin_table.specs.declared.hand.TheConstants.{MAX_STORED}
use Rattle.lin_table.specs.declared.rule.Entry.{Entry}
use Rattle.lin_table.specs.declared.rule.View.{View}
use Rattle.lin_table.specs.Steps.{with_entry}
use Rattle.atomic_table.specs.Seated.{TableId}
use Rattle.lin_history.specs.Problems.ProblemParts.{ProblemParts}
use Rattle.lin_table.specs.Hand.{HandFacts, IsFree}

module _ {O S A R : Type 0} where
  pub free_still : (before after : View O S A R) (views : List (View O S A R)) (n : ℕ) → IsFree (before ∷ []) n → after ≡ before → views ≡ after ∷ [] → IsFree views n
  free_still before after views n h same only = rw (only, same) h

  pub free_with_entry : (before after : View O S A R) (e : Entry O S A R) (views : List (View O S A R)) (n : ℕ) → n < MAX_STORED → IsFree (before ∷ []) n → after ≡ with_entry before e → views ≡ after ∷ [] → IsFree views (n + 1)
  free_with_entry before after e views n room h is only =
      let mine : before ≡ h.v = cc (h.only) in
      let longer : length (before.entries ++ e ∷ []) ≡ length before.entries + 1 = length-append before.entries (e ∷ []) in
      let many : length before.entries ≡ length h.v.entries = ap (λ (v : View O S A R). length v.entries) mine in
      record {
        v = with_entry before e;
        only = only ∙ ap (λ (v : View O S A R). v ∷ []) is;
        part = ap (λ (v : View O S A R). v.parts) mine ∙ h.part;
        free = refl;
        counted = let c = h.counted in omega arith;
        few = omega arith;
      }

-- the facts of a hand that has stored nothing
abbrev pub nothing_stored : {O S A R : Type 0} → TableId → Option (ProblemParts O S A R) → HandFacts O S A R
nothing_stored id problem = record { table = id; problem = problem; entries = [] }

abbrev pub HasNothing : {O S A R : Type 0} → TableId → Option (ProblemParts O S A R) → HandFacts O S A R → Type 0
HasNothing id problem hand = hand ≡ nothing_stored id problem
