-- All hands' views become one, one hand at a time.
use Rattle.std.proofs.Common.{◌≡◌, List, [], ◌∷◌, ◌++◌, length, refl, sym, ◌∙◌, ap, arith, length-append, append_assoc, append-nil}
use Rattle.lin_table.specs.declared.rule.Entry.{Entry}
use Rattle.lin_table.specs.declared.rule.View.{View}
use Rattle.lin_table.specs.Steps.{both_views}
use Rattle.lin_table.specs.Hand.{HandFacts}
use Rattle.lin_table.specs.Gather.{IsViewOf, entries_in, Gathered}

module _ {O S A R : Type 0} where
  -- the entries of the last hand come first
  pub entries-last : (hands : List (HandFacts O S A R)) (hand : HandFacts O S A R) → entries_in (hands ++ hand ∷ []) ≡ hand.entries ++ entries_in hands
  entries-last [] hand = sym (append-nil hand.entries)
  entries-last (h ∷ hands) hand = ap (λ (l : List (Entry O S A R)). l ++ h.entries) (entries-last hands hand) ∙ append_assoc hand.entries (entries_in hands) h.entries

  -- one more hand is joined
  pub gathers : (v : View O S A R) (all : List (HandFacts O S A R)) (u : View O S A R) (rest left : List (HandFacts O S A R)) (w : View O S A R) (hand : HandFacts O S A R) → rest ≡ left ++ hand ∷ [] → IsViewOf w hand → Gathered v all u rest → Gathered v all (both_views u w) left
  gathers v all u rest left w hand is mine g =
      let last : entries_in rest ≡ hand.entries ++ entries_in left = ap entries_in is ∙ entries-last left hand in
      record {
        parts = let a = g.parts in let b = mine.part in let c = ap length is in let d = length-append left (hand ∷ []) in omega arith;
        free = refl;
        entries = append_assoc u.entries w.entries (entries_in left) ∙ ap (λ (es : List (Entry O S A R)). u.entries ++ es) (ap (λ (es : List (Entry O S A R)). es ++ entries_in left) mine.entries ∙ sym last) ∙ g.entries;
      }
