-- All seats' views become one, one seat at a time.
use Rattle.std.proofs.Common.{◌≡◌, ℕ, ◌+◌, List, [], ◌∷◌, ◌++◌, length, refl, ap, arith, length-append, All, Contains}
use Rattle.std.proofs.lemmas.List.Elements.{All-push, All-same}
use Rattle.lin_board.specs.declared.rule.View.{View}
use Rattle.lin_board.specs.Facts.{SeatFacts}
use Rattle.lin_board.specs.Steps.{both_views}
use Rattle.lin_board.specs.Gather.{Gathered, IsViewOf}
use Rattle.lin_board.specs.Lists.Totals.{one_if, total, times}
use Rattle.lin_board.specs.Lists.TotalLemmas.{total-push, times-append}

pub begins : (v : View) (all : List SeatFacts) → Gathered v all v all
begins v all = record { parts = refl; ends = refl; count = refl; claimed = λ x. refl; found = λ x. refl; told = λ x. refl; among = λ a. a }

-- one more seat is joined
pub gathers : (v : View) (all : List SeatFacts) (u : View) (rest left : List SeatFacts) (w : View) (s : SeatFacts) → rest ≡ left ++ s ∷ [] → IsViewOf w s → All (Contains s.claimed) s.found → Gathered v all u rest → Gathered v all (both_views u w) left
gathers v all u rest left w s is mine among g =
    let sums : (f : SeatFacts → ℕ) → total f rest ≡ total f left + f s = λ f. let a = ap (total f) is in let b = total-push f left s in omega arith in record {
      parts = let a = g.parts in let b = mine.parts in let c = ap length is in let d = length-append left (s ∷ []) in omega arith;
      ends = let a = g.ends in let b = mine.ends in let c = sums (λ (s : SeatFacts). one_if s.ended) in omega arith;
      count = let a = g.count in let b = ap length mine.claimed in let c = sums (λ (s : SeatFacts). length s.claimed) in let d = length-append u.claimed w.claimed in omega arith;
      claimed = λ x. let a = g.claimed x in let b = ap (times x) mine.claimed in let c = sums (λ (s : SeatFacts). times x s.claimed) in let d = times-append x u.claimed w.claimed in omega arith;
      found = λ x. let a = g.found x in let b = ap (times x) mine.found in let c = sums (λ (s : SeatFacts). times x s.found) in let d = times-append x u.found w.found in omega arith;
      told = λ x. let a = g.told x in let b = ap (times x) mine.told in let c = sums (λ (s : SeatFacts). times x s.told) in let d = times-append x u.told w.told in omega arith;
      among = λ a. g.among (All-same (λ (s : SeatFacts). All (Contains s.claimed) s.found) _ _ is (All-push (λ (s : SeatFacts). All (Contains s.claimed) s.found) left s a among));
    }
