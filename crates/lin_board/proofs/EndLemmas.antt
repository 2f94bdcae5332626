-- What a view that has all parts says of all seats, at the end.
use Rattle.std.proofs.Common.{◌≡◌, ◌≢◌, ◌⊎◌, ℕ, ◌+◌, ◌-◌, ◌<◌, ◌≤◌, ◌^◌, min, List, [], ◌∷◌, ◌++◌, length, map, get_or, sym, ap, ◌∙◌, subst, inl, inr, ⊎_elim, arith, length-append, Option, Some, None, IfSome, IfNone, IsTrue, All, Contains}
use Rattle.std.specs.List.{Any}
use Rattle.std.proofs.lemmas.Bool.{cases_lt}
use Rattle.std.proofs.lemmas.List.Elements.{All-push, All-same, All-contains}
use mathlib.Core.Option.{some, some-injective}
use lib.ListN.{get_elem?}
use Rattle.atomic_table.specs.Table.{Final, Seen}
use Rattle.lin_board.specs.Lists.Totals.{one_if, total, times}
use Rattle.lin_board.specs.Lists.TotalLemmas.{total-push, total-map, at_most_total, at_index_most_total, Any-from_total, total-from_Any, Contains-from_times, All-from_times, nil_from_times}
use Rattle.lin_board.specs.Lists.Division.{once_below}
use Rattle.lin_board.specs.Lists.DivisionLemmas.{lt_from_once_below, Divides-from_total}
use Rattle.lin_board.specs.declared.rule.View.{View}
use Rattle.lin_board.specs.declared.rule.Plan.{Plan}
use Rattle.lin_board.specs.declared.tally.Tally.{Tally}
use Rattle.lin_board.specs.Rule.{nothing_found, RuleHolds, KeepsRule}
use Rattle.lin_board.specs.Facts.{BoardFacts, SeatFacts}
use Rattle.lin_board.specs.Gather.{Gathered, IsViewOf, FindAmongClaims, ended_seats, claim_count, claims_in, finds_in, tells_in}
use Rattle.lin_board.specs.Tally.{Tallies}
use Rattle.lin_board.proofs.RuleLemmas.{HasAll, has_all}

-- what the rule and the joined view say of all seats together
pub record Settled (plan : Plan) (next least : ℕ) (all : List SeatFacts) : Type 0 where
  pub ends : ended_seats all ≡ next - plan.tasks
  pub count : claim_count all ≡ min next plan.tasks
  pub divides : (x : ℕ) → claims_in x all ≡ once_below x (min next plan.tasks)
  pub found : (x : ℕ) → 0 < finds_in x all → 0 < claims_in x all
  pub among : FindAmongClaims all
  pub told : (x : ℕ) → 0 < tells_in x all → 0 < finds_in x all
  pub is_found : (least ≡ nothing_found) ⊎ (0 < finds_in least all)
  pub lowest : (x : ℕ) → 0 < finds_in x all → least ≤ x
  pub few_tasks : plan.tasks < 2 ^ 62

-- the view that all others were joined into has all parts, and so all that was done
pub settled : (plan : Plan) (next least : ℕ) (views : List View) → RuleHolds plan next least views → (id : ℕ) (v : View) → get_elem? views id ≡ some v
    → (all rest : List SeatFacts) (last : SeatFacts) (v0 : View) → plan.seats ≤ length all → all ≡ rest ++ last ∷ [] → IsViewOf v0 last → All (Contains last.claimed) last.found → Gathered v0 rest v []
    → Settled plan next least all
settled plan next least views h id v at all rest last v0 enough is mine among g =
    let sums : (f : SeatFacts → ℕ) → total f all ≡ total f rest + f last = λ f. let a = ap (total f) is in let b = total-push f rest last in omega arith in
    let long : length all ≡ length rest + 1 = let a = ap length is in let b = length-append rest (last ∷ []) in omega arith in
    let most = at_most_total (λ (u : View). u.parts) views id v at in
    let one = mine.parts in let gp = g.parts in let hp = h.parts in
    let whole : v.parts ≡ plan.seats = omega arith in
    let a : HasAll plan next least views h id v at = has_all plan next least views h id v at whole in
    let claims : (x : ℕ) → claims_in x all ≡ times x v.claimed = λ x. let b = g.claimed x in let c = sums (λ (s : SeatFacts). times x s.claimed) in let d = ap (times x) mine.claimed in omega arith in
    let finds : (x : ℕ) → finds_in x all ≡ times x v.found = λ x. let b = g.found x in let c = sums (λ (s : SeatFacts). times x s.found) in let d = ap (times x) mine.found in omega arith in
    let tells : (x : ℕ) → tells_in x all ≡ times x v.told = λ x. let b = g.told x in let c = sums (λ (s : SeatFacts). times x s.told) in let d = ap (times x) mine.told in omega arith in record {
      ends = let b = g.ends in let c = sums (λ (s : SeatFacts). one_if s.ended) in let d = mine.ends in let e = a.ends in omega arith;
      count = let b = g.count in let c = sums (λ (s : SeatFacts). length s.claimed) in let d = ap length mine.claimed in let e = a.count in omega arith;
      divides = λ x. claims x ∙ a.divides x;
      found = λ x f. let b = finds x in let c = (h.each id v at).found x (omega arith) in let d = claims x in omega arith;
      among = All-same (λ (s : SeatFacts). All (Contains s.claimed) s.found) _ _ is (All-push (λ (s : SeatFacts). All (Contains s.claimed) s.found) rest last (g.among (λ k d no. absurd (omega arith))) among);
      told = λ x t. let b = tells x in let c = finds x in let d = a.told x (omega arith) in omega arith;
      is_found = ⊎_elim (λ e. inl e) (λ f. let b = finds least in inr (omega arith)) a.is_found;
      lowest = λ x f. let b = finds x in let c = at_most_total (λ (u : View). times x u.found) views id v at in h.lowest x (omega arith);
      few_tasks = h.few_tasks;
    }

if_some : {P Q : ℕ → Type 0} (o : Option ℕ) → ((m : ℕ) → P m → Q m) → IfSome o P → IfSome o Q
if_some (Some m) f h = f m h
if_some None f h = tt

if_none : {P Q : Type 0} (o : Option ℕ) → (P → Q) → IfNone o P → IfNone o Q
if_none (Some m) f h = tt
if_none None f h = f h

-- some seat of which it holds
any_weaker : (P Q : SeatFacts → Type 0) (seats : List SeatFacts) → ((k : ℕ) → (s : SeatFacts) → k < length seats → get_or seats k s ≡ s → P s → Q s) → Any P seats → Any Q seats
any_weaker P Q seats f (k, s, h, is, p) = (k, s, h, is, f k s h is p)

module _ (board : BoardFacts) (seats : List SeatFacts) (tally : Tally) (plan : Plan) (next least : ℕ) (h : Settled plan next least seats)
    (tasks : plan.tasks ≡ board.tasks) (claimed : tally.claimed ≡ min next plan.tasks)
    (some_is : IfSome tally.least (λ m. (m ≡ least) × (least ≢ nothing_found))) (none_is : IfNone tally.least (least ≡ nothing_found)) where
  -- a seat found what was found at all
  found_by : (x : ℕ) → 0 < finds_in x seats → Any (λ (s : SeatFacts). Contains s.found x) seats
  found_by x f = any_weaker (λ (s : SeatFacts). 0 < times x s.found) (λ (s : SeatFacts). Contains s.found x) seats (λ k s b is p. Contains-from_times x s.found p) (Any-from_total (λ (s : SeatFacts). times x s.found) seats f)

  -- and claimed it
  found_and_claimed_by : (x : ℕ) → 0 < finds_in x seats → Any (λ (s : SeatFacts). Contains s.claimed x × Contains s.found x) seats
  found_and_claimed_by x f = any_weaker (λ (s : SeatFacts). Contains s.found x) (λ (s : SeatFacts). Contains s.claimed x × Contains s.found x) seats
      (λ k s b is c. (All-contains (Contains s.claimed) s.found x (subst (λ (t : SeatFacts). All (Contains t.claimed) t.found) is (h.among k s b)) c, c))
      (found_by x f)

  pub settles : Tallies board seats tally
  settles = record {
    divides = Divides-from_total tally.claimed (map (λ (s : SeatFacts). s.claimed) seats) (λ x. total-map (times x) (λ (s : SeatFacts). s.claimed) seats ∙ h.divides x ∙ ap (once_below x) (sym claimed));
    count = h.count ∙ sym claimed;
    within = omega arith;
    all_claimed = λ some_ended.
        let e = total-from_Any (λ (s : SeatFacts). one_if s.ended) seats (any_weaker (λ (s : SeatFacts). IsTrue s.ended) (λ (s : SeatFacts). 0 < one_if s.ended) seats (λ k s b is t. let one = ap one_if t in omega arith) some_ended) in
        let n = h.ends in omega arith;
    found_claimed = h.among;
    told_found = λ k d b. All-from_times (λ x. Any (λ (s : SeatFacts). Contains s.claimed x × Contains s.found x) seats) (get_or seats k d).told
        (λ x t. let m = at_index_most_total (λ (s : SeatFacts). times x s.told) seats k d b in found_and_claimed_by x (h.told x (omega arith)));
    some_found = if_some tally.least
        (λ m t. found_by m (subst (λ z. 0 < finds_in z seats) (sym t.0) (⊎_elim (λ no. absurd (t.1 no)) (λ f. f) h.is_found)))
        some_is;
    least_found = if_some tally.least
        (λ m t k d b. All-from_times (λ x. m ≤ x) (get_or seats k d).found
        (λ x f. let p = at_index_most_total (λ (s : SeatFacts). times x s.found) seats k d b in let l = h.lowest x (omega arith) in let e = t.0 in omega arith))
        some_is;
    none_found = if_none tally.least
        (λ no k d b. nil_from_times (get_or seats k d).found (λ x. let p = at_index_most_total (λ (s : SeatFacts). times x s.found) seats k d b in let z = none_at no x in omega arith))
        none_is;
  }
    where
      none_at : least ≡ nothing_found → (x : ℕ) → finds_in x seats ≡ 0
      none_at e x = ⊎_elim
          (λ (f : 0 < finds_in x seats). let c = h.found x f in let d = h.divides x in let b = lt_from_once_below x (min next plan.tasks) (omega arith) in let l = h.lowest x f in let s = h.few_tasks in absurd (omega arith))
          (λ (z : finds_in x seats ≤ 0). omega arith)
          (cases_lt 0 (finds_in x seats))

-- by what the closed table tells
pub closes : (board : BoardFacts) (seats : List SeatFacts) (tally : Tally) (plan : Plan) (ws : List ℕ) (xs : List (Unit {0})) (id : ℕ) (v v0 : View) (rest : List SeatFacts) (last : SeatFacts) (next least : ℕ)
    → Final (Seen (KeepsRule plan) id v) ws xs → get_elem? ws 0 ≡ some next → get_elem? ws 1 ≡ some least
    → plan.seats ≤ length seats → seats ≡ rest ++ last ∷ [] → IsViewOf v0 last → All (Contains last.claimed) last.found → Gathered v0 rest v []
    → plan.tasks ≡ board.tasks → tally.claimed ≡ min next plan.tasks → IfSome tally.least (λ m. (m ≡ least) × (least ≢ nothing_found)) → IfNone tally.least (least ≡ nothing_found)
    → Tallies board seats tally
closes board seats tally plan ws xs id v v0 rest last next least (s, (k, at), same, homes, more) at0 at1 enough is mine among g tasks claimed some_is none_is =
    let words : ws ≡ k.0 ∷ k.1 ∷ [] = sym same ∙ k.2 in
    let is_next : k.0 ≡ next = some-injective _ _ (sym (ap (λ (l : List ℕ). get_elem? l 0) words) ∙ at0) in
    let is_least : k.1 ≡ least = some-injective _ _ (sym (ap (λ (l : List ℕ). get_elem? l 1) words) ∙ at1) in
    let h : RuleHolds plan next least s.views = subst (λ (m : ℕ). RuleHolds plan next m s.views) is_least (subst (λ (n : ℕ). RuleHolds plan n k.1 s.views) is_next k.3) in
    settles board seats tally plan next least (settled plan next least s.views h id v at seats rest last v0 enough is mine among g) tasks claimed some_is none_is
