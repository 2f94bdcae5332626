-- Each step keeps the rule of the board, and what the rule says at that step.
use Rattle.std.proofs.Common.{◌≡◌, ◌≢◌, ◌⊎◌, ℕ, ◌+◌, ◌-◌, ◌<◌, ◌≤◌, min, List, [], ◌∷◌, ◌++◌, length, set, refl, sym, ap, ◌∙◌, subst, inl, inr, ⊎_elim, arith, length-append, eqb, All, Contains}
use mathlib.Core.Option.{some}
use lib.ListN.{get_elem?}
use Rattle.std.proofs.lemmas.Bool.{cases_lt, cases_eq}
use Rattle.atomic_table.proofs.Lists.{at_set}
use Rattle.lin_board.specs.Lists.Totals.{one_if, total, times}
use Rattle.lin_board.specs.Lists.TotalLemmas.{total-append, total-set, at_most_total, total_le, total_positive, total_alone, times-append, times-push, one_if-same, one_if-other, nil_from_times, times-from_Contains, All-from_times}
use Rattle.lin_board.specs.Lists.Division.{once_below}
use Rattle.lin_board.specs.Lists.DivisionLemmas.{lt_from_once_below, once_below-ge, once_below-step}
use Rattle.lin_board.specs.Lists.PlaceLemmas.{each_set, each_push}
use Rattle.lin_board.specs.declared.rule.View.{View}
use Rattle.lin_board.specs.declared.rule.Plan.{Plan}
use Rattle.lin_board.specs.Rule.{nothing_found, finds_of, Fits, RuleHolds}
use Rattle.lin_board.specs.Steps.{with_claim, with_end, with_found, with_told, one_part_less, one_part, both_views, no_part}

module _ (plan : Plan) (next least : ℕ) (views : List View) (h : RuleHolds plan next least views) where
  -- a number that was found is the number of a task that was claimed
  pub found_below : (x : ℕ) → 0 < finds_of x views → x < min next plan.tasks
  found_below x some_found =
      let c = total_positive (λ (v : View). times x v.found) (λ (v : View). times x v.claimed) views (λ i v at. (h.each i v at).found x) some_found in
      let d = h.divides x in
      lt_from_once_below x (min next plan.tasks) (omega arith)

  pub next_small : next ≤ plan.tasks + plan.seats
  next_small =
      let e = total_le (λ (v : View). v.ends) (λ (v : View). v.parts) views (λ i v at. (h.each i v at).ends) in
      let a = h.ends in let b = h.parts in omega arith

  module _ (id : ℕ) (v : View) (at : get_elem? views id ≡ some v) where
    pub claim_keeps : v.ends < v.parts → next < plan.tasks → RuleHolds plan (next + 1) least (set views id (with_claim v next))
    claim_keeps room below =
        let w = with_claim v next in
        let fits = h.each id v at in record {
          parts = let s = total-set (λ (u : View). u.parts) views id v w at in let a = h.parts in omega arith;
          ends = let s = total-set (λ (u : View). u.ends) views id v w at in let a = h.ends in omega arith;
          count = let s = total-set (λ (u : View). length u.claimed) views id v w at in let a = h.count in let l = length-append v.claimed (next ∷ []) in omega arith;
          divides = λ x. let s = total-set (λ (u : View). times x u.claimed) views id v w at in let a = h.divides x in let t = times-push x next v.claimed in let o = once_below-step next plan.tasks x below in omega arith;
          each = each_set (Fits plan) views id w h.each (record {
            plan = fits.plan;
            ends = fits.ends;
            found = λ x some_found. let a = fits.found x some_found in let t = times-push x next v.claimed in omega arith;
            empty = λ no. absurd (omega arith);
          });
          told = λ x some_told. let s = total-set (λ (u : View). times x u.told) views id v w at in let t = total-set (λ (u : View). times x u.found) views id v w at in let a = h.told x (omega arith) in omega arith;
          is_found = ⊎_elim (λ e. inl e) (λ f. let t = total-set (λ (u : View). times least u.found) views id v w at in inr (omega arith)) h.is_found;
          lowest = λ x some_found. let t = total-set (λ (u : View). times x u.found) views id v w at in h.lowest x (omega arith);
          few_tasks = h.few_tasks;
          few_seats = h.few_seats;
        }

    pub end_keeps : v.ends < v.parts → plan.tasks ≤ next → RuleHolds plan (next + 1) least (set views id (with_end v))
    end_keeps room above =
        let w = with_end v in
        let fits = h.each id v at in record {
          parts = let s = total-set (λ (u : View). u.parts) views id v w at in let a = h.parts in omega arith;
          ends = let s = total-set (λ (u : View). u.ends) views id v w at in let a = h.ends in omega arith;
          count = let s = total-set (λ (u : View). length u.claimed) views id v w at in let a = h.count in omega arith;
          divides = λ x. let s = total-set (λ (u : View). times x u.claimed) views id v w at in let a = h.divides x in
              let m : min (next + 1) plan.tasks ≡ min next plan.tasks = omega arith in let o = ap (once_below x) m in omega arith;
          each = each_set (Fits plan) views id w h.each (record {
            plan = fits.plan;
            ends = omega arith;
            found = fits.found;
            empty = λ no. absurd (omega arith);
          });
          told = λ x some_told. let s = total-set (λ (u : View). times x u.told) views id v w at in let t = total-set (λ (u : View). times x u.found) views id v w at in let a = h.told x (omega arith) in omega arith;
          is_found = ⊎_elim (λ e. inl e) (λ f. let t = total-set (λ (u : View). times least u.found) views id v w at in inr (omega arith)) h.is_found;
          lowest = λ x some_found. let t = total-set (λ (u : View). times x u.found) views id v w at in h.lowest x (omega arith);
          few_tasks = h.few_tasks;
          few_seats = h.few_seats;
        }

    pub found_keeps : 0 < v.parts → (x : ℕ) → 0 < times x v.claimed → RuleHolds plan next (min least x) (set views id (with_found v x))
    found_keeps part x mine =
        let w = with_found v x in
        let fits = h.each id v at in
        let count_of : (y : ℕ) → finds_of y (set views id w) ≡ finds_of y views + one_if (eqb x y)
        = λ y. let t = total-set (λ (u : View). times y u.found) views id v w at in let n = times-push y x v.found in omega arith in record {
          parts = let s = total-set (λ (u : View). u.parts) views id v w at in let a = h.parts in omega arith;
          ends = let s = total-set (λ (u : View). u.ends) views id v w at in let a = h.ends in omega arith;
          count = let s = total-set (λ (u : View). length u.claimed) views id v w at in let a = h.count in omega arith;
          divides = λ y. let s = total-set (λ (u : View). times y u.claimed) views id v w at in let a = h.divides y in omega arith;
          each = each_set (Fits plan) views id w h.each (record {
            plan = fits.plan;
            ends = fits.ends;
            found = λ y some_found. ⊎_elim
                (λ (e : x ≡ y). subst (λ z. 0 < times z v.claimed) e mine)
                (λ (ne : x ≢ y). let a = fits.found y in let t = times-push y x v.found in let z = one_if-other x y ne in omega arith)
                (cases_eq x y);
            empty = λ no. absurd (omega arith);
          });
          told = λ y some_told. let s = total-set (λ (u : View). times y u.told) views id v w at in let a = h.told y (omega arith) in let c = count_of y in omega arith;
          is_found = ⊎_elim
              (λ (lt : x < least). let m : min least x ≡ x = omega arith in let c = count_of x in let o = one_if-same x in inr (subst (λ z. 0 < finds_of z (set views id w)) (sym m) (omega arith)))
              (λ (le : least ≤ x). let m : min least x ≡ least = omega arith in let c = count_of least in
              ⊎_elim (λ e. inl (m ∙ e)) (λ f. inr (subst (λ z. 0 < finds_of z (set views id w)) (sym m) (omega arith))) h.is_found)
              (cases_lt x least);
          lowest = λ y some_found. ⊎_elim
              (λ (e : x ≡ y). omega arith)
              (λ (ne : x ≢ y). let c = count_of y in let z = one_if-other x y ne in let l = h.lowest y (omega arith) in omega arith)
              (cases_eq x y);
          few_tasks = h.few_tasks;
          few_seats = h.few_seats;
        }

    pub told_keeps : 0 < v.parts → least ≢ nothing_found → RuleHolds plan next least (set views id (with_told v least))
    told_keeps part some_least =
        let w = with_told v least in
        let fits = h.each id v at in record {
          parts = let s = total-set (λ (u : View). u.parts) views id v w at in let a = h.parts in omega arith;
          ends = let s = total-set (λ (u : View). u.ends) views id v w at in let a = h.ends in omega arith;
          count = let s = total-set (λ (u : View). length u.claimed) views id v w at in let a = h.count in omega arith;
          divides = λ y. let s = total-set (λ (u : View). times y u.claimed) views id v w at in let a = h.divides y in omega arith;
          each = each_set (Fits plan) views id w h.each (record { plan = fits.plan; ends = fits.ends; found = fits.found; empty = λ no. absurd (omega arith) });
          told = λ y some_told. let t = total-set (λ (u : View). times y u.found) views id v w at in ⊎_elim
              (λ (e : least ≡ y). let f : 0 < finds_of least views = ⊎_elim (λ no. absurd (some_least no)) (λ f. f) h.is_found in let g = subst (λ z. 0 < finds_of z views) e f in omega arith)
              (λ (ne : least ≢ y). let s = total-set (λ (u : View). times y u.told) views id v w at in let n = times-push y least v.told in let z = one_if-other least y ne in let a = h.told y (omega arith) in omega arith)
              (cases_eq least y);
          is_found = ⊎_elim (λ e. inl e) (λ f. let t = total-set (λ (u : View). times least u.found) views id v w at in inr (omega arith)) h.is_found;
          lowest = λ y some_found. let t = total-set (λ (u : View). times y u.found) views id v w at in h.lowest y (omega arith);
          few_tasks = h.few_tasks;
          few_seats = h.few_seats;
        }

    pub split_keeps : v.ends < v.parts → 1 < v.parts → RuleHolds plan next least (set views id (one_part_less v) ++ one_part v ∷ [])
    split_keeps room more =
        let w = one_part_less v in
        let r = one_part v in
        let fits = h.each id v at in
        let sums : (f : View → ℕ) → total f (set views id w ++ r ∷ []) + f v ≡ total f views + f w + f r
        = λ f. let s = total-set f views id v w at in let t = total-append f (set views id w) (r ∷ []) in omega arith in record {
          parts = let s = sums (λ (u : View). u.parts) in let a = h.parts in omega arith;
          ends = let s = sums (λ (u : View). u.ends) in let a = h.ends in omega arith;
          count = let s = sums (λ (u : View). length u.claimed) in let a = h.count in omega arith;
          divides = λ x. let s = sums (λ (u : View). times x u.claimed) in let a = h.divides x in omega arith;
          each = each_push (Fits plan) (set views id w) r
              (each_set (Fits plan) views id w h.each (record { plan = λ _. fits.plan (omega arith); ends = omega arith; found = fits.found; empty = λ no. absurd (omega arith) }))
              (record { plan = λ _. fits.plan (omega arith); ends = omega arith; found = λ x no. no; empty = λ no. absurd (omega arith) });
          told = λ x some_told. let s = sums (λ (u : View). times x u.told) in let t = sums (λ (u : View). times x u.found) in let a = h.told x (omega arith) in omega arith;
          is_found = ⊎_elim (λ e. inl e) (λ f. let t = sums (λ (u : View). times least u.found) in inr (omega arith)) h.is_found;
          lowest = λ x some_found. let t = sums (λ (u : View). times x u.found) in h.lowest x (omega arith);
          few_tasks = h.few_tasks;
          few_seats = h.few_seats;
        }

    pub join_keeps : 0 < v.parts → (other : ℕ) (u : View) → ¬ (other ≡ id) → get_elem? (set views id (both_views v u)) other ≡ some u → RuleHolds plan next least (set (set views id (both_views v u)) other no_part)
    join_keeps part other u apart there =
        let w = both_views v u in
        let fits = h.each id v at in
        let was : get_elem? views other ≡ some u = ⊎_elim (λ (t : (other ≡ id) × (w ≡ u)). absurd (apart t.0)) (λ (t : (other ≢ id) × (get_elem? views other ≡ some u)). t.1) (at_set views id other w u there) in
        let fits' = h.each other u was in
        let sums : (f : View → ℕ) → total f (set (set views id w) other no_part) + f u + f v ≡ total f views + f w + f no_part
        = λ f. let s = total-set f views id v w at in let t = total-set f (set views id w) other u no_part there in omega arith in record {
          parts = let s = sums (λ (u : View). u.parts) in let a = h.parts in omega arith;
          ends = let s = sums (λ (u : View). u.ends) in let a = h.ends in omega arith;
          count = let s = sums (λ (u : View). length u.claimed) in let l = length-append v.claimed u.claimed in let a = h.count in omega arith;
          divides = λ x. let s = sums (λ (u : View). times x u.claimed) in let l = times-append x v.claimed u.claimed in let a = h.divides x in omega arith;
          each = each_set (Fits plan) (set views id w) other no_part
              (each_set (Fits plan) views id w h.each (record {
                plan = λ _. fits.plan part;
                ends = let a = fits.ends in let b = fits'.ends in omega arith;
                found = λ x some_found. let a = times-append x v.claimed u.claimed in let b = times-append x v.found u.found in
                    ⊎_elim (λ (p : 0 < times x v.found). let c = fits.found x p in omega arith) (λ (z : times x v.found ≤ 0). let c = fits'.found x (omega arith) in omega arith) (cases_lt 0 (times x v.found));
                empty = λ no. absurd (omega arith);
              }))
              (record { plan = λ no. absurd (omega arith); ends = omega arith; found = λ x no. no; empty = λ _. (refl, refl, refl) });
          told = λ x some_told. let s = sums (λ (u : View). times x u.told) in let l = times-append x v.told u.told in
              let t = sums (λ (u : View). times x u.found) in let m = times-append x v.found u.found in let a = h.told x (omega arith) in omega arith;
          is_found = ⊎_elim (λ e. inl e) (λ f. let t = sums (λ (u : View). times least u.found) in let m = times-append least v.found u.found in inr (omega arith)) h.is_found;
          lowest = λ x some_found. let t = sums (λ (u : View). times x u.found) in let m = times-append x v.found u.found in h.lowest x (omega arith);
          few_tasks = h.few_tasks;
          few_seats = h.few_seats;
        }

    -- the next number is none that this seat claimed
    pub next_is_other : ¬ Contains v.claimed next
    next_is_other has =
        let d = h.divides next in
        let t = at_most_total (λ (u : View). times next u.claimed) views id v at in
        let o = once_below-ge next (min next plan.tasks) (omega arith) in
        let p = times-from_Contains next v.claimed has in omega arith

    -- this seat has claimed at most as many numbers as were given
    pub next_is_large : length v.claimed ≤ next
    next_is_large =
        let n = at_most_total (λ (u : View). length u.claimed) views id v at in
        let c = h.count in omega arith

    -- what is told is a task's number, and at most what this seat found and was told
    pub least_below : least ≢ nothing_found → least < plan.tasks
    least_below some_least = let b = found_below least (⊎_elim (λ no. absurd (some_least no)) (λ f. f) h.is_found) in omega arith

    pub least_found : All (λ x. least ≤ x) v.found
    least_found = All-from_times (λ x. least ≤ x) v.found (λ x mine. let t = at_most_total (λ (u : View). times x u.found) views id v at in h.lowest x (omega arith))

    pub least_told : All (λ x. least ≤ x) v.told
    least_told = All-from_times (λ x. least ≤ x) v.told (λ x mine. let t = at_most_total (λ (u : View). times x u.told) views id v at in h.lowest x (h.told x (omega arith)))

    -- where nothing was found, this seat found nothing and was told nothing
    pub none_found : least ≡ nothing_found → (v.found ≡ []) × (v.told ≡ [])
    none_found is =
        let no_find : (x : ℕ) → finds_of x views ≡ 0
        = λ x. ⊎_elim
        (λ (f : 0 < finds_of x views). let b = found_below x f in let l = h.lowest x f in let s = h.few_tasks in absurd (omega arith))
        (λ (z : finds_of x views ≤ 0). omega arith)
        (cases_lt 0 (finds_of x views)) in (
          nil_from_times v.found (λ x. let t = at_most_total (λ (u : View). times x u.found) views id v at in let n = no_find x in omega arith),
          nil_from_times v.told (λ x. let t = at_most_total (λ (u : View). times x u.told) views id v at in let n = no_find x in ⊎_elim
              (λ (m : 0 < times x v.told). let f = h.told x (omega arith) in absurd (omega arith))
              (λ (z : times x v.told ≤ 0). omega arith)
              (cases_lt 0 (times x v.told))),
        )

    -- a view that has all parts has all that was done
    pub record HasAll : Type 0 where
      pub ends : v.ends ≡ next - plan.tasks
      pub count : length v.claimed ≡ min next plan.tasks
      pub divides : (x : ℕ) → times x v.claimed ≡ once_below x (min next plan.tasks)
      pub told : (x : ℕ) → 0 < times x v.told → 0 < times x v.found
      pub is_found : (least ≡ nothing_found) ⊎ (0 < times least v.found)

    pub has_all : v.parts ≡ plan.seats → HasAll
    has_all all =
        let a = h.parts in
        let sums : (f : View → ℕ) → ((u : View) → u.ends ≡ 0 → (u.claimed ≡ []) × (u.found ≡ []) × (u.told ≡ []) → f u ≡ 0) → total f views ≡ f v
        = λ f none. total_alone (λ (u : View). u.parts) f views id v at (omega arith) (λ j u e z. let fits = h.each j u e in none u (let b = fits.ends in omega arith) (fits.empty z)) in
        let found : (x : ℕ) → finds_of x views ≡ times x v.found = λ x. sums (λ (u : View). times x u.found) (λ u e n. ap (times x) n.1) in record {
          ends = let s = sums (λ (u : View). u.ends) (λ u e n. e) in let c = h.ends in omega arith;
          count = let s = sums (λ (u : View). length u.claimed) (λ u e n. ap length n.0) in let c = h.count in omega arith;
          divides = λ x. let s = sums (λ (u : View). times x u.claimed) (λ u e n. ap (times x) n.0) in let d = h.divides x in omega arith;
          told = λ x mine. let s = sums (λ (u : View). times x u.told) (λ u e n. ap (times x) n.2) in let f = found x in let t = h.told x (omega arith) in omega arith;
          is_found = ⊎_elim (λ e. inl e) (λ f. let g = found least in inr (omega arith)) h.is_found;
        }
