-- The rule allows each step of a seat, the splits at the start and the joins at the end.
use Rattle.std.proofs.Common.{◌≡◌, ◌≢◌, ℕ, ◌+◌, ◌%◌, ◌^◌, ◌<◌, ◌≤◌, min, List, [], ◌∷◌, get_or, set, refl, sym, ap, ◌∙◌, subst, ⊎_elim, arith, Contains}
use Rattle.std.proofs.lemmas.Bool.{cases_lt, cases_eq}
use Rattle.atomic_table.specs.Table.{keeps, Allows, Splits, Joins}
use Rattle.atomic_table.proofs.Lists.{set_again}
use Rattle.lin_board.specs.Lists.TotalLemmas.{times-from_Contains}
use Rattle.lin_board.specs.declared.rule.View.{View}
use Rattle.lin_board.specs.declared.rule.Plan.{Plan}
use Rattle.lin_board.specs.Rule.{nothing_found, RuleHolds, KeepsRule}
use Rattle.lin_board.specs.Steps.{Holder, ClaimTells, FoundTells, LeastTells, with_claim, with_end, with_found, with_told, one_part_less, one_part, both_views, no_part}
use Rattle.lin_board.proofs.RuleLemmas.{next_small, claim_keeps, end_keeps, found_keeps, told_keeps, split_keeps, join_keeps, next_is_other, next_is_large, least_below, least_found, least_told, none_found}

-- the two words after the first became m
first_word : (ws : List ℕ) (next least n m : ℕ) → ws ≡ next ∷ least ∷ [] → n ≡ m → set ws 0 n ≡ m ∷ least ∷ []
first_word ws next least n m is e = ap (λ (l : List ℕ). set l 0 n) is ∙ ap (λ (k : ℕ). k ∷ least ∷ []) e

-- the two words after the second became m
second_word : (ws : List ℕ) (next least n m : ℕ) → ws ≡ next ∷ least ∷ [] → n ≡ m → set ws 1 n ≡ next ∷ m ∷ []
second_word ws next least n m is e = ap (λ (l : List ℕ). set l 1 n) is ∙ ap (λ (k : ℕ). next ∷ k ∷ []) e

pub claim_allowed : (p : Plan) (slots id : ℕ) (me : Holder) → me.0.ends < me.0.parts → Allows (KeepsRule p) slots id me 0 (λ n. (n + 1) % 2 ^ 64) (ClaimTells me)
claim_allowed p slots id me room s k len at small =
    let v : View = me.0 in
    let r : ℕ = get_or s.words 0 0 in
    let is : r ≡ k.0 = ap (λ (l : List ℕ). get_or l 0 0) k.2 in
    let h : RuleHolds p r k.1 s.views = subst (λ z. RuleHolds p z k.1 s.views) (sym is) k.3 in
    let fits = h.each id v at in
    let plan : v.plan ≡ p = fits.plan (omega arith) in
    let tasks = ap (λ (q : Plan). q.tasks) plan in
    let few_tasks = h.few_tasks in let few_seats = h.few_seats in
    let top = next_small p r k.1 s.views h in
    let whole : (r + 1) % 2 ^ 64 ≡ r + 1 = omega arith in
    let words : set s.words 0 ((r + 1) % 2 ^ 64) ≡ (r + 1) ∷ k.1 ∷ [] = first_word s.words k.0 k.1 ((r + 1) % 2 ^ 64) (r + 1) k.2 whole in
    ⊎_elim
    (λ (lt : r < p.tasks). (
      with_claim v r,
      keeps,
      tt,
      (r + 1, k.1, words, claim_keeps p r k.1 s.views h id v at room lt),
      record {
        some = λ _. refl;
        other = λ _. next_is_other p r k.1 s.views h id v at;
        large = λ _. next_is_large p r k.1 s.views h id v at;
        none = λ no. absurd (omega arith);
        slots = refl;
      },
    ))
    (λ (le : p.tasks ≤ r). (
      with_end v,
      keeps,
      tt,
      (r + 1, k.1, words, end_keeps p r k.1 s.views h id v at room le),
      record {
        some = λ no. absurd (omega arith);
        other = λ no. absurd (omega arith);
        large = λ no. absurd (omega arith);
        none = λ _. refl;
        slots = refl;
      },
    ))
    (cases_lt r p.tasks)

pub found_allowed : (p : Plan) (slots id : ℕ) (me : Holder) (x : ℕ) → 0 < me.0.parts → Contains me.0.claimed x → Allows (KeepsRule p) slots id me 1 (λ n. min n x) (λ _. FoundTells x me)
found_allowed p slots id me x part mine s k len at small =
    let v : View = me.0 in
    let is : min (get_or s.words 1 0) x ≡ min k.1 x = ap (λ (l : List ℕ). min (get_or l 1 0) x) k.2 in (
      with_found v x,
      keeps,
      tt,
      (k.0, min k.1 x, second_word s.words k.0 k.1 _ _ k.2 is, found_keeps p k.0 k.1 s.views k.3 id v at part x (times-from_Contains x v.claimed mine)),
      record { found = refl; slots = refl },
    )

pub least_allowed : (p : Plan) (slots id : ℕ) (me : Holder) → 0 < me.0.parts → Allows (KeepsRule p) slots id me 1 (λ n. n) (LeastTells me)
least_allowed p slots id me part s k len at small =
    let v : View = me.0 in
    let r : ℕ = get_or s.words 1 0 in
    let is : r ≡ k.1 = ap (λ (l : List ℕ). get_or l 1 0) k.2 in
    let h : RuleHolds p k.0 r s.views = subst (λ z. RuleHolds p k.0 z s.views) (sym is) k.3 in
    let tasks = ap (λ (q : Plan). q.tasks) ((h.each id v at).plan part) in
    let words : set s.words 1 r ≡ k.0 ∷ r ∷ [] = second_word s.words k.0 k.1 r r k.2 refl in
    ⊎_elim
    (λ (e : r ≡ nothing_found). (
      v,
      keeps,
      tt,
      (k.0, r, words, subst (λ l. RuleHolds p k.0 r l) (sym (set_again s.views id v at)) h),
      record {
        some = λ no. absurd (no e);
        below = λ no. absurd (no e);
        found = λ no. absurd (no e);
        told = λ no. absurd (no e);
        none = λ _. none_found p k.0 r s.views h id v at e;
        same = λ _. refl;
        slots = refl;
      },
    ))
    (λ (ne : r ≢ nothing_found). (
      with_told v r,
      keeps,
      tt,
      (k.0, r, words, told_keeps p k.0 r s.views h id v at part ne),
      record {
        some = λ _. refl;
        below = λ _. let b = least_below p k.0 r s.views h id v at ne in omega arith;
        found = λ _. least_found p k.0 r s.views h id v at;
        told = λ _. least_told p k.0 r s.views h id v at;
        none = λ e. absurd (ne e);
        same = λ e. absurd (ne e);
        slots = refl;
      },
    ))
    (cases_eq r nothing_found)

pub split_allowed : (p : Plan) (id : ℕ) (v : View) → v.ends < v.parts → 1 < v.parts → Splits (KeepsRule p) id v (one_part_less v) (one_part v)
split_allowed p id v room more s k at = (k.0, k.1, k.2, split_keeps p k.0 k.1 s.views k.3 id v at room more)

pub join_allowed : (p : Plan) (id : ℕ) (v : View) (other : ℕ) (u : View) → 0 < v.parts → Joins (KeepsRule p) id v other u (both_views v u) no_part
join_allowed p id v other u part s k at apart there = (k.0, k.1, k.2, join_keeps p k.0 k.1 s.views k.3 id v at part other u apart there)
