-- Entries that are linked in the order of their numbers, without one of them and with it again.
use Rattle.std.proofs.Common.{◌≡◌, ◌≢◌, ℕ, ◌+◌, ◌-◌, ◌<◌, ◌≤◌, List, length, get_or, set, inl, inr, sym, ap, subst, ◌∙◌, arith}
use Rattle.std.proofs.lemmas.List.{length-set, get_or-set_same, get_or-set_other, set-set, set-get_or}
use Rattle.lin_search.specs.CallSetLemmas.{same_or_not}
use Rattle.lin_search.specs.Links.{Linked, without, with_entry, HasLinks, IsRow}

-- Each entry that is here is linked to the nearest one on each side; 0 and n + 1 are the ends.
pub record IsLinked (n : ℕ) (Here : ℕ → Type 0) (l : Linked) : Type 0 where
  pub next_count : length l.next ≡ n + 2
  pub previous_count : length l.previous ≡ n + 2
  pub within : (e : ℕ) → Here e → e < n + 2
  pub forth : (e : ℕ) → Here e → e < n + 1 → (e < get_or l.next e 0) × (get_or l.next e 0 < n + 2) × Here (get_or l.next e 0) × (get_or l.previous (get_or l.next e 0) 0 ≡ e)
  pub back : (e : ℕ) → Here e → 0 < e → (get_or l.previous e 0 < e) × Here (get_or l.previous e 0) × (get_or l.next (get_or l.previous e 0) 0 ≡ e)
  pub between : (e f : ℕ) → Here e → Here f → e < f → get_or l.next e 0 ≤ f

-- the same, of a fact that holds of the same entries
pub linked_same : (n : ℕ) (P Q : ℕ → Type 0) (l : Linked) → ((e : ℕ) → P e → Q e) → ((e : ℕ) → Q e → P e) → IsLinked n P l → IsLinked n Q l
linked_same n P Q l to from k = record {
  next_count = k.next_count;
  previous_count = k.previous_count;
  within = λ e q. k.within e (from e q);
  forth = λ e q h. let f = k.forth e (from e q) h in (f.0, f.1, to (get_or l.next e 0) f.2, f.3);
  back = λ e q h. let b = k.back e (from e q) h in (b.0, to (get_or l.previous e 0) b.1, b.2);
  between = λ e f p q h. k.between e f (from e p) (from f q) h;
}

-- all entries of a row
pub linked_row : (n : ℕ) (l : Linked) → IsRow n l → IsLinked n (λ e. e < n + 2) l
linked_row n l row = record {
  next_count = row.next_count;
  previous_count = row.previous_count;
  within = λ e h. h;
  forth = λ e h k.
      let m = row.next e h in
      let b : get_or l.previous (e + 1) 0 ≡ e + 1 - 1 = row.previous (e + 1) (omega (arith, k)) in
      let c : e + 1 - 1 ≡ e = omega arith in
      (omega (arith, m), omega (arith, m, k), omega (arith, m, k), ap (λ (i : ℕ). get_or l.previous i 0) m ∙ b ∙ c);
  back = λ e h k.
      let m = row.previous e h in
      let b : get_or l.next (e - 1) 0 ≡ e - 1 + 1 = row.next (e - 1) (omega (arith, h)) in
      let c : e - 1 + 1 ≡ e = omega (arith, k) in
      (omega (arith, m, k), omega (arith, m, h), ap (λ (i : ℕ). get_or l.next i 0) m ∙ b ∙ c);
  between = λ e f h k less. let m = row.next e h in omega (arith, m, less);
}

same_links : (k l : Linked) → k.next ≡ l.next → k.previous ≡ l.previous → k ≡ l
same_links k l e f = ap (λ (x : List ℕ). record { next = x; previous = k.previous }) e ∙ ap (λ (y : List ℕ). record { next = l.next; previous = y }) f

module _ (n : ℕ) (Here : ℕ → Type 0) (l : Linked) (a : ℕ) (linked : IsLinked n Here l) (here : Here a) (low : 0 < a) (high : a < n + 1) where
  abbrev before : ℕ
  before = get_or l.previous a 0

  abbrev after : ℕ
  after = get_or l.next a 0

  abbrev nexts : List ℕ
  nexts = set l.next before after

  abbrev previouses : List ℕ
  previouses = set l.previous after before

  ahead : (a < after) × (after < n + 2) × Here after × (get_or l.previous after 0 ≡ a)
  ahead = linked.forth a here high

  behind : (before < a) × Here before × (get_or l.next before 0 ≡ a)
  behind = linked.back a here low

  next_before : get_or nexts before 0 ≡ after
  next_before = let b = behind.0 in let c = linked.next_count in get_or-set_same l.next before after 0 (omega (arith, b, c, high))

  next_other : (e : ℕ) → e ≢ before → get_or nexts e 0 ≡ get_or l.next e 0
  next_other e ne = get_or-set_other l.next before e after 0 ne

  previous_after : get_or previouses after 0 ≡ before
  previous_after = let b = ahead.1 in let c = linked.previous_count in get_or-set_same l.previous after before 0 (omega (arith, b, c))

  previous_other : (e : ℕ) → e ≢ after → get_or previouses e 0 ≡ get_or l.previous e 0
  previous_other e ne = get_or-set_other l.previous after e before 0 ne

  -- The entries that are here but for this one.
  abbrev pub Left : ℕ → Type 0
  Left e = Here e × (e ≢ a)

  abbrev Forth : ℕ → ℕ → Type 0
  Forth e y = (e < y) × (y < n + 2) × Left y × (get_or previouses y 0 ≡ e)

  abbrev Back : ℕ → ℕ → Type 0
  Back e y = (y < e) × Left y × (get_or nexts y 0 ≡ e)

  left_forth : (e : ℕ) → Left e → e < n + 1 → Forth e (get_or nexts e 0)
  left_forth e h k = elim (same_or_not e before) [
    | inl q ↦ subst (λ (y : ℕ). Forth e y) (sym (ap (λ (i : ℕ). get_or nexts i 0) q ∙ next_before))
        (let b = behind.0 in let c = ahead.0 in (omega (arith, q, b, c), ahead.1, (ahead.2, λ s. omega (arith, s, c)), previous_after ∙ sym q))
    | inr ne ↦ subst (λ (y : ℕ). Forth e y) (sym (next_other e ne))
        (let f = linked.forth e h.0 k in (
          f.0,
          f.1,
          (f.2, λ s. ne (sym f.3 ∙ ap (λ (i : ℕ). get_or l.previous i 0) s)),
          previous_other (get_or l.next e 0) (λ s. h.1 (sym f.3 ∙ ap (λ (i : ℕ). get_or l.previous i 0) s ∙ ahead.3)) ∙ f.3,
        ))
  ]

  left_back : (e : ℕ) → Left e → 0 < e → Back e (get_or previouses e 0)
  left_back e h k = elim (same_or_not e after) [
    | inl q ↦ subst (λ (y : ℕ). Back e y) (sym (ap (λ (i : ℕ). get_or previouses i 0) q ∙ previous_after))
        (let b = behind.0 in let c = ahead.0 in (omega (arith, q, b, c), (behind.1, λ s. omega (arith, s, b)), next_before ∙ sym q))
    | inr ne ↦ subst (λ (y : ℕ). Back e y) (sym (previous_other e ne))
        (let f = linked.back e h.0 k in (
          f.0,
          (f.1, λ s. ne (sym f.2 ∙ ap (λ (i : ℕ). get_or l.next i 0) s)),
          next_other (get_or l.previous e 0) (λ s. h.1 (sym f.2 ∙ ap (λ (i : ℕ). get_or l.next i 0) s ∙ behind.2)) ∙ f.2,
        ))
  ]

  left_between : (e f : ℕ) → Left e → Left f → e < f → get_or nexts e 0 ≤ f
  left_between e f h k less = elim (same_or_not e before) [
    | inl q ↦ (
        let m = ap (λ (i : ℕ). get_or nexts i 0) q ∙ next_before in
        let s = linked.between before f behind.1 k.0 (omega (arith, q, less)) in
        let b = behind.2 in
        let ne : f ≢ a = k.1 in
        let r = linked.between a f here k.0 (omega (arith, s, b, ne)) in
        omega (arith, m, r)
        )
    | inr ne ↦ (let m = next_other e ne in let r = linked.between e f h.0 k.0 less in omega (arith, m, r))
  ]

  -- without one entry
  pub linked_without : IsLinked n (λ e. Here e × (e ≢ a)) (without l a)
  linked_without = record {
    next_count = length-set l.next before after ∙ linked.next_count;
    previous_count = length-set l.previous after before ∙ linked.previous_count;
    within = λ e h. linked.within e h.0;
    forth = left_forth;
    back = left_back;
    between = left_between;
  }

  pub has_links : HasLinks l a
  has_links = let c = linked.next_count in let d = linked.previous_count in let e = ahead.1 in let f = behind.0 in record {
    next = omega (arith, c, high);
    previous = omega (arith, d, high);
    after = omega (arith, d, e);
    before = omega (arith, c, f, high);
  }

  still_next : get_or nexts a 0 ≡ after
  still_next = let b = behind.0 in next_other a (λ s. omega (arith, s, b))

  still_previous : get_or previouses a 0 ≡ before
  still_previous = let b = ahead.0 in previous_other a (λ s. omega (arith, s, b))

  pub has_links_back : HasLinks (without l a) a
  has_links_back =
      let c = linked_without.next_count in let d = linked_without.previous_count in let e = ahead.1 in let f = behind.0 in let g = still_next in let h = still_previous in record {
        next = omega (arith, c, high);
        previous = omega (arith, d, high);
        after = omega (arith, d, e, g);
        before = omega (arith, c, f, high, h);
      }

  -- with the entry again
  pub with_without : with_entry (without l a) a ≡ l
  with_without = same_links (with_entry (without l a) a) l
      (ap (λ (i : ℕ). set nexts i a) still_previous ∙ set-set l.next before after a ∙ ap (λ (y : ℕ). set l.next before y) (sym behind.2) ∙ set-get_or l.next before 0)
      (ap (λ (i : ℕ). set previouses i a) still_next ∙ set-set l.previous after before a ∙ ap (λ (y : ℕ). set l.previous after y) (sym ahead.3) ∙ set-get_or l.previous after 0)
