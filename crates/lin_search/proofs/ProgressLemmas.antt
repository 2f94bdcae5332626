-- What the calls below one tell of a configuration, as one call more was tried.
use Rattle.std.proofs.Common.{◌≡◌, ℕ, zero, suc, ◌+◌, ◌<◌, ◌≤◌, Bool, true, false, Option, Some, None, List, [], ◌∷◌, length, set, ◌⊎◌, inl, inr, refl, sym, ◌∙◌, ap, subst, arith}
use Rattle.std.proofs.lemmas.List.{length-set}
use Rattle.std.proofs.lemmas.Bool.{cases_lt}
use Rattle.lin_search.specs.CallSetLemmas.{below_or_last}
use Rattle.lin_history.specs.Problems.Problem.{Problem}
use Rattle.lin_history.specs.Problems.Lists.{IsUpTo, IsLeast, IsLongest, first_of}
use Rattle.lin_history.specs.Problems.Continuations.{has, IsContinuation, IsCompletion}
use Rattle.lin_search.specs.CallSet.{with_call}
use Rattle.lin_search.specs.declared.longest.Longest.{Longest}
use Rattle.lin_search.specs.NextCall.{IsNext, HasEveryCompleted}
use Rattle.lin_search.specs.Progress.{IsBelow, IsSearchedTo, free}
use Rattle.lin_search.specs.FirstCallLemmas.{continuation_split, continuation_join, completion_join, none_continues, none_completes, complete_none, next_within, tail_continues, tail_completes}

pub below_more : (i : ℕ) (l : List ℕ) → IsBelow i l → IsBelow (i + 1) l
below_more i [] b = tt
below_more i (c ∷ cs) b = omega arith

pub free_less : (s : List Bool) (c : ℕ) → c < length s → has s c ≡ false → suc (free (with_call s c)) ≡ free s
free_less [] c h e = absurd (omega arith)
free_less (true ∷ s) zero h e = absurd (cc)
free_less (false ∷ s) zero h e = refl
free_less (true ∷ s) (suc c) h e = free_less s c (omega arith) e
free_less (false ∷ s) (suc c) h e = ap suc (free_less s c (omega arith) e)

pub free_within : (s : List Bool) → free s ≤ length s
free_within [] = omega arith
free_within (true ∷ s) = omega (arith, free_within s)
free_within (false ∷ s) = omega (arith, free_within s)

module _ {State Op Reply : Type 0} (p : Problem State Op Reply) where
  pub flags_kept : (set : List Bool) (c : ℕ) → length set ≡ length p.calls → length (with_call set c) ≡ length p.calls
  flags_kept set c e = length-set set c true ∙ e

  -- a continuation is no longer than the set of calls that are left
  pub short : (l : List ℕ) (set : List Bool) (s : State) → length set ≡ length p.calls → IsContinuation p set s l → length l ≤ free set
  short [] set s flags k = omega arith
  short (c ∷ cs) set s flags k =
      let q = continuation_split p set s c cs flags k in
      let within : c < length set = let h = next_within p s q.0 c q.1.step in omega (arith, flags, h) in
      let less = free_less set c within q.1.outside in
      let tail = short cs (with_call set c) q.0 (flags_kept set c flags) q.2 in
      omega (arith, less, tail)

  pub searched_start : (set : List Bool) (s : State) → (HasEveryCompleted p set → ⊥) → IsSearchedTo p set s 0 0 None
  searched_start set s open_call = record {
    none = none;
    longest = record {
      there = ([], (none_continues p set s, tt), refl, refl);
      greatest = greatest;
      least = λ l k e c d f g. absurd (cc);
    };
  }
    where
      none : (l : List ℕ) → IsCompletion p set s l → IsBelow 0 l → ⊥
      none [] k b = open_call (complete_none p set s k)
      none (c ∷ cs) k b = omega arith

      greatest : (l : List ℕ) → IsContinuation p set s l × IsBelow 0 l → length l ≤ 0
      greatest [] k = omega arith
      greatest (c ∷ cs) k = absurd (let b : c < 0 = k.1 in omega arith)

  -- a list whose first call is below i + 1 is below i, or begins with i
  pub below_cases : (i : ℕ) (l : List ℕ) → IsBelow (i + 1) l → IsBelow i l ⊎ ((cs : List ℕ) × (l ≡ i ∷ cs))
  below_cases i [] b = inl tt
  below_cases i (c ∷ cs) b = elim (below_or_last c i b) [ inl h ↦ inl h | inr h ↦ inr (cs, rw h refl) ]

  pub searched_skip : (set : List Bool) (s : State) (i more : ℕ) (first : Option ℕ) → length set ≡ length p.calls → IsSearchedTo p set s i more first → ((t : State) → IsNext p set s i t → ⊥) → IsSearchedTo p set s (i + 1) more first
  searched_skip set s i more first flags searched no_step = record {
    none = λ l k b. searched.none l k (below l k.continuation b);
    longest = record {
      there = let q = searched.longest.there in (q.0, (q.1.0, below_more i q.0 q.1.1), q.2, q.3);
      greatest = λ l k. searched.longest.greatest l (k.0, below l k.0 k.1);
      least = λ l k. searched.longest.least l (k.0, below l k.0 k.1);
    };
  }
    where
      below : (l : List ℕ) → IsContinuation p set s l → IsBelow (i + 1) l → IsBelow i l
      below l k b = elim (below_cases i l b) [
        | inl h ↦ h
        | inr q ↦ absurd (let n = continuation_split p set s i q.0 flags (subst (λ (m : List ℕ). IsContinuation p set s m) q.1 k) in no_step n.0 n.1)
      ]

  -- calls that can't follow are passed over
  pub searched_to : (set : List Bool) (s : State) (i j more : ℕ) (first : Option ℕ) → length set ≡ length p.calls → i ≤ j → IsSearchedTo p set s i more first → ((c : ℕ) → i ≤ c → c < j → (t : State) → IsNext p set s c t → ⊥) → IsSearchedTo p set s j more first
  searched_to set s i j more first flags h searched none = record {
    none = λ l k b. searched.none l k (below l k.continuation b);
    longest = record {
      there = let q = searched.longest.there in (q.0, (q.1.0, above q.0 q.1.1), q.2, q.3);
      greatest = λ l k. searched.longest.greatest l (k.0, below l k.0 k.1);
      least = λ l k. searched.longest.least l (k.0, below l k.0 k.1);
    };
  }
    where
      below : (l : List ℕ) → IsContinuation p set s l → IsBelow j l → IsBelow i l
      below [] k b = tt
      below (c ∷ cs) k b = elim (cases_lt c i) [
        | inl q ↦ q
        | inr q ↦ absurd (let n = continuation_split p set s c cs flags k in none c q b n.0 n.1)
      ]

      above : (l : List ℕ) → IsBelow i l → IsBelow j l
      above [] b = tt
      above (c ∷ cs) b = omega (arith, b, h)

  -- the call i leads to a configuration that has no completion and this longest continuation
  module _ (set : List Bool) (s : State) (i : ℕ) (t : State) (below : ℕ) (below_first : Option ℕ) (flags : length set ≡ length p.calls) (is_next : IsNext p set s i t) (refuted : (l : List ℕ) → IsCompletion p (with_call set i) t l → ⊥) (deep : IsLongest (IsContinuation p (with_call set i) t) below below_first) where
    none_more : (more : ℕ) (first : Option ℕ) → IsSearchedTo p set s i more first → (l : List ℕ) → IsCompletion p set s l → IsBelow (i + 1) l → ⊥
    none_more more first searched l k b = elim (below_cases i l b) [
      | inl h ↦ searched.none l k h
      | inr q ↦ refuted q.0 (tail_completes p set s i t flags is_next q.0 (subst (λ (m : List ℕ). IsCompletion p set s m) q.1 k))
    ]

    -- such a list is no longer than one more
    deep_short : (l cs : List ℕ) → l ≡ i ∷ cs → IsContinuation p set s l → length l ≤ below + 1
    deep_short l cs e k =
        let h = deep.greatest cs (tail_continues p set s i t flags is_next cs (subst (λ (m : List ℕ). IsContinuation p set s m) e k)) in
        let n : length l ≡ suc (length cs) = ap length e in
        omega (arith, h, n)

    pub searched_longer : (more : ℕ) (first : Option ℕ) → IsSearchedTo p set s i more first → more < below + 1 → IsSearchedTo p set s (i + 1) (below + 1) (Some i)
    searched_longer more first searched longer = record {
      none = none_more more first searched;
      longest = record {
        there =
            let q = deep.there in
            (i ∷ q.0, (continuation_join p set s i q.0 t flags is_next q.1, omega arith), (let n = q.2 in omega (arith, n)), refl);
        greatest = λ l k. elim (below_cases i l k.1) [
          | inl h ↦ (let n = searched.longest.greatest l (k.0, h) in omega (arith, n, longer))
          | inr q ↦ deep_short l q.0 q.1 k.0
        ];
        least = λ l k e c d f g. elim (below_cases i l k.1) [
          | inl h ↦ absurd (let n = searched.longest.greatest l (k.0, h) in omega (arith, n, longer, e))
          | inr q ↦ (let w = first_is l q.0 c d q.1 f g in omega (arith, w))
        ];
      };
    }
      where
        first_is : (l cs : List ℕ) (c d : ℕ) → l ≡ i ∷ cs → Some i ≡ Some c → first_of l ≡ Some d → c ≡ d
        first_is l cs c d e f g = let g' = rw e at g in cc

    pub searched_no_longer : (more : ℕ) (first : Option ℕ) → IsSearchedTo p set s i more first → below + 1 ≤ more → IsSearchedTo p set s (i + 1) more first
    searched_no_longer more first searched no_longer = record {
      none = none_more more first searched;
      longest = record {
        there = let q = searched.longest.there in (q.0, (q.1.0, below_more i q.0 q.1.1), q.2, q.3);
        greatest = λ l k. elim (below_cases i l k.1) [
          | inl h ↦ searched.longest.greatest l (k.0, h)
          | inr q ↦ (let n = deep_short l q.0 q.1 k.0 in omega (arith, n, no_longer))
        ];
        least = λ l k e c d f g. elim (below_cases i l k.1) [
          | inl h ↦ searched.longest.least l (k.0, h) e c d f g
          | inr q ↦ begins_less l q.0 c d q.1 f g
        ];
      };
    }
      where
        begins_less : (l cs : List ℕ) (c d : ℕ) → l ≡ i ∷ cs → first ≡ Some c → first_of l ≡ Some d → c ≤ d
        begins_less l cs c d e f g =
            let g' : Some i ≡ Some d = rw e at g in
            let same : i ≡ d = cc in
            let q = searched.longest.there in
            let head : c < i = head_below q.0 c (q.3 ∙ f) q.1.1 in
            omega (arith, same, head)
          where
            head_below : (m : List ℕ) (c : ℕ) → first_of m ≡ Some c → IsBelow i m → c < i
            head_below [] c e b = absurd (cc)
            head_below (d ∷ ds) c e b = let same : d ≡ c = cc in omega (arith, same, b)

  -- what the calls up to this one tell, once it is known what this one leads to
  pub searched_after : (set : List Bool) (s : State) (i : ℕ) (t : State) (longest deep after : Longest) → length set ≡ length p.calls → IsNext p set s i t → ((l : List ℕ) → IsCompletion p (with_call set i) t l → ⊥) → IsLongest (IsContinuation p (with_call set i) t) deep.more deep.first → IsSearchedTo p set s i longest.more longest.first → (longest.more < deep.more + 1 → after ≡ record { more = deep.more + 1; first = Some i }) → (deep.more + 1 ≤ longest.more → after ≡ longest) → IsSearchedTo p set s (i + 1) after.more after.first
  searched_after set s i t longest deep after flags is_next none is_longest searched longer not_longer =
      elim (cases_lt longest.more (deep.more + 1)) [
        | inl h ↦ rw (longer h) (searched_longer set s i t deep.more deep.first flags is_next none is_longest longest.more longest.first searched h)
        | inr h ↦ rw (not_longer h) (searched_no_longer set s i t deep.more deep.first flags is_next none is_longest longest.more longest.first searched h)
      ]

  pub searched_all : (set : List Bool) (s : State) (n more : ℕ) (first : Option ℕ) → n ≡ length p.calls → length set ≡ length p.calls → IsSearchedTo p set s n more first → ((l : List ℕ) → IsCompletion p set s l → ⊥) × IsLongest (IsContinuation p set s) more first
  searched_all set s n more first all flags searched = (
    λ l k. searched.none l k (below l k.continuation),
    record {
      there = let q = searched.longest.there in (q.0, q.1.0, q.2, q.3);
      greatest = λ l k. searched.longest.greatest l (k, below l k);
      least = λ l k. searched.longest.least l (k, below l k);
    },
  )
    where
      below : (l : List ℕ) → IsContinuation p set s l → IsBelow n l
      below [] k = tt
      below (c ∷ cs) k = let q = continuation_split p set s c cs flags k in let h = next_within p s q.0 c q.1.step in omega (arith, h, all)

  pub found_least : (set : List Bool) (s : State) (i : ℕ) (t : State) (more : ℕ) (first : Option ℕ) (m : List ℕ) → length set ≡ length p.calls → IsSearchedTo p set s i more first → IsNext p set s i t → IsLeast (IsCompletion p (with_call set i) t) m → IsLeast (IsCompletion p set s) (i ∷ m)
  found_least set s i t more first m flags searched is_next least = (completion_join p set s i m t flags is_next least.0, up_to)
    where
      up_to : (l : List ℕ) → IsCompletion p set s l → IsUpTo (i ∷ m) l
      up_to [] k = absurd (searched.none [] k tt)
      up_to (c ∷ cs) k = elim (three c i) [
        | inl h ↦ absurd (searched.none (c ∷ cs) k h)
        | inr (inl h) ↦ inr (sym h, least.1 cs (tail_completes p set s i t flags is_next cs (subst (λ (x : ℕ). IsCompletion p set s (x ∷ cs)) h k)))
        | inr (inr h) ↦ inl h
      ]
        where
          three : (c i : ℕ) → (c < i) ⊎ ((c ≡ i) ⊎ (i < c))
          three c i = grind arith

  pub least_none : (set : List Bool) (s : State) → HasEveryCompleted p set → IsLeast (IsCompletion p set s) []
  least_none set s h = (none_completes p set s h, λ l k. tt)

  -- a longest continuation after a call leaves room for that call
  pub room : (set : List Bool) (s : State) (i : ℕ) (t : State) (more : ℕ) (first : Option ℕ) → length set ≡ length p.calls → IsNext p set s i t → IsLongest (IsContinuation p (with_call set i) t) more first → more + 1 ≤ length p.calls
  room set s i t more first flags is_next deep =
      let q = deep.there in
      let within : i < length set = let h = next_within p s t i is_next.step in omega (arith, flags, h) in
      let less = free_less set i within is_next.outside in
      let tail = short q.0 (with_call set i) t (flags_kept set i flags) q.1 in
      let fit = free_within set in
      let n = q.2 in
      omega (arith, less, tail, fit, n, flags)

  -- fewer calls are left after a call
  pub leads_down : (set : List Bool) (s : State) (i : ℕ) (t : State) → length set ≡ length p.calls → IsNext p set s i t → free (with_call set i) < free set
  leads_down set s i t flags is_next =
      let within : i < length set = let h = next_within p s t i is_next.step in omega (arith, flags, h) in
      let less = free_less set i within is_next.outside in
      omega (arith, less)
