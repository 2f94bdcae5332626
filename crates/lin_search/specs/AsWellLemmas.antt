-- What the calls tried so far tell of a configuration, where calls are left untried since others do as well.
use Rattle.std.proofs.Common.{◌≡◌, ℕ, ◌<◌, ◌≤◌, ◌+◌, Bool, Option, Some, List, [], ◌∷◌, length, ◌⊎◌, inl, inr, refl, sym, subst, arith}
use Rattle.std.proofs.lemmas.Bool.{cases_lt}
use Rattle.lin_history.specs.Problems.Problem.{Problem}
use Rattle.lin_history.specs.Problems.Lists.{first_of}
use Rattle.lin_history.specs.Problems.Continuations.{IsContinuation, IsCompletion}
use Rattle.lin_search.specs.AlikeLemmas.{AreAlike}
use Rattle.lin_search.specs.Progress.{IsBelow, IsSearchedTo}
use Rattle.lin_search.specs.NeedlessCalls.{exchange, StandsFor, DoesAsWell}
use Rattle.lin_search.specs.ExchangeLemmas.{exchange_length, exchanged_continues, exchanged_completes}

pub below_later : (i j : ℕ) (l : List ℕ) → i ≤ j → IsBelow i l → IsBelow j l
below_later i j [] h b = tt
below_later i j (c ∷ cs) h b = omega (arith, h, b)

pub below_or_not : (i : ℕ) (l : List ℕ) → IsBelow i l ⊎ ((c : ℕ) × (cs : List ℕ) × (l ≡ c ∷ cs) × (i ≤ c))
below_or_not i [] = inl tt
below_or_not i (c ∷ cs) = elim (cases_lt c i) [ inl h ↦ inl h | inr h ↦ inr (c, cs, refl, h) ]

module _ {State Op Reply : Type 0} (p : Problem State Op Reply) (set : List Bool) (s : State) where
  -- Where each continuation that begins with a call from i on and below j has one below i that does as well, the calls from i on
  -- and below j need not be tried.
  pub searched_as_well : (i j more : ℕ) (first : Option ℕ) → i ≤ j → IsSearchedTo p set s i more first
      → ((c : ℕ) (cs : List ℕ) → i ≤ c → c < j → IsContinuation p set s (c ∷ cs) → DoesAsWell p set s i (c ∷ cs))
      → IsSearchedTo p set s j more first
  searched_as_well i j more first up searched others = record {
    none = none;
    longest = record {
      there = let q = searched.longest.there in (q.0, (q.1.0, below_later i j q.0 up q.1.1), q.2, q.3);
      greatest = greatest;
      least = least;
    };
  }
    where
      none : (l : List ℕ) → IsCompletion p set s l → IsBelow j l → ⊥
      none [] k b = searched.none [] k tt
      none (c ∷ cs) k b = elim (cases_lt c i) [
        | inl h ↦ searched.none (c ∷ cs) k h
        | inr h ↦ (let o = others c cs h b k.continuation in searched.none o.list (o.completes k) o.below)
      ]

      greatest : (l : List ℕ) → IsContinuation p set s l × IsBelow j l → length l ≤ more
      greatest [] k = searched.longest.greatest [] (k.0, tt)
      greatest (c ∷ cs) k = elim (cases_lt c i) [
        | inl h ↦ searched.longest.greatest (c ∷ cs) (k.0, h)
        | inr h ↦ (let o = others c cs h k.1 k.0 in let n = searched.longest.greatest o.list (o.continues, o.below) in let m = o.length in omega (arith, n, m))
      ]

      -- the first call of a list below i that is not empty
      head : (m : List ℕ) → IsBelow i m → 0 < length m → (d : ℕ) × (first_of m ≡ Some d) × (d < i)
      head [] b h = absurd (omega (arith, h))
      head (d ∷ ds) b h = (d, refl, b)

      least : (l : List ℕ) → IsContinuation p set s l × IsBelow j l → length l ≡ more → (c d : ℕ) → first ≡ Some c → first_of l ≡ Some d → c ≤ d
      least [] k e c d f g = absurd (cc)
      least (x ∷ xs) k e c d f g = elim (cases_lt x i) [
        | inl h ↦ searched.longest.least (x ∷ xs) (k.0, h) e c d f g
        | inr h ↦ (
            let o = others x xs h k.1 k.0 in
            let m : length (x ∷ xs) ≤ length o.list = o.length in
            let n = searched.longest.greatest o.list (o.continues, o.below) in
            let top = head o.list o.below (omega (arith, m)) in
            let low = searched.longest.least o.list (o.continues, o.below) (omega (arith, m, n, e)) c top.0 f top.1 in
            let same : x ≡ d = cc in
            let under = top.2 in
            omega (arith, low, under, h, same)
            )
      ]

  -- P: a call that an earlier one stands for adds nothing to what the calls tried so far show.
  pub searched_in_order : AreAlike p p → (a b more : ℕ) (first : Option ℕ) → StandsFor p set s a b → IsSearchedTo p set s b more first → IsSearchedTo p set s (b + 1) more first
  searched_in_order alike a b more first stands searched =
      searched_as_well b (b + 1) more first (omega arith) searched (λ c cs up down k. as_well c cs (omega (arith, up, down)) k)
    where
      as_well : (c : ℕ) (cs : List ℕ) → c ≡ b → IsContinuation p set s (c ∷ cs) → DoesAsWell p set s b (c ∷ cs)
      as_well c cs e k = subst (λ (x : ℕ). DoesAsWell p set s b (x ∷ cs)) (sym e) (record {
        list = a ∷ exchange a b cs;
        continues = exchanged_continues p alike set s a b stands cs (subst (λ (x : ℕ). IsContinuation p set s (x ∷ cs)) e k);
        completes = λ whole. exchanged_completes p alike set s a b stands cs whole;
        below = stands.less;
        length = (let n = exchange_length a b cs in omega (arith, n));
      })
