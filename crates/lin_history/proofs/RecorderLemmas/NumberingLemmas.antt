-- The calls on each object, numbered from 0 in one walk.
use Rattle.std.proofs.Common.{◌≡◌, ℕ, zero, suc, ◌+◌, ◌<◌, ◌≤◌, ◌==◌, Bool, true, false, cond, Some, None, List, [], ◌∷◌, ◌++◌, map, filter, take, set, length, slice_get, refl, sym, ap, subst, ◌∙◌, arith, inl, inr, eqb, IfSome, add-one}
use Rattle.std.proofs.lemmas.Bool.{eq-eqb, eqb-true}
use Rattle.std.proofs.lemmas.List.{map-set, length-set}
use Rattle.std.proofs.lemmas.Option.{slice_get_within, slice_get-map, slice_get-get_or}
use Rattle.std.proofs.Common.{get_or, IsSomeAnd}
use Rattle.lin_object.specs.declared.op.Op.{Op}
use Rattle.lin_object.specs.declared.reply.Reply.{Reply}
use Rattle.lin_history.specs.declared.recorder.history.CallInfo.{CallInfo}
use Rattle.lin_history.specs.declared.limits.TheConstants.{MAX_CALLS_ON_OBJECT}
use Rattle.lin_history.specs.Recorder.Events.{Call}
use Rattle.lin_history.specs.Recorder.RecordedHistory.{is_on}
use Rattle.lin_history.specs.Recorder.Views.{call_view, count_on, AreFinished, AreWithinLimit}
use Rattle.lin_history.proofs.ListLemmas.{slice_get-set, length_filter-push}
use Rattle.lin_history.proofs.RecorderLemmas.BuilderLemmas.{false_from}
use Rattle.lin_history.specs.declared.recorder.history.Mark.TheVariants.{Unmarked}

-- ---- counts that are cleared

-- the counts before this index are 0
abbrev pub AreClear : ℕ → List ℕ → Type 0
AreClear n counts = (object : ℕ) (k : ℕ) → object < n → slice_get counts object ≡ Some k → k ≡ 0

pub clear_none : (counts : List ℕ) → AreClear 0 counts
clear_none counts object k below there = absurd (omega (arith, below))

pub clear_next : (counts : List ℕ) (n : ℕ) → AreClear n counts → AreClear (n + 1) (set counts n 0)
clear_next counts n clear object k below there =
    elim (slice_get-set counts n 0 object k there) [
      | inl at ↦ sym at.1
      | inr old ↦ (let other = old.0 in clear object k (omega (arith, below, other)) old.1)
    ]

pub clear_all : (counts : List ℕ) (n : ℕ) → length counts ≤ n → AreClear n counts → (object : ℕ) (k : ℕ) → slice_get counts object ≡ Some k → k ≡ 0
clear_all counts n over clear object k there = let within = slice_get_within counts object k there in clear object k (omega (arith, within, over)) there

-- ---- lists

module _ {A : Type 0} where
  set_same : (xs : List A) (i : ℕ) (x : A) → slice_get xs i ≡ Some x → set xs i x ≡ xs
  set_same [] i x e = refl
  set_same (y ∷ xs) zero x e = let same : y ≡ x = cc in ap (λ (z : A). z ∷ xs) (sym same)
  set_same (y ∷ xs) (suc i) x e = ap (λ (zs : List A). y ∷ zs) (set_same xs i x e)

  take_more : (xs : List A) (n : ℕ) (x : A) → slice_get xs n ≡ Some x → take (suc n) xs ≡ take n xs ++ x ∷ []
  take_more [] n x e = absurd (cc)
  take_more (y ∷ xs) zero x e = let same : y ≡ x = cc in ap (λ (z : A). z ∷ []) same
  take_more (y ∷ xs) (suc n) x e = ap (λ (zs : List A). y ∷ zs) (take_more xs n x e)

  count_taken : (p : A → Bool) (n : ℕ) (xs : List A) → length (filter p (take n xs)) ≤ length (filter p xs)
  count_taken p zero xs = omega arith
  count_taken p (suc n) [] = omega arith
  count_taken p (suc n) (x ∷ xs) =
      let rest = count_taken p n xs in
      elim (p x) as (λ b. length (cond b (x ∷ filter p (take n xs)) (filter p (take n xs))) ≤ length (cond b (x ∷ filter p xs) (filter p xs))) [ true ↦ omega (arith, rest) | false ↦ rest ]

  map_taken : {B : Type 0} (f : A → B) (n : ℕ) (xs : List A) → map f (take n xs) ≡ take n (map f xs)
  map_taken f zero xs = refl
  map_taken f (suc n) [] = refl
  map_taken f (suc n) (x ∷ xs) = ap (λ ys. f x ∷ ys) (map_taken f n xs)

-- ---- numbers

-- The calls before this index have their numbers, and the counts count them.
pub record IsNumbering (seen : List (Call Op Reply)) (calls : List CallInfo) (counts : List ℕ) (n : ℕ) : Type 0 where
  pub same : map call_view calls ≡ seen
  pub numbers : (i : ℕ) (c : CallInfo) → i < n → slice_get calls i ≡ Some c → (c.number ≡ count_on c.object (take i seen)) × (c.mark ≡ Unmarked)
  pub counted : (object : ℕ) (k : ℕ) → slice_get counts object ≡ Some k → k ≡ count_on object (take n seen)
  pub below : (i : ℕ) (c : CallInfo) → slice_get calls i ≡ Some c → c.object < length counts

pub numbering_start : (calls : List CallInfo) (old counts : List ℕ) → length counts ≡ length old → ((i : ℕ) (c : CallInfo) → slice_get calls i ≡ Some c → c.object < length old)
    → ((object : ℕ) (k : ℕ) → slice_get counts object ≡ Some k → k ≡ 0) → IsNumbering (map call_view calls) calls counts 0
numbering_start calls old counts count below clear = record {
  same = refl;
  numbers = λ i c less there. absurd (omega (arith, less));
  counted = λ object k there. clear object k there;
  below = λ i c there. (let less = below i c there in omega (arith, less, count));
}

-- the call of the index is there, and has a count
pub numbering_within : (seen : List (Call Op Reply)) (calls : List CallInfo) (counts : List ℕ) (n : ℕ) → IsNumbering seen calls counts n → n < length calls → IsSomeAnd (slice_get calls n) (λ c. c.object < length counts)
numbering_within seen calls counts n is within = there (slice_get calls n) refl within
  where
    there : (o : _) → slice_get calls n ≡ o → n < length calls → IsSomeAnd o (λ c. c.object < length counts)
    there None e less = absurd (none_past calls n e less)
      where
        none_past : (xs : List CallInfo) (i : ℕ) → slice_get xs i ≡ None → i < length xs → ⊥
        none_past [] i e less = absurd (omega (arith, less))
        none_past (x ∷ xs) zero e less = absurd (cc)
        none_past (x ∷ xs) (suc i) e less = none_past xs i e (omega (arith, less))
    there (Some c) e less = is.below n c e

module _ (seen : List (Call Op Reply)) (calls : List CallInfo) (counts : List ℕ) (n : ℕ) (is : IsNumbering seen calls counts n) (c : CallInfo) (k : ℕ)
    (there : slice_get calls n ≡ Some c) (count : slice_get counts c.object ≡ Some k) where
  abbrev numbered : CallInfo
  numbered = record c { number = k; mark = Unmarked }

  seen_at : slice_get seen n ≡ Some (call_view c)
  seen_at = subst (λ xs. slice_get xs n ≡ Some (call_view c)) is.same (rw (slice_get-map call_view calls n, there) refl)

  count_more : (q : ℕ) → count_on q (take (n + 1) seen) ≡ count_on q (take n seen) + cond (c.object == q) 1 0
  count_more q = rw (add-one, take_more seen n (call_view c) seen_at) (length_filter-push (is_on q) (take n seen) (call_view c))

  counted_next : (q m : ℕ) → slice_get (set counts c.object (k + 1)) q ≡ Some m → m ≡ count_on q (take (n + 1) seen)
  counted_next q m at =
      let more = count_more q in
      elim (slice_get-set counts c.object (k + 1) q m at) [
        | inl new ↦ (
            let own : eqb c.object q ≡ true = eq-eqb c.object q (sym new.0) in
            let was = is.counted q k (subst (λ o. slice_get counts o ≡ Some k) (sym new.0) count) in
            let now : count_on q (take (n + 1) seen) ≡ count_on q (take n seen) + 1 = rw own at more in
            omega (arith, was, now, new.1))
        | inr old ↦ (
            let other : eqb c.object q ≡ false = false_from (eqb c.object q) (λ e. old.0 (sym (eqb-true c.object q e))) in
            let was = is.counted q m old.1 in
            let now : count_on q (take (n + 1) seen) ≡ count_on q (take n seen) + 0 = rw other at more in
            omega (arith, was, now))
      ]

  numbers_next : (i : ℕ) (d : CallInfo) → i < n + 1 → slice_get (set calls n numbered) i ≡ Some d → (d.number ≡ count_on d.object (take i seen)) × (d.mark ≡ Unmarked)
  numbers_next i d less at =
      elim (slice_get-set calls n numbered i d at) [
        | inl new ↦ (
            let P : CallInfo → Type 0 = λ x. (x.number ≡ count_on x.object (take i seen)) × (x.mark ≡ Unmarked) in
            let here : k ≡ count_on c.object (take n seen) = is.counted c.object k count in
            subst P new.1 (subst (λ j. k ≡ count_on c.object (take j seen)) (sym new.0) here, refl))
        | inr old ↦ (let other = old.0 in is.numbers i d (omega (arith, less, other)) old.1)
      ]

  below_next : (i : ℕ) (d : CallInfo) → slice_get (set calls n numbered) i ≡ Some d → d.object < length (set counts c.object (k + 1))
  below_next i d at =
      let same = length-set counts c.object (k + 1) in
      elim (slice_get-set calls n numbered i d at) [
        | inl new ↦ (let less = is.below n c there in let on = ap (λ (x : CallInfo). x.object) new.1 in omega (arith, less, on, same))
        | inr old ↦ (let less = is.below i d old.1 in omega (arith, less, same))
      ]

  next_numbering : IsNumbering seen (set calls n numbered) (set counts c.object (k + 1)) (n + 1)
  next_numbering = record {
    same = map-set call_view calls n numbered ∙ set_same (map call_view calls) n (call_view c) (rw (slice_get-map call_view calls n, there) refl) ∙ is.same;
    numbers = numbers_next;
    counted = counted_next;
    below = below_next;
  }

  -- its number is below the limit
  room_here : AreWithinLimit seen → k < MAX_CALLS_ON_OBJECT
  room_here limited =
      let was = is.counted c.object k count in
      let now : count_on c.object (take (n + 1) seen) ≡ count_on c.object (take n seen) + 1 = rw (eq-eqb c.object c.object refl) at (count_more c.object) in
      let some = count_taken (is_on c.object) (n + 1) seen in
      let all = limited c.object in
      omega (arith, was, now, some, all)

-- the number that the call of the index gets is below the limit
pub numbering_room : (seen : List (Call Op Reply)) (calls : List CallInfo) (counts : List ℕ) (n : ℕ) → IsNumbering seen calls counts n → AreWithinLimit seen
    → IfSome (slice_get calls n) (λ c. IfSome (slice_get counts c.object) (λ k. k < MAX_CALLS_ON_OBJECT))
numbering_room seen calls counts n is limited = at (slice_get calls n) refl
  where
    with_count : (c : CallInfo) → slice_get calls n ≡ Some c → (o : _) → slice_get counts c.object ≡ o → IfSome o (λ k. k < MAX_CALLS_ON_OBJECT)
    with_count c there None e = tt
    with_count c there (Some k) e = room_here seen calls counts n is c k there e limited

    at : (o : _) → slice_get calls n ≡ o → IfSome o (λ c. IfSome (slice_get counts c.object) (λ k. k < MAX_CALLS_ON_OBJECT))
    at None e = tt
    at (Some c) e = with_count c e (slice_get counts c.object) refl

-- by what numbering one call leaves
pub numbering_next : (seen : List (Call Op Reply)) (calls calls' : List CallInfo) (counts counts' : List ℕ) (n : ℕ) → IsNumbering seen calls counts n → n < length calls
    → IfSome (slice_get calls n) (λ c. IfSome (slice_get counts c.object) (λ k. (calls' ≡ set calls n (record c { number = k; mark = Unmarked })) × (counts' ≡ set counts c.object (k + 1))))
    → IsNumbering seen calls' counts' (n + 1)
numbering_next seen calls calls' counts counts' n is within made = at (slice_get calls n) refl (numbering_within seen calls counts n is within) made
  where
    at : (o : _) → slice_get calls n ≡ o → IsSomeAnd o (λ c. c.object < length counts)
        → IfSome o (λ c. IfSome (slice_get counts c.object) (λ k. (calls' ≡ set calls n (record c { number = k; mark = Unmarked })) × (counts' ≡ set counts c.object (k + 1)))) → IsNumbering seen calls' counts' (n + 1)
    at None e less h = absurd less
    at (Some c) e less h =
        let there : slice_get counts c.object ≡ Some (get_or counts c.object 0) = slice_get-get_or counts c.object 0 less in
        let new = rw there at h in
        rw (new.0, new.1) (next_numbering seen calls counts n is c (get_or counts c.object 0) e there)

pub numbering_done : (seen : List (Call Op Reply)) (calls : List CallInfo) (counts : List ℕ) (n : ℕ) → IsNumbering seen calls counts n → length calls ≤ n → AreFinished calls
numbering_done seen calls counts n is over i c there =
    let within = slice_get_within calls i c there in
    rw (map_taken call_view i calls, is.same) (is.numbers i c (omega (arith, within, over)) there)
