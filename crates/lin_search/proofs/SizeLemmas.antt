-- How many continuations a configuration has, as one call more was tried.
use Rattle.std.proofs.Common.{◌≡◌, ℕ, suc, ◌+◌, ◌<◌, ◌≤◌, Bool, List, [], ◌∷◌, ◌++◌, length, ◌⊎◌, inl, inr, refl, sym, ◌∙◌, ap, subst, arith, length-append}
use Rattle.lin_history.specs.Problems.Problem.{Problem}
use Rattle.lin_history.specs.Problems.Continuations.{IsContinuation}
use Rattle.lin_search.specs.CallSet.{with_call}
use Rattle.lin_search.specs.NextCall.{IsNext}
use Rattle.lin_search.specs.Size.{IsOneOf, AllDifferent, EachOf, HasMany}
use Rattle.lin_search.specs.FirstCallLemmas.{continuation_join, none_continues}
use Rattle.lin_search.specs.Progress.{IsBelow, IsContinuationBelow}
use Rattle.lin_search.proofs.ProgressLemmas.{below_more}

module _ (P : List ℕ → Type 0) where
  each_append : (xs ys : List (List ℕ)) → EachOf P xs → EachOf P ys → EachOf P (xs ++ ys)
  each_append [] ys a b = b
  each_append (x ∷ xs) ys a b = (a.0, each_append xs ys a.1 b)

  each_at : (xs : List (List ℕ)) (l : List ℕ) → EachOf P xs → IsOneOf l xs → P l
  each_at [] l a h = absurd h
  each_at (x ∷ xs) l a h = elim h [ inl q ↦ subst P (sym q) a.0 | inr q ↦ each_at xs l a.1 q ]

each_map : (P Q : List ℕ → Type 0) → ((l : List ℕ) → P l → Q l) → (xs : List (List ℕ)) → EachOf P xs → EachOf Q xs
each_map P Q f [] a = tt
each_map P Q f (x ∷ xs) a = (f x a.0, each_map P Q f xs a.1)

one_append : (xs ys : List (List ℕ)) (l : List ℕ) → IsOneOf l (xs ++ ys) → IsOneOf l xs ⊎ IsOneOf l ys
one_append [] ys l h = inr h
one_append (x ∷ xs) ys l h = elim h [ inl q ↦ inl (inl q) | inr q ↦ elim (one_append xs ys l q) [ inl r ↦ inl (inr r) | inr r ↦ inr r ] ]

different_append : (xs ys : List (List ℕ)) → AllDifferent xs → AllDifferent ys → ((l : List ℕ) → IsOneOf l xs → IsOneOf l ys → ⊥) → AllDifferent (xs ++ ys)
different_append [] ys a b apart = b
different_append (x ∷ xs) ys a b apart = (
  λ h. elim (one_append xs ys x h) [ inl q ↦ a.0 q | inr q ↦ apart x (inl refl) q ],
  different_append xs ys a.1 b (λ l h k. apart l (inr h) k),
)

-- each list, behind i
abbrev behind : ℕ → List (List ℕ) → List (List ℕ)
behind i [] = []
behind i (l ∷ ls) = (i ∷ l) ∷ behind i ls

one_behind : (i : ℕ) (ls : List (List ℕ)) (l : List ℕ) → IsOneOf l (behind i ls) → (m : List ℕ) × (l ≡ i ∷ m) × IsOneOf m ls
one_behind i [] l h = absurd h
one_behind i (x ∷ ls) l h = elim h [ inl q ↦ (x, q, inl refl) | inr q ↦ (let r = one_behind i ls l q in (r.0, r.1, inr r.2)) ]

tails_same : (i : ℕ) (a b : List ℕ) → i ∷ a ≡ i ∷ b → a ≡ b
tails_same i a b e = cc

different_behind : (i : ℕ) (ls : List (List ℕ)) → AllDifferent ls → AllDifferent (behind i ls)
different_behind i [] a = tt
different_behind i (x ∷ ls) a =
    (λ h. (let r = one_behind i ls (i ∷ x) h in a.0 (subst (λ (m : List ℕ). IsOneOf m ls) (sym (tails_same i x r.0 r.1)) r.2)), different_behind i ls a.1)

length_behind : (i : ℕ) (ls : List (List ℕ)) → length (behind i ls) ≡ length ls
length_behind i [] = refl
length_behind i (x ∷ ls) = ap suc (length_behind i ls)

each_behind : (P Q : List ℕ → Type 0) (i : ℕ) → ((l : List ℕ) → P l → Q (i ∷ l)) → (ls : List (List ℕ)) → EachOf P ls → EachOf Q (behind i ls)
each_behind P Q i f [] a = tt
each_behind P Q i f (x ∷ ls) a = (f x a.0, each_behind P Q i f ls a.1)

not_below_itself : (i : ℕ) (l m : List ℕ) → l ≡ i ∷ m → IsBelow i l → ⊥
not_below_itself i l m e b = let h : i < i = subst (λ (x : List ℕ). IsBelow i x) e b in omega (arith, h)

not_empty : (i : ℕ) (l : List ℕ) → i ∷ l ≡ [] → ⊥
not_empty i l e = cc

pub many_none : (P : List ℕ → Type 0) → HasMany P 0
many_none P = record { lists = []; different = tt; each = tt; count = refl }

module _ {State Op Reply : Type 0} (p : Problem State Op Reply) (set : List Bool) (s : State) where
  below_to : (i j : ℕ) → i ≤ j → (l : List ℕ) → IsBelow i l → IsBelow j l
  below_to i j h [] b = tt
  below_to i j h (c ∷ cs) b = omega (arith, b, h)

  pub many_to : (i j n : ℕ) → i ≤ j → HasMany (IsContinuationBelow p set s i) n → HasMany (IsContinuationBelow p set s j) n
  many_to i j n h k = record {
    lists = k.lists;
    different = k.different;
    each = each_map (λ (l : List ℕ). IsContinuationBelow p set s i l × (l ≡ [] → ⊥)) (λ (l : List ℕ). IsContinuationBelow p set s j l × (l ≡ [] → ⊥)) (λ l b. ((b.0.0, below_to i j h l b.0.1), b.1)) k.lists k.each;
    count = k.count;
  }

  pub many_all : (i n : ℕ) → HasMany (IsContinuationBelow p set s i) n → HasMany (IsContinuation p set s) n
  many_all i n k = record {
    lists = k.lists;
    different = k.different;
    each = each_map (λ (l : List ℕ). IsContinuationBelow p set s i l × (l ≡ [] → ⊥)) (λ (l : List ℕ). IsContinuation p set s l × (l ≡ [] → ⊥)) (λ l h. (h.0.0, h.1)) k.lists k.each;
    count = k.count;
  }

  -- one for the call i itself, and one for each continuation after it
  pub many_step : (i : ℕ) (t : State) (n k : ℕ) → length set ≡ length p.calls → IsNext p set s i t → HasMany (IsContinuationBelow p set s i) n → HasMany (IsContinuation p (with_call set i) t) k → HasMany (IsContinuationBelow p set s (i + 1)) (n + 1 + k)
  many_step i t n k flags is_next a b = record {
    lists = a.lists ++ here;
    different = different_append a.lists here a.different (fresh, different_behind i b.lists b.different) apart;
    each = each_append Good a.lists here (each_map (λ (l : List ℕ). IsContinuationBelow p set s i l × (l ≡ [] → ⊥)) Good (λ l h. ((h.0.0, below_more i l h.0.1), h.1)) a.lists a.each) (one, each_behind (λ (l : List ℕ). IsContinuation p (with_call set i) t l × (l ≡ [] → ⊥)) Good i (λ l h. ((continuation_join p set s i l t flags is_next h.0, omega arith), not_empty i l)) b.lists b.each);
    count = let x = length-append a.lists here in let y = length_behind i b.lists in let u = a.count in let v = b.count in omega (arith, x, y, u, v);
  }
    where
      here : List (List ℕ)
      here = (i ∷ []) ∷ behind i b.lists

      Good : List ℕ → Type 0
      Good l = IsContinuationBelow p set s (i + 1) l × (l ≡ [] → ⊥)

      one : Good (i ∷ [])
      one = ((continuation_join p set s i [] t flags is_next (none_continues p (with_call set i) t), omega arith), not_empty i [])

      fresh : IsOneOf (i ∷ []) (behind i b.lists) → ⊥
      fresh h =
          let r = one_behind i b.lists (i ∷ []) h in
          (each_at (λ (l : List ℕ). IsContinuation p (with_call set i) t l × (l ≡ [] → ⊥)) b.lists r.0 b.each r.2).1 (sym (tails_same i [] r.0 r.1))

      apart : (l : List ℕ) → IsOneOf l a.lists → IsOneOf l here → ⊥
      apart l h m =
          let below = (each_at (λ (l : List ℕ). IsContinuationBelow p set s i l × (l ≡ [] → ⊥)) a.lists l a.each h).0.1 in
          elim m [ inl q ↦ not_below_itself i l [] q below | inr q ↦ (let r = one_behind i b.lists l q in not_below_itself i l r.0 r.1 below) ]

pub many_as : (P : List ℕ → Type 0) (n m : ℕ) → n ≡ m → HasMany P n → HasMany P m
many_as P n m e k = record { lists = k.lists; different = k.different; each = k.each; count = k.count ∙ e }
