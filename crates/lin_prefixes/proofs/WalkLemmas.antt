-- A run, followed call by call.
use Rattle.std.proofs.Common.{◌≡◌, ℕ, zero, suc, ◌+◌, ◌<◌, ◌≤◌, Bool, true, Option, Some, None, true≢false, List, [], ◌∷◌, ◌++◌, length, take, get_or, refl, sym, ◌∙◌, ap, subst, append_assoc, append-nil, arith}
use Rattle.std.specs.Prelude.{IfSome}
use Rattle.std.specs.Option.{is_some}
use Rattle.lin_history.specs.Problems.Problem.{Problem}
use Rattle.lin_history.specs.Problems.Continuations.{IsContinuation, no_calls}
use Rattle.lin_history.specs.Problems.Configurations.{IsReachable}
use Rattle.lin_search.specs.CallSet.{with_call, with_calls, lifted_set}
use Rattle.lin_search.specs.NextCall.{IsNext}
use Rattle.lin_search.specs.FirstCallLemmas.{continuation_join, none_continues}
use Rattle.lin_parts.specs.ListLemmas.{take_one}

take_all : (l : List ℕ) (i : ℕ) → length l ≤ i → take i l ≡ l
take_all [] zero h = refl
take_all [] (suc i) h = refl
take_all (c ∷ l) zero h = absurd (omega (arith, h))
take_all (c ∷ l) (suc i) h = ap (λ (x : List ℕ). c ∷ x) (take_all l i (omega (arith, h)))

with_calls_last : (set : List Bool) (l : List ℕ) (c : ℕ) → with_calls set (l ++ c ∷ []) ≡ with_call (with_calls set l) c
with_calls_last set [] c = refl
with_calls_last set (d ∷ l) c = with_calls_last (with_call set d) l c

-- what holds where the option has a value, where it has one
pub where_some : {T : Type 0} (x : Option T) (b : Bool) (P : Type 0) → b ≡ is_some x → b ≡ true → IfSome x (λ v. P) → P
where_some (Some v) b P is e h = h
where_some None b P is e h = absurd (true≢false (sym e ∙ is))

-- the set of the calls lifted, with one call more
pub lifted_more : {State Op Reply : Type 0} (p : Problem State Op Reply) (lifted new : List ℕ) (c : ℕ) (set now : List Bool) → new ≡ lifted ++ c ∷ [] → lifted_set p lifted ≡ set → now ≡ with_call set c → lifted_set p new ≡ now
lifted_more p lifted new c set now e f g = ap (λ (l : List ℕ). lifted_set p l) e ∙ with_calls_last (no_calls p) lifted c ∙ ap (λ (s : List Bool). with_call s c) f ∙ sym g

module _ {State Op Reply : Type 0} (p : Problem State Op Reply) (root : List Bool) (start : State) (l : List ℕ) where
  pub walk_step : (i : ℕ) (set new : List Bool) (s t : State) → IsReachable p set s → i < length l → new ≡ with_call set (get_or l i 0) → IsNext p set s (get_or l i 0) t
      → ((m : List ℕ) → IsContinuation p set s m → IsContinuation p root start (take i l ++ m)) → (m : List ℕ) → IsContinuation p new t m → IsContinuation p root start (take (i + 1) l ++ m)
  walk_step i set new s t reachable within e next rest m k =
      subst (λ (x : List ℕ). IsContinuation p root start x) (sym (append_assoc (take i l) (get_or l i 0 ∷ []) m) ∙ ap (λ (x : List ℕ). x ++ m) (sym (take_one l i within)))
      (rest (get_or l i 0 ∷ m) (continuation_join p set s (get_or l i 0) m t reachable.flags next (subst (λ (x : List Bool). IsContinuation p x t m) e k)))

  pub walk_end : (i : ℕ) (set : List Bool) (s : State) → length l ≤ i → ((m : List ℕ) → IsContinuation p set s m → IsContinuation p root start (take i l ++ m)) → IsContinuation p root start l
  walk_end i set s all rest = subst (λ (x : List ℕ). IsContinuation p root start x) (append-nil (take i l) ∙ take_all l i all) (rest [] (none_continues p set s))
