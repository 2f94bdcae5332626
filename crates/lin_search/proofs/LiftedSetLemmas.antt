-- A set of calls that is filled up to another, call by call.
use Rattle.std.proofs.Common.{◌≡◌, ◌≢◌, ℕ, zero, suc, ◌+◌, ◌<◌, ◌≤◌, Bool, true, false, List, [], ◌∷◌, ◌++◌, length, inl, inr, refl, sym, ◌∙◌, arith}
use Rattle.std.proofs.lemmas.List.{length-set}
use Rattle.std.proofs.lemmas.Bool.{cases_lt}
use Rattle.lin_history.specs.Problems.Problem.{Problem}
use Rattle.lin_history.specs.Problems.Continuations.{has, no_calls}
use Rattle.lin_search.specs.CallSet.{with_call, with_calls}
use Rattle.lin_search.specs.Entries.{LiftedCalls}
use Rattle.lin_search.specs.CallSetLemmas.{below_or_last, has_same, has_other, with_append}

-- below i the set has the calls of the other, and no more
pub record IsFilledTo (set whole : List Bool) (i : ℕ) : Type 0 where
  pub flags : length set ≡ length whole
  pub seen : (a : ℕ) → a < i → has set a ≡ has whole a
  pub unseen : (a : ℕ) → i ≤ a → has set a ≡ false

past_end : (set : List Bool) (a : ℕ) → length set ≤ a → has set a ≡ false
past_end [] a h = refl
past_end (x ∷ set) zero h = absurd (omega (arith, h))
past_end (x ∷ set) (suc a) h = past_end set a (omega (arith, h))

pub filled_skip : (set whole : List Bool) (i : ℕ) → has whole i ≡ false → IsFilledTo set whole i → IsFilledTo set whole (i + 1)
filled_skip set whole i e k = record {
  flags = k.flags;
  seen = λ a h. elim (below_or_last a i h) [ inl q ↦ k.seen a q | inr q ↦ rw q (k.unseen i (omega arith) ∙ sym e) ];
  unseen = λ a h. k.unseen a (omega (arith, h));
}

pub filled_more : (set whole : List Bool) (i : ℕ) → i < length whole → has whole i ≡ true → IsFilledTo set whole i → IsFilledTo (with_call set i) whole (i + 1)
filled_more set whole i within e k = record {
  flags = length-set set i true ∙ k.flags;
  seen = λ a h. elim (below_or_last a i h) [
    | inl q ↦ has_other set i a (other a q) ∙ k.seen a q
    | inr q ↦ rw q (has_same set i (let n = k.flags in omega (arith, n, within)) ∙ sym e)
  ];
  unseen = λ a h. has_other set i a (after a h) ∙ k.unseen a (omega (arith, h));
}
  where
    other : (a : ℕ) → a < i → a ≢ i
    other a h q = omega (arith, h, q)

    after : (a : ℕ) → i + 1 ≤ a → a ≢ i
    after a h q = omega (arith, h, q)

same_everywhere : (a b : List Bool) → length a ≡ length b → ((c : ℕ) → has a c ≡ has b c) → a ≡ b
same_everywhere [] [] e h = refl
same_everywhere [] (y ∷ b) e h = absurd (omega (arith, e))
same_everywhere (x ∷ a) [] e h = absurd (omega (arith, e))
same_everywhere (x ∷ a) (y ∷ b) e h =
    let head : x ≡ y = h 0 in
    let tail = same_everywhere a b (omega (arith, e)) (λ c. h (suc c)) in
    rw (head, tail) refl

pub filled_all : (set whole : List Bool) (n : ℕ) → length whole ≡ n → IsFilledTo set whole n → set ≡ whole
filled_all set whole n e k =
    same_everywhere set whole k.flags (λ c. elim (cases_lt c n) [ inl h ↦ k.seen c h | inr h ↦ k.unseen c h ∙ sym (past_end whole c (omega (arith, h, e))) ])

-- a call of the other set is lifted from the entries
pub filled_lifted : {Object State Op Reply : Type 0} (p : Problem State Op Reply) (e was : LiftedCalls Object State Op Reply) (whole : List Bool) (c : ℕ) → e ≡ record { problem = was.problem; lifted = was.lifted ++ c ∷ [] } → c < length whole → has whole c ≡ true → IsFilledTo (with_calls (no_calls p) was.lifted) whole c → IsFilledTo (with_calls (no_calls p) e.lifted) whole (c + 1)
filled_lifted p e was whole c now within there k =
    rw (now, with_append (no_calls p) was.lifted (c ∷ [])) (filled_more (with_calls (no_calls p) was.lifted) whole c within there k)
