-- How a set is kept: with no call, with one more, and that equal sets are kept alike.
use Rattle.std.proofs.Common.{◌≡◌, ℕ, ◌+◌, ◌*◌, ◌%◌, ◌^◌, ◌<◌, ◌≤◌, inl, inr, Bool, true, false, List, [], length, get_or, set, refl, sym, ◌∙◌, ap, arith, ◌-◌, true≢false}
use Rattle.std.proofs.lemmas.Bool.{cases_lt}
use Rattle.std.specs.Prelude.{IsTrue}
use lib.Pointwise.{pointwise}
use mathlib.Core.Bool.{beq}
use Rattle.lin_history.specs.declared.limits.TheConstants.{MAX_CALLS_ON_OBJECT}
use Rattle.lin_search.specs.CallSet.{hash_of, sum_of, weight_of}
use Rattle.lin_search.specs.CallSetLemmas.{flags_same, flags_itself, true_or_false}
use Rattle.lin_search.specs.Window.{word_at, has_bit, flags_of, IsWindow, IsCallSet, Adds}
use Rattle.lin_search.proofs.WeightLemmas.{hash_none, sum_none, hash_small, hash_with, sum_with, sum_within}
use Rattle.lin_search.proofs.WindowLemmas.{length_flags, flag_is, flags_none, flags_with, same_full, same_kept, window_none}

pub kept_none : (calls : ℕ) → calls ≤ MAX_CALLS_ON_OBJECT → IsCallSet calls 0 [] 0 0
kept_none calls few = record {
  few = few;
  window = window_none calls;
  hashed = sym (ap hash_of (flags_none calls) ∙ hash_none calls);
  summed = sym (ap sum_of (flags_none calls) ∙ sum_none calls);
}

pub kept_with : (calls f g : ℕ) (ws vs : List ℕ) (hash sum c : ℕ) → IsCallSet calls f ws hash sum → c < calls → has_bit (word_at f ws) c ≡ false → IsWindow calls g vs → Adds (word_at f ws) (word_at g vs) c → IsCallSet calls g vs ((hash + weight_of c) % 2 ^ 64) (sum + c)
kept_with calls f g ws vs hash sum c kept below out window adds =
    let flags : List Bool = flags_of calls f ws in
    let new : flags_of calls g vs ≡ set flags c true = flags_with calls f g ws vs c below adds in
    let here : c < length flags = rw length_flags below in
    let absent : get_or flags c false ≡ false = flag_is calls f ws kept.window c ∙ out in
    record {
      few = kept.few;
      window = window;
      hashed = rw kept.hashed (hash_with flags c here absent ∙ sym (ap hash_of new));
      summed = rw kept.summed (sum_with flags c here absent ∙ sym (ap sum_of new));
    }

-- the sums without a call, where they are known with it
hash_less : (hash more : ℕ) (w : ℕ) → more < 2 ^ 64 → w < 2 ^ 64 → hash ≡ (more + w) % 2 ^ 64 → (hash + (2 ^ 64 - w)) % 2 ^ 64 ≡ more
hash_less hash more w fits small e = omega arith

-- a call of the set is no more than the sum
pub sum_holds : (calls f g : ℕ) (ws vs : List ℕ) (hash sum c : ℕ) → IsCallSet calls f ws hash sum → c < calls → has_bit (word_at g vs) c ≡ false → IsWindow calls g vs → Adds (word_at g vs) (word_at f ws) c → c ≤ sum
sum_holds calls f g ws vs hash sum c kept below out window adds =
    let flags : List Bool = flags_of calls g vs in
    let old : flags_of calls f ws ≡ set flags c true = flags_with calls g f vs ws c below adds in
    let here : c < length flags = rw length_flags below in
    let absent : get_or flags c false ≡ false = flag_is calls g vs window c ∙ out in
    let more = sum_with flags c here absent in
    let was : sum ≡ sum_of (set flags c true) = kept.summed ∙ ap sum_of old in
    omega (arith, more, was)

pub kept_without : (calls f g : ℕ) (ws vs : List ℕ) (hash sum c w : ℕ) → IsCallSet calls f ws hash sum → c < calls → has_bit (word_at g vs) c ≡ false → IsWindow calls g vs → Adds (word_at g vs) (word_at f ws) c → w ≡ weight_of c → w < 2 ^ 64 → IsCallSet calls g vs ((hash + (2 ^ 64 - w)) % 2 ^ 64) (sum - c)
kept_without calls f g ws vs hash sum c w kept below out window adds is small =
    let flags : List Bool = flags_of calls g vs in
    let old : flags_of calls f ws ≡ set flags c true = flags_with calls g f vs ws c below adds in
    let here : c < length flags = rw length_flags below in
    let absent : get_or flags c false ≡ false = flag_is calls g vs window c ∙ out in
    record {
      few = kept.few;
      window = window;
      hashed = hash_less hash (hash_of flags) w (hash_small flags) small (kept.hashed ∙ ap hash_of old ∙ sym (rw is (hash_with flags c here absent)));
      summed = (let more = sum_with flags c here absent in let was : sum ≡ sum_of (set flags c true) = kept.summed ∙ ap sum_of old in omega (arith, more, was));
    }

-- the sum that is kept is far from the end of its type
pub sum_small : (calls full : ℕ) (words : List ℕ) (hash sum : ℕ) → IsCallSet calls full words hash sum → sum ≤ MAX_CALLS_ON_OBJECT * MAX_CALLS_ON_OBJECT
sum_small calls full words hash sum kept = rw kept.summed (sum_within (flags_of calls full words) (rw length_flags kept.few))

-- what a kept set is seen to have, its words have
module _ {calls full : ℕ} {words : List ℕ} {hash sum : ℕ} {flags : List Bool} (kept : IsCallSet calls full words hash sum) (seen : flags_of calls full words ≡ flags) (c : ℕ) where
  pub bit_seen : has_bit (word_at full words) c ≡ get_or flags c false
  bit_seen = sym (flag_is calls full words kept.window c) ∙ ap (λ f. get_or f c false) seen

  pub call_within : c < length flags → c < calls
  call_within h = let len : length flags ≡ calls = sym (ap length seen) ∙ length_flags calls full words in omega arith

  pub call_there : get_or flags c false ≡ true → c < calls
  call_there h = elim (cases_lt c calls) [
    | inl below ↦ below
    | inr past ↦ absurd (true≢false (sym h ∙ sym bit_seen ∙ kept.window.within c past))
  ]

-- equal sets have equal fields
module _ {m n f g : ℕ} {ws vs : List ℕ} {h k s t : ℕ} (one : IsCallSet m f ws h s) (two : IsCallSet n g vs k t) (same : flags_of m f ws ≡ flags_of n g vs) where
  pub same_hash : h ≡ k
  same_hash = one.hashed ∙ ap hash_of same ∙ sym two.hashed

  pub same_calls : m ≡ n
  same_calls = sym (length_flags m f ws) ∙ ap length same ∙ length_flags n g vs

  at_one_length : (flags_of m f ws ≡ flags_of m g vs) × IsWindow m g vs
  at_one_length = rw same_calls (rw same_calls at same, two.window)

  pub same_leading : f ≡ g
  same_leading = same_full m f g ws vs one.window at_one_length.1 at_one_length.0

  pub same_list : ws ≡ vs
  same_list = same_kept m f g ws vs one.window at_one_length.1 at_one_length.0

-- the test of equality finds what an equivalent test finds
pub test_is : (b : Bool) (xs ys : List Bool) → (IsTrue b → xs ≡ ys) → (xs ≡ ys → IsTrue b) → b ≡ pointwise beq xs ys
test_is true xs ys to back = rw (to refl) (sym (flags_itself ys))
test_is false xs ys to back =
    elim (true_or_false (pointwise beq xs ys)) [ inl found ↦ back (flags_same xs ys found) ∙ sym found | inr not_found ↦ sym not_found ]
