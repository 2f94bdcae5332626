-- Sets of calls as words of 64 calls: that equal sets have equal words, and what one call more changes.
use Rattle.std.proofs.Common.{◌≡◌, ◌≢◌, inl, inr, ℕ, ◌+◌, ◌-◌, ◌*◌, ◌/◌, ◌%◌, ◌^◌, ◌<◌, ◌≤◌, true, false, not, cond, eqb, List, [], length, replicate, get_or, set, drop, take, sym, ◌∙◌, ap, refl, arith, w64, suc, ◌∷◌, ext_get_or, length-set, get_or-set_same, get_or-set_other, eq-eqb, eqb-true, ne_eqb, true≢false}
use Rattle.std.specs.Prelude.{max, bit_and, bit_or}
use Rattle.std.specs.Int.{bit_at, bit_not}
use Rattle.std.proofs.lemmas.Bool.{cases_lt, cases_eq, lt-ltb, le-ltb, eqb-false}
use Rattle.std.proofs.lemmas.Nat.{one_shl, pow_pos, or_lt, le_or_r, and_le_l}
use Rattle.std.proofs.lemmas.Nat.Bits.{bit_at_set_same, bit_at_set_other, bit_at_clear_same, bit_at_clear_other, bit_at-zero, bit_at-lt, bit_at_ones, and_pow, same_from_bits_below}
use Rattle.std.proofs.lemmas.List.{get_or_past, get_or-drop, get_or-take, length-drop, length-take, length-replicate, get_or-replicate}
use Rattle.std.proofs.lemmas.List.FromFn.{length-map-range_with_len, get_or-map-range_with_len}
use Rattle.lin_search.specs.Window.{word_at, has_bit, flags_of, IsWindow, Adds}

-- ---- words

pub word_at_full : (full : ℕ) (words : List ℕ) (i : ℕ) → i < full → word_at full words i ≡ 2 ^ 64 - 1
unfolding word_at
word_at_full full words i h = ap (λ b. cond b (2 ^ 64 - 1) (get_or words (i - full) 0)) (lt-ltb i full h)

pub word_at_kept : (full : ℕ) (words : List ℕ) (i : ℕ) → full ≤ i → word_at full words i ≡ get_or words (i - full) 0
unfolding word_at
word_at_kept full words i h = ap (λ b. cond b (2 ^ 64 - 1) (get_or words (i - full) 0)) (le-ltb i full h)

pub word_at_plus : (full : ℕ) (words : List ℕ) (i : ℕ) → word_at full words (full + i) ≡ get_or words i 0
word_at_plus full words i =
    let place : (full + i) - full ≡ i = omega arith in
    rw place at (word_at_kept full words (full + i) (omega arith))

pub word_at_small : (calls full : ℕ) (words : List ℕ) → IsWindow calls full words → (i : ℕ) → word_at full words i < 2 ^ 64
word_at_small calls full words window i =
    elim (cases_lt i full) [
      | inl h ↦ rw (word_at_full full words i h) (omega arith)
      | inr h ↦ rw (word_at_kept full words i h) (window.small (i - full))
    ]

-- ---- flags

pub length_flags : (calls full : ℕ) (words : List ℕ) → length (flags_of calls full words) ≡ calls
unfolding flags_of
length_flags calls full words = length-map-range_with_len (has_bit (word_at full words)) 0 calls

pub flag_at : (calls full : ℕ) (words : List ℕ) (c : ℕ) → c < calls → get_or (flags_of calls full words) c false ≡ has_bit (word_at full words) c
unfolding flags_of
flag_at calls full words c h = get_or-map-range_with_len (has_bit (word_at full words)) 0 calls c c false h (omega arith)

pub flag_is : (calls full : ℕ) (words : List ℕ) → IsWindow calls full words → (c : ℕ) → get_or (flags_of calls full words) c false ≡ has_bit (word_at full words) c
flag_is calls full words window c =
    elim (cases_lt c calls) [
      | inl h ↦ flag_at calls full words c h
      | inr h ↦ get_or_past (flags_of calls full words) c false (omega (arith, length_flags calls full words)) ∙ sym (window.within c h)
    ]

-- ---- equal sets have equal words

-- bits that are tested alike are the same
same_bits : (a b i : ℕ) → eqb (bit_at a i) 1 ≡ eqb (bit_at b i) 1 → bit_at a i ≡ bit_at b i
same_bits a b i e =
    let small : bit_at a i < 2 = bit_at-lt a i in
    let small_too : bit_at b i < 2 = bit_at-lt b i in
    elim (cases_eq (bit_at b i) 1) [
      | inl one ↦ eqb-true (bit_at a i) 1 (e ∙ eq-eqb (bit_at b i) 1 one) ∙ sym one
      | inr other ↦
          let none : bit_at a i ≢ 1 = eqb-false (bit_at a i) 1 (e ∙ ne_eqb (bit_at b i) 1 other) in
          omega arith
    ]

pub same_words : (f g : ℕ → ℕ) → ((i : ℕ) → f i < 2 ^ 64) → ((i : ℕ) → g i < 2 ^ 64) → ((c : ℕ) → has_bit f c ≡ has_bit g c) → (i : ℕ) → f i ≡ g i
unfolding has_bit
same_words f g small small_too same i =
    same_from_bits_below 64 (f i) (g i) (small i) (small_too i)
    (λ b h.
    let place : (64 * i + b) / 64 ≡ i = omega arith in
    let bit : (64 * i + b) % 64 ≡ b = omega arith in
    same_bits (f i) (g i) b (rw (place, bit) at (same (64 * i + b))))

module _ (calls f g : ℕ) (ws vs : List ℕ) (one : IsWindow calls f ws) (two : IsWindow calls g vs) (same : flags_of calls f ws ≡ flags_of calls g vs) where
  pub same_word_at : (i : ℕ) → word_at f ws i ≡ word_at g vs i
  same_word_at i =
      same_words (word_at f ws) (word_at g vs) (word_at_small calls f ws one) (word_at_small calls g vs two)
      (λ c. sym (flag_is calls f ws one c) ∙ ap (λ flags. get_or flags c false) same ∙ flag_is calls g vs two c)
      i

-- the leading words that are full are as many
not_fuller : (calls f g : ℕ) (ws vs : List ℕ) → IsWindow calls f ws → ((i : ℕ) → word_at f ws i ≡ word_at g vs i) → g ≤ f
not_fuller calls f g ws vs one same =
    elim (cases_lt f g) [
      | inl h ↦
          let place : f + 0 ≡ f = omega arith in
          let here : get_or ws 0 0 ≡ 2 ^ 64 - 1 = sym (word_at_plus f ws 0) ∙ rw place (same f ∙ word_at_full g vs f h) in
          elim (cases_lt 0 (length ws)) [
            | inl some ↦ absurd (one.first some here)
            | inr none ↦
                let zero : get_or ws 0 0 ≡ 0 = get_or_past ws 0 0 none in
                absurd (omega arith)
          ]
      | inr h ↦ h
    ]

-- no list is longer
not_longer : (calls g : ℕ) (ws vs : List ℕ) → IsWindow calls g vs → ((i : ℕ) → get_or ws i 0 ≡ get_or vs i 0) → length vs ≤ length ws
not_longer calls g ws vs two same =
    elim (cases_lt (length ws) (length vs)) [
      | inl h ↦
          let past : length ws ≤ length vs - 1 = omega arith in
          absurd (two.last (omega arith) (sym (same (length vs - 1)) ∙ get_or_past ws (length vs - 1) 0 past))
      | inr h ↦ h
    ]

pub same_full : (calls f g : ℕ) (ws vs : List ℕ) → IsWindow calls f ws → IsWindow calls g vs → flags_of calls f ws ≡ flags_of calls g vs → f ≡ g
same_full calls f g ws vs one two same =
    let at = same_word_at calls f g ws vs one two same in
    omega (arith, not_fuller calls f g ws vs one at, not_fuller calls g f vs ws two (λ i. sym (at i)))

pub same_kept : (calls f g : ℕ) (ws vs : List ℕ) → IsWindow calls f ws → IsWindow calls g vs → flags_of calls f ws ≡ flags_of calls g vs → ws ≡ vs
same_kept calls f g ws vs one two same =
    let full : f ≡ g = same_full calls f g ws vs one two same in
    let kept : (i : ℕ) → get_or ws i 0 ≡ get_or vs i 0 =
    λ i. sym (word_at_plus f ws i) ∙ same_word_at calls f g ws vs one two same (f + i) ∙ ap (λ n. word_at g vs (n + i)) full ∙ word_at_plus g vs i in
    ext_get_or 0 ws vs
    (omega (arith, not_longer calls g ws vs two kept, not_longer calls f vs ws one (λ i. sym (kept i))))
    (λ i h. kept i)

-- ---- one call more

module _ (old new : ℕ → ℕ) (c : ℕ) (adds : Adds old new c) where
  pub has_added : has_bit new c ≡ true
  unfolding has_bit
  has_added = rw adds.same (eq-eqb _ 1 (bit_at_set_same w64 (old (c / 64)) (c % 64) (omega arith)))

  pub has_others : (k : ℕ) → k ≢ c → has_bit new k ≡ has_bit old k
  unfolding has_bit
  has_others k other =
      elim (cases_eq (k / 64) (c / 64)) [
        | inl row ↦
            rw (row, adds.same) (ap (λ x. eqb x 1) (bit_at_set_other w64 (old (c / 64)) (c % 64) (omega arith) (k % 64) (omega arith)))
        | inr apart ↦ ap (λ x. eqb (bit_at x (k % 64)) 1) (adds.other (k / 64) apart)
      ]

pub flags_with : (calls f g : ℕ) (ws vs : List ℕ) (c : ℕ) → c < calls → Adds (word_at f ws) (word_at g vs) c → flags_of calls g vs ≡ set (flags_of calls f ws) c true
flags_with calls f g ws vs c h adds =
    let here : c < length (flags_of calls f ws) = rw length_flags h in
    ext_get_or false (flags_of calls g vs) (set (flags_of calls f ws) c true)
    (length_flags calls g vs ∙ sym (length-set (flags_of calls f ws) c true ∙ length_flags calls f ws))
    (λ k below.
    let within : k < calls = rw length_flags at below in
    flag_at calls g vs k within
    ∙ (elim (cases_eq k c) as (λ _. has_bit (word_at g vs) k ≡ get_or (set (flags_of calls f ws) c true) k false) [
      | inl same ↦ rw same (has_added (word_at f ws) (word_at g vs) c adds ∙ sym (get_or-set_same (flags_of calls f ws) c true false here))
      | inr other ↦
          has_others (word_at f ws) (word_at g vs) c adds k other
          ∙ sym (get_or-set_other (flags_of calls f ws) c k true false other ∙ flag_at calls f ws k within)
    ]))

-- no call from `calls` on comes in
pub within_with : (calls f g : ℕ) (ws vs : List ℕ) (c : ℕ) → c < calls → IsWindow calls f ws → Adds (word_at f ws) (word_at g vs) c → (k : ℕ) → calls ≤ k → has_bit (word_at g vs) k ≡ false
within_with calls f g ws vs c h window adds k past =
    has_others (word_at f ws) (word_at g vs) c adds k (omega arith) ∙ window.within k past

-- no more words are full than the calls have
pub full_within : (calls full : ℕ) (words : List ℕ) → ((c : ℕ) → calls ≤ c → has_bit (word_at full words) c ≡ false) → 64 * full ≤ calls
unfolding has_bit
full_within calls full words within =
    elim (cases_lt calls (64 * full)) [
      | inl h ↦
          let row : calls / 64 < full = omega arith in
          let whole : word_at full words (calls / 64) ≡ 2 ^ 64 - 1 = word_at_full full words (calls / 64) row in
          absurd (true≢false (sym (eq-eqb _ 1 (rw whole (bit_at_ones 64 (calls % 64) (omega arith)))) ∙ within calls (omega arith)))
      | inr h ↦ h
    ]

-- a call that is not in the set is in no leading word
pub place_past : (full : ℕ) (words : List ℕ) (c : ℕ) → has_bit (word_at full words) c ≡ false → full ≤ c / 64
unfolding has_bit
place_past full words c out =
    elim (cases_lt (c / 64) full) [
      | inl h ↦
          let whole : word_at full words (c / 64) ≡ 2 ^ 64 - 1 = word_at_full full words (c / 64) h in
          absurd (true≢false (sym (eq-eqb _ 1 (rw whole (bit_at_ones 64 (c % 64) (omega arith)))) ∙ out))
      | inr h ↦ h
    ]

-- the test of a call's bit
pub bit_tested : (word k : ℕ) → k < 64 → not (eqb (bit_and word (1 * 2 ^ k % 2 ^ 64)) 0) ≡ eqb (bit_at word k) 1
bit_tested word k h =
    let is : bit_and word (1 * 2 ^ k % 2 ^ 64) ≡ bit_at word k * 2 ^ k = ap (bit_and word) (one_shl k 64 h) ∙ and_pow word k in
    let small : bit_at word k < 2 = bit_at-lt word k in
    elim (cases_eq (bit_at word k) 1) [
      | inl one ↦
          let big : 0 < bit_and word (1 * 2 ^ k % 2 ^ 64) = rw (is, one) (omega (arith, pow_pos k)) in
          ap not (ne_eqb _ 0 (omega arith)) ∙ sym (eq-eqb (bit_at word k) 1 one)
      | inr other ↦
          let none : bit_at word k ≡ 0 = omega arith in
          ap not (eq-eqb _ 0 (rw (is, none) (omega arith))) ∙ sym (ne_eqb (bit_at word k) 1 other)
    ]

pub has_tested : (word : ℕ → ℕ) (c : ℕ) → not (eqb (bit_and (word (c / 64)) (1 * 2 ^ (c % 64) % 2 ^ 64)) 0) ≡ has_bit word c
unfolding has_bit
has_tested word c = bit_tested (word (c / 64)) (c % 64) (omega arith)

-- ---- no call

nowhere : (c : ℕ) → has_bit (word_at 0 []) c ≡ false
unfolding has_bit
nowhere c = rw (word_at_kept 0 [] (c / 64) (omega arith)) (ap (λ x. eqb x 1) (bit_at-zero (c % 64)))

pub window_none : (calls : ℕ) → IsWindow calls 0 []
window_none calls = record {
  first = λ h. absurd (omega arith);
  last = λ h. absurd (omega arith);
  small = λ i. omega arith;
  within = λ c _. nowhere c;
}

pub flags_none : (calls : ℕ) → flags_of calls 0 [] ≡ replicate calls false
flags_none calls =
    ext_get_or false (flags_of calls 0 []) (replicate calls false)
    (length_flags calls 0 [] ∙ sym (length-replicate calls false))
    (λ c h.
    let within : c < calls = rw length_flags at h in
    flag_at calls 0 [] c within ∙ nowhere c ∙ sym (get_or-replicate calls c false false within))

-- ---- the window with one call more

bit_is : (c : ℕ) → 1 * 2 ^ (c % 64) % 2 ^ 64 ≡ 2 ^ (c % 64)
bit_is c = one_shl (c % 64) 64 (omega arith)

-- a word with a call is not 0
word_positive : (word c : ℕ) → 0 < bit_or word (1 * 2 ^ (c % 64) % 2 ^ 64)
word_positive word c =
    omega (arith, bit_is c, pow_pos (c % 64), le_or_r word (1 * 2 ^ (c % 64) % 2 ^ 64))

word_fits : (word c : ℕ) → word < 2 ^ 64 → bit_or word (1 * 2 ^ (c % 64) % 2 ^ 64) < 2 ^ 64
word_fits word c h =
    let bit : 1 * 2 ^ (c % 64) % 2 ^ 64 < 2 ^ 64 = omega arith in
    or_lt 64 word (1 * 2 ^ (c % 64) % 2 ^ 64) h bit

-- a call is put in: its word is set in the list, which was made longer, and the words that are full then leave it
module _ (calls f : ℕ) (ws us vs : List ℕ) (c k : ℕ) (window : IsWindow calls f ws) (below : c < calls) (from : f ≤ c / 64)
    (len : length us ≡ max (length ws) (c / 64 - f + 1))
    (longer : (i : ℕ) → get_or us i 0 ≡ get_or ws i 0)
    (is : vs ≡ set us (c / 64 - f) (bit_or (get_or us (c / 64 - f) 0) (1 * 2 ^ (c % 64) % 2 ^ 64)))
    (all_full : (i : ℕ) → i < k → get_or vs i 0 ≡ 2 ^ 64 - 1)
    (stops : k < length vs → get_or vs k 0 ≢ 2 ^ 64 - 1) where
  set_len : length vs ≡ length us
  set_len = rw is (length-set us (c / 64 - f) (bit_or (get_or us (c / 64 - f) 0) (1 * 2 ^ (c % 64) % 2 ^ 64)))

  set_same : get_or vs (c / 64 - f) 0 ≡ bit_or (get_or ws (c / 64 - f) 0) (1 * 2 ^ (c % 64) % 2 ^ 64)
  set_same =
      rw is
      (get_or-set_same us (c / 64 - f) (bit_or (get_or us (c / 64 - f) 0) (1 * 2 ^ (c % 64) % 2 ^ 64)) 0 (omega (arith, len))
      ∙ ap (λ w. bit_or w (1 * 2 ^ (c % 64) % 2 ^ 64)) (longer (c / 64 - f)))

  set_other : (i : ℕ) → i ≢ c / 64 - f → get_or vs i 0 ≡ get_or ws i 0
  set_other i apart =
      rw is
      (get_or-set_other us (c / 64 - f) i (bit_or (get_or us (c / 64 - f) 0) (1 * 2 ^ (c % 64) % 2 ^ 64)) 0 apart
      ∙ longer i)

  set_adds : Adds (word_at f ws) (word_at f vs) c
  set_adds = record {
    same = rw (word_at_kept f vs (c / 64) from, word_at_kept f ws (c / 64) from) set_same;
    other = λ i apart. elim (cases_lt i f) [
      | inl h ↦ word_at_full f vs i h ∙ sym (word_at_full f ws i h)
      | inr h ↦ word_at_kept f vs i h ∙ set_other (i - f) (omega arith) ∙ sym (word_at_kept f ws i h)
    ];
  }

  set_last : 0 < length vs → get_or vs (length vs - 1) 0 ≢ 0
  set_last some = elim (cases_lt (c / 64 - f + 1) (length ws)) [
    | inl inside ↦
        let end : length vs - 1 ≡ length ws - 1 = omega (arith, set_len, len) in
        rw end (λ zero. window.last (omega arith) (sym (set_other (length ws - 1) (omega arith)) ∙ zero))
    | inr outside ↦
        let end : length vs - 1 ≡ c / 64 - f = omega (arith, set_len, len) in
        rw (end, set_same) (λ zero. let positive = word_positive (get_or ws (c / 64 - f) 0) c in omega arith)
  ]

  set_small : (i : ℕ) → get_or vs i 0 < 2 ^ 64
  set_small i = elim (cases_eq i (c / 64 - f)) [
    | inl here ↦ rw (here, set_same) (word_fits (get_or ws (c / 64 - f) 0) c (window.small (c / 64 - f)))
    | inr apart ↦ rw (set_other i apart) (window.small i)
  ]

  dropped_same : (i : ℕ) → word_at (f + k) (drop k vs) i ≡ word_at f vs i
  dropped_same i = elim (cases_lt i f) [
    | inl h ↦ word_at_full (f + k) (drop k vs) i (omega arith) ∙ sym (word_at_full f vs i h)
    | inr h ↦ elim (cases_lt i (f + k)) [
      | inl inside ↦
          word_at_full (f + k) (drop k vs) i inside
          ∙ sym (word_at_kept f vs i h ∙ all_full (i - f) (omega arith))
      | inr outside ↦
          let place : k + (i - (f + k)) ≡ i - f = omega arith in
          word_at_kept (f + k) (drop k vs) i outside
          ∙ get_or-drop k vs (i - (f + k)) 0
          ∙ ap (λ n. get_or vs n 0) place
          ∙ sym (word_at_kept f vs i h)
    ]
  ]

  pub inserted_adds : Adds (word_at f ws) (word_at (f + k) (drop k vs)) c
  inserted_adds = record {
    same = dropped_same (c / 64) ∙ set_adds.same;
    other = λ i apart. dropped_same i ∙ set_adds.other i apart;
  }

  pub inserted_window : IsWindow calls (f + k) (drop k vs)
  inserted_window = record {
    first = λ some.
        let place : k + 0 ≡ k = omega arith in
        rw (get_or-drop k vs 0 0, place) (stops (omega (arith, length-drop k vs)));
    last = λ some.
        let place : k + (length (drop k vs) - 1) ≡ length vs - 1 = omega (arith, length-drop k vs) in
        rw (get_or-drop k vs (length (drop k vs) - 1) 0, place) (set_last (omega (arith, length-drop k vs)));
    small = λ i. rw (get_or-drop k vs i 0) (set_small (k + i));
    within = within_with calls f (f + k) ws (drop k vs) c below window inserted_adds;
  }

-- ---- the window with one call less

-- one word more in front, where one leading word less is counted
pub opened_one : (f : ℕ) (ws : List ℕ) → 0 < f → (i : ℕ) → word_at (f - 1) ((2 ^ 64 - 1) ∷ ws) i ≡ word_at f ws i
opened_one f ws some i = elim (cases_lt i (f - 1)) [
  | inl h ↦ word_at_full (f - 1) ((2 ^ 64 - 1) ∷ ws) i h ∙ sym (word_at_full f ws i (omega arith))
  | inr h ↦ elim (cases_eq i (f - 1)) [
    | inl here ↦
        let place : i - (f - 1) ≡ 0 = omega arith in
        word_at_kept (f - 1) ((2 ^ 64 - 1) ∷ ws) i h
        ∙ ap (λ n. get_or ((2 ^ 64 - 1) ∷ ws) n 0) place
        ∙ sym (word_at_full f ws i (omega arith))
    | inr apart ↦
        let place : i - (f - 1) ≡ suc (i - f) = omega arith in
        word_at_kept (f - 1) ((2 ^ 64 - 1) ∷ ws) i h
        ∙ ap (λ n. get_or ((2 ^ 64 - 1) ∷ ws) n 0) place
        ∙ sym (word_at_kept f ws i (omega arith))
  ]
]

bit_one : (word k : ℕ) → eqb (bit_at word k) 1 ≡ true → bit_at word k ≡ 1
bit_one word k e = eqb-true (bit_at word k) 1 e

-- a word with a call is not 0
pub word_there : (word : ℕ → ℕ) (c : ℕ) → has_bit word c ≡ true → word (c / 64) ≢ 0
unfolding has_bit
word_there word c there zero =
    let one : bit_at (word (c / 64)) (c % 64) ≡ 1 = bit_one (word (c / 64)) (c % 64) there in
    let none : bit_at (word (c / 64)) (c % 64) ≡ 0 = rw zero (bit_at-zero (c % 64)) in
    omega arith

-- a bit that is cleared and set again
cleared_set : (word k : ℕ) → word < 2 ^ 64 → k < 64 → bit_at word k ≡ 1 → word ≡ bit_or (bit_and word (bit_not w64 (1 * 2 ^ k % 2 ^ 64))) (1 * 2 ^ k % 2 ^ 64)
cleared_set word k fits h one =
    let small : bit_and word (bit_not w64 (1 * 2 ^ k % 2 ^ 64)) < 2 ^ 64 = omega (arith, and_le_l word (bit_not w64 (1 * 2 ^ k % 2 ^ 64))) in
    let bit : 1 * 2 ^ k % 2 ^ 64 < 2 ^ 64 = omega arith in
    same_from_bits_below 64 word (bit_or (bit_and word (bit_not w64 (1 * 2 ^ k % 2 ^ 64))) (1 * 2 ^ k % 2 ^ 64)) fits
    (or_lt 64 (bit_and word (bit_not w64 (1 * 2 ^ k % 2 ^ 64))) (1 * 2 ^ k % 2 ^ 64) small bit)
    (λ i below. elim (cases_eq i k) [
      | inl here ↦ rw here (one ∙ sym (bit_at_set_same w64 (bit_and word (bit_not w64 (1 * 2 ^ k % 2 ^ 64))) k h))
      | inr other ↦
          sym (bit_at_set_other w64 (bit_and word (bit_not w64 (1 * 2 ^ k % 2 ^ 64))) k h i other ∙ bit_at_clear_other w64 word k h i below other)
    ])

-- the full words up to the call's own come back into the list
module _ (f g : ℕ) (ws us : List ℕ) (c : ℕ)
    (there : has_bit (word_at f ws) c ≡ true)
    (same : (i : ℕ) → word_at g us i ≡ word_at f ws i)
    (opened : c / 64 < f → g ≡ c / 64)
    (kept : f ≤ c / 64 → (g ≡ f) × (us ≡ ws)) where
  opened_from : g ≤ c / 64
  opened_from = elim (cases_lt (c / 64) f) [ inl h ↦ omega (arith, opened h) | inr h ↦ omega (arith, (kept h).0) ]

  opened_word : get_or us (c / 64 - g) 0 ≡ word_at f ws (c / 64)
  opened_word = sym (word_at_kept g us (c / 64) opened_from) ∙ same (c / 64)

  pub opened_within : c / 64 - g < length us
  opened_within = elim (cases_lt (c / 64 - g) (length us)) [
    | inl h ↦ h
    | inr h ↦ absurd (word_there (word_at f ws) c there (sym opened_word ∙ get_or_past us (c / 64 - g) 0 h))
  ]

-- a call is taken out: its bit is cleared, and the words that are 0 then leave the end
module _ (calls f g : ℕ) (ws us vs xs : List ℕ) (c : ℕ) (window : IsWindow calls f ws)
    (there : has_bit (word_at f ws) c ≡ true)
    (same : (i : ℕ) → word_at g us i ≡ word_at f ws i)
    (opened : c / 64 < f → g ≡ c / 64)
    (kept : f ≤ c / 64 → (g ≡ f) × (us ≡ ws))
    (is : vs ≡ set us (c / 64 - g) (bit_and (get_or us (c / 64 - g) 0) (bit_not w64 (1 * 2 ^ (c % 64) % 2 ^ 64))))
    (shorter : (i : ℕ) → get_or xs i 0 ≡ get_or vs i 0)
    (last : 0 < length xs → get_or xs (length xs - 1) 0 ≢ 0) where
  from : g ≤ c / 64
  from = opened_from f g ws us c there same opened kept

  word_is : get_or us (c / 64 - g) 0 ≡ word_at f ws (c / 64)
  word_is = opened_word f g ws us c there same opened kept

  taken_within : c / 64 - g < length us
  taken_within = opened_within f g ws us c there same opened kept

  word_one : bit_at (word_at f ws (c / 64)) (c % 64) ≡ 1
  unfolding has_bit
  word_one = bit_one (word_at f ws (c / 64)) (c % 64) there

  cleared : get_or xs (c / 64 - g) 0 ≡ bit_and (word_at f ws (c / 64)) (bit_not w64 (1 * 2 ^ (c % 64) % 2 ^ 64))
  cleared =
      shorter (c / 64 - g)
      ∙ rw is
      (get_or-set_same us (c / 64 - g) (bit_and (get_or us (c / 64 - g) 0) (bit_not w64 (1 * 2 ^ (c % 64) % 2 ^ 64))) 0 taken_within
      ∙ ap (λ w. bit_and w (bit_not w64 (1 * 2 ^ (c % 64) % 2 ^ 64))) word_is)

  others : (i : ℕ) → i ≢ c / 64 - g → get_or xs i 0 ≡ get_or us i 0
  others i apart =
      shorter i
      ∙ rw is
      (get_or-set_other us (c / 64 - g) i (bit_and (get_or us (c / 64 - g) 0) (bit_not w64 (1 * 2 ^ (c % 64) % 2 ^ 64))) 0 apart)

  pub removed_adds : Adds (word_at g xs) (word_at f ws) c
  removed_adds = record {
    same =
        rw (word_at_kept g xs (c / 64) from, cleared)
        (cleared_set (word_at f ws (c / 64)) (c % 64) (word_at_small calls f ws window (c / 64)) (omega arith) word_one);
    other = λ i apart. elim (cases_lt i g) [
      | inl h ↦ sym (same i) ∙ word_at_full g us i h ∙ sym (word_at_full g xs i h)
      | inr h ↦ sym (same i) ∙ word_at_kept g us i h ∙ sym (word_at_kept g xs i h ∙ others (i - g) (omega (arith, from)))
    ];
  }

  cleared_bit : bit_at (get_or xs (c / 64 - g) 0) (c % 64) ≡ 0
  cleared_bit = rw cleared (bit_at_clear_same w64 (word_at f ws (c / 64)) (c % 64) (omega arith))

  pub removed_out : has_bit (word_at g xs) c ≡ false
  unfolding has_bit
  removed_out = rw (word_at_kept g xs (c / 64) from, cleared_bit) refl

  not_opened : c / 64 - g ≢ 0 → f ≤ c / 64
  not_opened apart = elim (cases_lt (c / 64) f) [
    | inl h ↦
        let none : c / 64 - g ≡ 0 = omega (arith, opened h) in
        absurd (apart none)
    | inr h ↦ h
  ]

  pub removed_window : IsWindow calls g xs
  removed_window = record {
    first = λ some full. elim (cases_eq (c / 64 - g) 0) [
      | inl here ↦
          let ones : bit_at (2 ^ 64 - 1) (c % 64) ≡ 1 = bit_at_ones 64 (c % 64) (omega arith) in
          let none : bit_at (2 ^ 64 - 1) (c % 64) ≡ 0 = rw (here, full) at cleared_bit in
          omega arith
      | inr apart ↦
          let at = kept (not_opened apart) in
          let some_words : 0 < length us = omega (arith, taken_within) in
          window.first (rw at.1 at some_words) (rw at.1 at (sym (others 0 (λ e. apart (sym e))) ∙ full))
    ];
    last = last;
    small = λ i. elim (cases_eq i (c / 64 - g)) [
      | inl here ↦
          let fits = word_at_small calls f ws window (c / 64) in
          rw (here, cleared) (omega (arith, fits, and_le_l (word_at f ws (c / 64)) (bit_not w64 (1 * 2 ^ (c % 64) % 2 ^ 64))))
      | inr apart ↦
          let fits = word_at_small calls f ws window (g + i) in
          rw (others i apart ∙ sym (word_at_plus g us i) ∙ same (g + i)) fits
    ];
    within = λ k past. elim (cases_eq k c) as (λ _. has_bit (word_at g xs) k ≡ false) [
      | inl here ↦ rw here removed_out
      | inr other ↦ sym (has_others (word_at g xs) (word_at f ws) c removed_adds k other) ∙ window.within k past
    ];
  }

-- a last word that is 0 may leave the list
pub taken_zero : (ws : List ℕ) → get_or ws (length ws - 1) 0 ≡ 0 → (i : ℕ) → get_or (take (length ws - 1) ws) i 0 ≡ get_or ws i 0
taken_zero ws zero i = elim (cases_lt i (length ws - 1)) [
  | inl h ↦ get_or-take (length ws - 1) ws i 0 h
  | inr h ↦
      let short : length (take (length ws - 1) ws) ≤ i = omega (arith, length-take (length ws - 1) ws) in
      get_or_past (take (length ws - 1) ws) i 0 short
      ∙ (elim (cases_eq i (length ws - 1)) as (λ _. 0 ≡ get_or ws i 0) [
        | inl here ↦ rw here (sym zero)
        | inr apart ↦ sym (get_or_past ws i 0 (omega arith))
      ])
]
