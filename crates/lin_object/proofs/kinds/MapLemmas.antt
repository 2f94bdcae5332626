-- The table of maps keeps the law of their runs.
use Rattle.std.proofs.Common.{◌≡◌, ℕ, suc, ◌+◌, arith, Bool, true, false, not, Option, Some, None, List, [], ◌∷◌, ◌++◌, take, drop, refl, sym, ap, subst, ◌∙◌, if◌then◌else◌}
use Rattle.std.specs.Prelude.{ℤ, int_lt, is_some, cond, find}
use Rattle.std.specs.List.{AllByRecursion}
use Rattle.std.specs.List.Sorted.{IsStrictlySortedBy}
use Rattle.std.specs.Option.{option_map}
use Rattle.std.specs.Ordering.{int_eq, int_cmp}
use Rattle.std.specs.Cmp.{signed_Decides}
use Rattle.std.specs.declared.cmp.Ordering.TheVariants.{Less}
use Rattle.std.proofs.lemmas.Cmp.{int_cmp_total}
use Rattle.std.proofs.lemmas.List.Kept.{IsStrictlySortedBy-filter}
use Rattle.lin_object.specs.contracts.state.ObjStatePartialEq.TheImpl.{eq-value as state_eq}
use Rattle.lin_object.specs.declared.op.Op.{Op}
use Rattle.lin_object.specs.declared.op.Op.TheVariants.{Put, Lookup, Delete}
use Rattle.lin_object.specs.declared.pairs.Pair.{Pair}
use Rattle.lin_object.specs.declared.reply.Reply.{Reply}
use Rattle.lin_object.specs.declared.reply.Reply.TheVariants.{Flag}
use Rattle.lin_object.specs.declared.state.ObjState.{ObjState}
use Rattle.lin_object.specs.declared.state.ObjState.TheVariants.{Map}
use Rattle.lin_object.specs.Pairs.{value_at, reply_to_lookup, place_of_key, behind_key, with_value, without_key}
use Rattle.lin_object.specs.Runs.{Step, RunsFrom}
use Rattle.lin_object.specs.StepAnswers.{step_reply}
use Rattle.lin_object.specs.StepLemmas.{state_same, state_refl}
use Rattle.lin_object.specs.Kinds.{after}
use Rattle.lin_object.specs.Kinds.Map.{map_step, value_after_step, value_after, HasKeysInOrder, MapLaw}
use Rattle.lin_object.proofs.AnswerLemmas.{Gives, no_step, state_given}
use Rattle.lin_object.proofs.BoolLemmas.{not_both}
use Rattle.lin_object.proofs.NumberLemmas.{apart_from_less, not_less_twice, int_swap, below_or_above, less}

-- the pairs of a map's state

map_pairs : {ps qs : List Pair} → ◌≡◌ {A = ObjState} (Map ps) (Map qs) → ps ≡ qs
map_pairs e = cc

pairs_given : {ps qs : List Pair} {a r : Reply} → Gives (Some (Map ps, a)) (Map qs) r → ps ≡ qs
pairs_given e = map_pairs (state_given e)

equal_maps : (ps qs : List Pair) → ps ≡ qs → state_eq.it (Map ps) (Map qs) ≡ true
equal_maps ps qs e = subst (λ (rs : List Pair). state_eq.it (Map ps) (Map rs) ≡ true) e (state_refl (Map ps))

-- the pair that a put makes
abbrev new : ℤ → ℤ → Pair
new key value = record { key = key; value = value }

-- ---- what one pair more says

found_value : (b : Bool) (p : Pair) (o : Option Pair) → option_map (λ (pair : Pair). pair.value) (cond b (Some p) o) ≡ (if b then Some p.value else option_map (λ (pair : Pair). pair.value) o)
found_value true p o = refl
found_value false p o = refl

value_with : (key : ℤ) (p : Pair) (ps : List Pair) → value_at key (p ∷ ps) ≡ (if int_eq p.key key then Some p.value else value_at key ps)
value_with key p ps = found_value (int_eq p.key key) p (find (λ (pair : Pair). int_eq pair.key key) ps)

value_here : (key : ℤ) (p : Pair) (ps : List Pair) → int_eq p.key key ≡ true → value_at key (p ∷ ps) ≡ Some p.value
value_here key p ps e = value_with key p ps ∙ ap (λ (b : Bool). if b then Some p.value else value_at key ps) e

value_later : (key : ℤ) (p : Pair) (ps : List Pair) → int_eq p.key key ≡ false → value_at key (p ∷ ps) ≡ value_at key ps
value_later key p ps e = value_with key p ps ∙ ap (λ (b : Bool). if b then Some p.value else value_at key ps) e

-- two numbers that a third is equal to
equal_to_both : (a b c : ℤ) → int_eq a c ≡ true → int_eq b c ≡ true → a ≡ b
equal_to_both a b c e f = (signed_Decides a c).0 e ∙ sym ((signed_Decides b c).0 f)

not_lower_itself : (a b : ℤ) → a ≡ b → int_lt a b ≡ true → ⊥
not_lower_itself a b same e =
    let lower : int_cmp a b ≡ Less = less a b e in
    let upper : int_cmp b a ≡ Less = subst (λ (z : ℤ). int_cmp z a ≡ Less) same (subst (λ (z : ℤ). int_cmp a z ≡ Less) (sym same) lower) in
    not_less_twice a b lower upper

-- ---- a put

put_later : (k v : ℤ) (p : Pair) (ps : List Pair) (n : ℕ) → take (1 + n) (p ∷ ps) ++ new k v ∷ behind_key k (drop (1 + n) (p ∷ ps)) ≡ p ∷ (take n ps ++ new k v ∷ behind_key k (drop n ps))
put_later k v p ps n =
    let next : suc n ≡ 1 + n = omega arith in
    subst (λ (m : ℕ). take m (p ∷ ps) ++ new k v ∷ behind_key k (drop m (p ∷ ps)) ≡ p ∷ (take n ps ++ new k v ∷ behind_key k (drop n ps))) next refl

put_place : (k v : ℤ) (p : Pair) (ps : List Pair) (lower : Bool) (n : ℕ) → take (cond (not (not lower)) (1 + n) 0) (p ∷ ps) ++ new k v ∷ behind_key k (drop (cond (not (not lower)) (1 + n) 0) (p ∷ ps)) ≡ (if lower then p ∷ (take n ps ++ new k v ∷ behind_key k (drop n ps)) else new k v ∷ behind_key k (p ∷ ps))
put_place k v p ps true n = put_later k v p ps n
put_place k v p ps false n = refl

-- the pair stands first, or behind the first of the others
put_at : (k v : ℤ) (p : Pair) (ps : List Pair) (lower : Bool) → int_lt p.key k ≡ lower → with_value k v (p ∷ ps) ≡ (if lower then p ∷ with_value k v ps else new k v ∷ behind_key k (p ∷ ps))
put_at k v p ps lower e =
    put_place k v p ps (int_lt p.key k) (place_of_key k ps)
    ∙ ap (λ (b : Bool). if b then p ∷ with_value k v ps else new k v ∷ behind_key k (p ∷ ps)) e

-- behind it each other key has its value
behind_same : (key k : ℤ) (p : Pair) (ps : List Pair) (own : Bool) → int_eq p.key k ≡ own → int_eq k key ≡ false → value_at key (if own then ps else p ∷ ps) ≡ value_at key (p ∷ ps)
behind_same key k p ps true e f = sym (value_later key p ps (subst (λ (z : ℤ). int_eq z key ≡ false) (sym ((signed_Decides p.key k).0 e)) f))
behind_same key k p ps false e f = refl

put_first : (key k v : ℤ) (p : Pair) (ps : List Pair) (own : Bool) → int_eq k key ≡ own → value_at key (new k v ∷ behind_key k (p ∷ ps)) ≡ (if own then Some v else value_at key (p ∷ ps))
put_first key k v p ps true e = value_here key (new k v) (behind_key k (p ∷ ps)) e
put_first key k v p ps false e = value_later key (new k v) (behind_key k (p ∷ ps)) e ∙ behind_same key k p ps (int_eq p.key k) refl e

put_behind : (key k v : ℤ) (p : Pair) (ps qs : List Pair) (here own : Bool) → int_lt p.key k ≡ true → int_eq p.key key ≡ here → int_eq k key ≡ own → value_at key qs ≡ (if own then Some v else value_at key ps) → value_at key (p ∷ qs) ≡ (if own then Some v else value_at key (p ∷ ps))
put_behind key k v p ps qs true true lower e f later = absurd (not_lower_itself p.key k (equal_to_both p.key k key e f) lower)
put_behind key k v p ps qs true false lower e f later = value_here key p qs e ∙ sym (value_here key p ps e)
put_behind key k v p ps qs false true lower e f later = value_later key p qs e ∙ later
put_behind key k v p ps qs false false lower e f later = value_later key p qs e ∙ later ∙ sym (value_later key p ps e)

value_put : (key k v : ℤ) (ps : List Pair) → value_at key (with_value k v ps) ≡ (if int_eq k key then Some v else value_at key ps)
value_put key k v [] = value_with key (new k v) []
value_put key k v (p ∷ ps) = go (int_lt p.key k) refl (value_put key k v ps)
  where
    go : (lower : Bool) → int_lt p.key k ≡ lower → value_at key (with_value k v ps) ≡ (if int_eq k key then Some v else value_at key ps) → value_at key (with_value k v (p ∷ ps)) ≡ (if int_eq k key then Some v else value_at key (p ∷ ps))
    go true e later = ap (value_at key) (put_at k v p ps true e) ∙ put_behind key k v p ps (with_value k v ps) (int_eq p.key key) (int_eq k key) e refl refl later
    go false e later = ap (value_at key) (put_at k v p ps false e) ∙ put_first key k v p ps (int_eq k key) refl

-- ---- a delete

none_or_none : (b : Bool) → ◌≡◌ {A = Option ℤ} None (if b then None else None)
none_or_none true = refl
none_or_none false = refl

delete_own : (key k : ℤ) (p : Pair) (ps qs : List Pair) (own : Bool) → int_eq p.key k ≡ true → int_eq k key ≡ own → value_at key qs ≡ (if own then None else value_at key ps) → value_at key qs ≡ (if own then None else value_at key (p ∷ ps))
delete_own key k p ps qs true e f later = later
delete_own key k p ps qs false e f later = later ∙ sym (value_later key p ps (subst (λ (z : ℤ). int_eq z key ≡ false) (sym ((signed_Decides p.key k).0 e)) f))

delete_other : (key k : ℤ) (p : Pair) (ps qs : List Pair) (here own : Bool) → int_eq p.key k ≡ false → int_eq p.key key ≡ here → int_eq k key ≡ own → value_at key qs ≡ (if own then None else value_at key ps) → value_at key (p ∷ qs) ≡ (if own then None else value_at key (p ∷ ps))
delete_other key k p ps qs true true e f g later = absurd (not_both (int_eq p.key k) ((signed_Decides p.key k).1 (equal_to_both p.key k key f g)) e)
delete_other key k p ps qs true false e f g later = value_here key p qs f ∙ sym (value_here key p ps f)
delete_other key k p ps qs false true e f g later = value_later key p qs f ∙ later
delete_other key k p ps qs false false e f g later = value_later key p qs f ∙ later ∙ sym (value_later key p ps f)

value_deleted : (key k : ℤ) (ps : List Pair) → value_at key (without_key k ps) ≡ (if int_eq k key then None else value_at key ps)
value_deleted key k [] = none_or_none (int_eq k key)
value_deleted key k (p ∷ ps) = go (int_eq p.key k) refl (value_deleted key k ps)
  where
    go : (own : Bool) → int_eq p.key k ≡ own → value_at key (without_key k ps) ≡ (if int_eq k key then None else value_at key ps) → value_at key (cond (not own) (p ∷ without_key k ps) (without_key k ps)) ≡ (if int_eq k key then None else value_at key (p ∷ ps))
    go true e later = delete_own key k p ps (without_key k ps) (int_eq k key) e refl later
    go false e later = delete_other key k p ps (without_key k ps) (int_eq p.key key) (int_eq k key) e refl refl later

-- ---- the values after a run

-- what one step leaves in the map
abbrev MapStep : List Pair → Op → ObjState → Type 0
MapStep pairs op m = (rest : List Pair) × (m ≡ Map rest) × ((key : ℤ) → value_at key rest ≡ value_after_step key (value_at key pairs) op)

map_leaves : (pairs : List Pair) (op : Op) (m : ObjState) (r : Reply) → Gives (map_step pairs op) m r → MapStep pairs op m
map_leaves pairs (Put k v) m r e = (with_value k v pairs, sym (state_given e), λ key. value_put key k v pairs)
map_leaves pairs (Lookup k) m r e = (pairs, sym (state_given e), λ key. refl)
map_leaves pairs (Delete k) m r e = (without_key k pairs, sym (state_given e), λ key. value_deleted key k pairs)
map_leaves pairs op m r e = absurd (no_step e)

abbrev MapRun : List Pair → List Step → ObjState → Type 0
MapRun pairs run t = (rest : List Pair) × (t ≡ Map rest) × ((key : ℤ) → value_at key rest ≡ value_after key (value_at key pairs) run)

map_runs : (pairs : List Pair) (run : List Step) (t : ObjState) → RunsFrom after (Map pairs) run t → MapRun pairs run t
map_runs pairs [] t e = (pairs, sym e, λ key. refl)
map_runs pairs (step ∷ steps) t (m, e, rest) =
    let one : MapStep pairs step.op m = map_leaves pairs step.op m step.reply e in
    let later = map_runs one.0 steps t (subst (λ (s : ObjState). RunsFrom after s steps t) one.1 rest) in
    (later.0, later.1, λ key. later.2 key ∙ ap (λ (o : Option ℤ). value_after key o steps) (one.2 key))

-- ---- the order of the keys

-- the key is below those of all the pairs
abbrev IsBelow : ℤ → List Pair → Type 0
IsBelow key ps = AllByRecursion (λ (q : Pair). int_cmp key q.key ≡ Less) ps

all_behind : (P : Pair → Type 0) (p : Pair) (ps : List Pair) (own : Bool) → AllByRecursion P (p ∷ ps) → AllByRecursion P (if own then ps else p ∷ ps)
all_behind P p ps true all = all.1
all_behind P p ps false all = all

all_with : (P : Pair → Type 0) (k v : ℤ) (ps : List Pair) → P (new k v) → AllByRecursion P ps → AllByRecursion P (with_value k v ps)
all_with P k v [] own all = (own, tt)
all_with P k v (p ∷ ps) own all = go (int_lt p.key k) refl (all_with P k v ps own all.1)
  where
    go : (lower : Bool) → int_lt p.key k ≡ lower → AllByRecursion P (with_value k v ps) → AllByRecursion P (with_value k v (p ∷ ps))
    go true e later = subst (AllByRecursion P) (sym (put_at k v p ps true e)) (all.0, later)
    go false e later = subst (AllByRecursion P) (sym (put_at k v p ps false e)) (own, all_behind P p ps (int_eq p.key k) all)

below_all : (a b : ℤ) (ps : List Pair) → int_cmp a b ≡ Less → IsBelow b ps → IsBelow a ps
below_all a b [] e all = tt
below_all a b (p ∷ ps) e all = (int_cmp_total.trans a b p.key e all.0, below_all a b ps e all.1)

first_in_order : (k v : ℤ) (p : Pair) (ps : List Pair) (own : Bool) → int_eq p.key k ≡ own → int_lt p.key k ≡ false → HasKeysInOrder (p ∷ ps) → HasKeysInOrder (new k v ∷ (if own then ps else p ∷ ps))
unfolding IsStrictlySortedBy
first_in_order k v p ps true e f sorted = (subst (λ (z : ℤ). IsBelow z ps) ((signed_Decides p.key k).0 e) sorted.0, sorted.1)
first_in_order k v p ps false e f sorted =
    let below : int_cmp k p.key ≡ Less = below_or_above p.key k (int_lt k p.key) refl f (int_swap k p.key ∙ e) in
    ((below, below_all k p.key ps below sorted.0), sorted)

put_in_order : (k v : ℤ) (ps : List Pair) → HasKeysInOrder ps → HasKeysInOrder (with_value k v ps)
unfolding IsStrictlySortedBy
put_in_order k v [] sorted = (tt, tt)
put_in_order k v (p ∷ ps) sorted = go (int_lt p.key k) refl (put_in_order k v ps sorted.1)
  where
    go : (lower : Bool) → int_lt p.key k ≡ lower → HasKeysInOrder (with_value k v ps) → HasKeysInOrder (with_value k v (p ∷ ps))
    go true e later = subst HasKeysInOrder (sym (put_at k v p ps true e)) (all_with (λ (q : Pair). int_cmp p.key q.key ≡ Less) k v ps (less p.key k e) sorted.0, later)
    go false e later = subst HasKeysInOrder (sym (put_at k v p ps false e)) (first_in_order k v p ps (int_eq p.key k) refl e sorted)

step_ordered : (pairs rest : List Pair) (op : Op) (r : Reply) → HasKeysInOrder pairs → Gives (map_step pairs op) (Map rest) r → HasKeysInOrder rest
step_ordered pairs rest (Put k v) r sorted e = subst HasKeysInOrder (pairs_given e) (put_in_order k v pairs sorted)
step_ordered pairs rest (Lookup k) r sorted e = subst HasKeysInOrder (pairs_given e) sorted
step_ordered pairs rest (Delete k) r sorted e = subst HasKeysInOrder (pairs_given e) (IsStrictlySortedBy-filter (λ (p q : Pair). int_cmp p.key q.key) (λ (pair : Pair). not (int_eq pair.key k)) pairs sorted)
step_ordered pairs rest op r sorted e = absurd (no_step e)

runs_ordered : (pairs rest : List Pair) (run : List Step) → HasKeysInOrder pairs → RunsFrom after (Map pairs) run (Map rest) → HasKeysInOrder rest
runs_ordered pairs rest [] sorted e = subst HasKeysInOrder (map_pairs e) sorted
runs_ordered pairs rest (step ∷ steps) sorted (m, e, later) =
    let one : MapStep pairs step.op m = map_leaves pairs step.op m step.reply e in
    let ordered : HasKeysInOrder one.0 = step_ordered pairs one.0 step.op step.reply sorted (subst (λ (s : ObjState). Gives (map_step pairs step.op) s step.reply) one.1 e) in
    runs_ordered one.0 rest steps ordered (subst (λ (s : ObjState). RunsFrom after s steps (Map rest)) one.1 later)

-- ---- maps with the same values

own_value : (p : Pair) (ps : List Pair) → value_at p.key (p ∷ ps) ≡ Some p.value
own_value p ps = value_here p.key p ps ((signed_Decides p.key p.key).1 refl)

none_below : (key : ℤ) (ps : List Pair) → IsBelow key ps → value_at key ps ≡ None
none_below key [] all = refl
none_below key (p ∷ ps) all = value_later key p ps (apart_from_less key p.key all.0) ∙ none_below key ps all.1

-- a key that has a value is above what is below all keys
is_above : (low key value : ℤ) (ps : List Pair) → IsBelow low ps → value_at key ps ≡ Some value → int_cmp low key ≡ Less
is_above low key value [] all e = absurd (cc)
is_above low key value (p ∷ ps) all e = go (int_eq p.key key) refl (λ there. is_above low key value ps all.1 there)
  where
    go : (own : Bool) → int_eq p.key key ≡ own → (value_at key ps ≡ Some value → int_cmp low key ≡ Less) → int_cmp low key ≡ Less
    go true same later = subst (λ (z : ℤ). int_cmp low z ≡ Less) ((signed_Decides p.key key).0 same) all.0
    go false apart later = later (sym (value_later key p ps apart) ∙ e)

one_key : (p q : Pair) (ps qs : List Pair) → IsBelow p.key ps → IsBelow q.key qs → ((key : ℤ) → value_at key (p ∷ ps) ≡ value_at key (q ∷ qs)) → p.key ≡ q.key
one_key p q ps qs all every same = go (int_eq q.key p.key) (int_eq p.key q.key) refl refl
  where
    go : (a b : Bool) → int_eq q.key p.key ≡ a → int_eq p.key q.key ≡ b → p.key ≡ q.key
    go true b e f = sym ((signed_Decides q.key p.key).0 e)
    go a true e f = (signed_Decides p.key q.key).0 f
    go false false e f =
        let above : int_cmp q.key p.key ≡ Less = is_above q.key p.key p.value qs every (sym (value_later p.key q qs e) ∙ sym (same p.key) ∙ own_value p ps) in
        let below : int_cmp p.key q.key ≡ Less = is_above p.key q.key q.value ps all (sym (value_later q.key p ps f) ∙ same q.key ∙ own_value q qs) in
        absurd (not_less_twice q.key p.key above below)

one_value : (p q : Pair) (ps qs : List Pair) → p.key ≡ q.key → ((key : ℤ) → value_at key (p ∷ ps) ≡ value_at key (q ∷ qs)) → p.value ≡ q.value
one_value p q ps qs keys same =
    let there : value_at p.key (q ∷ qs) ≡ Some q.value = subst (λ (z : ℤ). value_at z (q ∷ qs) ≡ Some q.value) (sym keys) (own_value q qs) in
    let both : ◌≡◌ {A = Option ℤ} (Some p.value) (Some q.value) = sym (own_value p ps) ∙ same p.key ∙ there in
    cc

one_pair : (p q : Pair) → p.key ≡ q.key → p.value ≡ q.value → p ≡ q
one_pair p q keys values = λ i. record { key = keys i; value = values i }

rest_same : (p q : Pair) (ps qs : List Pair) (key : ℤ) → p.key ≡ q.key → IsBelow p.key ps → IsBelow q.key qs → value_at key (p ∷ ps) ≡ value_at key (q ∷ qs) → value_at key ps ≡ value_at key qs
rest_same p q ps qs key keys all every same = go (int_eq p.key key) refl
  where
    go : (own : Bool) → int_eq p.key key ≡ own → value_at key ps ≡ value_at key qs
    go true e =
        let here : p.key ≡ key = (signed_Decides p.key key).0 e in
        let gone : value_at key ps ≡ None = subst (λ (z : ℤ). value_at z ps ≡ None) here (none_below p.key ps all) in
        let lost : value_at key qs ≡ None = subst (λ (z : ℤ). value_at z qs ≡ None) (sym keys ∙ here) (none_below q.key qs every) in
        gone ∙ sym lost
    go false e = sym (value_later key p ps e) ∙ same ∙ value_later key q qs (subst (λ (z : ℤ). int_eq z key ≡ false) keys e)

same_pairs : (ps qs : List Pair) → HasKeysInOrder ps → HasKeysInOrder qs → ((key : ℤ) → value_at key ps ≡ value_at key qs) → ps ≡ qs
unfolding IsStrictlySortedBy
same_pairs [] [] sorted ordered same = refl
same_pairs [] (q ∷ qs) sorted ordered same = let bad : ◌≡◌ {A = Option ℤ} None (Some q.value) = same q.key ∙ own_value q qs in absurd (cc)
same_pairs (p ∷ ps) [] sorted ordered same = let bad : ◌≡◌ {A = Option ℤ} None (Some p.value) = sym (same p.key) ∙ own_value p ps in absurd (cc)
same_pairs (p ∷ ps) (q ∷ qs) sorted ordered same =
    let keys : p.key ≡ q.key = one_key p q ps qs sorted.0 ordered.0 same in
    let head : p ≡ q = one_pair p q keys (one_value p q ps qs keys same) in
    let tails : (key : ℤ) → value_at key ps ≡ value_at key qs = λ key. rest_same p q ps qs key keys sorted.0 ordered.0 (same key) in
    let rest : ps ≡ qs = same_pairs ps qs sorted.1 ordered.1 tails in
    cc

-- ---- what each step replies

get_answers : (pairs : List Pair) (run : List Step) (t : ObjState) (key : ℤ) (process : ℕ) → MapRun pairs run t → step_reply (after t process (Lookup key)) ≡ Some (reply_to_lookup (value_after key (value_at key pairs) run))
get_answers pairs run t key process (rest, is, values) =
    ap (λ (s : ObjState). step_reply (after s process (Lookup key))) is
    ∙ ap (λ (o : Option ℤ). Some (reply_to_lookup o)) (values key)

delete_answers : (pairs : List Pair) (run : List Step) (t : ObjState) (key : ℤ) (process : ℕ) → MapRun pairs run t → step_reply (after t process (Delete key)) ≡ Some (Flag (is_some (value_after key (value_at key pairs) run)))
delete_answers pairs run t key process (rest, is, values) =
    ap (λ (s : ObjState). step_reply (after s process (Delete key))) is
    ∙ ap (λ (o : Option ℤ). Some (Flag (is_some o))) (values key)

pub map_keeps : MapLaw after state_eq.it
map_keeps = record {
  values = map_runs;
  order = runs_ordered;
  same = λ ps qs sorted ordered. (λ e key. ap (value_at key) (map_pairs (state_same (Map ps) (Map qs) e)), λ values. equal_maps ps qs (same_pairs ps qs sorted ordered values));
  puts = λ pairs key value process. refl;
  gets = λ pairs run t key process runs. get_answers pairs run t key process (map_runs pairs run t runs);
  deletes = λ pairs run t key process runs. delete_answers pairs run t key process (map_runs pairs run t runs);
}
