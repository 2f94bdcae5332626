-- The table of sets keeps the law of their runs.
use Rattle.std.proofs.Common.{◌≡◌, ℕ, suc, ◌+◌, arith, Bool, true, false, not, Some, List, [], ◌∷◌, take, drop, refl, sym, ap, subst, ◌∙◌, ◌||◌, ◌&&◌, if◌then◌else◌}
use Rattle.std.specs.Prelude.{ℤ, int_lt, insert}
use Rattle.std.specs.List.{position_or_len}
use Rattle.std.specs.Ordering.{int_eq}
use Rattle.std.specs.Cmp.{signed_Decides}
use Rattle.std.proofs.lemmas.List.Folds.{list_any-append}
use Rattle.std.proofs.lemmas.List.{take-append-drop}
use Rattle.std.proofs.lemmas.Map.Views.{any-filter_same}
use Rattle.lin_object.specs.declared.op.Op.{Op}
use Rattle.lin_object.specs.declared.op.Op.TheVariants.{Insert, Remove, Contains}
use Rattle.lin_object.specs.declared.reply.Reply.{Reply}
use Rattle.lin_object.specs.declared.reply.Reply.TheVariants.{Flag}
use Rattle.lin_object.specs.declared.state.ObjState.{ObjState}
use Rattle.lin_object.specs.declared.state.ObjState.TheVariants.{Set}
use Rattle.lin_object.specs.Items.{is_in, with_in_order, without_item}
use Rattle.lin_object.specs.Runs.{Step, RunsFrom}
use Rattle.lin_object.specs.Kinds.{after}
use Rattle.lin_object.specs.Kinds.Set.{set_step, is_in_after_step, is_in_after, IsIncreasing, SetLaw}
use Rattle.std.proofs.lemmas.Bool.{or_parts}
use Rattle.lin_object.proofs.BoolLemmas.{not_both}
use Rattle.lin_object.proofs.NumberLemmas.{apart_from_less, not_less_twice, int_swap, below_or_above, less}
use Rattle.lin_object.proofs.AnswerLemmas.{Gives, no_step, state_given}
use Rattle.std.specs.Ordering.{int_cmp}
use Rattle.std.specs.List.{AllByRecursion}
use Rattle.std.specs.List.Sorted.{IsStrictlySortedBy}
use Rattle.std.specs.declared.cmp.Ordering.TheVariants.{Less}
use Rattle.std.proofs.lemmas.Cmp.{int_cmp_total}
use Rattle.std.proofs.lemmas.List.Kept.{IsStrictlySortedBy-filter}
use Rattle.lin_object.specs.contracts.state.ObjStatePartialEq.TheImpl.{eq-value as state_eq}
use Rattle.lin_object.specs.StepAnswers.{step_reply}
use Rattle.lin_object.specs.StepLemmas.{state_same, state_refl}

-- the items of a set's state

set_items : {xs ys : List ℤ} → ◌≡◌ {A = ObjState} (Set xs) (Set ys) → xs ≡ ys
set_items e = cc

items_given : {xs ys : List ℤ} {a r : Reply} → Gives (Some (Set xs, a)) (Set ys) r → xs ≡ ys
items_given e = set_items (state_given e)

equal_sets : (xs ys : List ℤ) → xs ≡ ys → state_eq.it (Set xs) (Set ys) ≡ true
equal_sets xs ys e = subst (λ (zs : List ℤ). state_eq.it (Set xs) (Set zs) ≡ true) e (state_refl (Set xs))

-- an item is in a list that begins with it
own : (x : ℤ) (xs : List ℤ) → is_in x (x ∷ xs) ≡ true
own x xs = rw ((signed_Decides x x).1 refl) refl

-- an item below all of a list is not in it
above_all : (x : ℤ) (xs : List ℤ) → AllByRecursion (λ y. int_cmp x y ≡ Less) xs → is_in x xs ≡ false
above_all x [] all = refl
above_all x (y ∷ ys) all = rw (apart_from_less x y all.0) (above_all x ys all.1)

-- two lists that begin with one item below the others of each, and agree at an item, agree at it behind their first
rest_same : (x y : ℤ) (xs ys : List ℤ) (item : ℤ) → x ≡ y → AllByRecursion (λ z. int_cmp x z ≡ Less) xs → AllByRecursion (λ z. int_cmp y z ≡ Less) ys → is_in item (x ∷ xs) ≡ is_in item (y ∷ ys) → is_in item xs ≡ is_in item ys
rest_same x y xs ys item head all every same = go (int_eq x item) (int_eq y item) refl refl
  where
    go : (a b : Bool) → int_eq x item ≡ a → int_eq y item ≡ b → is_in item xs ≡ is_in item ys
    go true b e f =
        let own_of_x : x ≡ item = (signed_Decides x item).0 e in
        let gone : is_in item xs ≡ false = subst (λ (z : ℤ). is_in z xs ≡ false) own_of_x (above_all x xs all) in
        let lost : is_in item ys ≡ false = subst (λ (z : ℤ). is_in z ys ≡ false) (sym head ∙ own_of_x) (above_all y ys every) in
        gone ∙ sym lost
    go false true e f = absurd (not_both (int_eq x item) (subst (λ (z : ℤ). int_eq z item ≡ true) (sym head) f) e)
    go false false e f = rw (e, f) at same

any_turned : (a b c : Bool) → (a || (b || c)) ≡ (b || (a || c))
any_turned true true c = refl
any_turned true false c = refl
any_turned false b c = refl

or_if : (a b : Bool) → (a || b) ≡ (if a then true else b)
or_if true b = refl
or_if false b = refl

and_if : (a b : Bool) → (not a && b) ≡ (if a then false else b)
and_if true b = refl
and_if false b = refl

-- an item put in anywhere
in_inserted : (item w : ℤ) (xs : List ℤ) (i : ℕ) → is_in item (insert xs i w) ≡ (if int_eq w item then true else is_in item xs)
in_inserted item w xs i =
    list_any-append (λ x. int_eq x item) (take i xs) (w ∷ drop i xs)
    ∙ any_turned (is_in item (take i xs)) (int_eq w item) (is_in item (drop i xs))
    ∙ ap (λ (b : Bool). int_eq w item || b) (sym (list_any-append (λ x. int_eq x item) (take i xs) (drop i xs)) ∙ ap (is_in item) (take-append-drop i xs))
    ∙ or_if (int_eq w item) (is_in item xs)

-- an item taken out
in_without : (item w : ℤ) (xs : List ℤ) → is_in item (without_item w xs) ≡ (if int_eq w item then false else is_in item xs)
in_without item w xs =
    any-filter_same (λ x. int_eq x item) (λ x. not (int_eq x w)) (not (int_eq w item)) (λ k e. ap (λ (z : ℤ). not (int_eq z w)) ((signed_Decides k item).0 e) ∙ ap not (int_swap item w)) xs
    ∙ and_if (int_eq w item) (is_in item xs)

-- an item that is there, put in again
there_already : (item w : ℤ) (xs : List ℤ) → is_in w xs ≡ true → is_in item xs ≡ (if int_eq w item then true else is_in item xs)
there_already item w xs there = go (int_eq w item) refl
  where
    go : (b : Bool) → int_eq w item ≡ b → is_in item xs ≡ (if b then true else is_in item xs)
    go true e = subst (λ (z : ℤ). is_in z xs ≡ true) ((signed_Decides w item).0 e) there
    go false e = refl

-- an item that is not there, taken out
not_there : (item w : ℤ) (xs : List ℤ) → is_in w xs ≡ false → is_in item xs ≡ (if int_eq w item then false else is_in item xs)
not_there item w xs gone = go (int_eq w item) refl
  where
    go : (b : Bool) → int_eq w item ≡ b → is_in item xs ≡ (if b then false else is_in item xs)
    go true e = subst (λ (z : ℤ). is_in z xs ≡ false) ((signed_Decides w item).0 e) gone
    go false e = refl

-- what one step leaves in the set
abbrev SetStep : List ℤ → Op → ObjState → Type 0
SetStep items op m = (rest : List ℤ) × (m ≡ Set rest) × ((item : ℤ) → is_in item rest ≡ is_in_after_step item (is_in item items) op)

insert_leaves : (b : Bool) (w : ℤ) (items : List ℤ) (m : ObjState) (r : Reply) → is_in w items ≡ b → Gives (Some (if b then (Set items, Flag false) else (Set (with_in_order w items), Flag true))) m r → SetStep items (Insert w) m
insert_leaves true w items m r there e = (items, sym (state_given e), λ item. there_already item w items there)
insert_leaves false w items m r there e = (with_in_order w items, sym (state_given e), λ item. in_inserted item w items (position_or_len (λ x. int_lt w x) items))

remove_leaves : (b : Bool) (w : ℤ) (items : List ℤ) (m : ObjState) (r : Reply) → is_in w items ≡ b → Gives (Some (if b then (Set (without_item w items), Flag true) else (Set items, Flag false))) m r → SetStep items (Remove w) m
remove_leaves true w items m r there e = (without_item w items, sym (state_given e), λ item. in_without item w items)
remove_leaves false w items m r there e = (items, sym (state_given e), λ item. not_there item w items there)

set_leaves : (items : List ℤ) (op : Op) (m : ObjState) (r : Reply) → Gives (set_step items op) m r → SetStep items op m
set_leaves items (Insert w) m r e = insert_leaves (is_in w items) w items m r refl e
set_leaves items (Remove w) m r e = remove_leaves (is_in w items) w items m r refl e
set_leaves items (Contains w) m r e = (items, sym (state_given e), λ item. refl)
set_leaves items op m r e = absurd (no_step e)

set_runs : (items : List ℤ) (run : List Step) (t : ObjState) → RunsFrom after (Set items) run t → (rest : List ℤ) × (t ≡ Set rest) × ((item : ℤ) → is_in item rest ≡ is_in_after item (is_in item items) run)
set_runs items [] t e = (items, sym e, λ item. refl)
set_runs items (step ∷ steps) t (m, e, rest) =
    let one : SetStep items step.op m = set_leaves items step.op m step.reply e in
    let later = set_runs one.0 steps t (subst (λ (s : ObjState). RunsFrom after s steps t) one.1 rest) in
    (later.0, later.1, λ item. later.2 item ∙ ap (λ (b : Bool). is_in_after item b steps) (one.2 item))

-- ---- the order of the items

insert_later : (v x : ℤ) (xs : List ℤ) (n : ℕ) → insert (x ∷ xs) (1 + n) v ≡ x ∷ insert xs n v
insert_later v x xs n = let next : suc n ≡ 1 + n = omega arith in subst (λ (k : ℕ). insert (x ∷ xs) k v ≡ x ∷ insert xs n v) next refl

-- the item stands first, or behind the first of the others
with_in_order_at : (v x : ℤ) (xs : List ℤ) (first : Bool) → int_lt v x ≡ first → with_in_order v (x ∷ xs) ≡ (if first then v ∷ x ∷ xs else x ∷ with_in_order v xs)
with_in_order_at v x xs true e = rw e refl
with_in_order_at v x xs false e = rw e (insert_later v x xs (position_or_len (λ y. int_lt v y) xs))

all_with : (P : ℤ → Type 0) (v : ℤ) (xs : List ℤ) → P v → AllByRecursion P xs → AllByRecursion P (with_in_order v xs)
all_with P v [] own all = (own, tt)
all_with P v (x ∷ xs) own all = go (int_lt v x) refl (all_with P v xs own all.1)
  where
    go : (first : Bool) → int_lt v x ≡ first → AllByRecursion P (with_in_order v xs) → AllByRecursion P (with_in_order v (x ∷ xs))
    go true e later = subst (AllByRecursion P) (sym (with_in_order_at v x xs true e)) (own, all)
    go false e later = subst (AllByRecursion P) (sym (with_in_order_at v x xs false e)) (all.0, later)

below_all : (v x : ℤ) (xs : List ℤ) → int_cmp v x ≡ Less → AllByRecursion (λ y. int_cmp x y ≡ Less) xs → AllByRecursion (λ y. int_cmp v y ≡ Less) xs
below_all v x [] e all = tt
below_all v x (y ∷ ys) e all = (int_cmp_total.trans v x y e all.0, below_all v x ys e all.1)

put_in_order : (v : ℤ) (xs : List ℤ) → is_in v xs ≡ false → IsIncreasing xs → IsIncreasing (with_in_order v xs)
unfolding IsStrictlySortedBy
put_in_order v [] absent sorted = (tt, tt)
put_in_order v (x ∷ xs) absent sorted =
    let apart = or_parts (int_eq x v) (is_in v xs) absent in
    go (int_lt v x) refl apart.0 (put_in_order v xs apart.1 sorted.1)
  where
    go : (first : Bool) → int_lt v x ≡ first → int_eq x v ≡ false → IsIncreasing (with_in_order v xs) → IsIncreasing (with_in_order v (x ∷ xs))
    go true e apart later = subst IsIncreasing (sym (with_in_order_at v x xs true e)) ((less v x e, below_all v x xs (less v x e) sorted.0), sorted)
    go false e apart later = subst IsIncreasing (sym (with_in_order_at v x xs false e)) (all_with (λ y. int_cmp x y ≡ Less) v xs (below_or_above v x (int_lt x v) refl e apart) sorted.0, later)

insert_ordered : (there : Bool) (w : ℤ) (items rest : List ℤ) (r : Reply) → is_in w items ≡ there → IsIncreasing items → Gives (Some (if there then (Set items, Flag false) else (Set (with_in_order w items), Flag true))) (Set rest) r → IsIncreasing rest
insert_ordered true w items rest r is sorted e = subst IsIncreasing (items_given e) sorted
insert_ordered false w items rest r is sorted e = subst IsIncreasing (items_given e) (put_in_order w items is sorted)

remove_ordered : (there : Bool) (w : ℤ) (items rest : List ℤ) (r : Reply) → IsIncreasing items → Gives (Some (if there then (Set (without_item w items), Flag true) else (Set items, Flag false))) (Set rest) r → IsIncreasing rest
remove_ordered true w items rest r sorted e = subst IsIncreasing (items_given e) (IsStrictlySortedBy-filter int_cmp (λ x. not (int_eq x w)) items sorted)
remove_ordered false w items rest r sorted e = subst IsIncreasing (items_given e) sorted

step_ordered : (items rest : List ℤ) (op : Op) (r : Reply) → IsIncreasing items → Gives (set_step items op) (Set rest) r → IsIncreasing rest
step_ordered items rest (Insert w) r sorted e = insert_ordered (is_in w items) w items rest r refl sorted e
step_ordered items rest (Remove w) r sorted e = remove_ordered (is_in w items) w items rest r sorted e
step_ordered items rest (Contains w) r sorted e = subst IsIncreasing (items_given e) sorted
step_ordered items rest op r sorted e = absurd (no_step e)

runs_ordered : (items rest : List ℤ) (run : List Step) → IsIncreasing items → RunsFrom after (Set items) run (Set rest) → IsIncreasing rest
runs_ordered items rest [] sorted e = subst IsIncreasing (set_items e) sorted
runs_ordered items rest (step ∷ steps) sorted (m, e, later) =
    let one : SetStep items step.op m = set_leaves items step.op m step.reply e in
    let ordered : IsIncreasing one.0 = step_ordered items one.0 step.op step.reply sorted (subst (λ (s : ObjState). Gives (set_step items step.op) s step.reply) one.1 e) in
    runs_ordered one.0 rest steps ordered (subst (λ (s : ObjState). RunsFrom after s steps (Set rest)) one.1 later)

-- ---- sets with the same members

-- an item of the list is above what is below all of it
is_above : (v x : ℤ) (xs : List ℤ) → is_in v xs ≡ true → AllByRecursion (λ y. int_cmp x y ≡ Less) xs → int_cmp x v ≡ Less
is_above v x [] e all = absurd (not_both false e refl)
is_above v x (y ∷ ys) e all = go (int_eq y v) refl e (λ there. is_above v x ys there all.1)
  where
    go : (first : Bool) → int_eq y v ≡ first → (first || is_in v ys) ≡ true → (is_in v ys ≡ true → int_cmp x v ≡ Less) → int_cmp x v ≡ Less
    go true same there later = subst (λ (z : ℤ). int_cmp x z ≡ Less) ((signed_Decides y v).0 same) all.0
    go false same there later = later there

one_head : (x y : ℤ) (xs ys : List ℤ) → IsIncreasing (x ∷ xs) → IsIncreasing (y ∷ ys) → ((item : ℤ) → is_in item (x ∷ xs) ≡ is_in item (y ∷ ys)) → x ≡ y
unfolding IsStrictlySortedBy
one_head x y xs ys sorted ordered members = go (int_eq y x) (int_eq x y) refl refl (sym (members x) ∙ own x xs) (members y ∙ own y ys)
  where
    go : (a b : Bool) → int_eq y x ≡ a → int_eq x y ≡ b → (int_eq y x || is_in x ys) ≡ true → (int_eq x y || is_in y xs) ≡ true → x ≡ y
    go true b e f one other = sym ((signed_Decides y x).0 e)
    go a true e f one other = (signed_Decides x y).0 f
    go false false e f one other =
        let above : int_cmp y x ≡ Less = is_above x y ys (rw e at one) ordered.0 in
        let below : int_cmp x y ≡ Less = is_above y x xs (rw f at other) sorted.0 in
        absurd (not_less_twice x y below above)

same_items : (xs ys : List ℤ) → IsIncreasing xs → IsIncreasing ys → ((item : ℤ) → is_in item xs ≡ is_in item ys) → xs ≡ ys
unfolding IsStrictlySortedBy
same_items [] [] sorted ordered members = refl
same_items [] (y ∷ ys) sorted ordered members = absurd (not_both (is_in y (y ∷ ys)) (own y ys) (sym (members y)))
same_items (x ∷ xs) [] sorted ordered members = absurd (not_both (is_in x (x ∷ xs)) (own x xs) (members x))
same_items (x ∷ xs) (y ∷ ys) sorted ordered members =
    let head : x ≡ y = one_head x y xs ys sorted ordered members in
    let tails : (item : ℤ) → is_in item xs ≡ is_in item ys = λ item. rest_same x y xs ys item head sorted.0 ordered.0 (members item) in
    let rest : xs ≡ ys = same_items xs ys sorted.1 ordered.1 tails in
    cc

-- ---- what each step replies

insert_answers : (there : Bool) (same more : List ℤ) → step_reply {S = ObjState} {R = Reply} (Some (if there then (Set same, Flag false) else (Set more, Flag true))) ≡ Some (Flag (not there))
insert_answers true same more = refl
insert_answers false same more = refl

remove_answers : (there : Bool) (same less : List ℤ) → step_reply {S = ObjState} {R = Reply} (Some (if there then (Set less, Flag true) else (Set same, Flag false))) ≡ Some (Flag there)
remove_answers true same less = refl
remove_answers false same less = refl

pub set_keeps : SetLaw after state_eq.it
set_keeps = record {
  members = set_runs;
  order = runs_ordered;
  same = λ xs ys sorted ordered. (λ e item. ap (is_in item) (set_items (state_same (Set xs) (Set ys) e)), λ members. equal_sets xs ys (same_items xs ys sorted ordered members));
  inserts = λ items item process. insert_answers (is_in item items) items (with_in_order item items);
  removes = λ items item process. remove_answers (is_in item items) items (without_item item items);
  contains = λ items item process. refl;
}
