-- Locality: where each object of a history has a linearization, the whole has one, which is theirs, joined (Herlihy and Wing 1990).
-- What `join` does with lists in memory is done here with lists alone.
use Rattle.std.proofs.Common.{◌≡◌, ℕ, zero, suc, ◌<◌, ◌≤◌, Bool, true, false, cond, List, [], ◌∷◌, ◌++◌, length, length-append, map, filter, Some, None, ◌⊎◌, inl, inr, refl, sym, ap, subst, ◌∙◌, eqb-true, arith}
use Rattle.std.specs.Prelude.{slice_get, nat_le}
use Rattle.std.proofs.lemmas.Bool.Decides.{leb_tells}
use Rattle.lin_object.specs.contracts.state.ObjStatePartialEq.TheImpl.{eq-value as state_eq}
use Rattle.lin_history.specs.declared.locality.placed.Placed.{Placed}
use Rattle.lin_history.specs.declared.locality.joining.Pointed.{Pointed}
use Rattle.lin_history.specs.Problems.LegalLists.{Legal}
use Rattle.lin_history.specs.Problems.Linearizations.{IsLinearization}
use Rattle.lin_history.specs.Recorder.RecordedHistory.{RecordedHistory, IsHistory}
use Rattle.lin_history.specs.Locality.Whole.{Whole, Has, is_call_on, part}
use Rattle.lin_history.specs.Locality.JoinedOrder.{Places}
use Rattle.lin_history.specs.Locality.Points.{placed_of, has_point, Rise, AreOrders, with_points}
use Rattle.lin_history.specs.Locality.PartProblem.{part_problem}
use Rattle.lin_history.specs.Locality.RecordedWhole.{whole_of, part_of}
use Rattle.lin_history.specs.Locality.PartLemmas.{part_of_whole}
use Rattle.lin_history.specs.Locality.OrderLemmas.{order_of, order_by_part}
use Rattle.lin_history.specs.Locality.LocalityLemmas.{joined_is_whole}
use Rattle.lin_history.proofs.JoinLemmas.PlacementLemmas.{found, steps_of}
use Rattle.lin_history.proofs.JoinLemmas.PointLemmas.{orders_none, orders_more, placed_on, joined_sorted, order_there}
use Rattle.lin_history.specs.Locality.LocalityLaw.{HasWhole, HasEach, LocalityLaw}

-- ---- the calls of an order, by their indices and with their replies

module _ {State Op Reply : Type 0} (same_state : State → State → Bool) (h : Whole State Op Reply) (object : ℕ) where
  places : (s : State) (order : List ℕ) → ((t : State) × Legal (part_problem same_state h object) s order t) → (l : List (Placed Reply)) × Places h object s order l
  places s [] e = ([], tt)
  places s (k ∷ rest) e =
      let n = e.1 in
      let f = found same_state h object s n.0 k n.1 in
      let more = places n.0 rest (e.0, n.2) in
      ((record { call = f.index; reply = f.reply }) ∷ more.0, (f.is_index, (f.call, n.0, steps_of same_state h object s n.0 k f, more.1)))

-- ---- calls in the order of their points, those of one point as they were

insert : Pointed → List Pointed → List Pointed
insert p [] = p ∷ []
insert p (q ∷ qs) = cond (nat_le p.point q.point) (p ∷ q ∷ qs) (q ∷ insert p qs)

sorted : List Pointed → List Pointed
sorted [] = []
sorted (p ∷ ps) = insert p (sorted ps)

rise_insert : (n : ℕ) (p : Pointed) (qs : List Pointed) → n ≤ p.point → Rise n qs → Rise n (insert p qs)
unfolding insert
rise_insert n p [] low rise = (low, tt)
rise_insert n p (q ∷ qs) low rise = elim (leb_tells p.point q.point) [
  | inl up ↦ subst (λ (t : Bool). Rise n (cond t (p ∷ q ∷ qs) (q ∷ insert p qs))) (sym up.0) (low, (up.1, rise.1))
  | inr down ↦ (
      let below : q.point ≤ p.point = omega (arith, down.1) in
      subst (λ (t : Bool). Rise n (cond t (p ∷ q ∷ qs) (q ∷ insert p qs))) (sym down.0) (rise.0, rise_insert q.point p qs below rise.1))
]

rise_sorted : (ps : List Pointed) → Rise 0 (sorted ps)
unfolding sorted
rise_sorted [] = tt
rise_sorted (p ∷ ps) = rise_insert 0 p (sorted ps) (omega arith) (rise_sorted ps)

-- of two calls of which one has this point the order does not matter
swap : (a b : Bool) (p q : Pointed) (rest : List Pointed) → (a ≡ true → b ≡ true → ⊥) → cond b (q ∷ cond a (p ∷ rest) rest) (cond a (p ∷ rest) rest) ≡ cond a (p ∷ cond b (q ∷ rest) rest) (cond b (q ∷ rest) rest)
swap true true p q rest not = absurd (not refl refl)
swap true false p q rest not = refl
swap false true p q rest not = refl
swap false false p q rest not = refl

-- a call that goes in behind one with a lower point
behind : (n : ℕ) (p q : Pointed) (qs new : List Pointed) → q.point < p.point → filter (has_point n) new ≡ filter (has_point n) (p ∷ qs) → filter (has_point n) (q ∷ new) ≡ filter (has_point n) (p ∷ q ∷ qs)
behind n p q qs new below e =
    ap (λ (l : List Pointed). cond (has_point n q) (q ∷ l) l) e
    ∙ swap (has_point n p) (has_point n q) p q (filter (has_point n) qs) (λ a b. absurd (let x = eqb-true p.point n a in let y = eqb-true q.point n b in omega (arith, below, x, y)))

tie_insert : (n : ℕ) (p : Pointed) (qs : List Pointed) → filter (has_point n) (insert p qs) ≡ filter (has_point n) (p ∷ qs)
unfolding insert
tie_insert n p [] = refl
tie_insert n p (q ∷ qs) = elim (leb_tells p.point q.point) [
  | inl up ↦ subst (λ (t : Bool). filter (has_point n) (cond t (p ∷ q ∷ qs) (q ∷ insert p qs)) ≡ filter (has_point n) (p ∷ q ∷ qs)) (sym up.0) refl
  | inr down ↦ subst (λ (t : Bool). filter (has_point n) (cond t (p ∷ q ∷ qs) (q ∷ insert p qs)) ≡ filter (has_point n) (p ∷ q ∷ qs)) (sym down.0) (behind n p q qs (insert p qs) down.1 (tie_insert n p qs))
]

tie_sorted : (n : ℕ) (ps : List Pointed) → filter (has_point n) (sorted ps) ≡ filter (has_point n) ps
unfolding sorted
tie_sorted n [] = refl
tie_sorted n (p ∷ ps) = tie_insert n p (sorted ps) ∙ ap (λ (l : List Pointed). cond (has_point n p) (p ∷ l) l) (tie_sorted n ps)

-- ---- an order for each object

at_front : (front : List (List ℕ)) (last : List ℕ) (object : ℕ) (order : List ℕ) → slice_get (front ++ last ∷ []) object ≡ Some order → (slice_get front object ≡ Some order) ⊎ ((object ≡ length front) × (last ≡ order))
at_front [] last zero order e = inr (refl, cc)
at_front [] last (suc object) order e = absurd (let nothing : None ≡ Some order = e in cc)
at_front (x ∷ xs) last zero order e = inl e
at_front (x ∷ xs) last (suc object) order e = elim (at_front xs last object order e) [
  | inl there ↦ inl there
  | inr at ↦ (let same = at.0 in inr (omega (arith, same), at.1))
]

record AreChosen (h : RecordedHistory) (n : ℕ) : Type 0 where
  orders : List (List ℕ)
  points : List Pointed
  count : length orders ≡ n
  each : (object : ℕ) (order : List ℕ) → slice_get orders object ≡ Some order → IsLinearization (part_of h object) order
  are : AreOrders (whole_of h) orders points

one_more : (h : RecordedHistory) (n : ℕ) → AreChosen h n → (order : List ℕ) → IsLinearization (part_of h n) order → AreChosen h (suc n)
one_more h n chosen order lin =
    let l = places state_eq.it (whole_of h) n ((whole_of h).starts n) order lin.continuation.legal in
    let at : n ≡ length chosen.orders = sym chosen.count in
    record {
      orders = chosen.orders ++ order ∷ [];
      points = chosen.points ++ with_points (whole_of h) 0 l.0;
      count = length-append chosen.orders (order ∷ []) ∙ omega (arith, chosen.count);
      each = λ object o there. elim (at_front chosen.orders order object o there) [
        | inl old ↦ chosen.each object o old
        | inr new ↦ subst (λ (m : ℕ). IsLinearization (part_of h m) o) (at ∙ sym new.0) (subst (IsLinearization (part_of h n)) new.1 lin)
      ];
      are = orders_more (whole_of h) chosen.orders chosen.points order l.0 chosen.are
          (subst (λ (m : ℕ). Places (whole_of h) m ((whole_of h).starts m) order l.0) at l.1)
          (subst (λ (m : ℕ). (a : ℕ) → Has (whole_of h) a l.0 → is_call_on (whole_of h) m a ≡ true) at (placed_on (whole_of h) state_eq.it n order l.0 lin l.1));
    }

all_chosen : (h : RecordedHistory) (n : ℕ) → ((object : ℕ) → object < n → (l : List ℕ) × IsLinearization (part_of h object) l) → AreChosen h n
all_chosen h zero each = record { orders = []; points = []; count = refl; each = λ object order there. absurd (cc); are = orders_none (whole_of h) }
all_chosen h (suc n) each =
    let last = each n (omega arith) in
    one_more h n (all_chosen h n (λ object below. each object (omega (arith, below)))) last.0 last.1

-- ---- both ways

whole_has : (h : RecordedHistory) → IsHistory h → HasEach h → HasWhole h
whole_has h is each =
    let c = all_chosen h (length h.objects) each in
    let qs = sorted c.points in
    let joined = joined_sorted (whole_of h) c.orders c.points qs c.are (rise_sorted c.points) (λ n. tie_sorted n c.points) in (
      map placed_of qs,
      joined_is_whole state_eq.it (whole_of h) c.orders (map placed_of qs) joined c.each
          (λ i call there. order_there c.orders call.object (let within = is.1.declared i call there in omega (arith, within, c.count))),
    )

each_has : (h : RecordedHistory) → HasWhole h → HasEach h
each_has h w object within =
    let q = part_of_whole (whole_of h) object w.0 w.1 in
    let o = order_of state_eq.it (whole_of h) object (part (whole_of h) object w.0) ((whole_of h).starts object) q.on q.legal in
    (o.0, order_by_part state_eq.it (whole_of h) object o.0 (part (whole_of h) object w.0) q o.1)

pub locality_law : LocalityLaw
locality_law = record { whole = whole_has; each = each_has }
