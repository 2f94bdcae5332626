-- What the steps of a search make of its nodes.
use Rattle.std.proofs.Common.{◌≡◌, ℕ, zero, suc, ◌+◌, ◌<◌, ◌≤◌, Bool, Some, List, [], ◌∷◌, ◌++◌, length, inl, inr, refl, sym, ◌∙◌, ap, subst, arith, append-nil, append_assoc, length-append}
use Rattle.std.specs.Prelude.{slice_get, take, IsTrue, IsFalse}
use Rattle.lin_history.specs.Problems.Problem.{Problem}
use Rattle.lin_history.specs.Problems.Precedence.{IsCompleted}
use Rattle.lin_history.specs.Problems.Configurations.{IsReachable}
use Rattle.lin_search.specs.CallSet.{with_call}
use Rattle.lin_search.specs.CallSetLemmas.{has_other, has_still, below_or_last}
use Rattle.lin_search.specs.Configuration.{Configuration}
use Rattle.lin_search.specs.NextCall.{IsNext}
use Rattle.lin_search.specs.NeedlessCalls.{LeavesStates}
use Rattle.lin_search.specs.Answer.{HasNoCompletion}
use Rattle.std.specs.Cmp.{IsEquivalence}
use Rattle.lin_history.specs.Problems.Continuations.{IsCompletion}
use Rattle.lin_search.specs.FirstCallLemmas.{next_within, completion_join}
use Rattle.lin_fewer.specs.Fewer.{IsNoWorse, FewerLaw}
use Rattle.lin_fewer.specs.Fronts.{AreCompletedTo, HasCompletedBelow, IsFirstLeft}
use Rattle.lin_fewer.specs.Nodes.{Node, NoneBegins, NoneBeginsBelow, IsCovered, IsCoveredAt, HasNoWorse, IsChild, CameFrom, IsNode, AreNodes, IsBlockTo, IsSuspended, IsSearch, IsMoreOf, IsAt, BearsBy}
use Rattle.lin_fewer.specs.Knowledge.{IsBorne}
use Rattle.lin_fewer.specs.Turns.{ComesFirst}
use Rattle.lin_search.specs.AlikeLemmas.{AreAlike}
use Rattle.lin_fewer.proofs.ReadLemmas.{get_early, get_last, get_end, get_within}
use Rattle.lin_fewer.proofs.FrontLemmas.{least_or, next_begins_within}
use Rattle.lin_fewer.proofs.NodeLemmas.{covered_no_worse, covered_wider, block_none, incomplete, none_alone, none_by_child, none_not_next}

pub get_append : {X : Type 0} (xs ys : List X) (k : ℕ) → k < length xs → slice_get xs k ≡ slice_get (xs ++ ys) k
get_append [] ys k h = absurd (omega (arith, h))
get_append (x ∷ xs) ys zero h = refl
get_append (x ∷ xs) ys (suc k) h = get_append xs ys k (omega (arith, h))

pub get_taken : {X : Type 0} (n : ℕ) (xs : List X) (k : ℕ) → k < n → slice_get (take n xs) k ≡ slice_get xs k
get_taken zero xs k h = absurd (omega (arith, h))
get_taken (suc n) [] k h = refl
get_taken (suc n) (x ∷ xs) zero h = refl
get_taken (suc n) (x ∷ xs) (suc k) h = get_taken n xs k (omega (arith, h))

pub length_taken : {X : Type 0} (n : ℕ) (xs : List X) → n ≤ length xs → length (take n xs) ≡ n
length_taken zero xs h = refl
length_taken (suc n) [] h = absurd (omega (arith, h))
length_taken (suc n) (x ∷ xs) h = ap suc (length_taken n xs (omega (arith, h)))

pub length_last : {X : Type 0} (xs : List X) (y : X) → length (xs ++ y ∷ []) ≡ length xs + 1
length_last xs y = length-append xs (y ∷ [])

-- both lists are the same below an index
abbrev pub AreSame : {State : Type 0} → List (Node State) → List (Node State) → ℕ → Type 0
AreSame old new n = (k : ℕ) → k < n → slice_get old k ≡ slice_get new k

pub at_one : {State : Type 0} (nodes : List (Node State)) (index : ℕ) (x : Node State) (P : Node State → Type 0) → slice_get nodes index ≡ Some x → P x → IsAt nodes index P
at_one nodes index x P at h y e = let q : x ≡ y = cc in subst P q h

module _ {State Op Reply : Type 0} (p : Problem State Op Reply) where
  -- ---- what is said of nodes below an index

  module _ (old new : List (Node State)) (n : ℕ) (same : AreSame old new n) where
    there : (k : ℕ) (x : Node State) → k < n → slice_get old k ≡ Some x → slice_get new k ≡ Some x
    there k x h e = sym (same k h) ∙ e

    back : (k : ℕ) (x : Node State) → k < n → slice_get new k ≡ Some x → slice_get old k ≡ Some x
    back k x h e = same k h ∙ e

    pub node_moved : (k : ℕ) (x : Node State) → k < n → IsNode p old k x → IsNode p new k x
    node_moved k x h is = record {
      reachable = is.reachable;
      first = is.first;
      base = is.base;
      own = (is.own.0, there x.base is.own.0 (let b = is.base in omega (arith, b, h)) is.own.1, is.own.2);
      came = λ some. (let c = is.came some in record {
        less = c.less;
        node = c.node;
        at = there x.from c.node (let l = c.less in omega (arith, l, h)) c.at;
        next = c.next;
        lifted = c.lifted;
        block = c.block;
      });
    }

    pub block_moved : (low high index : ℕ) → high ≤ n → index ≤ high → IsBlockTo p old low high index → IsBlockTo p new low high index
    block_moved low high index h up b = record {
      done = λ k x low_ less at c. covered_wider p old new low high high x.config c (λ j z l e. there j z (omega (arith, l, h)) e) (omega arith)
          (b.done k x low_ less (back k x (omega (arith, less, up, h)) at) c);
      none = λ k x low_ less at. b.none k x low_ less (back k x (omega (arith, less, up, h)) at);
      same = λ k x low_ less at. b.same k x low_ less (back k x (omega (arith, less, h)) at);
    }

    pub suspended_moved : (b : ℕ) (x : Node State) → b ≤ n → x.from < b → IsSuspended p old b x → IsSuspended p new b x
    suspended_moved b x h less is = record {
      node = is.node;
      at = there x.from is.node (omega (arith, h, less)) is.at;
      block = block_moved is.node.base b x.from h (omega (arith, less)) is.block;
      alone = is.alone;
      below = is.below;
    }

  -- ---- more nodes in the block of one

  grown_same : (old more new : List (Node State)) → new ≡ old ++ more → AreSame old new (length old)
  grown_same old more new e k h = get_append old more k h ∙ ap (λ (l : List (Node State)). slice_get l k) (sym e)

  grown_length : (old more new : List (Node State)) → new ≡ old ++ more → length old ≤ length new
  grown_length old more new e = let a = ap length e ∙ length-append old more in omega (arith, a)

  pub more_itself : (nodes : List (Node State)) (index : ℕ) → AreNodes p nodes → IsMoreOf p nodes nodes index
  more_itself nodes index are = record {
    grown = ([], sym (append-nil nodes));
    are = are;
    same = λ x at k z past e. absurd (let h = get_within nodes k z e in omega (arith, h, past));
  }

  module _ (old new : List (Node State)) (index : ℕ) (more : IsMoreOf p old new index) where
    pub more_same : AreSame old new (length old)
    more_same = grown_same old more.grown.0 new more.grown.1

    pub more_length : length old ≤ length new
    more_length = grown_length old more.grown.0 new more.grown.1

    pub more_within : index < length old → index < length new
    more_within h = let a = more_length in omega (arith, a, h)

    pub at_more : (P : Node State → Type 0) → index < length old → IsAt old index P → IsAt new index P
    at_more P h is x e = is x (more_same index h ∙ e)

    pub covered_more : index < length old → (c : ℕ) → IsCoveredAt p old index c → IsCoveredAt p new index c
    covered_more h c covered x e = covered_wider p old new x.base (length old) (length new) x.config c (λ k z less at. sym (more_same k less) ∙ at) more_length (covered x (more_same index h ∙ e))

  pub more_more : (xs ys zs : List (Node State)) (index : ℕ) → index < length xs → IsMoreOf p xs ys index → IsMoreOf p ys zs index → IsMoreOf p xs zs index
  more_more xs ys zs index within a b = record {
    grown = (a.grown.0 ++ b.grown.0, b.grown.1 ∙ ap (λ (l : List (Node State)). l ++ b.grown.0) a.grown.1 ∙ append_assoc xs a.grown.0 b.grown.0);
    are = b.are;
    same = λ x at k z past e. elim (least_or k (length ys)) [
      | inl less ↦ a.same x at k z past (more_same ys zs index b k less ∙ e)
      | inr more ↦ b.same x (sym (more_same xs ys index a index within) ∙ at) k z more e
    ];
  }

  -- the calls up to another one are covered too, if those between are completed
  pub covered_to : (nodes : List (Node State)) (index from to : ℕ) → ((d : ℕ) → d < from → IsCoveredAt p nodes index d) → AreCompletedTo p from to → IsAt nodes index (λ x. (c : ℕ) → IsCompleted p c → NoneBegins p x.config.lifted x.config.state c) → (d : ℕ) → d < to → IsCoveredAt p nodes index d
  covered_to nodes index from to covered between none d less = elim (least_or d from) [
    | inl early ↦ covered d early
    | inr past ↦ (λ x at l k. absurd (none x at d (between d past less (next_begins_within p x.config.lifted x.config.state d l k)) l k))
  ]

  -- ---- what a pending call adds

  pub first_still : (set : List Bool) (first c : ℕ) → c < length set → (c ≡ first → ⊥) → IsFirstLeft p set first → IsFirstLeft p (with_call set c) first
  first_still set first c within other is = record {
    within = is.within;
    completed = is.completed;
    outside = has_other set c first (λ e. other (sym e)) ∙ is.outside;
    below = λ d less done. has_still set c d within (is.below d less done);
  }

  pub below_still : (set : List Bool) (first c : ℕ) → c < length set → HasCompletedBelow p set first → HasCompletedBelow p (with_call set c) first
  below_still set first c within below d less done = has_still set c d within (below d less done)

  -- below the first completed call that is left all are lifted after a call too
  pub child_has_below : (nodes : List (Node State)) (index c : ℕ) → AreNodes p nodes → (x : Node State) → slice_get nodes index ≡ Some x → (child : Configuration State) → IsChild p x.config c child → HasCompletedBelow p child.lifted x.first
  child_has_below nodes index c are x at child is = subst (λ (a : List Bool). HasCompletedBelow p a x.first) (sym is.lifted)
      (below_still x.config.lifted x.first c (let f = (are index x at).reachable.flags in let w = next_within p x.config.state child.state c is.next.step in omega (arith, f, w)) (are index x at).first.below)

  module _ (nodes : List (Node State)) (index c : ℕ) (are : AreNodes p nodes) (x : Node State) (at : slice_get nodes index ≡ Some x) (y : Node State) (is : IsChild p x.config c y.config)
      (within : c < length p.calls) (first : IsFirstLeft p y.config.lifted y.first) (from : y.from ≡ index) (by : y.by ≡ c) (block : (y.base ≡ length nodes → ⊥) → x.base ≡ y.base) where
    abbrev pub new : List (Node State)
    new = nodes ++ y ∷ []

    x_there : slice_get new index ≡ Some x
    x_there = get_early nodes (y ∷ []) index x at

    came : CameFrom p new (length nodes) y
    came = record {
      less = (let h = get_within nodes index x at in omega (arith, h, from));
      node = x;
      at = subst (λ (i : ℕ). slice_get new i ≡ Some x) (sym from) x_there;
      next = subst (λ (d : ℕ). IsNext p x.config.lifted x.config.state d y.config.state) (sym by) is.next;
      lifted = is.lifted ∙ ap (λ (d : ℕ). with_call x.config.lifted d) (sym by);
      block = block;
    }

    pub pushed_nodes : y.base ≤ length nodes → ((z : Node State) × (slice_get new y.base ≡ Some z) × (z.base ≡ y.base)) → AreNodes p new
    pushed_nodes up own k z e = elim (least_or k (length nodes)) [
      | inl less ↦ node_moved nodes new (length nodes) (λ j h. get_append nodes (y ∷ []) j h) k z less (are k z (get_append nodes (y ∷ []) k less ∙ e))
      | inr more ↦ (
          let last : k ≡ length nodes = (let h = get_within new k z e in let n = length_last nodes y in omega (arith, h, n, more)) in
          let same : y ≡ z = (let f = get_last nodes y in let g : slice_get new (length nodes) ≡ Some z = subst (λ (i : ℕ). slice_get new i ≡ Some z) last e in cc) in
          subst (λ (i : ℕ). IsNode p new i z) (sym last) (subst (λ (w : Node State). IsNode p new (length nodes) w) same (record {
            reachable = is.reachable;
            first = first;
            base = up;
            own = own;
            came = λ some. came;
          }))
          )
    ]

    -- in the block of the node that it came from
    pub pushed_more : y.base ≡ x.base → IsMoreOf p nodes new index
    pushed_more same_base = record {
      grown = (y ∷ [], refl);
      are = pushed_nodes (let b = (are index x at).base in let h = get_within nodes index x at in omega (arith, b, h, same_base))
          (let own = (are index x at).own in (own.0, subst (λ (i : ℕ). slice_get new i ≡ Some own.0) (sym same_base) (get_early nodes (y ∷ []) x.base own.0 own.1), own.2 ∙ sym same_base));
      same = λ w at_w k z past e. elim (get_end nodes y k z e) [
        | inl early ↦ absurd (let h = get_within nodes k z early in omega (arith, h, past))
        | inr last ↦ (let f : x ≡ w = cc in ap (λ (v : Node State). v.base) (sym last) ∙ same_base ∙ ap (λ (v : Node State). v.base) f)
      ];
    }

    -- what it leads to stands behind the nodes
    pub pushed_has : IsNoWorse p y.config.lifted y.config.state y.config.lifted y.config.state → HasNoWorse p new x.base (length new) y.config
    pushed_has itself = (length nodes, y, (let b = (are index x at).base in let h = get_within nodes index x at in omega (arith, b, h)), (let n = length_last nodes y in omega (arith, n)), get_last nodes y, itself)

  -- what a pending call leads to, put behind the nodes
  pub pending_pushed : FewerLaw p → IsEquivalence p.same_state → (nodes : List (Node State)) (index c : ℕ) → AreNodes p nodes → (x : Node State) → slice_get nodes index ≡ Some x → (y : Node State) → IsChild p x.config c y.config
      → (IsCompleted p c → ⊥) → y.first ≡ x.first → y.from ≡ index → y.by ≡ c → y.base ≡ x.base → IsMoreOf p nodes (nodes ++ y ∷ []) index × IsCoveredAt p (nodes ++ y ∷ []) index c
  pending_pushed fewer equal nodes index c are x at y is pending same_first from by same_base = (
    pushed_more nodes index c are x at y is within first from by (λ other. sym same_base) same_base,
    at_one (nodes ++ y ∷ []) index x (λ (z : Node State). IsCovered p (nodes ++ y ∷ []) z.base (length (nodes ++ y ∷ [])) z.config c) (get_early nodes (y ∷ []) index x at)
        (covered_no_worse p (nodes ++ y ∷ []) x.base (length (nodes ++ y ∷ [])) x.config c fewer (are index x at).reachable.flags y.config is
        (pushed_has nodes index c are x at y is within first from by (λ other. sym same_base) (record { fewer = record { subset = λ d h. h; completed = λ d done h. h }; state = equal.refl y.config.state }))),
  )
    where
      within : c < length p.calls
      within = next_within p x.config.state y.config.state c is.next.step

      first : IsFirstLeft p y.config.lifted y.first
      first = subst (λ (n : ℕ). IsFirstLeft p y.config.lifted n) (sym same_first) (subst (λ (a : List Bool). IsFirstLeft p a x.first) (sym is.lifted)
          (first_still x.config.lifted x.first c (let f = (are index x at).reachable.flags in let w = within in omega (arith, f, w)) (λ e. pending (subst (λ (n : ℕ). IsCompleted p n) (sym e) (are index x at).first.completed)) (are index x at).first))

  -- ---- steps

  module _ (nodes : List (Node State)) (base index next : ℕ) (is : IsSearch p nodes base index next) where
    pub at_base : (x : Node State) → index < length nodes → slice_get nodes index ≡ Some x → x.base ≡ base
    at_base x within at = is.block.same index x is.up within at

    -- the call that was tried begins nothing
    pub search_other : (call : ℕ) → IsAt nodes index (λ x. NoneBeginsBelow p x.config call) → IsAt nodes index (λ x. NoneBegins p x.config.lifted x.config.state call) → IsSearch p nodes base index (call + 1)
    search_other call before none = record {
      are = is.are;
      suspended = is.suspended;
      block = is.block;
      own = is.own;
      up = is.up;
      within = is.within;
      below = λ x at c less done. elim (below_or_last c call less) [
        | inl early ↦ before x at c early done
        | inr same ↦ subst (λ (d : ℕ). NoneBegins p x.config.lifted x.config.state d) (sym same) (none x at)
      ];
    }

    came_at : (x : Node State) → slice_get nodes index ≡ Some x → (x.base ≡ index → ⊥) → CameFrom p nodes index x
    came_at x at other = (is.are index x at).came (let u = (is.are index x at).base in elim (least_or 0 index) [ inl h ↦ h | inr h ↦ absurd (other (omega (arith, u, h))) ])

    pub from_within : (x : Node State) → slice_get nodes index ≡ Some x → (x.base ≡ index → ⊥) → x.from < length nodes
    from_within x at other = let l = (came_at x at other).less in let h = get_within nodes index x at in omega (arith, l, h)

    pub by_within : (x : Node State) → slice_get nodes index ≡ Some x → (x.base ≡ index → ⊥) → x.by < length p.calls
    by_within x at other = let came = came_at x at other in next_within p came.node.config.state x.config.state x.by came.next.step

    -- in a block a completed call that may as well come first was tried before the pending one
    pub late_none : (x z : Node State) (c : ℕ) → slice_get nodes index ≡ Some x → (x.base ≡ index → ⊥) → slice_get nodes x.from ≡ Some z → ComesFirst p z.config x.by c → IsCompleted p c → NoneBegins p x.config.lifted x.config.state c
    late_none x z c at other from first done l k =
        let own : x.base ≡ base = is.block.same index x is.up (get_within nodes index x at) at in
        let came : CameFrom p nodes index x = came_at x at other in
        let node_is : came.node ≡ z = (let e = came.at in cc) in
        let z_base : z.base ≡ base = ap (λ (v : Node State). v.base) (sym node_is) ∙ came.block other ∙ own in
        let low : base ≤ x.from = (let u = (is.are x.from z from).base in omega (arith, u, z_base)) in
        let next : IsNext p z.config.lifted z.config.state x.by x.config.state = subst (λ (v : Node State). IsNext p v.config.lifted v.config.state x.by x.config.state) node_is came.next in
        let lifted : x.config.lifted ≡ with_call z.config.lifted x.by = subst (λ (v : Node State). x.config.lifted ≡ with_call v.config.lifted x.by) node_is came.lifted in
        let both = completion_join p z.config.lifted z.config.state x.by (c ∷ l) x.config.state (is.are x.from z from).reachable.flags next (subst (λ (a : List Bool). IsCompletion p a x.config.state (c ∷ l)) lifted k) in
        let turned = first l both in
        is.block.none x.from z low came.less from c done turned.0 turned.1

  -- every call is covered at the node
  pub block_next : (nodes : List (Node State)) (base index : ℕ) → IsBlockTo p nodes base (length nodes) index → base ≤ index → (x : Node State) → slice_get nodes index ≡ Some x → ((c : ℕ) → IsCovered p nodes base (length nodes) x.config c) → ((c : ℕ) → IsCompleted p c → NoneBegins p x.config.lifted x.config.state c) → IsBlockTo p nodes base (length nodes) (index + 1)
  block_next nodes base index block up x at covered none = record {
    done = λ k z low less e c. elim (below_or_last k index less) [
      | inl early ↦ block.done k z low early e c
      | inr same ↦ (
          let f : slice_get nodes index ≡ Some z = subst (λ (i : ℕ). slice_get nodes i ≡ Some z) same e in
          let q : x ≡ z = cc in
          subst (λ (w : Node State). IsCovered p nodes base (length nodes) w.config c) q (covered c)
          )
    ];
    none = λ k z low less e. elim (below_or_last k index less) [
      | inl early ↦ block.none k z low early e
      | inr same ↦ (
          let f : slice_get nodes index ≡ Some z = subst (λ (i : ℕ). slice_get nodes i ≡ Some z) same e in
          let q : x ≡ z = cc in
          subst (λ (w : Node State). (c : ℕ) → IsCompleted p c → NoneBegins p w.config.lifted w.config.state c) q none
          )
    ];
    same = block.same;
  }

  pub search_next : (nodes : List (Node State)) (base index next : ℕ) → IsSearch p nodes base index next → index < length nodes → (x : Node State) → slice_get nodes index ≡ Some x → ((c : ℕ) → IsCovered p nodes base (length nodes) x.config c) → ((c : ℕ) → IsCompleted p c → NoneBegins p x.config.lifted x.config.state c) → IsSearch p nodes base (index + 1) 0
  search_next nodes base index next is within x at covered none = record {
    are = is.are;
    suspended = is.suspended;
    block = block_next nodes base index is.block is.up x at covered none;
    own = is.own;
    up = (let u = is.up in omega (arith, u));
    within = omega (arith, within);
    below = λ y e c less done. absurd (omega (arith, less));
  }

  -- more nodes of the block
  pub search_more : (old new : List (Node State)) (base index next : ℕ) → IsSearch p old base index next → index < length old → IsMoreOf p old new index → IsSearch p new base index next
  search_more old new base index next is within more = record {
    are = more.are;
    suspended = λ b x some e own. elim (least_or b (length old)) [
      | inl less ↦ (
          let at : slice_get old b ≡ Some x = same b less ∙ e in
          suspended_moved old new (length old) same b x (omega (arith, less)) ((is.are b x at).came some).less (is.suspended b x some at own)
          )
      | inr past ↦ absurd (
          let f = more.same (at_index.0) at_index.1 b x past e in
          let g = at_base old base index next is at_index.0 within at_index.1 in
          let u = is.up in
          omega (arith, f, g, own, past, u, within)
          )
    ];
    block = record {
      done = λ k x low less e c. covered_wider p old new base (length old) (length new) x.config c (λ j z l at. sym (same j l) ∙ at) (more_length old new index more)
          (is.block.done k x low less (same k (omega (arith, less, within)) ∙ e) c);
      none = λ k x low less e. is.block.none k x low less (same k (omega (arith, less, within)) ∙ e);
      same = λ k x low less e. elim (least_or k (length old)) [
        | inl early ↦ is.block.same k x low early (same k early ∙ e)
        | inr past ↦ more.same at_index.0 at_index.1 k x past e ∙ at_base old base index next is at_index.0 within at_index.1
      ];
    };
    own = (is.own.0, sym (same base (let u = is.up in omega (arith, u, within))) ∙ is.own.1, is.own.2);
    up = is.up;
    within = (let h = more_length old new index more in omega (arith, h, within));
    below = λ x e. is.below x (same index within ∙ e);
  }
    where
      same : AreSame old new (length old)
      same = more_same old new index more

      at_index : (x : Node State) × (slice_get old index ≡ Some x)
      at_index = there_is old index within
        where
          there_is : (xs : List (Node State)) (k : ℕ) → k < length xs → (x : Node State) × (slice_get xs k ≡ Some x)
          there_is [] k h = absurd (omega (arith, h))
          there_is (x ∷ xs) zero h = (x, refl)
          there_is (x ∷ xs) (suc k) h = there_is xs k (omega (arith, h))

  -- a new block
  pub search_entered : (nodes : List (Node State)) (base index next : ℕ) → IsSearch p nodes base index next → (x y : Node State) → slice_get nodes index ≡ Some x → AreNodes p (nodes ++ y ∷ []) → y.from ≡ index → y.base ≡ length nodes
      → (IsTrue y.alone → LeavesStates p y.by) → (IsFalse y.alone → NoneBeginsBelow p x.config y.by) → IsSearch p (nodes ++ y ∷ []) (length nodes) (length nodes) 0
  search_entered nodes base index next is x y at are from own alone below = record {
    are = are;
    suspended = λ b z some e base_. elim (get_end nodes y b z e) [
      | inl early ↦ suspended_moved nodes (nodes ++ y ∷ []) (length nodes) same b z (let h = get_within nodes b z early in omega (arith, h)) ((is.are b z early).came some).less (is.suspended b z some early base_)
      | inr last ↦ (
          let b_is : b ≡ length nodes = sym base_ ∙ ap (λ (v : Node State). v.base) (sym last) ∙ own in
          subst (λ (i : ℕ). IsSuspended p (nodes ++ y ∷ []) i z) (sym b_is) (subst (λ (v : Node State). IsSuspended p (nodes ++ y ∷ []) (length nodes) v) last suspended)
          )
    ];
    block = record {
      done = λ k z low less e c. absurd (omega (arith, low, less));
      none = λ k z low less e. absurd (omega (arith, low, less));
      same = λ k z low less e. elim (get_end nodes y k z e) [
        | inl early ↦ absurd (let h = get_within nodes k z early in omega (arith, h, low))
        | inr last ↦ ap (λ (v : Node State). v.base) (sym last) ∙ own
      ];
    };
    own = (y, get_last nodes y, own);
    up = omega arith;
    within = (let n = length_last nodes y in omega (arith, n));
    below = λ z e c less done. absurd (omega (arith, less));
  }
    where
      same : AreSame nodes (nodes ++ y ∷ []) (length nodes)
      same k h = get_append nodes (y ∷ []) k h

      within : index < length nodes
      within = get_within nodes index x at

      x_base : x.base ≡ base
      x_base = is.block.same index x is.up within at

      suspended : IsSuspended p (nodes ++ y ∷ []) (length nodes) y
      suspended = record {
        node = x;
        at = subst (λ (i : ℕ). slice_get (nodes ++ y ∷ []) i ≡ Some x) (sym from) (get_early nodes (y ∷ []) index x at);
        block = subst (λ (i : ℕ). IsBlockTo p (nodes ++ y ∷ []) x.base (length nodes) i) (sym from) (subst (λ (i : ℕ). IsBlockTo p (nodes ++ y ∷ []) i (length nodes) index) (sym x_base)
            (block_moved nodes (nodes ++ y ∷ []) (length nodes) same base (length nodes) index (omega arith) (omega (arith, within)) is.block));
        alone = alone;
        below = below;
      }

  -- a block that is closed has no completion
  pub closed_none : (nodes : List (Node State)) (base next : ℕ) → IsSearch p nodes base (length nodes) next → (x : Node State) → slice_get nodes base ≡ Some x → HasNoCompletion p x.config.lifted x.config.state
  closed_none nodes base next is x at = block_none p nodes base (length nodes) (λ k z low less e. incomplete p z.config.lifted z.first (is.are k z e).first) (λ k z low less e c. is.block.done k z low less e c) base x (omega arith) (get_within nodes base x at) at

  -- back to where its base came from
  module _ (nodes : List (Node State)) (base next : ℕ) (is : IsSearch p nodes base (length nodes) next) (x : Node State) (at : slice_get nodes base ≡ Some x) (some : 0 < base) (y : Node State) (at_y : slice_get nodes x.from ≡ Some y) where
    abbrev pub rest : List (Node State)
    rest = take base nodes

    within_base : base < length nodes
    within_base = get_within nodes base x at

    rest_length : length rest ≡ base
    rest_length = length_taken base nodes (let h = within_base in omega (arith, h))

    same_rest : AreSame nodes rest base
    same_rest k h = sym (get_taken base nodes k h)

    base_own : x.base ≡ base
    base_own = (let z = is.own in let e : z.0 ≡ x = (let f = z.1 in cc) in ap (λ (v : Node State). v.base) (sym e) ∙ z.2)

    base_suspended : IsSuspended p nodes base x
    base_suspended = is.suspended base x some at base_own

    base_came : CameFrom p nodes base x
    base_came = (is.are base x at).came some

    y_is : base_suspended.node ≡ y
    y_is = (let e = base_suspended.at in cc)

    block_y : IsBlockTo p nodes y.base base x.from
    block_y = subst (λ (v : Node State). IsBlockTo p nodes v.base base x.from) y_is base_suspended.block

    block_rest : IsBlockTo p rest y.base (length rest) x.from
    block_rest = subst (λ (n : ℕ). IsBlockTo p rest y.base n x.from) (sym rest_length) (block_moved nodes rest base same_rest y.base base x.from (omega arith) (let l = base_came.less in omega (arith, l)) block_y)

    rest_within : (k : ℕ) (z : Node State) → slice_get rest k ≡ Some z → k < base
    rest_within k z e = let h = get_within rest k z e in let n = rest_length in omega (arith, h, n)

    y_rest : slice_get rest x.from ≡ Some y
    y_rest = sym (same_rest x.from base_came.less) ∙ at_y

    -- below which call nothing begins a completion there
    pub search_back : (to : ℕ) → IsAt rest x.from (λ z. NoneBeginsBelow p z.config to) → IsSearch p rest y.base x.from to
    search_back to below = record {
      are = λ k z e. node_moved nodes rest base same_rest k z (rest_within k z e) (is.are k z (same_rest k (rest_within k z e) ∙ e));
      suspended = λ b z some_ e own_. (let less = rest_within b z e in let early = same_rest b less ∙ e in suspended_moved nodes rest base same_rest b z (omega (arith, less)) ((is.are b z early).came some_).less (is.suspended b z some_ early own_));
      block = block_rest;
      own = (let o = (is.are x.from y at_y).own in let b = (is.are x.from y at_y).base in let l = base_came.less in (o.0, sym (same_rest y.base (omega (arith, b, l))) ∙ o.1, o.2));
      up = (is.are x.from y at_y).base;
      within = (let l = base_came.less in let n = rest_length in omega (arith, l, n));
      below = below;
    }

    pub rest_first : slice_get rest 0 ≡ slice_get nodes 0
    rest_first = sym (same_rest 0 some)

  -- ---- what the verdict on a child makes of the search

  module _ (alike : AreAlike p p) (nodes : List (Node State)) (base index next call : ℕ) (is : IsSearch p nodes base index next) (within : index < length nodes) (x : Node State) (at_x : slice_get nodes index ≡ Some x) where
    pub passed_alone : (child : Configuration State) → IsChild p x.config call child → LeavesStates p call → HasNoCompletion p child.lifted child.state → IsSearch p nodes base (index + 1) 0
    passed_alone child of leaves none = search_next nodes base index next is within x at_x (λ c l k. absurd (none_alone p x.config call (is.are index x at_x).reachable.flags alike leaves child of none (c ∷ l) k))
        (λ c done l k. none_alone p x.config call (is.are index x at_x).reachable.flags alike leaves child of none (c ∷ l) k)

    pub passed_other : (child : Configuration State) → IsChild p x.config call child → IsAt nodes index (λ z. NoneBeginsBelow p z.config call) → HasNoCompletion p child.lifted child.state → IsSearch p nodes base index (call + 1)
    passed_other child of below none = search_other nodes base index next is call below (at_one nodes index x (λ (z : Node State). NoneBegins p z.config.lifted z.config.state call) at_x (none_by_child p x.config call (is.are index x at_x).reachable.flags child of none))

    pub passed_by : ((t : State) → IsNext p x.config.lifted x.config.state call t → ⊥) → IsAt nodes index (λ z. NoneBeginsBelow p z.config call) → IsSearch p nodes base index (call + 1)
    passed_by none below = search_other nodes base index next is call below (at_one nodes index x (λ (z : Node State). NoneBegins p z.config.lifted z.config.state call) at_x (none_not_next p x.config call (is.are index x at_x).reachable.flags none))

    -- the child is open: a new block
    pub entered : (y : Node State) → IsChild p x.config call y.config → IsFirstLeft p y.config.lifted y.first → y.from ≡ index → y.by ≡ call → y.base ≡ length nodes
        → (IsTrue y.alone → LeavesStates p call) → (IsFalse y.alone → IsAt nodes index (λ z. NoneBeginsBelow p z.config call)) → IsSearch p (nodes ++ y ∷ []) (length nodes) (length nodes) 0
    entered y of first from by own alone below = search_entered nodes base index next is x y at_x
        (pushed_nodes nodes index call is.are x at_x y of (next_within p x.config.state y.config.state call of.next.step) first from by (λ other. absurd (other own)) (let e = own in omega (arith, e)) (y, subst (λ (i : ℕ). slice_get (nodes ++ y ∷ []) i ≡ Some y) (sym own) (get_last nodes y), refl))
        from own (λ h. subst (λ (c : ℕ). LeavesStates p c) (sym by) (alone h)) (λ h. subst (λ (c : ℕ). NoneBeginsBelow p x.config c) (sym by) (below h x at_x))

    pub child_below : (child : Configuration State) → IsChild p x.config call child → HasCompletedBelow p child.lifted x.first
    child_below child of = subst (λ (a : List Bool). HasCompletedBelow p a x.first) (sym of.lifted) (below_still x.config.lifted x.first call (let f = (is.are index x at_x).reachable.flags in let w = next_within p x.config.state child.state call of.next.step in omega (arith, f, w)) (is.are index x at_x).first.below)

    pub bears_at : (child : Configuration State) → IsChild p x.config call child → (borne : List Bool) → IsBorne p child.lifted child.state borne → IsAt nodes index (λ z. BearsBy p z.config call borne)
    bears_at child of borne b = at_one nodes index x (λ (z : Node State). BearsBy p z.config call borne) at_x (record { state = child.state; next = of.next; bears = subst (λ (a : List Bool). IsBorne p a child.state borne) of.lifted b })

  -- after a block that is closed: its base's call begins nothing
  module _ (alike : AreAlike p p) (nodes : List (Node State)) (base next : ℕ) (is : IsSearch p nodes base (length nodes) next) (x : Node State) (at : slice_get nodes base ≡ Some x) (some : 0 < base) (y : Node State) (at_y : slice_get nodes x.from ≡ Some y) where
    of_base : IsChild p y.config x.by x.config
    of_base = (let c = (is.are base x at).came some in let e : c.node ≡ y = (let f = c.at in cc) in record {
      lifted = subst (λ (v : Node State). x.config.lifted ≡ with_call v.config.lifted x.by) e c.lifted;
      next = subst (λ (v : Node State). IsNext p v.config.lifted v.config.state x.by x.config.state) e c.next;
      reachable = (is.are base x at).reachable;
    })

    suspended_at : IsSuspended p nodes base x
    suspended_at = is.suspended base x some at (let z = is.own in let e : z.0 ≡ x = (let f = z.1 in cc) in ap (λ (v : Node State). v.base) (sym e) ∙ z.2)

    y_same : suspended_at.node ≡ y
    y_same = (let e = suspended_at.at in cc)

    none : HasNoCompletion p x.config.lifted x.config.state
    none = closed_none nodes base next is x at

    y_at_rest : slice_get (take base nodes) x.from ≡ Some y
    y_at_rest = get_taken base nodes x.from ((is.are base x at).came some).less ∙ at_y

    pub closed_alone : IsTrue x.alone → IsSearch p (take base nodes) y.base (x.from + 1) 0
    closed_alone h = passed_alone alike (take base nodes) y.base x.from 0 x.by (search_back nodes base next is x at some y at_y 0 (λ z e c less done. absurd (omega (arith, less))))
        (get_within (take base nodes) x.from y y_at_rest) y y_at_rest x.config of_base (suspended_at.alone h) none

    below_y : IsFalse x.alone → IsAt (take base nodes) x.from (λ z. NoneBeginsBelow p z.config x.by)
    below_y h = at_one (take base nodes) x.from y (λ (z : Node State). NoneBeginsBelow p z.config x.by) y_at_rest (subst (λ (v : Node State). NoneBeginsBelow p v.config x.by) y_same (suspended_at.below h))

    pub closed_other : IsFalse x.alone → IsSearch p (take base nodes) y.base x.from (x.by + 1)
    closed_other h = passed_other alike (take base nodes) y.base x.from 0 x.by (search_back nodes base next is x at some y at_y 0 (λ z e c less done. absurd (omega (arith, less))))
        (get_within (take base nodes) x.from y y_at_rest) y y_at_rest x.config of_base (below_y h) none

  -- the first node
  pub search_first : (y : Node State) → IsReachable p y.config.lifted y.config.state → IsFirstLeft p y.config.lifted y.first → y.base ≡ 0 → IsSearch p (y ∷ []) 0 0 0
  search_first y reachable first own = record {
    are = λ k x e. elim (get_end [] y k x e) [
      | inl early ↦ absurd (cc)
      | inr last ↦ (let k_is : k ≡ 0 = (let h = get_within (y ∷ []) k x e in omega (arith, h)) in subst (λ (i : ℕ). IsNode p (y ∷ []) i x) (sym k_is) (subst (λ (v : Node State). IsNode p (y ∷ []) 0 v) last (record {
        reachable = reachable;
        first = first;
        base = omega (arith, own);
        own = (y, subst (λ (i : ℕ). slice_get (y ∷ []) i ≡ Some y) (sym own) refl, refl);
        came = λ h. absurd (omega (arith, h));
      })))
    ];
    suspended = λ b x some e own_. absurd (let h = get_within (y ∷ []) b x e in omega (arith, h, some));
    block = record {
      done = λ k x low less e c. absurd (omega (arith, less));
      none = λ k x low less e. absurd (omega (arith, less));
      same = λ k x low less e. elim (get_end [] y k x e) [ inl early ↦ absurd (cc) | inr last ↦ ap (λ (v : Node State). v.base) (sym last) ∙ own ];
    };
    own = (y, refl, own);
    up = omega arith;
    within = omega arith;
    below = λ x e c less done. absurd (omega (arith, less));
  }

  -- what is borne by a node is borne by the one that it came from, and the call
  pub came_bears : (nodes : List (Node State)) (k : ℕ) (x : Node State) → CameFrom p nodes k x → (from by : ℕ) (y : Node State) → slice_get nodes from ≡ Some y → from ≡ x.from → by ≡ x.by → (borne : List Bool) → IsBorne p x.config.lifted x.config.state borne → BearsBy p y.config by borne
  came_bears nodes k x came from by y at e f borne b =
      let g : slice_get nodes x.from ≡ Some y = subst (λ (i : ℕ). slice_get nodes i ≡ Some y) e at in
      let same : came.node ≡ y = (let h = came.at in cc) in
      subst (λ (c : ℕ). BearsBy p y.config c borne) (sym f) (subst (λ (v : Node State). BearsBy p v.config x.by borne) same (record {
        state = x.config.state;
        next = came.next;
        bears = subst (λ (a : List Bool). IsBorne p a x.config.state borne) came.lifted b;
      }))
