-- Calls that one and the same call owns: between it and each of them no call of a linearization changes the state. So the calls of two such owners stand apart.
use Rattle.std.proofs.Common.{◌≡◌, ◌≢◌, ℕ, ◌<◌, Bool, true, false, true≢false, Option, Some, None, List, [], ◌∷◌, ◌++◌, length, ◌⊎◌, inl, inr, refl, sym, ◌∙◌, ap, subst, append_assoc, append-nil, arith}
use Rattle.std.specs.Prelude.{slice_get, IsTrue}
use Rattle.std.proofs.lemmas.Option.{slice_get_within}
use Rattle.lin_history.specs.declared.problems.problem.ProblemCall.{ProblemCall}
use Rattle.lin_history.specs.Problems.Problem.{Problem}
use Rattle.lin_history.specs.Problems.Lists.{In, IsDistinct}
use Rattle.lin_history.specs.Problems.ListLemmas.{apart, has_none, in_early, in_late, in_either, in_place}
use Rattle.lin_history.specs.Problems.LegalLists.{next, Legal}
use Rattle.lin_history.specs.Problems.Precedence.{Before, IsCompleted}
use Rattle.lin_history.specs.Problems.Linearizations.{IsRun, IsLinearization}
use Rattle.lin_ahead.specs.Values.Owners.{CanFollow, Leaves, AllLeave, LastChange, IsOwnedBy}
use Rattle.lin_ahead.specs.Values.Stranded.{Reached}
use Rattle.lin_ahead.proofs.first.NeedsLemmas.{stands}

-- ---- places in a list

-- a call of a list of distinct calls has one place in it
pub one_place : (e f : List ℕ) (b : ℕ) (k m : List ℕ) → IsDistinct (e ++ b ∷ k) → e ++ b ∷ k ≡ f ++ b ∷ m → e ≡ f
one_place [] [] b k m d eq = refl
one_place [] (x ∷ f) b k m d eq = absurd (d.0 (let tail : k ≡ f ++ b ∷ m = cc in subst (λ (l : List ℕ). In b l) (sym tail) (in_late b f (b ∷ m) (inl refl))))
one_place (x ∷ e) [] b k m d eq = absurd (d.0 (let same : b ≡ x = cc in subst (λ (n : ℕ). In n (e ++ b ∷ k)) same (in_late b e (b ∷ k) (inl refl))))
one_place (x ∷ e) (y ∷ f) b k m d eq =
    let same : x ≡ y = cc in
    let tail : e ++ b ∷ k ≡ f ++ b ∷ m = cc in
    let rest : e ≡ f = one_place e f b k m d.1 tail in
    cc

-- call a stands in front of call b in the list
abbrev pub Front : List ℕ → ℕ → ℕ → Type 0
Front l a b = (early : List ℕ) × (late : List ℕ) × (l ≡ early ++ b ∷ late) × In a early

module _ {l : List ℕ} (distinct : IsDistinct l) where
  same_place : (e f : List ℕ) (b : ℕ) (k m : List ℕ) → l ≡ e ++ b ∷ k → l ≡ f ++ b ∷ m → e ≡ f
  same_place e f b k m one two = one_place e f b k m (subst IsDistinct one distinct) (sym one ∙ two)

  pub front_here : (a b : ℕ) → Front l a b → (early late : List ℕ) → l ≡ early ++ b ∷ late → In a early
  front_here a b (e, k, eq, there) early late here = subst (λ (m : List ℕ). In a m) (same_place e early b k late eq here) there

  in_front : (a b : ℕ) → Front l a b → In a l
  in_front a b (e, k, eq, there) = subst (λ (m : List ℕ). In a m) (sym eq) (in_early a e (b ∷ k) there)

  pub front_trans : (a b c : ℕ) → Front l a b → Front l b c → Front l a c
  front_trans a b c one (e, k, eq, there) =
      let at = in_place b e there in
      let here : l ≡ at.0 ++ b ∷ (at.1 ++ c ∷ k) = eq ∙ ap (λ (m : List ℕ). m ++ c ∷ k) at.2 ∙ append_assoc at.0 (b ∷ at.1) (c ∷ k) in
      (e, k, eq, subst (λ (m : List ℕ). In a m) (sym at.2) (in_early a at.0 (b ∷ at.1) (front_here a b one at.0 (at.1 ++ c ∷ k) here)))

  front_itself : (a : ℕ) → Front l a a → ⊥
  front_itself a (e, k, eq, there) = apart a e (a ∷ k) (subst IsDistinct eq distinct) there (inl refl)

  pub front_both : (a b : ℕ) → Front l a b → Front l b a → ⊥
  front_both a b one two = front_itself a (front_trans a b a one two)

  -- two calls of the list stand in one order or the other
  pub front_either : (a b : ℕ) → a ≢ b → In a l → In b l → Front l a b ⊎ Front l b a
  front_either a b other there here =
      let at = in_place b l here in
      elim (in_either a at.0 (b ∷ at.1) (subst (λ (m : List ℕ). In a m) at.2 there)) [
        | inl q ↦ inl (at.0, at.1, at.2, q)
        | inr (inl e) ↦ absurd (other e)
        | inr (inr q) ↦ (
            let k = in_place a at.1 q in
            let eq : l ≡ (at.0 ++ b ∷ k.0) ++ a ∷ k.1 = at.2 ∙ ap (λ (m : List ℕ). at.0 ++ b ∷ m) k.2 ∙ sym (append_assoc at.0 (b ∷ k.0) (a ∷ k.1)) in
            inr (at.0 ++ b ∷ k.0, k.1, eq, in_late b at.0 (b ∷ k.0) (inl refl)))
      ]

module _ {State Op Reply : Type 0} (p : Problem State Op Reply) where
  -- what returned before a call of a run was called stands in front of it
  pub before_front : (l : List ℕ) → IsRun p l → (a b : ℕ) → Before p a b → (early late : List ℕ) → l ≡ early ++ b ∷ late → In a early
  before_front l run a b before early late eq = elim (run.ordered early b late eq a before) [
    | inl q ↦ absurd (let x = has_none (length p.calls) a in cc)
    | inr q ↦ q
  ]

  split_legal : (xs ys : List ℕ) (s u : State) → Legal p s (xs ++ ys) u → (t : State) × Legal p s xs t × Legal p t ys u
  split_legal [] ys s u k = (s, refl, k)
  split_legal (x ∷ xs) ys s u k = let r = split_legal xs ys k.0 u k.2 in (r.0, (k.0, k.1, r.1), r.2)

  one_end : (l : List ℕ) (s t u : State) → Legal p s l t → Legal p s l u → t ≡ u
  one_end [] s t u a b = sym a ∙ b
  one_end (c ∷ cs) s t u a b = one_end cs a.0 t u a.2 (subst (λ (m : State). Legal p m cs u) (let f = a.1 in let g = b.1 in cc) b.2)

  -- ---- calls that change the state, and those that found what they left

  -- A call of the list changed the state.
  pub record Changed (l : List ℕ) (w : ℕ) : Type 0 where
    pub front : List ℕ
    pub behind : List ℕ
    pub from : State
    pub to : State
    pub place : l ≡ front ++ w ∷ behind
    pub before : Legal p p.start front from
    pub step : next p from w ≡ Some to
    pub changed : p.same_state to from ≡ false

  -- Call w was the last to change the state in front of call y.
  pub record Owned (l : List ℕ) (w y : ℕ) : Type 0 where
    pub front : List ℕ
    pub since : List ℕ
    pub late : List ℕ
    pub from : State
    pub to : State
    pub place : l ≡ (front ++ w ∷ since) ++ y ∷ late
    pub before : Legal p p.start front from
    pub step : next p from w ≡ Some to
    pub changed : p.same_state to from ≡ false
    pub kept : AllLeave p to since

  -- The call is of the cluster of w: it is w, or w owns it.
  abbrev pub Member : List ℕ → ℕ → ℕ → Type 0
  Member l w y = (y ≡ w) ⊎ Owned l w y

  pub owned_at : (l early late calls : List ℕ) (y : ℕ) → l ≡ early ++ y ∷ late → (k : LastChange p calls early) → Owned l k.owner y
  owned_at l early late calls y eq k = record {
    front = k.front;
    since = k.since;
    late = late;
    from = k.from;
    to = k.to;
    place = eq ∙ ap (λ (m : List ℕ). m ++ y ∷ late) k.place;
    before = k.before;
    step = k.step;
    changed = k.changed;
    kept = k.kept;
  }

  pub owned_here : (l early late : List ℕ) (w y : ℕ) → l ≡ early ++ y ∷ late → LastChange p (w ∷ []) early → Owned l w y
  owned_here l early late w y eq k = subst (λ (n : ℕ). Owned l n y) (elim k.one_of [ inl e ↦ e | inr q ↦ absurd q ]) (owned_at l early late (w ∷ []) y eq k)

  -- a completed call with one owner, which stands in each linearization
  pub owned_in : (l : List ℕ) → IsLinearization p l → (w y : ℕ) → IsOwnedBy p (w ∷ []) false y → IsCompleted p y → Owned l w y
  owned_in l whole w y owned done =
      let at = stands l y whole done in
      elim (owned l at.0 at.1 whole at.2) [
        | inl k ↦ owned_here l at.0 at.1 w y at.2 k
        | inr q ↦ absurd (true≢false (sym q.0))
      ]

  pub owner_changed : (l : List ℕ) (w y : ℕ) → Owned l w y → Changed l w
  owner_changed l w y k = record {
    front = k.front;
    behind = k.since ++ y ∷ k.late;
    from = k.from;
    to = k.to;
    place = k.place ∙ append_assoc k.front (w ∷ k.since) (y ∷ k.late);
    before = k.before;
    step = k.step;
    changed = k.changed;
  }

  pub owner_front : (l : List ℕ) (w y : ℕ) → Owned l w y → Front l w y
  owner_front l w y k = (k.front ++ w ∷ k.since, k.late, k.place, in_late w k.front (w ∷ k.since) (inl refl))

  -- ---- between a call and its owner

  -- Call x never leaves a state as it is in which call y can follow.
  abbrev pub Parts : ℕ → ℕ → Type 0
  Parts x y = (s : State) → Reached p s → CanFollow p s y → Leaves p s x → ⊥

  legal_last : (l : List ℕ) (s t u : State) (c : ℕ) → Legal p s l t → next p t c ≡ Some u → Legal p s (l ++ c ∷ []) u
  legal_last [] s t u c k step = (u, subst (λ (m : State). next p m c ≡ Some u) (sym k) step, refl)
  legal_last (x ∷ xs) s t u c k step = (k.0, k.1, legal_last xs k.0 t u c k.2 step)

  owner_reached : (l : List ℕ) (w y : ℕ) (k : Owned l w y) → Reached p k.to
  owner_reached l w y k = (k.front ++ w ∷ [], legal_last k.front p.start k.from k.to w k.before k.step)

  -- a call that changed the state did not leave it
  changed_left : (l : List ℕ) (c : ℕ) (k : Changed l c) (s : State) → k.from ≡ s → Leaves p s c → ⊥
  changed_left l c k s state left =
      let here : Leaves p k.from c = subst (λ (m : State). Leaves p m c) (sym state) left in
      let same : here.0 ≡ k.to = (let f = k.step in let g = here.1 in cc) in
      true≢false (sym (subst (λ (m : State). p.same_state m k.from ≡ true) same here.2) ∙ k.changed)

  module _ (exact : (a b : State) → p.same_state a b ≡ true → a ≡ b) where
    -- calls that leave a state leave it, all of them
    left_same : (xs : List ℕ) (s t : State) → Legal p s xs t → AllLeave p s xs → t ≡ s
    left_same [] s t k all = sym k
    left_same (x ∷ xs) s t k all =
        let here = all x (inl refl) in
        let same : k.0 ≡ s = (let f = k.1 in let g = here.1 in let e : k.0 ≡ here.0 = cc in e ∙ exact here.0 s here.2) in
        left_same xs s t (subst (λ (m : State). Legal p m xs t) same k.2) (λ c i. all c (inr i))

    -- the state at a place between a call and its owner is the one that the owner led to
    state_since : (l : List ℕ) → IsRun p l → (w y : ℕ) (k : Owned l w y) (xs ys : List ℕ) → k.since ≡ xs ++ ys → (s : State) → Legal p p.start (k.front ++ w ∷ xs) s → s ≡ k.to
    state_since l run w y k xs ys eq s legal =
        let two = split_legal k.front (w ∷ xs) p.start s legal in
        let from : two.0 ≡ k.from = one_end k.front p.start two.0 k.from two.1 k.before in
        let goes : Legal p k.from (w ∷ xs) s = subst (λ (m : State). Legal p m (w ∷ xs) s) from two.2 in
        let to : goes.0 ≡ k.to = (let f = goes.1 in let g = k.step in cc) in
        left_same xs k.to s (subst (λ (m : State). Legal p m xs s) to goes.2) (λ c i. k.kept c (subst (λ (m : List ℕ). In c m) (sym eq) (in_early c xs ys i)))

    -- no call between a call and its owner changed the state
    pub none_changed : (l : List ℕ) → IsRun p l → (u y : ℕ) (k : Owned l u y) (w : ℕ) → Changed l w → In w k.since → ⊥
    none_changed l run u y k w c there =
        let at = in_place w k.since there in
        let here : l ≡ (k.front ++ u ∷ at.0) ++ w ∷ (at.1 ++ y ∷ k.late) =
        k.place
        ∙ ap (λ (m : List ℕ). (k.front ++ u ∷ m) ++ y ∷ k.late) at.2
        ∙ ap (λ (m : List ℕ). m ++ y ∷ k.late) (sym (append_assoc k.front (u ∷ at.0) (w ∷ at.1)))
        ∙ append_assoc (k.front ++ u ∷ at.0) (w ∷ at.1) (y ∷ k.late) in
        let place : c.front ≡ k.front ++ u ∷ at.0 = same_place run.distinct c.front (k.front ++ u ∷ at.0) w c.behind (at.1 ++ y ∷ k.late) c.place here in
        let state : c.from ≡ k.to = state_since l run u y k at.0 (w ∷ at.1) at.2 c.from (subst (λ (m : List ℕ). Legal p p.start m c.from) place c.before) in
        changed_left l w c k.to state (k.kept w there)

    -- nor in front of one in front of which all calls leave the state of the start
    pub start_unchanged : (l : List ℕ) → IsRun p l → (early late : List ℕ) → l ≡ early ++ late → AllLeave p p.start early → (c : ℕ) → Changed l c → In c early → ⊥
    start_unchanged l run early late eq all c k there =
        let at = in_place c early there in
        let here : l ≡ at.0 ++ c ∷ (at.1 ++ late) = eq ∙ ap (λ (m : List ℕ). m ++ late) at.2 ∙ append_assoc at.0 (c ∷ at.1) late in
        let place : k.front ≡ at.0 = same_place run.distinct k.front at.0 c k.behind (at.1 ++ late) k.place here in
        let state : k.from ≡ p.start = left_same at.0 p.start k.from (subst (λ (m : List ℕ). Legal p p.start m k.from) place k.before) (λ d i. all d (subst (λ (m : List ℕ). In d m) (sym at.2) (in_early d at.0 (c ∷ at.1) i))) in
        changed_left l c k p.start state (all c there)

    -- a call can follow at the state that its owner led to
    owned_follows : (l : List ℕ) → IsRun p l → (w y : ℕ) (k : Owned l w y) → CanFollow p k.to y
    owned_follows l run w y k =
        let two = split_legal (k.front ++ w ∷ k.since) (y ∷ k.late) p.start run.legal.0 (subst (λ (m : List ℕ). Legal p p.start m run.legal.0) k.place run.legal.1) in
        let state : two.0 ≡ k.to = state_since l run w y k k.since [] (sym (append-nil k.since)) two.0 two.1 in
        subst (λ (m : State). CanFollow p m y) state (two.2.0, two.2.1)

    -- a call that never leaves the state in which call y can follow does not stand between y and its owner
    none_parts : (l : List ℕ) → IsRun p l → (w y : ℕ) (k : Owned l w y) (x : ℕ) → Parts x y → In x k.since → ⊥
    none_parts l run w y k x parts there = parts k.to (owner_reached l w y k) (owned_follows l run w y k) (k.kept x there)

  -- in front of a call that w owns, w stands behind each call that does not stand between them
  pub in_owners_front : (l : List ℕ) → IsDistinct l → (w y : ℕ) (k : Owned l w y) (x : ℕ) → Front l x y → x ≢ w → (In x k.since → ⊥) → Front l x w
  in_owners_front l distinct w y k x before other none = elim (in_either x k.front (w ∷ k.since) (front_here distinct x y before (k.front ++ w ∷ k.since) k.late k.place)) [
    | inl q ↦ (k.front, k.since ++ y ∷ k.late, k.place ∙ append_assoc k.front (w ∷ k.since) (y ∷ k.late), q)
    | inr (inl e) ↦ absurd (other e)
    | inr (inr q) ↦ absurd (none q)
  ]

  -- the owner stands in front of what a call of its cluster stands in front of
  owner_before : (l : List ℕ) → IsDistinct l → (w x y : ℕ) → Member l w x → Front l x y → Front l w y
  owner_before l distinct w x y (inl e) before = subst (λ (n : ℕ). Front l n y) e before
  owner_before l distinct w x y (inr k) before = front_trans distinct w x y (owner_front l w x k) before

  -- where a call of the cluster of w stands in front of one of the cluster of u, so does w in front of u
  clusters_apart : (l : List ℕ) → IsDistinct l → (w u x y : ℕ) → w ≢ u → Member l w x → (k : Member l u y) → Front l x y → ((owned : Owned l u y) → In w owned.since → ⊥) → Front l w u
  clusters_apart l distinct w u x y other of_w (inl e) before none = subst (λ (n : ℕ). Front l w n) e (owner_before l distinct w x y of_w before)
  clusters_apart l distinct w u x y other of_w (inr k) before none = in_owners_front l distinct u y k w (owner_before l distinct w x y of_w before) other (none k)

  before_stands : (l : List ℕ) → IsRun p l → (a b : ℕ) → Before p a b → In b l → Front l a b
  before_stands l run a b before there = let at = in_place b l there in (at.0, at.1, at.2, before_front l run a b before at.0 at.1 at.2)

  changed_stands : (l : List ℕ) (w : ℕ) → Changed l w → In w l
  changed_stands l w c = subst (λ (m : List ℕ). In w m) (sym c.place) (in_late w c.front (w ∷ c.behind) (inl refl))

  pub member_stands : (l : List ℕ) (w y : ℕ) → Changed l w → Member l w y → In y l
  member_stands l w y c (inl e) = subst (λ (n : ℕ). In n l) (sym e) (changed_stands l w c)
  member_stands l w y c (inr k) = subst (λ (m : List ℕ). In y m) (sym k.place) (in_late y (k.front ++ w ∷ k.since) (y ∷ k.late) (inl refl))

  -- ---- two clusters

  -- Call y1 of the cluster of w returned before call q of the cluster of u was called, and call r of that one before call y2 of the first one.
  pub record Cross (w u y1 y2 q r : ℕ) : Type 0 where
    pub other : w ≢ u
    pub one : Before p y1 q
    pub two : Before p r y2

  module _ (exact : (a b : State) → p.same_state a b ≡ true → a ≡ b) where
    -- a call of the cluster of w returned before one of the cluster of u was called: so w stands in front of u
    pub cluster_front : (l : List ℕ) → IsRun p l → (w u x y : ℕ) → w ≢ u → Changed l w → Changed l u → Member l w x → Member l u y → Before p x y → Front l w u
    cluster_front l run w u x y other c d of_w of_u before =
        clusters_apart l run.distinct w u x y other of_w of_u (before_stands l run x y before (member_stands l u y d of_u)) (λ k there. none_changed exact l run u y k w c there)

    -- two clusters do not cross
    pub none_cross : (l : List ℕ) → IsRun p l → (w u y1 y2 q r : ℕ) → Cross w u y1 y2 q r → Changed l w → Changed l u → Member l w y1 → Member l w y2 → Member l u q → Member l u r → ⊥
    none_cross l run w u y1 y2 q r cross c d first last early late =
        front_both run.distinct w u
        (cluster_front l run w u y1 q cross.other c d first early cross.one)
        (cluster_front l run u w r y2 (λ e. cross.other (sym e)) d c late last cross.two)

    -- no call stands between two calls of a cluster that never leaves a state in which the second can follow
    pub none_between : (l : List ℕ) → IsRun p l → (w y1 y2 x : ℕ) → Changed l w → Member l w y1 → (k : Member l w y2) → Before p y1 x → Before p x y2 → Parts x y2 → ⊥
    none_between l run w y1 y2 x c first last one two parts =
        let there = before_stands l run x y2 two (member_stands l w y2 c last) in
        let before = owner_before l run.distinct w y1 x first (before_stands l run y1 x one (in_front run.distinct x y2 there)) in
        go last there before
      where
        go : Member l w y2 → Front l x y2 → Front l w x → ⊥
        go (inl e) there before = front_both run.distinct w x before (subst (λ (n : ℕ). Front l x n) e there)
        go (inr k) there before =
            front_both run.distinct w x before
            (in_owners_front l run.distinct w y2 k x there (λ e. front_itself run.distinct w (subst (λ (n : ℕ). Front l w n) e before)) (λ i. none_parts exact l run w y2 k x parts i))

  -- ---- two calls of one owner that both change the state

  -- The call never leaves a state as it is.
  abbrev pub AlwaysChanges : ℕ → Type 0
  AlwaysChanges g = (s : State) → Reached p s → Leaves p s g → ⊥

  -- of two calls that have one owner, the first leaves the state
  first_leaves : (l : List ℕ) → IsRun p l → (w g h : ℕ) → Owned l w g → Owned l w h → Front l g h → AlwaysChanges g → ⊥
  first_leaves l run w g h one two before changes =
      front_both run.distinct w g (owner_front l w g one)
      (in_owners_front l run.distinct w h two g before
      (λ e. front_itself run.distinct w (subst (λ (n : ℕ). Front l w n) e (owner_front l w g one)))
      (λ i. changes two.to (owner_reached l w h two) (two.kept g i)))

  -- Call w made what call g found in the list: it owns it. So did the start, which counts as the call of this number, where no call
  -- in front of g changed the state.
  abbrev pub Made : List ℕ → ℕ → ℕ → ℕ → Type 0
  Made l start w g = (Owned l w g × (w < start)) ⊎ ((w ≡ start) × ((early late : List ℕ) × (l ≡ early ++ g ∷ late) × AllLeave p p.start early))

  step_within : (s t : State) (c : ℕ) → next p s c ≡ Some t → c < length p.calls
  step_within s t c step = go (slice_get p.calls c) refl
    where
      go : (o : Option (ProblemCall Op Reply)) → slice_get p.calls c ≡ o → c < length p.calls
      go (Some x) e = slice_get_within p.calls c x e
      go None e = absurd (let f = rw e at step in cc)

  -- what a completed call found was made by one of its owners
  pub maker : (l : List ℕ) → IsLinearization p l → (calls : List ℕ) (b : Bool) (g : ℕ) → IsOwnedBy p calls b g → IsCompleted p g → (w : ℕ) × (In w calls ⊎ (IsTrue b × (w ≡ length p.calls))) × Made l (length p.calls) w g
  maker l whole calls b g owned done =
      let at = stands l g whole done in
      elim (owned l at.0 at.1 whole at.2) [
        | inl k ↦ (k.owner, inl k.one_of, inl (owned_at l at.0 at.1 calls g at.2 k, step_within k.from k.to k.owner k.step))
        | inr q ↦ (length p.calls, inr (q.0, refl), inr (refl, (at.0, at.1, at.2, q.1)))
      ]

  first_made : (l : List ℕ) → IsRun p l → (start w g h : ℕ) → Made l start w g → Made l start w h → Front l g h → AlwaysChanges g → ⊥
  first_made l run start w g h (inl one) (inl two) before changes = first_leaves l run w g h one.0 two.0 before changes
  first_made l run start w g h (inl one) (inr two) before changes = (let a = one.1 in let b = two.0 in omega (arith, a, b))
  first_made l run start w g h (inr one) (inl two) before changes = (let a = one.0 in let b = two.1 in omega (arith, a, b))
  first_made l run start w g h (inr one) (inr (e, (early, late, eq, kept))) before changes = changes p.start ([], refl) (kept g (front_here run.distinct g h before early late eq))

  -- of two calls that each change the state, one alone found what a call, or the start, made
  pub made_once : (l : List ℕ) → IsRun p l → (start w g h : ℕ) → g ≢ h → In g l → In h l → AlwaysChanges g → AlwaysChanges h → Made l start w g → Made l start w h → ⊥
  made_once l run start w g h other there here changes_g changes_h one two = elim (front_either run.distinct g h other there here) [
    | inl q ↦ first_made l run start w g h one two q changes_g
    | inr q ↦ first_made l run start w h g two one q changes_h
  ]
