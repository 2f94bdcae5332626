-- The next level of a problem's configurations, task by task and call by call.
use Rattle.std.proofs.Common.{◌≡◌, ℕ, zero, suc, ◌+◌, ◌-◌, ◌<◌, ◌≤◌, Bool, true, false, Option, Some, None, List, [], ◌∷◌, ◌++◌, length, ◌⊎◌, inl, inr, refl, sym, ◌∙◌, ap, subst, arith}
use Rattle.std.specs.List.{slice_get}
use Rattle.std.proofs.Common.{get_or, ◌&&◌}
use lib.Pointwise.{pointwise}
use mathlib.Core.Bool.{beq}
use Rattle.std.specs.Cmp.{IsEquivalence}
use Rattle.lin_history.specs.Problems.Problem.{Problem}
use Rattle.lin_history.specs.Problems.Lists.{IsUpTo}
use Rattle.lin_history.specs.Problems.Continuations.{has, no_calls, IsContinuation}
use Rattle.lin_search.specs.Configuration.{Configuration, same_configuration}
use Rattle.lin_search.specs.CallSet.{with_call, with_calls, lifted_set}
use Rattle.lin_search.specs.CallSetLemmas.{length_calls, flags_same, flags_itself}
use Rattle.lin_history.specs.Problems.Configurations.{IsReachable}
use Rattle.lin_search.specs.NextCall.{IsNext, HasEveryCompleted}
use Rattle.lin_search.specs.Entries.{IsMinimal, IsLeastMinimal}
use Rattle.lin_search.specs.Count.{Among}
use Rattle.lin_search.specs.CountLemmas.{among_equal}
use Rattle.lin_search.specs.FirstCallLemmas.{continuation_split, next_within, next_one}
use Rattle.lin_search.specs.AlikeLemmas.{AreAlike, turned}
use Rattle.lin_workers.specs.Cut.{LeadsTo, IsAtLevel, Task, IsTask, AreTasks, IsBeforeEach, AreInOrder, configurations_of, AreLevel, HasNoComplete}
use Rattle.lin_workers.specs.NextLevel.{IsTried, AreChildren, IsFilled}
use Rattle.lin_workers.proofs.RunLemmas.{some_once, flags_of, leads_next, leads_last, leads_equal, leads_reachable, step_alike}
use Rattle.lin_workers.proofs.PathLemmas.{up_to_chain, up_to_last, up_to_call, up_to_parts, last_same, last_of}

-- how many calls a set has
abbrev pub many : List Bool → ℕ
many [] = 0
many (true ∷ s) = suc (many s)
many (false ∷ s) = many s

many_more : (s : List Bool) (c : ℕ) → c < length s → has s c ≡ false → many (with_call s c) ≡ suc (many s)
many_more [] c h e = absurd (omega (arith, h))
many_more (true ∷ s) zero h e = absurd (cc)
many_more (false ∷ s) zero h e = refl
many_more (true ∷ s) (suc c) h e = ap suc (many_more s c (omega (arith, h)) e)
many_more (false ∷ s) (suc c) h e = many_more s c (omega (arith, h)) e

-- how many calls there are from the candidate on
abbrev pub calls_left : ℕ → Option ℕ → ℕ
calls_left n None = 0
calls_left n (Some c) = n - c

module _ {State Op Reply : Type 0} (p : Problem State Op Reply) where
  -- a continuation adds as many calls as it has
  many_after : (set : List Bool) (s : State) (l : List ℕ) → length set ≡ length p.calls → IsContinuation p set s l → many (with_calls set l) ≡ many set + length l
  many_after set s [] flags k = omega arith
  many_after set s (c ∷ l) flags k =
      let q = continuation_split p set s c l flags k in
      let w = next_within p s q.0 c q.1.step in
      let m = many_more set c (omega (arith, w, flags)) q.1.outside in
      let r = many_after (with_call set c) q.0 l (length-after set c ∙ flags) q.2 in
      omega (arith, m, r)
    where
      length-after : (set : List Bool) (c : ℕ) → length (with_call set c) ≡ length set
      length-after set c = length_calls set (c ∷ [])

  -- the runs that lead to a set have as many calls each
  pub same_length : (l m : List ℕ) (a b : List Bool) (s t : State) → a ≡ b → LeadsTo p l a s → LeadsTo p m b t → length l ≡ length m
  same_length l m a b s t e x y =
      let n = many_after (no_calls p) p.start l (flags_of p []) x.run in
      let o = many_after (no_calls p) p.start m (flags_of p []) y.run in
      let f : lifted_set p l ≡ lifted_set p m = sym x.calls ∙ (e ∙ y.calls) in
      let g : many (lifted_set p l) ≡ many (lifted_set p m) = ap many f in
      omega (arith, n, o, g)

-- an item of a list, by its index
pub item_at : {X : Type 0} (xs : List X) (i : ℕ) (x : X) → i < length xs → x ≡ get_or xs i x → slice_get xs i ≡ Some x
item_at [] i x h e = absurd (omega (arith, h))
item_at (y ∷ xs) zero x h e = ap Some (sym e)
item_at (y ∷ xs) (suc i) x h e = item_at xs i x (omega (arith, h)) e

pub below_or_at : (j i : ℕ) → j < i + 1 → (j < i) ⊎ (j ≡ i)
below_or_at j i h = grind arith

-- a flag is not both
pub not_both : (b : Bool) → b ≡ false → b ≡ true → ⊥
not_both b x y = cc

pub absent_by : (b : Bool) → b ≡ true → b ≡ false → ⊥
absent_by b x y = cc

-- the item that stands at an index
pub once_at : {X : Type 0} (xs : List X) (i j : ℕ) (x y : X) → slice_get xs i ≡ Some x → j ≡ i → slice_get xs j ≡ Some y → x ≡ y
once_at xs i j x y e h f = some_once (slice_get xs i) x y e (subst (λ (n : ℕ). slice_get xs n ≡ Some y) h f)

-- what the test of two configurations tells
pub same_parts : {State : Type 0} (same : State → State → Bool) (a b : Configuration State) → same_configuration same a b ≡ true → (a.lifted ≡ b.lifted) × (same a.state b.state ≡ true)
same_parts same a b e = both (pointwise beq a.lifted b.lifted) (same a.state b.state) (flags_same a.lifted b.lifted) e
  where
    both : {P : Type 0} (m n : Bool) → (m ≡ true → P) → (m && n) ≡ true → P × (n ≡ true)
    both true true f e = (f refl, refl)
    both true false f e = absurd (cc)
    both false n f e = absurd (cc)

pub parts_same : {State : Type 0} (same : State → State → Bool) (a b : Configuration State) → a.lifted ≡ b.lifted → same a.state b.state ≡ true → same_configuration same a b ≡ true
parts_same same a b e f = rw (subst (λ (x : List Bool). pointwise beq a.lifted x ≡ true) e (flags_itself a.lifted), f) refl

module _ {State : Type 0} where
  -- a task whose configuration is this one
  pub among_from : (same : State → State → Bool) (ts : List (Task State)) (j : ℕ) (t : Task State) (set : List Bool) (s : State) → slice_get ts j ≡ Some t → set ≡ t.config.lifted → same s t.config.state ≡ true → Among same (configurations_of ts) set s
  among_from same [] j t set s e f h = absurd (cc)
  among_from same (x ∷ ts) zero t set s e f h = let g : x ≡ t = cc in inl (rw (g) f, rw (g) h)
  among_from same (x ∷ ts) (suc j) t set s e f h = inr (among_from same ts j t set s e f h)

  -- a task at an index is one of the tasks
  pub among_at : (same : State → State → Bool) (ts : List (Task State)) (set : List Bool) (s : State) → Among same (configurations_of ts) set s → (j : ℕ) × (q : Task State) × (slice_get ts j ≡ Some q) × (set ≡ q.config.lifted) × (same s q.config.state ≡ true)
  among_at same [] set s h = absurd h
  among_at same (t ∷ ts) set s h = elim h [
    | inl r ↦ (0, t, refl, r.0, r.1)
    | inr r ↦ (let k = among_at same ts set s r in let k2 = k.2 in (suc k.0, k.1, k2, k.3, k.4))
  ]

  pub within_at : (ts : List (Task State)) (j : ℕ) (q : Task State) → slice_get ts j ≡ Some q → j < length ts
  within_at [] j q e = absurd (cc)
  within_at (t ∷ ts) zero q e = omega arith
  within_at (t ∷ ts) (suc j) q e = let h = within_at ts j q e in omega (arith, h)

  -- the list stands before the path of a task at an index
  before_at : (l : List ℕ) (ts : List (Task State)) (j : ℕ) (q : Task State) → IsBeforeEach l ts → slice_get ts j ≡ Some q → IsUpTo l q.path × (l ≡ q.path → ⊥)
  before_at l [] j q k e = absurd (cc)
  before_at l (t ∷ ts) zero q k e = let f : t ≡ q = cc in subst (λ (x : Task State). IsUpTo l x.path × (l ≡ x.path → ⊥)) f k.0
  before_at l (t ∷ ts) (suc j) q k e = before_at l ts j q k.1 e

  -- of two tasks the one with the lower index has the lower path
  pub in_order_at : (ts : List (Task State)) (i j : ℕ) (q r : Task State) → AreInOrder ts → i < j → slice_get ts i ≡ Some q → slice_get ts j ≡ Some r → IsUpTo q.path r.path × (q.path ≡ r.path → ⊥)
  in_order_at [] i j q r k h e f = absurd (cc)
  in_order_at (t ∷ ts) i zero q r k h e f = absurd (omega (arith, h))
  in_order_at (t ∷ ts) zero (suc j) q r k h e f = let g : t ≡ q = cc in subst (λ (x : Task State). IsUpTo x.path r.path × (x.path ≡ r.path → ⊥)) g (before_at t.path ts j r k.0 f)
  in_order_at (t ∷ ts) (suc i) (suc j) q r k h e f = in_order_at ts i j q r k.1 (omega (arith, h)) e f

  before_end : (l : List ℕ) (ts : List (Task State)) (t : Task State) → IsBeforeEach l ts → IsUpTo l t.path × (l ≡ t.path → ⊥) → IsBeforeEach l (ts ++ t ∷ [])
  before_end l [] t k h = (h, tt)
  before_end l (x ∷ ts) t k h = (k.0, before_end l ts t k.1 h)

  -- each task's path stands before the list
  abbrev pub AreBefore : List (Task State) → List ℕ → Type 0
  AreBefore [] l = Unit {0}
  AreBefore (t ∷ ts) l = (IsUpTo t.path l × (t.path ≡ l → ⊥)) × AreBefore ts l

  pub in_order_end : (ts : List (Task State)) (t : Task State) → AreInOrder ts → AreBefore ts t.path → AreInOrder (ts ++ t ∷ [])
  in_order_end [] t k h = (tt, tt)
  in_order_end (x ∷ ts) t k h = (before_end x.path ts t k.0 h.0, in_order_end ts t k.1 h.1)

  among_front : (same : State → State → Bool) (ts : List (Task State)) (t : Task State) (set : List Bool) (s : State) → Among same (configurations_of ts) set s → Among same (configurations_of (ts ++ t ∷ [])) set s
  among_front same [] t set s h = absurd h
  among_front same (x ∷ ts) t set s h = elim h [ inl r ↦ inl r | inr r ↦ inr (among_front same ts t set s r) ]

  among_end : (same : State → State → Bool) (ts : List (Task State)) (t : Task State) (set : List Bool) (s : State) → set ≡ t.config.lifted → same s t.config.state ≡ true → Among same (configurations_of (ts ++ t ∷ [])) set s
  among_end same [] t set s e h = inl (e, h)
  among_end same (x ∷ ts) t set s e h = inr (among_end same ts t set s e h)

module _ {State Op Reply : Type 0} (p : Problem State Op Reply) where
  pub task_at : (k : ℕ) (ts : List (Task State)) (j : ℕ) (q : Task State) → AreTasks p k ts → slice_get ts j ≡ Some q → IsTask p k q
  task_at k [] j q h e = absurd (cc)
  task_at k (t ∷ ts) zero q h e = let f : t ≡ q = cc in subst (λ (x : Task State). IsTask p k x) f h.0
  task_at k (t ∷ ts) (suc j) q h e = task_at k ts j q h.1 e

  tasks_end : (k : ℕ) (ts : List (Task State)) (t : Task State) → AreTasks p k ts → IsTask p k t → AreTasks p k (ts ++ t ∷ [])
  tasks_end k [] t h x = (x, tt)
  tasks_end k (y ∷ ts) t h x = (h.0, tasks_end k ts t h.1 x)

module _ {State Op Reply : Type 0} (p : Problem State Op Reply) where
  pub filled_none : (k : ℕ) (parents : List (Task State)) → IsFilled p k parents 0 0 []
  filled_none k parents = record {
    each = tt;
    order = tt;
    children = tt;
    has_each = λ j q c t e h n. elim h [ inl r ↦ absurd (omega (arith, r)) | inr r ↦ absurd (let r1 = r.1 in omega (arith, r1)) ];
  }

  still_children : (parents : List (Task State)) (i b d : ℕ) (ts : List (Task State)) → b ≤ d → AreChildren parents i b ts → AreChildren parents i d ts
  still_children parents i b d [] h k = tt
  still_children parents i b d (t ∷ ts) h k =
      let q = k.0 in
      ((q.0, q.1, q.2, q.3, q.4, elim q.5 [ inl r ↦ inl r | inr r ↦ inr (r.0, (let r1 = r.1 in omega (arith, r1, h))) ]), still_children parents i b d ts h k.1)

  next_children : (parents : List (Task State)) (i b : ℕ) (ts : List (Task State)) → AreChildren parents i b ts → AreChildren parents (i + 1) 0 ts
  next_children parents i b [] k = tt
  next_children parents i b (t ∷ ts) k =
      let q = k.0 in
      ((q.0, q.1, q.2, q.3, q.4, inl (elim q.5 [ inl r ↦ omega (arith, r) | inr r ↦ (let e = r.0 in omega (arith, e)) ])), next_children parents i b ts k.1)

  -- calls that lead nowhere were tried too
  pub filled_wider : (k : ℕ) (parents : List (Task State)) (i b d : ℕ) (ts : List (Task State)) (q : Task State) → slice_get parents i ≡ Some q → b ≤ d → ((c : ℕ) (t : State) → b ≤ c → c < d → IsNext p q.config.lifted q.config.state c t → ⊥) → IsFilled p k parents i b ts → IsFilled p k parents i d ts
  filled_wider k parents i b d ts q at h none f = record {
    each = f.each;
    order = f.order;
    children = still_children parents i b d ts h f.children;
    has_each = λ j r c t e tried n. elim tried [
      | inl x ↦ f.has_each j r c t e (inl x) n
      | inr x ↦ elim (cases c b) [
        | inl y ↦ f.has_each j r c t e (inr (x.0, y)) n
        | inr y ↦ absurd (none c t y x.1 (subst (λ (z : Task State). IsNext p z.config.lifted z.config.state c t) (one r j x.0 e) n))
      ]
    ];
  }
    where
      cases : (c b : ℕ) → (c < b) ⊎ (b ≤ c)
      cases c b = grind arith

      one : (r : Task State) (j : ℕ) → j ≡ i → slice_get parents j ≡ Some r → r ≡ q
      one r j x e = some_once (slice_get parents i) r q (subst (λ (n : ℕ). slice_get parents n ≡ Some r) x e) at

  -- all calls were tried on a parent
  pub filled_next : (k : ℕ) (parents : List (Task State)) (i b : ℕ) (ts : List (Task State)) (q : Task State) → slice_get parents i ≡ Some q → ((c : ℕ) (t : State) → b ≤ c → IsNext p q.config.lifted q.config.state c t → ⊥) → IsFilled p k parents i b ts → IsFilled p k parents (i + 1) 0 ts
  filled_next k parents i b ts q at none f = record {
    each = f.each;
    order = f.order;
    children = next_children parents i b ts f.children;
    has_each = λ j r c t e tried n. elim tried [
      | inl x ↦ elim (below j x) [
        | inl y ↦ f.has_each j r c t e (inl y) n
        | inr y ↦ elim (cases c b) [
          | inl z ↦ f.has_each j r c t e (inr (y, z)) n
          | inr z ↦ absurd (none c t z (subst (λ (v : Task State). IsNext p v.config.lifted v.config.state c t) (one r j y e) n))
        ]
      ]
      | inr x ↦ absurd (let x1 = x.1 in omega (arith, x1))
    ];
  }
    where
      below : (j : ℕ) → j < i + 1 → (j < i) ⊎ (j ≡ i)
      below j h = grind arith

      cases : (c b : ℕ) → (c < b) ⊎ (b ≤ c)
      cases c b = grind arith

      one : (r : Task State) (j : ℕ) → j ≡ i → slice_get parents j ≡ Some r → r ≡ q
      one r j x e = some_once (slice_get parents i) r q (subst (λ (n : ℕ). slice_get parents n ≡ Some r) x e) at

  module _ (alike : AreAlike p p) where
    equal : IsEquivalence p.same_state
    equal = alike.equal_states

    -- the path of a task, and then a call, leads to what the call leads to, with one call more
    child_leads : (k : ℕ) (q : Task State) (c : ℕ) (t : State) → IsTask p k q → IsNext p q.config.lifted q.config.state c t → LeadsTo p (q.path ++ c ∷ []) (with_call q.config.lifted c) t × (length (q.path ++ c ∷ []) ≡ k + 1)
    child_leads k q c t h n = (
      leads_next p alike q.path q.config.lifted q.config.state c t h.least.0 n,
      longer q.path c ∙ ap (λ (x : ℕ). x + 1) h.calls,
    )
      where
        longer : (l : List ℕ) (c : ℕ) → length (l ++ c ∷ []) ≡ length l + 1
        longer [] c = refl
        longer (d ∷ l) c = let r = longer l c in omega (arith, r)

    -- what a run with one call more leads to, a call leads to from a task of the level
    record IsFrom (k : ℕ) (parents : List (Task State)) (m : List ℕ) (set : List Bool) (t : State) : Type 0 where
      pub index : ℕ
      pub parent : Task State
      pub call : ℕ
      pub end : State
      pub at : slice_get parents index ≡ Some parent
      pub next : IsNext p parent.config.lifted parent.config.state call end
      pub same_set : set ≡ with_call parent.config.lifted call
      pub same_end : p.same_state end t ≡ true
      pub front : List ℕ
      pub path : m ≡ front ++ call ∷ []
      pub least : IsUpTo parent.path front
      pub long : length front ≡ k

    from_level : (k : ℕ) (parents : List (Task State)) (m : List ℕ) (set : List Bool) (t : State) → AreLevel p k parents → length m ≡ k + 1 → LeadsTo p m set t → IsFrom k parents m set t
    from_level k parents m set t level long h =
        let e = last_of m k long in
        let d = leads_last p alike e.0 e.1 set t (subst (λ (x : List ℕ). LeadsTo p x set t) e.2 h) in
        let g = among_at p.same_state parents (lifted_set p e.0) d.0 (level.every (lifted_set p e.0) d.0 (e.0, d.1, e.3)) in
        let step = d.2 in
        let n = step_alike p alike (lifted_set p e.0) d.0 g.1.config.state step.0 e.1 g.4 step.1 in
        let q = task_at p k parents g.0 g.1 level.each g.2 in
        record {
          index = g.0;
          parent = g.1;
          call = e.1;
          end = n.0;
          at = g.2;
          next = subst (λ (x : List Bool). IsNext p x g.1.config.state e.1 n.0) g.3 n.1;
          same_set = d.3 ∙ ap (λ (x : List Bool). with_call x e.1) g.3;
          same_end = equal.congr n.0 step.0 t (turned alike step.0 n.0 n.2) ∙ step.2;
          front = e.0;
          path = e.2;
          least = q.least.1 e.0 (subst (λ (x : List Bool). LeadsTo p e.0 x g.1.config.state) g.3 (leads_equal p alike e.0 (lifted_set p e.0) d.0 g.1.config.state g.4 d.1));
          long = e.3;
        }

    -- what a call leads to is a task of the next level, where it is not there yet
    pub record IsNew (k : ℕ) (parents : List (Task State)) (i c : ℕ) (ts : List (Task State)) (q : Task State) (t : State) : Type 0 where
      pub level : AreLevel p k parents
      pub filled : IsFilled p k parents i c ts
      pub at : slice_get parents i ≡ Some q
      pub next : IsNext p q.config.lifted q.config.state c t
      pub absent : Among p.same_state (configurations_of ts) (with_call q.config.lifted c) t → ⊥

    parent_is : (k : ℕ) (parents : List (Task State)) (i c : ℕ) (ts : List (Task State)) (q : Task State) (t : State) → IsNew k parents i c ts q t → IsTask p k q
    parent_is k parents i c ts q t n = task_at p k parents i q n.level.each n.at

    -- the path of the new task is the least to its configuration
    least_child : (k : ℕ) (parents : List (Task State)) (i c : ℕ) (ts : List (Task State)) (q : Task State) (t : State) → IsNew k parents i c ts q t → (m : List ℕ) → LeadsTo p m (with_call q.config.lifted c) t → IsUpTo (q.path ++ c ∷ []) m
    least_child k parents i c ts q t n m h =
        let leads = child_leads k q c t (parent_is k parents i c ts q t n) n.next in
        let long = same_length p (q.path ++ c ∷ []) m (with_call q.config.lifted c) (with_call q.config.lifted c) t t refl leads.0 h in
        let f = from_level k parents m (with_call q.config.lifted c) t n.level (sym long ∙ leads.1) h in
        rw (f.path) (elim (where_is f.index f.call) [
          | inl x ↦ absurd (n.absent (among_equal p.same_state equal (configurations_of ts) (with_call f.parent.config.lifted f.call) (with_call q.config.lifted c) f.end t (sym f.same_set) f.same_end (n.filled.has_each f.index f.parent f.call f.end f.at x f.next)))
          | inr (inl x) ↦ same_parent f x
          | inr (inr x) ↦ later_parent f x
        ])
      where
        where_is : (j d : ℕ) → IsTried i c j d ⊎ ((j ≡ i) × (c ≤ d)) ⊎ (i < j)
        where_is j d = grind arith

        long_path : length q.path ≡ k
        long_path = (parent_is k parents i c ts q t n).calls

        up_to_end : (a b : List ℕ) (x y : ℕ) → length a ≡ length b → IsUpTo a b → x ≤ y → IsUpTo (a ++ x ∷ []) (b ++ y ∷ [])
        up_to_end a b x y e k h = up_to_parts a b (x ∷ []) (y ∷ []) e k (λ same. up_to_call [] x y h)

        same_parent : (f : IsFrom k parents m (with_call q.config.lifted c) t) → (f.index ≡ i) × (c ≤ f.call) → IsUpTo (q.path ++ c ∷ []) (f.front ++ f.call ∷ [])
        same_parent f x =
            let e : f.parent ≡ q = some_once (slice_get parents i) f.parent q (subst (λ (y : ℕ). slice_get parents y ≡ Some f.parent) x.0 f.at) n.at in
            up_to_end q.path f.front c f.call (long_path ∙ sym f.long) (subst (λ (y : Task State). IsUpTo y.path f.front) e f.least) x.1

        later_parent : (f : IsFrom k parents m (with_call q.config.lifted c) t) → i < f.index → IsUpTo (q.path ++ c ∷ []) (f.front ++ f.call ∷ [])
        later_parent f x =
            let o = in_order_at parents i f.index q f.parent n.level.order x n.at f.at in
            let other = task_at p k parents f.index f.parent n.level.each f.at in
            let first = up_to_last q.path f.parent.path c f.call (long_path ∙ sym other.calls) o.0 o.1 in
            up_to_chain (q.path ++ c ∷ []) (f.parent.path ++ f.call ∷ []) (f.front ++ f.call ∷ []) first (up_to_end f.parent.path f.front f.call f.call (other.calls ∙ sym f.long) f.least (omega arith))

    new_task : (k : ℕ) (parents : List (Task State)) (i c : ℕ) (ts : List (Task State)) (q : Task State) (t : State) → IsNew k parents i c ts q t → IsTask p (k + 1) (record { path = q.path ++ c ∷ []; config = record { lifted = with_call q.config.lifted c; state = t } })
    new_task k parents i c ts q t n =
        let leads = child_leads k q c t (parent_is k parents i c ts q t n) n.next in
        record { least = (leads.0, least_child k parents i c ts q t n); calls = leads.1 }

    -- the tasks that stand there have lower paths
    before_new : (k : ℕ) (parents : List (Task State)) (i c : ℕ) (q : Task State) → AreLevel p k parents → slice_get parents i ≡ Some q → (ts : List (Task State)) → AreChildren parents i c ts → AreBefore ts (q.path ++ c ∷ [])
    before_new k parents i c q level at [] h = tt
    before_new k parents i c q level at (t ∷ ts) h =
        let a = h.0 in (
          rw (a.4) (elim a.5 [
            | inl x ↦ earlier a.0 a.1 a.2 a.3 x
            | inr x ↦ same a.0 a.1 a.2 a.3 x.0 x.1
          ]),
          before_new k parents i c q level at ts h.1,
        )
      where
        earlier : (j : ℕ) (r : Task State) (d : ℕ) → slice_get parents j ≡ Some r → j < i → IsUpTo (r.path ++ d ∷ []) (q.path ++ c ∷ []) × (r.path ++ d ∷ [] ≡ q.path ++ c ∷ [] → ⊥)
        earlier j r d e x =
            let o = in_order_at parents j i r q level.order x e at in
            let a = task_at p k parents j r level.each e in
            let b = task_at p k parents i q level.each at in
            (up_to_last r.path q.path d c (a.calls ∙ sym b.calls) o.0 o.1, λ h. o.1 ((last_same r.path q.path d c h).0))

        same : (j : ℕ) (r : Task State) (d : ℕ) → slice_get parents j ≡ Some r → j ≡ i → d < c → IsUpTo (r.path ++ d ∷ []) (q.path ++ c ∷ []) × (r.path ++ d ∷ [] ≡ q.path ++ c ∷ [] → ⊥)
        same j r d e x y =
            let f : r ≡ q = some_once (slice_get parents i) r q (subst (λ (n : ℕ). slice_get parents n ≡ Some r) x e) at in
            rw f (up_to_call q.path d c (omega (arith, y)), λ h. (let g = (last_same q.path q.path d c h).1 in omega (arith, g, y)))

    children_end : (parents : List (Task State)) (i c : ℕ) (ts : List (Task State)) (t : Task State) (q : Task State) → slice_get parents i ≡ Some q → t.path ≡ q.path ++ c ∷ [] → AreChildren parents i c ts → AreChildren parents i (c + 1) (ts ++ t ∷ [])
    children_end parents i c [] t q at e h = ((i, q, c, at, e, inr (refl, omega arith)), tt)
    children_end parents i c (x ∷ ts) t q at e h =
        let a = h.0 in
        ((a.0, a.1, a.2, a.3, a.4, elim a.5 [ inl r ↦ inl r | inr r ↦ inr (r.0, (let r1 = r.1 in omega (arith, r1))) ]), children_end parents i c ts t q at e h.1)

    -- the task is added at the end
    pub filled_more : (k : ℕ) (parents : List (Task State)) (i c : ℕ) (ts : List (Task State)) (q : Task State) (t : State) → IsNew k parents i c ts q t → IsFilled p k parents i (c + 1) (ts ++ record { path = q.path ++ c ∷ []; config = record { lifted = with_call q.config.lifted c; state = t } } ∷ [])
    filled_more k parents i c ts q t n = record {
      each = tasks_end p (k + 1) ts new n.filled.each (new_task k parents i c ts q t n);
      order = in_order_end ts new n.filled.order (before_new k parents i c q n.level n.at ts n.filled.children);
      children = children_end parents i c ts new q n.at refl n.filled.children;
      has_each = λ j r d u e tried m. elim (cases j d tried) [
        | inl x ↦ among_front p.same_state ts new (with_call r.config.lifted d) u (n.filled.has_each j r d u e x m)
        | inr x ↦ (
            let f : r ≡ q = some_once (slice_get parents i) r q (subst (λ (y : ℕ). slice_get parents y ≡ Some r) x.0 e) n.at in
            let g : IsNext p q.config.lifted q.config.state c u = subst (λ (y : ℕ). IsNext p q.config.lifted q.config.state y u) x.1 (subst (λ (y : Task State). IsNext p y.config.lifted y.config.state d u) f m) in
            among_end p.same_state ts new (with_call r.config.lifted d) u
            (rw (f, x.1) refl)
            (subst (λ (y : State). p.same_state u y ≡ true) (next_one p q.config.lifted q.config.state c u t g n.next) (equal.refl u))
            )
      ];
    }
      where
        new : Task State
        new = record { path = q.path ++ c ∷ []; config = record { lifted = with_call q.config.lifted c; state = t } }

        cases : (j d : ℕ) → IsTried i (c + 1) j d → IsTried i c j d ⊎ ((j ≡ i) × (d ≡ c))
        cases j d h = elim h [ inl x ↦ inl (inl x) | inr x ↦ elim (below d x.1) [ inl y ↦ inl (inr (x.0, y)) | inr y ↦ inr (x.0, y) ] ]
          where
            below : (d : ℕ) → d < c + 1 → (d < c) ⊎ (d ≡ c)
            below d h = grind arith

    -- the configuration is there already
    pub filled_known : (k : ℕ) (parents : List (Task State)) (i c : ℕ) (ts : List (Task State)) (q : Task State) (t : State) → IsFilled p k parents i c ts → slice_get parents i ≡ Some q → IsNext p q.config.lifted q.config.state c t → Among p.same_state (configurations_of ts) (with_call q.config.lifted c) t → IsFilled p k parents i (c + 1) ts
    filled_known k parents i c ts q t f at n there = record {
      each = f.each;
      order = f.order;
      children = still_children parents i c (c + 1) ts (omega arith) f.children;
      has_each = λ j r d u e tried m. elim (cases j d tried) [
        | inl x ↦ f.has_each j r d u e x m
        | inr x ↦ (
            let g : r ≡ q = some_once (slice_get parents i) r q (subst (λ (y : ℕ). slice_get parents y ≡ Some r) x.0 e) at in
            let h : IsNext p q.config.lifted q.config.state c u = subst (λ (y : ℕ). IsNext p q.config.lifted q.config.state y u) x.1 (subst (λ (y : Task State). IsNext p y.config.lifted y.config.state d u) g m) in
            rw (g, x.1) (subst (λ (y : State). Among p.same_state (configurations_of ts) (with_call q.config.lifted c) y) (next_one p q.config.lifted q.config.state c t u n h) there)
            )
      ];
    }
      where
        cases : (j d : ℕ) → IsTried i (c + 1) j d → IsTried i c j d ⊎ ((j ≡ i) × (d ≡ c))
        cases j d h = elim h [ inl x ↦ inl (inl x) | inr x ↦ elim (below d x.1) [ inl y ↦ inl (inr (x.0, y)) | inr y ↦ inr (x.0, y) ] ]
          where
            below : (d : ℕ) → d < c + 1 → (d < c) ⊎ (d ≡ c)
            below d h = grind arith

    -- all calls were tried on all parents
    pub filled_level : (k : ℕ) (parents : List (Task State)) (ts : List (Task State)) → AreLevel p k parents → IsFilled p k parents (length parents) 0 ts → AreLevel p (k + 1) ts
    filled_level k parents ts level f = record {
      each = f.each;
      order = f.order;
      every = λ set s h. (
          let g = from_level k parents h.0 set s level h.2 h.1 in
          among_equal p.same_state equal (configurations_of ts) (with_call g.parent.config.lifted g.call) set g.end s (sym g.same_set) g.same_end
          (f.has_each g.index g.parent g.call g.end g.at (inl (within_at parents g.index g.parent g.at)) g.next)
          );
    }

module _ {State : Type 0} (same : State → State → Bool) (ts : List (Task State)) (c : Configuration State) where
  -- the configuration is that of none of the first tasks
  abbrev pub IsNotBelow : ℕ → Type 0
  IsNotBelow i = (j : ℕ) (t : Task State) → j < i → slice_get ts j ≡ Some t → c.lifted ≡ t.config.lifted → same c.state t.config.state ≡ true → ⊥

  module _ (i : ℕ) (t u : Task State) (b : Bool) (within : i < length ts) (item : t ≡ get_or ts i t) (view : u ≡ t) (test : b ≡ same_configuration same c u.config) where
    pub among_found : b ≡ true → Among same (configurations_of ts) c.lifted c.state
    among_found e =
        let parts = same_parts same c t.config (subst (λ (x : Task State). same_configuration same c x.config ≡ true) view (sym test ∙ e)) in
        among_from same ts i t c.lifted c.state (item_at ts i t within item) parts.0 parts.1

    pub not_below_next : b ≡ false → IsNotBelow i → IsNotBelow (i + 1)
    not_below_next e k j x h f lifted state = elim (below_or_at j i h) [
      | inl q ↦ k j x q f lifted state
      | inr q ↦ (
          let g : u ≡ x = view ∙ once_at ts i j t x (item_at ts i t within item) q f in
          not_both (same_configuration same c u.config) (sym test ∙ e) (subst (λ (y : Task State). same_configuration same c y.config ≡ true) (sym g) (parts_same same c x.config lifted state))
          )
    ]

  pub not_among : (i : ℕ) → length ts ≤ i → IsNotBelow i → Among same (configurations_of ts) c.lifted c.state → ⊥
  not_among i h k there =
      let at = among_at same ts c.lifted c.state there in
      k at.0 at.1 (let n = within_at ts at.0 at.1 at.2 in omega (arith, n, h)) at.2 at.3 at.4

module _ {State Op Reply : Type 0} (p : Problem State Op Reply) (ts : List (Task State)) where
  -- none of the first tasks has every completed call
  abbrev pub HasNoneBelow : ℕ → Type 0
  HasNoneBelow i = (j : ℕ) (t : Task State) → j < i → slice_get ts j ≡ Some t → HasEveryCompleted p t.config.lifted → ⊥

  module _ (i : ℕ) (t u : Task State) (within : i < length ts) (item : t ≡ get_or ts i t) (view : u ≡ t) where
    pub reachable_item : (k : ℕ) → AreLevel p k ts → IsReachable p u.config.lifted u.config.state
    reachable_item k level =
        let task = task_at p k ts i t level.each (item_at ts i t within item) in
        subst (λ (x : Task State). IsReachable p x.config.lifted x.config.state) (sym view) (leads_reachable p t.path t.config.lifted t.config.state task.least.0)

    pub complete_found : HasEveryCompleted p u.config.lifted → (k : ℕ) → AreLevel p k ts → (set : List Bool) × (s : State) × IsAtLevel p k set s × HasEveryCompleted p set
    complete_found all k level =
        let task = task_at p k ts i t level.each (item_at ts i t within item) in
        (t.config.lifted, t.config.state, (t.path, task.least.0, task.calls), subst (λ (x : Task State). HasEveryCompleted p x.config.lifted) view all)

    pub none_below_next : (HasEveryCompleted p u.config.lifted → ⊥) → HasNoneBelow i → HasNoneBelow (i + 1)
    none_below_next none k j x h f all = elim (below_or_at j i h) [
      | inl q ↦ k j x q f all
      | inr q ↦ (
          let g : u ≡ x = view ∙ once_at ts i j t x (item_at ts i t within item) q f in
          none (subst (λ (y : Task State). HasEveryCompleted p y.config.lifted) (sym g) all)
          )
    ]

  pub none_complete : (i : ℕ) → length ts ≤ i → HasNoneBelow i → (k : ℕ) → AreLevel p k ts → HasNoComplete p k
  none_complete i h none k level set s at all =
      let there = among_at p.same_state ts set s (level.every set s at) in
      none there.0 there.1 (let n = within_at ts there.0 there.1 there.2 in omega (arith, n, h)) there.2 (subst (λ (x : List Bool). HasEveryCompleted p x) there.3 all)

task_is : {State : Type 0} (l m : List ℕ) (child : Configuration State) (set : List Bool) → l ≡ m → child.lifted ≡ set → ◌≡◌ {A = Task State} (record { path = l; config = child }) (record { path = m; config = record { lifted = set; state = child.state } })
task_is l m child set e f = rw (e, sym f) refl

module _ {State Op Reply : Type 0} (p : Problem State Op Reply) (alike : AreAlike p p) (q u : Task State) (view : u ≡ q) (c : ℕ) where
  -- the call can't follow the parent's configuration
  pub child_none : ((t : State) → IsNext p u.config.lifted u.config.state c t → ⊥) → (ts : List (Task State)) (k i : ℕ) (parents : List (Task State)) → slice_get parents i ≡ Some q → IsFilled p k parents i c ts → IsFilled p k parents i (c + 1) ts
  child_none none ts k i parents at f = filled_wider p k parents i c (c + 1) ts q at (omega arith) (λ d t h l n. none t (here d t (omega (arith, h, l)) n)) f
    where
      here : (d : ℕ) (t : State) → d ≡ c → IsNext p q.config.lifted q.config.state d t → IsNext p u.config.lifted u.config.state c t
      here d t e n = subst (λ (x : Task State). IsNext p x.config.lifted x.config.state c t) (sym view) (subst (λ (y : ℕ). IsNext p q.config.lifted q.config.state y t) e n)

  module _ (child : Configuration State) (lifted : child.lifted ≡ with_call u.config.lifted c) (next : IsNext p u.config.lifted u.config.state c child.state) where
    step : IsNext p q.config.lifted q.config.state c child.state
    step = subst (λ (x : Task State). IsNext p x.config.lifted x.config.state c child.state) view next

    same_set : child.lifted ≡ with_call q.config.lifted c
    same_set = lifted ∙ ap (λ (x : Task State). with_call x.config.lifted c) view

    pub child_known : (ts : List (Task State)) → Among p.same_state (configurations_of ts) child.lifted child.state → (k i : ℕ) (parents : List (Task State)) → slice_get parents i ≡ Some q → IsFilled p k parents i c ts → IsFilled p k parents i (c + 1) ts
    child_known ts there k i parents at f =
        filled_known p alike k parents i c ts q child.state f at step (subst (λ (x : List Bool). Among p.same_state (configurations_of ts) x child.state) same_set there)

    pub child_new : (ts now : List (Task State)) (path : List ℕ) → (Among p.same_state (configurations_of ts) child.lifted child.state → ⊥) → path ≡ u.path ++ c ∷ [] → now ≡ ts ++ record { path = path; config = child } ∷ [] → (k i : ℕ) (parents : List (Task State)) → AreLevel p k parents → slice_get parents i ≡ Some q → IsFilled p k parents i c ts → IsFilled p k parents i (c + 1) now
    child_new ts now path absent is_path added k i parents level at f =
        subst (λ (x : List (Task State)). IsFilled p k parents i (c + 1) x) (sym (added ∙ ap (λ (x : Task State). ts ++ x ∷ []) same_task))
        (filled_more p alike k parents i c ts q child.state (record { level = level; filled = f; at = at; next = step; absent = λ h. absent (subst (λ (x : List Bool). Among p.same_state (configurations_of ts) x child.state) (sym same_set) h) }))
      where
        same_path : path ≡ q.path ++ c ∷ []
        same_path = is_path ∙ ap (λ (x : Task State). x.path ++ c ∷ []) view

        same_task : ◌≡◌ {A = Task State} (record { path = path; config = child }) (record { path = q.path ++ c ∷ []; config = record { lifted = with_call q.config.lifted c; state = child.state } })
        same_task = task_is path (q.path ++ c ∷ []) child (with_call q.config.lifted c) same_path same_set

-- the calls from the bound to the least minimal one, and all calls where there is none, lead nowhere
module _ {State Op Reply : Type 0} (p : Problem State Op Reply) (set : List Bool) (s : State) (bound : ℕ) where
  minimal_next : (c : ℕ) (t : State) → IsNext p set s c t → IsMinimal p set c
  minimal_next c t n = record { within = next_within p s t c n.step; outside = n.outside; preceded = n.preceded }

  pub none_between : (c : ℕ) → IsLeastMinimal p set bound (Some c) → (d : ℕ) (t : State) → bound ≤ d → d < c → IsNext p set s d t → ⊥
  none_between c k d t h l n = let m = k.2 d (minimal_next d t n) h in omega (arith, m, l)

  pub none_from : IsLeastMinimal p set bound None → (d : ℕ) (t : State) → bound ≤ d → IsNext p set s d t → ⊥
  none_from k d t h n = k d (minimal_next d t n) h

module _ {State Op Reply : Type 0} (p : Problem State Op Reply) where
  -- the set of a task is that of its path
  pub set_of_task : (k : ℕ) (q u : Task State) (l : List ℕ) → IsTask p k q → u ≡ q → l ≡ u.path → lifted_set p l ≡ q.config.lifted
  set_of_task k q u l task view e = ap (λ (x : List ℕ). lifted_set p x) (e ∙ ap (λ (x : Task State). x.path) view) ∙ sym task.least.0.calls

  pub filled_end : (k n : ℕ) (parents ts : List (Task State)) → n ≡ length parents → IsFilled p k parents n 0 ts → IsFilled p k parents (length parents) 0 ts
  filled_end k n parents ts e f = subst (λ (x : ℕ). IsFilled p k parents x 0 ts) e f
