-- How wide levels are, and which level a cut is at.
use Rattle.std.proofs.Common.{◌≡◌, ℕ, suc, ◌+◌, ◌<◌, ◌≤◌, Bool, true, false, List, [], ◌∷◌, length, ◌⊎◌, inl, inr, refl, sym, ◌∙◌, ap, subst, arith, nat_eq}
use Rattle.std.proofs.lemmas.Bool.Decides.{nat_tests}
use Rattle.std.specs.Cmp.{IsEquivalence}
use Rattle.lin_history.specs.Problems.Problem.{Problem}
use Rattle.lin_history.specs.Problems.Continuations.{no_calls}
use Rattle.lin_search.specs.NextCall.{HasEveryCompleted}
use Rattle.lin_search.specs.Count.{Among, AllApart}
use Rattle.lin_search.specs.CountLemmas.{no_longer}
use Rattle.lin_search.specs.AlikeLemmas.{AreAlike, turned}
use Rattle.lin_workers.specs.Cut.{LeadsTo, IsAtLevel, Task, IsTask, AreTasks, IsBeforeEach, AreInOrder, configurations_of, AreLevel, HasNoComplete, IsCut, HasWidth, IsLastLevel, IsMade, IsWidestMade}
use Rattle.lin_workers.specs.declared.tasks.cutting.TheConstants.{LAST_LEVEL}
use Rattle.lin_workers.specs.Levels.{AreLevels}
use Rattle.lin_workers.proofs.RunLemmas.{leads_root, leads_equal}
use Rattle.lin_workers.proofs.PathLemmas.{up_to_both}
use Rattle.lin_workers.proofs.LevelLemmas.{below_or_at}

module _ {State Op Reply : Type 0} (p : Problem State Op Reply) (alike : AreAlike p p) where
  equal : IsEquivalence p.same_state
  equal = alike.equal_states

  -- a task whose path stands before the paths of others is of another configuration than they
  apart_from : (k : ℕ) (t : Task State) (ts : List (Task State)) → IsTask p k t → AreTasks p k ts → IsBeforeEach t.path ts → Among p.same_state (configurations_of ts) t.config.lifted t.config.state → ⊥
  apart_from k t [] x xs before h = h
  apart_from k t (u ∷ ts) x xs before h = elim h [
    | inl q ↦ (
        let there = x.least.1 u.path (subst (λ (set : List Bool). LeadsTo p u.path set t.config.state) (sym q.0) (leads_equal p alike u.path u.config.lifted u.config.state t.config.state (turned alike t.config.state u.config.state q.1) xs.0.least.0)) in
        let back = xs.0.least.1 t.path (subst (λ (set : List Bool). LeadsTo p t.path set u.config.state) q.0 (leads_equal p alike t.path t.config.lifted t.config.state u.config.state q.1 x.least.0)) in
        before.0.1 (up_to_both t.path u.path there back)
        )
    | inr q ↦ apart_from k t ts x xs.1 before.1 q
  ]

  all_apart : (k : ℕ) (ts : List (Task State)) → AreTasks p k ts → AreInOrder ts → AllApart p.same_state (configurations_of ts)
  all_apart k [] xs o = tt
  all_apart k (t ∷ ts) xs o = (apart_from k t ts xs.0 xs.1 o.0, all_apart k ts xs.1 o.1)

  at_level : (k : ℕ) (ts : List (Task State)) → AreTasks p k ts → (set : List Bool) (s : State) → Among p.same_state (configurations_of ts) set s → IsAtLevel p k set s
  at_level k [] xs set s h = absurd h
  at_level k (t ∷ ts) xs set s h = elim h [
    | inl q ↦ (t.path, subst (λ (x : List Bool). LeadsTo p t.path x s) (sym q.0) (leads_equal p alike t.path t.config.lifted t.config.state s (turned alike s t.config.state q.1) xs.0.least.0), xs.0.calls)
    | inr q ↦ at_level k ts xs.1 set s q
  ]

  as_many : (ts : List (Task State)) → length (configurations_of ts) ≡ length ts
  as_many [] = refl
  as_many (t ∷ ts) = ap suc (as_many ts)

  -- a level is as wide as it has tasks
  pub width : (k : ℕ) (ts : List (Task State)) → AreLevel p k ts → HasWidth p k (length ts)
  width k ts level = (configurations_of ts, all_apart k ts level.each level.order, (λ set s. (level.every set s, at_level k ts level.each set s)), as_many ts)

  narrower : (k m n : ℕ) → HasWidth p k m → HasWidth p k n → m ≤ n
  narrower k m n a b =
      let h = no_longer p.same_state equal a.0 b.0 a.1 (λ set s x. (b.2 set s).0 ((a.2 set s).1 x)) in
      let e = a.3 in let f = b.3 in omega (arith, h, e, f)

  pub one_width : (k m n : ℕ) → HasWidth p k m → HasWidth p k n → m ≡ n
  one_width k m n a b = let x = narrower k m n a b in let y = narrower k n m b a in omega (arith, x, y)

  -- the root alone is of level 0
  pub first_level : (s : State) → p.same_state p.start s ≡ true → AreLevel p 0 (record { path = []; config = record { lifted = no_calls p; state = s } } ∷ [])
  first_level s same = record {
    each = (record { least = (leads_root p s same, λ m h. tt); calls = refl }, tt);
    order = (tt, tt);
    every = λ set t h. root set t h.0 h.1 h.2;
  }
    where
      root : (set : List Bool) (t : State) (l : List ℕ) → LeadsTo p l set t → length l ≡ 0 → Among p.same_state (record { lifted = no_calls p; state = s } ∷ []) set t
      root set t [] k e =
          let f = k.ends in
          inl (k.calls, equal.congr t p.start s (turned alike p.start t (subst (λ (x : State). p.same_state x t ≡ true) (sym f.1) f.2)) ∙ same)
      root set t (c ∷ l) k e = absurd (omega (arith, e))

  pub levels_first : (want : ℕ) (s : State) → p.same_state p.start s ≡ true → AreLevels p want 0 [] (record { path = []; config = record { lifted = no_calls p; state = s } } ∷ [])
  levels_first want s same = record {
    level = first_level s same;
    some = λ e. cc;
    made = λ j h. absurd (omega (arith, h));
    incomplete = λ j h. absurd (omega (arith, h));
    below = inl (refl, refl);
  }

  -- one level more, where the last was not the last to be made
  pub record IsMore (want n : ℕ) (widest last next : List (Task State)) : Type 0 where
    pub levels : AreLevels p want n widest last
    pub next_level : AreLevel p (n + 1) next
    pub some : next ≡ [] → ⊥
    pub less : n < LAST_LEVEL
    pub few : length last < want
    pub incomplete : HasNoComplete p n

  not_last : (want n : ℕ) (widest last next : List (Task State)) → IsMore want n widest last next → IsLastLevel p LAST_LEVEL want n → ⊥
  not_last want n widest last next m h = elim h [
    | inl q ↦ (let f = m.less in omega (arith, q, f))
    | inr (inl q) ↦ (let e = one_width n q.0 (length last) q.1 (width n last m.levels.level) in let f = m.few in let g = q.2 in omega (arith, e, f, g))
    | inr (inr (inl q)) ↦ m.incomplete q.0 q.1 q.2 q.3
    | inr (inr (inr q)) ↦ empty next m.next_level m.some q
  ]
    where
      empty : (ts : List (Task State)) → AreLevel p (n + 1) ts → (ts ≡ [] → ⊥) → ((set : List Bool) (s : State) → IsAtLevel p (n + 1) set s → ⊥) → ⊥
      empty [] level some none = some refl
      empty (t ∷ ts) level some none = none t.config.lifted t.config.state (at_level (n + 1) (t ∷ ts) level.each t.config.lifted t.config.state (inl (refl, equal.refl t.config.state)))

  made_more : (want n : ℕ) (widest last next : List (Task State)) → IsMore want n widest last next → IsMade p LAST_LEVEL want (n + 1)
  made_more want n widest last next m j h k = elim (below_or_at j n h) [
    | inl q ↦ m.levels.made j q k
    | inr q ↦ not_last want n widest last next m (subst (λ (x : ℕ). IsLastLevel p LAST_LEVEL want x) q k)
  ]

  incomplete_more : (want n : ℕ) (widest last next : List (Task State)) → IsMore want n widest last next → (j : ℕ) → j < n + 1 → HasNoComplete p j
  incomplete_more want n widest last next m j h = elim (below_or_at j n h) [
    | inl q ↦ m.levels.incomplete j q
    | inr q ↦ subst (λ (x : ℕ). HasNoComplete p x) (sym q) m.incomplete
  ]

  -- the last is wider than all below it
  pub levels_wider : (want n : ℕ) (widest last next : List (Task State)) → IsMore want n widest last next → length widest < length last → AreLevels p want (n + 1) last next
  levels_wider want n widest last next m wide = record {
    level = m.next_level;
    some = m.some;
    made = made_more want n widest last next m;
    incomplete = incomplete_more want n widest last next m;
    below = inr (
      n,
      omega arith,
      m.levels.level,
      m.levels.some,
      λ i w h k. elim (below_or_at i n h) [
        | inl q ↦ (let b = below_last i w q k in (omega (arith, b), λ x. b))
        | inr q ↦ (let e = one_width n w (length last) (subst (λ (x : ℕ). HasWidth p x w) q k) (width n last m.levels.level) in (omega (arith, e), λ x. absurd (omega (arith, x, q))))
      ],
    );
  }
    where
      below_last : (i w : ℕ) → i < n → HasWidth p i w → w < length last
      below_last i w h k = elim m.levels.below [
        | inl q ↦ absurd (let e = q.0 in omega (arith, e, h))
        | inr q ↦ (let b = (q.4 i w h k).0 in omega (arith, b, wide))
      ]

  -- one below is as wide
  pub levels_as_wide : (want n : ℕ) (widest last next : List (Task State)) → IsMore want n widest last next → length last ≤ length widest → AreLevels p want (n + 1) widest next
  levels_as_wide want n widest last next m wide = record {
    level = m.next_level;
    some = m.some;
    made = made_more want n widest last next m;
    incomplete = incomplete_more want n widest last next m;
    below = elim m.levels.below [
      | inl q ↦ absurd (m.levels.some (empty last (let e = q.1 in let f : length widest ≡ 0 = ap length e in omega (arith, wide, f))))
      | inr q ↦ inr (
        q.0,
        (let h = q.1 in omega (arith, h)),
        q.2,
        q.3,
        λ i w h k. elim (below_or_at i n h) [
          | inl r ↦ q.4 i w r k
          | inr r ↦ (
              let e = one_width n w (length last) (subst (λ (x : ℕ). HasWidth p x w) r k) (width n last m.levels.level) in
              (omega (arith, e, wide), λ x. absurd (let h = q.1 in omega (arith, x, r, h)))
              )
        ],
      )
    ];
  }
    where
      empty : (ts : List (Task State)) → length ts ≡ 0 → ts ≡ []
      empty [] e = refl
      empty (t ∷ ts) e = absurd (omega (arith, e))

  -- where the last level is the last to be made, every level made is one of these
  made_is : (want n : ℕ) (widest last : List (Task State)) → AreLevels p want n widest last → IsLastLevel p LAST_LEVEL want n → (j : ℕ) → IsMade p LAST_LEVEL want j → j < n + 1
  made_is want n widest last levels is_last j made = elim (order j n) [ inl q ↦ q | inr q ↦ absurd (made n q is_last) ]
    where
      order : (j n : ℕ) → (j < n + 1) ⊎ (n < j)
      order j n = grind arith

  pub cut_last : (want n : ℕ) (widest last : List (Task State)) → AreLevels p want n widest last → IsLastLevel p LAST_LEVEL want n → length widest < length last → IsCut p n last × IsWidestMade p LAST_LEVEL want n
  cut_last want n widest last levels is_last wide = (
    record { level = levels.level; some = levels.some; incomplete = levels.incomplete },
    record {
      made = levels.made;
      widest = λ j w v made a b. (
          let e = one_width n v (length last) b (width n last levels.level) in
          elim (below_or_at j n (made_is want n widest last levels is_last j made)) [
            | inl q ↦ (let c = below_last j w q a in omega (arith, c, e))
            | inr q ↦ (let f = one_width n w v (subst (λ (x : ℕ). HasWidth p x w) q a) b in omega (arith, f))
          ]
          );
      lowest = λ j w v h a b. (let e = one_width n v (length last) b (width n last levels.level) in let c = below_last j w h a in omega (arith, c, e));
    },
  )
    where
      below_last : (i w : ℕ) → i < n → HasWidth p i w → w < length last
      below_last i w h k = elim levels.below [
        | inl q ↦ absurd (let e = q.0 in omega (arith, e, h))
        | inr q ↦ (let b = (q.4 i w h k).0 in omega (arith, b, wide))
      ]

  pub cut_below : (want n : ℕ) (widest last : List (Task State)) → AreLevels p want n widest last → IsLastLevel p LAST_LEVEL want n → length last ≤ length widest → (k : ℕ) × IsCut p k widest × IsWidestMade p LAST_LEVEL want k
  cut_below want n widest last levels is_last wide = elim levels.below [
    | inl q ↦ absurd (levels.some (empty last (let e = q.1 in let f : length widest ≡ 0 = ap length e in omega (arith, wide, f))))
    | inr q ↦ (
      q.0,
      record { level = q.2; some = q.3; incomplete = λ j h. levels.incomplete j (let x = q.1 in omega (arith, x, h)) },
      record {
        made = λ j h. levels.made j (let x = q.1 in omega (arith, x, h));
        widest = λ j w v made a b. (
            let e = one_width q.0 v (length widest) b (width q.0 widest q.2) in
            elim (below_or_at j n (made_is want n widest last levels is_last j made)) [
              | inl r ↦ (let c = (q.4 j w r a).0 in omega (arith, c, e))
              | inr r ↦ (let f = one_width n w (length last) (subst (λ (x : ℕ). HasWidth p x w) r a) (width n last levels.level) in omega (arith, f, e, wide))
            ]
            );
        lowest = λ j w v h a b. (
            let e = one_width q.0 v (length widest) b (width q.0 widest q.2) in
            let x = q.1 in
            let c = (q.4 j w (omega (arith, x, h)) a).1 h in
            omega (arith, c, e)
            );
      },
    )
  ]
    where
      empty : (ts : List (Task State)) → length ts ≡ 0 → ts ≡ []
      empty [] e = refl
      empty (t ∷ ts) e = absurd (omega (arith, e))

  no_task : (ts : List (Task State)) → length ts ≡ 0 → ts ≡ []
  no_task [] e = refl
  no_task (t ∷ ts) e = absurd (omega (arith, e))

  -- no level is made after one that has as many configurations as are wanted
  pub last_wide : (want n : ℕ) (widest last : List (Task State)) → want ≤ length last → AreLevels p want n widest last → IsLastLevel p LAST_LEVEL want n
  last_wide want n widest last h levels = inr (inl (length last, width n last levels.level, h))

  -- nor after one that has a complete one
  pub last_complete : (want n : ℕ) (widest last : List (Task State)) → ((k : ℕ) → AreLevel p k last → (set : List Bool) × (s : State) × IsAtLevel p k set s × HasEveryCompleted p set) → AreLevels p want n widest last → IsLastLevel p LAST_LEVEL want n
  last_complete want n widest last h levels = inr (inr (inl (h n levels.level)))

  -- nor after one that no call goes on from
  pub last_empty : (want n : ℕ) (widest last next : List (Task State)) → ((k : ℕ) → AreLevel p k last → AreLevel p (k + 1) next) → length next ≡ 0 → AreLevels p want n widest last → IsLastLevel p LAST_LEVEL want n
  last_empty want n widest last next h e levels =
      inr (inr (inr (λ set s at. subst (λ (x : List (Task State)). Among p.same_state (configurations_of x) set s) (no_task next e) ((h n levels.level).every set s at))))

  -- the next level was made
  pub levels_more : (want n : ℕ) (widest last next wide now : List (Task State)) → n < LAST_LEVEL → length last < want → ((k : ℕ) → AreLevel p k last → HasNoComplete p k) → ((k : ℕ) → AreLevel p k last → AreLevel p (k + 1) next) → (length next ≡ 0 → ⊥) → now ≡ next → (length widest < length last → wide ≡ last) → (length last ≤ length widest → wide ≡ widest) → AreLevels p want n widest last → AreLevels p want (n + 1) wide now
  levels_more want n widest last next wide now less few incomplete level some is_next wider as_wide levels =
      subst (λ (x : List (Task State)). AreLevels p want (n + 1) wide x) (sym is_next) (elim (order (length widest) (length last)) [
        | inl q ↦ subst (λ (x : List (Task State)). AreLevels p want (n + 1) x next) (sym (wider q)) (levels_wider want n widest last next more q)
        | inr q ↦ subst (λ (x : List (Task State)). AreLevels p want (n + 1) x next) (sym (as_wide q)) (levels_as_wide want n widest last next more q)
      ])
    where
      order : (a b : ℕ) → (a < b) ⊎ (b ≤ a)
      order a b = grind arith

      more : IsMore want n widest last next
      more = record {
        levels = levels;
        next_level = level n levels.level;
        some = λ e. some (ap length e);
        less = less;
        few = few;
        incomplete = incomplete n levels.level;
      }

  -- the widest of all levels is a cut
  pub cut_widest : (want n : ℕ) (widest last result : List (Task State)) → (length widest < length last → result ≡ last) → (length last ≤ length widest → result ≡ widest) → AreLevels p want n widest last → IsLastLevel p LAST_LEVEL want n → (k : ℕ) × IsCut p k result × IsWidestMade p LAST_LEVEL want k
  cut_widest want n widest last result wider as_wide levels is_last = elim (order (length widest) (length last)) [
    | inl q ↦ (let c = cut_last want n widest last levels is_last q in (n, subst (λ (x : List (Task State)). IsCut p n x) (sym (wider q)) c.0, c.1))
    | inr q ↦ (let c = cut_below want n widest last levels is_last q in (c.0, subst (λ (x : List (Task State)). IsCut p c.0 x) (sym (as_wide q)) c.1, c.2))
  ]
    where
      order : (a b : ℕ) → (a < b) ⊎ (b ≤ a)
      order a b = grind arith

-- what the test of no item tells
pub some_are : (n : ℕ) (b : Bool) → b ≡ nat_eq n 0 → b ≡ false → n ≡ 0 → ⊥
some_are n b x y z = grind (arith, nat_tests, x, y, z)
