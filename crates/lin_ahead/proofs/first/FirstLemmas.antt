-- What a first search knows of the calls that it has tried, and its steps.
use Rattle.std.proofs.Common.{◌≡◌, ℕ, zero, suc, ◌+◌, ◌-◌, ◌*◌, ◌<◌, ◌≤◌, Bool, true, false, Option, Some, None, List, [], ◌∷◌, ◌++◌, length, length-append, ◌⊎◌, inl, inr, refl, sym, ◌∙◌, ap, subst, arith, append-nil, ◌||◌, Result, Ok, Err}
use Rattle.std.specs.Prelude.{IfOk, IfSome}
use Rattle.std.specs.List.{list_any}
use Rattle.std.proofs.lemmas.Bool.{cases_lt}
use Rattle.lin_history.specs.Problems.Problem.{Problem}
use Rattle.lin_history.specs.Problems.Lists.{IsUpTo, IsLeast}
use Rattle.lin_history.specs.Problems.Continuations.{IsContinuation, IsCompletion, no_calls}
use Rattle.lin_history.specs.Problems.Linearizations.{IsRun, IsLinearization}
use Rattle.lin_history.specs.Problems.Configurations.{IsReachable, IsRefuted}
use Rattle.lin_object.specs.declared.step_back.Change.{Change}
use Rattle.lin_search.specs.AlikeLemmas.{AreAlike, turned, like_completion, alike_reachable, alike_many}
use Rattle.lin_search.specs.CallSet.{with_call, with_calls, lifted_set}
use Rattle.lin_search.specs.CallSetLemmas.{with_append}
use Rattle.lin_search.specs.Configuration.{Configuration, same_configuration}
use Rattle.lin_search.specs.Count.{Among}
use Rattle.lin_search.specs.Entries.{IsMinimal, IsLeastMinimal}
use Rattle.lin_search.specs.FirstCallLemmas.{completion_join, complete_none, none_completes, next_within, tail_completes, completion_split}
use Rattle.lin_search.specs.ExchangeLemmas.{exchanged_completes}
use Rattle.lin_search.specs.FrontLemmas.{front_completes}
use Rattle.lin_search.specs.NeedlessCalls.{exchange, without, StandsFor}
use Rattle.lin_search.specs.NextCall.{IsNext, HasEveryCompleted}
use Rattle.lin_search.specs.Path.{Frame, KeptFrame, Level, levels, calls_of, frames_of}
use Rattle.lin_search.specs.declared.longest.Longest.{Longest}
use Rattle.lin_search.specs.Progress.{IsContinuationBelow, HasLifts, AreLifts, bound}
use Rattle.lin_search.specs.Size.{AllDifferent, EachOf, HasMany, HasMoreThan}
use Rattle.lin_ahead.specs.First.FirstProgress.{BeginsNone, ComesAfter, IsPassed, IsPassedLevel, IsPassedPath, AreRefuted, IsFirstProgress, IsFirstLifted, left_to_try}
use Rattle.lin_search.proofs.LookupLemmas.{parts_same}
use Rattle.lin_search.proofs.PathLemmas.{calls_along, level_of, levels_end, calls_levels, calls_pushed, next_minimal, none_between, bound_within, counted_pop, lifts_to, lifts_hit, lifts_push, minimal_of, way_on}
use Rattle.lin_search.proofs.ProgressLemmas.{below_cases}
use Rattle.lin_search.proofs.SizeLemmas.{many_none, many_all, many_step, many_as}

module _ {State Op Reply : Type 0} (p : Problem State Op Reply) where
  passed_start : (set : List Bool) (s : State) → (HasEveryCompleted p set → ⊥) → IsPassed p set s 0
  passed_start set s open_call [] k b = open_call (complete_none p set s k)
  passed_start set s open_call (c ∷ cs) k b = omega (arith, b)

  -- a call that begins no completion
  passed_step : (set : List Bool) (s : State) (i : ℕ) → IsPassed p set s i → BeginsNone p set s i → IsPassed p set s (i + 1)
  passed_step set s i passed none l k b = elim (below_cases p i l b) [
    | inl h ↦ passed l k h
    | inr q ↦ none q.0 (subst (λ (m : List ℕ). IsCompletion p set s m) q.1 k)
  ]

  -- calls that can't follow are passed over
  passed_to : (set : List Bool) (s : State) (i j : ℕ) → length set ≡ length p.calls → IsPassed p set s i → ((c : ℕ) → i ≤ c → c < j → (t : State) → IsNext p set s c t → ⊥) → IsPassed p set s j
  passed_to set s i j flags passed none [] k b = passed [] k tt
  passed_to set s i j flags passed none (c ∷ cs) k b = elim (cases_lt c i) [
    | inl h ↦ passed (c ∷ cs) k h
    | inr h ↦ (let n = completion_split p set s c cs flags k in none c h b n.0 n.1)
  ]

  -- a call after which there is no completion
  begins_refuted : (set : List Bool) (s : State) (i : ℕ) (t : State) → length set ≡ length p.calls → IsNext p set s i t → ((l : List ℕ) → IsCompletion p (with_call set i) t l → ⊥) → BeginsNone p set s i
  begins_refuted set s i t flags next none cs k = none cs (tail_completes p set s i t flags next cs k)

  -- a call that can't follow
  pub begins_skipped : (set : List Bool) (s : State) (i : ℕ) → length set ≡ length p.calls → ((t : State) → IsNext p set s i t → ⊥) → BeginsNone p set s i
  begins_skipped set s i flags none cs k = let n = completion_split p set s i cs flags k in none n.0 n.1

  passed_all : (set : List Bool) (s : State) → length set ≡ length p.calls → IsPassed p set s (length p.calls) → (l : List ℕ) → IsCompletion p set s l → ⊥
  passed_all set s flags passed [] k = passed [] k tt
  passed_all set s flags passed (c ∷ cs) k = passed (c ∷ cs) k (let q = completion_split p set s c cs flags k in next_within p s q.0 c q.1.step)

  passed_found : (set : List Bool) (s : State) (i : ℕ) (t : State) (m : List ℕ) → length set ≡ length p.calls → IsPassed p set s i → IsNext p set s i t → IsLeast (IsCompletion p (with_call set i) t) m → IsLeast (IsCompletion p set s) (i ∷ m)
  passed_found set s i t m flags passed next least = (completion_join p set s i m t flags next least.0, up_to)
    where
      three : (c i : ℕ) → (c < i) ⊎ ((c ≡ i) ⊎ (i < c))
      three c i = grind arith

      up_to : (l : List ℕ) → IsCompletion p set s l → IsUpTo (i ∷ m) l
      up_to [] k = absurd (passed [] k tt)
      up_to (c ∷ cs) k = elim (three c i) [
        | inl h ↦ absurd (passed (c ∷ cs) k h)
        | inr (inl h) ↦ inr (sym h, least.1 cs (tail_completes p set s i t flags next cs (subst (λ (x : ℕ). IsCompletion p set s (x ∷ cs)) h k)))
        | inr (inr h) ↦ inl h
      ]

  -- the levels, with one put on or taken off at the end
  passed_push : (fs : List (Level State)) (f : Level State) (set : List Bool) (s u : State) → IsPassedPath p set s fs f.config.lifted f.config.state → IsPassedLevel p f u → IsPassedPath p set s (fs ++ f ∷ []) (with_call f.config.lifted f.call) u
  passed_push [] f set s u k h = (k.0, k.1, (u, h, (refl, refl)))
  passed_push (g ∷ fs) f set s u k h = let q = k.2 in (k.0, k.1, (q.0, q.1, passed_push fs f (with_call g.config.lifted g.call) q.0 u q.2 h))

  passed_pop : (fs : List (Level State)) (f : Level State) (set : List Bool) (s : State) (a : List Bool) (t : State) → IsPassedPath p set s (fs ++ f ∷ []) a t → IsPassedPath p set s fs f.config.lifted f.config.state × IsPassedLevel p f t × (with_call f.config.lifted f.call ≡ a)
  passed_pop [] f set s a t k = let q = k.2 in let r = q.2 in ((k.0, k.1), subst (λ (x : State). IsPassedLevel p f x) r.1 q.1, r.0)
  passed_pop (g ∷ fs) f set s a t k =
      let q = k.2 in
      let r = passed_pop fs f (with_call g.config.lifted g.call) q.0 a t q.2 in
      ((k.0, k.1, (q.0, q.1, r.0)), r.1, r.2)

  -- the calls of the levels and a least completion of where they lead are one of where they begin
  passed_lead : (fs : List (Level State)) (set : List Bool) (s : State) (a : List Bool) (t : State) (l : List ℕ) → IsPassedPath p set s fs a t → IsLeast (IsCompletion p a t) l → IsLeast (IsCompletion p set s) (calls_along fs ++ l)
  passed_lead [] set s a t l k h = rw (k.0, k.1) h
  passed_lead (f ∷ fs) set s a t l k h =
      let q = k.2 in
      let r = passed_lead fs (with_call f.config.lifted f.call) q.0 a t l q.2 h in
      rw (k.0, k.1) (passed_found f.config.lifted f.config.state f.call q.0 (calls_along fs ++ l) q.1.reachable.flags q.1.passed q.1.next r)

  passed_calls : (fs : List (Level State)) (set : List Bool) (s : State) (a : List Bool) (t : State) → IsPassedPath p set s fs a t → with_calls set (calls_along fs) ≡ a
  passed_calls [] set s a t k = k.0
  passed_calls (f ∷ fs) set s a t k =
      let q = k.2 in
      ap (λ (x : List Bool). with_calls (with_call x f.call) (calls_along fs)) k.0 ∙ passed_calls fs (with_call f.config.lifted f.call) q.0 a t q.2

  -- what the configuration at the end has of continuations, the one at the begin has after the levels' calls
  passed_many : (fs : List (Level State)) (set : List Bool) (s : State) (a : List Bool) (t : State) (n k : ℕ) → IsPassedPath p set s fs a t → HasLifts p fs n → HasMany (IsContinuation p a t) k → HasMany (IsContinuation p set s) (n + k)
  passed_many [] set s a t n k l c h = rw (l.0, l.1) (many_as (IsContinuation p a t) k (n + k) (omega (arith, c)) h)
  passed_many (f ∷ fs) set s a t n k l c h =
      let q = l.2 in
      let r = passed_many fs (with_call f.config.lifted f.call) q.0 a t c.1 k q.2 c.3 h in
      let e = c.4 in
      rw (l.0, l.1) (many_as (IsContinuation p f.config.lifted f.config.state) (c.0 + 1 + (c.1 + k)) (n + k) (omega (arith, e)) (many_all p f.config.lifted f.config.state (f.call + 1) (c.0 + 1 + (c.1 + k)) (many_step p f.config.lifted f.config.state f.call q.0 c.0 (c.1 + k) q.1.reachable.flags q.1.next c.2 r)))

  -- all calls here were tried, and the search goes on after the last level's call
  passed_lifts : (fs : List (Level State)) (f : Level State) (a : List Bool) (t : State) (i n : ℕ) → IsPassedLevel p f t → with_call f.config.lifted f.call ≡ a → AreLifts p (fs ++ f ∷ []) a t i n → AreLifts p fs f.config.lifted f.config.state (f.call + 1) n
  passed_lifts fs f a t i n h e k =
      let q = counted_pop p fs f k.on_path k.path in
      let below : HasMany (IsContinuation p (with_call f.config.lifted f.call) t) k.below = rw e (many_all p a t i k.below k.many) in
      record {
        on_path = q.1;
        below = q.0 + 1 + k.below;
        path = q.2;
        many = many_step p f.config.lifted f.config.state f.call t q.0 k.below h.reachable.flags h.next q.3 below;
        total = (let d = k.total in let g = q.4 in omega (arith, d, g));
      }

  -- one call more can follow than were lifted
  passed_more : (fs : List (Level State)) (root : List Bool) (start : State) (set : List Bool) (s : State) (i n : ℕ) (t : State) → IsPassedPath p root start fs set s → length set ≡ length p.calls → IsNext p set s i t → AreLifts p fs set s i n → HasMany (IsContinuation p root start) (n + 1)
  passed_more fs root start set s i n t path flags next k =
      let d = k.total in
      many_as (IsContinuation p root start) (k.on_path + (k.below + 1 + 0)) (n + 1) (omega (arith, d))
      (passed_many fs root start set s k.on_path (k.below + 1 + 0) path k.path (many_all p set s (i + 1) (k.below + 1 + 0) (many_step p set s i t k.below 0 flags next k.many (many_none (IsContinuation p (with_call set i) t)))))

  -- to the next minimal call, from one after a call that begins no completion
  passed_on : (here : Configuration State) (i : ℕ) (candidate : Option ℕ) → length here.lifted ≡ length p.calls → IsPassed p here.lifted here.state i → IsLeastMinimal p here.lifted i candidate → IsPassed p here.lifted here.state (bound p candidate)
  passed_on here i candidate flags passed least = passed_to here.lifted here.state i (bound p candidate) flags passed (none_between p here.lifted here.state i candidate least)

  -- the same after a call that was tried and leads somewhere: behind one that leaves each state as it is nothing is left to try
  passed_after : AreAlike p p → (here : Configuration State) (c : ℕ) (t : State) (candidate : Option ℕ) → length here.lifted ≡ length p.calls → IsPassed p here.lifted here.state (c + 1) → IsNext p here.lifted here.state c t → ComesAfter p here.lifted c candidate → IsPassed p here.lifted here.state (bound p candidate)
  passed_after alike here c t candidate flags passed next (inl least) = passed_on here (c + 1) candidate flags passed least
  passed_after alike here c t candidate flags passed next (inr (none, leaves)) = λ l k b. passed (c ∷ without c l) (front_completes p alike c leaves here.lifted here.state t next l k) (omega arith)

  minimal_after : (set : List Bool) (c : ℕ) (candidate : Option ℕ) → ComesAfter p set c candidate → IfSome candidate (λ (d : ℕ). IsMinimal p set d)
  minimal_after set c candidate (inl least) = minimal_of p set (c + 1) candidate least
  minimal_after set c None (inr (none, leaves)) = tt
  minimal_after set c (Some d) (inr (none, leaves)) = absurd (cc)

  way_after : (set : List Bool) (c : ℕ) (candidate : Option ℕ) → IsMinimal p set c → ComesAfter p set c candidate → c + 1 ≤ bound p candidate
  way_after set c candidate minimal (inl least) = way_on set c candidate minimal least
  way_after set c None minimal (inr (none, leaves)) = let h = minimal.within in omega (arith, h)
  way_after set c (Some d) minimal (inr (none, leaves)) = absurd (cc)

  -- where a call that begins no completion stands for another one, that one begins none either
  pub identical_begins_none : AreAlike p p → (set : List Bool) (s : State) (a b : ℕ) → StandsFor p set s a b → IsPassed p set s b → BeginsNone p set s b
  identical_begins_none alike set s a b stands passed = λ cs k. passed (a ∷ exchange a b cs) (exchanged_completes p alike set s a b stands cs k) stands.less

-- so many lists, of which there are more
one_fewer : (P : List ℕ → Type 0) (n : ℕ) (lists : List (List ℕ)) → AllDifferent lists → EachOf (λ (l : List ℕ). P l × (l ≡ [] → ⊥)) lists → length lists ≡ suc n → HasMany P n
one_fewer P n [] d e c = absurd (omega (arith, c))
one_fewer P n (l ∷ ls) d e c = record { lists = ls; different = d.1; each = e.1; count = omega (arith, c) }

pub many_fewer : (P : List ℕ → Type 0) (n k : ℕ) → n ≤ k → HasMany P k → HasMany P n
many_fewer P n zero h many = many_as P 0 n (omega (arith, h)) many
many_fewer P n (suc k) h many = elim (cases_lt k n) [
  | inl last ↦ many_as P (suc k) n (omega (arith, h, last)) many
  | inr more ↦ many_fewer P n k more (one_fewer P k many.lists many.different many.each many.count)
]

-- there are as many frames with states as are kept
frames_length : {State : Type 0} (undone : Change → State → State) (frames : List (KeptFrame State)) (t : State) → length (frames_of undone frames t) ≡ length frames
frames_length undone [] t = refl
frames_length undone (f ∷ fs) t = ap (λ (n : ℕ). suc n) (frames_length undone fs t)

-- less is left to try of frames with states, and so of those that are kept
pub left_less : {State : Type 0} (undone : Change → State → State) (n : ℕ) (some all : List (KeptFrame State)) (s t : State) (i j : ℕ) → left_to_try n (frames_of undone some s) i < left_to_try n (frames_of undone all t) j → left_to_try n some i < left_to_try n all j
left_less undone n some all s t i j h = rw (frames_length undone some s, frames_length undone all t) at h

-- where a result is well, three facts of it give a fourth
pub ok_three : {T E : Type 0} (P Q R S : T → Type 0) (r : Result T E) → ((x : T) → P x → Q x → R x → S x) → IfOk r P → IfOk r Q → IfOk r R → IfOk r S
ok_three P Q R S (Ok x) f a b c = f x a b c
ok_three P Q R S (Err e) f a b c = tt

-- what is among the configurations that a look-up finds
pub among_if : {State : Type 0} (same : State → State → Bool) (k : Configuration State) (kept : List (Configuration State)) → list_any (same_configuration same k) kept ≡ true → Among same kept k.lifted k.state
among_if same k [] e = absurd (cc)
among_if same k (x ∷ xs) e = by (same_configuration same k x) refl e (among_if same k xs)
  where
    by : (b : Bool) → same_configuration same k x ≡ b → (b || list_any (same_configuration same k) xs) ≡ true → (list_any (same_configuration same k) xs ≡ true → Among same xs k.lifted k.state) → Among same (x ∷ xs) k.lifted k.state
    by true f e rest = inl (parts_same same k x f)
    by false f e rest = inr (rest e)

module _ {State Op Reply : Type 0} {p : Problem State Op Reply} where
  -- what is equal to a refuted configuration is refuted
  pub refuted_same : AreAlike p p → (here copy : Configuration State) → copy.lifted ≡ here.lifted → p.same_state copy.state here.state ≡ true → IsRefuted p here.lifted here.state → IsRefuted p copy.lifted copy.state
  refuted_same alike here copy lifted same k = rw lifted (record {
    reachable = alike_reachable alike here.lifted here.state copy.state (turned alike copy.state here.state same) k.reachable;
    none = λ l c. k.none l (like_completion alike.there here.lifted copy.state here.state l same c);
  })

  -- the same of what is equal to one of them
  pub refuted_among : AreAlike p p → (kept : List (Configuration State)) (set : List Bool) (s : State) → AreRefuted p kept → Among p.same_state kept set s → IsRefuted p set s
  refuted_among alike [] set s k h = absurd h
  refuted_among alike (x ∷ xs) set s k h = elim h [
    | inl q ↦ refuted_same alike x (record { lifted = set; state = s }) q.0 q.1 k.0
    | inr more ↦ refuted_among alike xs set s k.1 more
  ]

  pub refuted_more : (kept : List (Configuration State)) (config : Configuration State) → AreRefuted p kept → IsRefuted p config.lifted config.state → AreRefuted p (kept ++ config ∷ [])
  refuted_more [] config k h = (h, tt)
  refuted_more (x ∷ xs) config k h = (k.0, refuted_more xs config k.1 h)

  pub refuted_kept : (kept new : List (Configuration State)) (config : Configuration State) → (new ≡ kept) ⊎ (new ≡ kept ++ config ∷ []) → AreRefuted p kept → IsRefuted p config.lifted config.state → AreRefuted p new
  refuted_kept kept new config added k h = elim added [
    | inl same ↦ rw same k
    | inr more ↦ rw more (refuted_more kept config k h)
  ]

  -- the frames' calls lead to the set here
  first_set : (kept : List (Configuration State)) (lifts : ℕ) (lifted : List ℕ) (fs : List (Frame State)) (here : Configuration State) (candidate : Option ℕ) → IsFirstProgress p kept lifts lifted fs here candidate → with_calls (no_calls p) (calls_of fs) ≡ here.lifted
  first_set kept lifts lifted fs here candidate k = rw calls_levels at (passed_calls p (levels (no_calls p) fs) (no_calls p) k.root here.lifted here.state k.path)

  -- the calls lifted are those of the configuration here
  pub first_calls : (kept : List (Configuration State)) (lifts : ℕ) (lifted : List ℕ) (fs : List (Frame State)) (here : Configuration State) (candidate : Option ℕ) → IsFirstProgress p kept lifts lifted fs here candidate → lifted_set p lifted ≡ here.lifted
  first_calls kept lifts lifted fs here candidate k =
      rw (k.calls.1, with_append (no_calls p) k.calls.0 (calls_of fs), k.calls.2) (first_set kept lifts lifted fs here candidate k)

  pub first_start : AreAlike p p → (kept : List (Configuration State)) (lifts : ℕ) (lifted : List ℕ) (fs : List (Frame State)) (here : Configuration State) (candidate : Option ℕ) → AreRefuted p kept → lifts ≡ 0 → fs ≡ [] → here.lifted ≡ no_calls p → p.same_state here.state p.start ≡ true → lifted_set p lifted ≡ here.lifted → IsReachable p here.lifted here.state → (HasEveryCompleted p here.lifted → ⊥) → IsLeastMinimal p here.lifted 0 candidate → IsFirstProgress p kept lifts lifted fs here candidate
  first_start alike kept lifts lifted fs here candidate are zero_lifts none root start set reachable open_call least = rw (zero_lifts, none) (record {
    alike = alike;
    refuted = are;
    root = here.state;
    start = start;
    path = (sym root, refl);
    calls = (lifted, sym (append-nil lifted), set ∙ root);
    reachable = reachable;
    passed = passed_on p here 0 candidate reachable.flags (passed_start p here.lifted here.state open_call) least;
    minimal = minimal_of p here.lifted 0 candidate least;
    count = record { on_path = 0; below = 0; path = refl; many = many_none (IsContinuationBelow p here.lifted here.state (bound p candidate)); total = refl };
  })

  try_on : (fs : List (Frame State)) (set : List Bool) (c : ℕ) (candidate : Option ℕ) → IsMinimal p set c → IsLeastMinimal p set (c + 1) candidate → left_to_try (length p.calls) fs (bound p candidate) < left_to_try (length p.calls) fs c
  try_on fs set c candidate minimal least =
      let on = way_on set c candidate minimal least in
      let within = bound_within p set (c + 1) candidate least in
      less (length fs * (length p.calls + 1)) (length p.calls) c (bound p candidate) on within
    where
      less : (a n c b : ℕ) → c + 1 ≤ b → b ≤ n → a + (n - b) < a + (n - c)
      less a n c b h k = omega (arith, h, k)

  -- no completion begins with the candidate
  pub first_skip : (kept : List (Configuration State)) (lifts : ℕ) (lifted : List ℕ) (fs : List (Frame State)) (here : Configuration State) (c : ℕ) (candidate : Option ℕ) → IsFirstProgress p kept lifts lifted fs here (Some c) → BeginsNone p here.lifted here.state c → IsLeastMinimal p here.lifted (c + 1) candidate → IsFirstProgress p kept lifts lifted fs here candidate × (left_to_try (length p.calls) fs (bound p candidate) < left_to_try (length p.calls) fs c)
  first_skip kept lifts lifted fs here c candidate k none least = (
    record {
      alike = k.alike;
      refuted = k.refuted;
      root = k.root;
      start = k.start;
      path = k.path;
      calls = k.calls;
      reachable = k.reachable;
      passed = passed_on p here (c + 1) candidate k.reachable.flags (passed_step p here.lifted here.state c k.passed none) least;
      minimal = minimal_of p here.lifted (c + 1) candidate least;
      count = lifts_to p (levels (no_calls p) fs) here.lifted here.state c (bound p candidate) lifts (let on = way_on here.lifted c candidate k.minimal least in omega (arith, on)) k.count;
    },
    try_on fs here.lifted c candidate k.minimal least,
  )

  -- the candidate was lifted
  pub first_lifted : (kept : List (Configuration State)) (made : ℕ) (before lifted : List ℕ) (fs : List (Frame State)) (from here : Configuration State) (c : ℕ) (longest : Longest) (f : Frame State) → IsFirstProgress p kept made before fs from (Some c) → IsNext p from.lifted from.state c here.state → IsReachable p (with_call from.lifted c) here.state → lifted ≡ before ++ c ∷ [] → here.lifted ≡ with_call from.lifted c → f ≡ record { state = from.state; call = c; longest = longest } → IsFirstLifted p kept (made + 1) lifted fs f here
  first_lifted kept made before lifted fs from here c longest f progress follows reachable last set is = rw is (record {
    from = from;
    before = before;
    made = made;
    count = refl;
    progress = progress;
    last = last;
    state = refl;
    set = set;
    next = follows;
    reachable = rw set reachable;
  })

  module _ (kept : List (Configuration State)) (lifts : ℕ) (lifted : List ℕ) (fs : List (Frame State)) (f : Frame State) (here : Configuration State) (k : IsFirstLifted p kept lifts lifted fs f here) where
    from_set : lifted_set p k.before ≡ k.from.lifted
    from_set = first_calls kept k.made k.before fs k.from (Some f.call) k.progress

    pub lifted_here : lifted_set p lifted ≡ here.lifted
    lifted_here = rw (k.last, with_append (no_calls p) k.before (f.call ∷ []), from_set, k.set) refl

    pub lifted_last : (b : List ℕ) × (lifted ≡ b ++ f.call ∷ []) × IsMinimal p (lifted_set p b) f.call
    lifted_last = (k.before, k.last, rw from_set k.progress.minimal)

    -- the configuration is refuted, and the call was taken out again
    pub first_hit : (unlifted : List ℕ) (now : Configuration State) (candidate : Option ℕ) → ((b : List ℕ) → lifted ≡ b ++ f.call ∷ [] → unlifted ≡ b) → lifted_set p unlifted ≡ now.lifted → now.state ≡ f.state → IsRefuted p here.lifted here.state → ComesAfter p now.lifted f.call candidate → IsFirstProgress p kept lifts unlifted fs now candidate
    first_hit unlifted now candidate without_last set state refuted least =
        let back = without_last k.before k.last in
        let lifted_is : now.lifted ≡ k.from.lifted = sym set ∙ ap (λ (l : List ℕ). lifted_set p l) back ∙ from_set in
        let state_is : now.state ≡ k.from.state = state ∙ k.state in
        let is : now ≡ k.from = rw (lifted_is, state_is) refl in
        let q = k.progress in
        rw (is, back, k.count) (record {
          alike = q.alike;
          refuted = q.refuted;
          root = q.root;
          start = q.start;
          path = q.path;
          calls = q.calls;
          reachable = q.reachable;
          passed = passed_after p q.alike k.from f.call here.state candidate q.reachable.flags (passed_step p k.from.lifted k.from.state f.call q.passed (begins_refuted p k.from.lifted k.from.state f.call here.state q.reachable.flags k.next (rw k.set at refuted.none))) k.next (rw is at least);
          minimal = minimal_after p k.from.lifted f.call candidate (rw is at least);
          count = lifts_to p (levels (no_calls p) fs) k.from.lifted k.from.state (f.call + 1) (bound p candidate) (k.made + 1) (way_after p k.from.lifted f.call candidate q.minimal (rw is at least)) (lifts_hit p (levels (no_calls p) fs) k.from.lifted k.from.state f.call k.made here.state q.reachable.flags k.next q.count);
        })

    -- the search goes on from what the call led to
    pub first_push : (new : List (Frame State)) (candidate : Option ℕ) → new ≡ fs ++ f ∷ [] → (HasEveryCompleted p here.lifted → ⊥) → IsLeastMinimal p here.lifted 0 candidate → IsFirstProgress p kept lifts lifted new here candidate
    first_push new candidate pushed open_call least =
        let q = k.progress in
        let ls = levels (no_calls p) fs in
        let l = level_of k.from f in
        let ends = levels_end (no_calls p) fs f k.from (first_set kept k.made k.before fs k.from (Some f.call) q) k.state in
        let level : IsPassedLevel p l here.state = record { reachable = q.reachable; passed = q.passed; next = k.next } in
        rw (pushed, k.count) (record {
          alike = q.alike;
          refuted = q.refuted;
          root = q.root;
          start = q.start;
          path = rw (ends, k.set) (passed_push p ls l (no_calls p) q.root here.state q.path level);
          calls = (q.calls.0, k.last ∙ ap (λ (l : List ℕ). l ++ f.call ∷ []) q.calls.1 ∙ sym (calls_pushed q.calls.0 fs f), q.calls.2);
          reachable = k.reachable;
          passed = passed_on p here 0 candidate k.reachable.flags (passed_start p here.lifted here.state open_call) least;
          minimal = minimal_of p here.lifted 0 candidate least;
          count = rw ends (lifts_push p ls l here.lifted here.state (bound p candidate) k.made q.count);
        })

    -- the call completes
    pub first_found : HasEveryCompleted p here.lifted → IsLeast (IsLinearization p) (calls_of fs ++ f.call ∷ [])
    first_found all =
        let q = k.progress in
        let here_least = passed_found p k.from.lifted k.from.state f.call here.state [] q.reachable.flags q.passed k.next (none_completes p (with_call k.from.lifted f.call) here.state (rw k.set at all), λ l c. tt) in
        let least : IsLeast (IsCompletion p (no_calls p) q.root) (calls_of fs ++ f.call ∷ []) = rw calls_levels at (passed_lead p (levels (no_calls p) fs) (no_calls p) q.root k.from.lifted k.from.state (f.call ∷ []) q.path here_least) in
        (like_completion q.alike.there (no_calls p) q.root p.start _ q.start least.0, λ m h. least.1 m (like_completion q.alike.back (no_calls p) p.start q.root m (turned q.alike q.root p.start q.start) h))

    -- one call more was lifted than may be
    pub first_more : (most : ℕ) → most < lifts → HasMoreThan (IsRun p) most
    first_more most more =
        let q = k.progress in
        let same = k.count in
        let many = passed_more p (levels (no_calls p) fs) (no_calls p) q.root k.from.lifted k.from.state f.call k.made here.state q.path q.reachable.flags k.next q.count in
        many_fewer (IsRun p) (most + 1) (k.made + 1) (omega (arith, more, same)) (alike_many q.alike (no_calls p) q.root p.start (k.made + 1) q.start many)

  -- all calls of the root were tried
  pub first_none : (kept : List (Configuration State)) (lifts : ℕ) (lifted : List ℕ) (fs : List (Frame State)) (here : Configuration State) → fs ≡ [] → IsFirstProgress p kept lifts lifted fs here None → (l : List ℕ) → IsLinearization p l → ⊥
  first_none kept lifts lifted fs here none k l h =
      let path : IsPassedPath p (no_calls p) k.root [] here.lifted here.state = rw none at k.path in
      let there = like_completion k.alike.back (no_calls p) p.start k.root l (turned k.alike k.root p.start k.start) h in
      passed_all p here.lifted here.state k.reachable.flags k.passed l (rw (path.0, path.1) at there)

  -- all calls here were tried
  pub first_refuted : (kept : List (Configuration State)) (lifts : ℕ) (lifted : List ℕ) (fs : List (Frame State)) (here : Configuration State) → IsFirstProgress p kept lifts lifted fs here None → IsRefuted p here.lifted here.state
  first_refuted kept lifts lifted fs here k = record { reachable = k.reachable; none = passed_all p here.lifted here.state k.reachable.flags k.passed }

  -- the configuration that the last frame's call was lifted from
  module _ (kept : List (Configuration State)) (lifts : ℕ) (lifted : List ℕ) (all fs : List (Frame State)) (f : Frame State) (here : Configuration State) (split : all ≡ fs ++ f ∷ []) (k : IsFirstProgress p kept lifts lifted all here None) where
    abbrev before_last : List ℕ
    before_last = k.calls.0 ++ calls_of fs

    abbrev back : Configuration State
    back = record { lifted = with_calls (no_calls p) (calls_of fs); state = f.state }

    last_lifted : lifted ≡ before_last ++ f.call ∷ []
    last_lifted = k.calls.1 ∙ ap (λ (l : List (Frame State)). k.calls.0 ++ calls_of l) split ∙ calls_pushed k.calls.0 fs f

    set_back : lifted_set p before_last ≡ with_calls (no_calls p) (calls_of fs)
    set_back = with_append (no_calls p) k.calls.0 (calls_of fs) ∙ ap (λ (s : List Bool). with_calls s (calls_of fs)) k.calls.2

    path_back : IsPassedPath p (no_calls p) k.root (levels (no_calls p) fs ++ level_of back f ∷ []) here.lifted here.state
    path_back = rw (split, levels_end (no_calls p) fs f back refl refl) at k.path

    pub first_last : (b : List ℕ) × (lifted ≡ b ++ f.call ∷ []) × IsMinimal p (lifted_set p b) f.call
    first_last =
        let q = passed_pop p (levels (no_calls p) fs) (level_of back f) (no_calls p) k.root here.lifted here.state path_back in
        (before_last, last_lifted, rw set_back (next_minimal p back.lifted back.state f.call here.state q.1.next))

    pub first_back : (new : List (Configuration State)) (unlifted : List ℕ) (now : Configuration State) (candidate : Option ℕ) → AreRefuted p new → ((b : List ℕ) → lifted ≡ b ++ f.call ∷ [] → unlifted ≡ b) → lifted_set p unlifted ≡ now.lifted → now.state ≡ f.state → ComesAfter p now.lifted f.call candidate → IsFirstProgress p new lifts unlifted fs now candidate × (left_to_try (length p.calls) fs (bound p candidate) < left_to_try (length p.calls) all (length p.calls))
    first_back new unlifted now candidate kept_refuted without_last set state least =
        let ls = levels (no_calls p) fs in
        let l = level_of now f in
        let unlifted_is = without_last before_last last_lifted in
        let set_is : with_calls (no_calls p) (calls_of fs) ≡ now.lifted = sym set_back ∙ ap (λ (l : List ℕ). lifted_set p l) (sym unlifted_is) ∙ set in
        let ends = levels_end (no_calls p) fs f now set_is (sym state) in
        let path : IsPassedPath p (no_calls p) k.root (ls ++ l ∷ []) here.lifted here.state = rw (split, ends) at k.path in
        let count : AreLifts p (ls ++ l ∷ []) here.lifted here.state (length p.calls) lifts = rw (split, ends) at k.count in
        let q = passed_pop p ls l (no_calls p) k.root here.lifted here.state path in
        let minimal = next_minimal p now.lifted now.state f.call here.state q.1.next in
        let refuted = first_refuted kept lifts lifted all here k in (
          record {
            alike = k.alike;
            refuted = kept_refuted;
            root = k.root;
            start = k.start;
            path = q.0;
            calls = (k.calls.0, unlifted_is, k.calls.2);
            reachable = q.1.reachable;
            passed = passed_after p k.alike now f.call here.state candidate q.1.reachable.flags (passed_step p now.lifted now.state f.call q.1.passed (begins_refuted p now.lifted now.state f.call here.state q.1.reachable.flags q.1.next (rw q.2 refuted.none))) q.1.next least;
            minimal = minimal_after p now.lifted f.call candidate least;
            count = lifts_to p ls now.lifted now.state (f.call + 1) (bound p candidate) lifts (way_after p now.lifted f.call candidate minimal least) (passed_lifts p ls l here.lifted here.state (length p.calls) lifts q.1 q.2 count);
          },
          (let n = length p.calls in
              let longer : length all ≡ length fs + 1 = ap length split ∙ length-append fs (f ∷ []) in
              rw longer (less (length fs) n (bound p candidate))),
        )
      where
        less : (a n b : ℕ) → a * (n + 1) + (n - b) < (a + 1) * (n + 1) + (n - n)
        less a n b = let e : (a + 1) * (n + 1) ≡ a * (n + 1) + (n + 1) = omega arith in omega (arith, e)
