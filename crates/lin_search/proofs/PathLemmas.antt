-- The path of a search from its root to where it is: what its frames say, as one is put on or taken off at the end, and its steps.
use Rattle.std.proofs.Common.{ControlFlow, Continue, Break, Result, Ok, Err, ◌≡◌, ℕ, zero, suc, ◌+◌, ◌-◌, ◌*◌, ◌<◌, ◌≤◌, Bool, true, Option, Some, None, List, [], ◌∷◌, ◌++◌, length, ◌⊎◌, refl, sym, ◌∙◌, ap, subst, arith, append-nil, map, false, inl, inr, ext_get_or}
use Rattle.std.specs.Prelude.{IfOk, IfSome, IsSomeAnd}
use Rattle.std.proofs.lemmas.Bool.{cases_lt}
use Rattle.std.proofs.lemmas.Nat.{mul-le}
use Rattle.std.proofs.lemmas.List.{length-set, length-replicate}
use Rattle.lin_history.specs.Problems.Continuations.{has}
use Rattle.lin_history.specs.Problems.Problem.{Problem, problem_of}
use Rattle.lin_history.specs.Problems.ProblemParts.{ProblemParts}
use Rattle.lin_history.specs.Problems.Lists.{IsLeast, IsLongest}
use Rattle.lin_history.specs.Problems.Continuations.{IsContinuation, IsCompletion, no_calls}
use Rattle.lin_history.specs.Problems.Configurations.{IsReachable}
use Rattle.lin_search.specs.declared.longest.Longest.{Longest}
use Rattle.lin_search.specs.CallSet.{with_call, with_calls, lifted_set}
use Rattle.lin_search.specs.CallSetLemmas.{with_append, length_calls, same_or_not, has_same, has_other}
use Rattle.lin_search.specs.NextCall.{IsNext, HasEveryCompleted}
use Rattle.lin_search.specs.Entries.{IsMinimal, IsLeastMinimal}
use Rattle.lin_search.specs.Configuration.{Configuration}
use Rattle.lin_search.specs.Refutation.{IsRefutedWith}
use Rattle.lin_search.specs.Memo.{IsClosed}
use Rattle.lin_search.specs.Size.{HasMany, HasMoreThan}
use Rattle.lin_search.specs.declared.path.Position.{Position}
use Rattle.lin_object.specs.StepBacks.{state_before}
use Rattle.lin_object.specs.declared.step_back.Change.{Change}
use Rattle.lin_search.specs.Path.{Frame, Level, KeptFrame, levels, calls_of, kept_calls, frame_of, frames_of, state_at}
use Rattle.lin_search.specs.Progress.{IsContinuationBelow, IsSearchedTo, IsLevel, IsPath, IsAt, HasLifts, AreLifts, IsLeft, IsTaken, IsProgress, HoldsBelow, HoldsOnPath, HoldsSearched, GoesOn, IsStep, IsLifted, IsRefusal, bound, free, power, work, work_below, work_on_path}
use Rattle.lin_search.specs.Answer.{IsAnswer, IsDecision, IsRefutation}
use Rattle.lin_search.specs.declared.outcome.Outcome.{Outcome}
use Rattle.lin_search.specs.declared.outcome.Outcome.TheVariants.{Found, Refuted, Undecided, Stopped}
use Rattle.lin_search.specs.NeedlessCalls.{AddsNothing, EndsTheList}
use Rattle.lin_search.specs.AlikeLemmas.{AreAlike, turned}
use Rattle.lin_search.specs.FirstCallLemmas.{next_within}
use Rattle.lin_search.proofs.ProgressLemmas.{free_less, searched_start, searched_skip, searched_to, searched_all, searched_after, found_least, least_none, room}
use Rattle.lin_search.proofs.MemoLemmas.{followed_to, followed_one, followed_next, followed_start, followed_all, closed_look, closed_more}
use Rattle.lin_search.proofs.SizeLemmas.{many_none, many_to, many_step, many_all, many_as}

-- the calls that lead on from the levels
abbrev pub calls_along : {State : Type 0} → List (Level State) → List ℕ
calls_along {State} ls = map (λ (f : Level State). f.call) ls

-- the levels of frames, and of one frame more
module _ {State : Type 0} where
  -- the frame with the configuration that its call was lifted from
  abbrev pub level_of : Configuration State → Frame State → Level State
  level_of here f = record { config = here; call = f.call; longest = f.longest }

  pub levels_end : (root : List Bool) (fs : List (Frame State)) (f : Frame State) (here : Configuration State) → with_calls root (calls_of fs) ≡ here.lifted → f.state ≡ here.state → levels root (fs ++ f ∷ []) ≡ levels root fs ++ level_of here f ∷ []
  levels_end root [] f here set state = rw (set, state) refl
  levels_end root (g ∷ fs) f here set state =
      ap (λ (l : List (Level State)). record { config = record { lifted = root; state = g.state }; call = g.call; longest = g.longest } ∷ l) (levels_end (with_call root g.call) fs f here set state)

  pub calls_levels : (root : List Bool) (fs : List (Frame State)) → calls_along (levels root fs) ≡ calls_of fs
  calls_levels root [] = refl
  calls_levels root (f ∷ fs) = ap (λ (l : List ℕ). f.call ∷ l) (calls_levels (with_call root f.call) fs)

  calls_end : (fs : List (Frame State)) (f : Frame State) → calls_of (fs ++ f ∷ []) ≡ calls_of fs ++ f.call ∷ []
  calls_end [] f = refl
  calls_end (g ∷ fs) f = ap (λ (l : List ℕ). g.call ∷ l) (calls_end fs f)

  -- the calls of the frames, and of one frame more
  pub calls_pushed : (base : List ℕ) (fs : List (Frame State)) (f : Frame State) → base ++ calls_of (fs ++ f ∷ []) ≡ (base ++ calls_of fs) ++ f.call ∷ []
  calls_pushed [] fs f = calls_end fs f
  calls_pushed (c ∷ cs) fs f = ap (λ (l : List ℕ). c ∷ l) (calls_pushed cs fs f)

-- kept frames
module _ {State : Type 0} (undone : Change → State → State) where
  state_end : (fs : List (KeptFrame State)) (f : KeptFrame State) (t : State) → state_at undone (fs ++ f ∷ []) t ≡ state_at undone fs (state_before undone f.back t)
  state_end [] f t = refl
  state_end (g ∷ fs) f t = ap (λ (s : State). state_before undone g.back s) (state_end fs f t)

  -- one frame more, which leads here
  pub frames_end : (fs : List (KeptFrame State)) (f : KeptFrame State) (t : State) → frames_of undone (fs ++ f ∷ []) t ≡ frames_of undone fs (state_before undone f.back t) ++ frame_of undone f t ∷ []
  frames_end [] f t = refl
  frames_end (g ∷ fs) f t = rw (state_end fs f t, frames_end fs f t) refl

  pub frames_split : (all fs : List (KeptFrame State)) (f : KeptFrame State) (t : State) → all ≡ fs ++ f ∷ [] → frames_of undone all t ≡ frames_of undone fs (state_before undone f.back t) ++ frame_of undone f t ∷ []
  frames_split all fs f t e = rw e (frames_end fs f t)

  pub calls_kept : (fs : List (KeptFrame State)) (t : State) → calls_of (frames_of undone fs t) ≡ kept_calls fs
  calls_kept [] t = refl
  calls_kept (f ∷ fs) t = ap (λ (l : List ℕ). f.call ∷ l) (calls_kept fs t)

  pub frames_same : (fs gs : List (KeptFrame State)) (t u : State) → fs ≡ gs → t ≡ u → frames_of undone fs t ≡ frames_of undone gs u
  frames_same fs gs t u e s = rw (e, s) refl

  pub none_kept : (fs : List (KeptFrame State)) (t : State) → fs ≡ [] → frames_of undone fs t ≡ []
  none_kept fs t none = rw none refl

module _ {State Op Reply : Type 0} (p : Problem State Op Reply) where
  pub next_minimal : (set : List Bool) (s : State) (c : ℕ) (t : State) → IsNext p set s c t → IsMinimal p set c
  next_minimal set s c t n = record { within = next_within p s t c n.step; outside = n.outside; preceded = n.preceded }

  -- no call from i up to the least minimal one can follow
  pub none_between : (set : List Bool) (s : State) (i : ℕ) (answer : Option ℕ) → IsLeastMinimal p set i answer → (c : ℕ) → i ≤ c → c < bound p answer → (t : State) → IsNext p set s c t → ⊥
  none_between set s i None k c h less t n = k c (next_minimal set s c t n) h
  none_between set s i (Some d) k c h less t n = let g = k.2 c (next_minimal set s c t n) h in omega (arith, g, less)

  pub to_bound : (set : List Bool) (i : ℕ) (answer : Option ℕ) → i ≤ length p.calls → IsLeastMinimal p set i answer → i ≤ bound p answer
  to_bound set i None h k = h
  to_bound set i (Some d) h k = k.1

  pub bound_within : (set : List Bool) (i : ℕ) (answer : Option ℕ) → IsLeastMinimal p set i answer → bound p answer ≤ length p.calls
  bound_within set i None k = omega arith
  bound_within set i (Some d) k = let h = k.0.within in omega (arith, h)

  pub leads_push : (fs : List (Level State)) (f : Level State) (set : List Bool) (s u : State) → IsPath p set s fs f.config.lifted f.config.state → IsLevel p f u → IsPath p set s (fs ++ f ∷ []) (with_call f.config.lifted f.call) u
  leads_push [] f set s u k h = (k.0, k.1, (u, h, (refl, refl)))
  leads_push (g ∷ fs) f set s u k h = let q = k.2 in (k.0, k.1, (q.0, q.1, leads_push fs f (with_call g.config.lifted g.call) q.0 u q.2 h))

  pub leads_pop : (fs : List (Level State)) (f : Level State) (set : List Bool) (s : State) (a : List Bool) (t : State) → IsPath p set s (fs ++ f ∷ []) a t → IsPath p set s fs f.config.lifted f.config.state × IsLevel p f t × (with_call f.config.lifted f.call ≡ a)
  leads_pop [] f set s a t k = let q = k.2 in let r = q.2 in ((k.0, k.1), subst (λ (x : State). IsLevel p f x) r.1 q.1, r.0)
  leads_pop (g ∷ fs) f set s a t k =
      let q = k.2 in
      let r = leads_pop fs f (with_call g.config.lifted g.call) q.0 a t q.2 in
      ((k.0, k.1, (q.0, q.1, r.0)), r.1, r.2)

  -- the calls of the levels and a least completion of where they lead are one of where they begin
  pub least_lead : (fs : List (Level State)) (set : List Bool) (s : State) (a : List Bool) (t : State) (l : List ℕ) → IsPath p set s fs a t → IsLeast (IsCompletion p a t) l → IsLeast (IsCompletion p set s) (calls_along fs ++ l)
  least_lead [] set s a t l k h = rw (k.0, k.1) h
  least_lead (f ∷ fs) set s a t l k h =
      let q = k.2 in
      let r = least_lead fs (with_call f.config.lifted f.call) q.0 a t l q.2 h in
      rw (k.0, k.1) (found_least p f.config.lifted f.config.state f.call q.0 _ _ (calls_along fs ++ l) q.1.reachable.flags q.1.searched q.1.next r)

  pub calls_lead : (fs : List (Level State)) (set : List Bool) (s : State) (a : List Bool) (t : State) → IsPath p set s fs a t → with_calls set (calls_along fs) ≡ a
  calls_lead [] set s a t k = k.0
  calls_lead (f ∷ fs) set s a t k =
      let q = k.2 in
      ap (λ (x : List Bool). with_calls (with_call x f.call) (calls_along fs)) k.0 ∙ calls_lead fs (with_call f.config.lifted f.call) q.0 a t q.2

  pub counted_push : (fs : List (Level State)) (f : Level State) (n m : ℕ) → HasLifts p fs n → HasMany (IsContinuationBelow p f.config.lifted f.config.state f.call) m → HasLifts p (fs ++ f ∷ []) (n + m + 1)
  counted_push [] f n m k h = (m, 0, h, refl, omega (arith, k))
  counted_push (g ∷ fs) f n m k h = (k.0, k.1 + m + 1, k.2, counted_push fs f k.1 m k.3 h, (let e = k.4 in omega (arith, e)))

  pub counted_pop : (fs : List (Level State)) (f : Level State) (n : ℕ) → HasLifts p (fs ++ f ∷ []) n → (m : ℕ) × (k : ℕ) × HasLifts p fs k × HasMany (IsContinuationBelow p f.config.lifted f.config.state f.call) m × (n ≡ k + m + 1)
  counted_pop [] f n k = (k.0, 0, refl, k.2, (let e = k.4 in let z = k.3 in omega (arith, e, z)))
  counted_pop (g ∷ fs) f n k =
      let r = counted_pop fs f k.1 k.3 in
      (r.0, k.0 + 1 + r.1, (k.0, r.1, k.2, r.2, refl), r.3, (let e = k.4 in let d = r.4 in omega (arith, e, d)))

  -- what the configuration at the end has of continuations, the one at the begin has after the levels' calls
  pub many_lead : (fs : List (Level State)) (set : List Bool) (s : State) (a : List Bool) (t : State) (n k : ℕ) → IsPath p set s fs a t → HasLifts p fs n → HasMany (IsContinuation p a t) k → HasMany (IsContinuation p set s) (n + k)
  many_lead [] set s a t n k l c h = rw (l.0, l.1) (many_as (IsContinuation p a t) k (n + k) (omega (arith, c)) h)
  many_lead (f ∷ fs) set s a t n k l c h =
      let q = l.2 in
      let r = many_lead fs (with_call f.config.lifted f.call) q.0 a t c.1 k q.2 c.3 h in
      let e = c.4 in
      rw (l.0, l.1) (many_as (IsContinuation p f.config.lifted f.config.state) (c.0 + 1 + (c.1 + k)) (n + k) (omega (arith, e)) (many_all p f.config.lifted f.config.state (f.call + 1) (c.0 + 1 + (c.1 + k)) (many_step p f.config.lifted f.config.state f.call q.0 c.0 (c.1 + k) q.1.reachable.flags q.1.next c.2 r)))

  pub followed_lasting : (old new : List Bool → State → Type 0) → ((set : List Bool) (s : State) → old set s → new set s) → (set : List Bool) (s : State) (i : ℕ) → HoldsBelow p old set s i → HoldsBelow p new set s i
  followed_lasting old new lasting set s i k c h t n = lasting (with_call set c) t (k c h t n)

  pub all_lasting : (old new : List Bool → State → Type 0) → ((set : List Bool) (s : State) → old set s → new set s) → (fs : List (Level State)) → HoldsOnPath p old fs → HoldsOnPath p new fs
  all_lasting old new lasting [] k = tt
  all_lasting old new lasting (f ∷ fs) k = (followed_lasting old new lasting f.config.lifted f.config.state f.call k.0, all_lasting old new lasting fs k.1)

  pub all_push : (holds : List Bool → State → Type 0) (fs : List (Level State)) (f : Level State) → HoldsOnPath p holds fs → HoldsBelow p holds f.config.lifted f.config.state f.call → HoldsOnPath p holds (fs ++ f ∷ [])
  all_push holds [] f k h = (h, tt)
  all_push holds (g ∷ fs) f k h = (k.0, all_push holds fs f k.1 h)

  pub all_pop : (holds : List Bool → State → Type 0) (fs : List (Level State)) (f : Level State) → HoldsOnPath p holds (fs ++ f ∷ []) → HoldsOnPath p holds fs × HoldsBelow p holds f.config.lifted f.config.state f.call
  all_pop holds [] f k = (tt, k.0)
  all_pop holds (g ∷ fs) f k = let r = all_pop holds fs f k.1 in ((k.0, r.0), r.1)

  pub lifts_to : (fs : List (Level State)) (set : List Bool) (s : State) (i j n : ℕ) → i ≤ j → AreLifts p fs set s i n → AreLifts p fs set s j n
  lifts_to fs set s i j n h k = record { on_path = k.on_path; below = k.below; path = k.path; many = many_to p set s i j k.below h k.many; total = k.total }

  -- the call i was lifted, and leads to what is known to be refuted
  pub lifts_hit : (fs : List (Level State)) (set : List Bool) (s : State) (i n : ℕ) (t : State) → length set ≡ length p.calls → IsNext p set s i t → AreLifts p fs set s i n → AreLifts p fs set s (i + 1) (n + 1)
  lifts_hit fs set s i n t flags next k = record {
    on_path = k.on_path;
    below = k.below + 1 + 0;
    path = k.path;
    many = many_step p set s i t k.below 0 flags next k.many (many_none (IsContinuation p (with_call set i) t));
    total = (let d = k.total in omega (arith, d));
  }

  -- the level's call was lifted, and the search goes on from what it leads to
  pub lifts_push : (fs : List (Level State)) (f : Level State) (set : List Bool) (u : State) (i n : ℕ) → AreLifts p fs f.config.lifted f.config.state f.call n → AreLifts p (fs ++ f ∷ []) set u i (n + 1)
  lifts_push fs f set u i n k = record {
    on_path = k.on_path + k.below + 1;
    below = 0;
    path = counted_push fs f k.on_path k.below k.path k.many;
    many = many_none (IsContinuationBelow p set u i);
    total = (let d = k.total in omega (arith, d));
  }

  -- all calls here were tried, and the search goes on after the last level's call
  pub lifts_pop : (fs : List (Level State)) (f : Level State) (a : List Bool) (t : State) (i n : ℕ) → IsLevel p f t → with_call f.config.lifted f.call ≡ a → AreLifts p (fs ++ f ∷ []) a t i n → AreLifts p fs f.config.lifted f.config.state (f.call + 1) n
  lifts_pop fs f a t i n h e k =
      let q = counted_pop fs f k.on_path k.path in
      let below : HasMany (IsContinuation p (with_call f.config.lifted f.call) t) k.below = rw e (many_all p a t i k.below k.many) in
      record {
        on_path = q.1;
        below = q.0 + 1 + k.below;
        path = q.2;
        many = many_step p f.config.lifted f.config.state f.call t q.0 k.below h.reachable.flags h.next q.3 below;
        total = (let d = k.total in let g = q.4 in omega (arith, d, g));
      }

  -- one call more can follow than were lifted
  pub lifts_more : (fs : List (Level State)) (root : List Bool) (start : State) (set : List Bool) (s : State) (i n : ℕ) (t : State) → IsPath p root start fs set s → length set ≡ length p.calls → IsNext p set s i t → AreLifts p fs set s i n → HasMany (IsContinuation p root start) (n + 1)
  lifts_more fs root start set s i n t path flags next k =
      let d = k.total in
      many_as (IsContinuation p root start) (k.on_path + (k.below + 1 + 0)) (n + 1) (omega (arith, d))
      (many_lead fs root start set s k.on_path (k.below + 1 + 0) path k.path (many_all p set s (i + 1) (k.below + 1 + 0) (many_step p set s i t k.below 0 flags next k.many (many_none (IsContinuation p (with_call set i) t)))))

  pub minimal_of : (set : List Bool) (i : ℕ) (answer : Option ℕ) → IsLeastMinimal p set i answer → IfSome answer (λ (c : ℕ). IsMinimal p set c)
  minimal_of set i None k = tt
  minimal_of set i (Some c) k = k.0

module _ {State Op Reply : Type 0} {p : Problem State Op Reply} where
  -- the calls from i to the candidate can't follow
  on_to : (here : Configuration State) (longest : Longest) (i : ℕ) (candidate : Option ℕ) → length here.lifted ≡ length p.calls → i ≤ length p.calls → IsSearchedTo p here.lifted here.state i longest.more longest.first → IsLeastMinimal p here.lifted i candidate → IsSearchedTo p here.lifted here.state (bound p candidate) longest.more longest.first
  on_to here longest i candidate flags within searched least =
      searched_to p here.lifted here.state i (bound p candidate) longest.more longest.first flags (to_bound p here.lifted i candidate within least) searched (none_between p here.lifted here.state i candidate least)

  -- a configuration that was entered
  entered : (here : Configuration State) (longest : Longest) (candidate : Option ℕ) → IsReachable p here.lifted here.state → (HasEveryCompleted p here.lifted → ⊥) → longest ≡ record { more = 0; first = None } → IsLeastMinimal p here.lifted 0 candidate → IsSearchedTo p here.lifted here.state (bound p candidate) longest.more longest.first
  entered here longest candidate reachable open_call e least =
      on_to here longest 0 candidate reachable.flags (omega arith) (rw e (searched_start p here.lifted here.state open_call)) least

  pub way_start : (root : Configuration State) (fs : List (Level State)) (longest : Longest) (candidate : Option ℕ) → fs ≡ [] → IsReachable p root.lifted root.state → (HasEveryCompleted p root.lifted → ⊥) → longest ≡ record { more = 0; first = None } → IsLeastMinimal p root.lifted 0 candidate → IsAt p root fs root longest candidate
  way_start root fs longest candidate none reachable open_call e least = record {
    path = rw none (refl, refl);
    reachable = reachable;
    searched = entered root longest candidate reachable open_call e least;
    minimal = minimal_of p root.lifted 0 candidate least;
  }

  -- the candidate can't follow
  pub way_skip : (root : Configuration State) (fs : List (Level State)) (here : Configuration State) (longest : Longest) (was : Option ℕ) (c : ℕ) (candidate : Option ℕ) → was ≡ Some c → IsAt p root fs here longest was → ((t : State) → IsNext p here.lifted here.state c t → ⊥) → IsLeastMinimal p here.lifted (c + 1) candidate → IsAt p root fs here longest candidate
  way_skip root fs here longest was c candidate e way none least = record {
    path = way.path;
    reachable = way.reachable;
    searched = on_to here longest (c + 1) candidate way.reachable.flags (let h = (rw e at way.minimal).within in omega (arith, h)) (searched_skip p here.lifted here.state c longest.more longest.first way.reachable.flags (rw e at way.searched) none) least;
    minimal = minimal_of p here.lifted (c + 1) candidate least;
  }

  -- the candidate leads to what is known to be refuted
  pub way_hit : (root : Configuration State) (fs : List (Level State)) (here : Configuration State) (longest deep after : Longest) (was : Option ℕ) (c : ℕ) (t : State) (candidate : Option ℕ) → was ≡ Some c → IsAt p root fs here longest was → IsNext p here.lifted here.state c t → IsRefutedWith p (with_call here.lifted c) t deep → (longest.more < deep.more + 1 → after ≡ record { more = deep.more + 1; first = Some c }) → (deep.more + 1 ≤ longest.more → after ≡ longest) → IsLeastMinimal p here.lifted (c + 1) candidate → IsAt p root fs here after candidate
  way_hit root fs here longest deep after was c t candidate e way next refuted longer not_longer least = record {
    path = way.path;
    reachable = way.reachable;
    searched = on_to here after (c + 1) candidate way.reachable.flags (let h = (rw e at way.minimal).within in omega (arith, h)) (searched_after p here.lifted here.state c t longest deep after way.reachable.flags next refuted.refuted.none refuted.longest_is (rw e at way.searched) longer not_longer) least;
    minimal = minimal_of p here.lifted (c + 1) candidate least;
  }

  -- the search goes on from what the candidate leads to
  pub way_push : (root : Configuration State) (fs : List (Level State)) (here child : Configuration State) (longest none : Longest) (was : Option ℕ) (c : ℕ) (candidate : Option ℕ) → was ≡ Some c → IsAt p root fs here longest was → IsNext p here.lifted here.state c child.state → child.lifted ≡ with_call here.lifted c → IsReachable p child.lifted child.state → (HasEveryCompleted p child.lifted → ⊥) → none ≡ record { more = 0; first = None } → IsLeastMinimal p child.lifted 0 candidate → IsAt p root (fs ++ record { config = here; call = c; longest = longest } ∷ []) child none candidate
  way_push root fs here child longest none was c candidate e way next lifted reachable open_call z least = record {
    path = rw lifted (leads_push p fs (record { config = here; call = c; longest = longest }) root.lifted root.state child.state way.path (record { reachable = way.reachable; searched = rw e at way.searched; next = next }));
    reachable = reachable;
    searched = entered child none candidate reachable open_call z least;
    minimal = minimal_of p child.lifted 0 candidate least;
  }

  -- all calls here were tried
  pub way_refuted : (root : Configuration State) (fs : List (Level State)) (here : Configuration State) (longest : Longest) (candidate : Option ℕ) → candidate ≡ None → IsAt p root fs here longest candidate → IsRefutedWith p here.lifted here.state longest
  way_refuted root fs here longest candidate e way =
      let all = searched_all p here.lifted here.state (length p.calls) longest.more longest.first refl way.reachable.flags (rw e at way.searched) in
      record { refuted = record { reachable = way.reachable; none = all.0 }; longest_is = all.1 }

  pub way_end : (root : Configuration State) (fs : List (Level State)) (here : Configuration State) (longest : Longest) (candidate : Option ℕ) → fs ≡ [] → candidate ≡ None → IsAt p root fs here longest candidate → ((l : List ℕ) → IsCompletion p root.lifted root.state l → ⊥) × IsLongest (IsContinuation p root.lifted root.state) longest.more longest.first
  way_end root fs here longest candidate none e way =
      let r = way_refuted root fs here longest candidate e way in
      let l : IsPath p root.lifted root.state [] here.lifted here.state = rw none at way.path in
      rw (l.0, l.1) (r.refuted.none, r.longest_is)

  -- the search goes on after the last level's call
  pub way_pop : (root : Configuration State) (all fs : List (Level State)) (f : Level State) (here : Configuration State) (longest after : Longest) (was candidate : Option ℕ) → all ≡ fs ++ f ∷ [] → was ≡ None → IsAt p root all here longest was → (f.longest.more < longest.more + 1 → after ≡ record { more = longest.more + 1; first = Some f.call }) → (longest.more + 1 ≤ f.longest.more → after ≡ f.longest) → IsLeastMinimal p f.config.lifted (f.call + 1) candidate → IsAt p root fs f.config after candidate
  way_pop root all fs f here longest after was candidate split e way longer not_longer least =
      let q = leads_pop p fs f root.lifted root.state here.lifted here.state (rw split at way.path) in
      let r = way_refuted root all here longest was e way in
      let refuted : IsRefutedWith p (with_call f.config.lifted f.call) here.state longest = rw q.2 r in
      record {
        path = q.0;
        reachable = q.1.reachable;
        searched = on_to f.config after (f.call + 1) candidate q.1.reachable.flags (let h = next_within p f.config.state here.state f.call q.1.next.step in omega (arith, h)) (searched_after p f.config.lifted f.config.state f.call here.state f.longest longest after q.1.reachable.flags q.1.next refuted.refuted.none refuted.longest_is q.1.searched longer not_longer) least;
        minimal = minimal_of p f.config.lifted (f.call + 1) candidate least;
      }

  -- the last level's call is minimal where the search goes on
  pub way_pop_minimal : (root : Configuration State) (all fs : List (Level State)) (f : Level State) (here : Configuration State) (longest : Longest) (was : Option ℕ) → all ≡ fs ++ f ∷ [] → IsAt p root all here longest was → IsMinimal p f.config.lifted f.call
  way_pop_minimal root all fs f here longest was split way =
      let q = leads_pop p fs f root.lifted root.state here.lifted here.state (rw split at way.path) in
      next_minimal p f.config.lifted f.config.state f.call here.state q.1.next

  -- a longest continuation here leaves room for the last level's call
  pub way_pop_room : (root : Configuration State) (all fs : List (Level State)) (f : Level State) (here : Configuration State) (longest : Longest) (was : Option ℕ) → all ≡ fs ++ f ∷ [] → was ≡ None → IsAt p root all here longest was → longest.more + 1 ≤ length p.calls
  way_pop_room root all fs f here longest was split e way =
      let q = leads_pop p fs f root.lifted root.state here.lifted here.state (rw split at way.path) in
      let r = way_refuted root all here longest was e way in
      room p f.config.lifted f.config.state f.call here.state longest.more longest.first q.1.reachable.flags q.1.next (rw q.2 r.longest_is)

  -- the candidate completes
  pub way_found : (root : Configuration State) (fs : List (Level State)) (here child : Configuration State) (longest : Longest) (was : Option ℕ) (c : ℕ) → was ≡ Some c → IsAt p root fs here longest was → IsNext p here.lifted here.state c child.state → child.lifted ≡ with_call here.lifted c → HasEveryCompleted p child.lifted → IsLeast (IsCompletion p root.lifted root.state) (calls_along fs ++ c ∷ [])
  way_found root fs here child longest was c e way next lifted all =
      least_lead p fs root.lifted root.state here.lifted here.state (c ∷ []) way.path
      (found_least p here.lifted here.state c child.state longest.more longest.first [] way.reachable.flags (rw e at way.searched) next (least_none p (with_call here.lifted c) child.state (rw lifted at all)))

  -- the memo was asked for the root
  pub holds_start : (holds : List Bool → State → Type 0) (root : Configuration State) (candidate : Option ℕ) → IsLeastMinimal p root.lifted 0 candidate → IsClosed p holds → HoldsSearched p holds root.lifted [] root candidate
  holds_start holds root candidate least k = record {
    closed = k;
    below = followed_to p holds root.lifted root.state 0 (bound p candidate) (followed_start p holds root.lifted root.state) (none_between p root.lifted root.state 0 candidate least);
    path = tt;
    set = refl;
  }

  -- the call can't follow
  pub holds_skip : (holds : List Bool → State → Type 0) (root : List Bool) (fs : List (Frame State)) (here : Configuration State) (c : ℕ) (candidate : Option ℕ) → ((t : State) → IsNext p here.lifted here.state c t → ⊥) → IsLeastMinimal p here.lifted (c + 1) candidate → HoldsSearched p holds root fs here (Some c) → HoldsSearched p holds root fs here candidate
  holds_skip holds root fs here c candidate none least k = record {
    closed = k.closed;
    below = followed_to p holds here.lifted here.state (c + 1) (bound p candidate) (followed_one p holds here.lifted here.state c k.below none) (none_between p here.lifted here.state (c + 1) candidate least);
    path = k.path;
    set = k.set;
  }

  -- the call leads to what the memo holds
  pub holds_hit : (now new : List Bool → State → Type 0) (root : List Bool) (fs : List (Frame State)) (here after : Configuration State) (c : ℕ) (t : State) (candidate : Option ℕ) → ((set : List Bool) (s : State) → new set s → now set s) → ((set : List Bool) (s : State) → now set s → new set s) → after ≡ here → IsNext p here.lifted here.state c t → new (with_call here.lifted c) t → IsLeastMinimal p after.lifted (c + 1) candidate → HoldsSearched p now root fs here (Some c) → HoldsSearched p new root fs after candidate
  holds_hit now new root fs here after c t candidate only lasting e next hit least k = rw e (record {
    closed = closed_look p now new only lasting k.closed;
    below = followed_to p new here.lifted here.state (c + 1) (bound p candidate) (followed_next p now new here.lifted here.state c t lasting k.below next hit) (none_between p here.lifted here.state (c + 1) candidate (rw e at least));
    path = all_lasting p now new lasting (levels root fs) k.path;
    set = k.set;
  })

  -- the search goes on from what the frame's call leads to
  pub holds_push : (now new : List Bool → State → Type 0) (root : List Bool) (fs : List (Frame State)) (f : Frame State) (from here : Configuration State) (candidate : Option ℕ) → ((set : List Bool) (s : State) → new set s → now set s) → ((set : List Bool) (s : State) → now set s → new set s) → f.state ≡ from.state → here.lifted ≡ with_call from.lifted f.call → IsLeastMinimal p here.lifted 0 candidate → HoldsSearched p now root fs from (Some f.call) → HoldsSearched p new root (fs ++ f ∷ []) here candidate
  holds_push now new root fs f from here candidate only lasting state set least k = record {
    closed = closed_look p now new only lasting k.closed;
    below = followed_to p new here.lifted here.state 0 (bound p candidate) (followed_start p new here.lifted here.state) (none_between p here.lifted here.state 0 candidate least);
    path = rw (levels_end root fs f from k.set state) (all_push p new (levels root fs) (level_of from f) (all_lasting p now new lasting (levels root fs) k.path) (followed_lasting p now new lasting from.lifted from.state f.call k.below));
    set = rw (calls_end fs f, with_append root (calls_of fs) (f.call ∷ []), k.set, set) refl;
  }

  -- the memo has kept a configuration all of whose calls were tried
  pub holds_noted : AreAlike p p → (Fresh : Type 0) (now new : List Bool → State → Type 0) (root : List Bool) (fs : List (Frame State)) (here : Configuration State) → ((set : List Bool) (s : State) → new set s → now set s ⊎ (Fresh × (set ≡ here.lifted) × (p.same_state s here.state ≡ true))) → ((set : List Bool) (s : State) → now set s → new set s) → ((set : List Bool) (s t : State) → p.same_state s t ≡ true → new set s → new set t) → HoldsSearched p now root fs here None → HoldsSearched p new root fs here None
  holds_noted alike Fresh now new root fs here only lasting at_equal k = record {
    closed = closed_more p alike Fresh now new here.lifted here.state only lasting at_equal (followed_all p now here.lifted here.state (length p.calls) refl k.below) k.closed;
    below = followed_lasting p now new lasting here.lifted here.state (length p.calls) k.below;
    path = all_lasting p now new lasting (levels root fs) k.path;
    set = k.set;
  }

  -- what the memo holds of a configuration, it holds of an equal one
  pub holds_alike : AreAlike p p → (holds : List Bool → State → Type 0) (root : List Bool) (fs : List (Frame State)) (here copy : Configuration State) → ((set : List Bool) (s t : State) → p.same_state s t ≡ true → holds set s → holds set t) → copy.lifted ≡ here.lifted → p.same_state copy.state here.state ≡ true → HoldsSearched p holds root fs here None → HoldsSearched p holds root fs copy None
  holds_alike alike holds root fs here copy at_equal set same k = record {
    closed = k.closed;
    below = λ c less t n.
        let m = alike.there.steps copy.state here.state t c same n.step in
        rw set (at_equal (with_call here.lifted c) m.0 t (turned alike t m.0 m.2) (k.below c less m.0 (record { outside = rw set at n.outside; preceded = rw set at n.preceded; step = m.1 })));
    path = k.path;
    set = k.set ∙ sym set;
  }

  -- the search goes on after the last frame's call, with what the memo holds
  pub holds_pop : (holds : List Bool → State → Type 0) (root : Configuration State) (limit : Option ℕ) (lifted : List ℕ) (all fs : List (Frame State)) (f : Frame State) (left : Option ℕ) (here now : Configuration State) (longest : Longest) (candidate : Option ℕ) → all ≡ fs ++ f ∷ [] → with_calls root.lifted (calls_of fs) ≡ now.lifted → f.state ≡ now.state → IsProgress p root limit lifted all left here longest None → holds here.lifted here.state → IsLeastMinimal p now.lifted (f.call + 1) candidate → HoldsSearched p holds root.lifted all here None → HoldsSearched p holds root.lifted fs now candidate
  holds_pop holds root limit lifted all fs f left here now longest candidate split set state k kept least h =
      let ends = levels_end root.lifted fs f now set state in
      let q = leads_pop p (levels root.lifted fs) (level_of now f) root.lifted root.state here.lifted here.state (rw ends at ((rw split at k.at).path)) in
      let r = all_pop p holds (levels root.lifted fs) (level_of now f) (rw ends at ((rw split at h).path)) in
      record {
        closed = h.closed;
        below = followed_to p holds now.lifted now.state (f.call + 1) (bound p candidate) (followed_next p holds holds now.lifted now.state f.call here.state (λ set s h. h) r.1 q.1.next (rw q.2 kept)) (none_between p now.lifted now.state (f.call + 1) candidate least);
        path = r.0;
        set = set;
      }

  pub way_root : (root : Configuration State) (fs : List (Level State)) (here : Configuration State) (longest : Longest) (candidate : Option ℕ) → fs ≡ [] → IsAt p root fs here longest candidate → (root.lifted ≡ here.lifted) × (root.state ≡ here.state)
  way_root root fs here longest candidate none way = rw none at way.path

  -- the candidate comes after the one before it
  pub way_on : (set : List Bool) (c : ℕ) (candidate : Option ℕ) → IsMinimal p set c → IsLeastMinimal p set (c + 1) candidate → c + 1 ≤ bound p candidate
  way_on set c candidate minimal least = to_bound p set (c + 1) candidate (let h = minimal.within in omega (arith, h)) least

-- of the lifts left, as more is known of how many were made
left_map : (P Q : ℕ → Type 0) (limit left : Option ℕ) → ((n : ℕ) → P n → Q n) → IsLeft P limit left → IsLeft Q limit left
left_map P Q None None f k = tt
left_map P Q (Some limit) (Some left) f k = (k.0, k.1, f k.0 k.2)
left_map P Q None (Some left) f k = absurd k
left_map P Q (Some limit) None f k = absurd k

left_taken : (P Q : ℕ → Type 0) (limit left after : Option ℕ) → ((n : ℕ) → P n → Q (n + 1)) → IsTaken left after → IsLeft P limit left → IsLeft Q limit after
left_taken P Q None None None f h k = tt
left_taken P Q (Some limit) (Some left) (Some after) f h k = (k.0 + 1, (let e = k.1 in omega (arith, e, h)), f k.0 k.2)
left_taken P Q None None (Some after) f h k = absurd h
left_taken P Q None (Some left) after f h k = absurd k
left_taken P Q (Some limit) None after f h k = absurd k
left_taken P Q (Some limit) (Some left) None f h k = absurd h

power_least : (b n : ℕ) → 1 ≤ b → 1 ≤ power b n
power_least b zero h = omega arith
power_least b (suc n) h = mul-le 1 1 b (power b n) h (power_least b n h)

suc_times : (a b : ℕ) → suc a * b ≡ a * b + b
suc_times a b = omega arith

module _ {State : Type 0} where
  work_append : (n : ℕ) (fs : List (Level State)) (f : Level State) → work_on_path n (fs ++ f ∷ []) ≡ work_on_path n fs + (n - f.call) * power (n + 2) (free f.config.lifted)
  work_append n [] f = omega arith
  work_append n (g ∷ fs) f = let r = work_append n fs f in omega (arith, r)

  pub work_on : (n : ℕ) (fs : List (Level State)) (set : List Bool) (i j : ℕ) → i < j → j ≤ n → work_below n fs set j < work_below n fs set i
  work_on n fs set i j h within = on (suc (n - j)) (n - i) (power (n + 2) (free set)) (omega (arith, h, within)) (power_least (n + 2) (free set) (omega arith))
    where
      on : (a b w : ℕ) → a ≤ b → 1 ≤ w → work_on_path n fs + a * w < work_on_path n fs + suc b * w
      on a b w h k = let r = mul-le a w b w h (omega arith) in let e : suc b * w ≡ b * w + w = suc_times b w in omega (arith, r, e, k)

  -- a call is lifted: its configuration becomes a level, and the one that it leads to has a call less
  pub work_down : (n : ℕ) (fs : List (Level State)) (f : Level State) (set : List Bool) (i : ℕ) → f.call < n → suc (free set) ≡ free f.config.lifted → work_below n (fs ++ f ∷ []) set i < work_below n fs f.config.lifted f.call
  work_down n fs f set i within less =
      let w = power (n + 2) (free set) in
      let frame : power (n + 2) (free f.config.lifted) ≡ (n + 2) * w = ap (power (n + 2)) (sym less) in
      let a = work_append n fs f in
      down (work_on_path n fs) (work_on_path n (fs ++ f ∷ [])) (n - f.call) (power (n + 2) (free f.config.lifted)) w (suc (n - i)) a frame (power_least (n + 2) (free set) (omega arith)) (omega arith)
    where
      down : (before after d p w x : ℕ) → after ≡ before + d * p → p ≡ (n + 2) * w → 1 ≤ w → suc x ≤ n + 2 → after + x * w < before + suc d * p
      down before after d p w x e g h k =
          let r : suc d * p ≡ d * p + p = suc_times d p in
          let m = mul-le (suc x) w (n + 2) w k (omega arith) in
          let q : suc x * w ≡ x * w + w = suc_times x w in
          omega (arith, e, g, h, r, q, m)

  -- all calls were tried: the search goes on after the last level's call
  pub work_up : (n : ℕ) (fs : List (Level State)) (f : Level State) (set : List Bool) (i j : ℕ) → f.call < j → j ≤ n → work_below n fs f.config.lifted j < work_below n (fs ++ f ∷ []) set i
  work_up n fs f set i j h within =
      let a = work_append n fs f in
      let w = power_least (n + 2) (free set) (omega arith) in
      up (work_on_path n fs) (work_on_path n (fs ++ f ∷ [])) (suc (n - j)) (n - f.call) (power (n + 2) (free f.config.lifted)) (suc (n - i)) (power (n + 2) (free set)) a (omega (arith, h, within)) w
    where
      up : (before after a d p v w : ℕ) → after ≡ before + d * p → a ≤ d → 1 ≤ w → before + a * p < after + suc (n - i) * w
      up before after a d p v w e h k =
          let r = mul-le a p d p h (omega arith) in
          let q : suc (n - i) * w ≡ (n - i) * w + w = suc_times (n - i) w in
          omega (arith, e, r, k, q)

-- with each step of a search less is left
module _ {State Op Reply : Type 0} (p : Problem State Op Reply) where
  pub less_on : (fs : List (Level State)) (set : List Bool) (was : Option ℕ) (c : ℕ) (candidate : Option ℕ) → was ≡ Some c → IfSome was (λ (d : ℕ). IsMinimal p set d) → IsLeastMinimal p set (c + 1) candidate → work_below (length p.calls) fs set (bound p candidate) < work_below (length p.calls) fs set (bound p was)
  less_on fs set was c candidate e minimal least =
      rw e (work_on (length p.calls) fs set c (bound p candidate) (let h = way_on set c candidate (rw e at minimal) least in omega (arith, h)) (bound_within p set (c + 1) candidate least))

  pub less_down : (root : Configuration State) (all fs : List (Level State)) (here child : Configuration State) (longest : Longest) (was : Option ℕ) (c : ℕ) (candidate : Option ℕ) → was ≡ Some c → all ≡ fs ++ record { config = here; call = c; longest = longest } ∷ [] → IsAt p root fs here longest was → IsNext p here.lifted here.state c child.state → child.lifted ≡ with_call here.lifted c → work_below (length p.calls) all child.lifted (bound p candidate) < work_below (length p.calls) fs here.lifted (bound p was)
  less_down root all fs here child longest was c candidate e split way next lifted =
      let within = next_within p here.state child.state c next.step in
      let flags = way.reachable.flags in
      let less = free_less here.lifted c (omega (arith, flags, within)) next.outside in
      rw (e, split, lifted) (work_down (length p.calls) fs (record { config = here; call = c; longest = longest }) (with_call here.lifted c) (bound p candidate) within less)

  pub less_up : (all fs : List (Level State)) (f : Level State) (set : List Bool) (was candidate : Option ℕ) → all ≡ fs ++ f ∷ [] → IsMinimal p f.config.lifted f.call → IsLeastMinimal p f.config.lifted (f.call + 1) candidate → work_below (length p.calls) fs f.config.lifted (bound p candidate) < work_below (length p.calls) all set (bound p was)
  less_up all fs f set was candidate split minimal least =
      rw split (work_up (length p.calls) fs f set (bound p was) (bound p candidate) (let h = way_on f.config.lifted f.call candidate minimal least in omega (arith, h)) (bound_within p f.config.lifted (f.call + 1) candidate least))

-- one call more is lifted
pub calls_more : {State Op Reply : Type 0} (p : Problem State Op Reply) (lifted new : List ℕ) (c : ℕ) (set more : List Bool) → new ≡ lifted ++ c ∷ [] → lifted_set p lifted ≡ set → more ≡ with_call set c → lifted_set p new ≡ more
calls_more p lifted new c set more e a b = rw e (with_append (no_calls p) lifted (c ∷ []) ∙ rw (a, b) refl)

-- what the entries tell, of the problem that is searched
module _ {Object State Op Reply : Type 0} (after : Object → State → ℕ → Op → Option (State × Reply)) (same_state : State → State → Bool) (same_reply : Reply → Reply → Bool) (q r : ProblemParts Object State Op Reply) (same : q ≡ r) (lifted : List ℕ) (set : List Bool) (calls : lifted_set (problem_of after same_state same_reply r) lifted ≡ set) where
  abbrev IsComplete : ProblemParts Object State Op Reply → Type 0
  IsComplete x = HasEveryCompleted (problem_of after same_state same_reply x) (lifted_set (problem_of after same_state same_reply x) lifted)

  pub complete_here : IsComplete q → HasEveryCompleted (problem_of after same_state same_reply r) set
  complete_here k = subst (λ (s : List Bool). HasEveryCompleted (problem_of after same_state same_reply r) s) calls (subst IsComplete same k)

  pub incomplete_here : (IsComplete q → ⊥) → HasEveryCompleted (problem_of after same_state same_reply r) set → ⊥
  incomplete_here k h = k (subst IsComplete (sym same) (subst (λ (s : List Bool). HasEveryCompleted (problem_of after same_state same_reply r) s) (sym calls) h))

-- a set without a call is known by the set with it
pub same_without : (a b : List Bool) (c : ℕ) → with_call a c ≡ with_call b c → has a c ≡ has b c → a ≡ b
same_without a b c more out =
    let len : length a ≡ length b = sym (length-set a c true) ∙ ap length more ∙ length-set b c true in
    ext_get_or false a b len
    (λ i below. elim (same_or_not i c) as (λ _. has a i ≡ has b i) [
      | inl here ↦ rw here out
      | inr apart ↦ sym (has_other a c i apart) ∙ ap (λ (s : List Bool). has s i) more ∙ has_other b c i apart
    ])

pub set_length : {State Op Reply : Type 0} (p : Problem State Op Reply) (lifted : List ℕ) (set : List Bool) → lifted_set p lifted ≡ set → length set ≡ length p.calls
set_length p lifted set is = rw (← is) (length_calls (no_calls p) lifted ∙ length-replicate (length p.calls) false)

-- the call that was lifted last
module _ {State Op Reply : Type 0} (p : Problem State Op Reply) (lifted : List ℕ) (set : List Bool) (c : ℕ) (is : lifted_set p lifted ≡ set) (last : (b : List ℕ) × (lifted ≡ b ++ c ∷ []) × IsMinimal p (lifted_set p b) c) where
  last_more : set ≡ with_call (lifted_set p last.0) c
  last_more = sym is ∙ ap (λ (l : List ℕ). lifted_set p l) last.1 ∙ with_append (no_calls p) last.0 (c ∷ [])

  pub last_there : has set c ≡ true
  last_there =
      let within = last.2.within in
      let len = set_length p last.0 (lifted_set p last.0) refl in
      rw last_more (has_same (lifted_set p last.0) c (omega (arith, within, len)))

  -- the set without it is that of the calls lifted before
  pub last_taken : (unlifted : List ℕ) (new : List Bool) → ((b : List ℕ) → lifted ≡ b ++ c ∷ [] → unlifted ≡ b) → with_call new c ≡ set → has new c ≡ false → lifted_set p unlifted ≡ new
  last_taken unlifted new without_last more out =
      ap (λ (l : List ℕ). lifted_set p l) (without_last last.0 last.1)
      ∙ same_without (lifted_set p last.0) new c (sym last_more ∙ sym more) (last.2.outside ∙ sym out)

-- the steps of a search
module _ {State Op Reply : Type 0} {p : Problem State Op Reply} where
  -- the frames' calls lead to the set here
  pub set_here : (root : Configuration State) (limit : Option ℕ) (lifted : List ℕ) (fs : List (Frame State)) (left : Option ℕ) (here : Configuration State) (longest : Longest) (candidate : Option ℕ) → IsProgress p root limit lifted fs left here longest candidate → with_calls root.lifted (calls_of fs) ≡ here.lifted
  set_here root limit lifted fs left here longest candidate k =
      rw calls_levels at (calls_lead p (levels root.lifted fs) root.lifted root.state here.lifted here.state k.at.path)

  -- the calls lifted are those of the configuration here
  pub calls_here : (root : Configuration State) (limit : Option ℕ) (lifted : List ℕ) (fs : List (Frame State)) (left : Option ℕ) (here : Configuration State) (longest : Longest) (candidate : Option ℕ) → IsProgress p root limit lifted fs left here longest candidate → lifted_set p lifted ≡ here.lifted
  calls_here root limit lifted fs left here longest candidate k =
      rw (k.calls.1, with_append (no_calls p) k.calls.0 (calls_of fs), k.calls.2) (set_here root limit lifted fs left here longest candidate k)

  pub progress_start : (root : Configuration State) (limit : Option ℕ) (lifted : List ℕ) (fs : List (Frame State)) (longest : Longest) (candidate : Option ℕ) → fs ≡ [] → lifted_set p lifted ≡ root.lifted → IsReachable p root.lifted root.state → (HasEveryCompleted p root.lifted → ⊥) → longest ≡ record { more = 0; first = None } → IsLeastMinimal p root.lifted 0 candidate → IsProgress p root limit lifted fs limit root longest candidate
  progress_start root limit lifted fs longest candidate none set reachable open_call e least = rw none (record {
    at = way_start root [] longest candidate refl reachable open_call e least;
    calls = (lifted, sym (append-nil lifted), set);
    lifts = start limit;
  })
    where
      start : (limit : Option ℕ) → IsLeft (AreLifts p [] root.lifted root.state (bound p candidate)) limit limit
      start None = tt
      start (Some most) = (0, omega arith, record { on_path = 0; below = 0; path = refl; many = many_none (IsContinuationBelow p root.lifted root.state (bound p candidate)); total = refl })

  pub step_skip : (root : Configuration State) (limit : Option ℕ) (lifted : List ℕ) (fs : List (Frame State)) (left : Option ℕ) (here : Configuration State) (longest new : Longest) (c : ℕ) (candidate : Option ℕ) → new ≡ longest → ((t : State) → IsNext p here.lifted here.state c t → ⊥) → IsLeastMinimal p here.lifted (c + 1) candidate → IsProgress p root limit lifted fs left here longest (Some c) → GoesOn p root limit lifted fs left here new candidate (work (length p.calls) root.lifted fs here.lifted c)
  step_skip root limit lifted fs left here longest new c candidate same none least k = rw same (
    record {
      at = way_skip root (levels root.lifted fs) here longest (Some c) c candidate refl k.at none least;
      calls = k.calls;
      lifts = left_map (AreLifts p (levels root.lifted fs) here.lifted here.state c) (AreLifts p (levels root.lifted fs) here.lifted here.state (bound p candidate)) limit left (λ n. lifts_to p (levels root.lifted fs) here.lifted here.state c (bound p candidate) n (let on = way_on here.lifted c candidate k.at.minimal least in omega (arith, on))) k.lifts;
    },
    less_on p (levels root.lifted fs) here.lifted (Some c) c candidate refl k.at.minimal least,
  )

  -- the candidate adds nothing to what the calls before it tell
  pub step_past : (root : Configuration State) (limit : Option ℕ) (lifted : List ℕ) (fs : List (Frame State)) (left : Option ℕ) (here : Configuration State) (longest new : Longest) (c : ℕ) (candidate : Option ℕ) → new ≡ longest → AddsNothing p here.lifted here.state c → IsLeastMinimal p here.lifted (c + 1) candidate → IsProgress p root limit lifted fs left here longest (Some c) → GoesOn p root limit lifted fs left here new candidate (work (length p.calls) root.lifted fs here.lifted c)
  step_past root limit lifted fs left here longest new c candidate same past least k = rw same (
    record {
      at = record {
        path = k.at.path;
        reachable = k.at.reachable;
        searched = on_to here longest (c + 1) candidate k.at.reachable.flags (let h = k.at.minimal.within in omega (arith, h)) (past longest.more longest.first k.at.searched) least;
        minimal = minimal_of p here.lifted (c + 1) candidate least;
      };
      calls = k.calls;
      lifts = left_map (AreLifts p (levels root.lifted fs) here.lifted here.state c) (AreLifts p (levels root.lifted fs) here.lifted here.state (bound p candidate)) limit left (λ n. lifts_to p (levels root.lifted fs) here.lifted here.state c (bound p candidate) n (let on = way_on here.lifted c candidate k.at.minimal least in omega (arith, on))) k.lifts;
    },
    less_on p (levels root.lifted fs) here.lifted (Some c) c candidate refl k.at.minimal least,
  )

  -- the search goes on at the next call, or at none where the one before it changes nothing
  pub on_unless_ended : (root : Configuration State) (limit : Option ℕ) (lifted : List ℕ) (fs : List (Frame State)) (left : Option ℕ) (here : Configuration State) (c : ℕ) (t : State) (before : ℕ) (was now : Position) → IsNext p here.lifted here.state c t → IsLeastMinimal p here.lifted (c + 1) was.candidate → (now ≡ was) ⊎ ((now ≡ record { longest = was.longest; candidate = None }) × EndsTheList p c) → GoesOn p root limit lifted fs left here was.longest was.candidate before → GoesOn p root limit lifted fs left here now.longest now.candidate before
  on_unless_ended root limit lifted fs left here c t before was now next least (inl e) k = rw e k
  on_unless_ended root limit lifted fs left here c t before was now next least (inr q) k =
      let q1 = k.0 in
      let up = way_on here.lifted c was.candidate (next_minimal p here.lifted here.state c t next) least in
      let within = bound_within p here.lifted (c + 1) was.candidate least in
      rw q.0 (
        record {
          at = record {
            path = q1.at.path;
            reachable = q1.at.reachable;
            searched = q.1 here.lifted here.state t (bound p was.candidate) was.longest.more was.longest.first next (omega (arith, up)) within q1.at.searched;
            minimal = tt;
          };
          calls = q1.calls;
          lifts = left_map (AreLifts p (levels root.lifted fs) here.lifted here.state (bound p was.candidate)) (AreLifts p (levels root.lifted fs) here.lifted here.state (length p.calls)) limit left (λ n. lifts_to p (levels root.lifted fs) here.lifted here.state (bound p was.candidate) (length p.calls) n within) q1.lifts;
        },
        ended (bound p was.candidate) within k.1,
      )
    where
      ended : (i : ℕ) → i ≤ length p.calls → work_below (length p.calls) (levels root.lifted fs) here.lifted i < before → work_below (length p.calls) (levels root.lifted fs) here.lifted (length p.calls) < before
      ended i within less = elim (cases_lt i (length p.calls)) [
        | inl h ↦ (let w = work_on (length p.calls) (levels root.lifted fs) here.lifted i (length p.calls) h (omega arith) in omega (arith, w, less))
        | inr h ↦ (let e : i ≡ length p.calls = omega (arith, h, within) in rw e at less)
      ]

  pub step_hit : (root : Configuration State) (limit : Option ℕ) (lifted unlifted : List ℕ) (fs : List (Frame State)) (left after : Option ℕ) (from here now : Configuration State) (f : Frame State) (deep new : Longest) (candidate : Option ℕ) → IsTaken left after → (k : IsLifted p root limit lifted fs left from f here) → unlifted ≡ k.before → now ≡ from → IsRefutedWith p here.lifted here.state deep → (f.longest.more < deep.more + 1 → new ≡ record { more = deep.more + 1; first = Some f.call }) → (deep.more + 1 ≤ f.longest.more → new ≡ f.longest) → IsLeastMinimal p now.lifted (f.call + 1) candidate → GoesOn p root limit unlifted fs after now new candidate (work (length p.calls) root.lifted fs from.lifted f.call)
  step_hit root limit lifted unlifted fs left after from here now f deep new candidate taken k back same refuted longer not_longer least =
      let q = k.progress in
      let least_here = rw same at least in
      rw (back, same) (
        record {
          at = way_hit root (levels root.lifted fs) from f.longest deep new (Some f.call) f.call here.state candidate refl q.at k.next (rw k.set at refuted) longer not_longer least_here;
          calls = q.calls;
          lifts = left_taken (AreLifts p (levels root.lifted fs) from.lifted from.state f.call) (AreLifts p (levels root.lifted fs) from.lifted from.state (bound p candidate)) limit left after (λ n h. lifts_to p (levels root.lifted fs) from.lifted from.state (f.call + 1) (bound p candidate) (n + 1) (way_on from.lifted f.call candidate q.at.minimal least_here) (lifts_hit p (levels root.lifted fs) from.lifted from.state f.call n here.state q.at.reachable.flags k.next h)) taken q.lifts;
        },
        less_on p (levels root.lifted fs) from.lifted (Some f.call) f.call candidate refl q.at.minimal least_here,
      )

  pub step_push : (root : Configuration State) (limit : Option ℕ) (lifted : List ℕ) (fs : List (Frame State)) (left after : Option ℕ) (from here : Configuration State) (f : Frame State) (longest : Longest) (candidate : Option ℕ) → IsTaken left after → IsLifted p root limit lifted fs left from f here → (HasEveryCompleted p here.lifted → ⊥) → longest ≡ record { more = 0; first = None } → IsLeastMinimal p here.lifted 0 candidate → GoesOn p root limit lifted (fs ++ f ∷ []) after here longest candidate (work (length p.calls) root.lifted fs from.lifted f.call)
  step_push root limit lifted fs left after from here f longest candidate taken k open_call e least =
      let q = k.progress in
      let ends = levels_end root.lifted fs f from (set_here root limit k.before fs left from f.longest (Some f.call) q) k.state in (
        record {
          at = rw ends (way_push root (levels root.lifted fs) from here f.longest longest (Some f.call) f.call candidate refl q.at k.next k.set k.reachable open_call e least);
          calls = (q.calls.0, k.last ∙ ap (λ (l : List ℕ). l ++ f.call ∷ []) q.calls.1 ∙ sym (calls_pushed q.calls.0 fs f), q.calls.2);
          lifts = rw ends (left_taken (AreLifts p (levels root.lifted fs) from.lifted from.state f.call) (AreLifts p (levels root.lifted fs ++ level_of from f ∷ []) here.lifted here.state (bound p candidate)) limit left after (λ n h. lifts_push p (levels root.lifted fs) (level_of from f) here.lifted here.state (bound p candidate) n h) taken q.lifts);
        },
        rw ends (less_down p root (levels root.lifted fs ++ level_of from f ∷ []) (levels root.lifted fs) from here f.longest (Some f.call) f.call candidate refl refl q.at k.next k.set),
      )

  pub lifted_now : (root : Configuration State) (limit : Option ℕ) (before lifted : List ℕ) (fs : List (Frame State)) (left : Option ℕ) (from here : Configuration State) (c : ℕ) (longest : Longest) (f : Frame State) → IsProgress p root limit before fs left from longest (Some c) → IsNext p from.lifted from.state c here.state → IsReachable p (with_call from.lifted c) here.state → lifted ≡ before ++ c ∷ [] → here.lifted ≡ with_call from.lifted c → f ≡ record { state = from.state; call = c; longest = longest } → IsLifted p root limit lifted fs left from f here
  lifted_now root limit before lifted fs left from here c longest f progress follows reachable last set is = rw is (record {
    before = before;
    progress = progress;
    last = last;
    state = refl;
    set = set;
    next = follows;
    reachable = rw set reachable;
  })

  -- what is known where a call was lifted
  module _ (root : Configuration State) (limit : Option ℕ) (lifted : List ℕ) (fs : List (Frame State)) (left : Option ℕ) (from : Configuration State) (f : Frame State) (here : Configuration State) (k : IsLifted p root limit lifted fs left from f here) where
    set_from : lifted_set p k.before ≡ from.lifted
    set_from = calls_here root limit k.before fs left from f.longest (Some f.call) k.progress

    pub lifted_here : lifted_set p lifted ≡ here.lifted
    lifted_here = rw (k.last, with_append (no_calls p) k.before (f.call ∷ []), set_from, k.set) refl

    pub lifted_last : (b : List ℕ) × (lifted ≡ b ++ f.call ∷ []) × IsMinimal p (lifted_set p b) f.call
    lifted_last = (k.before, k.last, rw set_from k.progress.at.minimal)

    pub lifted_room : (deep : Longest) → IsRefutedWith p here.lifted here.state deep → deep.more < length p.calls
    lifted_room deep refuted =
        let known : IsRefutedWith p (with_call from.lifted f.call) here.state deep = rw k.set at refuted in
        let fits = room p from.lifted from.state f.call here.state deep.more deep.first k.progress.at.reachable.flags k.next known.longest_is in
        omega (arith, fits)

    -- the call was taken out again
    pub lifted_back : (unlifted : List ℕ) (now : Configuration State) → unlifted ≡ k.before → lifted_set p unlifted ≡ now.lifted → now.state ≡ f.state → now ≡ from
    lifted_back unlifted now back set state =
        let lifted_is : now.lifted ≡ from.lifted = sym set ∙ ap (λ (l : List ℕ). lifted_set p l) back ∙ set_from in
        let state_is : now.state ≡ from.state = state ∙ k.state in
        rw (lifted_is, state_is) refl

  -- the configuration that the last frame's call was lifted from
  module _ (root : Configuration State) (limit : Option ℕ) (lifted : List ℕ) (all fs : List (Frame State)) (f : Frame State) (left : Option ℕ) (here : Configuration State) (longest : Longest) (split : all ≡ fs ++ f ∷ []) (k : IsProgress p root limit lifted all left here longest None) where
    abbrev unlifted_calls : List ℕ
    unlifted_calls = k.calls.0 ++ calls_of fs

    abbrev back : Configuration State
    back = record { lifted = with_calls root.lifted (calls_of fs); state = f.state }

    last_before : lifted ≡ unlifted_calls ++ f.call ∷ []
    last_before = k.calls.1 ∙ ap (λ (l : List (Frame State)). k.calls.0 ++ calls_of l) split ∙ calls_pushed k.calls.0 fs f

    set_before : lifted_set p unlifted_calls ≡ with_calls root.lifted (calls_of fs)
    set_before = with_append (no_calls p) k.calls.0 (calls_of fs) ∙ ap (λ (s : List Bool). with_calls s (calls_of fs)) k.calls.2

    at_back : IsAt p root (levels root.lifted fs ++ level_of back f ∷ []) here longest None
    at_back = rw (levels_end root.lifted fs f back refl refl) at ((rw split at k).at)

    pub pop_last : (b : List ℕ) × (lifted ≡ b ++ f.call ∷ []) × IsMinimal p (lifted_set p b) f.call
    pop_last = (
      unlifted_calls,
      last_before,
      rw set_before (way_pop_minimal root (levels root.lifted fs ++ level_of back f ∷ []) (levels root.lifted fs) (level_of back f) here longest None refl at_back),
    )

    pub pop_room : longest.more < length p.calls
    pop_room =
        let room = way_pop_room root (levels root.lifted fs ++ level_of back f ∷ []) (levels root.lifted fs) (level_of back f) here longest None refl refl at_back in
        omega (arith, room)

    -- the set that is left when the call is taken out again
    pub pop_set : (unlifted : List ℕ) (set : List Bool) → ((b : List ℕ) → lifted ≡ b ++ f.call ∷ [] → unlifted ≡ b) → lifted_set p unlifted ≡ set → with_calls root.lifted (calls_of fs) ≡ set
    pop_set unlifted set without_last is = sym set_before ∙ ap (λ (l : List ℕ). lifted_set p l) (sym (without_last unlifted_calls last_before)) ∙ is

    -- the last frame's call leads here from where it was lifted
    pub pop_next : (now : Configuration State) → with_calls root.lifted (calls_of fs) ≡ now.lifted → f.state ≡ now.state → IsNext p now.lifted now.state f.call here.state
    pop_next now set state =
        let at : IsAt p root (levels root.lifted fs ++ level_of now f ∷ []) here longest None = rw (levels_end root.lifted fs f now set state) at ((rw split at k).at) in
        (leads_pop p (levels root.lifted fs) (level_of now f) root.lifted root.state here.lifted here.state at.path).1.next

    pub step_back : (unlifted : List ℕ) (now : Configuration State) (new : Longest) (candidate : Option ℕ) → ((b : List ℕ) → lifted ≡ b ++ f.call ∷ [] → unlifted ≡ b) → lifted_set p unlifted ≡ now.lifted → f.state ≡ now.state → (f.longest.more < longest.more + 1 → new ≡ record { more = longest.more + 1; first = Some f.call }) → (longest.more + 1 ≤ f.longest.more → new ≡ f.longest) → IsLeastMinimal p now.lifted (f.call + 1) candidate → GoesOn p root limit unlifted fs left now new candidate (work (length p.calls) root.lifted all here.lifted (length p.calls))
    step_back unlifted now new candidate without_last set state longer not_longer least =
        let ls = levels root.lifted fs in
        let l = level_of now f in
        let ends = levels_end root.lifted fs f now (pop_set unlifted now.lifted without_last set) state in
        let at : IsAt p root (ls ++ l ∷ []) here longest None = rw ends at ((rw split at k).at) in
        let lifts : IsLeft (AreLifts p (ls ++ l ∷ []) here.lifted here.state (length p.calls)) limit left = rw ends at ((rw split at k).lifts) in
        let q = leads_pop p ls l root.lifted root.state here.lifted here.state at.path in
        let minimal = next_minimal p now.lifted now.state f.call here.state q.1.next in (
          record {
            at = way_pop root (ls ++ l ∷ []) ls l here longest new None candidate refl refl at longer not_longer least;
            calls = (k.calls.0, without_last unlifted_calls last_before, k.calls.2);
            lifts = left_map (AreLifts p (ls ++ l ∷ []) here.lifted here.state (length p.calls)) (AreLifts p ls now.lifted now.state (bound p candidate)) limit left (λ n h. lifts_to p ls now.lifted now.state (f.call + 1) (bound p candidate) n (way_on now.lifted f.call candidate minimal least) (lifts_pop p ls l here.lifted here.state (length p.calls) n q.1 q.2 h)) lifts;
          },
          rw (split, ends) (less_up p (ls ++ l ∷ []) ls l here.lifted None candidate refl minimal least),
        )

  -- all calls here were tried
  pub refuted_here : (root : Configuration State) (limit : Option ℕ) (lifted : List ℕ) (fs : List (Frame State)) (left : Option ℕ) (here : Configuration State) (longest : Longest) → IsProgress p root limit lifted fs left here longest None → IsRefutedWith p here.lifted here.state longest
  refuted_here root limit lifted fs left here longest k = way_refuted root (levels root.lifted fs) here longest None refl k.at

  -- the call completes
  pub found_here : (root : Configuration State) (limit : Option ℕ) (lifted : List ℕ) (fs : List (Frame State)) (left : Option ℕ) (from here : Configuration State) (f : Frame State) → IsLifted p root limit lifted fs left from f here → HasEveryCompleted p here.lifted → IsLeast (IsCompletion p root.lifted root.state) (calls_of fs ++ f.call ∷ [])
  found_here root limit lifted fs left from here f k all =
      rw calls_levels at (way_found root (levels root.lifted fs) from here f.longest (Some f.call) f.call refl k.progress.at k.next k.set all)

  -- no lift is left, or the stop answered, and one call more can follow
  pub answer_refused : (root : Configuration State) (limit : Option ℕ) (lifted : List ℕ) (fs : List (Frame State)) (left : Option ℕ) (here : Configuration State) (longest : Longest) (c : ℕ) (t : State) (tells : ℕ → Type 0) (o : Outcome) → IsNext p here.lifted here.state c t → IsProgress p root limit lifted fs left here longest (Some c) → IsRefusal left tells o → IsAnswer p root.lifted root.state limit tells o
  answer_refused root limit lifted fs left here longest c t tells (Found order) next k h = absurd h
  answer_refused root limit lifted fs left here longest c t tells (Refuted deep) next k h = absurd h
  answer_refused root limit lifted fs left here longest c t tells Undecided next k h = more limit left h k.lifts
    where
      more : (limit left : Option ℕ) → left ≡ Some 0 → IsLeft (AreLifts p (levels root.lifted fs) here.lifted here.state c) limit left → IsSomeAnd limit (λ (most : ℕ). HasMoreThan (IsContinuation p root.lifted root.state) most)
      more None None e l = absurd (cc)
      more (Some most) None e l = absurd l
      more None (Some rest) e l = absurd l
      more (Some most) (Some rest) e l =
          let d = l.1 in
          let z : rest ≡ 0 = cc in
          many_as (IsContinuation p root.lifted root.state) (l.0 + 1) (most + 1) (omega (arith, d, z)) (lifts_more p (levels root.lifted fs) root.lifted root.state here.lifted here.state c l.0 t k.at.path k.at.reachable.flags next l.2)
  answer_refused root limit lifted fs left here longest c t tells (Stopped told) next k h = h

  -- all calls of the root were tried
  pub answer_refuted : (root : Configuration State) (limit : Option ℕ) (lifted : List ℕ) (fs : List (Frame State)) (left : Option ℕ) (here : Configuration State) (longest : Longest) → fs ≡ [] → IsProgress p root limit lifted fs left here longest None → (((l : List ℕ) → IsCompletion p root.lifted root.state l → ⊥) × IsLongest (IsContinuation p root.lifted root.state) longest.more longest.first) × (here ≡ root)
  answer_refuted root limit lifted fs left here longest none k =
      let at : IsAt p root [] here longest None = (rw none at k).at in
      let q = way_root root [] here longest None refl at in
      (way_end root [] here longest None refl refl at, rw (q.0, q.1) refl)

  pub holds_refuted : (holds : List Bool → State → Type 0) (root : Configuration State) (fs : List (Frame State)) (here : Configuration State) → fs ≡ [] → here ≡ root → HoldsSearched p holds root.lifted fs here None → HoldsSearched p holds root.lifted [] root None
  holds_refuted holds root fs here none same k = rw same at (rw none at k)

pub not_refusal : (left : Option ℕ) (tells : ℕ → Type 0) (o : Outcome) → IsRefusal left tells o → IsRefutation o → ⊥
not_refusal left tells (Found order) k h = h
not_refusal left tells (Refuted longest) k h = k
not_refusal left tells Undecided k h = h
not_refusal left tells (Stopped told) k h = h

module _ {State Op Reply : Type 0} (p : Problem State Op Reply) where
  -- an answer that no limit and no stop had a part in
  pub answer_decided : (set : List Bool) (s : State) (limit : Option ℕ) (tells : ℕ → Type 0) (o : Outcome) → IsDecision p set s o → IsAnswer p set s limit tells o
  answer_decided set s limit tells (Found order) k = k
  answer_decided set s limit tells (Refuted longest) k = k
  answer_decided set s limit tells Undecided k = absurd k
  answer_decided set s limit tells (Stopped told) k = absurd k

  pub answer_refutes : (set : List Bool) (s : State) (limit : Option ℕ) (tells : ℕ → Type 0) (o : Outcome) (longest : Longest) → o ≡ Refuted longest → IsReachable p set s → IsAnswer p set s limit tells o → IsRefutedWith p set s longest
  answer_refutes set s limit tells o longest is reachable answer =
      let refuted : IsAnswer p set s limit tells (Refuted longest) = rw is at answer in
      record { refuted = record { reachable = reachable; none = refuted.0 }; longest_is = refuted.1 }

  -- a step that no stop had a part in
  pub step_tells : (root : Configuration State) (limit : Option ℕ) (lifted : List ℕ) (fs : List (Frame State)) (left : Option ℕ) (here : Configuration State) (tells : ℕ → Type 0) (before : ℕ) (step : ControlFlow Outcome Position) → IsStep p root limit lifted fs left here (λ told. ⊥) before step → IsStep p root limit lifted fs left here tells before step
  step_tells root limit lifted fs left here tells was (Continue at) k = k
  step_tells root limit lifted fs left here tells was (Break (Found order)) k = k
  step_tells root limit lifted fs left here tells was (Break (Refuted longest)) k = k
  step_tells root limit lifted fs left here tells was (Break Undecided) k = k
  step_tells root limit lifted fs left here tells was (Break (Stopped told)) k = absurd k.0

-- what is told of a result, told otherwise
pub ok_map : {T E : Type 0} (P Q : T → Type 0) (r : Result T E) → ((x : T) → P x → Q x) → IfOk r P → IfOk r Q
ok_map P Q (Ok x) f k = f x k
ok_map P Q (Err e) f k = tt

pub ok_both : {T E : Type 0} (P Q R : T → Type 0) (r : Result T E) → ((x : T) → P x → Q x → R x) → IfOk r P → IfOk r Q → IfOk r R
ok_both P Q R (Ok x) f k h = f x k h
ok_both P Q R (Err e) f k h = tt
