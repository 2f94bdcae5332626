-- What the calls that a scout has tried tell of a configuration, and the way that it came.
use Rattle.std.proofs.Common.{◌≡◌, ℕ, ◌+◌, ◌<◌, ◌≤◌, Bool, true, false, Option, Some, None, List, [], ◌∷◌, ◌++◌, length, ◌⊎◌, inl, inr, refl, sym, ◌∙◌, ap, subst, arith}
use Rattle.std.specs.Prelude.{IfSome, IfNone, ◌-◌, map}
use Rattle.std.proofs.lemmas.Bool.{cases_lt}
use Rattle.lin_object.specs.StepBacks.{state_before}
use Rattle.lin_object.specs.declared.step_back.Change.{Change}
use Rattle.lin_history.specs.Problems.Problem.{Problem}
use Rattle.lin_history.specs.Problems.Lists.{first_of}
use Rattle.lin_history.specs.Problems.Continuations.{IsContinuation, IsCompletion, no_calls}
use Rattle.lin_history.specs.Problems.Configurations.{IsReachable}
use Rattle.lin_search.specs.declared.longest.Longest.{Longest}
use Rattle.lin_search.specs.CallSet.{with_call, lifted_set}
use Rattle.lin_search.specs.CallSetLemmas.{with_append}
use Rattle.lin_search.specs.Configuration.{Configuration}
use Rattle.lin_search.specs.NextCall.{IsNext, HasEveryCompleted}
use Rattle.lin_search.specs.Entries.{IsMinimal, IsLeastMinimal}
use Rattle.lin_search.specs.Refutation.{IsRefutedWith}
use Rattle.lin_search.specs.FirstCallLemmas.{continuation_split, continuation_join, none_continues, complete_none, tail_continues, tail_completes}
use Rattle.lin_workers.specs.Scouting.{ComesBefore, WasTried, IsThrough, BeginsIn, IsSearchedBy, IsNextTurn, IsWithTurn, IsTurnAt, Turn, KeptTurn, IsTrail, IsTrailTo, IsScouted, IsTurnFrom, turned, turn_of, turns_of}
use Rattle.lin_search.specs.Path.{Frame, state_at}
use Rattle.lin_workers.specs.declared.workers.scouts.Position.{Position}
use Rattle.lin_search.proofs.ProgressLemmas.{room}
use Rattle.lin_search.proofs.PathLemmas.{next_minimal, calls_more}

module _ {State Op Reply : Type 0} (p : Problem State Op Reply) (here : Configuration State) where
  -- no call of which the first alone holds can follow, and the second holds of no more
  pub searched_as : (P Q : ℕ → Type 0) (longest : Longest) → length here.lifted ≡ length p.calls → ((d : ℕ) (t : State) → IsNext p here.lifted here.state d t → Q d → P d) → ((d : ℕ) → P d → Q d) → IsSearchedBy p here P longest → IsSearchedBy p here Q longest
  searched_as P Q longest flags back on k = record {
    none = λ l c b. k.none l c (narrow l c.continuation b);
    longest_is = record {
      there = let q = k.longest_is.there in (q.0, (q.1.0, widen q.0 q.1.1), q.2, q.3);
      greatest = λ l c. k.longest_is.greatest l (c.0, narrow l c.0 c.1);
      least = λ l c. k.longest_is.least l (c.0, narrow l c.0 c.1);
    };
  }
    where
      narrow : (l : List ℕ) → IsContinuation p here.lifted here.state l → BeginsIn Q l → BeginsIn P l
      narrow [] c b = tt
      narrow (d ∷ ds) c b = let n = continuation_split p here.lifted here.state d ds flags c in back d n.0 n.1 b

      widen : (l : List ℕ) → BeginsIn P l → BeginsIn Q l
      widen [] b = tt
      widen (d ∷ ds) b = on d b

  pub searched_none : (HasEveryCompleted p here.lifted → ⊥) → IsSearchedBy p here (λ d. ⊥) (record { more = 0; first = None })
  searched_none open_call = record {
    none = none;
    longest_is = record {
      there = ([], (none_continues p here.lifted here.state, tt), refl, refl);
      greatest = greatest;
      least = λ l k e c d f g. absurd (cc);
    };
  }
    where
      none : (l : List ℕ) → IsCompletion p here.lifted here.state l → BeginsIn (λ d. ⊥) l → ⊥
      none [] k b = open_call (complete_none p here.lifted here.state k)
      none (c ∷ cs) k b = b

      greatest : (l : List ℕ) → IsContinuation p here.lifted here.state l × BeginsIn (λ d. ⊥) l → length l ≤ 0
      greatest [] k = omega arith
      greatest (c ∷ cs) k = absurd k.1

  -- a list that begins with the call or one of P begins with one of P, or is the call and more
  through_cases : (c : ℕ) (P : ℕ → Type 0) (l : List ℕ) → BeginsIn (λ d. (d ≡ c) ⊎ P d) l → BeginsIn P l ⊎ ((cs : List ℕ) × (l ≡ c ∷ cs))
  through_cases c P [] b = inl tt
  through_cases c P (d ∷ ds) b = elim b [ inl e ↦ inr (ds, rw e refl) | inr h ↦ inl h ]

  through_more : (c : ℕ) (P : ℕ → Type 0) (l : List ℕ) → BeginsIn P l → BeginsIn (λ d. (d ≡ c) ⊎ P d) l
  through_more c P [] b = tt
  through_more c P (d ∷ ds) b = inr b

  first_begins : (P : ℕ → Type 0) (l : List ℕ) (d : ℕ) → first_of l ≡ Some d → BeginsIn P l → P d
  first_begins P [] d e b = absurd (cc)
  first_begins P (c ∷ cs) d e b = let same : c ≡ d = cc in subst P same b

  -- the call leads to a configuration that has no completion and this longest continuation
  module _ (c : ℕ) (t : State) (deep : Longest) (flags : length here.lifted ≡ length p.calls) (is_next : IsNext p here.lifted here.state c t) (refuted : IsRefutedWith p (with_call here.lifted c) t deep) (P : ℕ → Type 0) (longest : Longest) (searched : IsSearchedBy p here P longest) where
    none_more : (l : List ℕ) → IsCompletion p here.lifted here.state l → BeginsIn (λ d. (d ≡ c) ⊎ P d) l → ⊥
    none_more l k b = elim (through_cases c P l b) [
      | inl h ↦ searched.none l k h
      | inr q ↦ refuted.refuted.none q.0 (tail_completes p here.lifted here.state c t flags is_next q.0 (subst (λ (m : List ℕ). IsCompletion p here.lifted here.state m) q.1 k))
    ]

    deep_short : (l cs : List ℕ) → l ≡ c ∷ cs → IsContinuation p here.lifted here.state l → length l ≤ deep.more + 1
    deep_short l cs e k =
        let h = refuted.longest_is.greatest cs (tail_continues p here.lifted here.state c t flags is_next cs (subst (λ (m : List ℕ). IsContinuation p here.lifted here.state m) e k)) in
        let n : length l ≡ length (c ∷ cs) = ap length e in
        omega (arith, h, n)

    pub searched_new : longest.more ≤ deep.more + 1 → (longest.more < deep.more + 1) ⊎ ((d : ℕ) → P d → c < d) → IsSearchedBy p here (λ d. (d ≡ c) ⊎ P d) (record { more = deep.more + 1; first = Some c })
    searched_new no_less apart = record {
      none = none_more;
      longest_is = record {
        there =
            let q = refuted.longest_is.there in
            (c ∷ q.0, (continuation_join p here.lifted here.state c q.0 t flags is_next q.1, inl refl), (let n = q.2 in omega (arith, n)), refl);
        greatest = λ l k. elim (through_cases c P l k.1) [
          | inl h ↦ (let n = searched.longest_is.greatest l (k.0, h) in omega (arith, n, no_less))
          | inr q ↦ deep_short l q.0 q.1 k.0
        ];
        least = λ l k e a d f g. elim (through_cases c P l k.1) [
          | inl h ↦ elim apart [
            | inl less ↦ absurd (let n = searched.longest_is.greatest l (k.0, h) in omega (arith, n, less, e))
            | inr above ↦ (let n = above d (first_begins P l d g h) in let same : c ≡ a = cc in omega (arith, n, same))
          ]
          | inr q ↦ (let w = first_is l q.0 a d q.1 f g in omega (arith, w))
        ];
      };
    }
      where
        first_is : (l cs : List ℕ) (a d : ℕ) → l ≡ c ∷ cs → Some c ≡ Some a → first_of l ≡ Some d → a ≡ d
        first_is l cs a d e f g = let g' = rw e at g in cc

    pub searched_same : deep.more + 1 ≤ longest.more → (deep.more + 1 < longest.more) ⊎ ((d : ℕ) → P d → d < c) → IsSearchedBy p here (λ d. (d ≡ c) ⊎ P d) longest
    searched_same no_longer apart = record {
      none = none_more;
      longest_is = record {
        there = let q = searched.longest_is.there in (q.0, (q.1.0, through_more c P q.0 q.1.1), q.2, q.3);
        greatest = λ l k. elim (through_cases c P l k.1) [
          | inl h ↦ searched.longest_is.greatest l (k.0, h)
          | inr q ↦ (let n = deep_short l q.0 q.1 k.0 in omega (arith, n, no_longer))
        ];
        least = λ l k e a d f g. elim (through_cases c P l k.1) [
          | inl h ↦ searched.longest_is.least l (k.0, h) e a d f g
          | inr q ↦ elim apart [
            | inl less ↦ absurd (let n = deep_short l q.0 q.1 k.0 in omega (arith, n, less, e))
            | inr below ↦ begins_less l q.0 a d q.1 f g below
          ]
        ];
      };
    }
      where
        begins_less : (l cs : List ℕ) (a d : ℕ) → l ≡ c ∷ cs → longest.first ≡ Some a → first_of l ≡ Some d → ((d : ℕ) → P d → d < c) → a ≤ d
        begins_less l cs a d e f g below =
            let g' : Some c ≡ Some d = rw e at g in
            let same : c ≡ d = cc in
            let q = searched.longest_is.there in
            let head : a < c = below a (first_begins P q.0 a (q.3 ∙ f) q.1.1) in
            omega (arith, same, head)

    -- what the call and those before it tell
    pub searched_more : (up : Bool) (after : Longest) → ((d : ℕ) → P d → ComesBefore up c d) → IsWithTurn up longest c deep after → IsSearchedBy p here (λ d. (d ≡ c) ⊎ P d) after
    searched_more true after apart k = elim (cases_lt longest.more (deep.more + 1)) [
      | inl h ↦ rw (k.better h) (searched_new (omega (arith, h)) (inl h))
      | inr h ↦ rw (k.not_better (λ b. omega (arith, b, h))) (searched_same h (inr apart))
    ]
    searched_more false after apart k = elim (cases_lt (deep.more + 1) longest.more) [
      | inl h ↦ rw (k.not_better (λ b. omega (arith, b, h))) (searched_same (omega (arith, h)) (inl h))
      | inr h ↦ rw (k.better h) (searched_new h (inr apart))
    ]

  -- all before the candidate were tried, where all of which P holds were
  searched_turn : (up : Bool) (P : ℕ → Type 0) (longest : Longest) (candidate : Option ℕ) → length here.lifted ≡ length p.calls → ((d : ℕ) (t : State) → IsNext p here.lifted here.state d t → P d → P d) → IsNextTurn p here.lifted up P candidate → IsSearchedBy p here P longest → IsSearchedBy p here (WasTried up candidate) longest
  searched_turn up P longest None flags same turn k =
      searched_as P (λ d. Unit {0}) longest flags (λ d t n all. turn d (next_minimal p here.lifted here.state d t n)) (λ d h. tt) k
  searched_turn up P longest (Some c) flags same turn k =
      searched_as P (ComesBefore up c) longest flags (λ d t n before. turn.1 d (next_minimal p here.lifted here.state d t n) before) turn.2 k

  turn_minimal : (up : Bool) (P : ℕ → Type 0) (candidate : Option ℕ) → IsNextTurn p here.lifted up P candidate → IfSome candidate (λ (c : ℕ). IsMinimal p here.lifted c)
  turn_minimal up P None turn = tt
  turn_minimal up P (Some c) turn = turn.0

  turn_at : (up : Bool) (P : ℕ → Type 0) (longest : Longest) (candidate : Option ℕ) → IsReachable p here.lifted here.state → IsNextTurn p here.lifted up P candidate → IsSearchedBy p here P longest → IsTurnAt p here up longest candidate
  turn_at up P longest candidate reachable turn k = record {
    reachable = reachable;
    searched = searched_turn up P longest candidate reachable.flags (λ d t n h. h) turn k;
    minimal = turn_minimal up P candidate turn;
  }

  -- a configuration that was entered
  pub at_enter : (up : Bool) (candidate : Option ℕ) → IsReachable p here.lifted here.state → (HasEveryCompleted p here.lifted → ⊥) → IsNextTurn p here.lifted up (λ d. ⊥) candidate → IsTurnAt p here up (record { more = 0; first = None }) candidate
  at_enter up candidate reachable open_call turn = turn_at up (λ d. ⊥) (record { more = 0; first = None }) candidate reachable turn (searched_none open_call)

  -- a call that can't follow was passed over
  pub at_skip : (up : Bool) (longest : Longest) (c : ℕ) (candidate : Option ℕ) → IsTurnAt p here up longest (Some c) → ((t : State) → IsNext p here.lifted here.state c t → ⊥) → IsNextTurn p here.lifted up (IsThrough up c) candidate → IsTurnAt p here up longest candidate
  at_skip up longest c candidate k no_step turn =
      turn_at up (IsThrough up c) longest candidate k.reachable turn
      (searched_as (ComesBefore up c) (IsThrough up c) longest k.reachable.flags (λ d t n h. elim h [ inl e ↦ absurd (no_step t (subst (λ (x : ℕ). IsNext p here.lifted here.state x t) e n)) | inr b ↦ b ]) (λ d b. inr b) k.searched)

  -- a call led to what is refuted
  pub at_more : (up : Bool) (longest : Longest) (c : ℕ) (t : State) (deep after : Longest) (candidate : Option ℕ) → IsTurnAt p here up longest (Some c) → IsNext p here.lifted here.state c t → IsRefutedWith p (with_call here.lifted c) t deep → IsWithTurn up longest c deep after → IsNextTurn p here.lifted up (IsThrough up c) candidate → IsTurnAt p here up after candidate
  at_more up longest c t deep after candidate k n refuted more turn =
      turn_at up (IsThrough up c) after candidate k.reachable turn
      (searched_more c t deep k.reachable.flags n refuted (ComesBefore up c) longest k.searched up after (λ d b. b) more)

  -- all calls were tried
  pub at_end : (up : Bool) (longest : Longest) → IsTurnAt p here up longest None → IsRefutedWith p here.lifted here.state longest
  at_end up longest k = record {
    refuted = record { reachable = k.reachable; none = λ l c. k.searched.none l c (all l) };
    longest_is = let q = k.searched.longest_is in record {
      there = (q.there.0, q.there.1.0, q.there.2, q.there.3);
      greatest = λ l c. q.greatest l (c, all l);
      least = λ l c. q.least l (c, all l);
    };
  }
    where
      all : (l : List ℕ) → BeginsIn (WasTried up None) l
      all [] = tt
      all (c ∷ cs) = tt

-- the greatest minimal call so far, and the least after it
abbrev pub IsGreatestSoFar : {State Op Reply : Type 0} → Problem State Op Reply → List Bool → ℕ → Option ℕ → Option ℕ → Type 0
IsGreatestSoFar p set bound None candidate = IsLeastMinimal p set 0 candidate
IsGreatestSoFar p set bound (Some b) candidate = IsMinimal p set b × (b < bound) × IsLeastMinimal p set (b + 1) candidate

-- how many calls there are from the candidate on
abbrev pub calls_from : ℕ → Option ℕ → ℕ
calls_from n None = 0
calls_from n (Some c) = n - c

module _ {State Op Reply : Type 0} (p : Problem State Op Reply) (set : List Bool) (bound : ℕ) where
  pub greatest_minimal : (greatest : Option ℕ) (c : ℕ) → IsGreatestSoFar p set bound greatest (Some c) → IsMinimal p set c
  greatest_minimal None c k = k.0
  greatest_minimal (Some b) c k = k.2.0

  pub less_from : (c : ℕ) (candidate : Option ℕ) → IsMinimal p set c → IsLeastMinimal p set (c + 1) candidate → calls_from (length p.calls) candidate < calls_from (length p.calls) (Some c)
  less_from c None m k = let h = m.within in omega (arith, h)
  less_from c (Some d) m k = let h = m.within in let e = k.1 in omega (arith, h, e)

  -- no minimal call that is not below the candidate is below the bound
  abbrev IsOver : Option ℕ → Type 0
  IsOver candidate = (c : ℕ) → candidate ≡ Some c → bound ≤ c

  over : (k d : ℕ) (candidate : Option ℕ) → IsOver candidate → IsLeastMinimal p set k candidate → IsMinimal p set d → d < bound → d < k
  over k d candidate stops least m h = elim (cases_lt d k) [ inl q ↦ q | inr q ↦ absurd (past candidate stops least q) ]
    where
      past : (candidate : Option ℕ) → IsOver candidate → IsLeastMinimal p set k candidate → k ≤ d → ⊥
      past None stops least q = least d m q
      past (Some c) stops least q = let a = stops c refl in let b = least.2 d m q in omega (arith, a, b, h)

  pub greatest_some : (greatest : Option ℕ) (candidate : Option ℕ) → IsOver candidate → IsGreatestSoFar p set bound greatest candidate → IfSome greatest (λ (b : ℕ). IsMinimal p set b × (b < bound) × ((d : ℕ) → IsMinimal p set d → d < bound → d ≤ b))
  greatest_some None candidate stops k = tt
  greatest_some (Some b) candidate stops k = (k.0, k.1, λ d m h. let q = over (b + 1) d candidate stops k.2 m h in omega (arith, q))

  pub greatest_none : (greatest : Option ℕ) (candidate : Option ℕ) → IsOver candidate → IsGreatestSoFar p set bound greatest candidate → IfNone greatest ((d : ℕ) → IsMinimal p set d → d < bound → ⊥)
  greatest_none None candidate stops k = λ d m h. let q = over 0 d candidate stops k m h in omega (arith, q)
  greatest_none (Some b) candidate stops k = tt

  -- the greatest below all calls, and below the call, are tried first and next downwards
  pub first_down : (greatest : Option ℕ) → bound ≡ length p.calls → IfSome greatest (λ (b : ℕ). IsMinimal p set b × (b < bound) × ((d : ℕ) → IsMinimal p set d → d < bound → d ≤ b)) → IfNone greatest ((d : ℕ) → IsMinimal p set d → d < bound → ⊥) → IsNextTurn p set false (λ d. ⊥) greatest
  first_down None all some none = λ d m. none d m (let h = m.within in omega (arith, h, all))
  first_down (Some b) all some none = (some.0, (λ d m h. let q = some.2 d m (let w = m.within in omega (arith, w, all)) in omega (arith, q, h)), λ d h. absurd h)

  pub next_down : (greatest : Option ℕ) → IfSome greatest (λ (b : ℕ). IsMinimal p set b × (b < bound) × ((d : ℕ) → IsMinimal p set d → d < bound → d ≤ b)) → IfNone greatest ((d : ℕ) → IsMinimal p set d → d < bound → ⊥) → IsNextTurn p set false (IsThrough false bound) greatest
  next_down None some none = λ d m. elim (three d bound) [ inl h ↦ absurd (none d m h) | inr h ↦ h ]
    where
      three : (d c : ℕ) → (d < c) ⊎ ((d ≡ c) ⊎ (c < d))
      three d c = grind arith
  next_down (Some b) some none = (some.0, (λ d m h. elim (three d bound) [ inl q ↦ absurd (let w = some.2 d m q in omega (arith, w, h)) | inr q ↦ q ]), λ d h. elim h [ inl e ↦ (let w = some.1 in omega (arith, e, w)) | inr q ↦ (let w = some.1 in omega (arith, q, w)) ])
    where
      three : (d c : ℕ) → (d < c) ⊎ ((d ≡ c) ⊎ (c < d))
      three d c = grind arith

  pub first_up : (candidate : Option ℕ) → IsLeastMinimal p set 0 candidate → IsNextTurn p set true (λ d. ⊥) candidate
  first_up None k = λ d m. k d m (omega arith)
  first_up (Some c) k = (k.0, (λ d m h. let q = k.2 d m (omega arith) in omega (arith, q, h)), λ d h. absurd h)

  pub next_up : (c : ℕ) (candidate : Option ℕ) → IsLeastMinimal p set (c + 1) candidate → IsNextTurn p set true (IsThrough true c) candidate
  next_up c None k = λ d m. through (λ h. k d m h)
    where
      through : {d : ℕ} → (c + 1 ≤ d → ⊥) → (d ≡ c) ⊎ (d < c)
      through {d} h = elim (cases_lt c d) [ inl q ↦ absurd (h (omega (arith, q))) | inr q ↦ at_most d c q ]
        where
          at_most : (d c : ℕ) → d ≤ c → (d ≡ c) ⊎ (d < c)
          at_most d c q = grind (arith, q)
  next_up c (Some e) k = (k.0, (λ d m h. at_most d c (elim (cases_lt c d) [ inl q ↦ (let w = k.2 d m (omega (arith, q)) in absurd (omega (arith, w, h))) | inr q ↦ q ])), λ d h. elim h [ inl s ↦ (let w = k.1 in omega (arith, s, w)) | inr q ↦ (let w = k.1 in omega (arith, q, w)) ])
    where
      at_most : (d c : ℕ) → d ≤ c → (d ≡ c) ⊎ (d < c)
      at_most d c q = grind (arith, q)

-- lists with one element more at their ends
no_end : {A : Type 0} (xs : List A) (x : A) → [] ≡ xs ++ x ∷ [] → ⊥
no_end [] x e = cc
no_end (y ∷ xs) x e = cc

same_ends : {A : Type 0} (xs ys : List A) (x y : A) → xs ++ x ∷ [] ≡ ys ++ y ∷ [] → (xs ≡ ys) × (x ≡ y)
same_ends [] [] x y e = (refl, cc)
same_ends [] (b ∷ ys) x y e = absurd (no_end ys y (cc))
same_ends (a ∷ xs) [] x y e = absurd (no_end xs x (cc))
same_ends (a ∷ xs) (b ∷ ys) x y e =
    let heads : a ≡ b = cc in
    let r = same_ends xs ys x y (cc) in
    (rw (heads, r.0) refl, r.1)

-- turns as a scout keeps them
module _ {State : Type 0} (undone : Change → State → State) where
  state_end : (ks : List (KeptTurn State)) (k : KeptTurn State) (t : State) → state_at undone (map (λ (k : KeptTurn State). k.frame) (ks ++ k ∷ [])) t ≡ state_at undone (map (λ (k : KeptTurn State). k.frame) ks) (state_before undone k.frame.back t)
  state_end [] k t = refl
  state_end (j ∷ ks) k t = ap (λ (s : State). state_before undone j.frame.back s) (state_end ks k t)

  turns_end : (ks : List (KeptTurn State)) (k : KeptTurn State) (t : State) → turns_of undone (ks ++ k ∷ []) t ≡ turns_of undone ks (state_before undone k.frame.back t) ++ turn_of undone k t ∷ []
  turns_end [] k t = refl
  turns_end (j ∷ ks) k t = rw (state_end ks k t, turns_end ks k t) refl

  -- one turn more, whose call led here
  pub turns_split : (all ks : List (KeptTurn State)) (k : KeptTurn State) (t : State) → all ≡ ks ++ k ∷ [] → turns_of undone all t ≡ turns_of undone ks (state_before undone k.frame.back t) ++ turn_of undone k t ∷ []
  turns_split all ks k t e = rw e (turns_end ks k t)

  pub turns_same : (ks js : List (KeptTurn State)) (t u : State) → ks ≡ js → t ≡ u → turns_of undone ks t ≡ turns_of undone js u
  turns_same ks js t u e s = rw (e, s) refl

  pub none_kept : (ks : List (KeptTurn State)) (t : State) → ks ≡ [] → turns_of undone ks t ≡ []
  none_kept ks t none = rw none refl

config_is : {State : Type 0} (here : Configuration State) (set : List Bool) (s : State) → set ≡ here.lifted → s ≡ here.state → record { lifted = set; state = s } ≡ here
config_is here set s a b = rw (a, b) refl

module _ {State Op Reply : Type 0} (p : Problem State Op Reply) where
  -- a configuration is entered, to come back to the turn
  pub scouted_enter : (lifted : List ℕ) (turns new : List (Turn State)) (here : Configuration State) (turn : Turn State) (at : Position) → new ≡ turns ++ turn ∷ [] → IsTurnFrom p lifted turns here turn → IsReachable p here.lifted here.state → (HasEveryCompleted p here.lifted → ⊥) → at.longest ≡ record { more = 0; first = None } → IsNextTurn p (lifted_set p lifted) at.is_up (λ d. ⊥) at.candidate → IsScouted p lifted new here at.is_up at.longest at.candidate
  scouted_enter lifted turns new here turn at pushed k reachable open_call none next = record {
    at = rw none (at_enter p here at.is_up at.candidate reachable open_call (rw k.set at next));
    way = record { set = k.set; back = turn ∷ k.back; order = rw (pushed, k.order) refl; trail = k.trail };
  }

  -- a scout begins
  pub scouted_start : (lifted : List ℕ) (turns : List (Turn State)) (here : Configuration State) (at : Position) → turns ≡ [] → lifted_set p lifted ≡ here.lifted → IsReachable p here.lifted here.state → (HasEveryCompleted p here.lifted → ⊥) → at.longest ≡ record { more = 0; first = None } → IsNextTurn p (lifted_set p lifted) at.is_up (λ d. ⊥) at.candidate → IsScouted p lifted turns here at.is_up at.longest at.candidate
  scouted_start lifted turns here at empty set reachable open_call none next = record {
    at = rw none (at_enter p here at.is_up at.candidate reachable open_call (rw set at next));
    way = record { set = set; back = []; order = empty; trail = tt };
  }

  -- a call that can't follow was passed over
  pub scouted_skip : (lifted : List ℕ) (turns : List (Turn State)) (here : Configuration State) (up : Bool) (longest : Longest) (c : ℕ) (at : Position) → IsScouted p lifted turns here up longest (Some c) → ((t : State) → IsNext p here.lifted here.state c t → ⊥) → at.is_up ≡ up → at.longest ≡ longest → IsNextTurn p (lifted_set p lifted) up (IsThrough up c) at.candidate → IsScouted p lifted turns here at.is_up at.longest at.candidate
  scouted_skip lifted turns here up longest c at k no_step up_is longest_is next = record {
    at = rw (up_is, longest_is) (at_skip p here up longest c at.candidate k.at no_step (rw k.way.set at next));
    way = k.way;
  }

  -- a call was lifted
  pub turn_lifted : (lifted new : List ℕ) (turns : List (Turn State)) (here there : Configuration State) (up : Bool) (longest : Longest) (c : ℕ) (f : Frame State) → IsScouted p lifted turns here up longest (Some c) → IsNext p here.lifted here.state c there.state → new ≡ lifted ++ c ∷ [] → there.lifted ≡ with_call here.lifted c → f ≡ record { state = here.state; call = c; longest = longest } → IsTurnFrom p new turns there (record { frame = f; up = up })
  turn_lifted lifted new turns here there up longest c f k next last set before = record {
    set = calls_more p lifted new c here.lifted there.lifted last k.way.set set;
    back = k.way.back;
    order = k.way.order;
    trail = rw before (
      lifted,
      last,
      rw k.way.set next,
      subst (λ (x : Configuration State). IsTurnAt p x up longest (Some c)) (sym (config_is here (lifted_set p lifted) here.state k.way.set refl)) k.at,
      k.way.trail,
    );
  }

  pub turn_minimal_call : (lifted : List ℕ) (turns : List (Turn State)) (there : Configuration State) (turn : Turn State) → IsTurnFrom p lifted turns there turn → (b : List ℕ) × (lifted ≡ b ++ turn.frame.call ∷ []) × IsMinimal p (lifted_set p b) turn.frame.call
  turn_minimal_call lifted turns there turn k = (k.trail.0, k.trail.1, k.trail.3.minimal)

  turn_set : (lifted : List ℕ) (turns : List (Turn State)) (there : Configuration State) (turn : Turn State) (k : IsTurnFrom p lifted turns there turn) → there.lifted ≡ with_call (lifted_set p k.trail.0) turn.frame.call
  turn_set lifted turns there turn k =
      sym k.set ∙ ap (λ (l : List ℕ). lifted_set p l) k.trail.1 ∙ with_append (no_calls p) k.trail.0 (turn.frame.call ∷ [])

  -- a longest continuation leaves room for the turn's call
  pub turn_room : (lifted : List ℕ) (turns : List (Turn State)) (there : Configuration State) (turn : Turn State) (deep : Longest) → IsTurnFrom p lifted turns there turn → IsRefutedWith p there.lifted there.state deep → deep.more < length p.calls
  turn_room lifted turns there turn deep k refuted =
      let set = turn_set lifted turns there turn k in
      let h = room p (lifted_set p k.trail.0) turn.frame.state turn.frame.call there.state deep.more deep.first k.trail.3.reachable.flags k.trail.2 (rw set at refuted.longest_is) in
      omega (arith, h)

  -- back before the turn's call
  pub scouted_back : (lifted new : List ℕ) (turns : List (Turn State)) (there here : Configuration State) (turn : Turn State) (deep longest : Longest) (at : Position) → IsTurnFrom p lifted turns there turn → IsRefutedWith p there.lifted there.state deep → ((b : List ℕ) → lifted ≡ b ++ turn.frame.call ∷ [] → new ≡ b) → lifted_set p new ≡ here.lifted → here.state ≡ turn.frame.state → IsWithTurn turn.up turn.frame.longest turn.frame.call deep longest → at.is_up ≡ turn.up → at.longest ≡ longest → IsNextTurn p (lifted_set p new) turn.up (IsThrough turn.up turn.frame.call) at.candidate → IsScouted p new turns here at.is_up at.longest at.candidate
  scouted_back lifted new turns there here turn deep longest at k refuted unlifted set state more up_is longest_is next =
      let before : new ≡ k.trail.0 = unlifted k.trail.0 k.trail.1 in
      let calls : lifted_set p k.trail.0 ≡ here.lifted = ap (λ (l : List ℕ). lifted_set p l) (sym before) ∙ set in
      let is = config_is here (lifted_set p k.trail.0) turn.frame.state calls (sym state) in
      let here_at : IsTurnAt p here turn.up turn.frame.longest (Some turn.frame.call) = subst (λ (x : Configuration State). IsTurnAt p x turn.up turn.frame.longest (Some turn.frame.call)) is k.trail.3 in
      let child : there.lifted ≡ with_call here.lifted turn.frame.call = turn_set lifted turns there turn k ∙ ap (λ (s : List Bool). with_call s turn.frame.call) calls in
      let step : IsNext p here.lifted here.state turn.frame.call there.state = rw (sym calls, state) k.trail.2 in
      record {
        at = rw (up_is, longest_is) (at_more p here turn.up turn.frame.longest turn.frame.call there.state deep longest at.candidate here_at step (subst (λ (s : List Bool). IsRefutedWith p s there.state deep) child refuted) more (rw set at next));
        way = record {
          set = set;
          back = k.back;
          order = k.order;
          trail = subst (λ (s : State). IsTrail p new s k.back) (sym state) (subst (λ (l : List ℕ). IsTrail p l turn.frame.state k.back) (sym before) k.trail.4);
        };
      }

  -- the last turn is taken off
  pub turn_last : (lifted : List ℕ) (turns new : List (Turn State)) (here : Configuration State) (turn : Turn State) → IsTrailTo p lifted turns here → turns ≡ new ++ turn ∷ [] → IsTurnFrom p lifted new here turn
  turn_last lifted turns new here turn k split = from k.back (sym k.order ∙ split) k.trail
    where
      from : (back : List (Turn State)) → turned back ≡ new ++ turn ∷ [] → IsTrail p lifted here.state back → IsTurnFrom p lifted new here turn
      from [] e trail = absurd (no_end new turn e)
      from (t ∷ ts) e trail =
          let same = same_ends (turned ts) new t turn e in
          record {
            set = k.set;
            back = ts;
            order = sym same.0;
            trail = subst (λ (x : Turn State). IsTrail p lifted here.state (x ∷ ts)) same.1 trail;
          }
