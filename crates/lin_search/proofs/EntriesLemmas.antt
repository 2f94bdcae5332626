-- The entries of a problem while some of its calls are lifted.
use Rattle.std.proofs.Common.{◌≡◌, ◌≢◌, ℕ, zero, suc, ◌+◌, ◌-◌, ◌<◌, ◌≤◌, Bool, true, false, Option, Some, None, IsSome, List, [], ◌∷◌, ◌++◌, length, take, drop, get_or, replicate, ◌⊎◌, inl, inr, refl, sym, ap, subst, ◌∙◌, arith}
use Rattle.std.specs.Prelude.{IsSomeAnd, is_some}
use Rattle.std.specs.List.{slice_get}
use Rattle.std.proofs.lemmas.Option.{slice_get_within, get_or_from_slice_get, same_Some}
use Rattle.std.proofs.lemmas.List.{length-set, length-replicate, length_push, take_at}
use Rattle.lin_history.specs.declared.problems.problem.ProblemCall.{ProblemCall}
use Rattle.lin_history.specs.declared.problems.timeline.ProblemEvent.{ProblemEvent}
use Rattle.lin_history.specs.declared.problems.timeline.ProblemEvent.TheVariants.{Call, Return}
use Rattle.lin_history.specs.Problems.Problem.{Problem}
use Rattle.lin_history.specs.Problems.Precedence.{Before, IsCompleted}
use Rattle.lin_history.specs.Problems.Timeline.{IsTimeline}
use Rattle.lin_history.specs.Problems.Continuations.{has, no_calls}
use Rattle.lin_search.specs.CallSet.{with_call, with_calls, lifted_set}
use Rattle.lin_search.specs.CallSetLemmas.{length_calls, no_calls_has, same_or_not, true_or_false, has_same, has_other}
use Rattle.lin_search.specs.NextCall.{HasEveryCompleted}
use Rattle.lin_search.specs.Links.{Linked, without, with_entry, HasLinks, IsRow}
use Rattle.lin_search.specs.CallEntries.{CallEntries, AreCallEntries, without_return, without_call, with_return, with_call_entries, without_calls}
use Rattle.lin_search.specs.Entries.{IsMinimal, IsLeastMinimal}
use Rattle.lin_search.specs.EntryLinks.{one_completed, count_completed, one_left, count_left, call_of_event, CanTakeOut, CanPutBack, AreLifted, AreEntries}
use Rattle.lin_search.specs.Progress.{free}
use Rattle.lin_search.proofs.ProgressLemmas.{free_less, free_within}
use Rattle.lin_search.proofs.LinksLemmas.{IsLinked, linked_same, linked_row, linked_without, has_links, has_links_back, with_without}
use Rattle.lin_search.proofs.CallEntriesLemmas.{call_of, call_or_return}

-- ---- sets of calls, with one call more

with_calls_last : (set : List Bool) (l : List ℕ) (c : ℕ) → with_calls set (l ++ c ∷ []) ≡ with_call (with_calls set l) c
with_calls_last set [] c = refl
with_calls_last set (d ∷ l) c = with_calls_last (with_call set d) l c

without_calls_last : (places : CallEntries) (links : Linked) (l : List ℕ) (c : ℕ) → without_calls places links (l ++ c ∷ []) ≡ without_call places (without_calls places links l) c
without_calls_last places links [] c = refl
without_calls_last places links (d ∷ l) c = without_calls_last places (without_call places links d) l c

true_false : (b : Bool) → b ≡ true → b ≡ false → ⊥
true_false b e f = cc

module _ {State Op Reply : Type 0} (p : Problem State Op Reply) where
  lifted_last : (set : List Bool) (l : List ℕ) (c : ℕ) → AreLifted p set l → c < length p.calls → has (with_calls set l) c ≡ false → AreLifted p set (l ++ c ∷ [])
  lifted_last set [] c k h out = (h, out, tt)
  lifted_last set (d ∷ l) c k h out = (k.0, k.1, lifted_last (with_call set d) l c k.2 h out)

  lifted_before : (set : List Bool) (l : List ℕ) (c : ℕ) → AreLifted p set (l ++ c ∷ []) → AreLifted p set l × (c < length p.calls) × (has (with_calls set l) c ≡ false)
  lifted_before set [] c k = (tt, k.0, k.1)
  lifted_before set (d ∷ l) c k = let r = lifted_before (with_call set d) l c k.2 in ((k.0, k.1, r.0), r.1, r.2)

module _ {State Op Reply : Type 0} (p : Problem State Op Reply) where
  out_lifted : (set : List Bool) (l : List ℕ) → length set ≡ length p.calls → AreLifted p set l → free (with_calls set l) + length l ≡ free set
  out_lifted set [] n k = omega arith
  out_lifted set (c ∷ l) n k =
      let h = k.0 in
      let r = out_lifted (with_call set c) l (length-set set c true ∙ n) k.2 in
      let s = free_less set c (omega (arith, n, h)) k.1 in
      omega (arith, r, s)

  none_length : length (no_calls p) ≡ length p.calls
  none_length = length-replicate (length p.calls) false

  pub set_length : (l : List ℕ) → length (lifted_set p l) ≡ length p.calls
  set_length l = length_calls (no_calls p) l ∙ none_length

  -- where a call is not lifted, fewer calls are than there are
  room_left : (l : List ℕ) (c : ℕ) → AreLifted p (no_calls p) l → c < length p.calls → has (lifted_set p l) c ≡ false → length l < length p.calls
  room_left l c k h out =
      let n = set_length l in
      let a = out_lifted (no_calls p) l none_length k in
      let b = free_less (lifted_set p l) c (omega (arith, n, h)) out in
      let d = free_within (no_calls p) in
      let e = none_length in
      omega (arith, a, b, d, e)

-- ---- completed calls that are left

one_left_low : (b d : Bool) → one_left b d ≤ 1
one_left_low true true = omega arith
one_left_low true false = omega arith
one_left_low false true = omega arith
one_left_low false false = omega arith

one_left_none : (b d : Bool) → one_left b d ≡ 0 → b ≡ true → d ≡ true
one_left_none b true e f = refl
one_left_none true false e f = absurd (omega (arith, e))
one_left_none false false e f = absurd (cc)

one_left_zero : (b d : Bool) → (b ≡ true → d ≡ true) → one_left b d ≡ 0
one_left_zero b true h = refl
one_left_zero true false h = absurd (let e = h refl in cc)
one_left_zero false false h = refl

module _ {Op Reply : Type 0} where
  left_with : (calls : List (ProblemCall Op Reply)) (set : List Bool) (c : ℕ) (x : ProblemCall Op Reply) → length set ≡ length calls → slice_get calls c ≡ Some x → has set c ≡ false → count_left calls (with_call set c) + one_completed (is_some x.returned) ≡ count_left calls set
  left_with [] set c x n e h = absurd (cc)
  left_with (y ∷ calls) [] c x n e h = absurd (omega (arith, n))
  left_with (y ∷ calls) (true ∷ set) zero x n e h = absurd (cc)
  left_with (y ∷ calls) (false ∷ set) zero x n e h = let same : y ≡ x = cc in let m = ap (λ (z : ProblemCall Op Reply). one_completed (is_some z.returned)) same in omega (arith, m)
  left_with (y ∷ calls) (b ∷ set) (suc c) x n e h = let r = left_with calls set c x (omega (arith, n)) e h in omega (arith, r)

  left_within : (calls : List (ProblemCall Op Reply)) (set : List Bool) → count_left calls set ≤ length calls
  left_within [] set = omega arith
  left_within (y ∷ calls) [] = omega arith
  left_within (y ∷ calls) (b ∷ set) = let r = left_within calls set in let s = one_left_low (is_some y.returned) b in omega (arith, r, s)

  pub left_none : (calls : List (ProblemCall Op Reply)) → count_left calls (replicate (length calls) false) ≡ count_completed calls
  left_none [] = refl
  left_none (y ∷ calls) = let r = left_none calls in omega (arith, r)

  every_left : (calls : List (ProblemCall Op Reply)) (set : List Bool) (c : ℕ) (x : ProblemCall Op Reply) → length set ≡ length calls → count_left calls set ≡ 0 → slice_get calls c ≡ Some x → is_some x.returned ≡ true → has set c ≡ true
  every_left [] set c x n z e h = absurd (cc)
  every_left (y ∷ calls) [] c x n z e h = absurd (omega (arith, n))
  every_left (y ∷ calls) (b ∷ set) zero x n z e h =
      let same : y ≡ x = cc in
      one_left_none (is_some y.returned) b (omega (arith, z)) (ap (λ (z : ProblemCall Op Reply). is_some z.returned) same ∙ h)
  every_left (y ∷ calls) (b ∷ set) (suc c) x n z e h = every_left calls set c x (omega (arith, n)) (omega (arith, z)) e h

  left_zero : (calls : List (ProblemCall Op Reply)) (set : List Bool) → length set ≡ length calls → ((c : ℕ) (x : ProblemCall Op Reply) → slice_get calls c ≡ Some x → is_some x.returned ≡ true → has set c ≡ true) → count_left calls set ≡ 0
  left_zero [] set n h = refl
  left_zero (y ∷ calls) [] n h = refl
  left_zero (y ∷ calls) (b ∷ set) n h =
      let r = left_zero calls set (omega (arith, n)) (λ c x e k. h (suc c) x e k) in
      let s = one_left_zero (is_some y.returned) b (λ e. h 0 y refl e) in
      omega (arith, r, s)

some_and : {A : Type 0} (o : Option A) (P : A → Type 0) → IsSomeAnd o P → (x : A) × (o ≡ Some x) × P x
some_and None P h = absurd h
some_and (Some x) P h = (x, refl, h)

and_some : {A : Type 0} (o : Option A) (P : A → Type 0) (x : A) → o ≡ Some x → P x → IsSomeAnd o P
and_some o P x e h = rw e h

module _ {State Op Reply : Type 0} (p : Problem State Op Reply) (set : List Bool) (n : length set ≡ length p.calls) where
  pub all_completed : count_left p.calls set ≡ 0 → HasEveryCompleted p set
  all_completed z c h = let x = some_and (slice_get p.calls c) (λ x. IsSome x.returned) h in every_left p.calls set c x.0 n z x.1 x.2

  pub none_left : HasEveryCompleted p set → count_left p.calls set ≡ 0
  none_left h = left_zero p.calls set n (λ c x e k. h c (and_some (slice_get p.calls c) (λ x. IsSome x.returned) x e k))

-- ---- the entries that are linked

-- the call of an event
event_of : (v : ProblemEvent) (c : ℕ) → call_of v ≡ c → (v ≡ Call c) ⊎ (v ≡ Return c)
event_of (Call d) c e = inl (ap Call e)
event_of (Return d) c e = inr (ap Return e)

-- The entry is an end, or that of an event whose call is not in the set.
abbrev pub Here : List ProblemEvent → List Bool → ℕ → Type 0
Here events set e = (e ≡ 0) ⊎ ((e ≡ length events + 1) ⊎ ((i : ℕ) × (v : ProblemEvent) × (e ≡ i + 1) × (slice_get events i ≡ Some v) × (has set (call_of v) ≡ false)))

there : (events : List ProblemEvent) (i : ℕ) → i < length events → (v : ProblemEvent) × (slice_get events i ≡ Some v)
there [] i h = absurd (omega (arith, h))
there (v ∷ events) zero h = (v, refl)
there (v ∷ events) (suc i) h = there events i (omega (arith, h))

here_within : (events : List ProblemEvent) (set : List Bool) (e : ℕ) → Here events set e → e < length events + 2
here_within events set e (inl h) = omega (arith, h)
here_within events set e (inr (inl h)) = omega (arith, h)
here_within events set e (inr (inr h)) = let w = slice_get_within events h.0 h.1 h.3 in let m = h.2 in omega (arith, w, m)

here_start : (events : List ProblemEvent) (n e : ℕ) → e < length events + 2 → Here events (replicate n false) e
here_start events n e h = elim (same_or_not e 0) [
  | inl q ↦ inl q
  | inr ne ↦ elim (same_or_not e (length events + 1)) [
    | inl q ↦ inr (inl q)
    | inr more ↦ (let v = there events (e - 1) (omega (arith, h, ne, more)) in inr (inr (e - 1, v.0, omega (arith, ne), v.1, no_calls_has n (call_of v.0))))
  ]
]

-- The entries that go with the call, and no others.
pub record AreOut (events : List ProblemEvent) (c : ℕ) (Out : ℕ → Type 0) : Type 0 where
  pub own : (i : ℕ) (v : ProblemEvent) → slice_get events i ≡ Some v → call_of v ≡ c → Out (i + 1)
  pub only : (e : ℕ) → Out e → (i : ℕ) × (v : ProblemEvent) × (e ≡ i + 1) × (slice_get events i ≡ Some v) × (call_of v ≡ c)

module _ (events : List ProblemEvent) (set : List Bool) (c : ℕ) (within : c < length set) (Out : ℕ → Type 0) (out : AreOut events c Out) where
  out_here : (e : ℕ) → Here events set e → (Out e → ⊥) → Here events (with_call set c) e
  out_here e (inl h) k = inl h
  out_here e (inr (inl h)) k = inr (inl h)
  out_here e (inr (inr h)) k = inr (inr (h.0, h.1, h.2, h.3, has_other set c (call_of h.1) (λ same. k (subst Out (sym h.2) (out.own h.0 h.1 h.3 same))) ∙ h.4))

  here_still : (e : ℕ) → Here events (with_call set c) e → Here events set e
  here_still e (inl h) = inl h
  here_still e (inr (inl h)) = inr (inl h)
  here_still e (inr (inr h)) = inr (inr (h.0, h.1, h.2, h.3, sym (has_other set c (call_of h.1) (λ same. true_false (has (with_call set c) (call_of h.1)) (ap (λ (d : ℕ). has (with_call set c) d) same ∙ has_same set c within) h.4)) ∙ h.4))

  here_not_out : (e : ℕ) → Here events (with_call set c) e → Out e → ⊥
  here_not_out e (inl h) o = let k = out.only e o in let m = k.2 in omega (arith, h, m)
  here_not_out e (inr (inl h)) o = let k = out.only e o in let m = k.2 in let w = slice_get_within events k.0 k.1 k.3 in omega (arith, h, m, w)
  here_not_out e (inr (inr h)) o =
      let k = out.only e o in
      let m = k.2 in let n = h.2 in
      let at : h.0 ≡ k.0 = omega (arith, m, n) in
      let same : h.1 ≡ k.1 = same_Some h.1 k.1 (sym h.3 ∙ ap (λ (i : ℕ). slice_get events i) at ∙ k.3) in
      true_false (has (with_call set c) (call_of h.1)) (ap (λ (d : ℕ). has (with_call set c) d) (ap call_of same ∙ k.4) ∙ has_same set c within) h.4

-- the links without a call, and with it again
pub record IsLiftedOnce (events : List ProblemEvent) (places : CallEntries) (set : List Bool) (l m : Linked) (c a : ℕ) (o : Option (Option ℕ)) : Type 0 where
  pub linked : IsLinked (length events) (Here events (with_call set c)) m
  pub can_take : (e : ℕ) → o ≡ Some (Some e) → HasLinks (without l a) e
  pub can_put : (e : ℕ) → o ≡ Some (Some e) → HasLinks m e
  pub can_put_call : HasLinks (with_return m o) a
  pub back : with_entry (with_return m o) a ≡ l

module _ {State Op Reply : Type 0} (p : Problem State Op Reply) (events : List ProblemEvent) (places : CallEntries) (timeline : IsTimeline p events) (are_call_entries : AreCallEntries (length p.calls) events places) (set : List Bool) (n : length set ≡ length p.calls) (l : Linked) (linked : IsLinked (length events) (Here events set) l) (c : ℕ) (within : c < length p.calls) (outside : has set c ≡ false) (i : ℕ) (at : slice_get events i ≡ Some (Call c)) (a : ℕ) (a_is : a ≡ i + 1) where
  low : 0 < a
  low = omega (arith, a_is)

  high : a < length events + 1
  high = let w = slice_get_within events i (Call c) at in omega (arith, a_is, w)

  here_call : Here events set a
  here_call = inr (inr (i, Call c, a_is, at, outside))

  in_set : c < length set
  in_set = omega (arith, n, within)

  first : IsLinked (length events) (λ e. Here events set e × (e ≢ a)) (without l a)
  first = linked_without (length events) (Here events set) l a linked here_call low high

  call_entry : (j : ℕ) → slice_get events j ≡ Some (Call c) → j + 1 ≡ a
  call_entry j e = let k = timeline.once j i (Call c) e at in omega (arith, k, a_is)

  -- a pending call
  module _ (none : (j : ℕ) → slice_get events j ≡ Some (Return c) → ⊥) where
    out_pending : AreOut events c (λ e. e ≡ a)
    out_pending = record {
      own = λ j v e k. elim (event_of v c k) [
        | inl q ↦ call_entry j (e ∙ ap (λ (w : ProblemEvent). Some w) q)
        | inr q ↦ absurd (none j (e ∙ ap (λ (w : ProblemEvent). Some w) q))
      ];
      only = λ e q. (i, Call c, q ∙ a_is, at, refl);
    }

    linked_pending : IsLinked (length events) (Here events (with_call set c)) (without l a)
    linked_pending = linked_same (length events) (λ e. Here events set e × (e ≢ a)) (Here events (with_call set c)) (without l a)
        (λ e h. out_here events set c in_set (λ x. x ≡ a) out_pending e h.0 h.1)
        (λ e h. (here_still events set c in_set (λ x. x ≡ a) out_pending e h, here_not_out events set c in_set (λ x. x ≡ a) out_pending e h))
        first

    once_pending : (o : Option (Option ℕ)) → ((e : ℕ) → o ≡ Some (Some e) → ⊥) → without_return (without l a) o ≡ without l a → with_return (without l a) o ≡ without l a → IsLiftedOnce events places set l (without_return (without l a) o) c a o
    once_pending o not e f = rw e (record {
      linked = linked_pending;
      can_take = λ b q. absurd (not b q);
      can_put = λ b q. absurd (not b q);
      can_put_call = rw f (has_links_back (length events) (Here events set) l a linked here_call low high);
      back = rw f (with_without (length events) (Here events set) l a linked here_call low high);
    })

  -- a completed call
  module _ (j : ℕ) (returned : slice_get events j ≡ Some (Return c)) (b : ℕ) (b_is : b ≡ j + 1) where
    apart : b ≢ a
    apart = λ same. let k = timeline.after_call c i j at returned in omega (arith, same, a_is, b_is, k)

    here_return : Here events set b × (b ≢ a)
    here_return = (inr (inr (j, Return c, b_is, returned, outside)), apart)

    low_return : 0 < b
    low_return = omega (arith, b_is)

    high_return : b < length events + 1
    high_return = let w = slice_get_within events j (Return c) returned in omega (arith, b_is, w)

    abbrev Out : ℕ → Type 0
    Out e = (e ≡ a) ⊎ (e ≡ b)

    out_completed : AreOut events c Out
    out_completed = record {
      own = λ k v e h. elim (event_of v c h) [
        | inl q ↦ inl (call_entry k (e ∙ ap (λ (w : ProblemEvent). Some w) q))
        | inr q ↦ inr (let m = timeline.once k j (Return c) (e ∙ ap (λ (w : ProblemEvent). Some w) q) returned in omega (arith, m, b_is))
      ];
      only = λ e h. elim h [ inl q ↦ (i, Call c, q ∙ a_is, at, refl) | inr q ↦ (j, Return c, q ∙ b_is, returned, refl) ];
    }

    second : IsLinked (length events) (λ e. (Here events set e × (e ≢ a)) × (e ≢ b)) (without (without l a) b)
    second = linked_without (length events) (λ e. Here events set e × (e ≢ a)) (without l a) b first here_return low_return high_return

    neither : (e : ℕ) → e ≢ a → e ≢ b → Out e → ⊥
    neither e f g (inl q) = f q
    neither e f g (inr q) = g q

    linked_completed : IsLinked (length events) (Here events (with_call set c)) (without (without l a) b)
    linked_completed = linked_same (length events) (λ e. (Here events set e × (e ≢ a)) × (e ≢ b)) (Here events (with_call set c)) (without (without l a) b)
        (λ e h. out_here events set c in_set Out out_completed e h.0.0 (neither e h.0.1 h.1))
        (λ e h. let k = here_not_out events set c in_set Out out_completed e h in ((here_still events set c in_set Out out_completed e h, λ q. k (inl q)), λ q. k (inr q)))
        second

    links_return : HasLinks (without l a) b
    links_return = has_links (length events) (λ e. Here events set e × (e ≢ a)) (without l a) b first here_return low_return high_return

    links_return_back : HasLinks (without (without l a) b) b
    links_return_back = has_links_back (length events) (λ e. Here events set e × (e ≢ a)) (without l a) b first here_return low_return high_return

    return_back : with_entry (without (without l a) b) b ≡ without l a
    return_back = with_without (length events) (λ e. Here events set e × (e ≢ a)) (without l a) b first here_return low_return high_return

    the_entry : (e : ℕ) → Some (Some b) ≡ Some (Some e) → e ≡ b
    the_entry e q = sym (same_Some b e (same_Some (Some b) (Some e) q))

    once_completed : IsLiftedOnce events places set l (without (without l a) b) c a (Some (Some b))
    once_completed = record {
      linked = linked_completed;
      can_take = λ e q. subst (λ (x : ℕ). HasLinks (without l a) x) (sym (the_entry e q)) links_return;
      can_put = λ e q. subst (λ (x : ℕ). HasLinks (without (without l a) b) x) (sym (the_entry e q)) links_return_back;
      can_put_call = rw return_back (has_links_back (length events) (Here events set) l a linked here_call low high);
      back = ap (λ (k : Linked). with_entry k a) return_back ∙ with_without (length events) (Here events set) l a linked here_call low high;
    }

  not_there : {o x : Option (Option ℕ)} → o ≡ x → (b : ℕ) → o ≡ Some (Some b) → x ≡ Some (Some b)
  not_there e b f = sym e ∙ f

  no_return : (o : Option (Option ℕ)) → slice_get places.returned c ≡ o → ((b : ℕ) → o ≡ Some (Some b) → ⊥) → (j : ℕ) → slice_get events j ≡ Some (Return c) → ⊥
  no_return o e not j r = not (j + 1) (sym e ∙ are_call_entries.returned j c r)

  by_return : (o : Option (Option ℕ)) → slice_get places.returned c ≡ o → IsLiftedOnce events places set l (without_return (without l a) o) c a o
  by_return None e = let not : (b : ℕ) → None ≡ Some (Some b) → ⊥ = λ b q. cc in once_pending (no_return None e not) None not refl refl
  by_return (Some None) e = let not : (b : ℕ) → Some None ≡ Some (Some b) → ⊥ = λ b q. cc in once_pending (no_return (Some None) e not) (Some None) not refl refl
  by_return (Some (Some b)) e = let k = are_call_entries.only c b e in once_completed k.0 k.2 b k.1

-- the links without one call more
module _ {State Op Reply : Type 0} (p : Problem State Op Reply) (events : List ProblemEvent) (places : CallEntries) (timeline : IsTimeline p events) (are_call_entries : AreCallEntries (length p.calls) events places) where
  call_place : (c : ℕ) → c < length p.calls → (i : ℕ) × (slice_get events i ≡ Some (Call c)) × (get_or places.called c 0 ≡ i + 1)
  call_place c h = let i = timeline.called c h in (i.0, i.1, get_or_from_slice_get places.called c (i.0 + 1) 0 (are_call_entries.called i.0 c i.1))

  lifted_once : (set : List Bool) → length set ≡ length p.calls → (l : Linked) → IsLinked (length events) (Here events set) l → (c : ℕ) → c < length p.calls → has set c ≡ false → IsLiftedOnce events places set l (without_call places l c) c (get_or places.called c 0) (slice_get places.returned c)
  lifted_once set n l linked c within outside =
      let i = call_place c within in
      by_return p events places timeline are_call_entries set n l linked c within outside i.0 i.1 (get_or places.called c 0) i.2 (slice_get places.returned c) refl

  call_links : (set : List Bool) → length set ≡ length p.calls → (l : Linked) → IsLinked (length events) (Here events set) l → (c : ℕ) → c < length p.calls → has set c ≡ false → HasLinks l (get_or places.called c 0)
  call_links set n l linked c within outside =
      let i = call_place c within in
      has_links (length events) (Here events set) l (get_or places.called c 0) linked
      (here_call p events places timeline are_call_entries set n l linked c within outside i.0 i.1 (get_or places.called c 0) i.2)
      (low p events places timeline are_call_entries set n l linked c within outside i.0 i.1 (get_or places.called c 0) i.2)
      (high p events places timeline are_call_entries set n l linked c within outside i.0 i.1 (get_or places.called c 0) i.2)

  linked_calls : (set : List Bool) → length set ≡ length p.calls → (l : Linked) → IsLinked (length events) (Here events set) l → (lifted : List ℕ) → AreLifted p set lifted → IsLinked (length events) (Here events (with_calls set lifted)) (without_calls places l lifted)
  linked_calls set n l linked [] k = linked
  linked_calls set n l linked (c ∷ lifted) k =
      let once = lifted_once set n l linked c k.0 k.1 in
      linked_calls (with_call set c) (length-set set c true ∙ n) (without_call places l c) once.linked lifted k.2

  row_linked : (row : Linked) → IsRow (length events) row → IsLinked (length events) (Here events (no_calls p)) row
  row_linked row k = linked_same (length events) (λ e. e < length events + 2) (Here events (no_calls p)) row (λ e h. here_start events (length p.calls) e h) (λ e h. here_within events (no_calls p) e h) (linked_row (length events) row k)

  linked_lifted : (row : Linked) → IsRow (length events) row → (lifted : List ℕ) → AreLifted p (no_calls p) lifted → IsLinked (length events) (Here events (lifted_set p lifted)) (without_calls places row lifted)
  linked_lifted row k lifted h = linked_calls (no_calls p) (none_length p) row (row_linked row k) lifted h

-- ---- the entries, call after call

module _ {State Op Reply : Type 0} (p : Problem State Op Reply) (events : List ProblemEvent) (places : CallEntries) (links : Linked) (lifted : List ℕ) (room left : ℕ) (entries : AreEntries p events places links lifted room left) where
  pub now_linked : IsLinked (length events) (Here events (lifted_set p lifted)) links
  now_linked =
      let k = entries.are_linked in
      let P : Linked → Type 0 = λ l. IsLinked (length events) (Here events (lifted_set p lifted)) l in
      subst P (sym k.2) (linked_lifted p events places entries.timeline entries.are_call_entries k.0 k.1 lifted entries.are_lifted)

  pub called_within : (c : ℕ) → c < length p.calls → c < length places.called
  called_within c h = let n = entries.are_call_entries.called_count in omega (arith, n, h)

  pub returned_within : (c : ℕ) → c < length p.calls → c < length places.returned
  returned_within c h = let n = entries.are_call_entries.returned_count in omega (arith, n, h)

  module _ (c : ℕ) (within : c < length p.calls) (outside : has (lifted_set p lifted) c ≡ false) where
    once_more : IsLiftedOnce events places (lifted_set p lifted) links (without_call places links c) c (get_or places.called c 0) (slice_get places.returned c)
    once_more = lifted_once p events places entries.timeline entries.are_call_entries (lifted_set p lifted) (set_length p lifted) links now_linked c within outside

    pub can_take : CanTakeOut places links c
    can_take = record {
      called = call_links p events places entries.timeline entries.are_call_entries (lifted_set p lifted) (set_length p lifted) links now_linked c within outside;
      returned = once_more.can_take;
    }

    pub has_place : length lifted < room
    has_place = let h = room_left p lifted c entries.are_lifted within outside in let r = entries.has_room in omega (arith, h, r)

    left_now : (x : ProblemCall Op Reply) → slice_get p.calls c ≡ Some x → count_left p.calls (with_call (lifted_set p lifted) c) + one_completed (is_some x.returned) ≡ left
    left_now x e = left_with p.calls (lifted_set p lifted) c x (set_length p lifted) e outside ∙ sym entries.count

    pub one_is_left : (x : ProblemCall Op Reply) → slice_get p.calls c ≡ Some x → is_some x.returned ≡ true → 0 < left
    one_is_left x e h = let m = left_now x e in let k = ap one_completed h in omega (arith, m, k)

    pub entries_lifted : (x : ProblemCall Op Reply) → slice_get p.calls c ≡ Some x → (links_now : Linked) (lifted_now : List ℕ) (room_now left_now : ℕ) → links_now ≡ without_call places links c → lifted_now ≡ lifted ++ c ∷ [] → room_now ≡ room → left_now + one_completed (is_some x.returned) ≡ left → AreEntries p events places links_now lifted_now room_now left_now
    entries_lifted x there links_now lifted_now room_now left_after e f g h = record {
      timeline = entries.timeline;
      are_call_entries = entries.are_call_entries;
      are_lifted = (let P : List ℕ → Type 0 = λ l. AreLifted p (no_calls p) l in subst P (sym f) (lifted_last p (no_calls p) lifted c entries.are_lifted within outside));
      are_linked = (
          let k = entries.are_linked in
          (k.0, k.1, e ∙ ap (λ (l : Linked). without_call places l c) k.2 ∙ sym (ap (λ (l : List ℕ). without_calls places k.0 l) f ∙ without_calls_last places k.0 lifted c))
          );
      has_room = (let r = entries.has_room in omega (arith, r, g));
      count = (
          let m = left_now x there in
          let n : count_left p.calls (lifted_set p lifted_now) ≡ count_left p.calls (with_call (lifted_set p lifted) c) = ap (λ (s : List Bool). count_left p.calls s) (ap (λ (l : List ℕ). lifted_set p l) f ∙ with_calls_last (no_calls p) lifted c) in
          omega (arith, m, n, h)
          );
    }

-- the entries after a call is unlifted
module _ {State Op Reply : Type 0} (p : Problem State Op Reply) (events : List ProblemEvent) (places : CallEntries) (links : Linked) (lifted before : List ℕ) (c room left : ℕ) (last : lifted ≡ before ++ c ∷ []) (entries : AreEntries p events places links lifted room left) where
  was_lifted : AreLifted p (no_calls p) before × (c < length p.calls) × (has (lifted_set p before) c ≡ false)
  was_lifted = let P : List ℕ → Type 0 = λ l. AreLifted p (no_calls p) l in lifted_before p (no_calls p) before c (subst P last entries.are_lifted)

  pub unlifted_within : c < length p.calls
  unlifted_within = was_lifted.1

  -- The links before the call was lifted.
  abbrev links_before : Linked
  links_before = without_calls places entries.are_linked.0 before

  linked_before : IsLinked (length events) (Here events (lifted_set p before)) links_before
  linked_before = linked_lifted p events places entries.timeline entries.are_call_entries entries.are_linked.0 entries.are_linked.1 before was_lifted.0

  links_are : links ≡ without_call places links_before c
  links_are = entries.are_linked.2 ∙ ap (λ (l : List ℕ). without_calls places entries.are_linked.0 l) last ∙ without_calls_last places entries.are_linked.0 before c

  once_less : IsLiftedOnce events places (lifted_set p before) links_before links c (get_or places.called c 0) (slice_get places.returned c)
  once_less =
      let P : Linked → Type 0 = λ l. IsLiftedOnce events places (lifted_set p before) links_before l c (get_or places.called c 0) (slice_get places.returned c) in
      subst P (sym links_are) (lifted_once p events places entries.timeline entries.are_call_entries (lifted_set p before) (set_length p before) links_before linked_before c was_lifted.1 was_lifted.2)

  pub can_put : CanPutBack places links c
  can_put = record { returned = once_less.can_put; called = once_less.can_put_call }

  left_before : (x : ProblemCall Op Reply) → slice_get p.calls c ≡ Some x → left + one_completed (is_some x.returned) ≡ count_left p.calls (lifted_set p before)
  left_before x e =
      let m = left_with p.calls (lifted_set p before) c x (set_length p before) e was_lifted.2 in
      let n : count_left p.calls (lifted_set p lifted) ≡ count_left p.calls (with_call (lifted_set p before) c) = ap (λ (s : List Bool). count_left p.calls s) (ap (λ (l : List ℕ). lifted_set p l) last ∙ with_calls_last (no_calls p) before c) in
      let k = entries.count in
      omega (arith, m, n, k)

  pub one_more_left : (x : ProblemCall Op Reply) → slice_get p.calls c ≡ Some x → is_some x.returned ≡ true → left < length p.calls
  one_more_left x e h = let m = left_before x e in let k = ap one_completed h in let r = left_within p.calls (lifted_set p before) in omega (arith, m, k, r)

  pub entries_unlifted : (x : ProblemCall Op Reply) → slice_get p.calls c ≡ Some x → (links_now : Linked) (lifted_now : List ℕ) (room_now left_now : ℕ) → links_now ≡ with_call_entries places links c → lifted_now ≡ before → room_now ≡ room → left_now ≡ left + one_completed (is_some x.returned) → AreEntries p events places links_now lifted_now room_now left_now
  entries_unlifted x there links_now lifted_now room_now left_now e f g h = record {
    timeline = entries.timeline;
    are_call_entries = entries.are_call_entries;
    are_lifted = (let P : List ℕ → Type 0 = λ l. AreLifted p (no_calls p) l in subst P (sym f) was_lifted.0);
    are_linked = (entries.are_linked.0, entries.are_linked.1, e ∙ once_less.back ∙ ap (λ (l : List ℕ). without_calls places entries.are_linked.0 l) (sym f));
    has_room = (let r = entries.has_room in omega (arith, r, g));
    count = h ∙ left_before x there ∙ ap (λ (l : List ℕ). count_left p.calls (lifted_set p l)) (sym f);
  }

-- ---- the least minimal call

some_is : {A : Type 0} (o : Option A) (x : A) → o ≡ Some x → IsSome o
some_is o x e = rw e refl

some_none : {A : Type 0} (x : A) → Some x ≡ None → ⊥
some_none x e = cc

up_to : (i j : ℕ) → (i ≤ j) ⊎ (j < i)
up_to i j = grind arith

not_same : (i j : ℕ) → i ≤ j → i ≢ j → i < j
not_same i j h ne = omega (arith, h, ne)

module _ {State Op Reply : Type 0} (p : Problem State Op Reply) (events : List ProblemEvent) (places : CallEntries) (links : Linked) (lifted : List ℕ) (room left : ℕ) (entries : AreEntries p events places links lifted room left) where
  abbrev set : List Bool
  set = lifted_set p lifted

  linked : IsLinked (length events) (Here events set) links
  linked = now_linked p events places links lifted room left entries

  before_completed : (a b : ℕ) → Before p a b → IsCompleted p a
  before_completed a b h =
      let x = some_and (slice_get p.calls a) (λ x. IsSomeAnd x.returned (λ r. IsSomeAnd (slice_get p.calls b) (λ y. r.0 < y.called))) h in
      let r = some_and x.0.returned (λ r. IsSomeAnd (slice_get p.calls b) (λ y. r.0 < y.called)) x.2 in
      and_some (slice_get p.calls a) (λ x. IsSome x.returned) x.0 x.1 (some_is x.0.returned r.0 r.1)

  -- After this entry there stand the call entries of all calls from the bound on, and of no other call that is here; all
  -- returns up to it are of lifted calls.
  module _ (s bound : ℕ) (here : Here events set s) (inside : s < length events + 1) (later : (d j : ℕ) → IsMinimal p set d → bound ≤ d → slice_get events j ≡ Some (Call d) → s < j + 1) (bounded : (d j : ℕ) → slice_get events j ≡ Some (Call d) → s < j + 1 → bound ≤ d) (lifted_returns : (a i : ℕ) → slice_get events i ≡ Some (Return a) → has set a ≡ false → i + 1 ≤ s → ⊥) where
    abbrev e : ℕ
    e = get_or links.next s 0

    ahead : (s < e) × (e < length events + 2) × Here events set e × (get_or links.previous e 0 ≡ s)
    ahead = linked.forth s here inside

    -- an entry that is here and stands after s is not before e
    not_before : (j : ℕ) (v : ProblemEvent) → slice_get events j ≡ Some v → has set (call_of v) ≡ false → s < j + 1 → e ≤ j + 1
    not_before j v f h less = linked.between s (j + 1) here (inr (inr (j, v, refl, f, h))) less

    -- the entry of a minimal call from the bound on
    minimal_after : (d : ℕ) → IsMinimal p set d → bound ≤ d → (j : ℕ) × (slice_get events j ≡ Some (Call d)) × (e ≤ j + 1)
    minimal_after d m h = let j = entries.timeline.called d m.within in (j.0, j.1, not_before j.0 (Call d) j.1 m.outside (later d j.0 m h j.1))

    here_event : (v : ProblemEvent) → slice_get events (e - 1) ≡ Some v → Here events set e → has set (call_of v) ≡ false
    here_event v f (inl h) = let k = ahead.0 in absurd (omega (arith, h, k))
    here_event v f (inr (inl h)) = let w = slice_get_within events (e - 1) v f in absurd (omega (arith, h, w))
    here_event v f (inr (inr h)) =
        let m = h.2 in
        let at : e - 1 ≡ h.0 = omega (arith, m) in
        let same : v ≡ h.1 = same_Some v h.1 (sym f ∙ ap (λ (i : ℕ). slice_get events i) at ∙ h.3) in
        ap (λ (w : ProblemEvent). has set (call_of w)) same ∙ h.4

    entry_is : e - 1 + 1 ≡ e
    entry_is = let k = ahead.0 in omega (arith, k)

    none_past : slice_get events (e - 1) ≡ None → (d : ℕ) → IsMinimal p set d → bound ≤ d → ⊥
    none_past f d m h =
        let j = minimal_after d m h in
        let w = slice_get_within events j.0 (Call d) j.1 in
        let low = j.2 in let k = ahead.0 in
        let v = there events (e - 1) (omega (arith, w, low, k)) in
        absurd (some_none v.0 (sym v.1 ∙ f))

    none_after : (a : ℕ) → slice_get events (e - 1) ≡ Some (Return a) → (d : ℕ) → IsMinimal p set d → bound ≤ d → ⊥
    none_after a f d m h =
        let j = minimal_after d m h in
        let low = j.2 in let k = ahead.0 in
        let out = here_event (Return a) f ahead.2 in
        let less : e - 1 < j.0 = not_same (e - 1) j.0 (omega (arith, low, k)) (λ same. call_or_return d a (same_Some (Call d) (Return a) (sym j.1 ∙ ap (λ (i : ℕ). slice_get events i) (sym same) ∙ f))) in
        true_false (has set a) (m.preceded a ((entries.timeline.precedence a d (e - 1) j.0 f j.1).0 less)) out

    least_call : (c : ℕ) → slice_get events (e - 1) ≡ Some (Call c) → IsLeastMinimal p set bound (Some c)
    least_call c f = (
      record {
        within = entries.timeline.of_call (e - 1) c f;
        outside = here_event (Call c) f ahead.2;
        preceded = λ a before. elim (true_or_false (has set a)) [
          | inl q ↦ q
          | inr q ↦ (
              let i = entries.timeline.returned a (before_completed a c before) in
              let less = (entries.timeline.precedence a c i.0 (e - 1) i.1 f).1 before in
              let k = ahead.0 in
              elim (up_to (i.0 + 1) s) [
                | inl g ↦ absurd (lifted_returns a i.0 i.1 q g)
                | inr g ↦ (let low = not_before i.0 (Return a) i.1 q g in absurd (omega (arith, low, less, k)))
              ]
              )
        ];
      },
      (let k = ahead.0 in bounded c (e - 1) f (omega (arith, k))),
      λ d m h. elim (up_to c d) [
        | inl g ↦ g
        | inr g ↦ (
            let j = minimal_after d m h in
            let low = j.2 in
            let less = entries.timeline.in_order d c j.0 (e - 1) j.1 f g in
            let k = ahead.0 in
            absurd (omega (arith, low, less, k))
            )
      ],
    )

    least_by : (o : Option ProblemEvent) → slice_get events (e - 1) ≡ o → IsLeastMinimal p set bound (call_of_event o)
    least_by None f = none_past f
    least_by (Some (Call c)) f = least_call c f
    least_by (Some (Return a)) f = none_after a f

    least_after : IsLeastMinimal p set bound (call_of_event (slice_get events (e - 1)))
    least_after = least_by (slice_get events (e - 1)) refl

  pub first_least : IsLeastMinimal p set 0 (call_of_event (slice_get events (get_or links.next 0 0 - 1)))
  first_least = least_after 0 0 (inl refl) (omega arith) (λ d j m h f. omega arith) (λ d j f h. omega arith) (λ a i f out h. omega (arith, h))

  -- a call whose entry stands after that of the call is of a greater number
  call_above : (c d i j : ℕ) → slice_get events i ≡ Some (Call c) → slice_get events j ≡ Some (Call d) → i < j → c + 1 ≤ d
  call_above c d i j f g h = elim (up_to (c + 1) d) [
    | inl q ↦ q
    | inr q ↦ elim (same_or_not d c) [
      | inl same ↦ (let k = entries.timeline.once i j (Call c) f (g ∙ ap (λ (x : ℕ). Some (Call x)) same) in absurd (omega (arith, h, k)))
      | inr ne ↦ (let less = entries.timeline.in_order d c j i g f (omega (arith, q, ne)) in absurd (omega (arith, h, less)))
    ]
  ]

  -- what returned before the entry of a minimal call is lifted
  returns_lifted : (c i a j : ℕ) → IsMinimal p set c → slice_get events i ≡ Some (Call c) → slice_get events j ≡ Some (Return a) → has set a ≡ false → j ≤ i → ⊥
  returns_lifted c i a j m f g out h =
      let less : j < i = not_same j i h (λ same. call_or_return c a (same_Some (Call c) (Return a) (sym f ∙ ap (λ (x : ℕ). slice_get events x) (sym same) ∙ g))) in
      true_false (has set a) (m.preceded a ((entries.timeline.precedence a c j i g f).0 less)) out

  pub next_least : (c : ℕ) → IsMinimal p set c → IsLeastMinimal p set (c + 1) (call_of_event (slice_get events (get_or links.next (get_or places.called c 0) 0 - 1)))
  next_least c m =
      let i = call_place p events places entries.timeline entries.are_call_entries c m.within in
      let at = i.2 in
      least_after (get_or places.called c 0) (c + 1)
      (inr (inr (i.0, Call c, i.2, i.1, m.outside)))
      (let w = slice_get_within events i.0 (Call c) i.1 in omega (arith, at, w))
      (λ d j k h f. let less = entries.timeline.in_order c d i.0 j i.1 f (omega (arith, h)) in omega (arith, less, at))
      (λ d j f h. call_above c d i.0 j i.1 f (omega (arith, h, at)))
      (λ a j f out h. returns_lifted c i.0 a j m i.1 f out (omega (arith, h, at)))

  -- entries that the links lead to
  pub first_inside : 0 < length links.next
  first_inside = let n = linked.next_count in omega (arith, n)

  pub first_above : 0 < get_or links.next 0 0
  first_above = (linked.forth 0 (inl refl) (omega arith)).0

  pub next_inside : (c : ℕ) → IsMinimal p set c → get_or places.called c 0 < length links.next
  next_inside c m =
      let i = call_place p events places entries.timeline entries.are_call_entries c m.within in
      let at = i.2 in let n = linked.next_count in let w = slice_get_within events i.0 (Call c) i.1 in
      omega (arith, at, n, w)

  pub next_above : (c : ℕ) → IsMinimal p set c → 0 < get_or links.next (get_or places.called c 0) 0
  next_above c m =
      let i = call_place p events places entries.timeline entries.are_call_entries c m.within in
      let at = i.2 in let w = slice_get_within events i.0 (Call c) i.1 in
      let k = (linked.forth (get_or places.called c 0) (inr (inr (i.0, Call c, i.2, i.1, m.outside))) (omega (arith, at, w))).0 in
      omega (arith, k)

-- the entries of all calls
pub entries_start : {State Op Reply : Type 0} (p : Problem State Op Reply) (events : List ProblemEvent) (places : CallEntries) (links : Linked) (lifted : List ℕ) (room left : ℕ) → IsTimeline p events → AreCallEntries (length p.calls) events places → IsRow (length events) links → lifted ≡ [] → length p.calls ≤ room → left ≡ count_completed p.calls → AreEntries p events places links lifted room left
entries_start p events places links lifted room left timeline are_call_entries row none fits count = record {
  timeline = timeline;
  are_call_entries = are_call_entries;
  are_lifted = (let P : List ℕ → Type 0 = λ l. AreLifted p (no_calls p) l in subst P (sym none) tt);
  are_linked = (links, row, ap (λ (l : List ℕ). without_calls places links l) (sym none));
  has_room = fits;
  count = count ∙ sym (left_none p.calls) ∙ ap (λ (l : List ℕ). count_left p.calls (lifted_set p l)) (sym none);
}

completed_rest : {Op Reply : Type 0} (calls : List (ProblemCall Op Reply)) (i : ℕ) (x : ProblemCall Op Reply) → slice_get calls i ≡ Some x → count_completed (drop i calls) ≡ one_completed (is_some x.returned) + count_completed (drop (suc i) calls)
completed_rest [] i x e = absurd (cc)
completed_rest {Op = Op} {Reply = Reply} (y ∷ calls) zero x e = let same : y ≡ x = cc in ap (λ (z : ProblemCall Op Reply). one_completed (is_some z.returned) + count_completed calls) same
completed_rest (y ∷ calls) (suc i) x e = completed_rest calls i x e

-- the completed calls of what is left, one call on
pub completed_more : {Op Reply : Type 0} (calls : List (ProblemCall Op Reply)) (i : ℕ) (x : ProblemCall Op Reply) → slice_get calls i ≡ Some x → count_completed (drop i calls) ≡ one_completed (is_some x.returned) + count_completed (drop (i + 1) calls)
completed_more calls i x e =
    let at : i + 1 ≡ suc i = omega arith in
    completed_rest calls i x e ∙ sym (ap (λ (k : ℕ). one_completed (is_some x.returned) + count_completed (drop k calls)) at)

pub completed_within : {State Op Reply : Type 0} (p : Problem State Op Reply) (a : ℕ) → IsCompleted p a → a < length p.calls
completed_within p a h = let x = some_and (slice_get p.calls a) (λ x. IsSome x.returned) h in slice_get_within p.calls a x.0 x.1

-- what is left of a list after its last call is taken off
pub taken_off : (l before rest : List ℕ) (c n : ℕ) → l ≡ before ++ c ∷ [] → n ≡ length l → rest ≡ take (n - 1) l → rest ≡ before
taken_off l before rest c n last count left =
    let m : length l ≡ length before + 1 = ap length last ∙ length_push before c in
    let k : n - 1 ≡ length before = omega (arith, m, count) in
    left ∙ ap (λ (x : ℕ). take x l) k ∙ ap (λ (x : List ℕ). take (length before) x) last ∙ take_at before (c ∷ []) (length before) refl
