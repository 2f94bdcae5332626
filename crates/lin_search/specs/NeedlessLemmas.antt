-- The three ways in which one of two identical calls stands for the other.
use Rattle.std.proofs.Common.{◌≡◌, ℕ, ◌<◌, ◌≤◌, ◌+◌, ◌⊎◌, inl, inr, Bool, true, false, Option, Some, None, IsSome, List, length, refl, sym, ◌∙◌, subst, arith}
use Rattle.std.specs.Prelude.{IsSomeAnd, if◌then◌else◌, get_or}
use Rattle.std.specs.List.{slice_get}
use Rattle.std.specs.Cmp.{IsEquivalence}
use Rattle.std.proofs.lemmas.Option.{slice_get_cases}
use Rattle.lin_object.specs.StepAnswers.{SameStep}
use Rattle.lin_object.specs.Laws.{IsLawful}
use Rattle.lin_history.specs.declared.problems.problem.ProblemCall.{ProblemCall}
use Rattle.lin_history.specs.OptionLemmas.{some_more}
use Rattle.lin_history.specs.Problems.ProblemParts.{ProblemParts, AreTimed}
use Rattle.lin_history.specs.Problems.Problem.{Problem, problem_of}
use Rattle.lin_history.specs.Problems.LegalLists.{next, fits, state_if_fits}
use Rattle.lin_history.specs.Problems.Precedence.{Before, IsCompleted}
use Rattle.lin_history.specs.Problems.Continuations.{has}
use Rattle.lin_search.specs.NextCall.{IsNext}
use Rattle.lin_search.specs.Entries.{IsMinimal}
use Rattle.lin_search.specs.Progress.{IsSearchedTo}
use Rattle.lin_search.specs.SameLemmas.{alike_itself}
use Rattle.lin_object.specs.StepAnswers.{IgnoresProcess, ChangesNothing}
use Rattle.lin_search.specs.NeedlessCalls.{ReturnedAlike, ReturnInOrder, ComesFirst, IsInOrder, StandsFor, LeavesStates}
use Rattle.lin_search.specs.AsWellLemmas.{searched_in_order}
use Rattle.lin_search.specs.FrontLemmas.{searched_after}

module _ {State Reply : Type 0} (same_state : State → State → Bool) {same : Reply → Reply → Bool} (equal : IsEquivalence same) where
  joined : (x y z : Reply) → same x y ≡ true → same x z ≡ true → same y z ≡ true
  joined x y z e f = sym (equal.congr x y z e) ∙ f

  -- equal replies fit alike
  fits_equal : (x y : Reply) (to : Option (ℕ × Reply)) → same x y ≡ true → fits same x to ≡ true → fits same y to ≡ true
  fits_equal x y None e f = refl
  fits_equal x y (Some r) e f = joined x y r.1 e f

  taken : (f : Bool) (a t : State) → (if f then Some a else None) ≡ Some t → (f ≡ true) × (a ≡ t)
  taken true a t e = (refl, cc)
  taken false a t e = absurd (cc)

  given : (f : Bool) (a : State) → f ≡ true → (if f then Some a else None) ≡ Some a
  given f a e = rw e refl

  -- where the first answer is there and fits, the second is there and equal
  abbrev Leads : Option (State × Reply) → Option (State × Reply) → Option (ℕ × Reply) → Type 0
  Leads m n from = (x : State × Reply) → m ≡ Some x → fits same x.1 from ≡ true → (y : State × Reply) × (n ≡ Some y) × (same_state x.0 y.0 ≡ true) × (same x.1 y.1 ≡ true)

  -- then it fits there too, where the reply does
  step_over : (m n : Option (State × Reply)) (from to : Option (ℕ × Reply)) (t : State) → Leads m n from
      → ((answer : State × Reply) → m ≡ Some answer → fits same answer.1 from ≡ true → fits same answer.1 to ≡ true)
      → state_if_fits same from m ≡ Some t → (u : State) × (state_if_fits same to n ≡ Some u) × (same_state t u ≡ true)
  step_over None n from to t leads over e = absurd (cc)
  step_over (Some x) n from to t leads over e =
      let h = taken (fits same x.1 from) x.0 t e in
      let k = leads x refl h.0 in
      (k.0.0, rw k.1 (given (fits same k.0.1 to) k.0.0 (fits_equal x.1 k.0.1 to k.3 (over x refl h.0))), subst (λ (z : State). same_state z k.0.0 ≡ true) h.1 k.2)

  -- what is alike to an answer that is there
  answer_of : (m n : Option (State × Reply)) (x : State × Reply) → SameStep same_state same m n → m ≡ Some x → (y : State × Reply) × (n ≡ Some y) × (same_state x.0 y.0 ≡ true) × (same x.1 y.1 ≡ true)
  answer_of None n x k e = absurd (cc)
  answer_of (Some a) None x k e = absurd k
  answer_of (Some a) (Some b) x k e = (b, refl, let h : a ≡ x = cc in subst (λ (z : State × Reply). same_state z.0 b.0 ≡ true) h k.0, let h : a ≡ x = cc in subst (λ (z : State × Reply). same z.1 b.1 ≡ true) h k.1)

  -- what fits the first call fits the second
  over_later : (x y : Option (ℕ × Reply)) (step : Option (State × Reply)) → ReturnInOrder same x y step → (r : Reply) → fits same r x ≡ true → fits same r y ≡ true
  over_later (Some x) (Some y) step k r f = equal.congr r x.1 y.1 f ∙ k.1
  over_later None None step k r f = refl
  over_later (Some x) None step k r f = refl
  over_later None (Some y) step k r f = absurd k

  -- the reply of the second call's step, which fits it, fits the first
  over_first : (x y : Option (ℕ × Reply)) (step : Option (State × Reply)) → ReturnInOrder same x y step → (answer : State × Reply) → step ≡ Some answer → fits same answer.1 y ≡ true → fits same answer.1 x ≡ true
  over_first (Some x) (Some y) step k answer e f = equal.congr answer.1 y.1 x.1 f ∙ (equal.symm y.1 x.1 ∙ k.1)
  over_first None None step k answer e f = refl
  over_first (Some x) None step k answer e f = let h = rw e at k in h
  over_first None (Some y) step k answer e f = absurd k

  -- what holds of the number of the second return, and of the numbers below, holds of that of the first
  returned_first : (x y : Option (ℕ × Reply)) (step : Option (State × Reply)) (Q : ℕ → Type 0) → ((m n : ℕ) → m ≤ n → Q n → Q m) → ReturnInOrder same x y step → IsSomeAnd y (λ r. Q r.0) → IsSomeAnd x (λ r. Q r.0)
  returned_first (Some x) (Some y) step Q down k h = down x.0 y.0 k.0 h
  returned_first (Some x) None step Q down k h = absurd h
  returned_first None None step Q down k h = absurd h
  returned_first None (Some y) step Q down k h = absurd k

  completed_first : (x y : Option (ℕ × Reply)) (step : Option (State × Reply)) → ReturnInOrder same x y step → IsSome y → IsSome x
  completed_first (Some x) y step k h = refl
  completed_first None None step k h = h
  completed_first None (Some y) step k h = absurd k

  -- where the first call fits, and the two stand in order but for the reply that nobody saw, they return in order
  in_order : (x y : Option (ℕ × Reply)) (m n : Option (State × Reply)) (t : State) → Leads m n x → state_if_fits same x m ≡ Some t → ComesFirst same x y → ReturnInOrder same x y n
  in_order (Some x) (Some y) m n t leads e f = f
  in_order None None m n t leads e f = tt
  in_order None (Some y) m n t leads e f = absurd f
  in_order (Some x) None None n t leads e f = absurd (cc)
  in_order (Some x) None (Some a) None t leads e f = tt
  in_order (Some x) None (Some a) (Some b) t leads e f =
      let h = taken (same a.1 x.1) a.0 t e in
      let k = leads a refl h.0 in
      let is : b ≡ k.0 = (let q = k.1 in cc) in
      subst (λ (z : State × Reply). same z.1 x.1 ≡ true) (sym is) (joined a.1 k.0.1 x.1 k.3 h.0)

-- such returns are in order, whatever the step
returned_alike : {State Reply : Type 0} (same : Reply → Reply → Bool) (x y : Option (ℕ × Reply)) (step : Option (State × Reply)) → ReturnedAlike same x y → ReturnInOrder same x y step
returned_alike same (Some x) (Some y) step k = k
returned_alike same None None step k = k
returned_alike same (Some x) None step k = absurd k
returned_alike same None (Some y) step k = absurd k

module _ {Op Reply : Type 0} (calls : List (ProblemCall Op Reply)) where
  -- a number below another one's that a call was called after
  earlier_number : (c : ℕ) (m n : ℕ) → m ≤ n → IsSomeAnd (slice_get calls c) (λ z. n < z.called) → IsSomeAnd (slice_get calls c) (λ z. m < z.called)
  earlier_number c m n h = some_more (slice_get calls c) (λ z. n < z.called) (λ z. m < z.called) (λ z k. omega (arith, h, k))

module _ {State Op Reply : Type 0} (p : Problem State Op Reply) (timed : AreTimed p.calls) where
  there_if : (c : ℕ) → c < length p.calls → ((x : ProblemCall Op Reply) × (c < length p.calls) × (slice_get p.calls c ≡ Some x) × (get_or p.calls c x ≡ x)) ⊎ ((length p.calls ≤ c) × (slice_get p.calls c ≡ None)) → (x : ProblemCall Op Reply) × (slice_get p.calls c ≡ Some x)
  there_if c h (inl k) = (k.0, k.2)
  there_if c h (inr k) = absurd (let past = k.0 in omega (arith, h, past))

  -- the call of a number
  there : (c : ℕ) → c < length p.calls → (x : ProblemCall Op Reply) × (slice_get p.calls c ≡ Some x)
  there c h = there_if c h (slice_get_cases p.calls c).1

  called_later : (a b : ℕ) (x y : ProblemCall Op Reply) → slice_get p.calls a ≡ Some x → slice_get p.calls b ≡ Some y → x.called < y.called → (n : ℕ) → IsSomeAnd (slice_get p.calls a) (λ z. n < z.called) → IsSomeAnd (slice_get p.calls b) (λ z. n < z.called)
  called_later a b x y at_a at_b later n h = let q : n < x.called = rw at_a at h in rw at_b (omega (arith, q, later))

  -- A call that is left and was called before a minimal one is minimal too.
  pub minimal_earlier : (set : List Bool) (a b : ℕ) → a < b → has set a ≡ false → IsMinimal p set b → IsMinimal p set a
  minimal_earlier set a b less free minimal =
      let within : a < length p.calls = (let h = minimal.within in omega (arith, h, less)) in
      let x = there a within in
      let y = there b minimal.within in
      record {
        within = within;
        outside = free;
        preceded = λ c before.
            minimal.preceded c (some_more (slice_get p.calls c) _ _ (λ z h. some_more z.returned _ _ (λ r q. called_later a b x.0 y.0 x.1 y.1 (timed.called a b x.0 y.0 less x.1 y.1) r.0 q) h) before);
      }

module _ {Object State Op Reply : Type 0} {after : Object → State → ℕ → Op → Option (State × Reply)} {same_object : Object → Object → Bool} {same_state : State → State → Bool} {same_op : Op → Op → Bool} {same_reply : Reply → Reply → Bool} (lawful : IsLawful after same_object same_state same_op same_reply) (parts : ProblemParts Object State Op Reply) where
  abbrev P : Problem State Op Reply
  P = problem_of after same_state same_reply parts

  module _ (a b : ℕ) (x y : ProblemCall Op Reply) (at_a : slice_get parts.calls a ≡ Some x) (at_b : slice_get parts.calls b ≡ Some y) where
    -- steps of one process are alike
    steps_of_one : same_op x.op y.op ≡ true → (s : State) → SameStep same_state same_reply (after parts.object s y.process x.op) (after parts.object s y.process y.op)
    steps_of_one same s = lawful.steps_alike parts.object parts.object s s y.process x.op y.op (lawful.objects.refl parts.object) (lawful.states.refl s) same

    steps_back : (m n : Option (State × Reply)) → SameStep same_state same_reply m n → SameStep same_state same_reply n m
    steps_back None None k = tt
    steps_back (Some m) (Some n) k = (lawful.states.symm n.0 m.0 ∙ k.0, lawful.replies.symm n.1 m.1 ∙ k.1)
    steps_back None (Some n) k = absurd k
    steps_back (Some m) None k = absurd k

    -- from a step of the first call to one of the second
    forward : same_op x.op y.op ≡ true → IgnoresProcess same_reply (after parts.object) x.op x.returned → (s : State) → Leads same_state lawful.replies (after parts.object s x.process x.op) (after parts.object s y.process y.op) x.returned
    forward same ignores s answer e f =
        answer_of same_state lawful.replies (after parts.object s y.process x.op) (after parts.object s y.process y.op) answer (steps_of_one same s) (ignores s x.process y.process answer e f)

    -- and back, where what fits the second fits the first
    back : same_op x.op y.op ≡ true → IgnoresProcess same_reply (after parts.object) x.op x.returned → (s : State)
        → ((answer : State × Reply) → after parts.object s y.process y.op ≡ Some answer → fits same_reply answer.1 y.returned ≡ true → fits same_reply answer.1 x.returned ≡ true)
        → Leads same_state lawful.replies (after parts.object s y.process y.op) (after parts.object s x.process x.op) y.returned
    back same ignores s over answer e f =
        let k = answer_of same_state lawful.replies (after parts.object s y.process y.op) (after parts.object s y.process x.op) answer (steps_back _ _ (steps_of_one same s)) e in
        (k.0, ignores s y.process x.process k.0 k.1 (fits_equal same_state lawful.replies answer.1 k.0.1 x.returned k.3 (over answer e f)), k.2, k.3)

    next_a : (s : State) → next P s a ≡ state_if_fits same_reply x.returned (after parts.object s x.process x.op)
    next_a s = rw at_a refl

    next_b : (s : State) → next P s b ≡ state_if_fits same_reply y.returned (after parts.object s y.process y.op)
    next_b s = rw at_b refl

    pub stands_for : (set : List Bool) (s : State) → has set a ≡ false → a < b → IsInOrder same_op P s x y → StandsFor P set s a b
    stands_for set s free less k = record {
      free = free;
      less = less;
      first = λ t e.
          (let r = step_over same_state lawful.replies step_b step_a y.returned x.returned t (back k.op k.ignores s (over_first same_state lawful.replies x.returned y.returned step_b k.returned)) (over_first same_state lawful.replies x.returned y.returned step_b k.returned) (sym (next_b s) ∙ e) in (r.0, next_a s ∙ r.1, r.2));
      later = λ u v e.
          (let r = step_over same_state lawful.replies (after parts.object u x.process x.op) (after parts.object u y.process y.op) x.returned y.returned v (forward k.op k.ignores u) (λ answer f. over_later same_state lawful.replies x.returned y.returned step_b k.returned answer.1) (sym (next_a u) ∙ e) in (r.0, next_b u ∙ r.1, r.2));
      preceded = λ c before. some_more (slice_get parts.calls c) _ _ (λ z h. some_more z.returned _ _ (λ r q. called_before r.0 q) h) before;
      precedes = λ c before. before_a c (returned_first same_state lawful.replies x.returned y.returned step_b (λ n. IsSomeAnd (slice_get parts.calls c) (λ z. n < z.called)) (earlier_number parts.calls c) k.returned (before_b c before));
      completed = λ done. completed_a (completed_first same_state lawful.replies x.returned y.returned step_b k.returned (completed_b done));
    }
      where
        step_a : Option (State × Reply)
        step_a = after parts.object s x.process x.op

        step_b : Option (State × Reply)
        step_b = after parts.object s y.process y.op

        called_before : (n : ℕ) → IsSomeAnd (slice_get parts.calls a) (λ z. n < z.called) → IsSomeAnd (slice_get parts.calls b) (λ z. n < z.called)
        called_before n h = let q : n < x.called = rw at_a at h in let e = k.called in rw at_b (omega (arith, q, e))

        before_b : (c : ℕ) → Before P b c → IsSomeAnd y.returned (λ r. IsSomeAnd (slice_get parts.calls c) (λ z. r.0 < z.called))
        before_b c h = rw at_b at h

        before_a : (c : ℕ) → IsSomeAnd x.returned (λ r. IsSomeAnd (slice_get parts.calls c) (λ z. r.0 < z.called)) → Before P a c
        before_a c h = rw at_a h

        completed_b : IsCompleted P b → IsSome y.returned
        completed_b h = rw at_b at h

        completed_a : IsSome x.returned → IsCompleted P a
        completed_a h = rw at_a h

    -- Of two identical calls the first was tried, so it fits: what code tests.
    pub tried_in_order : (s t : State) → next P s a ≡ Some t → x.called ≤ y.called → same_op x.op y.op ≡ true → IgnoresProcess same_reply (after parts.object) x.op x.returned → ComesFirst same_reply x.returned y.returned → IsInOrder same_op P s x y
    tried_in_order s t fits called same ignores comes = record {
      called = called;
      op = same;
      ignores = ignores;
      returned = in_order same_state lawful.replies x.returned y.returned (after parts.object s x.process x.op) (after parts.object s y.process y.op) t (forward same ignores s) (sym (next_a s) ∙ fits) comes;
    }

    -- P: with an identical call in order before it, a call adds nothing to what the calls tried so far show.
    pub searched_identical : (set : List Bool) (s : State) (more : ℕ) (first : Option ℕ) → has set a ≡ false → a < b → IsInOrder same_op P s x y → IsSearchedTo P set s b more first → IsSearchedTo P set s (b + 1) more first
    searched_identical set s more first free less k searched = searched_in_order P set s (alike_itself lawful parts) a b more first (stands_for set s free less k) searched

  -- What a test of the two calls gives, where the first can follow.
  pub adds_nothing : (a b : ℕ) (x y : ProblemCall Op Reply) → slice_get parts.calls a ≡ Some x → slice_get parts.calls b ≡ Some y → AreTimed parts.calls → a < b
      → same_op x.op y.op ≡ true → IgnoresProcess same_reply (after parts.object) x.op x.returned → ComesFirst same_reply x.returned y.returned
      → (set : List Bool) (s t : State) (more : ℕ) (first : Option ℕ) → IsNext P set s a t → IsSearchedTo P set s b more first → IsSearchedTo P set s (b + 1) more first
  adds_nothing a b x y at_a at_b timed less same ignores comes set s t more first is_next searched =
      let called : x.called ≤ y.called = (let h = timed.called a b x y less at_a at_b in omega (arith, h)) in
      searched_identical a b x y at_a at_b set s more first is_next.outside less (tried_in_order a b x y at_a at_b s t is_next.step called same ignores comes) searched

  -- The same for a search that says nothing of longest continuations.
  pub stands_tried : (a b : ℕ) (x y : ProblemCall Op Reply) → slice_get parts.calls a ≡ Some x → slice_get parts.calls b ≡ Some y → AreTimed parts.calls → a < b
      → same_op x.op y.op ≡ true → IgnoresProcess same_reply (after parts.object) x.op x.returned → ComesFirst same_reply x.returned y.returned
      → (set : List Bool) (s t : State) → IsNext P set s a t → StandsFor P set s a b
  stands_tried a b x y at_a at_b timed less same ignores comes set s t is_next =
      let called : x.called ≤ y.called = (let h = timed.called a b x y less at_a at_b in omega (arith, h)) in
      stands_for a b x y at_a at_b set s is_next.outside less (tried_in_order a b x y at_a at_b s t is_next.step called same ignores comes)

  -- What a test of the two calls gives, where the first is free: no step need be looked at.
  pub stands_alike : (a b : ℕ) (x y : ProblemCall Op Reply) → slice_get parts.calls a ≡ Some x → slice_get parts.calls b ≡ Some y → AreTimed parts.calls → a < b
      → same_op x.op y.op ≡ true → IgnoresProcess same_reply (after parts.object) x.op x.returned → ReturnedAlike same_reply x.returned y.returned
      → (set : List Bool) (s : State) → has set a ≡ false → StandsFor P set s a b
  stands_alike a b x y at_a at_b timed less same ignores alike set s free =
      let called : x.called ≤ y.called = (let h = timed.called a b x y less at_a at_b in omega (arith, h)) in
      stands_for a b x y at_a at_b set s free less (record {
        called = called;
        op = same;
        ignores = ignores;
        returned = returned_alike same_reply x.returned y.returned (after parts.object s y.process y.op) alike;
      })

  -- So it need not be tried.
  pub repeats : (a b : ℕ) (x y : ProblemCall Op Reply) → slice_get parts.calls a ≡ Some x → slice_get parts.calls b ≡ Some y → AreTimed parts.calls → a < b
      → same_op x.op y.op ≡ true → IgnoresProcess same_reply (after parts.object) x.op x.returned → ReturnedAlike same_reply x.returned y.returned
      → (set : List Bool) (s : State) (more : ℕ) (first : Option ℕ) → has set a ≡ false → IsSearchedTo P set s b more first → IsSearchedTo P set s (b + 1) more first
  repeats a b x y at_a at_b timed less same ignores alike set s more first free searched =
      searched_in_order P set s (alike_itself lawful parts) a b more first (stands_alike a b x y at_a at_b timed less same ignores alike set s free) searched

  -- A call whose operation changes nothing, with what it has returned, leaves each state as it is.
  pub leaves_states : (r : ℕ) (x : ProblemCall Op Reply) → slice_get parts.calls r ≡ Some x → ChangesNothing same_state same_reply (after parts.object) x.op x.returned → LeavesStates P r
  leaves_states r x at_r nothing u v e = one (after parts.object u x.process x.op) refl (let q : state_if_fits same_reply x.returned (after parts.object u x.process x.op) ≡ Some v = rw at_r at e in q)
    where
      one : (m : Option (State × Reply)) → after parts.object u x.process x.op ≡ m → state_if_fits same_reply x.returned m ≡ Some v → same_state u v ≡ true
      one None f q = absurd (cc)
      one (Some answer) f q = let h = taken same_state lawful.replies (fits same_reply answer.1 x.returned) answer.0 v q in subst (λ (z : State). same_state u z ≡ true) h.1 (nothing u x.process answer f h.0)

  -- N: after a call that changes nothing no further one need be tried.
  pub ends_the_list : (r : ℕ) (x : ProblemCall Op Reply) → slice_get parts.calls r ≡ Some x → ChangesNothing same_state same_reply (after parts.object) x.op x.returned
      → (set : List Bool) (s t : State) (i more : ℕ) (first : Option ℕ) → IsNext P set s r t → r < i → i ≤ length parts.calls → IsSearchedTo P set s i more first → IsSearchedTo P set s (length parts.calls) more first
  ends_the_list r x at_r nothing set s t i more first is_next tried up searched =
      searched_after P (alike_itself lawful parts) r (leaves_states r x at_r nothing) set s t is_next i (length parts.calls) more first tried up searched
