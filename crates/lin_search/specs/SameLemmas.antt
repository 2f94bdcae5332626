-- Problems that are equal in every part say the same, whatever lawful object they are of.
use Rattle.std.proofs.Common.{◌≡◌, ℕ, zero, suc, ◌<◌, Bool, true, false, Option, Some, None, List, [], ◌∷◌, length, refl, sym, ◌∙◌, ap, subst, arith}
use Rattle.std.specs.Prelude.{if◌then◌else◌, IsSomeAnd, IsSome}
use Rattle.std.specs.Cmp.{IsEquivalence}
use Rattle.std.specs.List.{slice_get}
use Rattle.lin_object.specs.StepAnswers.{SameStep}
use Rattle.lin_object.specs.Laws.{IsLawful}
use Rattle.lin_history.specs.declared.problems.problem.ProblemCall.{ProblemCall}
use Rattle.lin_history.specs.Problems.ProblemParts.{ProblemParts}
use Rattle.lin_history.specs.Problems.Problem.{problem_of}
use Rattle.lin_history.specs.Problems.LegalLists.{fits, state_if_fits, after_call}
use Rattle.lin_history.specs.Problems.SameProblem.{SameReturn, SameCall, SameCalls, SameProblem}
use Rattle.lin_search.specs.AlikeLemmas.{IsLike, AreAlike}

module _ {Reply : Type 0} {same : Reply → Reply → Bool} (equal : IsEquivalence same) where
  fits_alike : (a b : Reply) (x y : Option (ℕ × Reply)) → same a b ≡ true → SameReturn same x y → fits same a x ≡ fits same b y
  fits_alike a b None None e k = refl
  fits_alike a b (Some x) (Some y) e k =
      equal.congr a b x.1 e ∙ (equal.symm b x.1 ∙ (equal.congr x.1 y.1 b k.1 ∙ equal.symm y.1 b))
  fits_alike a b None (Some y) e k = absurd k
  fits_alike a b (Some x) None e k = absurd k

  same_return_itself : (x : Option (ℕ × Reply)) → SameReturn same x x
  same_return_itself None = tt
  same_return_itself (Some x) = (refl, equal.refl x.1)

  same_return_back : (x y : Option (ℕ × Reply)) → SameReturn same x y → SameReturn same y x
  same_return_back None None k = tt
  same_return_back (Some x) (Some y) k = (sym k.0, equal.symm y.1 x.1 ∙ k.1)
  same_return_back None (Some y) k = absurd k
  same_return_back (Some x) None k = absurd k

module _ {State : Type 0} (same : State → State → Bool) where
  if_some : (f g : Bool) (a b u : State) → f ≡ g → same a b ≡ true → (if f then Some a else None) ≡ Some u → (v : State) × ((if g then Some b else None) ≡ Some v) × (same u v ≡ true)
  if_some true true a b u e k h = (b, refl, (let q : a ≡ u = cc in subst (λ (x : State). same x b ≡ true) q k))
  if_some false false a b u e k h = absurd (cc)
  if_some true false a b u e k h = absurd (cc)
  if_some false true a b u e k h = absurd (cc)

module _ {State Reply : Type 0} (same_state : State → State → Bool) {same_reply : Reply → Reply → Bool} (equal : IsEquivalence same_reply) where
  state_alike : (x y : Option (ℕ × Reply)) (m n : Option (State × Reply)) (u : State) → SameReturn same_reply x y → SameStep same_state same_reply m n → state_if_fits same_reply x m ≡ Some u → (v : State) × (state_if_fits same_reply y n ≡ Some v) × (same_state u v ≡ true)
  state_alike x y None None u r k e = absurd (cc)
  state_alike x y (Some a) (Some b) u r k e = if_some same_state (fits same_reply a.1 x) (fits same_reply b.1 y) a.0 b.0 u (fits_alike equal a.1 b.1 x y k.1 r) k.0 e
  state_alike x y None (Some b) u r k e = absurd k
  state_alike x y (Some a) None u r k e = absurd k

-- two reads of a list: both past the end, or equal calls
abbrev SameRead : {Op Reply : Type 0} → (Op → Op → Bool) → (Reply → Reply → Bool) → Option (ProblemCall Op Reply) → Option (ProblemCall Op Reply) → Type 0
SameRead same_op same_reply None None = Unit {0}
SameRead same_op same_reply (Some a) (Some b) = SameCall same_op same_reply a b
SameRead same_op same_reply None (Some b) = ⊥
SameRead same_op same_reply (Some a) None = ⊥

module _ {Op Reply : Type 0} (same_op : Op → Op → Bool) (same_reply : Reply → Reply → Bool) where
  same_read : (xs ys : List (ProblemCall Op Reply)) (i : ℕ) → SameCalls same_op same_reply xs ys → SameRead same_op same_reply (slice_get xs i) (slice_get ys i)
  same_read [] [] i k = tt
  same_read (x ∷ xs) (y ∷ ys) zero k = k.0
  same_read (x ∷ xs) (y ∷ ys) (suc i) k = same_read xs ys i k.1
  same_read [] (y ∷ ys) i k = absurd k
  same_read (x ∷ xs) [] i k = absurd k

  same_count : (xs ys : List (ProblemCall Op Reply)) → SameCalls same_op same_reply xs ys → length xs ≡ length ys
  same_count [] [] k = refl
  same_count (x ∷ xs) (y ∷ ys) k = ap suc (same_count xs ys k.1)
  same_count [] (y ∷ ys) k = absurd k
  same_count (x ∷ xs) [] k = absurd k

  before_returned : (x y : Option (ℕ × Reply)) (m n : Option (ProblemCall Op Reply)) → SameReturn same_reply x y → SameRead same_op same_reply m n → IsSomeAnd y (λ r. IsSomeAnd n (λ c. r.0 < c.called)) → IsSomeAnd x (λ r. IsSomeAnd m (λ c. r.0 < c.called))
  before_returned (Some x) (Some y) (Some m) (Some n) k h b = let e = k.0 in let f = h.called in omega (arith, e, f, b)
  before_returned (Some x) (Some y) None None k h b = absurd b
  before_returned (Some x) (Some y) None (Some n) k h b = absurd h
  before_returned (Some x) (Some y) (Some m) None k h b = absurd h
  before_returned None None m n k h b = absurd b
  before_returned None (Some y) m n k h b = absurd k
  before_returned (Some x) None m n k h b = absurd k

  before_alike : (a b c d : Option (ProblemCall Op Reply)) → SameRead same_op same_reply a b → SameRead same_op same_reply c d → IsSomeAnd b (λ x. IsSomeAnd x.returned (λ r. IsSomeAnd d (λ y. r.0 < y.called))) → IsSomeAnd a (λ x. IsSomeAnd x.returned (λ r. IsSomeAnd c (λ y. r.0 < y.called)))
  before_alike (Some a) (Some b) c d k h e = before_returned a.returned b.returned c d k.returned h e
  before_alike None None c d k h e = absurd e
  before_alike None (Some b) c d k h e = absurd k
  before_alike (Some a) None c d k h e = absurd k

  returned_alike : (x y : Option (ℕ × Reply)) → SameReturn same_reply x y → IsSome y → IsSome x
  returned_alike (Some x) (Some y) k h = refl
  returned_alike None None k h = h
  returned_alike None (Some y) k h = absurd k
  returned_alike (Some x) None k h = absurd k

  completed_alike : (a b : Option (ProblemCall Op Reply)) → SameRead same_op same_reply a b → IsSomeAnd b (λ x. IsSome x.returned) → IsSomeAnd a (λ x. IsSome x.returned)
  completed_alike (Some a) (Some b) k h = returned_alike a.returned b.returned k.returned h
  completed_alike None None k h = absurd h
  completed_alike None (Some b) k h = absurd k
  completed_alike (Some a) None k h = absurd k

module _ {Object State Op Reply : Type 0} {after : Object → State → ℕ → Op → Option (State × Reply)} {same_object : Object → Object → Bool} {same_state : State → State → Bool} {same_op : Op → Op → Bool} {same_reply : Reply → Reply → Bool} (lawful : IsLawful after same_object same_state same_op same_reply) where
  same_calls_itself : (xs : List (ProblemCall Op Reply)) → SameCalls same_op same_reply xs xs
  same_calls_itself [] = tt
  same_calls_itself (x ∷ xs) = (record { process = refl; op = lawful.ops.refl x.op; called = refl; returned = same_return_itself lawful.replies x.returned }, same_calls_itself xs)

  same_calls_back : (xs ys : List (ProblemCall Op Reply)) → SameCalls same_op same_reply xs ys → SameCalls same_op same_reply ys xs
  same_calls_back [] [] k = tt
  same_calls_back (x ∷ xs) (y ∷ ys) k = (record { process = sym k.0.process; op = lawful.ops.symm y.op x.op ∙ k.0.op; called = sym k.0.called; returned = same_return_back lawful.replies x.returned y.returned k.0.returned }, same_calls_back xs ys k.1)
  same_calls_back [] (y ∷ ys) k = absurd k
  same_calls_back (x ∷ xs) [] k = absurd k

  pub same_itself : (p : ProblemParts Object State Op Reply) → SameProblem same_object same_state same_op same_reply p p
  same_itself p = record { object = lawful.objects.refl p.object; start = lawful.states.refl p.start; calls = same_calls_itself p.calls }

  pub same_back : (p q : ProblemParts Object State Op Reply) → SameProblem same_object same_state same_op same_reply p q → SameProblem same_object same_state same_op same_reply q p
  same_back p q k = record {
    object = lawful.objects.symm q.object p.object ∙ k.object;
    start = lawful.states.symm q.start p.start ∙ k.start;
    calls = same_calls_back p.calls q.calls k.calls;
  }

  step_alike : (p q : ProblemParts Object State Op Reply) (s t u : State) (a b : Option (ProblemCall Op Reply)) → SameProblem same_object same_state same_op same_reply p q → same_state s t ≡ true → SameRead same_op same_reply a b → after_call (problem_of after same_state same_reply p) s a ≡ Some u → (v : State) × (after_call (problem_of after same_state same_reply q) t b ≡ Some v) × (same_state u v ≡ true)
  step_alike p q s t u (Some a) (Some b) k e r h =
      state_alike same_state lawful.replies a.returned b.returned (after p.object s a.process a.op) (after q.object t b.process b.op) u r.returned
      (subst (λ (n : ℕ). SameStep same_state same_reply (after p.object s a.process a.op) (after q.object t n b.op)) r.process (lawful.steps_alike p.object q.object s t a.process a.op b.op k.object e r.op))
      h
  step_alike p q s t u None None k e r h = absurd (cc)
  step_alike p q s t u None (Some b) k e r h = absurd r
  step_alike p q s t u (Some a) None k e r h = absurd r

  pub like_of_same : (p q : ProblemParts Object State Op Reply) → SameProblem same_object same_state same_op same_reply p q → IsLike (problem_of after same_state same_reply p) (problem_of after same_state same_reply q)
  like_of_same p q k = record {
    steps = λ s t u c e h. step_alike p q s t u (slice_get p.calls c) (slice_get q.calls c) k e (same_read same_op same_reply p.calls q.calls c k.calls) h;
    before = λ a b h. before_alike same_op same_reply (slice_get p.calls a) (slice_get q.calls a) (slice_get p.calls b) (slice_get q.calls b) (same_read same_op same_reply p.calls q.calls a k.calls) (same_read same_op same_reply p.calls q.calls b k.calls) h;
    completed = λ a h. completed_alike same_op same_reply (slice_get p.calls a) (slice_get q.calls a) (same_read same_op same_reply p.calls q.calls a k.calls) h;
  }

  -- problems that are equal in every part say the same
  pub alike_of_same : (p q : ProblemParts Object State Op Reply) → SameProblem same_object same_state same_op same_reply p q → AreAlike (problem_of after same_state same_reply p) (problem_of after same_state same_reply q)
  alike_of_same p q k = record {
    there = like_of_same p q k;
    back = like_of_same q p (same_back p q k);
    same_test = λ s t. refl;
    equal_states = lawful.states;
    starts = k.start;
    counts = same_count same_op same_reply p.calls q.calls k.calls;
  }

  pub alike_itself : (p : ProblemParts Object State Op Reply) → AreAlike (problem_of after same_state same_reply p) (problem_of after same_state same_reply p)
  alike_itself p = alike_of_same p p (same_itself p)
