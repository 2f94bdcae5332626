-- What the first completed call that is left and the least return of what is left say of the calls that may be next.
use Rattle.std.proofs.Common.{◌≡◌, ℕ, ◌+◌, ◌<◌, ◌≤◌, Bool, true, false, Option, Some, None, List, [], ◌∷◌, length, ◌⊎◌, inl, inr, refl, sym, ◌∙◌, subst, arith}
use Rattle.std.specs.Prelude.{slice_get, IsSome, IsSomeAnd, min}
use Rattle.std.proofs.lemmas.Option.{slice_get_cases}
use Rattle.lin_history.specs.declared.problems.problem.ProblemCall.{ProblemCall}
use Rattle.lin_history.specs.Problems.ProblemParts.{AreTimed}
use Rattle.lin_history.specs.Problems.Problem.{Problem}
use Rattle.lin_history.specs.Problems.Precedence.{Before, IsCompleted}
use Rattle.lin_history.specs.Problems.Continuations.{has, IsCompletion}
use Rattle.lin_search.specs.CallSetLemmas.{true_or_false, below_or_last}
use Rattle.lin_search.specs.Entries.{IsMinimal}
use Rattle.lin_search.specs.FirstCallLemmas.{next_within}
use Rattle.lin_search.specs.NextCall.{IsNext}
use Rattle.lin_fewer.specs.Fronts.{HasCompletedBelow, IsCalledBy, IsLater, IsFirstLeft, IsLeastReturn, IsLesserReturn, IsReturnLeft, IsReturnOf}
use Rattle.lin_fewer.specs.Nodes.{NoneBegins}

pub some_of : {X : Type 0} (o : Option X) (P : X → Type 0) → IsSomeAnd o P → (x : X) × (o ≡ Some x) × P x
some_of None P h = absurd h
some_of (Some x) P h = (x, refl, h)

pub and_some : {X : Type 0} (o : Option X) (x : X) (P : X → Type 0) → o ≡ Some x → P x → IsSomeAnd o P
and_some {X = X} o x P e h = subst (λ (q : Option X). IsSomeAnd q P) (sym e) h

is_some : {X : Type 0} (o : Option X) (x : X) → o ≡ Some x → IsSome o
is_some {X = X} o x e = subst (λ (q : Option X). IsSome q) (sym e) refl

there : {X : Type 0} (o : Option X) → IsSome o → (x : X) × (o ≡ Some x)
there None h = absurd (cc)
there (Some x) h = (x, refl)

pub least_or : (a b : ℕ) → (a < b) ⊎ (b ≤ a)
least_or a b = grind arith

module _ {State Op Reply : Type 0} (p : Problem State Op Reply) where
  pub completed_within : (c : ℕ) → IsCompleted p c → c < length p.calls
  completed_within c h = elim (slice_get_cases p.calls c).1 [ inl k ↦ k.1 | inr q ↦ absurd (let e = rw q.1 at h in e) ]

  pub call_within : (c : ℕ) (y : ProblemCall Op Reply) → slice_get p.calls c ≡ Some y → c < length p.calls
  call_within c y e = elim (slice_get_cases p.calls c).1 [ inl k ↦ k.1 | inr q ↦ absurd (let f = q.1 in cc) ]

  pub call_there : (c : ℕ) → c < length p.calls → (y : ProblemCall Op Reply) × (slice_get p.calls c ≡ Some y)
  call_there c h = elim (slice_get_cases p.calls c).1 [ inl k ↦ (k.0, k.2) | inr q ↦ absurd (let less = q.0 in omega (arith, less, h)) ]

  pub before_parts : (a b : ℕ) → Before p a b → (x : ProblemCall Op Reply) × (r : ℕ × Reply) × (y : ProblemCall Op Reply) × (slice_get p.calls a ≡ Some x) × (x.returned ≡ Some r) × (slice_get p.calls b ≡ Some y) × (r.0 < y.called)
  before_parts a b h =
      let one = some_of (slice_get p.calls a) _ h in
      let two = some_of one.0.returned _ one.2 in
      let three = some_of (slice_get p.calls b) _ two.2 in
      (one.0, two.0, three.0, one.1, two.1, three.1, three.2)

  pub before_by : (a b : ℕ) (x : ProblemCall Op Reply) (r : ℕ × Reply) (y : ProblemCall Op Reply) → slice_get p.calls a ≡ Some x → x.returned ≡ Some r → slice_get p.calls b ≡ Some y → r.0 < y.called → Before p a b
  before_by a b x r y at_a returned at_b less =
      and_some (slice_get p.calls a) x (λ z. IsSomeAnd z.returned (λ r. IsSomeAnd (slice_get p.calls b) (λ y. r.0 < y.called))) at_a
      (and_some x.returned r (λ r. IsSomeAnd (slice_get p.calls b) (λ y. r.0 < y.called)) returned
      (and_some (slice_get p.calls b) y (λ y. r.0 < y.called) at_b less))

  pub completed_by : (a : ℕ) (x : ProblemCall Op Reply) (r : ℕ × Reply) → slice_get p.calls a ≡ Some x → x.returned ≡ Some r → IsCompleted p a
  completed_by a x r at returned = and_some (slice_get p.calls a) x (λ z. IsSome z.returned) at (is_some x.returned r returned)

  pub completed_parts : (a : ℕ) → IsCompleted p a → (x : ProblemCall Op Reply) × (r : ℕ × Reply) × (slice_get p.calls a ≡ Some x) × (x.returned ≡ Some r)
  completed_parts a h =
      let one = some_of (slice_get p.calls a) _ h in
      let two = there one.0.returned one.2 in
      (one.0, two.0, one.1, two.1)

  module _ (set : List Bool) where
    pub minimal_by : (bound c : ℕ) → IsLeastReturn p set bound → IsCalledBy p c bound → c < length p.calls → has set c ≡ false → IsMinimal p set c
    minimal_by bound c least called within out = record {
      within = within;
      outside = out;
      preceded = λ a before. elim (true_or_false (has set a)) [
        | inl h ↦ h
        | inr h ↦ (
            let parts = before_parts a c before in
            let low : bound ≤ parts.1.0 = least.lower a parts.0 parts.1 parts.3 parts.4 h in
            let high : parts.2.called ≤ bound = called parts.2 parts.5 in
            let less : parts.1.0 < parts.2.called = parts.6 in
            absurd (omega (arith, low, high, less))
            )
      ];
    }

    -- what is in the set begins nothing, nor what was called after all that is left could return
    pub lifted_begins : (s : State) (c : ℕ) → has set c ≡ true → NoneBegins p set s c
    lifted_begins s c h l k = let out = k.continuation.outside c (inl refl) in absurd (cc)

    late_within : (s : State) (bound c d : ℕ) (y : ProblemCall Op Reply) → AreTimed p.calls → IsLeastReturn p set bound → slice_get p.calls c ≡ Some y → bound < y.called → c ≤ d → d < length p.calls → NoneBegins p set s d
    late_within s bound c d y timed least at late up within l k =
        let a = least.there in
        let z = call_there d within in
        let later : y.called ≤ z.0.called = called_later in
        let before : Before p a.call d = before_by a.call d a.made a.returned z.0 a.at a.is z.1 (let e : a.returned.0 ≡ bound = a.number in omega (arith, e, late, later)) in
        elim (k.continuation.ordered [] d l refl a.call before) [
          | inl h ↦ absurd (let out = a.outside in cc)
          | inr h ↦ absurd h
        ]
      where
        called_later : y.called ≤ (call_there d within).0.called
        called_later = elim (least_or c d) [
          | inl less ↦ (let h = timed.called c d y (call_there d within).0 less at (call_there d within).1 in omega (arith, h))
          | inr more ↦ (let e : c ≡ d = omega (arith, more, up) in let f : slice_get p.calls d ≡ Some y = subst (λ (n : ℕ). slice_get p.calls n ≡ Some y) e at in let g = (call_there d within).1 in let q : y ≡ (call_there d within).0 = cc in subst (λ (n : ProblemCall Op Reply). y.called ≤ n.called) q (omega arith))
        ]

    pub late_begins : (s : State) (bound c d : ℕ) → IsLeastReturn p set bound → IsLater p c bound → c ≤ d → NoneBegins p set s d
    late_begins s bound c d least later up l k = elim (least_or d (length p.calls)) [
      | inl within ↦ late_within s bound c d later.made later.timed least later.at later.late up within l k
      | inr past ↦ absurd (let w = next_within p s k.continuation.legal.1.0 d k.continuation.legal.1.1 in omega (arith, w, past))
    ]

  -- ---- what can follow was called by the least return of what is left

  module _ (set : List Bool) (bound c d : ℕ) (least : IsLeastReturn p set bound) (later : IsLater p c bound) (up : c ≤ d) (y : ProblemCall Op Reply) (at : slice_get p.calls d ≡ Some y) where
    called_later : later.made.called ≤ y.called
    called_later = elim (least_or c d) [
      | inl less ↦ (let h = later.timed.called c d later.made y less later.at at in omega (arith, h))
      | inr more ↦ (let e : c ≡ d = omega (arith, more, up) in let f : slice_get p.calls d ≡ Some later.made = subst (λ (n : ℕ). slice_get p.calls n ≡ Some later.made) e later.at in let q : later.made ≡ y = cc in subst (λ (n : ProblemCall Op Reply). later.made.called ≤ n.called) q (omega arith))
    ]

    pub late_next : (s t : State) → IsNext p set s d t → ⊥
    late_next s t is =
        let a = least.there in
        let before : Before p a.call d = before_by a.call d a.made a.returned y a.at a.is at (let e : a.returned.0 ≡ bound = a.number in let l = later.late in let m = called_later in omega (arith, e, l, m)) in
        let h = is.preceded a.call before in
        let out = a.outside in
        absurd (cc)

  -- a call with which a completion begins is there
  pub next_begins_within : (set : List Bool) (s : State) (c : ℕ) (l : List ℕ) → IsCompletion p set s (c ∷ l) → c < length p.calls
  next_begins_within set s c l k = next_within p s k.continuation.legal.1.0 c k.continuation.legal.1.1

  -- ---- what the tests find

  pub left_past : (set : List Bool) (c : ℕ) → HasCompletedBelow p set c → (IsCompleted p c × (has set c ≡ false) → ⊥) → HasCompletedBelow p set (c + 1)
  left_past set c below none d less done = elim (below_or_last d c less) [
    | inl early ↦ below d early done
    | inr same ↦ subst (λ (k : ℕ). has set k ≡ true) (sym same) (elim (true_or_false (has set c)) [
      | inl h ↦ h
      | inr h ↦ absurd (none (subst (λ (k : ℕ). IsCompleted p k) same done, h))
    ])
  ]

  pub lesser_none : (set : List Bool) (c least : ℕ) → (IsCompleted p c × (has set c ≡ false) → ⊥) → IsLesserReturn p set c least least
  lesser_none set c least none = record { below = omega arith; own = λ x r at is out. absurd (none (completed_by c x r at is, out)); there = inl refl }

  lesser_of : (least n m : ℕ) → m ≡ min least n → (m ≤ least) × (m ≤ n) × ((m ≡ least) ⊎ (m ≡ n))
  lesser_of least n m e = (omega (arith, e), omega (arith, e), grind (arith, e))

  pub lesser_some : (set : List Bool) (c least n m : ℕ) → IsCompleted p c → has set c ≡ false → IsReturnOf p c n → m ≡ min least n → IsLesserReturn p set c least m
  lesser_some set c least n m done out of e =
      let q = lesser_of least n m e in
      let x = completed_parts c done in
      record {
        below = q.0;
        own = λ y r at is out_. (let f = of y r at is in let h = q.1 in omega (arith, f, h));
        there = elim q.2 [
          | inl f ↦ inl f
          | inr f ↦ inr (record { call = c; made = x.0; returned = x.1; at = x.2; is = x.3; outside = out; number = sym (of x.0 x.1 x.2 x.3) ∙ sym f })
        ];
      }

  -- the returns of the calls below one that are left
  pub record IsLowest (set : List Bool) (c least : ℕ) : Type 0 where
    pub lower : (a : ℕ) (x : ProblemCall Op Reply) (r : ℕ × Reply) → a < c → slice_get p.calls a ≡ Some x → x.returned ≡ Some r → has set a ≡ false → least ≤ r.0
    pub there : IsReturnLeft p set least

  pub lowest_first : (set : List Bool) (first n : ℕ) → IsFirstLeft p set first → IsReturnOf p first n → IsLowest set first n
  lowest_first set first n is of =
      let x = completed_parts first is.completed in
      record {
        lower = λ a y r less at back out. absurd (let h = is.below a less (completed_by a y r at back) in cc);
        there = record { call = first; made = x.0; returned = x.1; at = x.2; is = x.3; outside = is.outside; number = sym (of x.0 x.1 x.2 x.3) };
      }

  pub lowest_next : (set : List Bool) (c least m : ℕ) → IsLowest set c least → IsLesserReturn p set c least m → IsLowest set (c + 1) m
  lowest_next set c least m low lesser = record {
    lower = λ a x r less at is out. elim (below_or_last a c less) [
      | inl early ↦ (let h = low.lower a x r early at is out in let b = lesser.below in omega (arith, h, b))
      | inr same ↦ lesser.own x r (subst (λ (k : ℕ). slice_get p.calls k ≡ Some x) same at) is (subst (λ (k : ℕ). has set k ≡ false) same out)
    ];
    there = elim lesser.there [ inl e ↦ subst (λ (n : ℕ). IsReturnLeft p set n) (sym e) low.there | inr h ↦ h ];
  }

  pub least_end : (set : List Bool) (c least : ℕ) → IsLowest set c least → length p.calls ≤ c → IsLeastReturn p set least
  least_end set c least low past = record {
    lower = λ a x r at is out. low.lower a x r (let h = call_within a x at in omega (arith, h, past)) at is out;
    there = low.there;
  }

  pub least_late : (set : List Bool) (c least : ℕ) → IsLowest set c least → IsLater p c least → IsLeastReturn p set least
  least_late set c least low later = record {
    lower = λ a x r e is out. elim (least_or a c) [
      | inl less ↦ low.lower a x r less e is out
      | inr more ↦ (let f = later.timed.returned a x r e is in let g : later.made.called ≤ x.called = called_after a x e more in let l = later.late in omega (arith, f, g, l))
    ];
    there = low.there;
  }
    where
      called_after : (a : ℕ) (x : ProblemCall Op Reply) → slice_get p.calls a ≡ Some x → c ≤ a → later.made.called ≤ x.called
      called_after a x e more = elim (least_or c a) [
        | inl less ↦ (let h = later.timed.called c a later.made x less later.at e in omega (arith, h))
        | inr back ↦ (let same : c ≡ a = omega (arith, more, back) in let f : slice_get p.calls a ≡ Some later.made = subst (λ (n : ℕ). slice_get p.calls n ≡ Some later.made) same later.at in let q : later.made ≡ x = cc in subst (λ (n : ProblemCall Op Reply). later.made.called ≤ n.called) q (omega arith))
      ]

  pub past_begins : (set : List Bool) (s : State) (d : ℕ) → length p.calls ≤ d → NoneBegins p set s d
  past_begins set s d past l k = let w = next_within p s k.continuation.legal.1.0 d k.continuation.legal.1.1 in absurd (omega (arith, w, past))
