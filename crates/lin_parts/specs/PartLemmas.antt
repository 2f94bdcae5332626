-- The runs of a problem of some calls, and those of the whole.
use Rattle.std.proofs.Common.{◌≡◌, ℕ, zero, suc, ◌<◌, Option, Some, None, List, [], ◌∷◌, ◌++◌, length, IsSome, ◌⊎◌, inl, inr, refl, sym, ◌∙◌, ap, subst, arith}
use Rattle.std.specs.Prelude.{IsSomeAnd}
use Rattle.std.specs.List.{slice_get}
use Rattle.std.proofs.lemmas.Option.{slice_get_cases}
use Rattle.lin_history.specs.declared.problems.problem.ProblemCall.{ProblemCall}
use Rattle.lin_history.specs.OptionLemmas.{some_and, some_more}
use Rattle.lin_history.specs.Problems.Lists.{In, IsDistinct, IsUpTo}
use Rattle.lin_history.specs.Problems.ListLemmas.{has_none}
use Rattle.lin_history.specs.Problems.Problem.{Problem}
use Rattle.lin_history.specs.Problems.LegalLists.{next, after_call, Legal}
use Rattle.lin_history.specs.Problems.Precedence.{Before, IsCompleted}
use Rattle.lin_history.specs.Problems.Linearizations.{IsRun, IsLinearization}
use Rattle.lin_history.specs.Locality.OrderLemmas.{KeepsTime, keeps_time, earlier}
use Rattle.lin_search.specs.FirstCallLemmas.{next_within}
use Rattle.lin_parts.specs.Parts.{ArePart, part_of, name, named}

pub three : (i j : ℕ) → (i < j) ⊎ ((i ≡ j) ⊎ (j < i))
three i j = grind arith

-- ---- names

pub in_named : (kept : List ℕ) (i : ℕ) (l : List ℕ) → In i l → In (name kept i) (named kept l)
in_named kept i [] h = absurd h
in_named kept i (j ∷ l) h = elim h [ inl e ↦ inl (ap (name kept) e) | inr more ↦ inr (in_named kept i l more) ]

pub named_in : (kept : List ℕ) (c : ℕ) (l : List ℕ) → In c (named kept l) → (i : ℕ) × In i l × (c ≡ name kept i)
named_in kept c [] h = absurd h
named_in kept c (j ∷ l) h = elim h [
  | inl e ↦ (j, inl refl, e)
  | inr more ↦ (let r = named_in kept c l more in (r.0, inr r.1, r.2))
]

pub named_append : (kept xs ys : List ℕ) → named kept (xs ++ ys) ≡ named kept xs ++ named kept ys
named_append kept [] ys = refl
named_append kept (x ∷ xs) ys = ap (λ (l : List ℕ). name kept x ∷ l) (named_append kept xs ys)

pub named_length : (kept l : List ℕ) → length (named kept l) ≡ length l
named_length kept [] = refl
named_length kept (x ∷ xs) = ap suc (named_length kept xs)

pub index_in : (kept : List ℕ) (c : ℕ) → In c kept → (i : ℕ) × (i < length kept) × (name kept i ≡ c)
index_in [] c h = absurd h
index_in (d ∷ ds) c h = elim h [
  | inl e ↦ (0, omega arith, sym e)
  | inr more ↦ (let r = index_in ds c more in (suc r.0, (let b = r.1 in omega (arith, b)), r.2))
]

pub name_in : (kept : List ℕ) (i : ℕ) → i < length kept → In (name kept i) kept
name_in [] i h = absurd (omega (arith, h))
name_in (d ∷ ds) zero h = inl refl
name_in (d ∷ ds) (suc i) h = inr (name_in ds i (omega (arith, h)))

-- the list, by its calls' numbers in the part
pub unnamed : (kept l : List ℕ) → ((c : ℕ) → In c l → In c kept) → (m : List ℕ) × (named kept m ≡ l) × ((i : ℕ) → In i m → i < length kept)
unnamed kept [] inside = ([], refl, λ i h. absurd h)
unnamed kept (c ∷ cs) inside =
    let first = index_in kept c (inside c (inl refl)) in
    let rest = unnamed kept cs (λ d h. inside d (inr h)) in
    (first.0 ∷ rest.0, both first.0 rest.0 first.2 rest.1, below first.0 rest.0 first.1 rest.2)
  where
    both : (i : ℕ) (m : List ℕ) → name kept i ≡ c → named kept m ≡ cs → named kept (i ∷ m) ≡ c ∷ cs
    both i m e f = cc

    below : (i : ℕ) (m : List ℕ) → i < length kept → ((j : ℕ) → In j m → j < length kept) → (j : ℕ) → In j (i ∷ m) → j < length kept
    below i m h k j there = elim there [ inl e ↦ rw e h | inr more ↦ k j more ]

module _ (kept : List ℕ) (rises : (i j : ℕ) → i < j → j < length kept → name kept i < name kept j) where
  pub one_name : (i j : ℕ) → i < length kept → j < length kept → name kept i ≡ name kept j → i ≡ j
  one_name i j h k e = elim (three i j) [
    | inl a ↦ absurd (let r = rises i j a k in omega (arith, r, e))
    | inr (inl a) ↦ a
    | inr (inr a) ↦ absurd (let r = rises j i a h in omega (arith, r, e))
  ]

  distinct_back : (l : List ℕ) → IsDistinct (named kept l) → IsDistinct l
  distinct_back [] d = tt
  distinct_back (i ∷ l) d = ((λ h. d.0 (in_named kept i l h)), distinct_back l d.1)

  pub distinct_named : (l : List ℕ) → ((i : ℕ) → In i l → i < length kept) → IsDistinct l → IsDistinct (named kept l)
  distinct_named [] below d = tt
  distinct_named (i ∷ l) below d = (fresh, distinct_named l (λ j h. below j (inr h)) d.1)
    where
      fresh : In (name kept i) (named kept l) → ⊥
      fresh h =
          let r = named_in kept (name kept i) l h in
          d.0 (subst (λ (j : ℕ). In j l) (sym (one_name i r.0 (below i (inl refl)) (below r.0 (inr r.1)) r.2)) r.1)

  -- names keep the order
  pub up_to_named : (l m : List ℕ) → ((i : ℕ) → In i m → i < length kept) → IsUpTo l m → IsUpTo (named kept l) (named kept m)
  up_to_named [] m below h = tt
  up_to_named (i ∷ l) [] below h = h
  up_to_named (i ∷ l) (j ∷ m) below h = elim h [
    | inl less ↦ inl (rises i j less (below j (inl refl)))
    | inr same ↦ inr (ap (name kept) same.0, up_to_named l m (λ k there. below k (inr there)) same.1)
  ]

module _ {State Op Reply : Type 0} (p : Problem State Op Reply) where
  -- calls of a legal list are there
  pub legal_calls : (l : List ℕ) (s t : State) → Legal p s l t → (i : ℕ) → In i l → i < length p.calls
  legal_calls [] s t k i h = absurd h
  legal_calls (j ∷ l) s t k i h = elim h [
    | inl e ↦ rw e (next_within p s k.0 j k.1)
    | inr more ↦ legal_calls l k.0 t k.2 i more
  ]

  pub there_below : (c : ℕ) (x : ProblemCall Op Reply) → slice_get p.calls c ≡ Some x → c < length p.calls
  there_below c x e = elim (slice_get_cases p.calls c).1 [ inl k ↦ k.1 | inr q ↦ absurd (let e' = rw q.1 at e in cc) ]

  -- what precedes, and what it precedes, is there
  pub before_there : (i j : ℕ) → Before p i j → (i < length p.calls) × (j < length p.calls)
  before_there i j h =
      let a = some_and (slice_get p.calls i) _ h in
      let r = some_and a.0.returned _ a.2 in
      let b = some_and (slice_get p.calls j) _ r.2 in
      (there_below i a.0 a.1, there_below j b.0 b.1)

  pub completed_there : (i : ℕ) → IsCompleted p i → i < length p.calls
  completed_there i h = let a = some_and (slice_get p.calls i) _ h in there_below i a.0 a.1

  pub completed_of : (a b : ℕ) → Before p a b → IsCompleted p a
  completed_of a b before = some_more (slice_get p.calls a) _ _ (λ x q. some_of x.returned _ q) before
    where
      some_of : {A : Type 0} (o : Option A) (Q : A → Type 0) → IsSomeAnd o Q → IsSome o
      some_of None Q q = absurd q
      some_of (Some x) Q q = refl

module _ {State Op Reply : Type 0} (p : Problem State Op Reply) (kept : List ℕ) (calls : List (ProblemCall Op Reply)) (part : ArePart p kept calls) where
  abbrev Q : Problem State Op Reply
  Q = part_of p calls

  within : (i : ℕ) → i < length calls → i < length kept
  within i h = let e = part.count in omega (arith, h, e)

  pub next_named : (s : State) (i : ℕ) → i < length kept → next Q s i ≡ next p s (name kept i)
  next_named s i h = ap (after_call p s) (part.same i h)

  pub legal_named : (l : List ℕ) (s t : State) → Legal Q s l t → Legal p s (named kept l) t
  legal_named [] s t k = k
  legal_named (i ∷ l) s t k = (k.0, sym (next_named s i (within i (next_within Q s k.0 i k.1))) ∙ k.1, legal_named l k.0 t k.2)

  legal_back : (l : List ℕ) (s t : State) → ((i : ℕ) → In i l → i < length kept) → Legal p s (named kept l) t → Legal Q s l t
  legal_back [] s t below k = k
  legal_back (i ∷ l) s t below k = (k.0, next_named s i (below i (inl refl)) ∙ k.1, legal_back l k.0 t (λ j h. below j (inr h)) k.2)

  before_named : (i j : ℕ) → Before Q i j → Before p (name kept i) (name kept j)
  before_named i j h =
      let b = before_there Q i j h in
      rw (part.same i (within i b.0), part.same j (within j b.1)) at h

  pub before_back : (i j : ℕ) → i < length kept → j < length kept → Before p (name kept i) (name kept j) → Before Q i j
  before_back i j hi hj h = rw (part.same i hi, part.same j hj) h

  completed_named : (i : ℕ) → IsCompleted Q i → IsCompleted p (name kept i)
  completed_named i h = rw (part.same i (within i (completed_there Q i h))) at h

  pub completed_back : (i : ℕ) → i < length kept → IsCompleted p (name kept i) → IsCompleted Q i
  completed_back i hi h = rw (part.same i hi) h

  pub keeps_named : (l : List ℕ) → ((i : ℕ) → In i l → i < length kept) → KeepsTime Q l → KeepsTime p (named kept l)
  keeps_named [] below k = tt
  keeps_named (i ∷ l) below k = (here, keeps_named l (λ j h. below j (inr h)) k.1)
    where
      here : (d : ℕ) → In d (named kept (i ∷ l)) → Before p d (name kept i) → ⊥
      here d there before =
          let r = named_in kept d (i ∷ l) there in
          k.0 r.0 r.1 (before_back r.0 i (below r.0 r.1) (below i (inl refl)) (subst (λ (c : ℕ). Before p c (name kept i)) r.2 before))

  keeps_back : (l : List ℕ) → KeepsTime p (named kept l) → KeepsTime Q l
  keeps_back [] k = tt
  keeps_back (i ∷ l) k = ((λ d there before. k.0 (name kept d) (in_named kept d (i ∷ l) there) (before_named d i before)), keeps_back l k.1)

  -- calls of a legal list are there
  pub legal_there : (l : List ℕ) (s t : State) → Legal Q s l t → (i : ℕ) → In i l → i < length kept
  legal_there [] s t k i h = absurd h
  legal_there (j ∷ l) s t k i h = elim h [
    | inl e ↦ rw e (within j (next_within Q s k.0 j k.1))
    | inr more ↦ legal_there l k.0 t k.2 i more
  ]

  -- A linearization of the part is a run of the whole, where the part has with each call all that precede it.
  pub run_of_part : ((a b : ℕ) → In b kept → Before p a b → In a kept) → (l : List ℕ) → IsLinearization Q l → IsRun p (named kept l)
  run_of_part closed l lin = record {
    distinct = distinct_named kept part.rises l below lin.continuation.distinct;
    outside = λ c h. has_none (length p.calls) c;
    legal = (lin.continuation.legal.0, legal_named l p.start lin.continuation.legal.0 lin.continuation.legal.1);
    ordered = λ early b late e a before. inr (earlier p (named kept l) early b late keeps e a before (there early b late e a before));
  }
    where
      below : (i : ℕ) → In i l → i < length kept
      below = legal_there l p.start lin.continuation.legal.0 lin.continuation.legal.1

      keeps : KeepsTime p (named kept l)
      keeps = keeps_named l below (keeps_time Q l lin.continuation)

      in_middle : (b : ℕ) (early late : List ℕ) → In b (early ++ b ∷ late)
      in_middle b [] late = inl refl
      in_middle b (x ∷ xs) late = inr (in_middle b xs late)

      there : (early : List ℕ) (b : ℕ) (late : List ℕ) → named kept l ≡ early ++ b ∷ late → (a : ℕ) → Before p a b → In a (named kept l)
      there early b late e a before =
          let rb = named_in kept b l (subst (In b) (sym e) (in_middle b early late)) in
          let b_kept : In b kept = subst (λ (c : ℕ). In c kept) (sym rb.2) (name_in kept rb.0 (below rb.0 rb.1)) in
          let ra = index_in kept a (closed a b b_kept before) in
          let pre : Before p (name kept ra.0) (name kept rb.0) = subst (λ (c : ℕ). Before p (name kept ra.0) c) rb.2 (subst (λ (c : ℕ). Before p c b) (sym ra.2) before) in
          let both = before_back ra.0 rb.0 ra.1 (below rb.0 rb.1) pre in
          elim (lin.complete ra.0 (completed_of Q ra.0 rb.0 both)) [
            | inl f ↦ absurd (let none = has_none (length calls) ra.0 in cc)
            | inr f ↦ subst (λ (c : ℕ). In c (named kept l)) ra.2 (in_named kept ra.0 l f)
          ]

  -- Distinct calls of the part alone, legal and in the order of real time, with each completed one, are a linearization of
  -- the part.
  pub part_of_list : (r : List ℕ) → IsDistinct r → ((t : State) × Legal p p.start r t) → KeepsTime p r → ((c : ℕ) → In c r → In c kept) → ((c : ℕ) → In c kept → IsCompleted p c → In c r)
      → (l : List ℕ) × (named kept l ≡ r) × ((i : ℕ) → In i l → i < length kept) × IsLinearization Q l
  part_of_list r distinct legal time inside all = (
    l,
    is,
    below,
    record {
      continuation = record {
        distinct = distinct_back kept part.rises l (rw is distinct);
        outside = λ c h. has_none (length calls) c;
        legal = (legal.0, legal_back l p.start legal.0 below (rw is legal.1));
        ordered = λ early b late e a before. inr (earlier Q l early b late keeps e a before (complete a (completed_of Q a b before)));
      };
      complete = λ c done. inr (complete c done);
    },
  )
    where
      l : List ℕ
      l = (unnamed kept r inside).0

      is : named kept l ≡ r
      is = (unnamed kept r inside).1

      below : (i : ℕ) → In i l → i < length kept
      below = (unnamed kept r inside).2

      keeps : KeepsTime Q l
      keeps = keeps_back l (rw is time)

      complete : (c : ℕ) → IsCompleted Q c → In c l
      complete c done =
          let h : c < length kept = within c (completed_there Q c done) in
          let there : In (name kept c) (named kept l) = rw is (all (name kept c) (name_in kept c h) (completed_named c done)) in
          let i = named_in kept (name kept c) l there in
          subst (λ (d : ℕ). In d l) (sym (one_name kept part.rises c i.0 h (below i.0 i.1) i.2)) i.1

  -- A run of the whole with calls of the part alone, that has each completed one, is a linearization of the part.
  pub part_of_run : (r : List ℕ) → IsRun p r → ((c : ℕ) → In c r → In c kept) → ((c : ℕ) → In c kept → IsCompleted p c → In c r)
      → (l : List ℕ) × (named kept l ≡ r) × ((i : ℕ) → In i l → i < length kept) × IsLinearization Q l
  part_of_run r run inside all = part_of_list r run.distinct run.legal (keeps_time p r run) inside all
