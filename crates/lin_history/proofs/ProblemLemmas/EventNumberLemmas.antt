-- The numbers of a problem's events: after one event more, and of the part of a history on one object.
use Rattle.std.proofs.Common.{◌≡◌, ◌≢◌, ℕ, zero, suc, ◌+◌, ◌<◌, ◌≤◌, ◌==◌, Bool, true, false, cond, Option, Some, None, List, [], ◌∷◌, ◌++◌, length, length-append, map, filter, set, ◌⊎◌, inl, inr, refl, sym, ap, ◌∙◌, arith, if◌then◌else◌}
use Rattle.std.specs.List.{slice_get}
use Rattle.std.proofs.lemmas.List.{length-set}
use Rattle.std.proofs.lemmas.Option.{slice_get_cases}
use Rattle.lin_history.specs.declared.limits.TheConstants.{MAX_CALLS_ON_OBJECT}
use Rattle.lin_history.specs.declared.problems.problem.ProblemCall.{ProblemCall}
use Rattle.lin_history.specs.Problems.ProblemParts.{number_of, greatest_number, AreTimed, returned_in}
use Rattle.lin_history.specs.Recorder.Events.{Event, calls, returns_, fails, ends, Call, Made, Outcome, unknown, failed, replied, outcome_after, made_from, is_kept, return_in, call_of, calls_of, calls_from}
use Rattle.lin_history.specs.Recorder.Parts.{problem_call}
use Rattle.lin_history.proofs.ListLemmas.{slice_get-mapped}
use Rattle.lin_history.proofs.ProblemLemmas.NumberLemmas.{called_within, greatest_number-pushed, greatest_number-set}

module _ {A : Type 0} where
  pushed_at : (xs : List A) (y : A) (i : ℕ) (x : A) → slice_get (xs ++ y ∷ []) i ≡ Some x → (slice_get xs i ≡ Some x) ⊎ ((i ≡ length xs) × (x ≡ y))
  pushed_at [] y zero x e = inr (refl, cc)
  pushed_at [] y (suc i) x e = absurd (cc)
  pushed_at (z ∷ xs) y zero x e = inl e
  pushed_at (z ∷ xs) y (suc i) x e = elim (pushed_at xs y i x e) [ inl q ↦ inl q | inr q ↦ inr (let n = q.0 in omega (arith, n), q.1) ]

  within : (xs : List A) (i : ℕ) (x : A) → slice_get xs i ≡ Some x → i < length xs
  within [] i x e = absurd (cc)
  within (y ∷ xs) zero x e = omega arith
  within (y ∷ xs) (suc i) x e = let rest = within xs i x e in omega (arith, rest)

  set_at : (xs : List A) (i : ℕ) (y : A) (j : ℕ) (x : A) → slice_get (set xs i y) j ≡ Some x → (slice_get xs j ≡ Some x) ⊎ ((j ≡ i) × (x ≡ y))
  set_at [] i y j x e = absurd (cc)
  set_at (z ∷ xs) zero y zero x e = inr (refl, cc)
  set_at (z ∷ xs) zero y (suc j) x e = inl e
  set_at (z ∷ xs) (suc i) y zero x e = inl e
  set_at (z ∷ xs) (suc i) y (suc j) x e = elim (set_at xs i y j x e) [ inl q ↦ inl q | inr q ↦ inr (let n = q.0 in omega (arith, n), q.1) ]

none_some : {A : Type 0} (o : Option A) (x : A) → o ≡ None → o ≡ Some x → ⊥
none_some o x e f = cc

module _ {Op Reply : Type 0} where
  greatest_there : (cs : List (ProblemCall Op Reply)) (i : ℕ) (x : ProblemCall Op Reply) → slice_get cs i ≡ Some x → number_of x x.returned ≤ greatest_number cs
  greatest_there [] i x e = absurd (cc)
  greatest_there (c ∷ cs) zero x e = let same : c ≡ x = cc in rw (← same) (omega arith)
  greatest_there (c ∷ cs) (suc i) x e = let rest = greatest_there cs i x e in omega (arith, rest)

  number_returned : (x : ProblemCall Op Reply) (r : ℕ × Reply) → x.returned ≡ Some r → r.0 ≤ number_of x x.returned
  number_returned x r e = rw e (omega arith)

  called_below : (cs : List (ProblemCall Op Reply)) (i : ℕ) (x : ProblemCall Op Reply) → slice_get cs i ≡ Some x → x.called ≤ greatest_number cs
  called_below cs i x e = let a = greatest_there cs i x e in let b = called_within x x.returned in omega (arith, a, b)

  returned_below : (cs : List (ProblemCall Op Reply)) (i : ℕ) (x : ProblemCall Op Reply) (r : ℕ × Reply) → slice_get cs i ≡ Some x → x.returned ≡ Some r → r.0 ≤ greatest_number cs
  returned_below cs i x r e f = let a = greatest_there cs i x e in let b = number_returned x r f in omega (arith, a, b)

  pub timed_none : AreTimed {Op = Op} {Reply = Reply} []
  timed_none = record {
    called = λ a b x y h e f. absurd (cc);
    returned = λ a x r e f. absurd (cc);
    apart = λ a b x y r e f g. absurd (cc);
  }

  -- a pending call more, whose number is greater than every number before
  module _ (cs : List (ProblemCall Op Reply)) (c : ProblemCall Op Reply) (pending : c.returned ≡ None) (late : greatest_number cs < c.called) (timed : AreTimed cs) where
    abbrev At : ℕ → ProblemCall Op Reply → Type 0
    At i x = (slice_get cs i ≡ Some x) ⊎ ((i ≡ length cs) × (x ≡ c))

    last_pending : (x : ProblemCall Op Reply) (r : ℕ × Reply) → x ≡ c → x.returned ≡ Some r → ⊥
    last_pending x r e f = none_some c.returned r pending (ap (λ (z : ProblemCall Op Reply). z.returned) (sym e) ∙ f)

    pushed_called : (a b : ℕ) (x y : ProblemCall Op Reply) → a < b → At a x → At b y → x.called < y.called
    pushed_called a b x y h (inl e) (inl f) = timed.called a b x y h e f
    pushed_called a b x y h (inl e) (inr f) = let low = called_below cs a x e in rw f.1 (omega (arith, low, late))
    pushed_called a b x y h (inr e) (inl f) = let m = e.0 in let n = within cs b y f in absurd (omega (arith, h, m, n))
    pushed_called a b x y h (inr e) (inr f) = let m = e.0 in let n = f.0 in absurd (omega (arith, h, m, n))

    pushed_returned : (a : ℕ) (x : ProblemCall Op Reply) (r : ℕ × Reply) → x.returned ≡ Some r → At a x → x.called < r.0
    pushed_returned a x r f (inl e) = timed.returned a x r e f
    pushed_returned a x r f (inr e) = absurd (last_pending x r e.1 f)

    pushed_apart : (a b : ℕ) (x y : ProblemCall Op Reply) (r : ℕ × Reply) → x.returned ≡ Some r → At a x → At b y → r.0 ≢ y.called
    pushed_apart a b x y r g (inl e) (inl f) = timed.apart a b x y r e f g
    pushed_apart a b x y r g (inl e) (inr f) = λ same. let low = returned_below cs a x r e g in let m = ap (λ (z : ProblemCall Op Reply). z.called) f.1 in omega (arith, low, late, same, m)
    pushed_apart a b x y r g (inr e) f = absurd (last_pending x r e.1 g)

    pub timed_pushed : AreTimed (cs ++ c ∷ [])
    timed_pushed = record {
      called = λ a b x y h e f. pushed_called a b x y h (pushed_at cs c a x e) (pushed_at cs c b y f);
      returned = λ a x r e f. pushed_returned a x r f (pushed_at cs c a x e);
      apart = λ a b x y r e f g. pushed_apart a b x y r g (pushed_at cs c a x e) (pushed_at cs c b y f);
    }

  pub timed_with : (cs ds : List (ProblemCall Op Reply)) (c : ProblemCall Op Reply) → ds ≡ cs ++ c ∷ [] → c.returned ≡ None → greatest_number cs < c.called → AreTimed cs → AreTimed ds
  timed_with cs ds c e pending late timed = rw e (timed_pushed cs c pending late timed)

  -- a call that has returned since, with a number greater than every number before
  module _ (cs : List (ProblemCall Op Reply)) (i : ℕ) (c : ProblemCall Op Reply) (number : ℕ) (reply : Reply) (there : slice_get cs i ≡ Some c) (late : greatest_number cs < number) (timed : AreTimed cs) where
    abbrev Was : ℕ → ProblemCall Op Reply → Type 0
    Was a x = (y : ProblemCall Op Reply) × (slice_get cs a ≡ Some y) × (x.called ≡ y.called) × ((x.returned ≡ y.returned) ⊎ (x.returned ≡ Some (number, reply)))

    was : (a : ℕ) (x : ProblemCall Op Reply) → slice_get (set cs i (record c { returned = Some (number, reply) })) a ≡ Some x → Was a x
    was a x e = elim (set_at cs i (record c { returned = Some (number, reply) }) a x e) [
      | inl q ↦ (x, q, refl, inl refl)
      | inr q ↦ (c, ap (λ (n : ℕ). slice_get cs n) q.0 ∙ there, ap (λ (z : ProblemCall Op Reply). z.called) q.1, inr (ap (λ (z : ProblemCall Op Reply). z.returned) q.1))
    ]

    first_some : (o : Option (ℕ × Reply)) (r : ℕ × Reply) → o ≡ Some (number, reply) → o ≡ Some r → number ≡ r.0
    first_some o r e f = let same : (number, reply) ≡ r = cc in ap (λ (z : ℕ × Reply). z.0) same

    still_called : (a b : ℕ) (x y : ProblemCall Op Reply) → a < b → Was a x → Was b y → x.called < y.called
    still_called a b x y h p q = let low = timed.called a b p.0 q.0 h p.1 q.1 in let m = p.2 in let n = q.2 in omega (arith, low, m, n)

    now_returned : (a : ℕ) (x : ProblemCall Op Reply) (r : ℕ × Reply) → x.returned ≡ Some r → Was a x → x.called < r.0
    now_returned a x r f p =
        let same = p.2 in
        elim p.3 [
          | inl q ↦ (let low = timed.returned a p.0 r p.1 (sym q ∙ f) in omega (arith, low, same))
          | inr q ↦ (let low = called_below cs a p.0 p.1 in let n = first_some x.returned r q f in omega (arith, low, same, late, n))
        ]

    now_apart : (a b : ℕ) (x y : ProblemCall Op Reply) (r : ℕ × Reply) → x.returned ≡ Some r → Was a x → Was b y → r.0 ≢ y.called
    now_apart a b x y r g p k =
        let same = k.2 in
        elim p.3 [
          | inl q ↦ (λ e. timed.apart a b p.0 k.0 r p.1 k.1 (sym q ∙ g) (e ∙ same))
          | inr q ↦ (λ e. let low = called_below cs b k.0 k.1 in let n = first_some x.returned r q g in omega (arith, low, same, late, n, e))
        ]

    pub timed_returned : AreTimed (set cs i (record c { returned = Some (number, reply) }))
    timed_returned = record {
      called = λ a b x y h e f. still_called a b x y h (was a x e) (was b y f);
      returned = λ a x r e f. now_returned a x r f (was a x e);
      apart = λ a b x y r e f g. now_apart a b x y r g (was a x e) (was b y f);
    }

  -- what a problem keeps of its calls, after a return
  pub stays_with_return : (cs ds : List (ProblemCall Op Reply)) (i number : ℕ) (reply : Reply) → ds ≡ returned_in cs i number reply (slice_get cs i) → i < length cs → greatest_number cs < number
      → AreTimed cs → length cs ≤ MAX_CALLS_ON_OBJECT → (number ≡ greatest_number ds) × AreTimed ds × (length ds ≤ MAX_CALLS_ON_OBJECT)
  stays_with_return cs ds i number reply e inside late timed few =
      elim (slice_get_cases cs i).1 [
        | inl q ↦ (
            let c = q.0 in
            let there = q.2 in
            let made : ds ≡ set cs i (record c { returned = Some (number, reply) }) = rw there at e in
            let same = length-set cs i (record c { returned = Some (number, reply) }) in
            rw made (sym (greatest_number-set cs i c number reply there late), timed_returned cs i c number reply there late timed, omega (arith, few, same)))
        | inr q ↦ absurd (let past = q.0 in omega (arith, past, inside))
      ]

  -- and after a call more
  pub stays_with_call : (cs ds : List (ProblemCall Op Reply)) (c : ProblemCall Op Reply) → ds ≡ cs ++ c ∷ [] → c.returned ≡ None → greatest_number cs < c.called
      → AreTimed cs → length cs < MAX_CALLS_ON_OBJECT → (c.called ≡ greatest_number ds) × AreTimed ds × (length ds ≤ MAX_CALLS_ON_OBJECT)
  stays_with_call cs ds c e pending late timed room = (
    greatest_number-pushed cs ds c e pending late,
    timed_with cs ds c e pending late timed,
    (let more = ap length e ∙ length-append cs (c ∷ []) in omega (arith, more, room)),
  )

-- ---- the part of a history on one object

-- The numbers of the elements rise strictly, and none is below n.
abbrev Rises : {A : Type 0} → (A → ℕ) → ℕ → List A → Type 0
Rises number n [] = Unit {0}
Rises number n (x ∷ xs) = (n ≤ number x) × Rises number (number x + 1) xs

module _ {A : Type 0} (number : A → ℕ) where
  rises_more : (m n : ℕ) (l : List A) → m ≤ n → Rises number n l → Rises number m l
  rises_more m n [] up r = tt
  rises_more m n (x ∷ l) up r = (let low = r.0 in omega (arith, up, low), r.1)

  rises_by : (test : A → Bool) (n : ℕ) (x : A) (l : List A) (t : Bool) → n ≤ number x → Rises number (number x + 1) (filter test l) → Rises number n (cond t (x ∷ filter test l) (filter test l))
  rises_by test n x l true low r = (low, r)
  rises_by test n x l false low r = rises_more n (number x + 1) (filter test l) (omega (arith, low)) r

  rises_filter : (test : A → Bool) (n : ℕ) (l : List A) → Rises number n l → Rises number n (filter test l)
  rises_filter test n [] r = tt
  rises_filter test n (x ∷ l) r = rises_by test n x l (test x) r.0 (rises_filter test (number x + 1) l r.1)

  rises_low : (n : ℕ) (l : List A) (i : ℕ) (x : A) → Rises number n l → slice_get l i ≡ Some x → n ≤ number x
  rises_low n [] i x r e = absurd (cc)
  rises_low n (y ∷ l) zero x r e = let same : y ≡ x = cc in rw (← same) r.0
  rises_low n (y ∷ l) (suc i) x r e = let rest = rises_low (number y + 1) l i x r.1 e in let low = r.0 in omega (arith, rest, low)

  rises_apart : (n : ℕ) (l : List A) (i j : ℕ) (x y : A) → i < j → Rises number n l → slice_get l i ≡ Some x → slice_get l j ≡ Some y → number x < number y
  rises_apart n [] i j x y h r e f = absurd (cc)
  rises_apart n (z ∷ l) i zero x y h r e f = absurd (omega (arith, h))
  rises_apart n (z ∷ l) zero (suc j) x y h r e f = let same : z ≡ x = cc in let low = rises_low (number z + 1) l j y r.1 f in let m = ap number same in omega (arith, low, m)
  rises_apart n (z ∷ l) (suc i) (suc j) x y h r e f = rises_apart (number z + 1) l i j x y (omega (arith, h)) r.1 e f

module _ {A : Type 0} (test : A → Bool) where
  filtered_by : (x : A) (l : List A) (t : Bool) (i : ℕ) (y : A) → ((k : ℕ) → slice_get (filter test l) k ≡ Some y → (j : ℕ) × (slice_get l j ≡ Some y)) → slice_get (cond t (x ∷ filter test l) (filter test l)) i ≡ Some y → (j : ℕ) × (slice_get (x ∷ l) j ≡ Some y)
  filtered_by x l true zero y rest e = (zero, e)
  filtered_by x l true (suc i) y rest e = let q = rest i e in (suc q.0, q.1)
  filtered_by x l false i y rest e = let q = rest i e in (suc q.0, q.1)

  -- what passes a test is in the list
  pub filtered : (l : List A) (i : ℕ) (y : A) → slice_get (filter test l) i ≡ Some y → (j : ℕ) × (slice_get l j ≡ Some y)
  filtered [] i y e = absurd (cc)
  filtered (x ∷ l) i y e = filtered_by x l (test x) i y (λ k f. filtered l k y f) e

return_by : {Reply : Type 0} (b : Bool) (n : ℕ) (r : Reply) (s : ℕ × Reply) (o : Outcome Reply) → return_in (if b then replied n r else o) ≡ Some s → (s.0 ≡ n) ⊎ (return_in o ≡ Some s)
return_by {Reply = Reply} true n r s o e = let same : (n, r) ≡ s = cc in inl (ap (λ (z : ℕ × Reply). z.0) (sym same))
return_by false n r s o e = inr e

-- what is no reply tells no return
no_reply_by : {Reply : Type 0} (b : Bool) (x o : Outcome Reply) (s : ℕ × Reply) → return_in x ≡ None → return_in (if b then x else o) ≡ Some s → return_in o ≡ Some s
no_reply_by true x o s none e = absurd (cc)
no_reply_by false x o s none e = e

module _ {Op Reply : Type 0} where
  abbrev called_of : Made Op Reply → ℕ
  called_of m = m.called

  rises_events : (n : ℕ) (es : List (Event Op Reply)) → Rises called_of n (made_from n es)
  rises_events n [] = tt
  rises_events n (calls p o op ∷ es) = (omega arith, rises_events (n + 1) es)
  rises_events n (returns_ p o r ∷ es) = rises_more called_of n (n + 1) (made_from (n + 1) es) (omega arith) (rises_events (n + 1) es)
  rises_events n (fails p o ∷ es) = rises_events n es
  rises_events n (ends p o ∷ es) = rises_events n es

  return_late : (p n : ℕ) (es : List (Event Op Reply)) (s : ℕ × Reply) → return_in (outcome_after p n es) ≡ Some s → n ≤ s.0
  return_late p n [] s e = absurd (cc)
  return_late p n (calls q o op ∷ es) s e = let rest = return_late p (n + 1) es s e in omega (arith, rest)
  return_late p n (returns_ q o r ∷ es) s e = elim (return_by (q == p) n r s (outcome_after p (n + 1) es) e) [
    | inl k ↦ omega (arith, k)
    | inr k ↦ (let rest = return_late p (n + 1) es s k in omega (arith, rest))
  ]
  return_late p n (fails q o ∷ es) s e = return_late p n es s (no_reply_by (q == p) failed (outcome_after p n es) s refl e)
  return_late p n (ends q o ∷ es) s e = return_late p n es s (no_reply_by (q == p) unknown (outcome_after p n es) s refl e)

  called_low : (n : ℕ) (es : List (Event Op Reply)) (i : ℕ) (x : Made Op Reply) → slice_get (made_from n es) i ≡ Some x → n ≤ x.called
  called_low n es i x e = rises_low called_of n (made_from n es) i x (rises_events n es) e

  -- each call returns after it was called
  after_call : (n : ℕ) (es : List (Event Op Reply)) (i : ℕ) (x : Made Op Reply) (s : ℕ × Reply) → slice_get (made_from n es) i ≡ Some x → return_in x.outcome ≡ Some s → x.called < s.0
  after_call n [] i x s e f = absurd (cc)
  after_call n (returns_ p o r ∷ es) i x s e f = after_call (n + 1) es i x s e f
  after_call n (fails p o ∷ es) i x s e f = after_call n es i x s e f
  after_call n (ends p o ∷ es) i x s e f = after_call n es i x s e f
  after_call n (calls p o op ∷ es) (suc i) x s e f = after_call (n + 1) es i x s e f
  after_call n (calls p o op ∷ es) zero x s e f =
      let c : Made Op Reply = record { process = p; object = o; op = op; called = n; outcome = outcome_after p (n + 1) es } in
      let same : c ≡ x = cc in
      let late = return_late p (n + 1) es s (ap (λ (z : Made Op Reply). return_in z.outcome) same ∙ f) in
      let m : n ≡ x.called = ap (λ (z : Made Op Reply). z.called) same in
      omega (arith, late, m)

  -- the return of a process is no call event
  no_call : (p n : ℕ) (es : List (Event Op Reply)) (i : ℕ) (x : Made Op Reply) (s : ℕ × Reply) → return_in (outcome_after p n es) ≡ Some s → slice_get (made_from n es) i ≡ Some x → s.0 ≢ x.called
  no_call p n [] i x s e f = absurd (cc)
  no_call p n (calls q o op ∷ es) zero x s e f = λ k.
      let c : Made Op Reply = record { process = q; object = o; op = op; called = n; outcome = outcome_after q (n + 1) es } in
      let same : c ≡ x = cc in
      let m : n ≡ x.called = ap (λ (z : Made Op Reply). z.called) same in
      let late = return_late p (n + 1) es s e in
      omega (arith, late, m, k)
  no_call p n (calls q o op ∷ es) (suc i) x s e f = no_call p (n + 1) es i x s e f
  no_call p n (returns_ q o r ∷ es) i x s e f = elim (return_by (q == p) n r s (outcome_after p (n + 1) es) e) [
    | inl k ↦ (λ m. let low = called_low (n + 1) es i x f in omega (arith, k, m, low))
    | inr k ↦ no_call p (n + 1) es i x s k f
  ]
  no_call p n (fails q o ∷ es) i x s e f = no_call p n es i x s (no_reply_by (q == p) failed (outcome_after p n es) s refl e) f
  no_call p n (ends q o ∷ es) i x s e f = no_call p n es i x s (no_reply_by (q == p) unknown (outcome_after p n es) s refl e) f

  events_apart : (n : ℕ) (es : List (Event Op Reply)) (i j : ℕ) (x y : Made Op Reply) (s : ℕ × Reply) → slice_get (made_from n es) i ≡ Some x → slice_get (made_from n es) j ≡ Some y → return_in x.outcome ≡ Some s → s.0 ≢ y.called
  events_apart n [] i j x y s e f g = absurd (cc)
  events_apart n (returns_ p o r ∷ es) i j x y s e f g = events_apart (n + 1) es i j x y s e f g
  events_apart n (fails p o ∷ es) i j x y s e f g = events_apart n es i j x y s e f g
  events_apart n (ends p o ∷ es) i j x y s e f g = events_apart n es i j x y s e f g
  events_apart n (calls p o op ∷ es) zero zero x y s e f g = λ k.
      let low = after_call n (calls p o op ∷ es) zero x s e g in
      let same : x ≡ y = cc in
      let m = ap (λ (z : Made Op Reply). z.called) same in
      omega (arith, low, k, m)
  events_apart n (calls p o op ∷ es) zero (suc j) x y s e f g =
      let c : Made Op Reply = record { process = p; object = o; op = op; called = n; outcome = outcome_after p (n + 1) es } in
      let same : c ≡ x = cc in
      no_call p (n + 1) es j y s (ap (λ (z : Made Op Reply). return_in z.outcome) same ∙ g) f
  events_apart n (calls p o op ∷ es) (suc i) zero x y s e f g = λ k.
      let c : Made Op Reply = record { process = p; object = o; op = op; called = n; outcome = outcome_after p (n + 1) es } in
      let same : c ≡ y = cc in
      let m : n ≡ y.called = ap (λ (z : Made Op Reply). z.called) same in
      let low = called_low (n + 1) es i x e in
      let late = after_call (n + 1) es i x s e g in
      omega (arith, low, late, m, k)
  events_apart n (calls p o op ∷ es) (suc i) (suc j) x y s e f g = events_apart (n + 1) es i j x y s e f g

  -- a call of the history was made
  pub was_made : (made : List (Made Op Reply)) (i : ℕ) (c : Call Op Reply) → slice_get (calls_of made) i ≡ Some c → (j : ℕ) × (m : Made Op Reply) × (slice_get made j ≡ Some m) × (call_of m ≡ c)
  was_made made i c e =
      let m = slice_get-mapped call_of (filter is_kept made) i c e in
      let f = filtered is_kept made i m.0 m.1 in
      (f.0, m.0, f.1, m.2)

  abbrev called_in : Call Op Reply → ℕ
  called_in c = c.called

  rises_mapped : (n : ℕ) (made : List (Made Op Reply)) → Rises called_of n made → Rises called_in n (map call_of made)
  rises_mapped n [] r = tt
  rises_mapped n (m ∷ made) r = (r.0, rises_mapped (m.called + 1) made r.1)

  rises_calls : (n : ℕ) (es : List (Event Op Reply)) → Rises called_in n (calls_from n es)
  rises_calls n es = rises_mapped n (filter is_kept (made_from n es)) (rises_filter called_of is_kept n (made_from n es) (rises_events n es))

  mapped : (l : List (Call Op Reply)) (i : ℕ) (x : ProblemCall Op Reply) → slice_get (map problem_call l) i ≡ Some x → (c : Call Op Reply) × (slice_get l i ≡ Some c) × (x.called ≡ c.called) × (x.returned ≡ c.returned)
  mapped [] i x e = absurd (cc)
  mapped (c ∷ l) zero x e = let same : problem_call c ≡ x = cc in (c, refl, ap (λ (z : ProblemCall Op Reply). z.called) (sym same), ap (λ (z : ProblemCall Op Reply). z.returned) (sym same))
  mapped (c ∷ l) (suc i) x e = mapped l i x e

  -- The calls of some events that pass a test.
  module _ (test : Call Op Reply → Bool) (n : ℕ) (es : List (Event Op Reply)) where
    abbrev Kept : ℕ → ProblemCall Op Reply → Type 0
    Kept i x = (c : Call Op Reply) × (slice_get (filter test (calls_from n es)) i ≡ Some c) × (x.called ≡ c.called) × (x.returned ≡ c.returned)

    kept : (i : ℕ) (x : ProblemCall Op Reply) → slice_get (map problem_call (filter test (calls_from n es))) i ≡ Some x → Kept i x
    kept i x e = mapped (filter test (calls_from n es)) i x e

    -- what was made of it
    pub record Origin (x : ProblemCall Op Reply) : Type 0 where
      pub place : ℕ
      pub made : Made Op Reply
      pub there : slice_get (made_from n es) place ≡ Some made
      pub called : x.called ≡ made.called
      pub returned : x.returned ≡ return_in made.outcome

    origin : (i : ℕ) (x : ProblemCall Op Reply) → Kept i x → Origin x
    origin i x k =
        let f = filtered test (calls_from n es) i k.0 k.1 in
        let m = was_made (made_from n es) f.0 k.0 f.1 in
        record {
          place = m.0;
          made = m.1;
          there = m.2;
          called = k.2 ∙ ap (λ (z : Call Op Reply). z.called) (sym m.3);
          returned = k.3 ∙ ap (λ (z : Call Op Reply). z.returned) (sym m.3);
        }

    kept_called : (a b : ℕ) (x y : ProblemCall Op Reply) → a < b → Kept a x → Kept b y → x.called < y.called
    kept_called a b x y h p q =
        let low = rises_apart called_in n (filter test (calls_from n es)) a b p.0 q.0 h (rises_filter called_in test n (calls_from n es) (rises_calls n es)) p.1 q.1 in
        let m = p.2 in let k = q.2 in omega (arith, low, m, k)

    kept_returned : (a : ℕ) (x : ProblemCall Op Reply) (r : ℕ × Reply) → Kept a x → x.returned ≡ Some r → x.called < r.0
    kept_returned a x r p e =
        let o = origin a x p in
        let low = after_call n es o.place o.made r o.there (sym o.returned ∙ e) in
        let m = o.called in omega (arith, low, m)

    kept_apart : (a b : ℕ) (x y : ProblemCall Op Reply) (r : ℕ × Reply) → Kept a x → Kept b y → x.returned ≡ Some r → r.0 ≢ y.called
    kept_apart a b x y r p q e = λ k.
        let o = origin a x p in
        let u = origin b y q in
        events_apart n es o.place u.place o.made u.made r o.there u.there (sym o.returned ∙ e) (k ∙ u.called)

    pub timed_events : AreTimed (map problem_call (filter test (calls_from n es)))
    timed_events = record {
      called = λ a b x y h e f. kept_called a b x y h (kept a x e) (kept b y f);
      returned = λ a x r e f. kept_returned a x r (kept a x e) f;
      apart = λ a b x y r e f g. kept_apart a b x y r (kept a x e) (kept b y f) g;
    }

  -- the same of the calls of a history
  pub timed_part : (test : Call Op Reply → Bool) (es : List (Event Op Reply)) (l : List (Call Op Reply)) (part : List (ProblemCall Op Reply)) → l ≡ calls_from 1 es → part ≡ map problem_call (filter test l) → AreTimed part
  timed_part test es l part e f = rw (f, e) (timed_events test 1 es)
