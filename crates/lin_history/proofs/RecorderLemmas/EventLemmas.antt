-- The calls that a list of events makes, and whether a process by itself stays sequential, with one event more.
use Rattle.std.proofs.Common.{◌≡◌, ℕ, ◌+◌, ◌==◌, ◌||◌, Bool, true, false, cond, Option, Some, None, List, [], ◌∷◌, ◌++◌, map, find, refl, sym, ap, subst, ◌∙◌, arith, eqb, append-nil, inl, inr, if◌then◌else◌}
use Rattle.std.proofs.lemmas.Bool.{eq-eqb}
use Rattle.std.proofs.lemmas.Bool.Decides.{eqb_tells}
use Rattle.std.proofs.lemmas.List.Elements.{filter-append}
use Rattle.lin_history.specs.Recorder.Events.{Event, calls, returns_, fails, ends, Made, Outcome, pending, unknown, failed, replied, process_of, events_of, IsSequential, IsWellFormed, numbered, outcome_after, made_from}
use Rattle.lin_history.specs.Recorder.Recording.{is_pending, is_unknown, is_last_of, settled}

pub eq_sym : (a b : ℕ) → (a == b) ≡ (b == a)
eq_sym a b =
    elim (eqb_tells a b) [
      | inl h ↦ (let e = h.1 in rw e refl)
      | inr h ↦ elim (eqb_tells b a) [ inl k ↦ absurd (h.1 (sym k.1)) | inr k ↦ h.0 ∙ sym k.0 ]
    ]

-- how a call went on, where an event of its process comes last that says so
abbrev then_ : {Reply : Type 0} → Bool → Outcome Reply → Outcome Reply → Outcome Reply
then_ true o pending = o
then_ false o pending = pending
then_ b o unknown = unknown
then_ b o failed = failed
then_ b o (replied n r) = replied n r

chosen : {Reply : Type 0} (b : Bool) (x : Outcome Reply) → (if b then x else pending) ≡ then_ b x pending
chosen true x = refl
chosen false x = refl

-- where a process stands: no call is pending, or one on this object, or it has ended
pub data Stage : Type 0 where
  idle : Stage
  busy : ℕ → Stage
  over : Stage

-- the event may come next
abbrev pub Next : {Op Reply : Type 0} → Stage → Event Op Reply → Type 0
Next idle (calls p o op) = Unit {0}
Next (busy a) (returns_ p o r) = a ≡ o
Next (busy a) (fails p o) = a ≡ o
Next (busy a) (ends p o) = a ≡ o
Next idle (returns_ p o r) = ⊥
Next idle (fails p o) = ⊥
Next idle (ends p o) = ⊥
Next (busy a) (calls p o op) = ⊥
Next over (calls p o op) = ⊥
Next over (returns_ p o r) = ⊥
Next over (fails p o) = ⊥
Next over (ends p o) = ⊥

-- where it stands after an event
abbrev stage_by : {Op Reply : Type 0} → Event Op Reply → Stage
stage_by (calls p o op) = busy o
stage_by (returns_ p o r) = idle
stage_by (fails p o) = idle
stage_by (ends p o) = over

-- the events may come one after another
abbrev From : {Op Reply : Type 0} → Stage → List (Event Op Reply) → Type 0
From s [] = Unit {0}
From s (e ∷ es) = Next s e × From (stage_by e) es

-- where it stands after the events
abbrev stage_after : {Op Reply : Type 0} → Stage → List (Event Op Reply) → Stage
stage_after s [] = s
stage_after s (e ∷ es) = stage_after (stage_by e) es

module _ {Op Reply : Type 0} where
  -- ---- the calls, with one event more

  -- a call says nothing of those before
  outcome-call : (q n : ℕ) (es : List (Event Op Reply)) (p o : ℕ) (op : Op) → outcome_after q n (es ++ calls p o op ∷ []) ≡ outcome_after q n es
  outcome-call q n [] p o op = refl
  outcome-call q n (calls a b c ∷ es) p o op = outcome-call q (n + 1) es p o op
  outcome-call q n (returns_ a b c ∷ es) p o op = ap (λ x. if a == q then replied n c else x) (outcome-call q (n + 1) es p o op)
  outcome-call q n (fails a b ∷ es) p o op = ap (λ x. if a == q then failed else x) (outcome-call q n es p o op)
  outcome-call q n (ends a b ∷ es) p o op = ap (λ x. if a == q then unknown else x) (outcome-call q n es p o op)

  abbrev made_call : ℕ → ℕ → Op → ℕ → Outcome Reply → Made Op Reply
  made_call p o op n outcome = record { process = p; object = o; op = op; called = n; outcome = outcome }

  -- one call more, pending
  pub made-call : (n number : ℕ) (es : List (Event Op Reply)) (p o : ℕ) (op : Op) → number ≡ n + numbered es
      → made_from n (es ++ calls p o op ∷ []) ≡ made_from n es ++ made_call p o op number pending ∷ []
  made-call n number [] p o op at = ap (λ k. made_call p o op k pending ∷ []) (omega (arith, at))
  made-call n number (calls a b c ∷ es) p o op at =
      ap (λ x. made_call a b c n x ∷ made_from (n + 1) (es ++ calls p o op ∷ [])) (outcome-call a (n + 1) es p o op)
      ∙ ap (λ ms. made_call a b c n (outcome_after a (n + 1) es) ∷ ms) (made-call (n + 1) number es p o op (omega (arith, at)))
  made-call n number (returns_ a b c ∷ es) p o op at = made-call (n + 1) number es p o op (omega (arith, at))
  made-call n number (fails a b ∷ es) p o op at = made-call n number es p o op at
  made-call n number (ends a b ∷ es) p o op at = made-call n number es p o op at

  -- an event at the end, of this process, after which its pending call went on so
  pub record Settles (e : Event Op Reply) (p number : ℕ) (x : Outcome Reply) : Type 0 where
    pub last : (q n : ℕ) → number ≡ n → outcome_after q n (e ∷ []) ≡ then_ (p == q) x pending
    pub none : (n : ℕ) → made_from n (e ∷ []) ≡ []

  module _ (e : Event Op Reply) (p number : ℕ) (x : Outcome Reply) (settles : Settles e p number x) where
    outcome-end : (q n : ℕ) (es : List (Event Op Reply)) → number ≡ n + numbered es → outcome_after q n (es ++ e ∷ []) ≡ then_ (p == q) x (outcome_after q n es)
    outcome-end q n [] at = settles.last q n (omega (arith, at))
    outcome-end q n (calls a b c ∷ es) at = outcome-end q (n + 1) es (omega (arith, at))
    outcome-end q n (returns_ a b c ∷ es) at =
        let rest = outcome-end q (n + 1) es (omega (arith, at)) in
        elim (a == q) as (λ t. (if t then replied n c else outcome_after q (n + 1) (es ++ e ∷ [])) ≡ then_ (p == q) x (if t then replied n c else outcome_after q (n + 1) es)) [
          | true ↦ elim (p == q) as (λ t. replied n c ≡ then_ t x (replied n c)) [ true ↦ refl | false ↦ refl ]
          | false ↦ rest
        ]
    outcome-end q n (fails a b ∷ es) at =
        let rest = outcome-end q n es at in
        elim (a == q) as (λ t. (if t then failed else outcome_after q n (es ++ e ∷ [])) ≡ then_ (p == q) x (if t then failed else outcome_after q n es)) [
          | true ↦ elim (p == q) as (λ t. failed ≡ then_ t x failed) [ true ↦ refl | false ↦ refl ]
          | false ↦ rest
        ]
    outcome-end q n (ends a b ∷ es) at =
        let rest = outcome-end q n es at in
        elim (a == q) as (λ t. (if t then unknown else outcome_after q n (es ++ e ∷ [])) ≡ then_ (p == q) x (if t then unknown else outcome_after q n es)) [
          | true ↦ elim (p == q) as (λ t. unknown ≡ then_ t x unknown) [ true ↦ refl | false ↦ refl ]
          | false ↦ rest
        ]

    settled-then : (q o : ℕ) (op : Op) (n : ℕ) (y : Outcome Reply) → made_call q o op n (then_ (p == q) x y) ≡ settled p x (made_call q o op n y)
    settled-then q o op n pending =
        rw (eq_sym p q) (elim (q == p) as (λ b. made_call q o op n (then_ b x pending) ≡ (if (if b then true else false) then made_call q o op n x else made_call q o op n pending)) [ true ↦ refl | false ↦ refl ])
    settled-then q o op n unknown = elim (q == p) as (λ b. made_call q o op n unknown ≡ (if (if b then false else false) then made_call q o op n x else made_call q o op n unknown)) [ true ↦ refl | false ↦ refl ]
    settled-then q o op n failed = elim (q == p) as (λ b. made_call q o op n failed ≡ (if (if b then false else false) then made_call q o op n x else made_call q o op n failed)) [ true ↦ refl | false ↦ refl ]
    settled-then q o op n (replied k r) = elim (q == p) as (λ b. made_call q o op n (replied k r) ≡ (if (if b then false else false) then made_call q o op n x else made_call q o op n (replied k r))) [ true ↦ refl | false ↦ refl ]

    -- the pending call of the process went on so
    pub made-end : (n : ℕ) (es : List (Event Op Reply)) → number ≡ n + numbered es → made_from n (es ++ e ∷ []) ≡ map (settled p x) (made_from n es)
    made-end n [] at = settles.none n
    made-end n (calls a b c ∷ es) at =
        ap (λ y. made_call a b c n y ∷ made_from (n + 1) (es ++ e ∷ [])) (outcome-end a (n + 1) es (omega (arith, at)))
        ∙ ap (λ m. m ∷ made_from (n + 1) (es ++ e ∷ [])) (settled-then a b c n (outcome_after a (n + 1) es))
        ∙ ap (λ ms. settled p x (made_call a b c n (outcome_after a (n + 1) es)) ∷ ms) (made-end (n + 1) es (omega (arith, at)))
    made-end n (returns_ a b c ∷ es) at = made-end (n + 1) es (omega (arith, at))
    made-end n (fails a b ∷ es) at = made-end n es at
    made-end n (ends a b ∷ es) at = made-end n es at

  pub return_settles : (p o number : ℕ) (r : Reply) → Settles (returns_ p o r) p number (replied number r)
  return_settles p o number r = record { last = λ q n at. subst (λ k. (if p == q then replied k r else pending) ≡ then_ (p == q) (replied number r) pending) at (chosen (p == q) (replied number r)); none = λ n. refl }

  pub fail_settles : (p o number : ℕ) → Settles (fails p o) p number failed
  fail_settles p o number = record { last = λ q n at. chosen (p == q) failed; none = λ n. refl }

  pub end_settles : (p o number : ℕ) → Settles (ends p o) p number unknown
  end_settles p o number = record { last = λ q n at. chosen (p == q) unknown; none = λ n. refl }

  pub numbered-append : (es : List (Event Op Reply)) (e : Event Op Reply) → numbered (es ++ e ∷ []) ≡ numbered es + numbered (e ∷ [])
  numbered-append [] e = omega arith
  numbered-append (calls a b c ∷ es) e = let rest = numbered-append es e in omega (arith, rest)
  numbered-append (returns_ a b c ∷ es) e = let rest = numbered-append es e in omega (arith, rest)
  numbered-append (fails a b ∷ es) e = numbered-append es e
  numbered-append (ends a b ∷ es) e = numbered-append es e

  -- ---- a process by itself, one event at a time

  from-sequential : (es : List (Event Op Reply)) → IsSequential es → From idle es
  from-sequential [] s = tt
  from-sequential (calls p o op ∷ []) s = (tt, tt)
  from-sequential (calls p o op ∷ returns_ q on r ∷ es) s = (tt, (s.0, from-sequential es s.1))
  from-sequential (calls p o op ∷ fails q on ∷ es) s = (tt, (s.0, from-sequential es s.1))
  from-sequential (calls p o op ∷ ends q on ∷ []) s = (tt, (s, tt))
  from-sequential (calls p o op ∷ ends q on ∷ e ∷ es) s = absurd s
  from-sequential (calls p o op ∷ calls q on op' ∷ es) s = absurd s
  from-sequential (returns_ p o r ∷ es) s = absurd s
  from-sequential (fails p o ∷ es) s = absurd s
  from-sequential (ends p o ∷ es) s = absurd s

  -- nothing comes after the end
  over_next : (e : Event Op Reply) → Next over e → ⊥
  over_next (calls p o op) f = f
  over_next (returns_ p o r) f = f
  over_next (fails p o) f = f
  over_next (ends p o) f = f

  sequential-from : (es : List (Event Op Reply)) → From idle es → IsSequential es
  sequential-from [] s = tt
  sequential-from (calls p o op ∷ []) s = tt
  sequential-from (calls p o op ∷ returns_ q on r ∷ es) s = (s.1.0, sequential-from es s.1.1)
  sequential-from (calls p o op ∷ fails q on ∷ es) s = (s.1.0, sequential-from es s.1.1)
  sequential-from (calls p o op ∷ ends q on ∷ []) s = s.1.0
  sequential-from (calls p o op ∷ ends q on ∷ e ∷ es) s = absurd (over_next e s.1.1.0)
  sequential-from (calls p o op ∷ calls q on op' ∷ es) s = absurd s.1.0
  sequential-from (returns_ p o r ∷ es) s = absurd s.0
  sequential-from (fails p o ∷ es) s = absurd s.0
  sequential-from (ends p o ∷ es) s = absurd s.0

  from-append : (s : Stage) (es : List (Event Op Reply)) (e : Event Op Reply) → From s es → Next (stage_after s es) e → From s (es ++ e ∷ [])
  from-append s [] e f x = (x, tt)
  from-append s (d ∷ es) e f x = (f.0, from-append (stage_by d) es e f.1 x)

  append-from : (s : Stage) (es : List (Event Op Reply)) (e : Event Op Reply) → From s (es ++ e ∷ []) → Next (stage_after s es) e
  append-from s [] e f = f.0
  append-from s (d ∷ es) e f = append-from (stage_by d) es e f.1

  -- ---- where a process stands, by the calls that it made

  -- by its call that has neither returned nor failed
  abbrev pub stage_of : Option (Made Op Reply) → Stage
  stage_of None = idle
  stage_of (Some m) = if is_unknown m.outcome then over else busy m.object

  abbrev stands : ℕ → ℕ → List (Event Op Reply) → Stage
  stands p n es = stage_of (find (is_last_of p) (made_from n es))

  -- after a call on this object that goes on so
  abbrev goes : ℕ → ℕ → ℕ → List (Event Op Reply) → Outcome Reply → Stage
  goes p o n es pending = busy o
  goes p o n es unknown = over
  goes p o n es failed = stands p n es
  goes p o n es (replied k r) = stands p n es

  -- from this stage on, where the call after which it is busy is followed by the events with these numbers
  abbrev stage_from : Stage → ℕ → ℕ → ℕ → List (Event Op Reply) → Stage
  stage_from idle p m n es = stands p n es
  stage_from (busy o) p m n es = goes p o n es (outcome_after p m es)
  stage_from over p m n es = over

  -- the first call of the process
  head_own : (p o : ℕ) (op : Op) (n k : ℕ) (es : List (Event Op Reply)) (x : Outcome Reply)
      → stage_of (cond (is_pending x || is_unknown x) (Some (made_call p o op n x)) (find (is_last_of p) (made_from k es))) ≡ goes p o k es x
  head_own p o op n k es pending = refl
  head_own p o op n k es unknown = refl
  head_own p o op n k es failed = refl
  head_own p o op n k es (replied j r) = refl

  -- a call of another process
  head_other : (p q a o : ℕ) (op : Op) (n : ℕ) (es : List (Event Op Reply)) (x : Outcome Reply) → (q == p) ≡ false → goes p a n (calls q o op ∷ es) x ≡ goes p a (n + 1) es x
  head_other p q a o op n es pending other = refl
  head_other p q a o op n es unknown other = refl
  head_other p q a o op n es failed other = rw other refl
  head_other p q a o op n es (replied j r) other = rw other refl

  -- another event says nothing of the calls before, but for the numbers
  stage_is : (s : Stage) (p m n : ℕ) (es : List (Event Op Reply)) → From s (events_of p es) → stage_from s p m n es ≡ stage_after s (events_of p es)
  stage_is idle p m n [] f = refl
  stage_is (busy o) p m n [] f = refl
  stage_is over p m n [] f = refl
  stage_is idle p m n (calls q o op ∷ es) f =
      elim (eqb_tells q p) [
        | inl h ↦ (
            let rest = stage_is (busy o) p (n + 1) (n + 1) es (rw h.0 at f).1 in
            let P : ℕ → Type 0 = λ x. stage_of (cond (is_pending (outcome_after x (n + 1) es) || is_unknown (outcome_after x (n + 1) es)) (Some (made_call q o op n (outcome_after q (n + 1) es))) (find (is_last_of p) (made_from (n + 1) es))) ≡ stage_after (busy o) (events_of p es) in
            let Q : ℕ → Type 0 = λ x. stage_of (cond (is_pending (outcome_after p (n + 1) es) || is_unknown (outcome_after p (n + 1) es)) (Some (made_call x o op n (outcome_after x (n + 1) es))) (find (is_last_of p) (made_from (n + 1) es))) ≡ stage_after (busy o) (events_of p es) in
            let own = head_own p o op n (n + 1) es (outcome_after p (n + 1) es) ∙ rest in
            rw h.0 (subst P (sym h.1) (subst Q (sym h.1) own)))
        | inr h ↦ (
            let rest = stage_is idle p m (n + 1) es (rw h.0 at f) in
            rw h.0 rest)
      ]
  stage_is (busy a) p m n (calls q o op ∷ es) f =
      elim (eqb_tells q p) [
        | inl h ↦ (let g = rw h.0 at f in absurd g.0)
        | inr h ↦ (
            let rest = stage_is (busy a) p (m + 1) (n + 1) es (rw h.0 at f) in
            head_other p q a o op n es (outcome_after p (m + 1) es) h.0 ∙ rw h.0 rest)
      ]
  stage_is over p m n (calls q o op ∷ es) f =
      elim (eqb_tells q p) [
        | inl h ↦ (let g = rw h.0 at f in absurd g.0)
        | inr h ↦ (let rest = stage_is over p m n es (rw h.0 at f) in rw h.0 rest)
      ]
  stage_is idle p m n (returns_ q o r ∷ es) f =
      elim (eqb_tells q p) [
        | inl h ↦ (let g = rw h.0 at f in absurd g.0)
        | inr h ↦ (let rest = stage_is idle p m (n + 1) es (rw h.0 at f) in rw h.0 rest)
      ]
  stage_is (busy a) p m n (returns_ q o r ∷ es) f =
      elim (eqb_tells q p) [
        | inl h ↦ (let g = rw h.0 at f in rw h.0 (stage_is idle p m (n + 1) es g.1))
        | inr h ↦ (let rest = stage_is (busy a) p (m + 1) (n + 1) es (rw h.0 at f) in rw h.0 rest)
      ]
  stage_is over p m n (returns_ q o r ∷ es) f =
      elim (eqb_tells q p) [
        | inl h ↦ (let g = rw h.0 at f in absurd g.0)
        | inr h ↦ (let rest = stage_is over p m n es (rw h.0 at f) in rw h.0 rest)
      ]
  stage_is idle p m n (fails q o ∷ es) f =
      elim (eqb_tells q p) [
        | inl h ↦ (let g = rw h.0 at f in absurd g.0)
        | inr h ↦ (let rest = stage_is idle p m n es (rw h.0 at f) in rw h.0 rest)
      ]
  stage_is (busy a) p m n (fails q o ∷ es) f =
      elim (eqb_tells q p) [
        | inl h ↦ (let g = rw h.0 at f in rw h.0 (stage_is idle p m n es g.1))
        | inr h ↦ (let rest = stage_is (busy a) p m n es (rw h.0 at f) in rw h.0 rest)
      ]
  stage_is over p m n (fails q o ∷ es) f =
      elim (eqb_tells q p) [
        | inl h ↦ (let g = rw h.0 at f in absurd g.0)
        | inr h ↦ (let rest = stage_is over p m n es (rw h.0 at f) in rw h.0 rest)
      ]
  stage_is idle p m n (ends q o ∷ es) f =
      elim (eqb_tells q p) [
        | inl h ↦ (let g = rw h.0 at f in absurd g.0)
        | inr h ↦ (let rest = stage_is idle p m n es (rw h.0 at f) in rw h.0 rest)
      ]
  stage_is (busy a) p m n (ends q o ∷ es) f =
      elim (eqb_tells q p) [
        | inl h ↦ (let g = rw h.0 at f in rw h.0 (stage_is over p m n es g.1))
        | inr h ↦ (let rest = stage_is (busy a) p m n es (rw h.0 at f) in rw h.0 rest)
      ]
  stage_is over p m n (ends q o ∷ es) f =
      elim (eqb_tells q p) [
        | inl h ↦ (let g = rw h.0 at f in absurd g.0)
        | inr h ↦ (let rest = stage_is over p m n es (rw h.0 at f) in rw h.0 rest)
      ]

  -- ---- what may come next

  events_of-append : (p : ℕ) (es : List (Event Op Reply)) (e : Event Op Reply) → events_of p (es ++ e ∷ []) ≡ events_of p es ++ events_of p (e ∷ [])
  events_of-append p es e = filter-append (λ x. process_of x == p) es (e ∷ [])

  -- each process stays sequential where the event's own may have it next
  extended : (es : List (Event Op Reply)) (e : Event Op Reply) → IsWellFormed es → Next (stage_after idle (events_of (process_of e) es)) e → IsWellFormed (es ++ e ∷ [])
  extended es e w next p =
      elim (eqb_tells (process_of e) p) [
        | inl h ↦ (
            let P : ℕ → Type 0 = λ x. Next (stage_after idle (events_of x es)) e in
            let here = from-append idle (events_of p es) e (from-sequential (events_of p es) (w p)) (subst P h.1 next) in
            rw (events_of-append p es e, h.0) (sequential-from (events_of p es ++ e ∷ []) here))
        | inr h ↦ rw (events_of-append p es e, h.0, append-nil (events_of p es)) (w p)
      ]

  -- and not where it may not
  allowed : (es : List (Event Op Reply)) (e : Event Op Reply) → IsWellFormed (es ++ e ∷ []) → Next (stage_after idle (events_of (process_of e) es)) e
  allowed es e w =
      let own : eqb (process_of e) (process_of e) ≡ true = eq-eqb (process_of e) (process_of e) refl in
      let here : IsSequential (events_of (process_of e) es ++ e ∷ []) = rw (events_of-append (process_of e) es e, own) at (w (process_of e)) in
      append-from idle (events_of (process_of e) es) e (from-sequential (events_of (process_of e) es ++ e ∷ []) here)

  module _ (es : List (Event Op Reply)) (w : IsWellFormed es) (e : Event Op Reply) where
    stage_here : stage_of (find (is_last_of (process_of e)) (made_from 1 es)) ≡ stage_after idle (events_of (process_of e) es)
    stage_here = stage_is idle (process_of e) 0 1 es (from-sequential (events_of (process_of e) es) (w (process_of e)))

    -- the event may come next where its process may have it at its stage
    pub may_follow : Next (stage_of (find (is_last_of (process_of e)) (made_from 1 es))) e → IsWellFormed (es ++ e ∷ [])
    may_follow next = extended es e w (subst (λ (s : Stage). Next s e) stage_here next)

    -- and only there
    pub follows_by : IsWellFormed (es ++ e ∷ []) → Next (stage_of (find (is_last_of (process_of e)) (made_from 1 es))) e
    follows_by after = subst (λ (s : Stage). Next s e) (sym stage_here) (allowed es e after)
