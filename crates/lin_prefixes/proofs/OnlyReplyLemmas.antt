-- Problems whose calls have the same steps and the same precedence have the same runs; and so do those of which one has replies more.
use Rattle.std.proofs.Common.{◌≡◌, ℕ, ◌+◌, ◌<◌, Bool, true, false, Option, Some, None, List, [], ◌∷◌, length, replicate, ◌⊎◌, inl, inr, refl, sym, ◌∙◌, ap, subst, arith, if◌then◌else◌}
use Rattle.std.specs.Prelude.{slice_get, ◌==◌, IsSomeAnd}
use Rattle.std.proofs.lemmas.Option.{slice_get_cases, slice_get_past, slice_get_within}
use Rattle.std.specs.Cmp.{signed_Decides}
use Rattle.lin_object.specs.declared.op.Op.{Op}
use Rattle.lin_object.specs.declared.op.Op.TheVariants.{Lock, Unlock}
use Rattle.lin_object.specs.declared.reply.Reply.{Reply}
use Rattle.lin_object.specs.declared.reply.Reply.TheVariants.{Okay, Int, Flag, Empty}
use Rattle.lin_object.specs.declared.state.ObjState.{ObjState}
use Rattle.lin_object.specs.declared.state.ObjState.TheVariants.{Register, Counter, Queue, Stack, Set, Mutex, Map}
use Rattle.lin_object.specs.contracts.reply.ReplyPartialEq.TheImpl.{eq-value as reply_eq}
use Rattle.lin_object.specs.Kinds.{after}
use Rattle.lin_history.specs.declared.problems.problem.ProblemCall.{ProblemCall}
use Rattle.lin_history.specs.Problems.Problem.{Problem}
use Rattle.lin_history.specs.Problems.ProblemParts.{ProblemParts}
use Rattle.lin_history.specs.Problems.AnyProblem.{any_problem}
use Rattle.lin_history.specs.Problems.Lists.{In}
use Rattle.lin_history.specs.Problems.LegalLists.{state_if_fits, after_call, next, Legal}
use Rattle.lin_history.specs.Problems.Precedence.{Before}
use Rattle.lin_history.specs.Problems.Continuations.{has, no_calls}
use Rattle.lin_history.specs.Problems.Linearizations.{IsRun}
use Rattle.lin_search.specs.CallSetLemmas.{below_or_last}
use Rattle.lin_search.specs.LongestRun.{IsFirstLongest}
use Rattle.lin_prefixes.specs.OnlyReplies.{HasOnlyReply, HasSameRuns, GotReply, IsReplied}

-- ---- the same steps and the same precedence

module _ {State Op Reply : Type 0} (p q : Problem State Op Reply) (start : q.start ≡ p.start) (count : length q.calls ≡ length p.calls) (steps : (s : State) (c : ℕ) → next q s c ≡ next p s c) (back : (a b : ℕ) → Before q a b → Before p a b) where
  legal_there : (l : List ℕ) (s t : State) → Legal p s l t → Legal q s l t
  legal_there [] s t k = k
  legal_there (c ∷ cs) s t k = (k.0, steps s c ∙ k.1, legal_there cs k.0 t k.2)

  none_same : no_calls q ≡ no_calls p
  none_same = ap (λ (n : ℕ). replicate n false) count

  pub run_there : (l : List ℕ) → IsRun p l → IsRun q l
  run_there l k = record {
    distinct = k.distinct;
    outside = λ c h. subst (λ (set : List Bool). has set c ≡ false) (sym none_same) (k.outside c h);
    legal = (k.legal.0, subst (λ (s : State). Legal q s l k.legal.0) (sym start) (legal_there l p.start k.legal.0 k.legal.1));
    ordered = λ early b late e a before. subst (λ (set : List Bool). (has set a ≡ true) ⊎ In a early) (sym none_same) (k.ordered early b late e a (back a b before));
  }

pub longest_same : (p q : Problem ObjState Op Reply) → HasSameRuns p q → (r : List ℕ) → IsFirstLongest (IsRun q) r → IsFirstLongest (IsRun p) r
longest_same p q same r k = record {
  holds = (same r).1 k.holds;
  greatest = λ m run. k.greatest m ((same m).0 run);
  least = λ m run equal. k.least m ((same m).0 run) equal;
}

-- ---- one reply only

no_step : (t : ObjState) (r reply : Reply) → ◌≡◌ {A = Option (ObjState × Reply)} None (Some (t, r)) → r ≡ reply
no_step t r reply e = absurd (cc)

replies : (s t : ObjState) (reply r : Reply) → ◌≡◌ {A = Option (ObjState × Reply)} (Some (s, reply)) (Some (t, r)) → r ≡ reply
replies s t reply r e = let h : ◌≡◌ {A = ObjState × Reply} (t, r) (s, reply) = cc in ap (λ (a : ObjState × Reply). a.1) h

if_replies : (b : Bool) (s t : ObjState) (reply r : Reply) → ◌≡◌ {A = Option (ObjState × Reply)} (if b then Some (s, reply) else None) (Some (t, r)) → r ≡ reply
if_replies true s t reply r e = replies s t reply r e
if_replies false s t reply r e = no_step t r reply e

pub lock_only : HasOnlyReply Lock Okay
lock_only (Mutex None) process t r e = replies (Mutex (Some process)) t Okay r e
lock_only (Mutex (Some holder)) process t r e = no_step t r Okay e
lock_only (Register v) process t r e = no_step t r Okay e
lock_only (Counter v) process t r e = no_step t r Okay e
lock_only (Queue v) process t r e = no_step t r Okay e
lock_only (Stack v) process t r e = no_step t r Okay e
lock_only (Set v) process t r e = no_step t r Okay e
lock_only (Map v) process t r e = no_step t r Okay e

pub unlock_only : HasOnlyReply Unlock Okay
unlock_only (Mutex None) process t r e = no_step t r Okay e
unlock_only (Mutex (Some holder)) process t r e = if_replies (holder == process) (Mutex None) t Okay r e
unlock_only (Register v) process t r e = no_step t r Okay e
unlock_only (Counter v) process t r e = no_step t r Okay e
unlock_only (Queue v) process t r e = no_step t r Okay e
unlock_only (Stack v) process t r e = no_step t r Okay e
unlock_only (Set v) process t r e = no_step t r Okay e
unlock_only (Map v) process t r e = no_step t r Okay e

reply_itself : (r : Reply) → reply_eq.it r r ≡ true
reply_itself Okay = refl
reply_itself (Int v) = (signed_Decides v v).1 refl
reply_itself (Flag true) = refl
reply_itself (Flag false) = refl
reply_itself Empty = refl

and_some : {A : Type 0} (o : Option A) (x : A) (P : A → Type 0) → o ≡ Some x → P x → IsSomeAnd o P
and_some {A = A} o x P e h = subst (λ (m : Option A). IsSomeAnd m P) (sym e) h

some_of : {A : Type 0} {P : A → Type 0} (o : Option A) → IsSomeAnd o P → (x : A) × (o ≡ Some x) × P x
some_of None h = absurd h
some_of (Some x) h = (x, refl, h)

-- below one more
pub each_below : (P : ℕ → Type 0) (i : ℕ) → ((c : ℕ) → c < i → P c) → P i → (c : ℕ) → c < i + 1 → P c
each_below P i before here c h = elim (below_or_last c i h) [ inl early ↦ before c early | inr same ↦ subst P (sym same) here ]

number_same : (n : ℕ) (reply : Reply) (r : ℕ × Reply) → Some (n, reply) ≡ Some r → n ≡ r.0
number_same n reply r e = let h : ◌≡◌ {A = ℕ × Reply} (n, reply) r = cc in ap (λ (x : ℕ × Reply). x.0) h

none_some : (o : Option (ℕ × Reply)) (r : ℕ × Reply) → o ≡ None → o ≡ Some r → ⊥
none_some o r e f = absurd (cc)

module _ {Object : Type 0} (p_parts q_parts : ProblemParts Object ObjState Op Reply) where
  abbrev p : Problem ObjState Op Reply
  p = any_problem p_parts

  abbrev q : Problem ObjState Op Reply
  q = any_problem q_parts

  -- the reply that a step has fits
  fits_only : (answer : Option (ObjState × Reply)) (number : ℕ) (reply : Reply) → ((t : ObjState) (r : Reply) → answer ≡ Some (t, r) → r ≡ reply) → state_if_fits q.same_reply (Some (number, reply)) answer ≡ state_if_fits p.same_reply None answer
  fits_only None number reply only = refl
  fits_only (Some a) number reply only = subst (λ (b : Bool). (if b then Some a.0 else None) ≡ Some a.0) (sym (ap (λ (r : Reply). q.same_reply r reply) (only a.0 a.1 refl) ∙ reply_itself reply)) refl

  step_same : (s : ObjState) (x y : ProblemCall Op Reply) → (y ≡ x) ⊎ GotReply p x y → after_call q s (Some y) ≡ after_call p s (Some x)
  step_same s x y (inl e) = ap (λ (z : ProblemCall Op Reply). after_call p s (Some z)) e
  step_same s x y (inr got) =
      ap (λ (z : ProblemCall Op Reply). after_call q s (Some z)) got.same
      ∙ fits_only (after s x.process x.op) got.number got.reply (λ t r e. got.only s x.process t r e)
      ∙ ap (λ (o : Option (ℕ × Reply)). state_if_fits p.same_reply o (after s x.process x.op)) (sym got.pending)

  module _ (count : length q.calls ≡ length p.calls) (start : q.start ≡ p.start) (each : (c : ℕ) → c < length p.calls → IsReplied p q c) where
    next_same : (s : ObjState) (c : ℕ) → next q s c ≡ next p s c
    next_same s c = elim (slice_get_cases p.calls c).1 [
      | inl k ↦ (
          let r = each c k.1 in
          ap (after_call q s) r.2.1 ∙ step_same s r.0 r.2.0 r.2.2 ∙ ap (after_call p s) (sym r.1)
          )
      | inr none ↦ ap (after_call q s) (slice_get_past q.calls c (let past = none.0 in omega (arith, count, past))) ∙ ap (after_call p s) (sym none.1)
    ]

    own_of : (c : ℕ) (x : ProblemCall Op Reply) → slice_get p.calls c ≡ Some x → (y : ProblemCall Op Reply) × (slice_get q.calls c ≡ Some y) × ((y ≡ x) ⊎ GotReply p x y)
    own_of c x at =
        let r = each c (slice_get_within p.calls c x at) in
        let same : r.0 ≡ x = (let a = r.1 in cc) in
        (r.2.0, r.2.1, subst (λ (z : ProblemCall Op Reply). (r.2.0 ≡ z) ⊎ GotReply p z r.2.0) same r.2.2)

    called_same : (x y : ProblemCall Op Reply) → (y ≡ x) ⊎ GotReply p x y → y.called ≡ x.called
    called_same x y (inl e) = ap (λ (z : ProblemCall Op Reply). z.called) e
    called_same x y (inr got) = ap (λ (z : ProblemCall Op Reply). z.called) got.same

    made_of : (c : ℕ) (y : ProblemCall Op Reply) → slice_get q.calls c ≡ Some y → (x : ProblemCall Op Reply) × (slice_get p.calls c ≡ Some x) × ((y ≡ x) ⊎ GotReply p x y)
    made_of c y at =
        let r = each c (let w = slice_get_within q.calls c y at in omega (arith, w, count)) in
        let same : r.2.0 ≡ y = (let a = r.2.1 in cc) in
        (r.0, r.1, subst (λ (z : ProblemCall Op Reply). (z ≡ r.0) ⊎ GotReply p r.0 z) same r.2.2)

    abbrev BeforeIn : List (ProblemCall Op Reply) → ℕ × Reply → ℕ → Type 0
    BeforeIn calls r b = IsSomeAnd (slice_get calls b) (λ y. r.0 < y.called)

    before_back : (a b : ℕ) → Before q a b → Before p a b
    before_back a b before =
        let y = some_of {P = λ z. IsSomeAnd z.returned (λ r. BeforeIn q.calls r b)} (slice_get q.calls a) before in
        let r = some_of {P = λ r. BeforeIn q.calls r b} y.0.returned y.2 in
        let z = some_of {P = λ z. r.0.0 < z.called} (slice_get q.calls b) r.2 in
        let x = made_of a y.0 y.1 in
        let w = made_of b z.0 z.1 in
        let less : r.0.0 < w.0.called = (let l = z.2 in let c = called_same w.0 z.0 w.2 in omega (arith, l, c)) in
        elim x.2 [
          | inl e ↦ and_some (slice_get p.calls a) x.0 (λ z. IsSomeAnd z.returned (λ r. BeforeIn p.calls r b)) x.1
              (and_some x.0.returned r.0 (λ r. BeforeIn p.calls r b) (sym (ap (λ (m : ProblemCall Op Reply). m.returned) e) ∙ r.1)
              (and_some (slice_get p.calls b) w.0 (λ z. r.0.0 < z.called) w.1 less))
          | inr got ↦ absurd (
              let e : Some (got.number, got.reply) ≡ Some r.0 = sym (ap (λ (m : ProblemCall Op Reply). m.returned) got.same) ∙ r.1 in
              let n : got.number ≡ r.0.0 = number_same got.number got.reply r.0 e in
              let most = got.behind b w.0 w.1 in
              omega (arith, n, most, less)
              )
        ]

    before_there : (a b : ℕ) → Before p a b → Before q a b
    before_there a b before =
        let x = some_of {P = λ z. IsSomeAnd z.returned (λ r. BeforeIn p.calls r b)} (slice_get p.calls a) before in
        let r = some_of {P = λ r. BeforeIn p.calls r b} x.0.returned x.2 in
        let w = some_of {P = λ z. r.0.0 < z.called} (slice_get p.calls b) r.2 in
        let y = own_of a x.0 x.1 in
        let z = own_of b w.0 w.1 in
        let less : r.0.0 < z.0.called = (let l = w.2 in let c = called_same w.0 z.0 z.2 in omega (arith, l, c)) in
        elim y.2 [
          | inl e ↦ and_some (slice_get q.calls a) y.0 (λ z. IsSomeAnd z.returned (λ r. BeforeIn q.calls r b)) y.1
              (and_some y.0.returned r.0 (λ r. BeforeIn q.calls r b) (ap (λ (m : ProblemCall Op Reply). m.returned) e ∙ r.1)
              (and_some (slice_get q.calls b) z.0 (λ z. r.0.0 < z.called) z.1 less))
          | inr got ↦ absurd (let e = got.pending in let f = r.1 in none_some x.0.returned r.0 e f)
        ]

    pub same_runs : HasSameRuns p q
    same_runs l = (run_there p q start count next_same before_back l, run_there q p (sym start) (sym count) (λ s c. sym (next_same s c)) before_there l)
