-- A problem that is read as another one: each step of it is a step of the other one, between what its states show. What is known ahead of the other one is then right for it.
use Rattle.std.proofs.Common.{◌≡◌, ◌⊎◌, inl, inr, ℕ, zero, suc, ◌<◌, Bool, true, false, Option, Some, None, IsSome, List, [], ◌∷◌, ◌++◌, length, replicate, refl, sym, ◌∙◌, ap, subst, true≢false}
use Rattle.std.specs.Prelude.{ℤ, map, slice_get, IsSomeAnd, if◌then◌else◌}
use Rattle.std.specs.Cmp.{signed_Decides}
use Rattle.std.specs.List.{list_all}
use Rattle.std.proofs.lemmas.Bool.{and_parts}
use Rattle.std.proofs.lemmas.List.{length-map}
use Rattle.lin_object.specs.declared.op.Op.{Op}
use Rattle.lin_object.specs.declared.reply.Reply.{Reply}
use Rattle.lin_object.specs.declared.reply.Reply.TheVariants.{Int}
use Rattle.lin_object.specs.declared.state.ObjState.{ObjState}
use Rattle.lin_object.specs.declared.state.ObjState.TheVariants.{Register}
use Rattle.lin_object.specs.StepLemmas.{state_same, state_refl}
use Rattle.lin_object.specs.contracts.reply.ReplyPartialEq.TheImpl.{eq-value as reply_eq}
use Rattle.lin_object.specs.contracts.state.ObjStatePartialEq.TheImpl.{eq-value as state_eq}
use Rattle.lin_history.specs.declared.problems.problem.ProblemCall.{ProblemCall}
use Rattle.lin_history.specs.Problems.AnyProblem.{any_problem}
use Rattle.lin_history.specs.Problems.ProblemParts.{ProblemParts}
use Rattle.lin_history.specs.Problems.Problem.{Problem}
use Rattle.lin_history.specs.Problems.Lists.{In}
use Rattle.lin_history.specs.Problems.ListLemmas.{has_none}
use Rattle.lin_history.specs.Problems.LegalLists.{fits, state_if_fits, after_call, next, Legal}
use Rattle.lin_history.specs.Problems.Precedence.{Before, IsCompleted}
use Rattle.lin_history.specs.Problems.Continuations.{has}
use Rattle.lin_history.specs.Problems.Linearizations.{IsLinearization}
use Rattle.lin_history.specs.OptionLemmas.{some_and, and_some}
use Rattle.lin_ahead.specs.declared.values.rows.ValuesAhead.{ValuesAhead}
use Rattle.lin_ahead.specs.Behind.{IsRightOfValues}
use Rattle.lin_ahead.specs.Values.Owners.{Leaves, AllLeave, LastChange, IsOwnedBy}
use Rattle.lin_ahead.specs.Values.Stranded.{FindsOneState}
use Rattle.lin_ahead.proofs.items.RowLemmas.{through, seen_through}

-- ---- one step

pub fit_some : (back : Option (ℕ × Reply)) (s m : ObjState) (r : Reply) → state_if_fits reply_eq.it back (Some (s, r)) ≡ Some m → (s ≡ m) × (fits reply_eq.it r back ≡ true)
fit_some back s m r e = go (fits reply_eq.it r back) refl e
  where
    go : (b : Bool) → fits reply_eq.it r back ≡ b → (if b then Some s else None) ≡ Some m → (s ≡ m) × (fits reply_eq.it r back ≡ true)
    go true f g = ((let h : s ≡ m = cc in h), f)
    go false f g = absurd (cc)

pub some_fit : (back : Option (ℕ × Reply)) (s : ObjState) (r : Reply) → fits reply_eq.it r back ≡ true → state_if_fits reply_eq.it back (Some (s, r)) ≡ Some s
some_fit back s r e = rw e refl

pub int_fits : (v : ℤ) → reply_eq.it (Int v) (Int v) ≡ true
int_fits v = (signed_Decides v v).1 refl

pub chosen : {A : Type 0} (b : Bool) (x y : A) → b ≡ true → (if b then x else y) ≡ x
chosen b x y e = rw e refl

pub other_chosen : {A : Type 0} (b : Bool) (x y : A) → b ≡ false → (if b then x else y) ≡ y
other_chosen b x y e = rw e refl

pub same_value : {x y : ℤ} → Register x ≡ Register y → x ≡ y
same_value e = cc

-- what a test says of all calls, it says of each
pub each_call : (f : ProblemCall Op Reply → Bool) (calls : List (ProblemCall Op Reply)) → list_all f calls ≡ true → (c : ℕ) (x : ProblemCall Op Reply) → slice_get calls c ≡ Some x → f x ≡ true
each_call f [] all c x there = absurd (cc)
each_call f (y ∷ ys) all zero x there = (let same : y ≡ x = cc in subst (λ (z : ProblemCall Op Reply). f z ≡ true) same (and_parts (f y) (list_all f ys) all).0)
each_call f (y ∷ ys) all (suc c) x there = each_call f ys (and_parts (f y) (list_all f ys) all).1 c x there

-- Problem p is read as problem q. `shown` says what a state of the one is in the other, `reads` what a call is; `Kept` holds of all states
-- that calls lead to.
pub record IsReadAs {Object : Type 0} (p q : ProblemParts Object ObjState Op Reply) (shown : ObjState → ObjState) (Kept : ObjState → Type 0) (reads : ProblemCall Op Reply → ProblemCall Op Reply) : Type 0 where
  pub calls : q.calls ≡ map reads p.calls
  pub called : (x : ProblemCall Op Reply) → (reads x).called ≡ x.called
  pub returned : (x : ProblemCall Op Reply) (r : ℕ × Reply) → (reads x).returned ≡ Some r → (reply : Reply) × (x.returned ≡ Some (r.0, reply))
  pub start : shown p.start ≡ q.start
  pub kept : Kept p.start
  pub step : (c : ℕ) (x : ProblemCall Op Reply) (s m : ObjState) → slice_get p.calls c ≡ Some x → Kept s → after_call (any_problem p) s (Some x) ≡ Some m → Kept m × (after_call (any_problem q) (shown s) (Some (reads x)) ≡ Some (shown m))
  -- states that show the same are the same
  pub one : (s t : ObjState) → Kept s → Kept t → shown s ≡ shown t → s ≡ t

module _ {Object : Type 0} (p q : ProblemParts Object ObjState Op Reply) (shown : ObjState → ObjState) (Kept : ObjState → Type 0) (reads : ProblemCall Op Reply → ProblemCall Op Reply) (read : IsReadAs p q shown Kept reads) where
  abbrev P : Problem ObjState Op Reply
  P = any_problem p

  abbrev Q : Problem ObjState Op Reply
  Q = any_problem q

  -- ---- steps

  -- a call of the other problem is one of this one
  from_read : (c : ℕ) (y : ProblemCall Op Reply) → slice_get q.calls c ≡ Some y → (x : ProblemCall Op Reply) × (slice_get p.calls c ≡ Some x) × (reads x ≡ y)
  from_read c y there = through reads p.calls c y (subst (λ (l : List (ProblemCall Op Reply)). slice_get l c ≡ Some y) read.calls there)

  to_read : (c : ℕ) (x : ProblemCall Op Reply) → slice_get p.calls c ≡ Some x → slice_get q.calls c ≡ Some (reads x)
  to_read c x there = subst (λ (l : List (ProblemCall Op Reply)). slice_get l c ≡ Some (reads x)) (sym read.calls) (seen_through reads p.calls c x there)

  follows_by : (s m : ObjState) (c : ℕ) → Kept s → (o : Option (ProblemCall Op Reply)) → slice_get p.calls c ≡ o → after_call P s o ≡ Some m → Kept m × (next Q (shown s) c ≡ Some (shown m))
  follows_by s m c kept None there step = absurd (cc)
  follows_by s m c kept (Some x) there step =
      let k = read.step c x s m there kept step in
      (k.0, subst (λ (o : Option (ProblemCall Op Reply)). after_call Q (shown s) o ≡ Some (shown m)) (sym (to_read c x there)) k.1)

  -- a step of the problem is one of the other
  follows : (s m : ObjState) (c : ℕ) → Kept s → next P s c ≡ Some m → Kept m × (next Q (shown s) c ≡ Some (shown m))
  follows s m c kept step = follows_by s m c kept (slice_get p.calls c) refl step

  -- so is a list of calls
  all_follow : (l : List ℕ) (s u : ObjState) → Kept s → Legal P s l u → Kept u × Legal Q (shown s) l (shown u)
  all_follow [] s u kept legal = (subst Kept legal kept, ap shown legal)
  all_follow (c ∷ cs) s u kept (m, step, more) =
      let one = follows s m c kept step in
      let rest = all_follow cs m u one.0 more in
      (rest.0, (shown m, one.1, rest.1))

  from_start : (l : List ℕ) (u : ObjState) → Legal P P.start l u → Kept u × Legal Q Q.start l (shown u)
  from_start l u legal =
      let k = all_follow l P.start u read.kept legal in
      (k.0, subst (λ (s : ObjState). Legal Q s l (shown u)) read.start k.1)

  -- ---- real time

  called_back : (n b : ℕ) → IsSomeAnd (slice_get q.calls b) (λ y. n < y.called) → IsSomeAnd (slice_get p.calls b) (λ y. n < y.called)
  called_back n b h =
      let y = some_and (slice_get q.calls b) (λ (z : ProblemCall Op Reply). n < z.called) h in
      let x = from_read b y.0 y.1 in
      and_some (slice_get p.calls b) (λ (z : ProblemCall Op Reply). n < z.called) x.0 x.1 (subst (λ (e : ℕ). n < e) (ap (λ (z : ProblemCall Op Reply). z.called) (sym x.2) ∙ read.called x.0) y.2)

  before_back : (a b : ℕ) → Before Q a b → Before P a b
  before_back a b h =
      let y = some_and (slice_get q.calls a) (λ (z : ProblemCall Op Reply). IsSomeAnd z.returned (λ r. IsSomeAnd (slice_get q.calls b) (λ w. r.0 < w.called))) h in
      let x = from_read a y.0 y.1 in
      let r = some_and y.0.returned (λ (r : ℕ × Reply). IsSomeAnd (slice_get q.calls b) (λ w. r.0 < w.called)) y.2 in
      let back = read.returned x.0 r.0 (ap (λ (z : ProblemCall Op Reply). z.returned) x.2 ∙ r.1) in
      and_some (slice_get p.calls a) (λ (z : ProblemCall Op Reply). IsSomeAnd z.returned (λ r. IsSomeAnd (slice_get p.calls b) (λ w. r.0 < w.called))) x.0 x.1
      (and_some x.0.returned (λ (r : ℕ × Reply). IsSomeAnd (slice_get p.calls b) (λ w. r.0 < w.called)) (r.0.0, back.0) back.1 (called_back r.0.0 b r.2))

  completed_back : (c : ℕ) → IsCompleted Q c → IsCompleted P c
  completed_back c h =
      let y = some_and (slice_get q.calls c) (λ (z : ProblemCall Op Reply). IsSome z.returned) h in
      let x = from_read c y.0 y.1 in
      and_some (slice_get p.calls c) (λ (z : ProblemCall Op Reply). IsSome z.returned) x.0 x.1
      (go x.0 y.0.returned (ap (λ (z : ProblemCall Op Reply). z.returned) x.2) y.2)
    where
      some : (x : ProblemCall Op Reply) (r : ℕ × Reply) → (reads x).returned ≡ Some r → IsSome x.returned
      some x r e = (let back = read.returned x r e in rw back.1 refl)

      go : (x : ProblemCall Op Reply) (o : Option (ℕ × Reply)) → (reads x).returned ≡ o → IsSome o → IsSome x.returned
      go x None e done = absurd (cc)
      go x (Some r) e done = some x r e

  in_list : (c : ℕ) (l : List ℕ) → (has (replicate (length p.calls) false) c ≡ true) ⊎ In c l → In c l
  in_list c l (inl h) = absurd (let none = has_none (length p.calls) c in cc)
  in_list c l (inr h) = h

  -- a linearization of the problem is one of the other
  pub linearization_read : (l : List ℕ) → IsLinearization P l → IsLinearization Q l
  linearization_read l whole =
      let legal = whole.continuation.legal in
      record {
        continuation = record {
          distinct = whole.continuation.distinct;
          outside = λ c there. has_none (length q.calls) c;
          legal = (shown legal.0, (from_start l legal.0 legal.1).1);
          ordered = λ early b late eq a before. inr (in_list a early (whole.continuation.ordered early b late eq a (before_back a b before)));
        };
        complete = λ c done. inr (in_list c l (whole.complete c (completed_back c done)));
      }

  -- ---- legal lists

  legal_split : (xs ys : List ℕ) (s u : ObjState) → Legal P s (xs ++ ys) u → (t : ObjState) × Legal P s xs t × Legal P t ys u
  legal_split [] ys s u legal = (s, refl, legal)
  legal_split (x ∷ xs) ys s u legal = let r = legal_split xs ys legal.0 u legal.2 in (r.0, (legal.0, legal.1, r.1), r.2)

  next_one : (t m n : ObjState) (c : ℕ) → next Q t c ≡ Some m → next Q t c ≡ Some n → m ≡ n
  next_one t m n c e f = cc

  legal_one : (l : List ℕ) (s t u : ObjState) → Legal Q s l t → Legal Q s l u → t ≡ u
  legal_one [] s t u a b = sym a ∙ b
  legal_one (c ∷ cs) s t u a b = legal_one cs a.0 t u a.2 (subst (λ (m : ObjState). Legal Q m cs u) (next_one s b.0 a.0 c b.1 a.1) b.2)

  -- ---- owners

  -- a call that leaves the other problem's state as it is leaves this one's so
  leaves : (s m : ObjState) (c : ℕ) → Kept s → Leaves Q (shown s) c → next P s c ≡ Some m → m ≡ s
  leaves s m c kept same step =
      let one = follows s m c kept step in
      read.one m s one.0 kept (next_one (shown s) (shown m) same.0 c one.1 same.1 ∙ state_same same.0 (shown s) same.2)

  -- so do calls, one after another
  all_leave : (l : List ℕ) (s end : ObjState) → Kept s → Legal P s l end → AllLeave Q (shown s) l → AllLeave P s l
  all_leave [] s end kept legal same = λ c h. absurd h
  all_leave (c ∷ cs) s end kept (m, step, more) same =
      let stays : m ≡ s = leaves s m c kept (same c (inl refl)) step in
      let rest = all_leave cs s end kept (subst (λ (z : ObjState). Legal P z cs end) stays more) (λ d h. same d (inr h)) in
      λ d h. elim h [
        | inl here ↦ subst (λ (n : ℕ). Leaves P s n) (sym here) (m, step, subst (λ (z : ObjState). state_eq.it m z ≡ true) stays (state_refl m))
        | inr there ↦ rest d there
      ]

  -- a call that changes the other problem's state changes this one's
  changes : (s m : ObjState) → state_eq.it (shown m) (shown s) ≡ false → state_eq.it m s ≡ false
  changes s m other = go (state_eq.it m s) refl
    where
      go : (b : Bool) → state_eq.it m s ≡ b → state_eq.it m s ≡ false
      go false e = e
      go true e = absurd (true≢false (sym (subst (λ (z : ObjState). state_eq.it (shown m) z ≡ true) (ap shown (state_same m s e)) (state_refl (shown m))) ∙ other))

  -- the last call that changed the one changed the other
  change : (calls early : List ℕ) (end : ObjState) → Legal P P.start early end → LastChange Q calls early → LastChange P calls early
  change calls early end legal k =
      let two = legal_split k.front (k.owner ∷ k.since) P.start end (subst (λ (l : List ℕ). Legal P P.start l end) k.place legal) in
      let front = from_start k.front two.0 two.1 in
      let from : shown two.0 ≡ k.from = legal_one k.front Q.start (shown two.0) k.from front.1 k.before in
      let step = two.2.1 in
      let one = follows two.0 two.2.0 k.owner front.0 step in
      let to : shown two.2.0 ≡ k.to = next_one k.from (shown two.2.0) k.to k.owner (subst (λ (z : ObjState). next Q z k.owner ≡ Some (shown two.2.0)) from one.1) k.step in
      record {
        owner = k.owner;
        front = k.front;
        since = k.since;
        place = k.place;
        one_of = k.one_of;
        from = two.0;
        to = two.2.0;
        before = two.1;
        step = step;
        changed = changes two.0 two.2.0 (subst (λ (z : ObjState). state_eq.it (shown two.2.0) z ≡ false) (sym from) (subst (λ (z : ObjState). state_eq.it z k.from ≡ false) (sym to) k.changed));
        kept = all_leave k.since two.2.0 end one.0 two.2.2 (subst (λ (z : ObjState). AllLeave Q z k.since) (sym to) k.kept);
      }

  pub owned : (calls : List ℕ) (flag : Bool) (g : ℕ) → IsOwnedBy Q calls flag g → IsOwnedBy P calls flag g
  owned calls flag g by_one l early late whole eq =
      let legal = whole.continuation.legal in
      let two = legal_split early (g ∷ late) P.start legal.0 (subst (λ (m : List ℕ). Legal P P.start m legal.0) eq legal.1) in
      elim (by_one l early late (linearization_read l whole) eq) [
        | inl k ↦ inl (change calls early two.0 two.1 k)
        | inr k ↦ inr (k.0, all_leave early P.start two.0 read.kept two.1 (subst (λ (z : ObjState). AllLeave Q z early) (sym read.start) k.1))
      ]

  -- a call that can follow one state of the other problem alone can follow one of this one alone
  pub found_one : (g : ℕ) → FindsOneState Q g → FindsOneState P g
  found_one g found s t one two can can_too =
      let a = from_start one.0 s one.1 in
      let b = from_start two.0 t two.1 in
      let x = follows s can.0 g a.0 can.1 in
      let y = follows t can_too.0 g b.0 can_too.1 in
      read.one s t a.0 b.0 (found (shown s) (shown t) (one.0, a.1) (two.0, b.1) (shown can.0, x.1) (shown can_too.0, y.1))

  -- what is right for the other problem is right for this one
  pub right_by_reading : (ahead : ValuesAhead) → IsRightOfValues Q ahead → IsRightOfValues P ahead
  right_by_reading ahead right = record {
    needs = record {
      each_by = right.needs.each_by ∙ count;
      each_from = right.needs.each_from ∙ count;
      needed = λ a b m n there here below other l whole early late eq. right.needs.needed a b m n there here below other l (linearization_read l whole) early late eq;
    };
    owners = λ g row there is. owned row.calls.items row.at_start g (right.owners g row there is);
    found = λ g row there is. found_one g (right.found g row there is);
    in_vain = λ is l whole. right.in_vain is l (linearization_read l whole);
  }
    where
      count : length q.calls ≡ length p.calls
      count = ap (λ (l : List (ProblemCall Op Reply)). length l) read.calls ∙ length-map p.calls reads
