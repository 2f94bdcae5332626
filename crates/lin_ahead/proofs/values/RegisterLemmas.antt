-- What a step of a register tells of its value.
use Rattle.std.proofs.Common.{◌≡◌, ℕ, Bool, true, false, Option, Some, None, IsSome, List, [], ◌∷◌, ◌++◌, length, ◌⊎◌, inl, inr, refl, sym, ◌∙◌, ap, subst}
use Rattle.std.specs.Prelude.{ℤ, slice_get, IfSome, if◌then◌else◌}
use Rattle.std.specs.Ordering.{int_eq}
use Rattle.std.specs.Cmp.{signed_Decides}
use Rattle.lin_object.specs.declared.op.Op.{Op}
use Rattle.lin_object.specs.declared.op.Op.TheVariants.{Write, Read, Cas}
use Rattle.lin_object.specs.declared.reply.Reply.{Reply}
use Rattle.lin_object.specs.declared.reply.Reply.TheVariants.{Okay, Int, Flag, Empty}
use Rattle.lin_object.specs.declared.state.ObjState.{ObjState}
use Rattle.lin_object.specs.declared.state.ObjState.TheVariants.{Register}
use Rattle.lin_object.specs.Kinds.Register.{register_step}
use Rattle.lin_history.specs.declared.problems.problem.ProblemCall.{ProblemCall}
use Rattle.lin_history.specs.Problems.AnyProblem.{any_problem}
use Rattle.lin_history.specs.Problems.ProblemParts.{ProblemParts}
use Rattle.lin_history.specs.Problems.Problem.{Problem}
use Rattle.lin_history.specs.Problems.Lists.{In}
use Rattle.lin_history.specs.Problems.ListLemmas.{has_none, apart}
use Rattle.lin_history.specs.Problems.LegalLists.{fits, state_if_fits, next, Legal}
use Rattle.lin_history.specs.Problems.Precedence.{Before, IsCompleted}
use Rattle.lin_history.specs.Problems.Linearizations.{IsRun, IsLinearization}
use Rattle.lin_history.specs.ReplyLemmas.{reply_same}
use Rattle.lin_ahead.specs.Values.Register.{IsOfRegister, value_written, value_found, MayWrite, Finds}
use Rattle.lin_laws.specs.AnswerLemmas.{Is, state_of, reply_of, fits_some}

-- ---- one step of a register

no_step : {m : ObjState} {r : Reply} → Is None m r → ⊥
no_step e = cc

same_some : {x y : ℤ} → Some x ≡ Some y → x ≡ y
same_some e = cc

some_none : {x : ℤ} → ◌≡◌ {A = Option ℤ} None (Some x) → ⊥
some_none e = cc

same_int : {x y : ℤ} → Int x ≡ Int y → x ≡ y
same_int e = cc

pub same_value : {x y : ℤ} → Register x ≡ Register y → x ≡ y
same_value e = cc

-- what a step from this value tells, with the return that is recorded of its call
pub record Tells (w : ℤ) (op : Op) (back : Option (ℕ × Reply)) (m : ObjState) : Type 0 where
  pub value : ℤ
  pub ends : m ≡ Register value
  pub change : (value ≡ w) ⊎ (value_written op back ≡ Some value)
  pub found : (u : ℤ) → value_found op back ≡ Some u → w ≡ u
  pub wrote : (u : ℤ) → IsSome back → value_written op back ≡ Some u → value ≡ u

cas_tells : (hit : Bool) (w a b : ℤ) (back : Option (ℕ × Reply)) (m : ObjState) (r : Reply) → int_eq w a ≡ hit → Is (Some (if hit then (Register b, Flag true) else (Register w, Flag false))) m r → IfSome back (λ q. q.1 ≡ r) → Tells w (Cas a b) back m
cas_tells true w a b None m r e step k = record { value = b; ends = sym (state_of step); change = inr refl; found = λ u f. absurd (some_none f); wrote = λ u done f. same_some f }
cas_tells true w a b (Some (n, Flag true)) m r e step k = record { value = b; ends = sym (state_of step); change = inr refl; found = λ u f. (signed_Decides w a).0 e ∙ same_some f; wrote = λ u done f. same_some f }
cas_tells true w a b (Some (n, Flag false)) m r e step k = absurd (let h = reply_of step in cc)
cas_tells true w a b (Some (n, Okay)) m r e step k = absurd (let h = reply_of step in cc)
cas_tells true w a b (Some (n, Int v)) m r e step k = absurd (let h = reply_of step in cc)
cas_tells true w a b (Some (n, Empty)) m r e step k = absurd (let h = reply_of step in cc)
cas_tells false w a b None m r e step k = record { value = w; ends = sym (state_of step); change = inl refl; found = λ u f. absurd (some_none f); wrote = λ u done f. absurd (cc) }
cas_tells false w a b (Some (n, Flag false)) m r e step k = record { value = w; ends = sym (state_of step); change = inl refl; found = λ u f. absurd (some_none f); wrote = λ u done f. absurd (some_none f) }
cas_tells false w a b (Some (n, Flag true)) m r e step k = absurd (let h = reply_of step in cc)
cas_tells false w a b (Some (n, Okay)) m r e step k = absurd (let h = reply_of step in cc)
cas_tells false w a b (Some (n, Int v)) m r e step k = absurd (let h = reply_of step in cc)
cas_tells false w a b (Some (n, Empty)) m r e step k = absurd (let h = reply_of step in cc)

read_found : (w : ℤ) (back : Option (ℕ × Reply)) (r : Reply) (u : ℤ) → Int w ≡ r → IfSome back (λ q. q.1 ≡ r) → value_found Read back ≡ Some u → w ≡ u
read_found w None r u e k f = absurd (some_none f)
read_found w (Some (n, Int v)) r u e k f = same_int (e ∙ sym k) ∙ same_some f
read_found w (Some (n, Okay)) r u e k f = absurd (some_none f)
read_found w (Some (n, Flag b)) r u e k f = absurd (some_none f)
read_found w (Some (n, Empty)) r u e k f = absurd (some_none f)

pub step_tells : (w : ℤ) (op : Op) (back : Option (ℕ × Reply)) (m : ObjState) (r : Reply) → Is (register_step w op) m r → IfSome back (λ q. q.1 ≡ r) → Tells w op back m
step_tells w (Write v) back m r step k = record { value = v; ends = sym (state_of step); change = inr refl; found = λ u f. absurd (some_none f); wrote = λ u done f. same_some f }
step_tells w Read back m r step k = record { value = w; ends = sym (state_of step); change = inl refl; found = λ u f. read_found w back r u (reply_of step) k f; wrote = λ u done f. absurd (some_none f) }
step_tells w (Cas a b) back m r step k = cas_tells (int_eq w a) w a b back m r refl step k
step_tells w op back m r step k = absurd (no_step step)

-- ---- runs of a register

module _ {p : Problem ObjState Op Reply} {start : ℤ} (of : IsOfRegister p start) where
  pub fits_recorded : (r : Reply) (recorded : Option (ℕ × Reply)) → fits p.same_reply r recorded ≡ true → IfSome recorded (λ q. q.1 ≡ r)
  fits_recorded r None e = tt
  fits_recorded r (Some q) e = sym (of.exact r q.1 e)

  pub has_call : (s m : ObjState) (c : ℕ) → next p s c ≡ Some m → (x : ProblemCall Op Reply) × (slice_get p.calls c ≡ Some x)
  has_call s m c step = go (slice_get p.calls c) refl
    where
      go : (o : Option (ProblemCall Op Reply)) → slice_get p.calls c ≡ o → (x : ProblemCall Op Reply) × (slice_get p.calls c ≡ Some x)
      go (Some x) e = (x, e)
      go None e = absurd (let f = rw e at step in cc)

  -- a step of a call at a register
  pub tells : (w : ℤ) (m : ObjState) (c : ℕ) (x : ProblemCall Op Reply) → slice_get p.calls c ≡ Some x → next p (Register w) c ≡ Some m → Tells w x.op x.returned m
  tells w m c x e step =
      let step' : state_if_fits p.same_reply x.returned (p.after (Register w) x.process x.op) ≡ Some m = rw e at step in
      let k = fits_some p.same_reply (p.after (Register w) x.process x.op) x.returned m step' in
      step_tells w x.op x.returned m k.0 (sym (of.after_is (Register w) x.process x.op) ∙ k.1) (fits_recorded k.0 x.returned k.2)

  -- what the register holds at the end was there, or some call of the list may write it
  abbrev pub Left : ℤ → List ℕ → ObjState → Type 0
  Left w l t = (u : ℤ) × (t ≡ Register u) × ((u ≡ w) ⊎ ((c : ℕ) × In c l × MayWrite p c u))

  pub left : (l : List ℕ) (w : ℤ) (t : ObjState) → Legal p (Register w) l t → Left w l t
  left [] w t e = (w, sym e, inl refl)
  left (c ∷ cs) w t (m, step, more) =
      let call = has_call (Register w) m c step in
      let k = tells w m c call.0 call.1 step in
      let later = left cs k.value t (subst (λ (s : ObjState). Legal p s cs t) k.ends more) in (
        later.0,
        later.1,
        elim later.2 [
          | inl e ↦ elim k.change [
            | inl same ↦ inl (e ∙ same)
            | inr wrote ↦ inr (c, inl refl, (call.0, call.1, wrote ∙ ap Some (sym e)))
          ]
          | inr q ↦ inr (q.0, inr q.1, q.2)
        ],
      )

  pub legal_split : (xs ys : List ℕ) (s u : ObjState) → Legal p s (xs ++ ys) u → (t : ObjState) × Legal p s xs t × Legal p t ys u
  legal_split [] ys s u k = (s, refl, k)
  legal_split (x ∷ xs) ys s u k = let r = legal_split xs ys k.0 u k.2 in (r.0, (k.0, k.1, r.1), r.2)

  pub from_start : (l : List ℕ) (s : ObjState) → Legal p p.start l s → Legal p (Register start) l s
  from_start l s k = subst (λ (u : ObjState). Legal p u l s) of.start_is k

  -- what found a value found it there
  pub finds_held : (w v : ℤ) (m : ObjState) (g : ℕ) → Finds p g v → next p (Register w) g ≡ Some m → w ≡ v
  finds_held w v m g found step = (tells w m g found.0 found.1 step).found v found.2

  found_returned : (op : Op) (back : Option (ℕ × Reply)) (v : ℤ) → value_found op back ≡ Some v → IsSome back
  found_returned op (Some r) v e = refl
  found_returned Read None v e = absurd (some_none e)
  found_returned (Cas a b) None v e = absurd (some_none e)
  found_returned op None v e = absurd (some_none e)

  pub finds_completed : (g : ℕ) (v : ℤ) → Finds p g v → IsCompleted p g
  finds_completed g v (x, there, found) = rw there (found_returned x.op x.returned v found)

  stands : (l : List ℕ) (i : ℕ) → IsLinearization p l → IsCompleted p i → In i l
  stands l i whole done = elim (whole.complete i done) [
    | inl q ↦ absurd (let x = has_none (length p.calls) i in cc)
    | inr q ↦ q
  ]

  pub not_itself : (early : List ℕ) (i : ℕ) (late : List ℕ) → IsRun p (early ++ i ∷ late) → (j : ℕ) → Before p i j → j ≡ i → ⊥
  not_itself early i late run j before e = elim (run.ordered early i late refl i (subst (λ (n : ℕ). Before p i n) e before)) [
    | inl q ↦ (let x = has_none (length p.calls) i in cc)
    | inr q ↦ apart i early (i ∷ late) run.distinct q (inl refl)
  ]

-- a problem that starts with a register is one of a register
module _ {Object : Type 0} (p : ProblemParts Object ObjState Op Reply) where
  pub of_any_register : (start : ℤ) → p.start ≡ Register start → IsOfRegister (any_problem p) start
  of_any_register start e = record { after_is = λ s process op. refl; start_is = e; exact = reply_same; same_itself = λ v. (signed_Decides v v).1 refl }
