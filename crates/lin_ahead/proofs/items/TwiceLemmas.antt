-- Two calls that returned with one item, which no two calls put there: there is no linearization.
use Rattle.std.proofs.Common.{◌≡◌, ◌≢◌, ℕ, Some, List, [], ◌∷◌, ◌++◌, inl, inr, refl, sym, ◌∙◌, ap, subst, append_assoc}
use Rattle.std.specs.Prelude.{ℤ}
use Rattle.lin_object.specs.declared.op.Op.{Op}
use Rattle.lin_object.specs.declared.reply.Reply.{Reply}
use Rattle.lin_object.specs.declared.state.ObjState.{ObjState}
use Rattle.lin_object.specs.declared.state.ObjState.TheVariants.{Stack}
use Rattle.lin_history.specs.ReplyLemmas.{reply_same}
use Rattle.lin_history.specs.Problems.ProblemParts.{ProblemParts}
use Rattle.lin_history.specs.Problems.Problem.{Problem}
use Rattle.lin_history.specs.Problems.Lists.{In, IsDistinct}
use Rattle.lin_history.specs.Problems.ListLemmas.{in_late}
use Rattle.lin_history.specs.Problems.LegalLists.{next, Legal}
use Rattle.lin_history.specs.Problems.Precedence.{IsCompleted}
use Rattle.lin_history.specs.Problems.Linearizations.{IsRun, IsLinearization}
use Rattle.lin_history.specs.Problems.AnyProblem.{any_problem}
use Rattle.lin_ahead.specs.Items.Impossible.{IsTakenTwice}
use Rattle.lin_ahead.specs.Queues.Queue.{Item}
use Rattle.lin_laws.specs.Items.{Took, Popped}
use Rattle.lin_ahead.specs.Stacks.Stack.{PushedOnce}
use Rattle.lin_ahead.proofs.queues.AnyLemmas.{of_any}
use Rattle.lin_ahead.proofs.items.ChainLemmas.{legal_split}
use Rattle.lin_ahead.proofs.first.NeedsLemmas.{place_split, stands}
use Rattle.lin_ahead.proofs.stacks.OwedStackLemmas.{still_stack, item_at}
use Rattle.lin_ahead.proofs.first.PlaceLemmas.{distinct_late}
use Rattle.lin_ahead.proofs.queues.QueueLemmas.{not_taken_again}
use Rattle.lin_laws.specs.Exact.{IsExact}
use Rattle.lin_ahead.proofs.stacks.StackLemmas.{IsPoppedBy, WasPushed, pops_top, top_of, one_popper}

module _ {State Op Reply : Type 0} (p : Problem State Op Reply) where
  -- of two calls of a linearization one stands behind the other
  in_turn : (P : ℕ → Type 0) → ((xs : List ℕ) (a : ℕ) (mid : List ℕ) (b : ℕ) (late : List ℕ) → IsRun p (xs ++ a ∷ (mid ++ b ∷ late)) → P a → P b → ⊥) → (y z : ℕ) → y ≢ z → IsCompleted p y → IsCompleted p z → P y → P z → (l : List ℕ) → IsLinearization p l → ⊥
  in_turn P never y z other done_y done_z first second l whole =
      elim (place_split there.0 (z ∷ there.1) here.0 y here.1 (sym there.2 ∙ here.2)) [
        | inl q ↦ never here.0 y q.0 z there.1 (subst (λ (m : List ℕ). IsRun p m) (there.2 ∙ ap (λ (m : List ℕ). m ++ z ∷ there.1) q.1 ∙ append_assoc here.0 (y ∷ q.0) (z ∷ there.1)) whole.continuation) first second
        | inr q ↦ behind q.0 q.2
      ]
    where
      here : (early : List ℕ) × (late : List ℕ) × (l ≡ early ++ y ∷ late)
      here = stands l y whole done_y

      there : (early : List ℕ) × (late : List ℕ) × (l ≡ early ++ z ∷ late)
      there = stands l z whole done_z

      behind : (mid : List ℕ) → z ∷ there.1 ≡ mid ++ y ∷ here.1 → ⊥
      behind [] e = other (let f : z ≡ y = cc in sym f)
      behind (d ∷ mid) e =
          let rest : there.1 ≡ mid ++ y ∷ here.1 = cc in
          never there.0 z mid y here.1 (subst (λ (m : List ℕ). IsRun p m) (there.2 ∙ ap (λ (m : List ℕ). there.0 ++ z ∷ m) rest) whole.continuation) second first

-- of a stack
module _ {p : Problem ObjState Op Reply} (exact : IsExact p) (starts : p.start ≡ Stack []) (v : ℤ) (once : PushedOnce p v) where
  not_popped_again : (xs : List ℕ) (a : ℕ) (mid : List ℕ) (b : ℕ) (late : List ℕ) → IsRun p (xs ++ a ∷ (mid ++ b ∷ late)) → Popped p a v → Popped p b v → ⊥
  not_popped_again xs a mid b late run one two =
      elim (top_of p exact xs [] v top.0 (subst (λ (t : ObjState). Legal p (Stack []) xs t) on_top parts.1)) [
        | inl lay ↦ subst (λ (l : List ℤ). Item v l) (sym lay.1) (item_at v lay.0 top.0)
        | inr was ↦ go was
      ]
    where
      end : ObjState
      end = run.legal.0

      rest : List ℕ
      rest = mid ++ b ∷ late

      all : Legal p (Stack []) (xs ++ a ∷ rest) end
      all = subst (λ (s : ObjState). Legal p s (xs ++ a ∷ rest) end) starts run.legal.1

      parts : (t : ObjState) × Legal p (Stack []) xs t × Legal p t (a ∷ rest) end
      parts = legal_split p exact xs (a ∷ rest) (Stack []) end all

      here : (items : List ℤ) × (parts.0 ≡ Stack items)
      here = still_stack p exact xs [] parts.0 parts.1

      goes : Legal p (Stack here.0) (a ∷ rest) end
      goes = subst (λ (s : ObjState). Legal p s (a ∷ rest) end) here.1 parts.2

      top : (left : List ℤ) × (here.0 ≡ v ∷ left) × (goes.0 ≡ Stack left)
      top = pops_top p exact here.0 goes.0 a v one goes.1

      on_top : parts.0 ≡ Stack (v ∷ top.0)
      on_top = here.1 ∙ ap Stack top.1

      step : next p (Stack (v ∷ top.0)) a ≡ Some (Stack top.0)
      step = subst (λ (l : List ℤ). next p (Stack l) a ≡ Some (Stack top.0)) top.1 (goes.1 ∙ ap Some top.2)

      go : WasPushed p exact [] xs v top.0 → ⊥
      go was =
          let place : xs ++ a ∷ rest ≡ was.before ++ was.d ∷ (was.mid ++ a ∷ rest) = ap (λ (m : List ℕ). m ++ a ∷ rest) was.place ∙ append_assoc was.before (was.d ∷ was.mid) (a ∷ rest) in
          let by : IsPoppedBy p (Stack []) was.before was.d was.mid a = record {
            item = v;
            below = top.0;
            so_far = was.so_far;
            pushes = was.pushes;
            step = was.step;
            popped = record {
              stays = was.stays;
              pops = (one.0, one.1, one.2, rw one.3.1 refl);
              step = step;
            };
          } in
          let there : In b (xs ++ a ∷ rest) = in_late b xs (a ∷ rest) (inr (in_late b mid (b ∷ late) (inl refl))) in
          let same : b ≡ a = one_popper p exact [] was.before was.d was.mid a rest end by (subst IsDistinct place run.distinct) (subst (λ (m : List ℕ). Legal p (Stack []) m end) place all) v was.pushes (λ d h puts. once d was.d puts was.pushes) (λ h. h) b (subst (λ (m : List ℕ). In b m) place there) two in
          (distinct_late xs (a ∷ rest) run.distinct).0 (subst (λ (n : ℕ). In n rest) same (in_late b mid (b ∷ late) (inl refl)))

module _ {Object : Type 0} (p : ProblemParts Object ObjState Op Reply) where
  -- a call that returned with an item is completed
  took_done : (c : ℕ) (v : ℤ) → Took (any_problem p) c v → IsCompleted (any_problem p) c
  took_done c v took = rw (took.1, took.3.1) refl

  popped_done : (c : ℕ) (v : ℤ) → Popped (any_problem p) c v → IsCompleted (any_problem p) c
  popped_done c v popped = rw (popped.1, popped.3.1) refl

  -- of either
  pub taken_twice_none : IsTakenTwice (any_problem p) → (l : List ℕ) → IsLinearization (any_problem p) l → ⊥
  taken_twice_none (v, y, z, other, inl (queue, one), inl (again, two), once) =
      in_turn (any_problem p) (λ c. Took (any_problem p) c v) (λ xs a mid b late run h k. not_taken_again (of_any p [] queue) xs a mid b late run v (λ a b h k. once a b (inl h) (inl k)) (λ h. h) h k) y z other (took_done y v one) (took_done z v two) one two
  taken_twice_none (v, y, z, other, inr (stack, one), inr (again, two), once) =
      in_turn (any_problem p) (λ c. Popped (any_problem p) c v) (not_popped_again (record { after_is = λ s process op. refl; exact = reply_same }) stack v (λ a b h k. once a b (inr h) (inr k))) y z other (popped_done y v one) (popped_done z v two) one two
  taken_twice_none (v, y, z, other, inl (queue, one), inr (stack, two), once) = absurd (cc)
  taken_twice_none (v, y, z, other, inr (stack, one), inl (queue, two), once) = absurd (cc)
