-- What the tasks of a cut tell of the whole problem.
use Rattle.std.proofs.Common.{◌≡◌, ℕ, zero, suc, ◌<◌, ◌≤◌, Bool, true, Some, List, [], ◌∷◌, ◌++◌, length, take, drop, ◌⊎◌, inl, inr, refl, sym, ◌∙◌, ap, subst, arith}
use Rattle.std.proofs.lemmas.List.{length-set}
use Rattle.std.specs.List.{slice_get}
use Rattle.lin_history.specs.Problems.Problem.{Problem}
use Rattle.lin_history.specs.Problems.Lists.{IsUpTo, IsLeast}
use Rattle.lin_history.specs.Problems.LegalLists.{Legal}
use Rattle.lin_history.specs.Problems.Continuations.{no_calls, IsContinuation, IsCompletion}
use Rattle.lin_history.specs.Problems.Linearizations.{IsLinearization}
use Rattle.lin_search.specs.CallSet.{with_call, with_calls, lifted_set}
use Rattle.lin_search.specs.Answer.{HasNoCompletion}
use Rattle.lin_search.specs.FirstCallLemmas.{continuation_join, completion_split, completion_join, none_continues, complete_none}
use Rattle.lin_search.specs.AlikeLemmas.{AreAlike, turned, like_completion}
use Rattle.lin_workers.specs.Cut.{LeadsTo, Task, IsTask, IsCut, DecideBy}
use Rattle.lin_workers.proofs.RunLemmas.{some_once, joined, root_flags, leads_equal}
use Rattle.lin_workers.proofs.PathLemmas.{up_to_chain, up_to_both, up_to_parts}
use Rattle.lin_workers.proofs.LevelLemmas.{among_at, within_at, task_at, in_order_at}

two_parts : (n : ℕ) (l : List ℕ) → n ≤ length l → (l ≡ take n l ++ drop n l) × (length (take n l) ≡ n)
two_parts zero l h = (refl, refl)
two_parts (suc n) [] h = absurd (omega (arith, h))
two_parts (suc n) (c ∷ l) h = let r = two_parts n l (omega (arith, h)) in (ap (λ (x : List ℕ). c ∷ x) r.0, ap suc r.1)

module _ {State Op Reply : Type 0} (p : Problem State Op Reply) where
  -- a completion in two parts: where the first ends, the second completes
  record IsParted (set : List Bool) (s : State) (l m : List ℕ) : Type 0 where
    pub end : State
    pub front : IsContinuation p set s l
    pub legal : Legal p s l end
    pub rest : IsCompletion p (with_calls set l) end m

  parted : (set : List Bool) (s : State) (l m : List ℕ) → length set ≡ length p.calls → IsCompletion p set s (l ++ m) → IsParted set s l m
  parted set s [] m flags k = record { end = s; front = none_continues p set s; legal = refl; rest = k }
  parted set s (c ∷ l) m flags k =
      let q = completion_split p set s c (l ++ m) flags k in
      let r = parted (with_call set c) q.0 l m (length-set set c true ∙ flags) q.2 in
      record { end = r.end; front = continuation_join p set s c l q.0 flags q.1 r.front; legal = (q.0, q.1.step, r.legal); rest = r.rest }

  module _ (alike : AreAlike p p) (k : ℕ) (ts : List (Task State)) (cut : IsCut p k ts) where
    -- a linearization has as many calls as the level
    long_enough : (l : List ℕ) → IsLinearization p l → k ≤ length l
    long_enough l h = elim (order k (length l)) [
      | inl q ↦ q
      | inr q ↦ absurd (
          let r = parted (no_calls p) p.start l [] (root_flags p) (subst (λ (x : List ℕ). IsLinearization p x) (end l) h) in
          cut.incomplete (length l) q (lifted_set p l) r.end (l, record { run = r.front; calls = refl; ends = (r.end, r.legal, alike.equal_states.refl r.end) }, refl) (complete_none p (lifted_set p l) r.end r.rest)
          )
    ]
      where
        order : (a b : ℕ) → (a ≤ b) ⊎ (b < a)
        order a b = grind arith

        end : (l : List ℕ) → l ≡ l ++ []
        end [] = refl
        end (c ∷ l) = ap (λ (x : List ℕ). c ∷ x) (end l)

    -- a linearization goes through the configuration of a task
    record IsThrough (l : List ℕ) : Type 0 where
      pub index : ℕ
      pub task : Task State
      pub at : slice_get ts index ≡ Some task
      pub front : List ℕ
      pub rest : List ℕ
      pub parts : l ≡ front ++ rest
      pub calls : length front ≡ k
      pub path : IsUpTo task.path front
      pub completes : IsCompletion p task.config.lifted task.config.state rest

    through : (l : List ℕ) → IsLinearization p l → IsThrough l
    through l h =
        let two = two_parts k l (long_enough l h) in
        let r = parted (no_calls p) p.start (take k l) (drop k l) (root_flags p) (subst (λ (x : List ℕ). IsLinearization p x) two.0 h) in
        let leads : LeadsTo p (take k l) (lifted_set p (take k l)) r.end = record { run = r.front; calls = refl; ends = (r.end, r.legal, alike.equal_states.refl r.end) } in
        let a = among_at p.same_state ts (lifted_set p (take k l)) r.end (cut.level.every (lifted_set p (take k l)) r.end (take k l, leads, two.1)) in
        let t = task_at p k ts a.0 a.1 cut.level.each a.2 in
        record {
          index = a.0;
          task = a.1;
          at = a.2;
          front = take k l;
          rest = drop k l;
          parts = two.0;
          calls = two.1;
          path = t.least.1 (take k l) (subst (λ (x : List Bool). LeadsTo p (take k l) x a.1.config.state) a.3 (leads_equal p alike (take k l) (lifted_set p (take k l)) r.end a.1.config.state a.4 leads));
          completes = subst (λ (x : List Bool). IsCompletion p x a.1.config.state (drop k l)) a.3 (like_completion alike.there (lifted_set p (take k l)) r.end a.1.config.state (drop k l) a.4 r.rest);
        }

    -- where no task has a completion, the problem has no linearization
    pub none_of_tasks : ((j : ℕ) (t : Task State) → slice_get ts j ≡ Some t → HasNoCompletion p t.config.lifted t.config.state) → (l : List ℕ) → IsLinearization p l → ⊥
    none_of_tasks none l h = let q = through l h in none q.index q.task q.at q.rest q.completes

    module _ (i : ℕ) (t : Task State) (at : slice_get ts i ≡ Some t) where
      task : IsTask p k t
      task = task_at p k ts i t cut.level.each at

      -- the path of a task, and then a completion of its configuration, is a linearization
      pub whole_of_task : (m : List ℕ) → IsCompletion p t.config.lifted t.config.state m → IsLinearization p (t.path ++ m)
      whole_of_task m h =
          let leads = task.least.0 in
          let e = leads.ends in
          joined p (IsCompletion p) (completion_join p) (no_calls p) p.start e.0 t.path m (root_flags p) leads.run e.1
          (like_completion alike.there (lifted_set p t.path) t.config.state e.0 m (turned alike e.0 t.config.state e.2) (subst (λ (x : List Bool). IsCompletion p x t.config.state m) leads.calls h))

      -- of the first task that has a completion the least one makes the least linearization
      pub least_of_tasks : ((j : ℕ) (u : Task State) → j < i → slice_get ts j ≡ Some u → HasNoCompletion p u.config.lifted u.config.state) → (m : List ℕ) → IsLeast (IsCompletion p t.config.lifted t.config.state) m → IsLeast (IsLinearization p) (t.path ++ m)
      least_of_tasks none m h = (whole_of_task m h.0, least)
        where
          order : (j : ℕ) → (j < i) ⊎ ((j ≡ i) ⊎ (i < j))
          order j = grind arith

          first : (l : List ℕ) (q : IsThrough l) → q.index ≡ i → IsUpTo (t.path ++ m) (q.front ++ q.rest)
          first l q x =
              let e : q.task ≡ t = some_once (slice_get ts i) q.task t (subst (λ (y : ℕ). slice_get ts y ≡ Some q.task) x q.at) at in
              up_to_parts t.path q.front m q.rest (task.calls ∙ sym q.calls) (subst (λ (y : Task State). IsUpTo y.path q.front) e q.path)
              (λ f. h.1 q.rest (subst (λ (y : Task State). IsCompletion p y.config.lifted y.config.state q.rest) e q.completes))

          later : (l : List ℕ) (q : IsThrough l) → i < q.index → IsUpTo (t.path ++ m) (q.front ++ q.rest)
          later l q x =
              let o = in_order_at ts i q.index t q.task cut.level.order x at q.at in
              up_to_parts t.path q.front m q.rest (task.calls ∙ sym q.calls) (up_to_chain t.path q.task.path q.front o.0 q.path)
              (λ f. absurd (o.1 (up_to_both t.path q.task.path o.0 (subst (λ (y : List ℕ). IsUpTo q.task.path y) (sym f) q.path))))

          least : (l : List ℕ) → IsLinearization p l → IsUpTo (t.path ++ m) l
          least l k =
              let q = through l k in
              subst (λ (y : List ℕ). IsUpTo (t.path ++ m) y) (sym q.parts) (elim (order q.index) [
                | inl x ↦ absurd (none q.index q.task x q.at q.rest q.completes)
                | inr (inl x) ↦ first l q x
                | inr (inr x) ↦ later l q x
              ])

    pub decided : DecideBy p ts
    decided = record {
      none = λ h l k. none_of_tasks (λ j t at. h j t (within_at ts j t at) at) l k;
      least = λ i t at h l k. least_of_tasks i t at h l k;
    }
