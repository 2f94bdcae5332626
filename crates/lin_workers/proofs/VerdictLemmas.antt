-- What the task whose turn it is tells of the whole problem.
use Rattle.std.proofs.Common.{◌≡◌, ℕ, suc, ◌+◌, ◌<◌, Bool, Option, Some, None, List, [], ◌∷◌, ◌++◌, length, ◌⊎◌, inl, inr, refl, sym, ◌∙◌, ap, subst, arith}
use Rattle.std.specs.Prelude.{IsSomeAnd, slice_get}
use Rattle.lin_history.specs.Problems.Problem.{Problem}
use Rattle.lin_history.specs.Problems.Lists.{IsLeast}
use Rattle.lin_history.specs.Problems.Continuations.{no_calls, IsContinuation, IsCompletion}
use Rattle.lin_history.specs.Problems.Linearizations.{IsRun, IsLinearization}
use Rattle.lin_search.specs.Answer.{HasNoCompletion}
use Rattle.lin_search.specs.CallSet.{lifted_set}
use Rattle.lin_search.specs.Size.{IsOneOf, AllDifferent, EachOf, HasMany, HasMoreThan}
use Rattle.lin_search.specs.FirstCallLemmas.{continuation_join}
use Rattle.lin_search.specs.AlikeLemmas.{AreAlike, turned, like_continuation}
use Rattle.lin_workers.specs.Cut.{LeadsTo, Task, HasNoneBefore}
use Rattle.lin_workers.specs.declared.verdict.ObjectVerdict.{ObjectVerdict}
use Rattle.lin_workers.specs.declared.verdict.ObjectVerdict.TheVariants.{Yes, No, Undecided}
use Rattle.lin_workers.specs.Bounds.{Bounds, without_time}
use Rattle.lin_workers.specs.Verdict.{IsNextTask, IsObjectVerdict}
use Rattle.lin_workers.proofs.RunLemmas.{some_once, joined, root_flags}
use Rattle.lin_workers.proofs.LevelLemmas.{task_at}

-- each list with these calls in front
abbrev after_path : List ℕ → List (List ℕ) → List (List ℕ)
after_path path [] = []
after_path path (l ∷ ls) = (path ++ l) ∷ after_path path ls

one_front : (path l m : List ℕ) → path ++ l ≡ path ++ m → l ≡ m
one_front [] l m e = e
one_front (c ∷ path) l m e = one_front path l m (rest e)
  where
    rest : {x : ℕ} {a b : List ℕ} → x ∷ a ≡ x ∷ b → a ≡ b
    rest e = cc

no_front : (path l : List ℕ) → path ++ l ≡ [] → l ≡ []
no_front [] l e = e
no_front (c ∷ path) l e = absurd (cc)

one_of_after : (path l : List ℕ) (ls : List (List ℕ)) → IsOneOf (path ++ l) (after_path path ls) → IsOneOf l ls
one_of_after path l [] h = absurd h
one_of_after path l (m ∷ ls) h = elim h [
  | inl q ↦ inl (one_front path l m q)
  | inr q ↦ inr (one_of_after path l ls q)
]

different_after : (path : List ℕ) (ls : List (List ℕ)) → AllDifferent ls → AllDifferent (after_path path ls)
different_after path [] h = tt
different_after path (l ∷ ls) h = (λ q. h.0 (one_of_after path l ls q), different_after path ls h.1)

length_after : (path : List ℕ) (ls : List (List ℕ)) → length (after_path path ls) ≡ length ls
length_after path [] = refl
length_after path (l ∷ ls) = ap suc (length_after path ls)

each_after : (P Q : List ℕ → Type 0) (path : List ℕ) (ls : List (List ℕ)) → ((l : List ℕ) → P l → Q (path ++ l)) → EachOf (λ (l : List ℕ). P l × (l ≡ [] → ⊥)) ls → EachOf (λ (l : List ℕ). Q l × (l ≡ [] → ⊥)) (after_path path ls)
each_after P Q path [] f h = tt
each_after P Q path (l ∷ ls) f h = ((f l h.0.0, λ e. h.0.1 (no_front path l e)), each_after P Q path ls f h.1)

module _ {State Op Reply : Type 0} (p : Problem State Op Reply) where
  module _ (alike : AreAlike p p) (t : Task State) (leads : LeadsTo p t.path t.config.lifted t.config.state) where
    -- the path of a task, and then a continuation of its configuration, is a run
    run_of_task : (m : List ℕ) → IsContinuation p t.config.lifted t.config.state m → IsRun p (t.path ++ m)
    run_of_task m h =
        let e = leads.ends in
        joined p (IsContinuation p) (continuation_join p) (no_calls p) p.start e.0 t.path m (root_flags p) leads.run e.1
        (like_continuation alike.there (lifted_set p t.path) t.config.state e.0 m (turned alike e.0 t.config.state e.2) (subst (λ (x : List Bool). IsContinuation p x t.config.state m) leads.calls h))

    -- a configuration that runs lead to has no more continuations than there are runs
    pub many_runs : (n : ℕ) → HasMany (IsContinuation p t.config.lifted t.config.state) n → HasMany (IsRun p) n
    many_runs n h = record {
      lists = after_path t.path h.lists;
      different = different_after t.path h.lists h.different;
      each = each_after (IsContinuation p t.config.lifted t.config.state) (IsRun p) t.path h.lists run_of_task h.each;
      count = length_after t.path h.lists ∙ h.count;
    }

  -- the least completion of the task makes the least linearization
  pub least_found : (t : Task State) → IsNextTask p t → (path : List ℕ) → t.path ≡ path → (m : List ℕ) → IsLeast (IsCompletion p t.config.lifted t.config.state) m → (order : List ℕ) → order ≡ path ++ m → IsLeast (IsLinearization p) order
  least_found t n path e m h order is = subst (λ (l : List ℕ). IsLeast (IsLinearization p) l) (ap (λ (l : List ℕ). l ++ m) e ∙ sym is) (n.decide.least n.index t n.at n.none m h)

  -- where the search of a task met the limit, there are more runs than that
  pub more_runs : AreAlike p p → (t : Task State) → IsNextTask p t → (limit : Option ℕ) → IsSomeAnd limit (λ most. HasMoreThan (IsContinuation p t.config.lifted t.config.state) most) → IsSomeAnd limit (λ most. HasMoreThan (IsRun p) most)
  more_runs alike t n None h = h
  more_runs alike t n (Some most) h = many_runs alike t (task_at p n.level n.tasks n.index t n.cut.level.each n.at).least.0 (most + 1) h

  -- none of the tasks up to this one has a completion
  pub none_up_to : (ts : List (Task State)) (i : ℕ) (t : Task State) → slice_get ts i ≡ Some t → HasNoneBefore p ts i → HasNoCompletion p t.config.lifted t.config.state → HasNoneBefore p ts (i + 1)
  none_up_to ts i t at none no_completion j u h e = elim (order j h) [
    | inl q ↦ none j u q e
    | inr q ↦ subst (λ (x : Task State). HasNoCompletion p x.config.lifted x.config.state) (some_once (slice_get ts i) t u at (subst (λ (x : ℕ). slice_get ts x ≡ Some u) q e)) no_completion
  ]
    where
      order : (j : ℕ) → j < i + 1 → (j < i) ⊎ (j ≡ i)
      order j h = grind arith

  -- a verdict within the limit alone is one within the limit and the time
  pub with_time : (bounds : Bounds) (v : ObjectVerdict) → IsObjectVerdict p (without_time bounds) v → IsObjectVerdict p bounds v
  with_time bounds (Yes order) k = k
  with_time bounds (No run) k = k
  with_time bounds Undecided (inl timed) = absurd (let none = timed in cc)
  with_time bounds Undecided (inr over) = inr over
