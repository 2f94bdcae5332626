-- Fewer used is never worse.
use Rattle.std.proofs.Common.{◌≡◌, ℕ, ◌<◌, Bool, true, false, Option, Some, None, List, ◌⊎◌, inl, inr, refl}
use Rattle.std.specs.Prelude.{IsSome, IsSomeAnd, slice_get}
use Rattle.lin_history.specs.declared.problems.problem.ProblemCall.{ProblemCall}
use Rattle.lin_history.specs.Problems.Problem.{Problem}
use Rattle.lin_history.specs.Problems.Precedence.{Before, IsCompleted}
use Rattle.lin_history.specs.Problems.Continuations.{has, IsContinuation, IsCompletion}
use Rattle.lin_search.specs.AlikeLemmas.{AreAlike, turned, like_continuation, like_completion}
use Rattle.lin_fewer.specs.Fewer.{UsedFewer, FewerLaw}

returned : {Op Reply : Type 0} (o : Option (ProblemCall Op Reply)) (P : ℕ × Reply → Type 0) → IsSomeAnd o (λ x. IsSomeAnd x.returned P) → IsSomeAnd o (λ x. IsSome x.returned)
returned None P h = h
returned (Some x) P h = is_there x.returned h
  where
    is_there : (r : Option (ℕ × _)) → IsSomeAnd r P → IsSome r
    is_there None k = absurd k
    is_there (Some r) k = refl

pub completed_or_not : {Op Reply : Type 0} (o : Option (ProblemCall Op Reply)) → IsSomeAnd o (λ x. IsSome x.returned) ⊎ (IsSomeAnd o (λ x. IsSome x.returned) → ⊥)
completed_or_not None = inr (λ h. h)
completed_or_not {Reply = Reply} (Some x) = either x.returned
  where
    either : (r : Option (ℕ × Reply)) → IsSome r ⊎ (IsSome r → ⊥)
    either None = inr (λ h. absurd (cc))
    either (Some r) = inl refl

true_is_not : (b : Bool) → (b ≡ true → ⊥) → b ≡ false
true_is_not true h = absurd (h refl)
true_is_not false h = refl

module _ {State Op Reply : Type 0} (p : Problem State Op Reply) where
  pub before_completed : (a b : ℕ) → Before p a b → IsCompleted p a
  before_completed a b before = returned (slice_get p.calls a) (λ r. IsSomeAnd (slice_get p.calls b) (λ y. r.0 < y.called)) before

  module _ (a b : List Bool) (s : State) (fewer : UsedFewer p a b) where
    fewer_continuation : (l : List ℕ) → IsContinuation p b s l → IsContinuation p a s l
    fewer_continuation l k = record {
      distinct = k.distinct;
      outside = λ c h. true_is_not (has a c) (λ e. (let f = fewer.subset c e in let g = k.outside c h in cc));
      legal = k.legal;
      ordered = λ early x late e y before. elim (k.ordered early x late e y before) [
        | inl h ↦ inl (fewer.completed y (before_completed y x before) h)
        | inr h ↦ inr h
      ];
    }

    fewer_completion : (l : List ℕ) → IsCompletion p b s l → IsCompletion p a s l
    fewer_completion l k = record {
      continuation = fewer_continuation l k.continuation;
      complete = λ c done. elim (k.complete c done) [ inl h ↦ inl (fewer.completed c done h) | inr h ↦ inr h ];
    }

  pub fewer_law : AreAlike p p → FewerLaw p
  fewer_law alike a b s t no_worse = record {
    continuations = λ l k. fewer_continuation a b s no_worse.fewer l (like_continuation alike.there b t s l (turned alike s t no_worse.state) k);
    completions = completes;
    none = λ none l k. none l (completes l k);
  }
    where
      completes : (l : List ℕ) → IsCompletion p b t l → IsCompletion p a s l
      completes l k = fewer_completion a b s no_worse.fewer l (like_completion alike.there b t s l (turned alike s t no_worse.state) k)
