-- Problems that say the same, and states that are equal: what holds of a configuration of the one holds in the other.
use Rattle.std.proofs.Common.{◌+◌, ◌≡◌, ℕ, Bool, true, false, Option, Some, None, List, [], ◌∷◌, length, replicate, refl, sym, ◌∙◌, subst}
use Rattle.std.specs.Prelude.{IfSome, IsSomeAnd}
use Rattle.std.specs.Cmp.{IsEquivalence}
use Rattle.lin_history.specs.Problems.Problem.{Problem}
use Rattle.lin_history.specs.Problems.Lists.{IsLongest}
use Rattle.lin_history.specs.Problems.LegalLists.{next, Legal}
use Rattle.lin_history.specs.Problems.Precedence.{Before, IsCompleted}
use Rattle.lin_history.specs.Problems.Continuations.{IsContinuation, IsCompletion, no_calls}
use Rattle.lin_history.specs.Problems.Linearizations.{IsRun}
use Rattle.lin_history.specs.Problems.Configurations.{IsReachable}
use Rattle.lin_search.specs.declared.longest.Longest.{Longest}
use Rattle.lin_search.specs.declared.outcome.Outcome.{Outcome}
use Rattle.lin_search.specs.declared.outcome.Outcome.TheVariants.{Found, Refuted, Undecided, Stopped}
use Rattle.lin_search.specs.Size.{EachOf, HasMany, HasMoreThan}
use Rattle.lin_search.specs.Answer.{IsAnswer}
use Rattle.lin_search.specs.Refutation.{IsRefutedWith}

-- what the one problem says of equal states, the other says too
pub record IsLike {State Op Reply : Type 0} (p q : Problem State Op Reply) : Type 0 where
  pub steps : (s t u : State) (c : ℕ) → p.same_state s t ≡ true → next p s c ≡ Some u → (v : State) × (next q t c ≡ Some v) × (p.same_state u v ≡ true)
  pub before : (a b : ℕ) → Before q a b → Before p a b
  pub completed : (a : ℕ) → IsCompleted q a → IsCompleted p a

module _ {State Op Reply : Type 0} {p q : Problem State Op Reply} (like : IsLike p q) where
  pub like_legal : (l : List ℕ) (s t e : State) → p.same_state s t ≡ true → Legal p s l e → (f : State) × Legal q t l f × (p.same_state e f ≡ true)
  like_legal [] s t e same k = (t, refl, subst (λ (x : State). p.same_state x t ≡ true) k same)
  like_legal (c ∷ cs) s t e same k =
      let n = like.steps s t k.0 c same k.1 in
      let r = like_legal cs k.0 n.0 e n.2 k.2 in
      (r.0, (n.0, n.1, r.1), r.2)

  pub like_continuation : (set : List Bool) (s t : State) (l : List ℕ) → p.same_state s t ≡ true → IsContinuation p set s l → IsContinuation q set t l
  like_continuation set s t l same k = record {
    distinct = k.distinct;
    outside = k.outside;
    legal = (let r = like_legal l s t k.legal.0 same k.legal.1 in (r.0, r.1));
    ordered = λ early b late e a before. k.ordered early b late e a (like.before a b before);
  }

  pub like_completion : (set : List Bool) (s t : State) (l : List ℕ) → p.same_state s t ≡ true → IsCompletion p set s l → IsCompletion q set t l
  like_completion set s t l same k = record {
    continuation = like_continuation set s t l same k.continuation;
    complete = λ c h. k.complete c (like.completed c h);
  }

-- each problem says what the other says, and they begin in equal states
pub record AreAlike {State Op Reply : Type 0} (p q : Problem State Op Reply) : Type 0 where
  pub there : IsLike p q
  pub back : IsLike q p
  pub same_test : (s t : State) → p.same_state s t ≡ q.same_state s t
  pub equal_states : IsEquivalence p.same_state
  pub starts : p.same_state p.start q.start ≡ true
  pub counts : length p.calls ≡ length q.calls

module _ {State Op Reply : Type 0} {p q : Problem State Op Reply} (alike : AreAlike p q) where
  -- equal states, the other way round, by the other problem's test
  pub turned : (s t : State) → p.same_state s t ≡ true → q.same_state t s ≡ true
  turned s t same = sym (alike.same_test t s) ∙ sym (alike.equal_states.symm s t) ∙ same

  chained : (s t u : State) → p.same_state s t ≡ true → p.same_state t u ≡ true → p.same_state s u ≡ true
  chained s t u e f = alike.equal_states.congr s t u e ∙ f

  pub alike_longest : (set : List Bool) (s t : State) (more : ℕ) (first : Option ℕ) → p.same_state s t ≡ true → IsLongest (IsContinuation p set s) more first → IsLongest (IsContinuation q set t) more first
  alike_longest set s t more first same k = record {
    there = (let h = k.there in (h.0, like_continuation alike.there set s t h.0 same h.1, h.2, h.3));
    greatest = λ l h. k.greatest l (like_continuation alike.back set t s l (turned s t same) h);
    least = λ l h. k.least l (like_continuation alike.back set t s l (turned s t same) h);
  }

  pub alike_reachable : (set : List Bool) (s t : State) → p.same_state s t ≡ true → IsReachable p set s → IsReachable q set t
  alike_reachable set s t same k =
      let r = k.run in
      let run : IsRun q r.0 = subst (λ (n : ℕ). IsContinuation q (none n) q.start r.0) alike.counts (like_continuation alike.there (no_calls p) p.start q.start r.0 alike.starts r.1) in
      let ends = like_legal alike.there r.0 p.start q.start r.3.0 alike.starts r.3.1 in
      let e = chained ends.0 r.3.0 t (sym (alike.equal_states.symm r.3.0 ends.0) ∙ ends.2) (chained r.3.0 s t r.3.2 same) in
      record {
        flags = k.flags ∙ alike.counts;
        run = (r.0, run, r.2, (ends.0, ends.1, sym (alike.same_test ends.0 t) ∙ e));
      }
    where
      none : ℕ → List Bool
      none n = replicate n false

  pub alike_refuted : (set : List Bool) (s t : State) (longest : Longest) → p.same_state s t ≡ true → IsRefutedWith p set s longest → IsRefutedWith q set t longest
  alike_refuted set s t longest same k = record {
    refuted = record {
      reachable = alike_reachable set s t same k.refuted.reachable;
      none = λ l h. k.refuted.none l (like_completion alike.back set t s l (turned s t same) h);
    };
    longest_is = alike_longest set s t longest.more longest.first same k.longest_is;
  }

  -- what is told of a configuration holds in the other problem
  pub told_alike : (set : List Bool) (s : State) (told : Option Longest) → IfSome told (λ (l : Longest). IsRefutedWith p set s l) → IfSome told (λ (l : Longest). IsRefutedWith q set s l)
  told_alike set s None h = tt
  told_alike set s (Some l) h = alike_refuted set s s l (alike.equal_states.refl s) h

  each_alike : (set : List Bool) (s t : State) → p.same_state s t ≡ true → (ls : List (List ℕ)) → EachOf (λ (l : List ℕ). IsContinuation p set s l × (l ≡ [] → ⊥)) ls → EachOf (λ (l : List ℕ). IsContinuation q set t l × (l ≡ [] → ⊥)) ls
  each_alike set s t same [] k = tt
  each_alike set s t same (l ∷ ls) k = ((like_continuation alike.there set s t l same k.0.0, k.0.1), each_alike set s t same ls k.1)

  pub alike_many : (set : List Bool) (s t : State) (n : ℕ) → p.same_state s t ≡ true → HasMany (IsContinuation p set s) n → HasMany (IsContinuation q set t) n
  alike_many set s t n same k = record { lists = k.lists; different = k.different; each = each_alike set s t same k.lists k.each; count = k.count }

  alike_more : (set : List Bool) (s t : State) (limit : Option ℕ) → p.same_state s t ≡ true → IsSomeAnd limit (λ most. HasMoreThan (IsContinuation p set s) most) → IsSomeAnd limit (λ most. HasMoreThan (IsContinuation q set t) most)
  alike_more set s t None same k = absurd k
  alike_more set s t (Some most) same k = alike_many set s t (most + 1) same k

  -- what an outcome says of a configuration, it says of one with an equal state
  pub alike_answer : (set : List Bool) (s t : State) (limit : Option ℕ) (tells : ℕ → Type 0) → p.same_state s t ≡ true → (o : Outcome) → IsAnswer p set s limit tells o → IsAnswer q set t limit tells o
  alike_answer set s t limit tells same (Found order) k =
      (like_completion alike.there set s t order same k.0, λ m h. k.1 m (like_completion alike.back set t s m (turned s t same) h))
  alike_answer set s t limit tells same (Refuted longest) k =
      (λ l h. k.0 l (like_completion alike.back set t s l (turned s t same) h), alike_longest set s t longest.more longest.first same k.1)
  alike_answer set s t limit tells same Undecided k = alike_more set s t limit same k
  alike_answer set s t limit tells same (Stopped told) k = k
