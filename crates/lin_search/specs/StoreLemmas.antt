-- What a store holds, as pairs are added at its end.
use Rattle.std.specs.Prelude.{◌≡◌, Bool, true, List, [], ◌∷◌, ◌++◌, ◌⊎◌, refl}
use Rattle.std.proofs.Common.{inl, inr, sym, ◌∙◌, append-nil, append_assoc}
use Rattle.std.specs.Cmp.{IsEquivalence}
use Rattle.lin_history.specs.Problems.ProblemParts.{ProblemParts}
use Rattle.lin_search.specs.declared.longest.Longest.{Longest}
use Rattle.lin_search.specs.Configuration.{Configuration}
use Rattle.lin_search.specs.Store.{Store, Holds, IsGrown}

module _ {State : Type 0} (same : State → State → Bool) where
  pub held_at_equal : IsEquivalence same → (es : List (Configuration State × Longest)) (set : List Bool) (s t : State) → same s t ≡ true → Holds same es set s → Holds same es set t
  held_at_equal equal [] set s t e h = absurd h
  held_at_equal equal (x ∷ es) set s t e h = elim h [ inl q ↦ inl (q.0, sym (equal.congr s t x.0.state e) ∙ q.1) | inr q ↦ inr (held_at_equal equal es set s t e q) ]

  held_append : (es more : List (Configuration State × Longest)) (set : List Bool) (s : State) → Holds same es set s → Holds same (es ++ more) set s
  held_append [] more set s h = absurd h
  held_append (x ∷ es) more set s h = elim h [ inl q ↦ inl q | inr q ↦ inr (held_append es more set s q) ]

  -- a pair that is added at the end
  pub held_last : (es : List (Configuration State × Longest)) (e : Configuration State × Longest) (set : List Bool) (s : State) → set ≡ e.0.lifted → same s e.0.state ≡ true → Holds same (es ++ e ∷ []) set s
  held_last [] e set s a b = inl (a, b)
  held_last (x ∷ es) e set s a b = inr (held_last es e set s a b)

  pub held_split : (es : List (Configuration State × Longest)) (e : Configuration State × Longest) (set : List Bool) (s : State) → Holds same (es ++ e ∷ []) set s → Holds same es set s ⊎ ((set ≡ e.0.lifted) × (same s e.0.state ≡ true))
  held_split [] e set s h = elim h [ inl q ↦ inr q | inr q ↦ absurd q ]
  held_split (x ∷ es) e set s h = elim h [ inl q ↦ inl (inl q) | inr q ↦ elim (held_split es e set s q) [ inl r ↦ inl (inr r) | inr r ↦ inr r ] ]

module _ {Object State Op Reply : Type 0} where
  pub held_grown : (same : State → State → Bool) (a b : Store Object State Op Reply) → IsGrown a b → (set : List Bool) (s : State) → Holds same a.pairs set s → Holds same b.pairs set s
  held_grown same a b k set s h = let q = k.more in rw (q.1) (held_append same a.pairs q.0 set s h)

  pub grown_itself : (a : Store Object State Op Reply) → IsGrown a a
  grown_itself a = record { problem = refl; more = ([], sym (append-nil a.pairs)) }

  pub grown_twice : (a b c : Store Object State Op Reply) → IsGrown a b → IsGrown b c → IsGrown a c
  grown_twice a b c k m =
      let q = k.more in let r = m.more in
      record { problem = m.problem ∙ k.problem; more = (q.0 ++ r.0, rw (r.1, q.1) (append_assoc a.pairs q.0 r.0)) }

  -- the store goes on naming the problem
  pub named_still : (P : ProblemParts Object State Op Reply → Type 0) (a b : Store Object State Op Reply) → IsGrown a b → P a.problem → P b.problem
  named_still P a b k h = rw k.problem h
