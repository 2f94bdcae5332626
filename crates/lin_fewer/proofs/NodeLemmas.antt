-- Nodes: which calls are covered, and that a block whose calls are all covered has no completion.
use Rattle.std.proofs.Common.{◌≡◌, ℕ, zero, suc, ◌<◌, ◌≤◌, Bool, Some, List, [], ◌∷◌, length, sym, subst, arith}
use Rattle.std.specs.Prelude.{slice_get}
use Rattle.lin_history.specs.Problems.Problem.{Problem}
use Rattle.lin_history.specs.Problems.Precedence.{IsCompleted}
use Rattle.lin_history.specs.Problems.Continuations.{IsCompletion}
use Rattle.lin_search.specs.AlikeLemmas.{AreAlike}
use Rattle.lin_search.specs.Configuration.{Configuration}
use Rattle.lin_search.specs.NextCall.{IsNext, HasEveryCompleted}
use Rattle.lin_search.specs.NeedlessCalls.{exchange, LeavesStates}
use Rattle.lin_search.specs.ExchangeLemmas.{exchange_length, exchanged_completes}
use Rattle.lin_search.specs.FirstCallLemmas.{completion_split, complete_none, tail_completes}
use Rattle.lin_search.specs.FrontLemmas.{none_either}
use Rattle.lin_search.specs.Answer.{HasNoCompletion}
use Rattle.lin_fewer.specs.Fewer.{FewerLaw}
use Rattle.lin_fewer.specs.Knowledge.{HasEarlier}
use Rattle.lin_fewer.specs.Fronts.{IsFirstLeft}
use Rattle.lin_fewer.specs.Turns.{IsNeedless}
use Rattle.lin_fewer.specs.Nodes.{Node, NoneBegins, HasShorter, IsCovered, HasNoWorse, IsChild}

module _ {State Op Reply : Type 0} (p : Problem State Op Reply) where
  -- ---- no completion begins with a call

  module _ (x : Configuration State) (c : ℕ) (flags : length x.lifted ≡ length p.calls) where
    pub child_completes : (child : Configuration State) → IsChild p x c child → (l : List ℕ) → IsCompletion p x.lifted x.state (c ∷ l) → IsCompletion p child.lifted child.state l
    child_completes child is l k = subst (λ (a : List Bool). IsCompletion p a child.state l) (sym is.lifted) (tail_completes p x.lifted x.state c child.state flags is.next l k)

    pub none_by_child : (child : Configuration State) → IsChild p x c child → HasNoCompletion p child.lifted child.state → NoneBegins p x.lifted x.state c
    none_by_child child is none l k = none l (child_completes child is l k)

    pub none_not_next : ((t : State) → IsNext p x.lifted x.state c t → ⊥) → NoneBegins p x.lifted x.state c
    none_not_next none l k = let parts = completion_split p x.lifted x.state c l flags k in none parts.0 parts.1

    pub none_alone : AreAlike p p → LeavesStates p c → (child : Configuration State) → IsChild p x c child → HasNoCompletion p child.lifted child.state → HasNoCompletion p x.lifted x.state
    none_alone alike leaves child is none = none_either p alike c leaves x.lifted x.state child.state is.next flags (subst (λ (a : List Bool). HasNoCompletion p a child.state) is.lifted none)

  module _ (alike : AreAlike p p) (set : List Bool) (s : State) (c : ℕ) (same : HasEarlier p set c) where
    pub begins_earlier : (l : List ℕ) → IsCompletion p set s (c ∷ l) → IsCompletion p set s (same.earlier ∷ exchange same.earlier c l)
    begins_earlier l k = exchanged_completes p alike set s same.earlier c (same.stands s) l k

    pub none_identical : ((d : ℕ) → d < c → NoneBegins p set s d) → NoneBegins p set s c
    none_identical before l k = before same.earlier (same.stands s).less (exchange same.earlier c l) (begins_earlier l k)

    pub none_identical_completed : IsCompleted p c → ((d : ℕ) → d < c → IsCompleted p d → NoneBegins p set s d) → NoneBegins p set s c
    none_identical_completed done before l k = before same.earlier (same.stands s).less ((same.stands s).completed done) (exchange same.earlier c l) (begins_earlier l k)

  -- ---- calls that are covered

  module _ (nodes : List (Node State)) (low high : ℕ) (x : Configuration State) (c : ℕ) where
    pub covered_none : NoneBegins p x.lifted x.state c → IsCovered p nodes low high x c
    covered_none none l k = absurd (none l k)

    pub covered_no_worse : FewerLaw p → length x.lifted ≡ length p.calls → (child : Configuration State) → IsChild p x c child → HasNoWorse p nodes low high child → IsCovered p nodes low high x c
    covered_no_worse fewer flags child is h l k =
        (h.0, h.1, h.2, h.3, h.4, (l, (fewer h.1.config.lifted child.lifted h.1.config.state child.state h.5).completions l (child_completes x c flags child is l k), omega arith))

    pub covered_identical : AreAlike p p → (same : HasEarlier p x.lifted c) → IsCovered p nodes low high x same.earlier → IsCovered p nodes low high x c
    covered_identical alike same covered l k =
        subst (λ (n : ℕ). HasShorter p nodes low high n) (exchange_length same.earlier c l) (covered (exchange same.earlier c l) (begins_earlier alike x.lifted x.state c same l k))

  pub covered_needless : (nodes : List (Node State)) (low high k : ℕ) (x : Node State) (c : ℕ) → low ≤ k → k < high → slice_get nodes k ≡ Some x → IsNeedless p x.config c → IsCovered p nodes low high x.config c
  covered_needless nodes low high k x c up within at needless l h = let m = needless l h in (k, x, up, within, at, (m.0, m.1, m.2))

  pub shorter_wider : (old new : List (Node State)) (low high more n : ℕ) → ((k : ℕ) (z : Node State) → k < high → slice_get old k ≡ Some z → slice_get new k ≡ Some z) → high ≤ more → HasShorter p old low high n → HasShorter p new low more n
  shorter_wider old new low high more n keeps up h = (h.0, h.1, h.2, (let less = h.3 in omega (arith, less, up)), keeps h.0 h.1 h.3 h.4, h.5)

  pub covered_wider : (old new : List (Node State)) (low high more : ℕ) (x : Configuration State) (c : ℕ) → ((k : ℕ) (z : Node State) → k < high → slice_get old k ≡ Some z → slice_get new k ≡ Some z) → high ≤ more → IsCovered p old low high x c → IsCovered p new low more x c
  covered_wider old new low high more x c keeps up h l k = shorter_wider old new low high more (length l) keeps up (h l k)

  -- ---- a block

  pub incomplete : (set : List Bool) (first : ℕ) → IsFirstLeft p set first → HasEveryCompleted p set → ⊥
  incomplete set first is every = let e = every first is.completed in let f = is.outside in absurd (cc)

  module _ (nodes : List (Node State)) (low high : ℕ)
      (open_ : (k : ℕ) (x : Node State) → low ≤ k → k < high → slice_get nodes k ≡ Some x → (HasEveryCompleted p x.config.lifted → ⊥))
      (covered : (k : ℕ) (x : Node State) → low ≤ k → k < high → slice_get nodes k ≡ Some x → (c : ℕ) → IsCovered p nodes low high x.config c) where
    block_up_to : (n : ℕ) (k : ℕ) (x : Node State) → low ≤ k → k < high → slice_get nodes k ≡ Some x → (l : List ℕ) → length l ≤ n → IsCompletion p x.config.lifted x.config.state l → ⊥
    block_up_to n k x up within at [] short h = open_ k x up within at (complete_none p x.config.lifted x.config.state h)
    block_up_to zero k x up within at (c ∷ l) short h = absurd (omega (arith, short))
    block_up_to (suc n) k x up within at (c ∷ l) short h =
        let o = covered k x up within at c l h in
        block_up_to n o.0 o.1 o.2 o.3 o.4 o.5.0 (let a = o.5.2 in omega (arith, a, short)) o.5.1

    pub block_none : (k : ℕ) (x : Node State) → low ≤ k → k < high → slice_get nodes k ≡ Some x → HasNoCompletion p x.config.lifted x.config.state
    block_none k x up within at l h = block_up_to (length l) k x up within at l (omega arith) h
