-- What is known of configurations tells of others.
use Rattle.std.proofs.Common.{◌≡◌, ℕ, ◌+◌, ◌<◌, ◌≤◌, Bool, true, false, Some, List, [], ◌∷◌, ◌++◌, length, inl, inr, sym, ◌∙◌, ap, subst, arith, replicate}
use Rattle.std.specs.Prelude.{slice_get}
use Rattle.std.proofs.lemmas.List.{length-replicate}
use Rattle.std.specs.Cmp.{IsEquivalence}
use Rattle.lin_history.specs.Problems.Problem.{Problem}
use Rattle.lin_history.specs.Problems.LegalLists.{next}
use Rattle.lin_history.specs.Problems.Precedence.{IsCompleted}
use Rattle.lin_history.specs.Problems.Continuations.{has, IsCompletion}
use Rattle.lin_search.specs.AlikeLemmas.{AreAlike, turned, like_completion}
use Rattle.lin_search.specs.CallSet.{with_call}
use Rattle.lin_search.specs.CallSetLemmas.{same_or_not, has_same, has_other, has_still, has_with, below_or_last, length_calls, no_calls_has}
use Rattle.lin_search.specs.Configuration.{Configuration}
use Rattle.lin_search.specs.FewerCalls.{IsFewerAt}
use Rattle.lin_search.specs.FirstCallLemmas.{completion_join, none_completes, next_within}
use Rattle.lin_search.specs.NextCall.{IsNext, HasEveryCompleted}
use Rattle.lin_search.specs.Answer.{HasNoCompletion}
use Rattle.lin_fewer.specs.Fewer.{UsedFewer, IsNoWorse, FewerLaw}
use Rattle.lin_fewer.specs.Knowledge.{IsBorne, IsStandIn, HasEvery, ArePending, ArePendingTo, IsEveryTo, HaveCompletions, HaveNoCompletions}
use Rattle.lin_fewer.specs.Nodes.{BearsBy}
use Rattle.lin_fewer.proofs.ReadLemmas.{get_end, has_past}
use Rattle.lin_fewer.proofs.FrontLemmas.{completed_within, least_or}

module _ {State Op Reply : Type 0} (p : Problem State Op Reply) where
  pub no_worse_by : (pending : List Bool) (a b : List Bool) (s t : State) → ArePending p pending → ((c : ℕ) → IsFewerAt a b pending c) → p.same_state s t ≡ true → IsNoWorse p a s b t
  no_worse_by pending a b s t are each same = record {
    fewer = record {
      subset = λ c h. (each c).more h;
      completed = λ c done h. elim ((each c).within h) [ inl e ↦ e | inr e ↦ absurd (are c e done) ];
    };
    state = same;
  }

  pub used_fewer_itself : (a : List Bool) → UsedFewer p a a
  used_fewer_itself a = record { subset = λ c h. h; completed = λ c done h. h }

  pub no_worse_itself : IsEquivalence p.same_state → (a : List Bool) (s : State) → IsNoWorse p a s a s
  no_worse_itself equal a s = record { fewer = used_fewer_itself a; state = equal.refl s }

  -- one that is no better than a refuted one
  pub refuted_by : FewerLaw p → (known : List (Configuration State)) → HaveNoCompletions p known → (k : ℕ) (x : Configuration State) → slice_get known k ≡ Some x → (set : List Bool) (s : State) → IsNoWorse p x.lifted x.state set s → HasNoCompletion p set s
  refuted_by fewer known are k x at set s no_worse = (fewer x.lifted set x.state s no_worse).none (are k x at)

  -- one that is no worse than one that has a completion
  pub borne_by : AreAlike p p → (known : List (Configuration State)) → HaveCompletions p known → (k : ℕ) (x : Configuration State) → slice_get known k ≡ Some x → (set : List Bool) (s : State) → IsNoWorse p set s x.lifted x.state → IsBorne p set s x.lifted
  borne_by alike known are k x at set s no_worse = record {
    flags = (are k x at).0;
    fewer = no_worse.fewer;
    completes = (let h = (are k x at).1 in (h.0, like_completion alike.there x.lifted x.state s h.0 (turned alike s x.state no_worse.state) h.1));
  }

  pub refuted_more : FewerLaw p → IsEquivalence p.same_state → (known : List (Configuration State)) → HaveNoCompletions p known → (set : List Bool) (s : State) → HasNoCompletion p set s → (copy : Configuration State) → copy.lifted ≡ set → p.same_state copy.state s ≡ true → HaveNoCompletions p (known ++ copy ∷ [])
  refuted_more fewer equal known are set s none copy lifted same k x at = elim (get_end known copy k x at) [
    | inl e ↦ are k x e
    | inr e ↦ subst (λ (y : Configuration State). HasNoCompletion p y.lifted y.state) e
        ((fewer set copy.lifted s copy.state (subst (λ (a : List Bool). IsNoWorse p set s a copy.state) (sym lifted) (record { fewer = used_fewer_itself set; state = equal.symm s copy.state ∙ same }))).none none)
  ]

  pub good_more : AreAlike p p → (known : List (Configuration State)) → HaveCompletions p known → (set : List Bool) (s : State) → length set ≡ length p.calls → ((l : List ℕ) × IsCompletion p set s l) → (copy : Configuration State) → copy.lifted ≡ set → p.same_state copy.state s ≡ true → HaveCompletions p (known ++ copy ∷ [])
  good_more alike known are set s flags h copy lifted same k x at = elim (get_end known copy k x at) [
    | inl e ↦ are k x e
    | inr e ↦ subst (λ (y : Configuration State). (length y.lifted ≡ length p.calls) × ((l : List ℕ) × IsCompletion p y.lifted y.state l)) e
        (ap length lifted ∙ flags, (h.0, subst (λ (a : List Bool). IsCompletion p a copy.state h.0) (sym lifted) (like_completion alike.there set s copy.state h.0 (turned alike copy.state s same) h.1)))
  ]

  -- where every completed call is lifted, the set of all calls will do
  pub borne_every : (set every : List Bool) (s : State) → length set ≡ length p.calls → HasEveryCompleted p set → HasEvery p every → IsBorne p set s every
  borne_every set every s flags all has_all = record {
    flags = has_all.flags;
    fewer = record {
      subset = λ c h. has_all.each c (elim (least_or c (length p.calls)) [ inl less ↦ less | inr past ↦ absurd (let e = has_past set c (omega (arith, flags, past)) in cc) ]);
      completed = λ c done h. all c done;
    };
    completes = ([], none_completes p every s (λ c done. has_all.each c (completed_within p c done)));
  }

  -- without the call that led to it
  pub borne_without : (x : Configuration State) (c : ℕ) (old new : List Bool) → length x.lifted ≡ length p.calls → (b : BearsBy p x c old) → with_call new c ≡ old → has new c ≡ false → IsBorne p x.lifted x.state new
  borne_without x c old new flags b with_ out = record {
    flags = same_length ∙ old_length;
    fewer = record {
      subset = λ d h. elim (same_or_not d c) [
        | inl e ↦ absurd (let o = b.next.outside in let k : has x.lifted c ≡ true = subst (λ (n : ℕ). has x.lifted n ≡ true) e h in cc)
        | inr n ↦ sym (has_other new c d n) ∙ ap (λ (a : List Bool). has a d) with_ ∙ b.bears.fewer.subset d (has_still x.lifted c d c_within h)
      ];
      completed = λ d done h. elim (has_with x.lifted c d (b.bears.fewer.completed d done (sym (ap (λ (a : List Bool). has a d) with_) ∙ has_still new c d new_within h))) [
        | inl e ↦ absurd (let k : has new c ≡ true = subst (λ (n : ℕ). has new n ≡ true) e h in cc)
        | inr k ↦ k
      ];
    };
    completes = (c ∷ b.bears.completes.0, completion_join p new x.state c b.bears.completes.0 b.state (same_length ∙ old_length) next_new (subst (λ (a : List Bool). IsCompletion p a b.state b.bears.completes.0) (sym with_) b.bears.completes.1));
  }
    where
      old_length : length old ≡ length p.calls
      old_length = b.bears.flags

      same_length : length new ≡ length old
      same_length = sym (length_calls new (c ∷ [])) ∙ ap length with_

      in_calls : c < length p.calls
      in_calls = next_within p x.state b.state c b.next.step

      c_within : c < length x.lifted
      c_within = let h = in_calls in omega (arith, h, flags)

      new_within : c < length new
      new_within = let h = in_calls in omega (arith, h, same_length, old_length)

      apart : (a : ℕ) → has x.lifted a ≡ true → a ≡ c → ⊥
      apart a h e = let o = b.next.outside in let k : has x.lifted c ≡ true = subst (λ (n : ℕ). has x.lifted n ≡ true) e h in absurd (cc)

      next_new : IsNext p new x.state c b.state
      next_new = record {
        outside = out;
        preceded = λ a before. (let h = b.next.preceded a before in sym (has_other new c a (λ e. apart a h e)) ∙ ap (λ (s : List Bool). has s a) with_ ∙ b.bears.fewer.subset a (has_still x.lifted c a c_within h));
        step = b.next.step;
      }

  -- without one that is identical to the call that led to it
  pub borne_instead : AreAlike p p → (x : Configuration State) (c d : ℕ) (old new : List Bool) → length x.lifted ≡ length p.calls → (b : BearsBy p x c old) → IsStandIn p x.lifted c d old → with_call new d ≡ old → has new d ≡ false → IsBorne p x.lifted x.state new
  borne_instead alike x c d old new flags b stand with_ out = record {
    flags = same_length ∙ old_length;
    fewer = record {
      subset = λ e h. elim (same_or_not e d) [
        | inl q ↦ absurd (let o = stand.minimal.outside in let k : has x.lifted d ≡ true = subst (λ (n : ℕ). has x.lifted n ≡ true) q h in cc)
        | inr n ↦ sym (has_other new d e n) ∙ old_has e h
      ];
      completed = λ e done h. elim (has_with x.lifted c e (b.bears.fewer.completed e done (sym (ap (λ (a : List Bool). has a e) with_) ∙ has_still new d e new_within h))) [
        | inl q ↦ absurd (stand.pending (subst (λ (n : ℕ). IsCompleted p n) q done))
        | inr k ↦ k
      ];
    };
    completes = (
      d ∷ b.bears.completes.0,
      completion_join p new x.state d b.bears.completes.0 after.0 (same_length ∙ old_length) next_new
          (subst (λ (a : List Bool). IsCompletion p a after.0 b.bears.completes.0) (sym with_) (like_completion alike.there old b.state after.0 b.bears.completes.0 after.2 b.bears.completes.1)),
    );
  }
    where
      old_length : length old ≡ length p.calls
      old_length = b.bears.flags

      same_length : length new ≡ length old
      same_length = sym (length_calls new (d ∷ [])) ∙ ap length with_

      c_within : c < length x.lifted
      c_within = let h = next_within p x.state b.state c b.next.step in omega (arith, h, flags)

      new_within : d < length new
      new_within = let h = stand.minimal.within in omega (arith, h, same_length, old_length)

      old_has : (e : ℕ) → has x.lifted e ≡ true → has (with_call new d) e ≡ true
      old_has e h = ap (λ (a : List Bool). has a e) with_ ∙ b.bears.fewer.subset e (has_still x.lifted c e c_within h)

      after : (w : State) × (next p x.state d ≡ Some w) × (p.same_state b.state w ≡ true)
      after = (stand.stands x.state b.next.outside).later x.state b.state b.next.step

      apart : (a : ℕ) → has x.lifted a ≡ true → a ≡ d → ⊥
      apart a h e = let o = stand.minimal.outside in let k : has x.lifted d ≡ true = subst (λ (n : ℕ). has x.lifted n ≡ true) e h in absurd (cc)

      next_new : IsNext p new x.state d after.0
      next_new = record {
        outside = out;
        preceded = λ a before. (let h = stand.minimal.preceded a before in sym (has_other new d a (λ e. apart a h e)) ∙ old_has a h);
        step = after.1;
      }

  -- what is borne gives a completion
  pub borne_completes : FewerLaw p → IsEquivalence p.same_state → (set : List Bool) (s : State) (borne : List Bool) → IsBorne p set s borne → (l : List ℕ) × IsCompletion p set s l
  borne_completes fewer equal set s borne b = (b.completes.0, (fewer set borne s s (record { fewer = b.fewer; state = equal.refl s })).completions b.completes.0 b.completes.1)

  pub borne_has : (x : Configuration State) (c : ℕ) (old : List Bool) → length x.lifted ≡ length p.calls → BearsBy p x c old → has old c ≡ true
  borne_has x c old flags b = b.bears.fewer.subset c (has_same x.lifted c (let h = next_within p x.state b.state c b.next.step in omega (arith, h, flags)))

  -- ---- the sets of all calls and of pending ones

  pub every_none : (n : ℕ) (set : List Bool) → n ≡ length p.calls → set ≡ replicate n false → IsEveryTo p set 0
  every_none n set e is = record {
    flags = ap length is ∙ length-replicate n false ∙ e;
    each = λ c less. absurd (omega (arith, less));
    later = λ c h. ap (λ (s : List Bool). has s c) is ∙ no_calls_has n c;
  }

  pub every_more : (set new : List Bool) (i : ℕ) → i < length p.calls → IsEveryTo p set i → new ≡ with_call set i → IsEveryTo p new (i + 1)
  every_more set new i within is e = record {
    flags = ap length e ∙ length_calls set (i ∷ []) ∙ is.flags;
    each = λ c less. ap (λ (s : List Bool). has s c) e ∙ (elim (below_or_last c i less) [
      | inl h ↦ has_still set i c i_within (is.each c h)
      | inr h ↦ subst (λ (n : ℕ). has (with_call set i) n ≡ true) (sym h) (has_same set i i_within)
    ]);
    later = λ c h. ap (λ (s : List Bool). has s c) e ∙ has_other set i c (λ q. absurd (omega (arith, h, q))) ∙ is.later c (omega (arith, h));
  }
    where
      i_within : i < length set
      i_within = let f = is.flags in omega (arith, f, within)

  pub every_end : (set : List Bool) (i : ℕ) → length p.calls ≤ i → IsEveryTo p set i → HasEvery p set
  every_end set i h is = record { flags = is.flags; each = λ c less. is.each c (omega (arith, h, less)) }

  pub pending_none : (n : ℕ) (set : List Bool) → n ≡ length p.calls → set ≡ replicate n false → ArePendingTo p set 0
  pending_none n set e is = record {
    flags = ap length is ∙ length-replicate n false ∙ e;
    are = λ c h done. absurd (let f = ap (λ (s : List Bool). has s c) is ∙ no_calls_has n c in cc);
    later = λ c h. ap (λ (s : List Bool). has s c) is ∙ no_calls_has n c;
  }

  pub pending_skip : (set : List Bool) (i : ℕ) → ArePendingTo p set i → ArePendingTo p set (i + 1)
  pending_skip set i is = record { flags = is.flags; are = is.are; later = λ c h. is.later c (omega (arith, h)) }

  pub pending_more : (set new : List Bool) (i : ℕ) → (IsCompleted p i → ⊥) → ArePendingTo p set i → new ≡ with_call set i → ArePendingTo p new (i + 1)
  pending_more set new i none is e = record {
    flags = ap length e ∙ length_calls set (i ∷ []) ∙ is.flags;
    are = λ c h done. elim (has_with set i c (sym (ap (λ (s : List Bool). has s c) e) ∙ h)) [
      | inl q ↦ none (subst (λ (n : ℕ). IsCompleted p n) q done)
      | inr k ↦ is.are c k done
    ];
    later = λ c h. ap (λ (s : List Bool). has s c) e ∙ has_other set i c (λ q. absurd (omega (arith, h, q))) ∙ is.later c (omega (arith, h));
  }
