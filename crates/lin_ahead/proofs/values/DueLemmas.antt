-- No call that changes the state stands in front of a call that is due: so no completion begins with a call that changes it, or makes the calls between that and one that is due change it.
use Rattle.std.proofs.Common.{◌≡◌, ◌≢◌, ℕ, Bool, true, false, Option, Some, None, List, [], ◌∷◌, ◌++◌, inl, inr, refl, sym, ◌∙◌, ap, subst, append_assoc}
use Rattle.std.proofs.Common.{Result, Ok, Err}
use Rattle.std.specs.Prelude.{IfOk, IsTrue}
use Rattle.lin_history.specs.Problems.Problem.{Problem}
use Rattle.lin_history.specs.Problems.Lists.{In}
use Rattle.lin_history.specs.Problems.ListLemmas.{apart, in_early, in_late, in_either, in_place}
use Rattle.lin_history.specs.Problems.LegalLists.{next, Legal}
use Rattle.lin_history.specs.Problems.Continuations.{IsCompletion}
use Rattle.lin_history.specs.Problems.Linearizations.{IsLinearization}
use Rattle.lin_history.specs.Problems.Configurations.{IsReachable}
use Rattle.lin_search.specs.NextCall.{IsNext}
use Rattle.lin_search.specs.AlikeLemmas.{AreAlike}
use Rattle.lin_ahead.specs.First.FirstProgress.{BeginsNone}
use Rattle.lin_ahead.specs.Values.Owners.{AllLeave, LastChange, IsOwnedBy}
use Rattle.lin_ahead.specs.Values.Due.{IsInWith, AreInWith, IsDue, AnotherIsDue, ComesBetween, TwoChange}
use Rattle.lin_ahead.proofs.first.NeedsLemmas.{place_split, joined}

pub told_ok : {E P Q : Type 0} (r : Result Bool E) → (P → Q) → IfOk r (λ found. IsTrue found → P) → IfOk r (λ found. IsTrue found → Q)
told_ok (Ok found) f k = λ e. f (k e)
told_ok (Err e) f k = k

cancel : (xs ys zs : List ℕ) → xs ++ ys ≡ xs ++ zs → ys ≡ zs
cancel [] ys zs e = e
cancel (x ∷ xs) ys zs e = cancel xs ys zs (cc)

same_call : {a b : ℕ} → Some a ≡ Some b → b ≡ a
same_call e = cc

pub in_with : (set : List Bool) (more : Option ℕ) (calls : List ℕ) → AreInWith set more calls → (w : ℕ) → In w calls → IsInWith set more w
in_with set more [] all w i = absurd i
in_with set more (c ∷ cs) all w i = elim i [
  | inl same ↦ subst (λ (d : ℕ). IsInWith set more d) (sym same) all.0
  | inr later ↦ in_with set more cs all.1 w later
]

module _ {State Op Reply : Type 0} (p : Problem State Op Reply) where
  legal_split : (xs ys : List ℕ) (s u : State) → Legal p s (xs ++ ys) u → (t : State) × Legal p s xs t × Legal p t ys u
  legal_split [] ys s u k = (s, refl, k)
  legal_split (x ∷ xs) ys s u k = (let r = legal_split xs ys k.0 u k.2 in (r.0, (k.0, k.1, r.1), r.2))

  same_end : (xs : List ℕ) (s t u : State) → Legal p s xs t → Legal p s xs u → t ≡ u
  same_end [] s t u a b = sym a ∙ b
  same_end (x ∷ xs) s t u a b = same_end xs a.0 t u a.2 (subst (λ (m : State). Legal p m xs u) (let f = a.1 in let g = b.1 in cc) b.2)

  legal_more : (xs : List ℕ) (c : ℕ) (s e t : State) → Legal p s xs e → next p e c ≡ Some t → Legal p s (xs ++ c ∷ []) t
  legal_more [] c s e t k step = (t, subst (λ (m : State). next p m c ≡ Some t) (sym k) step, refl)
  legal_more (x ∷ xs) c s e t k step = (k.0, k.1, legal_more xs c k.0 e t k.2 step)

module _ {State Op Reply : Type 0} (p : Problem State Op Reply) (identical : (a b : State) → p.same_state a b ≡ true → a ≡ b) where
  -- calls that leave a state as it is end where they begin
  leaves_end : (cs : List ℕ) (s t : State) → AllLeave p s cs → Legal p s cs t → t ≡ s
  leaves_end [] s t all k = sym k
  leaves_end (c ∷ cs) s t all k =
      let here = all c (inl refl) in
      let same : k.0 ≡ here.0 = (let f = here.1 in let g = k.1 in cc) in
      leaves_end cs s t (λ d i. all d (inr i)) (subst (λ (m : State). Legal p m cs t) (same ∙ identical here.0 s here.2) k.2)

  -- the owner stands in these calls: what follows it up to their end ends where the owner does
  after_owner : (before front owners : List ℕ) (e : State) → Legal p p.start before e → (last : LastChange p owners (before ++ front)) → (rest : List ℕ) → before ≡ last.front ++ last.owner ∷ rest → AllLeave p e front
  after_owner before front owners e legal last rest place =
      let both : last.owner ∷ last.since ≡ last.owner ∷ (rest ++ front) = cancel last.front (last.owner ∷ last.since) (last.owner ∷ (rest ++ front)) (sym last.place ∙ (ap (λ (l : List ℕ). l ++ front) place ∙ append_assoc last.front (last.owner ∷ rest) front)) in
      let since : last.since ≡ rest ++ front = cc in
      let kept : AllLeave p last.to (rest ++ front) = subst (λ (l : List ℕ). AllLeave p last.to l) since last.kept in
      let two = legal_split p last.front (last.owner ∷ rest) p.start e (subst (λ (l : List ℕ). Legal p p.start l e) place legal) in
      let from : two.0 ≡ last.from = same_end p last.front p.start two.0 last.from two.1 last.before in
      let to : two.2.0 ≡ last.to = (let f = two.2.1 in let g = last.step in cc) in
      let ends : e ≡ last.to = leaves_end rest last.to e (λ c i. kept c (in_early c rest front i)) (subst (λ (m : State). Legal p m rest e) to two.2.2) in
      subst (λ (m : State). AllLeave p m front) (sym ends) (λ c i. kept c (in_late c rest front i))

  -- where all owners of a call stand in these calls, what follows them in front of the call leaves the state as it is
  due_keeps : (before front : List ℕ) (g : ℕ) (late : List ℕ) (e : State) (owners : List ℕ) (at_start : Bool) → IsLinearization p (before ++ (front ++ g ∷ late)) → Legal p p.start before e → IsOwnedBy p owners at_start g → ((w : ℕ) → In w owners → In w before) → AllLeave p e front
  due_keeps before front g late e owners at_start whole legal owned inside =
      elim (owned (before ++ (front ++ g ∷ late)) (before ++ front) late whole (sym (append_assoc before front (g ∷ late)))) [
        | inl last ↦ elim (place_split before front last.front last.owner last.since last.place) [
          | inl q ↦ after_owner before front owners e legal last q.0 q.1
          | inr q ↦ absurd (apart last.owner before (front ++ g ∷ late) whole.continuation.distinct (inside last.owner last.one_of)
              (in_early last.owner front (g ∷ late) (subst (λ (l : List ℕ). In last.owner l) (sym q.2) (in_late last.owner q.0 (last.owner ∷ last.since) (inl refl)))))
        ]
        | inr q ↦
            let ends : e ≡ p.start = leaves_end before p.start e (λ c i. q.1 c (in_early c before front i)) legal in
            subst (λ (m : State). AllLeave p m front) (sym ends) (λ c i. q.1 c (in_late c before front i))
      ]

  module _ (alike : AreAlike p p) (set : List Bool) (s : State) (reachable : IsReachable p set s) (c : ℕ) (t : State) (step : IsNext p set s c t) where
    abbrev lifted : List ℕ
    lifted = reachable.run.0

    legal : Legal p p.start lifted s
    legal = subst (λ (m : State). Legal p p.start lifted m) (identical reachable.run.3.0 s reachable.run.3.2) reachable.run.3.1

    -- a call that is due and another than the next one stands behind it
    place_of : (more : Option ℕ) (g : ℕ) → IsDue p set more g → g ≢ c → (cs : List ℕ) → IsCompletion p set s (c ∷ cs) → (front : List ℕ) × (late : List ℕ) × (cs ≡ front ++ g ∷ late)
    place_of more g due other cs whole = elim (whole.complete g due.completed) [
      | inl inside ↦ absurd (due.outside (inl inside))
      | inr there ↦ elim there [
        | inl same ↦ absurd (other same)
        | inr later ↦ in_place g cs later
      ]
    ]

    -- no completion begins with a call that changes the state while another one is due
    pub another_begins_none : p.same_state t s ≡ false → AnotherIsDue p set c → BeginsNone p set s c
    another_begins_none changed another cs whole =
        let g = another.0 in
        let due = another.1 in
        let at = place_of None g due another.2 cs whole in
        let placed : IsCompletion p set s ((c ∷ at.0) ++ g ∷ at.1) = subst (λ (l : List ℕ). IsCompletion p set s (c ∷ l)) at.2 whole in
        let keeps = due_keeps lifted (c ∷ at.0) g at.1 s due.owners due.at_start (joined p alike set s reachable ((c ∷ at.0) ++ g ∷ at.1) placed) legal due.owned
        (λ w i. elim (due.inside w i) [ inl inside ↦ (reachable.run.2 w).0 inside | inr e ↦ absurd (cc) ]) in
        let here = keeps c (inl refl) in
        let same : here.0 ≡ t = (let f = here.1 in let n = step.step in cc) in
        let unchanged : p.same_state t s ≡ true = subst (λ (m : State). p.same_state m s ≡ true) same here.2 in
        cc

    abbrev before : List ℕ
    before = lifted ++ c ∷ []

    legal_behind : Legal p p.start before t
    legal_behind = legal_more p lifted c p.start s t legal step.step

    behind : (front : List ℕ) (g : ℕ) (late : List ℕ) → IsCompletion p set s (c ∷ (front ++ g ∷ late)) → IsLinearization p (before ++ (front ++ g ∷ late))
    behind front g late whole = subst (λ (l : List ℕ). IsLinearization p l) (sym (append_assoc lifted (c ∷ []) (front ++ g ∷ late))) (joined p alike set s reachable (c ∷ (front ++ g ∷ late)) whole)

    -- behind the next call, what stands in front of a call that is due leaves the state as it is
    keeps_behind : (g : ℕ) → IsDue p set (Some c) g → (front late : List ℕ) → IsCompletion p set s (c ∷ (front ++ g ∷ late)) → AllLeave p t front
    keeps_behind g due front late whole = due_keeps before front g late t due.owners due.at_start (behind front g late whole) legal_behind due.owned
        (λ w i. elim (due.inside w i) [
          | inl inside ↦ in_early w lifted (c ∷ []) ((reachable.run.2 w).0 inside)
          | inr e ↦ in_late w lifted (c ∷ []) (inl (same_call e))
        ])

    place_behind : (g : ℕ) → IsDue p set (Some c) g → (cs : List ℕ) → IsCompletion p set s (c ∷ cs) → (front : List ℕ) × (late : List ℕ) × (cs ≡ front ++ g ∷ late)
    place_behind g due cs whole = place_of (Some c) g due (λ e. due.outside (inr (ap Some (sym e)))) cs whole

    placed_behind : (g : ℕ) (cs front late : List ℕ) → cs ≡ front ++ g ∷ late → IsCompletion p set s (c ∷ cs) → IsCompletion p set s (c ∷ (front ++ g ∷ late))
    placed_behind g cs front late eq whole = subst (λ (l : List ℕ). IsCompletion p set s (c ∷ l)) eq whole

    -- no completion begins with a call behind which one is due that another one comes before, which does not leave the state as it is
    pub between_begins_none : ComesBetween p set c t → BeginsNone p set s c
    between_begins_none found cs whole =
        let g = found.0 in
        let x = found.1 in
        let due = found.2 in
        let out = found.3 in
        let at = place_behind g due cs whole in
        let placed = placed_behind g cs at.0 at.1 at.2 whole in
        let keeps = keeps_behind g due at.0 at.1 placed in
        elim (placed.continuation.ordered (c ∷ at.0) g at.1 refl x found.4) [
          | inl inside ↦ out (inl inside)
          | inr there ↦ elim there [
            | inl same ↦ out (inr (ap Some (sym same)))
            | inr front ↦ found.5 (keeps x front)
          ]
        ]

    -- nor with one behind which two are due that do not leave the state as it is
    pub two_begin_none : TwoChange p set c t → BeginsNone p set s c
    two_begin_none found cs whole =
        let g = found.0 in
        let h = found.1 in
        let at = place_behind g found.2 cs whole in
        let placed = placed_behind g cs at.0 at.1 at.2 whole in
        let next = place_behind h found.3 cs whole in
        let there : In h (at.0 ++ g ∷ at.1) = subst (λ (l : List ℕ). In h l) at.2 (subst (λ (l : List ℕ). In h l) (sym next.2) (in_late h next.0 (h ∷ next.1) (inl refl))) in
        elim (in_either h at.0 (g ∷ at.1) there) [
          | inl front ↦ found.6 (keeps_behind g found.2 at.0 at.1 placed h front)
          | inr late ↦ elim late [
            | inl same ↦ found.4 (sym same)
            | inr later ↦ (let more = in_place h at.1 later in
                let shape : cs ≡ (at.0 ++ g ∷ more.0) ++ h ∷ more.1 = at.2 ∙ (ap (λ (l : List ℕ). at.0 ++ g ∷ l) more.2 ∙ sym (append_assoc at.0 (g ∷ more.0) (h ∷ more.1))) in
                found.5 (keeps_behind h found.3 (at.0 ++ g ∷ more.0) more.1 (placed_behind h cs (at.0 ++ g ∷ more.0) more.1 shape whole) g (in_late g at.0 (g ∷ more.0) (inl refl))))
          ]
        ]
