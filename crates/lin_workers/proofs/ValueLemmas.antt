-- The values of a worker, task by task.
use Rattle.std.proofs.Common.{◌≡◌, ℕ, Option, Some, None, List, [], ◌∷◌, ◌++◌, ◌⊎◌, inl, inr, refl, sym, ◌∙◌, ap, subst, append_assoc, append-nil, arith}
use Rattle.std.specs.Prelude.{Contains, slice_get, is_none}
use Rattle.std.specs.Option.{option_to_list}
use Rattle.std.proofs.lemmas.List.Elements.{Contains-append_left, Contains-append_right}
use Rattle.lin_history.specs.Problems.Problem.{Problem}
use Rattle.lin_history.specs.Problems.Lists.{In, IsDistinct}
use Rattle.lin_search.specs.declared.outcome.Outcome.{Outcome}
use Rattle.lin_search.specs.declared.outcome.Outcome.TheVariants.{Found, Refuted, Undecided, Stopped}
use Rattle.lin_search.specs.Answer.{IsAnswer}
use Rattle.lin_board.specs.Facts.{SeatFacts}
use Rattle.lin_workers.specs.Cut.{Task}
use Rattle.lin_workers.specs.Heard.{HasHeard, HasFound, IsTold}
use Rattle.lin_workers.specs.Values.{IsValue, AreValues, tasks_of, if_found, found_of, HasBrought}

-- what the seat has claimed and was told it goes on having
record IsLater (old new : SeatFacts) : Type 0 where
  pub claimed : (x : ℕ) → Contains old.claimed x → Contains new.claimed x
  pub told : (x : ℕ) → Contains old.told x → Contains new.told x

module _ {State Op Reply : Type 0} (p : Problem State Op Reply) (ts : List (Task State)) (limit : Option ℕ) where
  answer_later : (a b : SeatFacts) (n : ℕ) (t : Task State) (o : Outcome) → IsLater a b → IsAnswer p t.config.lifted t.config.state limit (IsTold n a) o → IsAnswer p t.config.lifted t.config.state limit (IsTold n b) o
  answer_later a b n t (Found order) later k = k
  answer_later a b n t (Refuted longest) later k = k
  answer_later a b n t Undecided later k = k
  answer_later a b n t (Stopped told) later k = (k.0, later.told told k.1)

  values_later : (a b : SeatFacts) (vs : List (ℕ × Outcome)) → IsLater a b → AreValues p ts limit a vs → AreValues p ts limit b vs
  values_later a b [] later k = tt
  values_later a b (v ∷ vs) later k = (
    record { task = k.0.task; at = k.0.at; claimed = later.claimed v.0 k.0.claimed; answer = answer_later a b v.0 k.0.task v.1 later k.0.answer },
    values_later a b vs later k.1,
  )

  tasks_claimed : (a : SeatFacts) (vs : List (ℕ × Outcome)) (x : ℕ) → AreValues p ts limit a vs → In x (tasks_of vs) → Contains a.claimed x
  tasks_claimed a [] x k h = absurd h
  tasks_claimed a (v ∷ vs) x k h = elim h [
    | inl q ↦ subst (λ (y : ℕ). Contains a.claimed y) (sym q) k.0.claimed
    | inr q ↦ tasks_claimed a vs x k.1 q
  ]

  values_end : (a : SeatFacts) (vs : List (ℕ × Outcome)) (v : ℕ × Outcome) → AreValues p ts limit a vs → IsValue p ts limit a v → AreValues p ts limit a (vs ++ v ∷ [])
  values_end a [] v k h = (h, tt)
  values_end a (u ∷ vs) v k h = (k.0, values_end a vs v k.1 h)

in_end : (vs : List (ℕ × Outcome)) (v : ℕ × Outcome) (x : ℕ) → In x (tasks_of (vs ++ v ∷ [])) → In x (tasks_of vs) ⊎ (x ≡ v.0)
in_end [] v x h = elim h [ inl q ↦ inr q | inr q ↦ absurd q ]
in_end (u ∷ vs) v x h = elim h [ inl q ↦ inl (inl q) | inr q ↦ elim (in_end vs v x q) [ inl r ↦ inl (inr r) | inr r ↦ inr r ] ]

once_end : (vs : List (ℕ × Outcome)) (v : ℕ × Outcome) → IsDistinct (tasks_of vs) → (In v.0 (tasks_of vs) → ⊥) → IsDistinct (tasks_of (vs ++ v ∷ []))
once_end [] v k fresh = (λ h. h, tt)
once_end (u ∷ vs) v k fresh = (
  λ h. elim (in_end vs v u.0 h) [ inl q ↦ k.0 q | inr q ↦ fresh (inl (sym q)) ],
  once_end vs v k.1 (λ h. fresh (inr h)),
)

found_append : (vs us : List (ℕ × Outcome)) → found_of (vs ++ us) ≡ found_of vs ++ found_of us
found_append [] us = refl
found_append (v ∷ vs) us = ap (λ (l : List ℕ). if_found v.0 v.1 ++ l) (found_append vs us) ∙ append_assoc' (if_found v.0 v.1) (found_of vs) (found_of us)
  where
    append_assoc' : (a b c : List ℕ) → a ++ (b ++ c) ≡ (a ++ b) ++ c
    append_assoc' [] b c = refl
    append_assoc' (x ∷ a) b c = ap (λ (l : List ℕ). x ∷ l) (append_assoc' a b c)

-- what was claimed first stands in front when more is claimed
claims_then : (start before after more : List ℕ) → (claims : List ℕ) × (before ≡ start ++ claims) → after ≡ before ++ more → (claims : List ℕ) × (after ≡ start ++ claims)
claims_then start before after more claims e = (claims.0 ++ more, e ∙ ap (λ (l : List ℕ). l ++ more) claims.1 ∙ append_assoc start claims.0 more)

-- nothing is brought before the first claim
pub brought_none : {State Op Reply : Type 0} (p : Problem State Op Reply) (ts : List (Task State)) (limit : Option ℕ) (a : SeatFacts) → HasBrought p ts limit a a []
brought_none p ts limit a = record { values = tt; once = tt; found = sym (append-nil a.found); claimed = ([], sym (append-nil a.claimed)) }

module _ {State Op Reply : Type 0} (p : Problem State Op Reply) (ts : List (Task State)) (limit : Option ℕ) (start s c : SeatFacts) (vs : List (ℕ × Outcome)) (n : ℕ) (answer : Option ℕ) (some : answer ≡ Some n) (claim : c ≡ record s { claimed = s.claimed ++ option_to_list answer; ended = is_none answer }) (brought : HasBrought p ts limit start s vs) where
  claimed_is : c.claimed ≡ s.claimed ++ n ∷ []
  claimed_is = ap (λ (x : SeatFacts). x.claimed) claim ∙ ap (λ (x : Option ℕ). s.claimed ++ option_to_list x) some

  told_is : c.told ≡ s.told
  told_is = ap (λ (x : SeatFacts). x.told) claim

  found_is : c.found ≡ s.found
  found_is = ap (λ (x : SeatFacts). x.found) claim

  has_claimed : Contains c.claimed n
  has_claimed = rw claimed_is (Contains-append_right s.claimed (n ∷ []) n (0, omega arith, refl))

  later_heard : (h : SeatFacts) → HasHeard c h → IsLater s h
  later_heard h k = record {
    claimed = λ x q. rw (k.claimed, claimed_is) (Contains-append_left s.claimed (n ∷ []) x q);
    told = λ x q. (let m = k.more in rw (m.1, told_is) (Contains-append_left s.told m.0 x q));
  }

  -- the task has no value
  pub brought_same : (h : SeatFacts) → HasHeard c h → HasBrought p ts limit start h vs
  brought_same h k = record {
    values = values_later p ts limit s h vs (later_heard h k) brought.values;
    once = brought.once;
    found = k.found ∙ found_is ∙ brought.found;
    claimed = claims_then start.claimed s.claimed h.claimed (n ∷ []) brought.claimed (k.claimed ∙ claimed_is);
  }

  -- the task's value was kept, or there was no memory for it
  pub brought_kept : (h e : SeatFacts) (o : Outcome) (t : Task State) (now : List (ℕ × Outcome)) → HasHeard c h → (Contains s.claimed n → ⊥) → slice_get ts n ≡ Some t → IsAnswer p t.config.lifted t.config.state limit (IsTold n h) o → (added : List (ℕ × Outcome)) × ((added ≡ []) ⊎ (added ≡ (n, o) ∷ [])) × (now ≡ vs ++ added) × HasFound h e (found_of added) → HasBrought p ts limit start e now
  brought_kept h e o t now heard fresh at answers kept =
      let f = kept.3 in
      let later : IsLater s e = record {
        claimed = λ x q. rw f.claimed ((later_heard h heard).claimed x q);
        told = λ x q. rw f.told ((later_heard h heard).told x q);
      } in
      let before = brought_same h heard in
      let claims : (claims : List ℕ) × (e.claimed ≡ start.claimed ++ claims) = claims_then start.claimed s.claimed e.claimed (n ∷ []) brought.claimed (f.claimed ∙ heard.claimed ∙ claimed_is) in
      let found : e.found ≡ start.found ++ found_of now = f.found ∙ ap (λ (l : List ℕ). l ++ found_of kept.0) before.found ∙ append_assoc start.found (found_of vs) (found_of kept.0) ∙ ap (λ (l : List ℕ). start.found ++ l) (sym (found_append vs kept.0)) ∙ ap (λ (l : List (ℕ × Outcome)). start.found ++ found_of l) (sym kept.2) in
      elim kept.1 [
        | inl none ↦ (
            let same : now ≡ vs = kept.2 ∙ ap (λ (l : List (ℕ × Outcome)). vs ++ l) none ∙ append-nil vs in
            record {
              values = rw same (values_later p ts limit s e vs later brought.values);
              once = rw same brought.once;
              found = found;
              claimed = claims;
            }
            )
        | inr one ↦ (
            let same : now ≡ vs ++ (n, o) ∷ [] = kept.2 ∙ ap (λ (l : List (ℕ × Outcome)). vs ++ l) one in
            let value : IsValue p ts limit e (n, o) = record {
              task = t;
              at = at;
              claimed = rw (f.claimed, heard.claimed) has_claimed;
              answer = answer_later p ts limit h e n t o (record { claimed = λ x q. rw f.claimed q; told = λ x q. rw f.told q }) answers;
            } in
            record {
              values = rw same (values_end p ts limit e vs (n, o) (values_later p ts limit s e vs later brought.values) value);
              once = rw same (once_end vs (n, o) brought.once (λ h. fresh (tasks_claimed p ts limit s vs n brought.values h)));
              found = found;
              claimed = claims;
            }
            )
      ]

-- no task is left
pub brought_ended : {State Op Reply : Type 0} (p : Problem State Op Reply) (ts : List (Task State)) (limit : Option ℕ) (start s c : SeatFacts) (vs : List (ℕ × Outcome)) (answer : Option ℕ) → answer ≡ None → c ≡ record s { claimed = s.claimed ++ option_to_list answer; ended = is_none answer } → HasBrought p ts limit start s vs → HasBrought p ts limit start c vs
brought_ended p ts limit start s c vs answer none claim brought =
    let claimed_is : c.claimed ≡ s.claimed ++ [] = ap (λ (x : SeatFacts). x.claimed) claim ∙ ap (λ (x : Option ℕ). s.claimed ++ option_to_list x) none in
    let told_is : c.told ≡ s.told = ap (λ (x : SeatFacts). x.told) claim in
    let found_is : c.found ≡ s.found = ap (λ (x : SeatFacts). x.found) claim in
    record {
      values = values_later p ts limit s c vs (record { claimed = λ x q. rw claimed_is (Contains-append_left s.claimed [] x q); told = λ x q. rw told_is q }) brought.values;
      once = brought.once;
      found = found_is ∙ brought.found;
      claimed = claims_then start.claimed s.claimed c.claimed [] brought.claimed claimed_is;
    }

-- the values stand when the seat is told more
pub values_heard : {State Op Reply : Type 0} (p : Problem State Op Reply) (ts : List (Task State)) (limit : Option ℕ) (a b : SeatFacts) (vs : List (ℕ × Outcome)) → HasHeard a b → AreValues p ts limit a vs → AreValues p ts limit b vs
values_heard p ts limit a b vs h k =
    values_later p ts limit a b vs
    (record {
      claimed = λ x c. rw h.claimed c;
      told = λ x c. rw h.more.1 (Contains-append_left a.told h.more.0 x c);
    })
    k
