-- Orders of keys, merged, are a linearization of the whole.
use Rattle.std.proofs.Common.{◌≡◌, ℕ, ◌<◌, Some, List, [], ◌∷◌, ◌++◌, length, inl, inr, refl, sym, ◌∙◌, ap, subst, append_assoc, arith}
use Rattle.std.proofs.lemmas.Bool.{cases_lt}
use Rattle.lin_history.specs.declared.problems.problem.ProblemCall.{ProblemCall}
use Rattle.lin_history.specs.Problems.Lists.{In, IsDistinct, IsLeast}
use Rattle.lin_history.specs.Problems.ListLemmas.{distinct_early, has_none, in_early}
use Rattle.lin_history.specs.Problems.Problem.{Problem}
use Rattle.lin_history.specs.Problems.ProblemParts.{AreTimed}
use Rattle.lin_history.specs.Problems.LegalLists.{next, Legal}
use Rattle.lin_history.specs.Problems.Precedence.{Before, IsCompleted}
use Rattle.lin_history.specs.Problems.Linearizations.{IsLinearization}
use Rattle.lin_history.specs.Locality.OrderLemmas.{KeepsTime, keeps_time, earlier}
use Rattle.lin_search.specs.FirstCallLemmas.{next_within}
use Rattle.lin_parts.specs.Parts.{ArePart, IsFilled, name, named}
use Rattle.lin_decide.specs.Keys.Products.{with_key, IsProduct, part_of_key}
use Rattle.lin_decide.specs.Keys.Merging.{IsKeyOrder, IsKeyRun, IsMerged, IsTotal}
use Rattle.lin_parts.specs.PartLemmas.{legal_calls, completed_of, completed_back, distinct_named, legal_named, legal_there, keeps_named, name_in, next_named}
use Rattle.lin_parts.specs.RunLemmas.{before_later, legal_front}
use Rattle.lin_parts.specs.ListLemmas.{rising_distinct}
use Rattle.lin_decide.proofs.keys.FullLemmas.{full_linearization}
use Rattle.lin_decide.proofs.keys.KeyLemmas.{key_on, key_off, in_key, key_append, same_key_or_not}
use Rattle.lin_decide.proofs.keys.KeyPartLemmas.{merged_is_least}

module _ {State Op Reply : Type 0} (p : Problem State Op Reply) (key : ℕ → ℕ) (count : ℕ) (only : ℕ → State → State) (keeps : State → Type 0) (product : IsProduct p key count only keeps) where
  -- what is legal for each key by itself is legal
  legal_of_keys : (l : List ℕ) (s : State) → keeps s → ((c : ℕ) → In c l → key c < count) → ((k : ℕ) → k < count → (t : State) × Legal p (only k s) (with_key key k l) t) → (t : State) × Legal p s l t
  legal_of_keys [] s h inside each = (s, refl)
  legal_of_keys (c ∷ l) s h inside each =
      let b = product.back s first.0 c h first.1 in
      let rest = legal_of_keys l b.0 (product.kept s b.0 c h b.1) (λ d there. inside d (inr there)) (each_on b.0 b.1 b.2) in
      (rest.0, (b.0, b.1, rest.1))
    where
      known : key c < count
      known = inside c (inl refl)

      first : Legal p (only (key c) s) (c ∷ with_key key (key c) l) (each (key c) known).0
      first = subst (λ (y : List ℕ). Legal p (only (key c) s) y (each (key c) known).0) (key_on key (key c) c l refl) (each (key c) known).1

      each_on : (t : State) → next p s c ≡ Some t → only (key c) t ≡ first.0 → (k : ℕ) → k < count → (u : State) × Legal p (only k t) (with_key key k l) u
      each_on t e own k below = elim (same_key_or_not key k c) [
        | inl same ↦ subst (λ (j : ℕ). (u : State) × Legal p (only j t) (with_key key j l) u) same ((each (key c) known).0, subst (λ (v : State). Legal p v (with_key key (key c) l) (each (key c) known).0) (sym own) first.2)
        | inr other ↦ ((each k below).0, subst (λ (v : State). Legal p v (with_key key k l) (each k below).0) (sym (product.other s t c k h e below other)) (subst (λ (y : List ℕ). Legal p (only k s) y (each k below).0) (key_off key k c l other) (each k below).1))
      ]

  pub distinct_of_keys : (l : List ℕ) → ((k : ℕ) → IsDistinct (with_key key k l)) → IsDistinct l
  distinct_of_keys [] each = tt
  distinct_of_keys (c ∷ l) each = (fresh, distinct_of_keys l rest)
    where
      fresh : In c l → ⊥
      fresh h = (let d : IsDistinct (c ∷ with_key key (key c) l) = subst (λ (y : List ℕ). IsDistinct y) (key_on key (key c) c l refl) (each (key c)) in d.0 (in_key key (key c) c l h refl))

      rest : (k : ℕ) → IsDistinct (with_key key k l)
      rest k = elim (same_key_or_not key k c) [
        | inl e ↦ (let d : IsDistinct (c ∷ with_key key k l) = subst (λ (y : List ℕ). IsDistinct y) (key_on key k c l e) (each k) in d.1)
        | inr n ↦ subst (λ (y : List ℕ). IsDistinct y) (key_off key k c l n) (each k)
      ]

  time_behind : (xs ys : List ℕ) → KeepsTime p (xs ++ ys) → KeepsTime p ys
  time_behind [] ys t = t
  time_behind (x ∷ xs) ys t = time_behind xs ys t.1

  module _ (timed : AreTimed p.calls) (orders : ℕ → List ℕ) (each : (k : ℕ) → IsKeyRun p (only k) (orders k)) (l : List ℕ) (merged : IsMerged p key orders l) where
    -- a call that stands behind does not precede: its key's order goes on with a call that is no smaller
    not_before : (early : List ℕ) (c : ℕ) (late : List ℕ) → l ≡ early ++ c ∷ late → (d : ℕ) → In d (c ∷ late) → Before p d c → ⊥
    not_before early c late e d there before = from (with_key key (key d) (c ∷ late) ++ (merged.fronts (key d)).0) split (in_early d (with_key key (key d) (c ∷ late)) (merged.fronts (key d)).0 (in_key key (key d) d (c ∷ late) there refl))
      where
        split : orders (key d) ≡ with_key key (key d) early ++ (with_key key (key d) (c ∷ late) ++ (merged.fronts (key d)).0)
        split = (merged.fronts (key d)).1 ∙ ap (λ (z : List ℕ). with_key key (key d) z ++ (merged.fronts (key d)).0) e ∙ ap (λ (z : List ℕ). z ++ (merged.fronts (key d)).0) (key_append key (key d) early (c ∷ late)) ∙ append_assoc (with_key key (key d) early) (with_key key (key d) (c ∷ late)) (merged.fronts (key d)).0

        in_order : (early : List ℕ) (h : ℕ) (rest : List ℕ) → In h (early ++ h ∷ rest)
        in_order [] h rest = inl refl
        in_order (x ∷ early) h rest = inr (in_order early h rest)

        from : (rest : List ℕ) → orders (key d) ≡ with_key key (key d) early ++ rest → In d rest → ⊥
        from [] g h = h
        from (x ∷ rest) g h =
            let up = merged.least early c late e (key d) x rest g in
            let o = each (key d) in
            let within : x < length p.calls = legal_calls p (orders (key d)) (only (key d) p.start) o.legal.0 o.legal.1 x (subst (λ (z : List ℕ). In x z) (sym g) (in_order (with_key key (key d) early) x rest)) in
            let behind : KeepsTime p (x ∷ rest) = time_behind (with_key key (key d) early) (x ∷ rest) (subst (λ (z : List ℕ). KeepsTime p z) g o.time) in
            behind.0 d h (elim (cases_lt c x) [
              | inl less ↦ before_later p timed d c x less within before
              | inr more ↦ (let same : c ≡ x = omega (arith, up, more) in subst (λ (y : ℕ). Before p d y) same before)
            ])

    time_from : (early rest : List ℕ) → l ≡ early ++ rest → KeepsTime p rest
    time_from early [] e = tt
    time_from early (c ∷ cs) e = (not_before early c cs e, time_from (early ++ c ∷ []) cs (e ∙ sym (append_assoc early (c ∷ []) cs)))

    -- The orders of the keys, merged, are a linearization where every completed call is there.
    pub merged_linearization : ((c : ℕ) → In c l → key c < count) → ((c : ℕ) → IsCompleted p c → In c l) → IsLinearization p l
    merged_linearization inside complete = record {
      continuation = record {
        distinct = distinct_of_keys l (λ k. distinct_early (with_key key k l) (merged.fronts k).0 (subst (λ (z : List ℕ). IsDistinct z) (merged.fronts k).1 (each k).distinct));
        outside = λ c h. has_none (length p.calls) c;
        legal = legal_of_keys l p.start product.start inside (λ k below. legal_front p (with_key key k l) (merged.fronts k).0 (only k p.start) (each k).legal.0 (subst (λ (z : List ℕ). Legal p (only k p.start) z (each k).legal.0) (merged.fronts k).1 (each k).legal.1));
        ordered = λ early b late e a before. inr (earlier p l early b late (time_from [] l refl) e a before (complete a (completed_of p a b before)));
      };
      complete = λ c done. inr (complete c done);
    }

    -- And the least one, where they are the keys' least linearizations with the calls that these lack.
    pub merged_least_linearization : ((k : ℕ) → IsKeyOrder p key k (orders k)) → ((c : ℕ) → In c l → key c < count) → ((c : ℕ) → IsCompleted p c → In c l) → IsLeast (IsLinearization p) l
    merged_least_linearization least inside complete = merged_is_least p key count only keeps product orders least l merged (merged_linearization inside complete)

  -- The least linearization of a key's part, and behind it the other calls of the part, is distinct, legal and in time, where
  -- every pending call of the part has a step.
  pub run_of_key : (k : ℕ) (kept : List ℕ) (calls : List (ProblemCall Op Reply)) → ArePart p kept calls → IsTotal (part_of_key p (only k) calls) → (l all : List ℕ) → IsLinearization (part_of_key p (only k) calls) l → (f : IsFilled (length kept) l all) → IsKeyRun p (only k) (named kept all)
  run_of_key k kept calls part total l all lin f = record {
    distinct = distinct_named kept part.rises all below whole.continuation.distinct;
    legal = (whole.continuation.legal.0, legal_named (record p { start = only k p.start }) kept calls here all (only k p.start) whole.continuation.legal.0 whole.continuation.legal.1);
    time = keeps_named (record p { start = only k p.start }) kept calls here all below (keeps_time (part_of_key p (only k) calls) all whole.continuation);
  }
    where
      here : ArePart (record p { start = only k p.start }) kept calls
      here = record { count = part.count; same = part.same; rises = part.rises }

      whole : IsLinearization (part_of_key p (only k) calls) all
      whole = subst (λ (x : List ℕ). IsLinearization (part_of_key p (only k) calls) x) (sym f.is) (full_linearization (part_of_key p (only k) calls) total l f.rest lin (rising_distinct f.rest f.rises) (λ c h. ((let b = f.below c h in let e = part.count in omega (arith, b, e)), f.apart c h)))

      below : (i : ℕ) → In i all → i < length kept
      below = legal_there (record p { start = only k p.start }) kept calls here all (only k p.start) whole.continuation.legal.0 whole.continuation.legal.1

  -- The part of a key is total.
  pub total_of_key : (k : ℕ) (kept : List ℕ) (calls : List (ProblemCall Op Reply)) → ArePart p kept calls → ((c : ℕ) → In c kept → c < length p.calls) → IsTotal (part_of_key p (only k) calls)
  total_of_key k kept calls part within l s legal c below pending =
      let i = of_part c below in
      let step = product.total s (name kept c) (kept_by l (only k p.start) s (subst (λ (u : State). keeps u) (sym (product.same_start k)) product.start) legal) (within (name kept c) (name_in kept c i)) (λ done. pending (completed_back (record p { start = only k p.start }) kept calls here c i done)) in
      (step.0, next_named (record p { start = only k p.start }) kept calls here s c i ∙ step.1)
    where
      here : ArePart (record p { start = only k p.start }) kept calls
      here = record { count = part.count; same = part.same; rises = part.rises }

      of_part : (c : ℕ) → c < length calls → c < length kept
      of_part c h = let e = part.count in omega (arith, h, e)

      kept_by : (l : List ℕ) (s t : State) → keeps s → Legal (part_of_key p (only k) calls) s l t → keeps t
      kept_by [] s t h e = subst (λ (u : State). keeps u) e h
      kept_by (c ∷ l) s t h e = kept_by l e.0 t (product.kept s e.0 (name kept c) h (sym (next_named (record p { start = only k p.start }) kept calls here s c (of_part c (next_within (part_of_key p (only k) calls) s e.0 c e.1))) ∙ e.1)) e.2
