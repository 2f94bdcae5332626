-- Spared calls, for which an earlier one may stand in.
use Rattle.std.specs.Prelude.{All, slice_index_or, filter, nat_lt, not, ◌&&◌}
use Rattle.std.proofs.Common.{◌≡◌, ℕ, ◌+◌, ◌<◌, Bool, true, false, true≢false, List, [], ◌∷◌, ◌++◌, length, length-append, ◌⊎◌, inl, inr, refl, sym, subst, arith}
use Rattle.std.proofs.lemmas.Bool.{cases_lt, ltb-true}
use Rattle.lin_history.specs.Problems.Lists.{In}
use Rattle.lin_history.specs.Problems.ListLemmas.{in_early, in_either, in_late}
use Rattle.lin_history.specs.Problems.Problem.{Problem}
use Rattle.lin_history.specs.Problems.Precedence.{Before}
use Rattle.lin_history.specs.Problems.Linearizations.{IsRun}
use Rattle.lin_laws.specs.StandIns.{AreStandIns}
use Rattle.lin_prefixes.specs.declared.conflicts.OpenCalls.{OpenCalls}
use Rattle.lin_prefixes.specs.Prefixes.{AreParted, IsConflict, IsBeaten, IsRunOf, IsRunLacking, AreOpen, AreSpared, AreSplit, is_spared}
use Rattle.lin_parts.specs.ListLemmas.{rising_distinct}
use Rattle.lin_prefixes.proofs.BeatenLemmas.{beaten_itself, beaten_chain}
use Rattle.lin_prefixes.proofs.FullLemmas.{up_to_behind}
use Rattle.lin_prefixes.proofs.LackLemmas.{distinct_join, in_no_run, in_or_not, lacking_of, room}
use Rattle.lin_prefixes.proofs.ListLemmas.{filter_in, in_filter, rising_filter, true_or_not, not_both}

-- a list has some of the calls, or none
pub some_or_none : (cs r : List ℕ) → ((c : ℕ) × In c cs × In c r) ⊎ ((c : ℕ) → In c cs → In c r → ⊥)
some_or_none [] r = inr (λ c h there. h)
some_or_none (x ∷ cs) r = elim (in_or_not x r) [
  | inl there ↦ inl (x, inl refl, there)
  | inr out ↦ elim (some_or_none cs r) [
    | inl some ↦ inl (some.0, inr some.1, some.2)
    | inr none ↦ inr (λ c h there. elim h [ inl e ↦ out (subst (λ (y : ℕ). In y r) e there) | inr more ↦ none c more there ])
  ]
]

both_are : (a b : Bool) → a && b ≡ true → (a ≡ true) × (b ≡ true)
both_are true true e = (refl, refl)
both_are true false e = absurd (true≢false (sym e))
both_are false b e = absurd (true≢false (sym e))

record IsPair (k : ℕ) (until : List ℕ) (first c : ℕ) : Type 0 where
  less : first < c
  one : k < slice_index_or until first 0
  other : k < slice_index_or until c 0

pair_of : (k : ℕ) (until : List ℕ) (first c : ℕ) → is_spared k until first c ≡ true → IsPair k until first c
pair_of k until first c e =
    let a = both_are (nat_lt first c) (nat_lt k (slice_index_or until first 0) && nat_lt k (slice_index_or until c 0)) e in
    let b = both_are (nat_lt k (slice_index_or until first 0)) (nat_lt k (slice_index_or until c 0)) a.1 in
    record { less = ltb-true first c a.0; one = ltb-true k (slice_index_or until first 0) b.0; other = ltb-true k (slice_index_or until c 0) b.1 }

module _ {State Op Reply : Type 0} (p : Problem State Op Reply) (k : ℕ) where
  module _ (until : List ℕ) (stand_ins : AreStandIns p until) (first : ℕ) where
    -- a run with one of the spared calls is beaten by one that has the first in its place
    module _ (r : List ℕ) (w : IsRunOf p k r) (c : ℕ) (pair : IsPair k until first c) (out : Before p c k → ⊥) (front rest : List ℕ) (place : r ≡ front ++ c ∷ rest) (run : IsRun p (front ++ first ∷ rest)) where
      in_run : (d : ℕ) → In d (front ++ first ∷ rest) → In d r ⊎ (d ≡ first)
      in_run d h = elim (in_either d front (first ∷ rest) h) [
        | inl f ↦ inl (subst (In d) (sym place) (in_early d front (c ∷ rest) f))
        | inr (inl e) ↦ inr e
        | inr (inr more) ↦ inl (subst (In d) (sym place) (in_late d front (c ∷ rest) (inr more)))
      ]

      there : In c r
      there = subst (In c) (sym place) (in_late c front (c ∷ rest) (inl refl))

      run_of : IsRunOf p k (front ++ first ∷ rest)
      run_of = record {
        run = run;
        up_to = λ d h. elim (in_run d h) [ inl own ↦ w.up_to d own | inr e ↦ (let high = w.up_to c there in let less = pair.less in omega (arith, high, less, e)) ];
        front = λ d before. elim (in_either d front (c ∷ rest) (subst (In d) place (w.front d before))) [
          | inl f ↦ in_early d front (first ∷ rest) f
          | inr (inl e) ↦ absurd (out (subst (λ (y : ℕ). Before p y k) e before))
          | inr (inr more) ↦ in_late d front (first ∷ rest) (inr more)
        ];
      }

      beats : IsBeaten (front ++ first ∷ rest) r
      beats = subst (IsBeaten (front ++ first ∷ rest)) (sym place) (inr (
        (let e = length-append front (first ∷ rest) in let f = length-append front (c ∷ rest) in omega (arith, e, f)),
        up_to_behind front (first ∷ rest) (c ∷ rest) (inl pair.less),
      ))

      none_left : (d : ℕ) → IsPair k until first d → In d (front ++ first ∷ rest) → ⊥
      none_left d other h = stand_ins.one k first d (λ e. (let less = other.less in omega (arith, less, e))) other.one other.other (front ++ first ∷ rest) run run_of.up_to (in_late first front (first ∷ rest) (inl refl)) h

    spared_by : (spared : List ℕ) → ((c : ℕ) → In c spared → IsPair k until first c × (Before p c k → ⊥)) → AreSpared p k spared
    spared_by spared each r w = elim (some_or_none spared r) [
      | inr none ↦ (r, w, beaten_itself r, none)
      | inl (c, h, there) ↦ (
          let pair = (each c h).0 in
          let m = stand_ins.in_place k first c pair.less pair.one pair.other (each c h).1 r w.run w.up_to there in (
            m.0 ++ first ∷ m.1,
            run_of r w c pair (each c h).1 m.0 m.1 m.2 m.3,
            beats r w c pair (each c h).1 m.0 m.1 m.2 m.3,
            (λ d inside. none_left r w c pair (each c h).1 m.0 m.1 m.2 m.3 d (each d inside).0),
          )
          )
    ]

    -- The open calls, those for which the first one may stand in and the others.
    pub split_of : (open_calls spared others : List ℕ) → AreOpen p k (k + 1) open_calls → spared ≡ filter (is_spared k until first) open_calls → others ≡ filter (λ c. not (is_spared k until first c)) open_calls → AreSplit p k spared others
    split_of open_calls spared others are e f =
        let t : ℕ → Bool = is_spared k until first in
        let s : ℕ → Bool = λ c. not (is_spared k until first c) in
        rw (e, f) (record {
          distinct = distinct_join (filter t open_calls) (filter s open_calls) (rising_distinct (filter t open_calls) (rising_filter t open_calls are.rises)) (rising_distinct (filter s open_calls) (rising_filter s open_calls are.rises))
              (λ c l h. not_both (is_spared k until first c) (filter_in t open_calls c h).1 (filter_in s open_calls c l).1);
          there = λ c h done. elim (are.there c (omega (arith, h)) done) [
            | inl before ↦ inl before
            | inr inside ↦ elim (true_or_not (is_spared k until first c)) [ inl x ↦ inr (inl (in_filter t open_calls c inside x)) | inr x ↦ inr (inr (in_filter s open_calls c inside x)) ]
          ];
          spared_below = λ c h. (let less = are.below c (filter_in t open_calls c h).0 in omega (arith, less));
          others_below = λ c h. (let less = are.below c (filter_in s open_calls c h).0 in omega (arith, less));
          without = spared_by (filter t open_calls) (λ c h. (pair_of k until first c (filter_in t open_calls c h).1, are.apart c (filter_in t open_calls c h).0));
        })

  -- The calls that are conflicts of their own are in no run, and so they are spared too.
  pub split_again : (conflicts : List (List ℕ)) (spared others : List ℕ) (parted : OpenCalls) → All (IsConflict p k) conflicts → AreSplit p k spared others → AreParted conflicts spared others parted → AreSplit p k parted.gone.items parted.left.items
  split_again conflicts spared others parted are s m = record {
    distinct = m.distinct;
    there = λ c h done. elim (s.there c h done) [ inl before ↦ inl before | inr open_call ↦ inr (m.there c open_call) ];
    spared_below = λ c h. elim (m.gone c h) [ inl a ↦ s.spared_below c a | inr a ↦ s.others_below c a.0 ];
    others_below = λ c h. s.others_below c (m.left c h);
    without = λ r w.
        let l = s.without r w in
        (l.0, l.1, l.2, λ c h there. elim (m.gone c h) [ inl a ↦ l.3 c a there | inr a ↦ in_no_run p k conflicts c are a.1 l.0 l.1 there ]);
  }

  module _ (spared others best : List ℕ) (s : AreSplit p k spared others) where
    -- The runs of k are beaten where those that lack few of the open calls are, and the others are too short.
    pub tried_enough : (lacking : ℕ) → ((n : ℕ) → n < lacking → (r : List ℕ) → IsRunLacking p k spared others n r → IsBeaten best r) → (length others < lacking) ⊎ (k + 1 < length best + (length spared + lacking)) → (r : List ℕ) → IsRunOf p k r → IsBeaten best r
    tried_enough lacking tried end r w =
        let m = s.without r w in
        let l = lacking_of p k spared others m.0 s m.1 m.3 in
        beaten_chain best m.0 r (elim (cases_lt l.0 lacking) [
          | inl less ↦ tried l.0 less m.0 l.2
          | inr more ↦ elim end [
            | inl all ↦ absurd (let b = l.1 in omega (arith, b, all, more))
            | inr short ↦ inl (let f = room p k spared others l.0 m.0 s l.2 in omega (arith, f, short, more))
          ]
        ]) m.2

    -- They are where these without the spared calls are too short.
    pub too_short : k + 1 < length best + length spared → (r : List ℕ) → IsRunOf p k r → IsBeaten best r
    too_short short = tried_enough 0 (λ n h. absurd (omega (arith, h))) (inr (omega (arith, short)))
