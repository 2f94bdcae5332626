-- Layers of beginnings of a counter's orders: where there is a linearization, each of them has one of its beginnings.
use Rattle.std.proofs.Common.{◌≡◌, ℕ, zero, suc, ◌+◌, ◌<◌, ◌≤◌, Bool, true, false, Option, Some, None, List, [], ◌∷◌, ◌++◌, length, inl, inr, refl, sym, ◌∙◌, ap, subst, arith}
use Rattle.std.specs.Prelude.{ℤ, slice_get, IsSomeAnd}
use Rattle.std.proofs.lemmas.List.{length-replicate}
use Rattle.lin_object.specs.declared.op.Op.{Op}
use Rattle.lin_object.specs.declared.op.Op.TheVariants.{Get}
use Rattle.lin_object.specs.declared.reply.Reply.{Reply}
use Rattle.lin_object.specs.declared.reply.Reply.TheVariants.{Int}
use Rattle.lin_object.specs.declared.state.ObjState.{ObjState}
use Rattle.lin_object.specs.declared.state.ObjState.TheVariants.{Counter}
use Rattle.lin_object.specs.Kinds.Counter.{counter_step}
use Rattle.lin_history.specs.declared.problems.problem.ProblemCall.{ProblemCall}
use Rattle.lin_history.specs.Problems.Problem.{Problem}
use Rattle.lin_history.specs.Problems.ProblemParts.{ProblemParts}
use Rattle.lin_history.specs.Problems.AnyProblem.{any_problem}
use Rattle.lin_history.specs.Problems.LegalLists.{next}
use Rattle.lin_history.specs.Problems.Precedence.{IsCompleted}
use Rattle.lin_history.specs.Problems.Continuations.{has, no_calls, IsCompletion}
use Rattle.lin_history.specs.Problems.Linearizations.{IsLinearization}
use Rattle.lin_search.specs.CallSet.{with_call}
use Rattle.lin_search.specs.CallSetLemmas.{same_or_not, has_same, has_other, has_still, length_calls}
use Rattle.lin_search.specs.FirstCallLemmas.{completion_split, complete_none, next_within}
use Rattle.lin_search.specs.NextCall.{IsNext, HasEveryCompleted}
use Rattle.lin_fewer.specs.Fronts.{IsFirstLeft, IsLater, IsLeastReturn}
use Rattle.lin_fewer.specs.declared.any_adds.Beginning.{Beginning}
use Rattle.lin_fewer.specs.declared.sums.Got.{Got}
use Rattle.lin_fewer.specs.Adds.{part_in, part_of, part_of_call, IsGot}
use Rattle.lin_fewer.specs.AnyAdds.{HasGrown, NoneTakesOff, GrowsTo, IsBeginning, AreBeginnings, HasNoMore, HasAsMuch, IsTaken, LeadsTo, IsRootAlone}
use Rattle.lin_fewer.proofs.ReadLemmas.{get_early, get_last, get_end}
use Rattle.lin_fewer.proofs.FrontLemmas.{least_or, late_next}
use Rattle.lin_fewer.proofs.FewerLemmas.{before_completed, completed_or_not}
use Rattle.lin_fewer.proofs.AddLemmas.{counter_moves, answered, got_here, get_moves, step_there}

pub none_counted : (layer : List Beginning) → length layer ≡ 0 → layer ≡ []
none_counted [] e = refl
none_counted (b ∷ layer) e = absurd (omega (arith, e))

-- what is pushed behind a layer
pub as_much_itself : (layer : List Beginning) → HasAsMuch layer layer
as_much_itself layer set grown h = h

pub as_much_more : (a b c : List Beginning) → HasAsMuch a b → HasAsMuch b c → HasAsMuch a c
as_much_more a b c one two set grown h = two set grown (one set grown h)

pub as_much_pushed : (layer : List Beginning) (b : Beginning) → HasAsMuch layer (layer ++ b ∷ [])
as_much_pushed layer b set grown h = (h.0, h.1, get_early layer (b ∷ []) h.0 h.1 h.2, h.3, h.4)

pub no_more_last : (layer : List Beginning) (b : Beginning) → HasNoMore (layer ++ b ∷ []) b.lifted b.grown
no_more_last layer b = (length layer, b, get_last layer b, refl, omega arith)

module _ {Object : Type 0} (parts : ProblemParts Object ObjState Op Reply) where
  abbrev p : Problem ObjState Op Reply
  p = any_problem parts

  -- a step of a counter adds what its operation adds
  step_adds : NoneTakesOff p → (c : ℕ) (number : ℤ) (m : ObjState) → next p (Counter number) c ≡ Some m → (k : ℤ) × (m ≡ Counter k) × (part_in true number + part_of_call true (slice_get p.calls c) + part_in false k ≡ part_in true k + part_in false number)
  step_adds none c number m step =
      let x = step_there parts (Counter number) m c step in
      let a = answered parts number m c x.0 x.1 step in
      let j = counter_moves number x.0.op m a.0 a.1 in
      let up = j.2 true in
      let off : part_of false x.0.op ≡ 0 = sym (ap (part_of_call false) x.1) ∙ none c in
      let e : part_of_call true (slice_get p.calls c) ≡ part_of true x.0.op = ap (part_of_call true) x.1 in
      (j.0, j.1, omega (arith, up, off, e))

  -- so the counter has grown by that much more, or by less
  pub grows : NoneTakesOff p → (start : ℤ) (c grown more : ℕ) → more ≤ grown + part_of_call true (slice_get p.calls c) → GrowsTo p start c grown (Some more)
  grows none start c grown more few number m has_grown step = let s = step_adds none c number m step in let e = s.2 in (s.0, s.1, omega (arith, has_grown, few, e))

  -- a get finds what is there
  got_same : (c : ℕ) (got : Got) → IsGot p c got → (number : ℤ) (m : ObjState) → next p (Counter number) c ≡ Some m → (number ≡ got.value) × (m ≡ Counter number)
  got_same c got is number m step =
      let a = answered parts number m c is.call is.at step in
      (got_here parts number m c got is step, (get_moves number m a.0 (subst (λ (o : Op). counter_step number o ≡ Some (m, a.0)) is.op a.1)).0)

  pub got_grows : (start value : ℤ) (c grown back : ℕ) (told : Option ℕ) (x : ProblemCall Op Reply) → slice_get p.calls c ≡ Some x → x.op ≡ Get → x.returned ≡ Some (back, Int value) → (HasGrown start value grown → IsSomeAnd told (HasGrown start value)) → GrowsTo p start c grown told
  got_grows start value c grown back told x there op returned tells number m has_grown step =
      let got : Got = record { called = x.called; returned = back; value = value } in
      let is : IsGot p c got = record { call = x; at = there; op = op; called = refl; returned = returned } in
      let e = got_same c got is number m step in
      (number, e.1, subst (λ (v : ℤ). IsSomeAnd told (HasGrown start v)) (sym e.0) (tells (subst (λ (v : ℤ). HasGrown start v grown) e.0 has_grown)))

  -- ---- what is taken

  pub taken_none : (start : ℤ) (b : Beginning) (layer : List Beginning) (c : ℕ) → (IsCompleted p c → ⊥) → IsTaken p start b layer c
  taken_none start b layer c pending number m done grown is = absurd (pending done)

  pub taken_lifted : (start : ℤ) (b : Beginning) (layer : List Beginning) (c : ℕ) → has b.lifted c ≡ true → IsTaken p start b layer c
  taken_lifted start b layer c there number m done grown is = absurd (let o = is.outside in cc)

  pub taken_not : (start : ℤ) (b : Beginning) (layer : List Beginning) (c : ℕ) → GrowsTo p start c b.grown None → IsTaken p start b layer c
  taken_not start b layer c none number m done grown is = absurd ((none number m grown is.step).2)

  pub taken_there : (start : ℤ) (b : Beginning) (layer : List Beginning) (c grown : ℕ) → GrowsTo p start c b.grown (Some grown) → HasNoMore layer (with_call b.lifted c) grown → IsTaken p start b layer c
  taken_there start b layer c more grows_to there number m done grown is = let k = grows_to number m grown is.step in (k.0, k.1, (more, k.2, there))

  pub taken_still : (start : ℤ) (b : Beginning) (layer later : List Beginning) (c : ℕ) → HasAsMuch layer later → IsTaken p start b layer c → IsTaken p start b later c
  taken_still start b layer later c much taken number m done grown is = let t = taken number m done grown is in (t.0, t.1, (t.2.0, t.2.1, much (with_call b.lifted c) t.2.0 t.2.2))

  pub beginnings_pushed : (layer : List Beginning) (b : Beginning) → AreBeginnings p layer → IsBeginning p b → AreBeginnings p (layer ++ b ∷ [])
  beginnings_pushed layer b are is i x e = elim (get_end layer b i x e) [ inl h ↦ are i x h | inr q ↦ subst (λ (y : Beginning). IsBeginning p y) q is ]

  -- the beginning with the call behind it
  pub beginning_with : (b more : Beginning) (c : ℕ) → IsBeginning p b → c < length p.calls → more.lifted ≡ with_call b.lifted c → more.first ≡ b.first → IsBeginning p more
  beginning_with b more c is within lifted first =
      let in_b : c < length b.lifted = (let e = is.0 in omega (arith, e, within)) in
      (ap (λ (l : List Bool). length l) lifted ∙ (length_calls b.lifted (c ∷ []) ∙ is.0), λ d less done. ap (λ (l : List Bool). has l d) lifted ∙ has_still b.lifted c d in_b (is.1 d (subst (λ (n : ℕ). d < n) first less) done))

  -- calls below the first that is left, and calls called behind the least return of what is left
  pub taken_below : (start : ℤ) (b : Beginning) (layer : List Beginning) (first c : ℕ) → IsFirstLeft p b.lifted first → c < first → IsTaken p start b layer c
  taken_below start b layer first c is less number m done = taken_lifted start b layer c (is.below c less done) number m done

  pub taken_late : (start : ℤ) (b : Beginning) (layer : List Beginning) (bound to : ℕ) → IsLeastReturn p b.lifted bound → IsLater p to bound → ((c : ℕ) → c < to → IsTaken p start b layer c) → (c : ℕ) → IsTaken p start b layer c
  taken_late start b layer bound to least later before c = elim (least_or c to) [
    | inl early ↦ before c early
    | inr past ↦ λ number m done grown is. (
        let y = step_there parts (Counter number) m c is.step in
        absurd (late_next p b.lifted bound to c least later past y.0 y.1 (Counter number) m is)
        )
  ]

  pub taken_all : (start : ℤ) (b : Beginning) (layer : List Beginning) (to : ℕ) → length p.calls ≤ to → ((c : ℕ) → c < to → IsTaken p start b layer c) → (c : ℕ) → IsTaken p start b layer c
  taken_all start b layer to past before c = elim (least_or c to) [
    | inl early ↦ before c early
    | inr more ↦ λ number m done grown is. absurd (let w = next_within p (Counter number) m c is.step in omega (arith, w, more, past))
  ]

  -- ---- a layer over configurations with completions

  -- one of the layer is below a configuration that has a completion: it has the same completed calls, and the counter has grown by no more
  pub record IsAbove (start : ℤ) (layer : List Beginning) : Type 0 where
    pub set : List Bool
    pub number : ℤ
    pub rest : List ℕ
    pub flags : length set ≡ length p.calls
    pub completes : IsCompletion p set (Counter number) rest
    pub index : ℕ
    pub beginning : Beginning
    pub at : slice_get layer index ≡ Some beginning
    pub same : (c : ℕ) → IsCompleted p c → has beginning.lifted c ≡ has set c
    pub grown : HasGrown start number beginning.grown

  -- where there is a linearization, the layer is so
  pub record Covers (start : ℤ) (layer : List Beginning) : Type 0 where
    pub above : (l : List ℕ) → IsLinearization p l → IsAbove start layer

  same_with : (a b : List Bool) (d : ℕ) → d < length a → d < length b → (c : ℕ) → has a c ≡ has b c → has (with_call a d) c ≡ has (with_call b d) c
  same_with a b d in_a in_b c e = elim (same_or_not c d) [
    | inl q ↦ rw q (has_same a d in_a ∙ sym (has_same b d in_b))
    | inr ne ↦ has_other a d c ne ∙ e ∙ sym (has_other b d c ne)
  ]

  module _ (start : ℤ) (none : NoneTakesOff p) (b : Beginning) (count : length b.lifted ≡ length p.calls) (later : List Beginning) (left : HasEveryCompleted p b.lifted → ⊥) (taken : (c : ℕ) → IsTaken p start b later c) where
    -- the first completed call of the completion leads to a beginning of the next layer
    goes_on : (rest : List ℕ) (set : List Bool) (number : ℤ) → length set ≡ length p.calls → ((c : ℕ) → IsCompleted p c → has b.lifted c ≡ has set c) → HasGrown start number b.grown → IsCompletion p set (Counter number) rest → IsAbove start later
    goes_on [] set number flags same grown k = absurd (left (λ c done. same c done ∙ complete_none p set (Counter number) k c done))
    goes_on (a ∷ rest) set number flags same grown k =
        let one = completion_split p set (Counter number) a rest flags k in
        let within : a < length p.calls = next_within p (Counter number) one.0 a one.1.step in
        let in_set : a < length set = omega (arith, within, flags) in
        let in_b : a < length b.lifted = omega (arith, within, count) in
        let flags_more : length (with_call set a) ≡ length p.calls = length_calls set (a ∷ []) ∙ flags in
        elim (completed_or_not (slice_get p.calls a)) [
          | inl done ↦ (
              let is : IsNext p b.lifted (Counter number) a one.0 = record {
                outside = same a done ∙ one.1.outside;
                preceded = λ d before. same d (before_completed p d a before) ∙ one.1.preceded d before;
                step = one.1.step;
              } in
              let t = taken a number one.0 done grown is in
              let more = t.2 in
              let there = more.2 in
              record {
                set = with_call set a;
                number = t.0;
                rest = rest;
                flags = flags_more;
                completes = subst (λ (s : ObjState). IsCompletion p (with_call set a) s rest) t.1 one.2;
                index = there.0;
                beginning = there.1;
                at = there.2;
                same = λ c finished. ap (λ (l : List Bool). has l c) there.3 ∙ same_with b.lifted set a in_b in_set c (same c finished);
                grown = (let g = more.1 in let few = there.4 in omega (arith, g, few));
              }
              )
          | inr pending ↦ (
              let s = step_adds none a number one.0 one.1.step in
              let e = s.2 in
              goes_on rest (with_call set a) s.0 flags_more
              (λ c done. same c done ∙ sym (has_other set a c (λ q. pending (subst (λ (n : ℕ). IsCompleted p n) q done))))
              (omega (arith, grown, e))
              (subst (λ (m : ObjState). IsCompletion p (with_call set a) m rest) s.1 one.2)
              )
        ]

  pub covers_more : (start : ℤ) (layer later : List Beginning) → NoneTakesOff p → AreBeginnings p layer → LeadsTo p start layer later → Covers start layer → Covers start later
  covers_more start layer later none are leads covers = record {
    above = λ l k. (
        let a = covers.above l k in
        let to = leads a.index a.beginning a.at in
        goes_on start none a.beginning (are a.index a.beginning a.at).0 later to.0 to.1 a.rest a.set a.number a.flags a.same a.grown a.completes
        );
  }

  pub covers_none : (start : ℤ) → Covers start [] → (l : List ℕ) → IsLinearization p l → ⊥
  covers_none start covers l k = absurd (let e = (covers.above l k).at in cc)

  pub covers_root : (start : ℤ) (layer : List Beginning) → p.start ≡ Counter start → IsRootAlone (length p.calls) layer → Covers start layer
  covers_root start layer is root = record {
    above = λ l k. record {
      set = no_calls p;
      number = start;
      rest = l;
      flags = length-replicate (length p.calls) false;
      completes = subst (λ (s : ObjState). IsCompletion p (no_calls p) s l) is k;
      index = 0;
      beginning = root.0;
      at = ap (λ (x : List Beginning). slice_get x 0) root.1;
      same = λ c done. ap (λ (x : List Bool). has x c) root.2;
      grown = (let g = root.3 in omega (arith, g));
    };
  }

  pub root_beginnings : (layer : List Beginning) → IsRootAlone (length p.calls) layer → AreBeginnings p layer
  root_beginnings layer root i b e = is_root i (subst (λ (x : List Beginning). slice_get x i ≡ Some b) root.1 e)
    where
      of_root : root.0 ≡ b → IsBeginning p b
      of_root q = subst (λ (x : Beginning). IsBeginning p x) q (ap (λ (l : List Bool). length l) root.2 ∙ length-replicate (length p.calls) false, λ d less done. absurd (let f = root.4 in omega (arith, less, f)))

      is_root : (i : ℕ) → slice_get (root.0 ∷ []) i ≡ Some b → IsBeginning p b
      is_root zero e = of_root (cc)
      is_root (suc i) e = absurd (cc)
