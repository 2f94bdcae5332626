-- The numbers of a run's calls, and the problem of an object as the part of its history.
use Rattle.std.proofs.Common.{◌≡◌, ℕ, zero, suc, ◌+◌, ◌<◌, ◌==◌, Bool, true, false, cond, List, [], ◌∷◌, length, map, take, Option, Some, None, inl, inr, refl, sym, ap, subst, ◌∙◌, arith, eqb-true}
use Rattle.std.specs.Prelude.{pos}
use Rattle.std.specs.List.{slice_get}
use Rattle.std.specs.Option.{option_map, option_map_or}
use Rattle.std.proofs.lemmas.Option.{slice_get_within}
use Rattle.lin_object.specs.declared.kind.Kind.TheVariants.{Register}
use Rattle.lin_object.specs.declared.op.Op.{Op}
use Rattle.lin_object.specs.declared.reply.Reply.{Reply}
use Rattle.lin_object.specs.declared.state.ObjState.{ObjState}
use Rattle.lin_object.specs.Kinds.{state_at_start}
use Rattle.lin_history.specs.declared.locality.placed.Placed.{Placed}
use Rattle.lin_history.specs.declared.problems.problem.ProblemCall.{ProblemCall}
use Rattle.lin_history.specs.Problems.Problem.{Problem}
use Rattle.lin_history.specs.Problems.ProblemParts.{ProblemParts}
use Rattle.lin_history.specs.Recorder.Events.{Call}
use Rattle.lin_history.specs.Recorder.RecordedHistory.{DeclaredObject, RecordedHistory}
use Rattle.lin_history.specs.Recorder.Parts.{start_of, part_calls}
use Rattle.lin_history.specs.Recorder.Views.{count_on}
use Rattle.lin_history.specs.Locality.JoinedOrder.{indices_from, index_of, Places}
use Rattle.lin_history.specs.Locality.PlaceLemmas.{at_number}
use Rattle.lin_history.specs.Locality.RecordedWhole.{start_at, whole_of, part_of}
use Rattle.lin_history.specs.Verifier.Flags.{AreKnown}
use Rattle.lin_history.specs.Problems.LegalLists.{Legal}
use Rattle.lin_explain.specs.declared.explanation.Explanation.{Explanation}
use Rattle.lin_explain.specs.declared.explanation.NextCall.{NextCall}
use Rattle.lin_history.specs.Problems.AnyProblem.{any_problem}
use Rattle.lin_explain.specs.Explanation.{IsExplanation}
use Rattle.lin_explain.specs.ExplanationText.{explanation_text}
use Rattle.lin_explain.specs.RunReplies.{number_at, number_in, replies_of}
use Rattle.lin_explain.specs.RunExplained.{object_name, numbers_of, IsExplainedBy}

-- ---- numbers

-- how many calls on the object stand before the one of this number
count_before : (object n : ℕ) (calls : List (Call Op Reply)) (k a i : ℕ) → slice_get (indices_from object n calls) k ≡ Some a → a ≡ n + i → count_on object (take i calls) ≡ k
count_before object n [] k a i e same = absurd (cc)
count_before object n (x ∷ xs) k a i e same = by_test (x.object == object) refl k e (λ k i e same. count_before object (n + 1) xs k a i e same)
  where
    by_test : (t : Bool) → (x.object == object) ≡ t → (k : ℕ) → slice_get (cond t (n ∷ indices_from object (n + 1) xs) (indices_from object (n + 1) xs)) k ≡ Some a
        → ((k i : ℕ) → slice_get (indices_from object (n + 1) xs) k ≡ Some a → a ≡ (n + 1) + i → count_on object (take i xs) ≡ k) → count_on object (take i (x ∷ xs)) ≡ k
    by_test true t zero e ih = (let here : n ≡ a = cc in let none : i ≡ 0 = omega (arith, here, same) in rw none refl)
    by_test true t (suc k) e ih =
        let at = (at_number object (n + 1) xs k a e).1 in
        let index = at.index in
        let more : i ≡ suc at.place = omega (arith, index, same) in
        rw (more, t) (ap suc (ih k at.place e index))
    by_test false t k e ih =
        let at = (at_number object (n + 1) xs k a e).1 in
        let index = at.index in
        let more : i ≡ suc at.place = omega (arith, index, same) in
        rw (more, t) (ih k at.place e index)

module _ (h : RecordedHistory) (object : ℕ) where
  number_is : (k : ℕ) (x : Placed Reply) → index_of (whole_of h) object k ≡ Some x.call → number_in h x ≡ k
  number_is k x e =
      let found = at_number object 0 h.calls k x.call e in
      let at = found.1 in
      let index = at.index in
      let place : x.call ≡ at.place = omega (arith, index) in
      let there : slice_get h.calls x.call ≡ Some found.0 = subst (λ (n : ℕ). slice_get h.calls n ≡ Some found.0) (sym place) at.whole in
      let on : found.0.object ≡ object = eqb-true found.0.object object at.on in
      let count : count_on object (take x.call h.calls) ≡ k = count_before object 0 h.calls k x.call x.call e (omega arith) in
      ap (number_at h x.call) there ∙ ap (λ (o : ℕ). count_on o (take x.call h.calls)) on ∙ count

  -- the numbers of a placed order's calls are the order
  pub numbers_are : (order : List ℕ) (run : List (Placed Reply)) (s : ObjState) → Places (whole_of h) object s order run → map (number_in h) run ≡ order
  numbers_are [] [] s p = refl
  numbers_are (k ∷ ks) (x ∷ xs) s p =
      let first : number_in h x ≡ k = number_is k x p.0 in
      let rest : map (number_in h) xs ≡ ks = numbers_are ks xs p.1.1 p.1.3 in
      cc
  numbers_are [] (x ∷ xs) s p = absurd p
  numbers_are (k ∷ ks) [] s p = absurd p

  -- the calls of a placed order are calls of the history
  pub placed_known : (order : List ℕ) (run : List (Placed Reply)) (s : ObjState) → Places (whole_of h) object s order run → AreKnown (whole_of h) run
  placed_known [] [] s p a there = absurd there
  placed_known (k ∷ ks) (x ∷ xs) s p a there = elim there [
    | inl same ↦ subst (λ (n : ℕ). n < length h.calls) same (slice_get_within h.calls x.call p.1.0 p.1.2.call)
    | inr more ↦ placed_known ks xs p.1.1 p.1.3 a more
  ]
  placed_known [] (x ∷ xs) s p a there = absurd p
  placed_known (k ∷ ks) [] s p a there = absurd p

-- the call of a run at this place
pub known_at : (h : RecordedHistory) (xs : List (Placed Reply)) (i : ℕ) (x : Placed Reply) → AreKnown (whole_of h) xs → slice_get xs i ≡ Some x → x.call < length h.calls
known_at h [] i x known e = absurd (cc)
known_at h (y ∷ ys) zero x known e = let same : y ≡ x = cc in known x.call (inl (ap (λ (z : Placed Reply). z.call) same))
known_at h (y ∷ ys) (suc i) x known e = known_at h ys i x (λ a there. known a (inr there)) e

-- ---- the problem of an object

start_there : (o : Option DeclaredObject) (start : ObjState) → option_map start_of o ≡ Some start → start ≡ option_map_or start_of o (state_at_start Register (pos 0))
start_there None start e = absurd (cc)
start_there (Some o) start e = cc

module _ {Object : Type 0} (h : RecordedHistory) (object : ℕ) (p : ProblemParts Object ObjState Op Reply) (start : option_map start_of (slice_get h.objects object) ≡ Some p.start) (calls : p.calls ≡ part_calls h object) where
  pub start_same : p.start ≡ start_at h object
  start_same = start_there (slice_get h.objects object) p.start start

  -- it is the part of the history on the object
  pub part_same : any_problem p ≡ part_of h object
  part_same = rw (start_same, calls) refl

pub legal_same : {State Op Reply : Type 0} (p q : Problem State Op Reply) (s t : State) (k l : List ℕ) → p ≡ q → s ≡ t → k ≡ l → ((x : State) × Legal q t l x) → (x : State) × Legal p s k x
legal_same p q s t k l e f g given = rw (e, f, g) given

pub name_is : (o : Option DeclaredObject) (d : DeclaredObject) → o ≡ Some d → d.name ≡ option_map_or (λ (x : DeclaredObject). x.name) o []
name_is o d e = rw e refl

-- ---- the lines

module _ {Object : Type 0} (h : RecordedHistory) (object : ℕ) (p : ProblemParts Object ObjState Op Reply) (part : any_problem p ≡ part_of h object) (calls : p.calls ≡ part_calls h object) where
  -- the lines of an explanation of a run of the problem
  pub lines_are : (name order : List ℕ) (run : List (Placed Reply)) (replies : List (Option Reply)) (lines : List ℕ) (e : Explanation) → name ≡ object_name h object → order ≡ numbers_of h run → replies ≡ replies_of h p.calls run → IsExplanation (any_problem p) order e
      → IsExplainedBy h object run lines (explanation_text name p.calls replies order lines e.state e.next.items)
  lines_are name order run replies lines e named same replied explained = record {
    state = e.state;
    after = here.state;
    calls = here.calls;
    next = here.are;
    are = texts_same named calls (replied ∙ ap (λ (l : List (ProblemCall Op Reply)). replies_of h l run) calls) same lines e.state here.next;
  }
    where
      here : IsExplanation (part_of h object) (numbers_of h run) e
      here = subst (λ (q : Problem ObjState Op Reply). IsExplanation q (numbers_of h run) e) part (subst (λ (r : List ℕ). IsExplanation (any_problem p) r e) same explained)

      texts_same : {name name' : List ℕ} {l l' : List (ProblemCall Op Reply)} {replies replies' : List (Option Reply)} {run run' : List ℕ} {n n' : List NextCall} → name ≡ name' → l ≡ l' → replies ≡ replies' → run ≡ run' → (lines : List ℕ) (s : ObjState) → n ≡ n'
          → explanation_text name l replies run lines s n ≡ explanation_text name' l' replies' run' lines s n'
      texts_same a b c d lines s f = rw (a, b, c, d, f) refl
