-- From the search of one object's problem to the verdict on its history.
use Rattle.std.proofs.Common.{◌≡◌, ℕ, zero, suc, ◌<◌, List, [], ◌∷◌, ◌++◌, length, Option, Some, None, refl, sym, subst, arith, ◌+◌, ◌⊎◌, length-append, inl, inr, ◌∙◌, ap, Break, ControlFlow}
use Rattle.std.specs.Prelude.{pos, IsSome, Vec}
use Rattle.std.specs.declared.alloc.Global.{Global}
use Rattle.std.specs.List.{slice_get}
use Rattle.std.specs.Option.{option_map, option_map_or, IsSomeAnd}
use Rattle.lin_object.specs.declared.op.Op.{Op}
use Rattle.lin_object.specs.declared.reply.Reply.{Reply}
use Rattle.lin_object.specs.declared.state.ObjState.{ObjState}
use Rattle.lin_object.specs.declared.kind.Kind.TheVariants.{Register}
use Rattle.lin_object.specs.contracts.reply.ReplyPartialEq.TheImpl.{eq-value as reply_eq}
use Rattle.lin_object.specs.contracts.state.ObjStatePartialEq.TheImpl.{eq-value as state_eq}
use Rattle.lin_object.specs.Kinds.{after, state_at_start}
use Rattle.lin_history.specs.declared.locality.placed.Placed.{Placed}
use Rattle.lin_history.specs.declared.problems.problem.ProblemCall.{ProblemCall}
use Rattle.lin_history.specs.Problems.Lists.{IsLeast}
use Rattle.lin_history.specs.Problems.Problem.{Problem}
use Rattle.lin_history.specs.Problems.Linearizations.{IsRun, IsLinearization}
use Rattle.lin_history.specs.Recorder.RecordedHistory.{DeclaredObject, RecordedHistory}
use Rattle.lin_history.specs.Recorder.Parts.{start_of, part_calls}
use Rattle.lin_history.specs.Locality.Whole.{IsLinearizationOfWhole}
use Rattle.lin_history.specs.Locality.JoinedOrder.{IsJoined, Places}
use Rattle.lin_history.specs.Locality.RecordedWhole.{start_at, whole_of, part_of}
use Rattle.lin_history.specs.Locality.LocalityLemmas.{none_of_whole}
use Rattle.lin_search.specs.LongestRun.{IsFirstLongest}
use Rattle.lin_workers.specs.Bounds.{Bounds}
use Rattle.lin_workers.specs.Verdict.{MayBeUndecided}
use Rattle.lincheck.specs.declared.object_answer.Question.{Question}
use Rattle.lincheck.specs.declared.object_answer.Question.TheVariants as questions
use Rattle.lincheck.specs.declared.verdict.Verdict.TheVariants.{Yes, No, NoInTime, Undecided}
use Rattle.lincheck.specs.Verdict.{AreLeastOf, IsVerdict}

-- the problem of an object, as the search is problem_of it
abbrev pub searched : List (ProblemCall Op Reply) → ObjState → Problem ObjState Op Reply
searched calls start = record { after = after; same_state = state_eq.it; same_reply = reply_eq.it; start = start; calls = calls }

-- it is the part of the history
pub record IsPart (h : RecordedHistory) (object : ℕ) (calls : List (ProblemCall Op Reply)) (start : ObjState) : Type 0 where
  pub calls_are : calls ≡ part_calls h object
  pub start_is : option_map start_of (slice_get h.objects object) ≡ Some start

start_there : (o : Option DeclaredObject) (start : ObjState) → option_map start_of o ≡ Some start → start ≡ option_map_or start_of o (state_at_start Register (pos 0))
start_there None start e = absurd (cc)
start_there (Some o) start e = cc

start_known : (h : RecordedHistory) (object : ℕ) (calls : List (ProblemCall Op Reply)) (start : ObjState) → IsPart h object calls start → start ≡ start_at h object
start_known h object calls start p = start_there (slice_get h.objects object) start p.start_is

posed_same : (h : RecordedHistory) (object : ℕ) (calls : List (ProblemCall Op Reply)) (start : ObjState) → IsPart h object calls start → searched calls start ≡ part_of h object
posed_same h object calls start p = rw (start_known h object calls start p, p.calls_are) refl

-- what holds of the problem holds of the part
pub at_part : (h : RecordedHistory) (object : ℕ) (calls : List (ProblemCall Op Reply)) (start : ObjState) → IsPart h object calls start → (P : Problem ObjState Op Reply → Type 0) → P (searched calls start) → P (part_of h object)
at_part h object calls start part P holds = subst P (posed_same h object calls start part) holds

pub least_none : (h : RecordedHistory) → AreLeastOf h 0 []
least_none h = record { count = refl; each = λ object order e. absurd (cc) }

last_is : (orders : List (List ℕ)) (order : List ℕ) (object : ℕ) (o : List ℕ) → slice_get (orders ++ order ∷ []) object ≡ Some o → (slice_get orders object ≡ Some o) ⊎ ((object ≡ length orders) × (order ≡ o))
last_is [] order zero o e = inr (refl, cc)
last_is [] order (suc object) o e = absurd (cc)
last_is (x ∷ xs) order zero o e = inl e
last_is (x ∷ xs) order (suc object) o e = elim (last_is xs order object o e) [ inl f ↦ inl f | inr f ↦ inr (omega (arith, f.0), f.1) ]

pub least_more : (h : RecordedHistory) (orders : List (List ℕ)) (order : List ℕ) (n : ℕ) → AreLeastOf h n orders → IsLeast (IsLinearization (part_of h n)) order → AreLeastOf h (n + 1) (orders ++ order ∷ [])
least_more h orders order n so_far least = record {
  count = length-append orders (order ∷ []) ∙ ap (λ (k : ℕ). k + 1) so_far.count;
  each = λ object o e. at_place object o (last_is orders order object o e);
}
  where
    at_place : (object : ℕ) (o : List ℕ) → (slice_get orders object ≡ Some o) ⊎ ((object ≡ length orders) × (order ≡ o)) → IsLeast (IsLinearization (part_of h object)) o
    at_place object o (inl e) = so_far.each object o e
    at_place object o (inr e) =
        let same : object ≡ n = e.0 ∙ so_far.count in
        subst (λ (k : ℕ). IsLeast (IsLinearization (part_of h k)) o) (sym same) (subst (IsLeast (IsLinearization (part_of h n))) e.1 least)

-- each of the orders is a linearization
pub linearizations : (h : RecordedHistory) (orders : List (List ℕ)) (n : ℕ) → AreLeastOf h n orders → (object : ℕ) (order : List ℕ) → slice_get orders object ≡ Some order → IsLinearization (part_of h object) order
linearizations h orders n so_far object order e = (so_far.each object order e).0

pub verdict_yes : (h : RecordedHistory) (orders : List (List ℕ)) (n : ℕ) (l : List (Placed Reply)) → n ≡ length h.objects → AreLeastOf h n orders → IsJoined (whole_of h) orders l → IsLinearizationOfWhole (whole_of h) l → (bounds : Bounds) → IsVerdict h bounds (Yes l)
verdict_yes h orders n l all so_far joined whole bounds = ((orders, subst (λ (k : ℕ). AreLeastOf h k orders) all so_far, joined), whole)

order_there : (orders : List (List ℕ)) (i : ℕ) → i < length orders → (order : List ℕ) × (slice_get orders i ≡ Some order)
order_there [] i within = absurd (omega (arith, within))
order_there (x ∷ xs) zero within = (x, refl)
order_there (x ∷ xs) (suc i) within = order_there xs i (omega (arith, within))

-- each object before has a linearization
earlier_have : (h : RecordedHistory) (orders : List (List ℕ)) (object : ℕ) → AreLeastOf h object orders → (i : ℕ) → i < object → (l : List ℕ) × IsLinearization (part_of h i) l
earlier_have h orders object so_far i below =
    let there = order_there orders i (let count = so_far.count in omega (arith, below, count)) in
    (there.0, (so_far.each i there.0 there.1).0)

pub verdict_no : (h : RecordedHistory) (orders : List (List ℕ)) (object : ℕ) (order : List ℕ) (run : Vec (Placed Reply) Global) → object < length h.objects → AreLeastOf h object orders → ((l : List ℕ) → IsLinearization (part_of h object) l → ⊥) × IsFirstLongest (IsRun (part_of h object)) order → Places (whole_of h) object (start_at h object) order run.items → (bounds : Bounds) → IsVerdict h bounds (No object run)
verdict_no h orders object order run declared so_far none placed bounds = (
  (record { declared = declared; none = none.0; earlier = earlier_have h orders object so_far }, record { order = order; longest = none.1; placed = placed }),
  none_of_whole state_eq.it (whole_of h) object none.0,
)

pub verdict_no_in_time : (h : RecordedHistory) (orders : List (List ℕ)) (object : ℕ) → object < length h.objects → AreLeastOf h object orders → ((l : List ℕ) → IsLinearization (part_of h object) l → ⊥) → (bounds : Bounds) → IsSome bounds.seconds → IsVerdict h bounds (NoInTime object)
verdict_no_in_time h orders object declared so_far none bounds timed = (
  (record { declared = declared; none = none; earlier = earlier_have h orders object so_far }, timed),
  none_of_whole state_eq.it (whole_of h) object none,
)

pub verdict_undecided : (h : RecordedHistory) (orders : List (List ℕ)) (object : ℕ) → object < length h.objects → AreLeastOf h object orders → (bounds : Bounds) → MayBeUndecided (part_of h object) bounds → IsVerdict h bounds (Undecided object)
verdict_undecided h orders object declared so_far bounds over = record { declared = declared; earlier = earlier_have h orders object so_far; over = over }

-- who asks for the verdict alone does not ask for the longest run
pub asks_one : (question : Question) → question ≡ questions.Verdict → question ≡ questions.LongestRun → ⊥
asks_one questions.Verdict verdict run = absurd (cc)
asks_one questions.LongestRun verdict run = absurd (cc)

-- two breaks are equal only where their values are
pub breaks : {B C : Type 0} → {x y : B} → ◌≡◌ {A = ControlFlow B C} (Break x) (Break y) → x ≡ y
breaks e = cc
