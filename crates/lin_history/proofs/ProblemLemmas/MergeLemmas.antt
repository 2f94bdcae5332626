-- How the events of a problem are put in order: the steps of the merge.
use Rattle.std.proofs.Common.{append_assoc, ◌≡◌, ℕ, zero, suc, ◌+◌, ◌-◌, ◌<◌, ◌≤◌, Option, Some, None, List, [], ◌∷◌, ◌++◌, length, take, map, get_or, refl, sym, ap, subst, ◌∙◌, arith}
use Rattle.std.specs.Prelude.{IfSome, OnOk, Result, Ok, Err}
use Rattle.std.specs.List.{slice_get, All}
use Rattle.std.specs.List.Sorted.{IsPermutation, IsNonDecreasingBy}
use Rattle.std.specs.Ordering.{nat_cmp}
use Rattle.std.specs.BinaryHeap.{IsHeap, IsUpperBound, KeepsHeap, PopsGreatest}
use Rattle.std.proofs.HeapSift.{at_most}
use Rattle.std.proofs.lemmas.List.{append-nil, map-append, take_more, take_all, length-take}
use Rattle.std.proofs.lemmas.Option.{slice_get_within, slice_get-get_or, get_or_from_slice_get}
use Rattle.std.proofs.lemmas.List.Elements.{All-nil, All-cons, All-push, All-weaker, All-head, All-tail}
use Rattle.std.proofs.lemmas.List.Sorted.{All-permutation, IsPermutation-sym, IsPermutation-trans, IsPermutation-middle, IsPermutation-append_comm, IsPermutation-append_left, IsPermutation-append_right, IsPermutation-refl, IsPermutation-push_more, IsPermutation-pop_more, IsNonDecreasingBy-push, IsNonDecreasingBy-short}
use Rattle.lin_history.specs.declared.problems.problem.ProblemCall.{ProblemCall}
use Rattle.lin_history.specs.declared.problems.timeline.Timed.{Timed}
use Rattle.lin_history.specs.declared.problems.timeline.ProblemEvent.{ProblemEvent}
use Rattle.lin_history.specs.declared.problems.timeline.ProblemEvent.TheVariants.{Return}
use Rattle.lin_history.specs.Problems.ProblemParts.{AreTimed}
use Rattle.lin_history.specs.Problems.NumberedEvents.{number_at, event_at, first_by_number, call_event, return_of, events_of_call, events_from, TakesFirst, AreMerged, AreMergedUpTo}

-- what a heap gives first has the least number
pub least_first : (first : Timed) (ts : List Timed) → IsUpperBound first_by_number first ts → All (λ t. first.number ≤ t.number) ts
least_first first [] h = All-nil (λ (t : Timed). first.number ≤ t.number)
least_first first (t ∷ ts) h = All-cons (λ (u : Timed). first.number ≤ u.number) t ts (at_most t.number first.number h.0) (least_first first ts h.1)

-- what is not less than the first is not less than any
pub all_from : (number : ℕ) (first : Timed) (ts : List Timed) → number ≤ first.number → IsUpperBound first_by_number first ts → All (λ t. number ≤ t.number) ts
all_from number first ts low h = All-weaker (λ (t : Timed). first.number ≤ t.number) (λ (t : Timed). number ≤ t.number) (λ t k. omega (arith, low, k)) ts (least_first first ts h)

-- a list of no events
pub nothing_left : (ts : List Timed) → length ts ≡ 0 → ts ≡ []
nothing_left [] e = refl
nothing_left (t ∷ ts) e = absurd (omega (arith, e))

-- and what holds of each
pub all_of_nothing : (number : ℕ) (ts : List Timed) → length ts ≡ 0 → All (λ t. number ≤ t.number) ts
all_of_nothing number ts e i d lt = absurd (omega (arith, e, lt))

-- what `pop` gives
pub pop_first : (result : Option Timed) (old new : List Timed) → IsHeap first_by_number old → IfSome result (λ x. IsPermutation old (x ∷ new)) → IfSome result (λ x. PopsGreatest first_by_number old x new) → IfSome result (λ x. TakesFirst old x new)
pop_first None old new h moved greatest = tt
pop_first (Some x) old new h moved greatest = record { least = least_first x old (greatest h).1; heap = (greatest h).0; moved = moved }

-- what is taken out comes before a number that the first comes before
pub pop_before : (result : Option Timed) (old new : List Timed) (number : ℕ) (first : Timed) → 0 < length old → first ≡ get_or old 0 first → first.number < number → IfSome result (λ x. TakesFirst old x new) → IfSome result (λ x. (x.number < number) × TakesFirst old x new)
pop_before None old new number first some e less takes = tt
pop_before (Some x) old new number first some e less takes =
    let low = takes.least 0 first some in
    let same = ap number_at e in
    (omega (arith, low, same, less), takes)

-- The event that is taken out comes next.
merge_first : (all : List Timed) (low : ℕ) (events : List ProblemEvent) (old : List Timed) (first : Timed) (new : List Timed) → AreMerged all low events old → TakesFirst old first new → (low ≤ first.number) × AreMerged all first.number (events ++ first.event ∷ []) new
merge_first all low events old first new m takes =
    let within : low ≤ first.number = All-head (λ (t : Timed). low ≤ t.number) first new (All-permutation (λ (t : Timed). low ≤ t.number) old (first ∷ new) takes.moved m.above) in (
      within,
      record {
        rows = m.rows ++ first ∷ [];
        same = ap (λ (l : List ProblemEvent). l ++ first.event ∷ []) m.same ∙ sym (map-append event_at m.rows (first ∷ []));
        sorted = IsNonDecreasingBy-push number_at m.rows first m.sorted (λ d some. let last = m.below (length m.rows - 1) d (omega (arith, some)) in omega (arith, last, within));
        below = All-push (λ (t : Timed). t.number ≤ first.number) m.rows first (All-weaker (λ (t : Timed). t.number ≤ low) (λ (t : Timed). t.number ≤ first.number) (λ t k. omega (arith, k, within)) m.rows m.below) (omega arith);
        above = All-tail (λ (t : Timed). first.number ≤ t.number) first new (All-permutation (λ (t : Timed). first.number ≤ t.number) old (first ∷ new) takes.moved takes.least);
        heap = takes.heap;
        moved = IsPermutation-pop_more all m.rows old new first m.moved takes.moved;
      },
    )

pub merge_before : (all : List Timed) (number : ℕ) (events : List ProblemEvent) (old : List Timed) (first : Timed) (new : List Timed) → first.number < number → AreMergedUpTo all number events old → TakesFirst old first new → AreMergedUpTo all number (events ++ first.event ∷ []) new
merge_before all number events old first new less m takes =
    let next = merge_first all m.0 events old first new m.2 takes in
    (first.number, omega (arith, less), next.1)

pub merge_next : (all : List Timed) (events after : List ProblemEvent) (old : List Timed) (first : Timed) (new : List Timed) → TakesFirst old first new → after ≡ events ++ first.event ∷ [] → (low : ℕ) × AreMerged all low events old → (high : ℕ) × AreMerged all high after new
merge_next all events after old first new takes e m = (first.number, subst (λ (l : List ProblemEvent). AreMerged all first.number l new) (sym e) (merge_first all m.0 events old first new m.1 takes).1)

-- where nothing that is left has a lesser number, nothing changes
pub nothing_before : (all : List Timed) (number : ℕ) (events : List ProblemEvent) (old new : List Timed) → new ≡ old → AreMergedUpTo all number events old → All (λ t. number ≤ t.number) old → AreMergedUpTo all number events new × All (λ t. number ≤ t.number) new
nothing_before all number events old new e m above = subst (λ l. AreMergedUpTo all number events l × All (λ (t : Timed). number ≤ t.number) l) (sym e) (m, above)

-- A call event comes next, where no event that is left has a lesser number.
merge_call : (all : List Timed) (events : List ProblemEvent) (later : List Timed) (call : Timed) → AreMergedUpTo all call.number events later → All (λ t. call.number ≤ t.number) later → AreMerged (all ++ call ∷ []) call.number (events ++ call.event ∷ []) later
merge_call all events later call up above =
    let low = up.0 in
    let within = up.1 in
    let m = up.2 in
    let there : IsPermutation (call ∷ (m.rows ++ later)) ((m.rows ++ call ∷ []) ++ later) =
    subst (λ l. IsPermutation (call ∷ (m.rows ++ later)) l) (sym (append_assoc m.rows (call ∷ []) later)) (IsPermutation-sym (m.rows ++ call ∷ later) (call ∷ (m.rows ++ later)) (IsPermutation-middle m.rows call later)) in
    record {
      rows = m.rows ++ call ∷ [];
      same = ap (λ (l : List ProblemEvent). l ++ call.event ∷ []) m.same ∙ sym (map-append event_at m.rows (call ∷ []));
      sorted = IsNonDecreasingBy-push number_at m.rows call m.sorted (λ d some. let last = m.below (length m.rows - 1) d (omega (arith, some)) in omega (arith, last, within));
      below = All-push (λ (t : Timed). t.number ≤ call.number) m.rows call (All-weaker (λ (t : Timed). t.number ≤ low) (λ (t : Timed). t.number ≤ call.number) (λ t k. omega (arith, k, within)) m.rows m.below) (omega arith);
      above = above;
      heap = m.heap;
      moved = IsPermutation-push_more all (m.rows ++ later) ((m.rows ++ call ∷ []) ++ later) call m.moved there;
    }

-- a return has a greater number than its call
above_return : {Reply : Type 0} → (low call : ℕ) (o : Option (ℕ × Reply)) (later : List Timed) → IfSome o (λ r. low < r.0) → All (λ t. low ≤ t.number) later → All (λ t. low ≤ t.number) (return_of call o ++ later)
above_return low call None later h above = above
above_return low call (Some r) later h above = All-cons (λ (t : Timed). low ≤ t.number) (record { number = r.0; event = Return call }) later (omega (arith, h)) above

-- The return event of a call is put in with those that are left.
merge_return : {Reply : Type 0} → (all : List Timed) (low call : ℕ) (o : Option (ℕ × Reply)) (events : List ProblemEvent) (old new : List Timed) → IfSome o (λ r. low < r.0) → AreMerged all low events old → IsPermutation (return_of call o ++ old) new → KeepsHeap first_by_number old new → AreMerged (all ++ return_of call o) low events new
merge_return all low call o events old new higher m moved heap =
    let q = return_of call o in
    let both : IsPermutation (all ++ q) ((m.rows ++ old) ++ q) = IsPermutation-append_left q all (m.rows ++ old) m.moved in
    let last : IsPermutation (old ++ q) new = IsPermutation-trans (old ++ q) (q ++ old) new (IsPermutation-append_comm old q) moved in
    record {
      rows = m.rows;
      same = m.same;
      sorted = m.sorted;
      below = m.below;
      above = All-permutation (λ (t : Timed). low ≤ t.number) (q ++ old) new moved (above_return low call o old higher m.above);
      heap = heap m.heap;
      moved = IsPermutation-trans (all ++ q) (m.rows ++ (old ++ q)) (m.rows ++ new) (subst (λ l. IsPermutation (all ++ q) l) (append_assoc m.rows old q) both) (IsPermutation-append_right m.rows (old ++ q) new last);
    }

-- the events of a call: its call event, and then its return
merge_events : {Op Reply : Type 0} (all : List Timed) (call : ℕ) (x : ProblemCall Op Reply) (low : ℕ) (events : List ProblemEvent) (later : List Timed) → AreMerged ((all ++ call_event call x ∷ []) ++ return_of call x.returned) low events later → AreMerged (all ++ events_of_call call x) low events later
merge_events all call x low events later m = subst (λ l. AreMerged l low events later) (append_assoc all (call_event call x ∷ []) (return_of call x.returned)) m

-- The returns before the call event of this call are out; the call event comes next, and its return event is put in.
pub merge_call_events : {Op Reply : Type 0} (all : List Timed) (call : ℕ) (x : ProblemCall Op Reply) (events after : List ProblemEvent) (later new : List Timed) → IfSome x.returned (λ r. x.called < r.0) → AreMergedUpTo all x.called events later → All (λ t. x.called ≤ t.number) later → after ≡ events ++ (call_event call x).event ∷ [] → IsPermutation (return_of call x.returned ++ later) new → KeepsHeap first_by_number later new → AreMerged (all ++ events_of_call call x) x.called after new
merge_call_events all call x events after later new higher up above e moved heap =
    let called : AreMerged (all ++ call_event call x ∷ []) x.called after later = subst (λ (l : List ProblemEvent). AreMerged (all ++ call_event call x ∷ []) x.called l later) (sym e) (merge_call all events later (call_event call x) up above) in
    merge_events all call x x.called after new (merge_return (all ++ call_event call x ∷ []) x.called call x.returned after later new higher called moved heap)

-- nothing is merged yet
pub merge_nothing : (later : List Timed) → later ≡ [] → IsHeap first_by_number later → AreMerged [] 0 [] later
merge_nothing later e heap = record {
  rows = [];
  same = refl;
  sorted = IsNonDecreasingBy-short number_at [] (omega arith);
  below = All-nil (λ (t : Timed). t.number ≤ 0);
  above = subst (λ l. All (λ (t : Timed). 0 ≤ t.number) l) (sym e) (All-nil (λ (t : Timed). 0 ≤ t.number));
  heap = heap;
  moved = subst (λ l. IsPermutation [] l) (sym e) (IsPermutation-refl []);
}

-- all are merged where nothing is left
pub merge_all : (all : List Timed) (events : List ProblemEvent) (later : List Timed) → later ≡ [] → (low : ℕ) × AreMerged all low events later → (high : ℕ) × AreMerged all high events []
merge_all all events later e m = (m.0, subst (λ l. AreMerged all m.0 events l) e m.1)

events_push : {Op Reply : Type 0} (n : ℕ) (xs : List (ProblemCall Op Reply)) (x : ProblemCall Op Reply) (m : ℕ) → m ≡ n + length xs → events_from n (xs ++ x ∷ []) ≡ events_from n xs ++ events_of_call m x
events_push n [] x m e = let same : m ≡ n = omega (arith, e) in rw same (append-nil (events_of_call n x))
events_push n (y ∷ xs) x m e = ap (λ (l : List Timed). events_of_call n y ++ l) (events_push (n + 1) xs x m (omega (arith, e))) ∙ sym (append_assoc (events_of_call n y) (events_from (n + 1) xs) (events_of_call m x))

-- the events of one call more
events_more : {Op Reply : Type 0} (calls : List (ProblemCall Op Reply)) (call : ℕ) (x : ProblemCall Op Reply) → slice_get calls call ≡ Some x → events_from 0 (take (call + 1) calls) ≡ events_from 0 (take call calls) ++ events_of_call call x
events_more {Op = Op} {Reply = Reply} calls call x e =
    let within = slice_get_within calls call x e in
    let same : get_or calls call x ≡ x = get_or_from_slice_get calls call x x e in
    ap (λ (l : List (ProblemCall Op Reply)). events_from 0 l) (take_more calls call x within ∙ ap (λ (y : ProblemCall Op Reply). take call calls ++ y ∷ []) same) ∙ events_push 0 (take call calls) x call (omega (arith, length-take call calls, within))

-- each returns after it was called
returns_later : {Reply : Type 0} (called : ℕ) (o : Option (ℕ × Reply)) → ((r : ℕ × Reply) → o ≡ Some r → called < r.0) → IfSome o (λ r. called < r.0)
returns_later called None h = tt
returns_later called (Some r) h = h r refl

pub returns_after : {Op Reply : Type 0} (calls : List (ProblemCall Op Reply)) (call : ℕ) (x : ProblemCall Op Reply) → AreTimed calls → slice_get calls call ≡ Some x → IfSome x.returned (λ r. x.called < r.0)
returns_after calls call x timed e = returns_later x.called x.returned (λ r f. timed.returned call x r e f)

-- The events of the calls before this one are merged, up to a number that is not greater than that of this call.
abbrev pub AreMergedBefore : {Op Reply : Type 0} → List (ProblemCall Op Reply) → ℕ → List ProblemEvent → List Timed → Type 0
AreMergedBefore {Op} {Reply} calls call events later = (low : ℕ) × AreMerged (events_from 0 (take call calls)) low events later × ((x : ProblemCall Op Reply) → slice_get calls call ≡ Some x → low ≤ x.called)

merged_up_to : {Op Reply : Type 0} (calls : List (ProblemCall Op Reply)) (call : ℕ) (x : ProblemCall Op Reply) (events : List ProblemEvent) (later : List Timed) → slice_get calls call ≡ Some x → AreMergedBefore calls call events later → AreMergedUpTo (events_from 0 (take call calls)) x.called events later
merged_up_to calls call x events later e m = (m.0, m.2 x e, m.1)

-- the events of one call more
pub merged_more : {Op Reply : Type 0} (calls : List (ProblemCall Op Reply)) (call : ℕ) (x : ProblemCall Op Reply) (events after : List ProblemEvent) (later new : List Timed) → AreTimed calls → slice_get calls call ≡ Some x → AreMergedBefore calls call events later → ((all : List Timed) → AreMergedUpTo all x.called events later → AreMerged (all ++ events_of_call call x) x.called after new) → AreMergedBefore calls (call + 1) after new
merged_more calls call x events after later new timed e m adds = (
  x.called,
  subst (λ (l : List Timed). AreMerged l x.called after new) (sym (events_more calls call x e)) (adds (events_from 0 (take call calls)) (merged_up_to calls call x events later e m)),
  λ y f. let low = timed.called call (call + 1) x y (omega arith) e f in omega (arith, low),
)

pub merged_at_start : {Op Reply : Type 0} (calls : List (ProblemCall Op Reply)) (events : List ProblemEvent) (later : List Timed) → events ≡ [] → later ≡ [] → IsHeap first_by_number later → AreMergedBefore calls 0 events later
merged_at_start calls events later e f heap = (0, subst (λ (l : List ProblemEvent). AreMerged [] 0 l later) (sym e) (merge_nothing later f heap), λ x g. omega arith)

pub merged_at_end : {Op Reply : Type 0} (calls : List (ProblemCall Op Reply)) (call : ℕ) (events after : List ProblemEvent) (later : List Timed) → length calls ≤ call → AreMergedBefore calls call events later → ((all : List Timed) (low : ℕ) → AreMerged all low events later → (high : ℕ) × AreMerged all high after []) → (high : ℕ) × AreMerged (events_from 0 calls) high after []
merged_at_end {Op = Op} {Reply = Reply} calls call events after later long m rest = rest (events_from 0 calls) m.0 (subst (λ (l : List (ProblemCall Op Reply)). AreMerged (events_from 0 l) m.0 events later) (take_all call calls long) m.1)

-- what is read at a place within the calls
pub there : {A : Type 0} (xs : List A) (i : ℕ) (x : A) → i < length xs → x ≡ get_or xs i x → slice_get xs i ≡ Some x
there {A = A} xs i x within e = slice_get-get_or xs i x within ∙ ap (λ (y : A). Some y) (sym e)

-- of two facts about a success a third
pub on_ok_both : {A E P Q S : Type 0} (r : Result A E) → OnOk r P → OnOk r Q → (P → Q → S) → OnOk r S
on_ok_both (Ok a) p q f = f p q
on_ok_both (Err e) p q f = tt
