-- The rows of a stack: pops of items that one call alone pushes, and replies that are owed.
use Rattle.std.proofs.Common.{◌≡◌, ℕ, zero, suc, Bool, true, Option, Some, List, [], ◌∷◌, ◌++◌, length, ◌⊎◌, inl, inr, refl, sym, ◌∙◌, ap, subst, arith}
use Rattle.std.specs.Prelude.{ℤ, ◌+◌, slice_get, IfSome}
use Rattle.std.proofs.lemmas.List.{length-append}
use Rattle.lin_object.specs.declared.op.Op.{Op}
use Rattle.lin_object.specs.declared.op.Op.TheVariants.{Push, Pop}
use Rattle.lin_object.specs.declared.reply.Reply.{Reply}
use Rattle.lin_object.specs.declared.reply.Reply.TheVariants.{Int}
use Rattle.lin_history.specs.declared.problems.problem.ProblemCall.{ProblemCall}
use Rattle.lin_ahead.specs.declared.items.item_calls.ItemCalls.{ItemCalls}
use Rattle.lin_ahead.specs.Items.ItemCalls.{goes_in_once, nothing_told, told, told_in}
use Rattle.lin_ahead.specs.Queues.ToldOfQueue.{once_row}
use Rattle.lin_ahead.specs.Stacks.ToldOfStack.{exchanged_op, exchanged_call, exchanged_calls, popped_once_row, PushesIn, IsPopperIn, ArePoppers}
use Rattle.lin_ahead.proofs.items.RowLemmas.{seen_through}
use Rattle.lin_ahead.proofs.items.ToldLemmas.{PutsAt, one_alone}

puts_in : (calls : List (ProblemCall Op Reply)) (c : ℕ) (v : ℤ) → PushesIn calls c v → PutsAt (exchanged_calls calls) v c
puts_in calls c v (x, there, op) = (exchanged_call x, seen_through exchanged_call calls c x there, ap exchanged_op op)

-- an item of which a map tells that it goes in once
pub once_of : (calls : List (ProblemCall Op Reply)) (result : ItemCalls) (items : ℤ → Option ItemCalls) (passed item : ℤ) → result ≡ told_in items passed → passed ≡ item → ((v : ℤ) → told_in items v ≡ told (exchanged_calls calls) v) → goes_in_once result.putters ≡ true → goes_in_once (told (exchanged_calls calls) item).putters ≡ true
once_of calls result items passed item is same tells once =
    ap (λ (it : ItemCalls). goes_in_once it.putters) (sym (is ∙ tells passed ∙ ap (λ (v : ℤ). told (exchanged_calls calls) v) same)) ∙ once

-- a call that popped an item popped one that is the same
pub popped_as : (y : ProblemCall Op Reply) (w v : ℤ) → (y.op ≡ Pop) × ((n : ℕ) × (y.returned ≡ Some (n, Int w))) → w ≡ v → (y.op ≡ Pop) × ((n : ℕ) × (y.returned ≡ Some (n, Int v)))
popped_as y w v popped same = subst (λ (u : ℤ). (y.op ≡ Pop) × ((n : ℕ) × (y.returned ≡ Some (n, Int u)))) same popped

-- what goes in once is pushed by one call alone
pub popper_is : (calls : List (ProblemCall Op Reply)) (a z : ℕ) (x y : ProblemCall Op Reply) (v : ℤ) → slice_get calls a ≡ Some x → x.op ≡ Push v → goes_in_once (told (exchanged_calls calls) v).putters ≡ true → slice_get calls z ≡ Some y → (y.op ≡ Pop) × ((n : ℕ) × (y.returned ≡ Some (n, Int v))) → IsPopperIn calls a z
popper_is calls a z x y v there op once here popped =
    (v, (x, there, op), (λ d put. one_alone nothing_told (exchanged_calls calls) v refl once d a (puts_in calls d v put) (puts_in calls a v (x, there, op))), (y, here, popped.0, popped.1))

at_end : {A : Type 0} (xs : List A) (y : A) (a : ℕ) (w : A) → slice_get (xs ++ y ∷ []) a ≡ Some w → (slice_get xs a ≡ Some w) ⊎ ((a ≡ length xs) × (y ≡ w))
at_end [] y zero w e = inr (refl, cc)
at_end [] y (suc a) w e = absurd (cc)
at_end (x ∷ xs) y zero w e = inl e
at_end (x ∷ xs) y (suc a) w e = elim (at_end xs y a w e) [ inl q ↦ inl q | inr q ↦ inr (ap suc q.0, q.1) ]

-- a row with one call more
pub poppers_more : (calls : List (ProblemCall Op Reply)) (row : List (Option ℕ)) (n : ℕ) (o : Option ℕ) → length row ≡ n → ArePoppers calls row → IfSome o (IsPopperIn calls n) → ArePoppers calls (row ++ o ∷ [])
poppers_more calls row n o count are last a z e = elim (at_end row o a (Some z) e) [
  | inl q ↦ are a z q
  | inr q ↦ subst (λ (k : ℕ). IsPopperIn calls k z) (sym (q.0 ∙ count)) (subst (λ (p : Option ℕ). IfSome p (IsPopperIn calls n)) q.1 last)
]

pub count_more : (row : List (Option ℕ)) (n : ℕ) (o : Option ℕ) → length row ≡ n → length (row ++ o ∷ []) ≡ n + 1
count_more row n o e = let k : length (row ++ o ∷ []) ≡ length row + 1 = length-append row (o ∷ []) in omega (arith, k, e)

-- ---- rows by what is told of items

-- what is made of what is told, where the same is told of each item
pub told_row : {A : Type 0} (row : (ℤ → ItemCalls) → List (ProblemCall Op Reply) → A) (one other : ℤ → ItemCalls) (calls : List (ProblemCall Op Reply)) → ((v : ℤ) → one v ≡ other v) → row one calls ≡ row other calls
told_row row one other calls same = ap (λ (told : ℤ → ItemCalls). row told calls) (λ i v. same v i)

pub owed_row : (one : ℤ → ItemCalls) (cs ds calls : List (ProblemCall Op Reply)) (row : List Bool) → row ≡ once_row one cs → cs ≡ exchanged_calls calls → ((v : ℤ) → one v ≡ told ds v) → ds ≡ exchanged_calls calls → row ≡ popped_once_row calls
owed_row one cs ds calls row is same tells also =
    is
    ∙ ap (λ (l : List (ProblemCall Op Reply)). once_row one l) same
    ∙ told_row once_row one (told (exchanged_calls calls)) (exchanged_calls calls) (λ v. tells v ∙ ap (λ (l : List (ProblemCall Op Reply)). told l v) also)
