-- What is told of a problem by key where nothing is told.
use Rattle.std.proofs.Common.{◌≡◌, ℕ, ◌<◌, Option, Some, List, length, inl, inr, sym, ◌∙◌, ap, subst, arith}
use Rattle.std.specs.Prelude.{ℤ, slice_get, slice_index}
use Rattle.std.proofs.lemmas.Option.{slice_get_cases, slice_get_within}
use Rattle.lin_object.specs.declared.op.Op.{Op}
use Rattle.lin_object.specs.declared.op.Op.TheVariants.{Put, Lookup, Delete, Insert, Remove, Contains}
use Rattle.lin_object.specs.declared.reply.Reply.{Reply}
use Rattle.lin_object.specs.declared.state.ObjState.{ObjState}
use Rattle.lin_object.specs.declared.state.ObjState.TheVariants.{Map, Set}
use Rattle.lin_history.specs.declared.problems.problem.ProblemCall.{ProblemCall}
use Rattle.lin_history.specs.Problems.AnyProblem.{any_problem}
use Rattle.lin_history.specs.Problems.Lists.{In}
use Rattle.lin_history.specs.Problems.ProblemParts.{ProblemParts}
use Rattle.lin_search.specs.declared.told.Told.{Told}
use Rattle.lin_search.specs.declared.told.Told.TheVariants.{Found, Refuted, Nothing}
use Rattle.lin_search.specs.Told.{IsToldUnless}
use Rattle.lin_decide.specs.Keys.KeyedCalls.{AreCallsOn, AreKeyNumbers, GoesByKey, IsOnKey}
use Rattle.lin_decide.specs.Keys.Merging.{order_at}
use Rattle.lin_decide.specs.Keys.PartOrder.{IsSpentOnKey, IsSpentOnPart}
use Rattle.lin_parts.specs.Parts.{AreSomeCalls}
use Rattle.lin_decide.specs.Keys.Products.{AreCallsOf, AreListsOfKeys}
use Rattle.lin_decide.proofs.keys.AnswerLemmas.{spent_more}

-- an operation touches one key
one_key : (s : ObjState) (op : Op) (v w : ℤ) → IsOnKey s op v → IsOnKey s op w → v ≡ w
one_key (Map pairs) (Put q x) v w h k = sym h ∙ k
one_key (Map pairs) (Lookup q) v w h k = sym h ∙ k
one_key (Map pairs) (Delete q) v w h k = sym h ∙ k
one_key (Set items) (Insert q) v w h k = sym h ∙ k
one_key (Set items) (Remove q) v w h k = sym h ∙ k
one_key (Set items) (Contains q) v w h k = sym h ∙ k
one_key s op v w h k = absurd h

same_value : (o : Option ℤ) (v w : ℤ) → o ≡ Some v → o ≡ Some w → v ≡ w
same_value o v w e f = (let g : Some v ≡ Some w = sym e ∙ f in cc)

pub unless_more : (why more : Type 0) (told : Told) → (why → more) → IsToldUnless why told → IsToldUnless more told
unless_more why more (Found order) all h = tt
unless_more why more Refuted all h = tt
unless_more why more Nothing all h = all h

module _ {Object : Type 0} (parts : ProblemParts Object ObjState Op Reply) (keys : List ℤ) (numbers : List ℕ) (known : AreKeyNumbers parts keys numbers) where
  pub goes_by_key : GoesByKey parts
  goes_by_key = record { empty = known.empty; keyed = λ c x at. (let k = known.keyed c x at in (k.0, k.2)) }

  module _ (k : ℕ) (kept : List ℕ) (of : AreCallsOf (slice_index numbers) (length numbers) k kept) where
    pub some_calls : AreSomeCalls (any_problem parts) kept
    some_calls = (of.rises, λ c h. (let below = of.below c h in let count = known.count in omega (arith, below, count)))

    -- the calls of a key's number are those on the key
    calls_on : (v : ℤ) → slice_get keys k ≡ Some v → AreCallsOn parts v kept
    calls_on v at_k = record {
      rises = of.rises;
      there = λ c x at on.
          let its = known.keyed c x at in
          let below = slice_get_within parts.calls c x at in
          let count = known.count in
          of.there c (omega (arith, below, count)) (known.distinct (slice_index numbers c) k v (its.1 ∙ ap (λ (w : ℤ). Some w) (one_key parts.start x.op its.0 v its.2 on)) at_k);
      own = λ c h. elim (slice_get_cases parts.calls c).1 [
        | inl there ↦ (there.0, there.2, own_key c h there.0 there.2)
        | inr none ↦ absurd (let below = of.below c h in let count = known.count in let past = none.0 in omega (arith, below, count, past))
      ];
    }
      where
        own_key : (c : ℕ) → In c kept → (x : ProblemCall Op Reply) → slice_get parts.calls c ≡ Some x → IsOnKey parts.start x.op v
        own_key c h x at =
            let its = known.keyed c x at in
            let same = same_value (slice_get keys k) its.0 v (ap (slice_get keys) (sym (of.own c h)) ∙ its.1) at_k in
            subst (IsOnKey parts.start x.op) same its.2

    pub spent_on_key : k < length keys → (limit : Option ℕ) (tells more : ℕ → Type 0) → ((n : ℕ) → tells n → more n) → IsSpentOnPart (any_problem parts) kept limit tells → IsSpentOnKey parts limit more
    spent_on_key less limit tells more all spent = elim (slice_get_cases keys k).1 [
      | inl there ↦ (there.0, kept, calls_on there.0 there.2, spent_more (any_problem parts) kept limit tells more all spent)
      | inr none ↦ absurd (let past = none.0 in omega (arith, past, less))
    ]

  -- so it is for the list of each key
  pub some_of_each : (lists : List (List ℕ)) → AreListsOfKeys keys numbers lists → (k : ℕ) → k < length lists → AreSomeCalls (any_problem parts) (order_at lists k)
  some_of_each lists are k less = some_calls k (order_at lists k) (are.calls k (let count = are.count in omega (arith, less, count)))

  pub spent_of_each : (lists : List (List ℕ)) → AreListsOfKeys keys numbers lists → (k : ℕ) → k < length lists → (limit : Option ℕ) (tells more : ℕ → Type 0) → ((n : ℕ) → tells n → more n)
      → IsSpentOnPart (any_problem parts) (order_at lists k) limit tells → IsSpentOnKey parts limit more
  spent_of_each lists are k less limit tells more all spent =
      let count = are.count in
      spent_on_key k (order_at lists k) (are.calls k (omega (arith, less, count))) (omega (arith, less, count)) limit tells more all spent
