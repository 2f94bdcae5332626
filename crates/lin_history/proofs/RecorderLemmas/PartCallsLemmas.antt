-- The calls of a part, taken from the calls of the history by their indices.
use Rattle.std.proofs.Common.{◌≡◌, ℕ, suc, ◌+◌, ◌<◌, ◌≤◌, ◌==◌, Bool, true, false, cond, List, [], ◌∷◌, ◌++◌, length, map, filter, drop, get_or, Some, refl, sym, subst, ap, ◌∙◌, append_assoc, append-nil, add-one, arith}
use Rattle.std.specs.List.{slice_get}
use Rattle.std.proofs.lemmas.List.{drop_all, length-map}
use Rattle.std.proofs.lemmas.Option.{slice_get-get_or, slice_get_within}
use Rattle.lin_history.specs.declared.limits.TheConstants.{MAX_CALLS_ON_OBJECT}
use Rattle.lin_object.specs.declared.op.Op.{Op}
use Rattle.lin_object.specs.declared.reply.Reply.{Reply}
use Rattle.lin_history.specs.declared.problems.problem.ProblemCall.{ProblemCall}
use Rattle.lin_history.specs.Recorder.Events.{Call}
use Rattle.lin_history.specs.Recorder.RecordedHistory.{is_on}
use Rattle.lin_history.specs.Recorder.Views.{count_on}
use Rattle.lin_history.specs.Recorder.Parts.{problem_call}
use Rattle.lin_history.specs.Locality.JoinedOrder.{indices_from}
use Rattle.lin_history.specs.Locality.PlaceLemmas.{calls_of_part, at_number}
use Rattle.lin_history.proofs.ListLemmas.{drop_at}

module _ {A : Type 0} where
  -- one element more of a list
  pub one_more : (l front new : List A) (n : ℕ) (x : A) → slice_get l n ≡ Some x → new ≡ front ++ x ∷ [] → front ++ drop n l ≡ l → new ++ drop (n + 1) l ≡ l
  one_more l front new n x there pushed so_far =
      rw (pushed, add-one) (append_assoc front (x ∷ []) (drop (suc n) l) ∙ subst (λ (rest : List A). front ++ rest ≡ l) (drop_at l n x there) so_far)

  -- all of its elements
  pub no_more : (l front : List A) (n : ℕ) → length l ≤ n → front ++ drop n l ≡ l → front ≡ l
  no_more l front n over so_far = sym (append-nil front) ∙ subst (λ (rest : List A). front ++ rest ≡ l) (drop_all n l over) so_far

module _ {Op Reply : Type 0} (object : ℕ) (calls : List (Call Op Reply)) where
  -- the call of an index stands in the part
  pub in_part : (k a : ℕ) (c : Call Op Reply) → slice_get (indices_from object 0 calls) k ≡ Some a → slice_get calls a ≡ Some c → slice_get (calls_of_part object calls) k ≡ Some (problem_call c)
  in_part k a c at there =
      let d = at_number object 0 calls k a at in
      let place : a ≡ d.1.place = (let f = d.1.index in omega (arith, f)) in
      let whole : slice_get calls a ≡ Some d.0 = subst (λ (i : ℕ). slice_get calls i ≡ Some d.0) (sym place) d.1.whole in
      let same : d.0 ≡ c = cc in
      subst (λ (e : Call Op Reply). slice_get (calls_of_part object calls) k ≡ Some (problem_call e)) same d.1.part

  -- an index is that of a call
  pub index_within : (indices : List ℕ) (k : ℕ) → indices ≡ indices_from object 0 calls → k < length indices → get_or indices k 0 < length calls
  index_within indices k are within =
      let at : slice_get (indices_from object 0 calls) k ≡ Some (get_or indices k 0) = rw (← are) (slice_get-get_or indices k 0 within) in
      let d = at_number object 0 calls k (get_or indices k 0) at in
      let low = slice_get_within calls d.1.place d.0 d.1.whole in
      let f = d.1.index in
      omega (arith, low, f)

  -- one call more of the part
  pub part_next : (indices : List ℕ) (k value : ℕ) (c : Call Op Reply) (front new : List (ProblemCall Op Reply)) → indices ≡ indices_from object 0 calls → k < length indices → value ≡ get_or indices k 0
      → slice_get calls value ≡ Some c → new ≡ front ++ problem_call c ∷ [] → front ++ drop k (calls_of_part object calls) ≡ calls_of_part object calls → new ++ drop (k + 1) (calls_of_part object calls) ≡ calls_of_part object calls
  part_next indices k value c front new are within is there pushed so_far =
      let at : slice_get (indices_from object 0 calls) k ≡ Some value = rw (← are, is) (slice_get-get_or indices k 0 within) in
      one_more (calls_of_part object calls) front new k (problem_call c) (in_part k value c at there) pushed so_far

module _ {Op Reply : Type 0} (object : ℕ) where
  -- a part has as many calls as indices
  pub as_many : (n : ℕ) (calls : List (Call Op Reply)) → length (indices_from object n calls) ≡ length (calls_of_part object calls)
  as_many n [] = refl
  as_many n (x ∷ xs) = by_test (x.object == object) (as_many (n + 1) xs)
    where
      by_test : (t : Bool) → length (indices_from object (n + 1) xs) ≡ length (calls_of_part object xs)
          → length (cond t (n ∷ indices_from object (n + 1) xs) (indices_from object (n + 1) xs)) ≡ length (map problem_call (cond t (x ∷ filter (λ c. c.object == object) xs) (filter (λ c. c.object == object) xs)))
      by_test true ih = ap suc ih
      by_test false ih = ih

  -- all calls of the part
  pub part_done : (calls : List (Call Op Reply)) (indices : List ℕ) (k : ℕ) (front : List (ProblemCall Op Reply)) → indices ≡ indices_from object 0 calls → length indices ≤ k
      → front ++ drop k (calls_of_part object calls) ≡ calls_of_part object calls → front ≡ calls_of_part object calls
  part_done calls indices k front are over so_far =
      no_more (calls_of_part object calls) front k (let e = as_many 0 calls in let m = ap (λ (l : List ℕ). length l) are in omega (arith, e, m, over)) so_far

-- a part has as many calls as are on its object
pub few_in_part : (object : ℕ) (calls : List (Call Op Reply)) → count_on object calls ≤ MAX_CALLS_ON_OBJECT → length (calls_of_part object calls) ≤ MAX_CALLS_ON_OBJECT
few_in_part object calls few = let same = length-map (filter (is_on object) calls) problem_call in omega (arith, same, few)
