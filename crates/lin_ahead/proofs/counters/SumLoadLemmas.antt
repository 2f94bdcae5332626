-- What lifted calls of a counter add at least, counted in the order of their numbers.
use Rattle.std.proofs.Common.{◌≡◌, ◌≢◌, ℕ, ◌+◌, ◌≤◌, Bool, true, List, [], ◌∷◌, ◌++◌, inl, inr, refl, sym, subst, arith}
use Rattle.std.specs.Prelude.{slice_get}
use Rattle.lin_object.specs.declared.op.Op.{Op}
use Rattle.lin_object.specs.declared.reply.Reply.{Reply}
use Rattle.lin_object.specs.declared.state.ObjState.{ObjState}
use Rattle.lin_history.specs.Problems.Problem.{Problem}
use Rattle.lin_history.specs.Problems.ListLemmas.{in_either}
use Rattle.lin_history.specs.Problems.Precedence.{Before}
use Rattle.lin_history.specs.Problems.Continuations.{has}
use Rattle.lin_ahead.specs.Counters.Sums.{AddFreely, IsFreeShare, IsLiftedShare, IsLoad}
use Rattle.lin_laws.specs.Shares.{share_of_call}
use Rattle.lin_ahead.proofs.counters.SumLemmas.{total_append, distinct_both}

module _ (p : Problem ObjState Op Reply) (set : List Bool) (up : Bool) (g c : ℕ) where
  pub freely_none : (from to : ℕ) → AddFreely p set up g c from to 0
  freely_none from to = record {
    calls = [];
    distinct = tt;
    within = λ a h. absurd h;
    free = λ a h. absurd h;
    sum = omega arith;
  }

  -- of a longer range, and of less
  pub freely_within : (from to wide sum n : ℕ) → AddFreely p set up g c from to sum → to ≤ wide → n ≤ sum → AddFreely p set up g c from wide n
  freely_within from to wide sum n k longer less = record {
    calls = k.calls;
    distinct = k.distinct;
    within = λ a h. (let w = k.within a h in let x = w.0 in let y = w.1 in (x, omega (arith, y, longer)));
    free = k.free;
    sum = (let s = k.sum in omega (arith, s, less));
  }

  -- with the next call
  pub freely_more : (from to next sum n m : ℕ) → AddFreely p set up g c from to sum → from ≤ next → to ≤ next → IsLiftedShare p set up g c next n → m ≤ sum + n → AddFreely p set up g c from (next + 1) m
  freely_more from to next sum n m k low high (inl none) less = freely_within from to (next + 1) sum m k (omega (arith, high)) (omega (arith, none, less))
  freely_more from to next sum n m k low high (inr (share, free, lifted, other)) less = record {
    calls = next ∷ k.calls;
    distinct = ((λ h. let w = (k.within next h).1 in omega (arith, w, high)), k.distinct);
    within = λ a h. elim h [
      | inl e ↦ (omega (arith, e, low), omega (arith, e))
      | inr more ↦ (let w = k.within a more in let x = w.0 in let y = w.1 in (x, omega (arith, y, high)))
    ];
    free = λ a h. elim h [
      | inl e ↦ subst (λ (b : ℕ). (has set b ≡ true) × (b ≢ c) × (Before p b g → ⊥)) (sym e) (lifted, other, free)
      | inr more ↦ k.free a more
    ];
    sum = (let s = k.sum in omega (arith, s, less, share));
  }

  -- two ranges, and what the call itself adds
  two_ranges : (from to pending near : ℕ) → AddFreely p set up g c 0 from pending → AddFreely p set up g c from to near → AddFreely p set up g c 0 (from + to) (pending + near)
  two_ranges from to pending near j k = record {
    calls = j.calls ++ k.calls;
    distinct = distinct_both j.calls k.calls j.distinct k.distinct (λ a h i. let x = (j.within a h).1 in let y = (k.within a i).0 in omega (arith, x, y));
    within = λ a h. (omega arith, elim (in_either a j.calls k.calls h) [ inl i ↦ (let x = (j.within a i).1 in omega (arith, x)) | inr i ↦ (let x = (k.within a i).1 in omega (arith, x)) ]);
    free = λ a h. elim (in_either a j.calls k.calls h) [ inl i ↦ j.free a i | inr i ↦ k.free a i ];
    sum = (let x = j.sum in let y = k.sum in let z = total_append (λ a. share_of_call up (slice_get p.calls a)) j.calls k.calls in omega (arith, x, y, z));
  }

  with_own : (from to own sum n : ℕ) → IsFreeShare p up g c own → AddFreely p set up g c from to sum → n ≤ own + sum → IsLoad p set up g c n
  with_own from to own sum n (inl none) k less = record {
    calls = k.calls;
    distinct = k.distinct;
    free = λ a h. (inr ((k.free a h).0), (k.free a h).2);
    sum = (let s = k.sum in omega (arith, s, none, less));
  }
  with_own from to own sum n (inr (share, free)) k less = record {
    calls = c ∷ k.calls;
    distinct = ((λ h. (k.free c h).1 refl), k.distinct);
    free = λ a h. elim h [
      | inl e ↦ (inl e, subst (λ (b : ℕ). Before p b g → ⊥) (sym e) free)
      | inr more ↦ (inr ((k.free a more).0), (k.free a more).2)
    ];
    sum = (let s = k.sum in omega (arith, s, share, less));
  }

  pub load_is : (from to own pending near n : ℕ) → IsFreeShare p up g c own → AddFreely p set up g c 0 from pending → AddFreely p set up g c from to near → n ≤ own + (pending + near) → IsLoad p set up g c n
  load_is from to own pending near n share j k less = with_own 0 (from + to) own (pending + near) n share (two_ranges from to pending near j k) less
