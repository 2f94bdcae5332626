-- Verdicts within other bounds.
use Rattle.std.proofs.Common.{◌≡◌, inl, inr}
use Rattle.lin_history.specs.Problems.Problem.{Problem}
use Rattle.lin_workers.specs.declared.verdict.ObjectVerdict.{ObjectVerdict}
use Rattle.lin_workers.specs.declared.verdict.ObjectVerdict.TheVariants.{Yes, No, Undecided}
use Rattle.lin_workers.specs.declared.verdict.Alone.{Alone}
use Rattle.lin_workers.specs.declared.verdict.Alone.TheVariants.{Decided, Stalled, LimitMet, TimeUp}
use Rattle.lin_workers.specs.Bounds.{Bounds, unbounded, without_time}
use Rattle.lin_workers.specs.Verdict.{IsObjectVerdict, IsToldAlone}

-- a verdict within the limit alone is one within the limit and the time
pub verdict_with_time : {State Op Reply : Type 0} (p : Problem State Op Reply) (bounds : Bounds) (v : ObjectVerdict) → IsObjectVerdict p (without_time bounds) v → IsObjectVerdict p bounds v
verdict_with_time p bounds (Yes order) k = k
verdict_with_time p bounds (No run) k = k
verdict_with_time p bounds Undecided (inl timed) = absurd (let none = timed in cc)
verdict_with_time p bounds Undecided (inr over) = inr over

-- a verdict whatever the bounds is one within any
pub verdict_in_bounds : {State Op Reply : Type 0} (p : Problem State Op Reply) (bounds : Bounds) (v : ObjectVerdict) → IsObjectVerdict p unbounded v → IsObjectVerdict p bounds v
verdict_in_bounds p bounds (Yes order) k = k
verdict_in_bounds p bounds (No run) k = k
verdict_in_bounds p bounds Undecided (inl timed) = absurd (let none = timed in cc)
verdict_in_bounds p bounds Undecided (inr over) = absurd over

-- what a search alone tells with other bounds of the same time
pub told_in_bounds : {State Op Reply : Type 0} (p : Problem State Op Reply) (bounds other : Bounds) → other.seconds ≡ bounds.seconds → (told : Alone) → IsToldAlone p other told → IsToldAlone p bounds told
told_in_bounds p bounds other e (Decided verdict stored) k = k
told_in_bounds p bounds other e (Stalled lifts) k = tt
told_in_bounds p bounds other e LimitMet k = tt
told_in_bounds p bounds other e (TimeUp stored) k = (rw e at k.0, k.1)
