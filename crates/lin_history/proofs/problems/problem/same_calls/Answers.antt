use Rattle.std.proofs.Common.{arith, ◌<◌, length, below_more, refl}
use Rattle.std.proofs.lemmas.Option.{slice_get_read}
use Rattle.lin_history.specs.Problems.SameProblemLemmas.{same_by_index, same_at, same_length}
use Rattle.lin_history.proofs.problems.problem.same_calls.Goals as goal

pub returns-then-a-b : goal.returns-then-a-b
returns-then-a-b g c = (
  λ e. absurd (cc),
  λ s. absurd (let h = same_length _ _ _ _ s in c.if-a-b.true h),
)

pub returns-then-not-same_call : goal.returns-then-not-same_call
returns-then-not-same_call g c = (
  λ e. absurd (cc),
  λ s.
      let a = slice_get_read _ _ _ _ refl c.loop-i-test.true c.index-a-i.is in
      let within : c.loop-i.i < length c.args.b.now = omega (arith, c.if-a-b.false, c.loop-i-test.true) in
      let b = slice_get_read _ _ _ _ refl within c.index-b-i.is in
      let h = c.same_call.ensures.1 (rw (a, b) at (same_at _ _ _ _ c.loop-i.i s)) in
      let f = c.if-not-same_call.true in cc,
)

pub loop-i-preserved : goal.loop-i-preserved
loop-i-preserved g c =
    let a = slice_get_read _ _ _ _ refl c.loop-i-test.true c.index-a-i.is in
    let within : c.loop-i.i < length c.args.b.now = omega (arith, c.if-a-b.false, c.loop-i-test.true) in
    let b = slice_get_read _ _ _ _ refl within c.index-b-i.is in
    below_more _ _ c.loop-i.invariant (rw (a, b) (c.same_call.ensures.0 c.if-not-same_call.false))

pub returns : goal.returns
returns g c = (
  λ e. same_by_index _ _ _ _ c.if-a-b.false (λ k h. c.loop-i.invariant k (omega arith)),
  λ s. refl,
)
