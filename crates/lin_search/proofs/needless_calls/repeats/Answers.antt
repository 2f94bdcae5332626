use Rattle.std.proofs.Common.{◌≡◌, ◌<◌, Some, length, refl, arith}
use Rattle.std.specs.List.{slice_get}
use Rattle.std.proofs.lemmas.Option.{slice_get_read}
use Rattle.lin_search.specs.NeedlessLemmas.{repeats, stands_alike}
use Rattle.lin_search.proofs.needless_calls.repeats.Goals as goal

pub returns-clause-stands : goal.returns-clause-stands
returns-clause-stands g c told = λ set s free.
    let below : c.args.earlier < length c.args.problem.now.calls = (let less = c.requires.earlier in let there = c.requires.there in omega (arith, less, there)) in
    let first : slice_get c.args.problem.now.calls c.args.earlier ≡ Some c.index-calls-earlier.result =
    rw c.calls-calls.ensures.calls at (slice_get_read c.calls-calls.result.now (length c.calls-calls.result.now) c.args.earlier c.index-calls-earlier.result refl (rw c.calls-calls.ensures.calls below) c.index-calls-earlier.is) in
    let second : slice_get c.args.problem.now.calls c.args.call ≡ Some c.index-calls-call.result =
    rw c.calls-calls.ensures.calls at (slice_get_read c.calls-calls.result.now (length c.calls-calls.result.now) c.args.call c.index-calls-call.result refl (rw c.calls-calls.ensures.calls c.requires.there) c.index-calls-call.is) in
    stands_alike c.lawful.ensures c.args.problem.now c.args.earlier c.args.call _ _ first second c.calls-calls.ensures.timed c.requires.earlier
    (c.are_of_one_operation.ensures.op c.if-not-are_of_one_operation.false)
    (rw c.object.ensures at (c.are_of_one_operation.ensures.ignores c.if-not-are_of_one_operation.false))
    (c.are_returned_alike.ensures told) set s free

pub returns-clause-nothing : goal.returns-clause-nothing
returns-clause-nothing g c told = λ set s free more least searched.
    let below : c.args.earlier < length c.args.problem.now.calls = (let less = c.requires.earlier in let there = c.requires.there in omega (arith, less, there)) in
    let first : slice_get c.args.problem.now.calls c.args.earlier ≡ Some c.index-calls-earlier.result =
    rw c.calls-calls.ensures.calls at (slice_get_read c.calls-calls.result.now (length c.calls-calls.result.now) c.args.earlier c.index-calls-earlier.result refl (rw c.calls-calls.ensures.calls below) c.index-calls-earlier.is) in
    let second : slice_get c.args.problem.now.calls c.args.call ≡ Some c.index-calls-call.result =
    rw c.calls-calls.ensures.calls at (slice_get_read c.calls-calls.result.now (length c.calls-calls.result.now) c.args.call c.index-calls-call.result refl (rw c.calls-calls.ensures.calls c.requires.there) c.index-calls-call.is) in
    repeats c.lawful.ensures c.args.problem.now c.args.earlier c.args.call _ _ first second c.calls-calls.ensures.timed c.requires.earlier
    (c.are_of_one_operation.ensures.op c.if-not-are_of_one_operation.false)
    (rw c.object.ensures at (c.are_of_one_operation.ensures.ignores c.if-not-are_of_one_operation.false))
    (c.are_returned_alike.ensures told) set s more least free searched
