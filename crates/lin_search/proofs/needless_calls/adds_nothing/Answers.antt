use Rattle.std.proofs.Common.{◌≡◌, ◌<◌, Some, length, refl, arith}
use Rattle.std.specs.List.{slice_get}
use Rattle.std.proofs.lemmas.Option.{slice_get_read}
use Rattle.lin_search.specs.NeedlessLemmas.{adds_nothing, stands_tried}
use Rattle.lin_search.proofs.needless_calls.adds_nothing.Goals as goal

pub returns-clause-stands : goal.returns-clause-stands
returns-clause-stands g c told = λ set s t is_next.
    let below : c.args.tried < length c.args.problem.now.calls = (let less = c.requires.earlier in let there = c.requires.there in omega (arith, less, there)) in
    let first : slice_get c.args.problem.now.calls c.args.tried ≡ Some c.index-calls-tried.result =
    rw c.calls-calls.ensures.calls at (slice_get_read c.calls-calls.result.now (length c.calls-calls.result.now) c.args.tried c.index-calls-tried.result refl (rw c.calls-calls.ensures.calls below) c.index-calls-tried.is) in
    let second : slice_get c.args.problem.now.calls c.args.call ≡ Some c.index-calls-call.result =
    rw c.calls-calls.ensures.calls at (slice_get_read c.calls-calls.result.now (length c.calls-calls.result.now) c.args.call c.index-calls-call.result refl (rw c.calls-calls.ensures.calls c.requires.there) c.index-calls-call.is) in
    stands_tried c.lawful.ensures c.args.problem.now c.args.tried c.args.call _ _ first second c.calls-calls.ensures.timed c.requires.earlier
    (c.are_of_one_operation.ensures.op c.if-not-are_of_one_operation.false)
    (rw c.object.ensures at (c.are_of_one_operation.ensures.ignores c.if-not-are_of_one_operation.false))
    (c.comes_first.ensures told) set s t is_next

pub returns-clause-nothing : goal.returns-clause-nothing
returns-clause-nothing g c told = λ set s t is_next more least searched.
    let below : c.args.tried < length c.args.problem.now.calls = (let less = c.requires.earlier in let there = c.requires.there in omega (arith, less, there)) in
    let first : slice_get c.args.problem.now.calls c.args.tried ≡ Some c.index-calls-tried.result =
    rw c.calls-calls.ensures.calls at (slice_get_read c.calls-calls.result.now (length c.calls-calls.result.now) c.args.tried c.index-calls-tried.result refl (rw c.calls-calls.ensures.calls below) c.index-calls-tried.is) in
    let second : slice_get c.args.problem.now.calls c.args.call ≡ Some c.index-calls-call.result =
    rw c.calls-calls.ensures.calls at (slice_get_read c.calls-calls.result.now (length c.calls-calls.result.now) c.args.call c.index-calls-call.result refl (rw c.calls-calls.ensures.calls c.requires.there) c.index-calls-call.is) in
    adds_nothing c.lawful.ensures c.args.problem.now c.args.tried c.args.call _ _ first second c.calls-calls.ensures.timed c.requires.earlier
    (c.are_of_one_operation.ensures.op c.if-not-are_of_one_operation.false)
    (rw c.object.ensures at (c.are_of_one_operation.ensures.ignores c.if-not-are_of_one_operation.false))
    (c.comes_first.ensures told) set s t more least is_next searched
