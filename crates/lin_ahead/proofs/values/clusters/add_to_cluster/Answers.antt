use Rattle.std.proofs.Common.{◌≡◌, true≢false, Some, refl, sym, ◌∙◌, arith}
use Rattle.std.specs.Prelude.{slice_get}
use Rattle.std.proofs.lemmas.Option.{slice_get_within}
use Rattle.lin_ahead.proofs.counters.SumRowLemmas.{read_at}
use Rattle.lin_ahead.proofs.values.NumberLemmas.{numbers_stay, numbers_widen, forced_owner, forced_so}
use Rattle.lin_ahead.proofs.values.clusters.add_to_cluster.Goals as goal

pub returns-in_default : goal.returns-in_default
returns-in_default c = λ told.
    let row : slice_get c.args.owners.now c.args.call ≡ Some c.index-owners-call.result = read_at c.args.owners.now c.args.call _ _ c.requires (sym c.index-owners-call.is) in
    numbers_stay c.args.calls.now c.args.owners.now c.args.call _ told (λ w n there forced.
    (let e = c.forced_by.ensures.every w (forced_owner c.args.calls.now c.args.owners.now c.args.call w c.index-owners-call.result row forced) in let f = c.in_default.is in cc))

pub returns-in-Some-get_mut : goal.returns-in-Some-get_mut
returns-in-Some-get_mut c = λ told.
    let row : slice_get c.args.owners.now c.args.call ≡ Some c.index-owners-call.result = read_at c.args.owners.now c.args.call _ _ c.requires (sym c.index-owners-call.is) in
    let sole = rw c.in-Some.is at c.forced_by.ensures.is in
    numbers_widen c.args.calls.now c.args.owners.now c.args.call c.in-Some.owner c.args.numbers.now.items _ c.with_both.result told (read_at c.args.numbers.now.items c.in-Some.owner _ _ (let a = c.in-Some-get_mut.ensures.variant.0 refl in let b = c.args.numbers.now.ok.0 in omega (arith, a, b)) (sym c.in-Some-get_mut.ensures.value)) (forced_so c.args.calls.now c.args.owners.now c.args.call c.in-Some.owner c.index-owners-call.result row sole) (λ v forced. (let e = c.forced_by.ensures.every v (forced_owner c.args.calls.now c.args.owners.now c.args.call v c.index-owners-call.result row forced) in let f = c.in-Some.is in let h : Some v ≡ Some c.in-Some.owner = sym e ∙ f in cc)) c.with_both.ensures

pub returns-in_default-get_mut : goal.returns-in_default-get_mut
returns-in_default-get_mut c = λ told.
    let row : slice_get c.args.owners.now c.args.call ≡ Some c.index-owners-call.result = read_at c.args.owners.now c.args.call _ _ c.requires (sym c.index-owners-call.is) in
    numbers_stay c.args.calls.now c.args.owners.now c.args.call _ told (λ w n there forced.
    (let e = c.forced_by.ensures.every w (forced_owner c.args.calls.now c.args.owners.now c.args.call w c.index-owners-call.result row forced) in
    let f = c.in-Some.is in
    let same : w ≡ c.in-Some.owner = (let h : Some w ≡ Some c.in-Some.owner = sym e ∙ f in cc) in
    let within = slice_get_within c.args.numbers.now.items w n there in
    true≢false (sym (c.in_default-get_mut.ensures.variant.1 (let b = c.args.numbers.now.ok.0 in omega (arith, within, same, b))))))
