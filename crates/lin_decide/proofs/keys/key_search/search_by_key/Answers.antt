use Rattle.std.proofs.Common.{◌≡◌, inr, subst, sym}
use Rattle.std.proofs.lemmas.Result.{IfOk-weaker}
use Rattle.lin_decide.specs.declared.keys.orders_told.OrdersTold.TheVariants.{Nothing}
use Rattle.lin_decide.specs.Keys.PartOrder.{AreToldUnless}
use Rattle.lin_decide.specs.Keys.Products.{AreListsOfKeys}
use Rattle.lin_decide.proofs.keys.SpentLemmas.{some_of_each, spent_of_each, unless_more}
use Rattle.lin_decide.proofs.keys.WholeLemmas.{numbers_within}
use Rattle.lin_decide.proofs.keys.key_search.search_by_key.Goals as goal

pub calls_of_keys-requires : goal.calls_of_keys-requires
calls_of_keys-requires g c = rw (c.as_slice-numbers.ensures.value, c.len.ensures.len) (record { within = numbers_within c.args.problem.now c.in-Some.known.keys.keys c.in-Some.known.numbers.items (rw c.in-Some.is at c.in_ok-known.ensures.keys) })

pub orders_of_parts-requires : goal.orders_of_parts-requires
orders_of_parts-requires g c =
    some_of_each c.args.problem.now c.in-Some.known.keys.keys c.in-Some.known.numbers.items (rw c.in-Some.is at c.in_ok-known.ensures.keys) c.as_slice.result.now
    (subst (AreListsOfKeys c.in-Some.known.keys.keys c.in-Some.known.numbers.items) (sym c.as_slice.ensures.value) (record {
      count = rw c.len.ensures.len at c.in_ok-lists.ensures.length;
      calls = rw (c.as_slice-numbers.ensures.value, c.len.ensures.len) at c.in_ok-lists.ensures.calls;
    }))

pub returns-clause-nothing : goal.returns-clause-nothing
returns-clause-nothing g c =
    IfOk-weaker c.told_of_orders.result _ _ (λ told. unless_more (c.in_ok-orders.orders ≡ Nothing) _ told (λ is.
    let spent = subst (AreToldUnless _) is c.in_ok-orders.ensures.nothing in
    inr (spent_of_each c.args.problem.now c.in-Some.known.keys.keys c.in-Some.known.numbers.items (rw c.in-Some.is at c.in_ok-known.ensures.keys) c.as_slice.result.now
    (subst (AreListsOfKeys c.in-Some.known.keys.keys c.in-Some.known.numbers.items) (sym c.as_slice.ensures.value) (record {
      count = rw c.len.ensures.len at c.in_ok-lists.ensures.length;
      calls = rw (c.as_slice-numbers.ensures.value, c.len.ensures.len) at c.in_ok-lists.ensures.calls;
    }))
    spent.0 spent.1 c.args.limit _ _
    (λ n h. h)
    spent.2)
    ))
    c.told_of_orders.ensures.nothing
