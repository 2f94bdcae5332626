use Rattle.std.proofs.Common.{◌≡◌, [], length, replicate, ap, ◌∙◌, arith, rules}
use Rattle.std.proofs.lemmas.List.{replicate-append-replicate}
use Rattle.lin_table.proofs.shard.empty_shards.Goals as goal

pub push_reserved-requires : goal.push_reserved-requires
push_reserved-requires g c =
    let i = c.loop.invariant in
    let len = i.len in
    let room = i.room in
    let more = c.loop-test.true in
    omega arith

pub loop-init : goal.loop-init
loop-init g c =
    let e = c.in_ok-shards.ensures in let none = ap length e.items in record { items = e.items; len = omega (arith, none); room = search rules }

pub loop-preserved : goal.loop-preserved
loop-preserved g c =
    let i = c.loop.invariant in record {
      items = c.push_reserved.ensures.items ∙ rw (i.items, c.new.ensures) (replicate-append-replicate c.loop.counter 1 (record { problem = c.args.problem.now; pairs = [] }));
      len = let l = i.len in let m = c.push_reserved.ensures.len in omega arith;
      room = let r = i.room in let m = c.push_reserved.ensures.capacity in omega arith;
    }

pub returns : goal.returns
returns g c =
    let done = c.loop-test.false in
    let end = c.loop.auto.counter-end in
    let all : c.loop.counter ≡ c.args.count = omega arith in
    c.loop.invariant.items ∙ ap (λ n. replicate n (record { problem = c.args.problem.now; pairs = [] })) all
