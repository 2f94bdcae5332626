use Rattle.std.proofs.Common.{rules, ◌≡◌, None, nat_eq, sym}
use Rattle.indexmap.specs.IndexMap.{get}
use Rattle.lin_history.proofs.RecorderLemmas.BuilderLemmas.{find-last, find-idle, idle-unknown}
use Rattle.lin_history.proofs.recorder.builder.last_in.Goals as goal

pub returns-in-Some-clause-found : goal.returns-in-Some-clause-found
returns-in-Some-clause-found c = find-last (get nat_eq c.args.last.now) c.args.calls.now c.args.process c.requires c.in-Some.call.now (c.is_last_at.ensures.last c.if-is_last_at.true)

pub returns-in_default-clause-none : goal.returns-in_default-clause-none
returns-in_default-clause-none c = find-idle (get nat_eq c.args.last.now) c.args.calls.now c.args.process c.requires c.in-Some.call.now (sym c.in-Some.ensures.value) (c.is_last_at.ensures.not_last c.if-is_last_at.false)

pub returns-in_default-2-clause-none : goal.returns-in_default-2-clause-none
returns-in_default-2-clause-none c =
    let none : get nat_eq c.args.last.now c.args.process ≡ None = sym (rw c.in_default.is at c.get.ensures.value) in
    idle-unknown (get nat_eq c.args.last.now) c.args.calls.now c.args.process c.requires none

pub returns-in-Some-clause-none : goal.returns-in-Some-clause-none
returns-in-Some-clause-none c = search rules depth 3
