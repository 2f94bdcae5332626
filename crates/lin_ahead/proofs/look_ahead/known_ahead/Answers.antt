use Rattle.std.proofs.Common.{◌≡◌, [], inl, inr, rules, refl, sym, ◌∙◌, ap, w64, to_z, of_z, FitsSigned}
use Rattle.std.proofs.lemmas.Int.{to_z-of_z}
use Rattle.lin_object.specs.declared.state.ObjState.TheVariants.{Queue, Register, Stack, Set, Map, Counter}
use Rattle.lin_history.specs.Problems.AnyProblem.{any_problem}
use Rattle.lin_ahead.proofs.queues.AheadLemmas.{is_right, is_told}
use Rattle.lin_ahead.proofs.counters.CounterLemmas.{counter_right, counter_told}
use Rattle.lin_ahead.proofs.stacks.StackLateLemmas.{stack_right}
use Rattle.lin_ahead.proofs.stacks.StackRowLemmas.{stack_told}
use Rattle.lin_ahead.proofs.values.ItemLemmas.{item_right}
use Rattle.lin_ahead.proofs.values.KeyLemmas.{key_right}
use Rattle.lin_ahead.proofs.values.VainLemmas.{register_right}
use Rattle.lin_ahead.proofs.look_ahead.known_ahead.Goals as goal

pub returns-in_ok-told_of_queue-in-Queue-clause-right :
    goal.returns-in_ok-told_of_queue-in-Queue-clause-right
returns-in_ok-told_of_queue-in-Queue-clause-right c =
    let start : c.args.problem.now.start ≡ Queue [] = search rules in
    let tells = c.in_ok-told_of_queue-in-Queue.ensures in
    is_right c.args.problem.now start c.calls-calls.ensures.timed _ (rw c.calls-calls.ensures.calls at tells.by) (rw c.calls-calls.ensures.calls at tells.from) (rw c.calls-calls.ensures.calls at tells.taken) (rw c.calls-calls.ensures.calls at tells.takers) (rw c.calls-calls.ensures.calls at tells.owed) (rw c.calls-calls.ensures.calls at tells.late) (rw c.calls-calls.ensures.calls at tells.items)

pub returns-in_ok-told_of_queue-in-Queue-clause-told :
    goal.returns-in_ok-told_of_queue-in-Queue-clause-told
returns-in_ok-told_of_queue-in-Queue-clause-told c =
    let start : c.args.problem.now.start ≡ Queue [] = search rules in
    let tells = c.in_ok-told_of_queue-in-Queue.ensures in
    (start, is_told (any_problem c.args.problem.now) c.calls-calls.ensures.timed _ (rw c.calls-calls.ensures.calls at tells.by) (rw c.calls-calls.ensures.calls at tells.from) (rw c.calls-calls.ensures.calls at tells.taken) (rw c.calls-calls.ensures.calls at tells.takers) (rw c.calls-calls.ensures.calls at tells.owed) (rw c.calls-calls.ensures.calls at tells.late))

pub returns-in_ok-told_of_register-in-Register-clause-right :
    goal.returns-in_ok-told_of_register-in-Register-clause-right
returns-in_ok-told_of_register-in-Register-clause-right c =
    let start : c.args.problem.now.start ≡ Register c.in-Register.start = search rules in
    register_right c.args.problem.now c.in-Register.start start _ (rw c.calls-calls.ensures.calls at c.in_ok-told_of_register-in-Register.ensures)

pub returns-in_ok-told_of_register-in-Register-clause-told :
    goal.returns-in_ok-told_of_register-in-Register-clause-told
returns-in_ok-told_of_register-in-Register-clause-told c =
    let start : c.args.problem.now.start ≡ Register c.in-Register.start = search rules in
    inl (c.in-Register.start, start, rw c.calls-calls.ensures.calls at c.in_ok-told_of_register-in-Register.ensures)

pub returns-in_ok-told_of_stack-in-Stack-clause-right :
    goal.returns-in_ok-told_of_stack-in-Stack-clause-right
returns-in_ok-told_of_stack-in-Stack-clause-right c =
    let start : c.args.problem.now.start ≡ Stack [] = search rules in
    let tells = c.in_ok-told_of_stack-in-Stack.ensures in
    stack_right c.args.problem.now start _ (rw c.calls-calls.ensures.calls at tells.takers) (rw c.calls-calls.ensures.calls at tells.owed) (rw c.calls-calls.ensures.calls at tells.late) c.calls-calls.ensures.timed (rw c.calls-calls.ensures.calls at tells.on_queue) (rw c.calls-calls.ensures.calls at tells.items)

pub returns-in_ok-told_of_stack-in-Stack-clause-told :
    goal.returns-in_ok-told_of_stack-in-Stack-clause-told
returns-in_ok-told_of_stack-in-Stack-clause-told c =
    let start : c.args.problem.now.start ≡ Stack [] = search rules in
    let tells = c.in_ok-told_of_stack-in-Stack.ensures in
    (start, stack_told (any_problem c.args.problem.now) _ (rw c.calls-calls.ensures.calls at tells.takers) (rw c.calls-calls.ensures.calls at tells.owed) (rw c.calls-calls.ensures.calls at tells.late))

pub returns-in_ok-told_of_counter-in-Counter-clause-right :
    goal.returns-in_ok-told_of_counter-in-Counter-clause-right
returns-in_ok-told_of_counter-in-Counter-clause-right c =
    let start : c.args.problem.now.start ≡ Counter c.in-Counter.start = search rules in
    let fits : FitsSigned w64 c.in-Counter.start = search rules in
    let passed : to_z w64 (of_z w64 c.in-Counter.start) ≡ c.in-Counter.start = to_z-of_z w64 c.in-Counter.start fits in
    let tells = c.in_ok-told_of_counter-in-Counter.ensures in
    counter_right c.args.problem.now _ (start ∙ ap Counter (sym passed)) _ tells.up tells.down

pub returns-in_ok-told_of_counter-in-Counter-clause-told :
    goal.returns-in_ok-told_of_counter-in-Counter-clause-told
returns-in_ok-told_of_counter-in-Counter-clause-told c =
    let start : c.args.problem.now.start ≡ Counter c.in-Counter.start = search rules in
    let fits : FitsSigned w64 c.in-Counter.start = search rules in
    let passed : to_z w64 (of_z w64 c.in-Counter.start) ≡ c.in-Counter.start = to_z-of_z w64 c.in-Counter.start fits in
    let tells = c.in_ok-told_of_counter-in-Counter.ensures in
    counter_told c.args.problem.now _ (start ∙ ap Counter (sym passed)) _ tells.up tells.down

pub returns-in-Some-clause-right : goal.returns-in-Some-clause-right
returns-in-Some-clause-right c =
    let start : c.args.problem.now.start ≡ Map [] = search rules in
    let tells = c.in_ok-ahead-in-Map.ensures in
    key_right c.map_law.ensures c.args.problem.now start ((rw (c.in-Some.is, c.calls-calls.ensures.calls) at tells.when).0 refl) c.in-Some.ahead (rw (c.in-Some.is, c.calls-calls.ensures.calls) at tells.rows)

pub returns-in-Some-clause-told : goal.returns-in-Some-clause-told
returns-in-Some-clause-told c =
    let start : c.args.problem.now.start ≡ Map [] = search rules in
    let tells = c.in_ok-ahead-in-Map.ensures in
    inr (inl (start, rw (c.in-Some.is, c.calls-calls.ensures.calls) at tells.rows))

pub returns-in-Some-2-clause-right : goal.returns-in-Some-2-clause-right
returns-in-Some-2-clause-right c =
    let start : c.args.problem.now.start ≡ Set [] = search rules in
    let tells = c.in_ok-ahead-in-Set.ensures in
    item_right c.set_law.ensures c.args.problem.now start ((rw (c.in-Some-2.is, c.calls-calls.ensures.calls) at tells.when).0 refl) c.in-Some-2.ahead (rw (c.in-Some-2.is, c.calls-calls.ensures.calls) at tells.rows)

pub returns-in-Some-2-clause-told : goal.returns-in-Some-2-clause-told
returns-in-Some-2-clause-told c =
    let start : c.args.problem.now.start ≡ Set [] = search rules in
    let tells = c.in_ok-ahead-in-Set.ensures in
    inr (inr (start, rw (c.in-Some-2.is, c.calls-calls.ensures.calls) at tells.rows))
