use Rattle.lin_history.specs.Problems.Problem.{problem_of}
use Rattle.lin_history.specs.Problems.Continuations.{no_calls}
use Rattle.lin_fewer.proofs.LeastLemmas.{least_same, none_same}
use Rattle.lin_fewer.proofs.least.told_by.Goals as goal

pub returns-in-Refuted-clause-told : goal.returns-in-Refuted-clause-told
returns-in-Refuted-clause-told g c =
    let p = problem_of g.O.SeqObject.after g.O.State.PartialEq.eq g.O.Reply.PartialEq.eq c.args.search.now in
    let law = rw c.problem-problem.ensures at c.fewer_law.ensures in
    let root_set = rw c.problem-problem.ensures at c.in_ok-root.ensures.lifted in
    let root_state = rw c.problem-problem.ensures at c.in_ok-root.ensures.state in
    none_same p c.lawful.ensures.states law c.in_ok-root.root.lifted c.in_ok-root.root.state (no_calls p) c.args.search.now.start root_set root_state
    (none_same p c.lawful.ensures.states law c.in_ok-copy.copy.lifted c.in_ok-copy.copy.state c.in_ok-root.root.lifted c.in_ok-root.root.state c.in_ok-copy.ensures.lifted c.in_ok-copy.ensures.state (rw c.in-Refuted.is at c.in_ok-bears.ensures.verdict))

pub returns-in-Some-clause-told : goal.returns-in-Some-clause-told
returns-in-Some-clause-told g c =
    let p = problem_of g.O.SeqObject.after g.O.State.PartialEq.eq g.O.Reply.PartialEq.eq c.args.search.now in
    let law = rw c.problem-problem.ensures at c.fewer_law.ensures in
    let root_set = rw c.problem-problem.ensures at c.in_ok-root.ensures.lifted in
    let root_state = rw c.problem-problem.ensures at c.in_ok-root.ensures.state in
    rw c.new.ensures (least_same p c.lawful.ensures.states law c.in_ok-root.root.lifted c.in_ok-root.root.state (no_calls p) c.args.search.now.start root_set root_state c.in-Some.calls.items (rw (c.in-Some.is, c.bears.ensures.same) at c.in_ok-calls.ensures.least))

pub returns-in_err-calls-clause-stop : goal.returns-in_err-calls-clause-stop
returns-in_err-calls-clause-stop g c = g.met.S.Stop.chained _ _ _ c.bears.ensures.stop c.least_order.ensures.stop

pub returns-in-Some-clause-stop : goal.returns-in-Some-clause-stop
returns-in-Some-clause-stop g c = g.met.S.Stop.chained _ _ _ c.bears.ensures.stop c.least_order.ensures.stop

pub returns-in-None-clause-stop : goal.returns-in-None-clause-stop
returns-in-None-clause-stop g c = g.met.S.Stop.chained _ _ _ c.bears.ensures.stop c.least_order.ensures.stop
