use Rattle.std.proofs.Common.{Some, false, refl, ◌∙◌, subst}
use Rattle.lin_history.specs.Problems.Problem.{problem_of}
use Rattle.lin_search.specs.Configuration.{Configuration}
use Rattle.lin_fewer.specs.Nodes.{Node}
use Rattle.lin_fewer.specs.Answers.{IsVerdict}
use Rattle.lin_fewer.proofs.KnowledgeLemmas.{borne_completes}
use Rattle.lin_fewer.proofs.SearchLemmas.{search_first}
use Rattle.lin_fewer.proofs.bearing.bears.Goals as goal

pub returns-in-Bears-clause-verdict : goal.returns-in-Bears-clause-verdict
returns-in-Bears-clause-verdict g c = borne_completes (problem_of g.O.SeqObject.after g.O.State.PartialEq.eq g.O.Reply.PartialEq.eq c.args.search.now) (rw c.problem.ensures at c.fewer_law.ensures) c.lawful.ensures.states c.args.config.lifted c.args.config.state c.in-Bears.field-0 (rw c.in-Bears.is at c.in_ok-known_of.ensures)

pub loop-init : goal.loop-init
loop-init g c =
    let node : Node g.row.O-State.Denot = record { config = c.args.config; first = c.in-Open.first; from = 0; by = 0; alone = false; base = 0 } in
    record {
      search = refl;
      stop = g.met.S.Stop.unchanged _;
      is = rw (c.in_ok-push.ensures.items, c.new-nodes.ensures.items, c.new.ensures) (search_first (problem_of g.O.SeqObject.after g.O.State.PartialEq.eq g.O.Reply.PartialEq.eq c.args.search.now) node c.requires.reachable (rw c.in-Open.is at c.in_ok-known_of.ensures) refl);
      first = (node, rw (c.in_ok-push.ensures.items, c.new-nodes.ensures.items, c.new.ensures) (refl {a = Some node}), refl);
    }

pub returns-in-Some-clause-verdict : goal.returns-in-Some-clause-verdict
returns-in-Some-clause-verdict g c =
    let told = rw (c.in-Some.is, c.takes_step.ensures, c.loop.invariant.search) at c.in_ok-verdict.ensures.verdict in
    let first = c.loop.invariant.first in
    subst (λ (x : Configuration g.row.O-State.Denot). IsVerdict (problem_of g.O.SeqObject.after g.O.State.PartialEq.eq g.O.Reply.PartialEq.eq c.args.search.now) x c.in-Some.verdict) first.2 (told first.0 first.1)

pub loop-preserved : goal.loop-preserved
loop-preserved g c =
    let first = c.loop.invariant.first in
    record {
      search = c.in_ok-verdict.ensures.same ∙ c.takes_step.ensures ∙ c.loop.invariant.search;
      stop = g.met.S.Stop.chained _ _ _ c.loop.invariant.stop c.ask.ensures.follows;
      is = rw (c.takes_step.ensures, c.loop.invariant.search) at (rw c.in_default.is at c.in_ok-verdict.ensures.goes_on);
      first = (first.0, (rw c.in_default.is at c.in_ok-verdict.ensures.first) ∙ first.1, first.2);
    }

pub returns-in_err-push-clause-stop : goal.returns-in_err-push-clause-stop
returns-in_err-push-clause-stop g c = g.met.S.Stop.unchanged _

pub returns-then-not-takes_step-clause-stop : goal.returns-then-not-takes_step-clause-stop
returns-then-not-takes_step-clause-stop g c = c.loop.invariant.stop

pub returns-in_err-verdict-clause-stop : goal.returns-in_err-verdict-clause-stop
returns-in_err-verdict-clause-stop g c = g.met.S.Stop.chained _ _ _ c.loop.invariant.stop c.ask.ensures.follows

pub returns-in-Some-clause-stop : goal.returns-in-Some-clause-stop
returns-in-Some-clause-stop g c = g.met.S.Stop.chained _ _ _ c.loop.invariant.stop c.ask.ensures.follows

pub returns-then-is_some-clause-stop : goal.returns-then-is_some-clause-stop
returns-then-is_some-clause-stop g c = g.met.S.Stop.chained _ _ _ c.loop.invariant.stop c.ask.ensures.follows
