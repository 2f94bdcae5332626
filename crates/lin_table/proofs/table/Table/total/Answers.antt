use Rattle.std.proofs.Common.{◌*◌, ◌≤◌, length, sym, ap, ◌∙◌, arith}
use Rattle.std.proofs.lemmas.List.Elements.{All-weaker}
use Rattle.lin_history.specs.Problems.Problem.{problem_of}
use Rattle.lin_search.specs.AlikeLemmas.{alike_reachable}
use Rattle.lin_search.specs.SameLemmas.{alike_itself}
use Rattle.lin_search.specs.CountLemmas.{number_at_most}
use Rattle.lin_table.specs.Hand.{IsHandOf, CameWith}
use Rattle.lin_table.specs.Gather.{entries_in}
use Rattle.lin_table.proofs.CountLemmas.{has_all}
use Rattle.lin_table.proofs.EndLemmas.{stored_as}
use Rattle.lin_table.proofs.table.Table.total.Goals as goal

pub close_shards-requires-clause-hands : goal.close_shards-requires-clause-hands
close_shards-requires-clause-hands g c =
    All-weaker (IsHandOf c.args.self) (CameWith c.self.inside.inner.shared.table_id) (λ hand came. came.0 ∙ sym (ap (λ t. t.id) c.self.view_is)) _ c.requires

few : (g : _) (c : goal.After-close_shards g) → length (entries_in c.args.hands.items) ≤ 65 * 140737488355328
few g c =
    let most = rw c.as_slice.ensures.value at c.stored_by-stored.ensures.few in
    let hands = c.close_shards.ensures.few in
    let made = c.self.invariant.2 in
    let small = c.self.invariant.5 in
    omega arith

pub returns-clause-count : goal.returns-clause-count
returns-clause-count g c =
    let sum = rw c.as_slice.ensures.value at c.stored_by-stored.ensures.sum in
    let most = few g c in
    omega arith

pub returns-clause-stored : goal.returns-clause-stored
returns-clause-stored g c =
    let told = c.close_shards.ensures.stored in
    (told.0, stored_as (problem_of g.O.SeqObject.after g.O.State.PartialEq.eq g.O.Reply.PartialEq.eq) _ _ _ _ _ _ told.0 _ (c.self.invariant.3 ∙ ap (λ t. t.problem) c.self.view_is) (c.self.invariant.7 ∙ ap (λ t. t.known) c.self.view_is) (c.self.invariant.1 ∙ ap (λ t. t.shards) c.self.view_is) told.1)

pub returns-clause-bound : goal.returns-clause-bound
returns-clause-bound g c =
    let sum = rw c.as_slice.ensures.value at c.stored_by-stored.ensures.sum in
    let most = few g c in
    omega arith

pub returns-clause-reachable : goal.returns-clause-reachable
returns-clause-reachable g c =
    let told = returns-clause-stored g c in
    let p = problem_of g.O.SeqObject.after g.O.State.PartialEq.eq g.O.Reply.PartialEq.eq c.args.self.problem in
    let reached = has_all p c.lawful.ensures.states c.args.self.known c.known_count-known.ensures.store c.args.self.shards told.0 (entries_in c.args.hands.items) told.1 in
    (reached.0, reached.1, reached.2 ∙ sym (returns-clause-count g c))

pub returns-clause-at_most : goal.returns-clause-at_most
returns-clause-at_most g c =
    λ m number. number_at_most (problem_of g.O.SeqObject.after g.O.State.PartialEq.eq g.O.Reply.PartialEq.eq c.args.self.problem) c.lawful.ensures.states (alike_reachable (alike_itself c.lawful.ensures c.args.self.problem)) _ m (returns-clause-reachable g c) number
