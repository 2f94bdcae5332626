use Rattle.std.proofs.Common.{arith, Some}
use Rattle.std.proofs.lemmas.List.Elements.{All-pop}
use Rattle.lin_history.specs.Problems.Problem.{problem_of}
use Rattle.lin_table.specs.Hand.{CameWith}
use Rattle.lin_table.proofs.EndLemmas.{Settled, settles}
use Rattle.lin_table.proofs.table.close_shards.Goals as goal

pub gather-all-requires-clause-hands : goal.gather-all-requires-clause-hands
gather-all-requires-clause-hands g c =
    let mine = All-pop (CameWith c.args.inner.shared.table_id) _ _ (Some c.in-Some.last) c.in-Some.ensures.items c.requires.hands in mine.0

settled : (g : _) (c : goal.After-free_shards g) → Settled (problem_of g.O.SeqObject.after g.O.State.PartialEq.eq g.O.Reply.PartialEq.eq) c.args.inner.shared.key c.args.hands.items
settled g c =
    let enough = c.requires.all.1 in
    settles (problem_of g.O.SeqObject.after g.O.State.PartialEq.eq g.O.Reply.PartialEq.eq) c.args.inner.shared.key _ _ c.gather-all.result.id c.gather-all.result.me.0 c.close_with.ensures.values.2 c.free_shards.ensures
    c.args.hands.items c.pop.new.self.items c.in-Some.last c.into_token.result.me.0 (omega arith) c.in-Some.ensures.items c.into_token.ensures.view c.gather-all.ensures.gathered

pub returns-clause-few : goal.returns-clause-few
returns-clause-few g c = let few = (settled g c).few in omega arith

pub returns-clause-stored : goal.returns-clause-stored
returns-clause-stored g c = let told = settled g c in (told.lists, told.stored)
