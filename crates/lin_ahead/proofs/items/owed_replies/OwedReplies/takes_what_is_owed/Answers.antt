use Rattle.lin_history.specs.Problems.Problem.{problem_of}
use Rattle.lin_search.specs.SameLemmas.{alike_itself}
use Rattle.lin_ahead.proofs.first.NeedsLemmas.{owed_begins_none}
use Rattle.lin_ahead.proofs.items.owed_replies.OwedReplies.takes_what_is_owed.Goals as goal

pub returns-in-Some : goal.returns-in-Some
returns-in-Some g c = λ takes.
    owed_begins_none (problem_of g.O.SeqObject.after g.O.State.PartialEq.eq g.O.Reply.PartialEq.eq c.args.problem.now) (alike_itself c.lawful.ensures _)
    (λ e s process op same. c.lawful.ensures.steps_alike _ _ e s process op op (c.lawful.ensures.objects.refl _) same (c.lawful.ensures.ops.refl op))
    _ _ c.requires.reachable c.args.call c.in-Some.reply
    (rw c.in-Some.is at c.in_ok-reply.ensures)
    (c.is_owed.ensures takes)
