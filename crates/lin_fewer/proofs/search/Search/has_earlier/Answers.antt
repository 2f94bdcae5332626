use Rattle.std.proofs.Common.{sym, ◌∙◌}
use Rattle.lin_fewer.proofs.search.Search.has_earlier.Goals as goal

pub returns : goal.returns
returns g c = rw (← c.self.view_is) (λ yes. record { earlier = c.before-earlier.result; stands = λ s. c.repeats.ensures.stands yes c.args.set.now s (sym c.has.ensures ∙ c.if-has.false) })
