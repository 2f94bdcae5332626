use Rattle.std.proofs.Common.{inl, inr, sym, ◌∙◌, ap}
use Rattle.lin_object.specs.declared.state.ObjState.TheVariants.{Queue, Stack}
use Rattle.lin_prefixes.proofs.open_takers.are_takers.Goals as goal

pub returns-in-Queue : goal.returns-in-Queue
returns-in-Queue c = λ yes. inr (inl (sym c.start.ensures ∙ c.in-Queue.is ∙ ap Queue (c.has_none.ensures.0 c.if-has_none.true), c.have_returned.ensures yes))

pub returns-in-Stack : goal.returns-in-Stack
returns-in-Stack c = λ yes. inr (inr (sym c.start.ensures ∙ c.in-Stack.is ∙ ap Stack (c.has_none-in-Stack-1.ensures.0 c.if-has_none-2.true), c.have_returned-in-Stack.ensures yes))
