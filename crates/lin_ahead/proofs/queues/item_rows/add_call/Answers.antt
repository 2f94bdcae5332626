use Rattle.std.proofs.Common.{rules, true, refl, sym, ◌∙◌}
use Rattle.std.proofs.lemmas.Option.{slice_get_read}
use Rattle.lin_ahead.specs.Queues.Slots.{concerns}
use Rattle.lin_ahead.proofs.queues.ItemRowLemmas.{concerned_as, concerned_at, neither_at, of_all, after_item}
use Rattle.lin_ahead.proofs.queues.item_rows.add_call.Goals as goal

pub returns-in_ok-add_to : goal.returns-in_ok-add_to
returns-in_ok-add_to c = concerned_at c.args.calls.now c.args.number c.in-Some.call.now c.args.rows.now.items c.add_to.new.rows.items (slice_get_read c.args.calls.now _ c.args.number c.in-Some.call.now refl c.in-Some.ensures.lookup.3.0 c.in-Some.ensures.lookup.1) (after_item c.args.number c.in-Some-item_of.item _ c.in-Some.call.now.op c.in-Some.call.now.returned c.args.rows.now.items c.add_to.new.rows.items (sym c.item_of.ensures ∙ c.in-Some-item_of.is) (search rules) c.in_ok-add_to.ensures)

pub returns-in_ok-add_to_all : goal.returns-in_ok-add_to_all
returns-in_ok-add_to_all c = concerned_at c.args.calls.now c.args.number c.in-Some.call.now c.args.rows.now.items c.add_to_all.new.rows.items (slice_get_read c.args.calls.now _ c.args.number c.in-Some.call.now refl c.in-Some.ensures.lookup.3.0 c.in-Some.ensures.lookup.1) (concerned_as c.args.number (λ v. true) (λ v. concerns v c.in-Some.call.now.op c.in-Some.call.now.returned) c.args.rows.now.items c.add_to_all.new.rows.items (λ v. of_all v c.in-Some.call.now.op c.in-Some.call.now.returned (sym c.is_open_taker.ensures ∙ c.if-is_open_taker.true)) c.in_ok-add_to_all.ensures)

pub returns-else-is_open_taker : goal.returns-else-is_open_taker
returns-else-is_open_taker c = neither_at c.args.calls.now c.args.number c.in-Some.call.now c.args.rows.now.items (slice_get_read c.args.calls.now _ c.args.number c.in-Some.call.now refl c.in-Some.ensures.lookup.3.0 c.in-Some.ensures.lookup.1) (search rules) (search rules)
