use Rattle.std.proofs.Common.{refl, sym, ◌∙◌, true≢false}
use Rattle.std.proofs.lemmas.Option.{slice_get_read}
use Rattle.lin_ahead.proofs.values.DueLemmas.{in_with}
use Rattle.lin_ahead.proofs.values.due_rules.is_due.Goals as goal

pub returns : goal.returns
returns c = λ inside. record {
  owners = c.in-Some.row.now.calls.items;
  at_start = c.in-Some.row.now.at_start;
  owned = c.requires c.args.call c.in-Some.row.now (slice_get_read c.args.owners.now _ c.args.call c.in-Some.row.now refl c.in-Some.ensures.lookup.3.0 c.in-Some.ensures.lookup.1) c.if-not-row.false;
  completed = c.is_completed.ensures c.if-not-is_completed.false;
  inside = in_with c.args.config.now.lifted c.args.more c.in-Some.row.now.calls.items (rw c.as_slice.ensures at (c.are_in_with.ensures inside));
  outside = λ there. true≢false (sym (c.is_in_with.ensures.left there) ∙ c.if-is_in_with.false);
}
