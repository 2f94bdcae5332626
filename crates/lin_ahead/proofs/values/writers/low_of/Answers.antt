use Rattle.std.proofs.Common.{rules, Some, None, ◌∙◌}
use Rattle.std.specs.Prelude.{ℤ}
use Rattle.std.specs.Ordering.{int_eq}
use Rattle.indexmap.specs.IndexMap.{index_of}
use Rattle.lin_ahead.proofs.values.WriterLemmas.{by_index}
use Rattle.lin_ahead.proofs.values.writers.low_of.Goals as goal

pub returns-in_err-get_index_of-clause-is : goal.returns-in_err-get_index_of-clause-is
returns-in_err-get_index_of-clause-is c = c.from_residual.ensures ∙ by_index c.args.lows.now (λ (v : ℤ). index_of int_eq c.args.values.now v) _ c.args.value None (search rules) c.in_err-get_index_of.ensures.index

pub returns-clause-is : goal.returns-clause-is
returns-clause-is c = c.low_at.ensures.is ∙ by_index c.args.lows.now (λ (v : ℤ). index_of int_eq c.args.values.now v) _ c.args.value (Some c.in_ok-get_index_of.field-0) (search rules) c.in_ok-get_index_of.ensures.index
