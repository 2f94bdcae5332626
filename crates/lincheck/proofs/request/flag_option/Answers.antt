use Rattle.std.proofs.Common.{◌∙◌, ap, subst, sym, Some}
use Rattle.clap.specs.Words.{IsPlainArg, Rule, rule_of}
use Rattle.clap.specs.declared.builder.action.ArgAction.TheVariants.{SetTrue}
use Rattle.lincheck.proofs.request.flag_option.Goals as goal

pub returns : goal.returns
returns c = record {
  rule = ap rule_of c.help.ensures ∙ (ap rule_of c.action.ensures
      ∙ (ap (λ a. record (rule_of a) { action = Some SetTrue }) c.long.ensures
      ∙ ap (λ (r : Rule). record r { long = Some c.args.name.now; action = Some SetTrue }) c.new.ensures.rule));
  plain = subst IsPlainArg (sym c.help.ensures) (subst IsPlainArg (sym c.action.ensures)
      (subst IsPlainArg (sym c.long.ensures) c.new.ensures.plain));
  own = ap (λ a. a.global) c.help.ensures ∙ (ap (λ a. a.global) c.action.ensures ∙ (ap (λ a. a.global) c.long.ensures ∙ c.new.ensures.optional.1));
}
