use Rattle.std.proofs.Common.{◌∙◌, ap, ap₂, subst, sym, Some}
use Rattle.clap.specs.Words.{IsPlainArg, Rule, rule_of}
use Rattle.lincheck.proofs.request.number_option.Goals as goal

pub returns : goal.returns
returns c = record {
  rule = ap rule_of c.help.ensures ∙ (ap rule_of c.value_parser.ensures.others
      ∙ ap₂ (λ (r : Rule) p. record r { parser = p })
      (ap rule_of c.value_name.ensures ∙ (ap (λ a. record (rule_of a) { value_names = 1 }) c.long.ensures
      ∙ ap (λ (r : Rule). record r { long = Some c.args.name.now; value_names = 1 }) c.new.ensures.rule))
      (c.value_parser.ensures.given.1 ∙ ap Some (c.value_parser.ensures.given.2 ∙ c.from_one.ensures)));
  plain = subst IsPlainArg (sym c.help.ensures) (subst IsPlainArg (sym c.value_parser.ensures.others)
      (subst IsPlainArg (sym c.value_name.ensures) (subst IsPlainArg (sym c.long.ensures) c.new.ensures.plain)));
  own = ap (λ a. a.global) c.help.ensures ∙ (ap (λ a. a.global) c.value_parser.ensures.others
      ∙ (ap (λ a. a.global) c.value_name.ensures ∙ (ap (λ a. a.global) c.long.ensures ∙ c.new.ensures.optional.1)));
}
