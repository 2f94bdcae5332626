use Rattle.std.proofs.Common.{◌∙◌, ap, true}
use Rattle.clap.specs.Simple.{app_of_fields, on_top}
use Rattle.lincheck.proofs.request.bare_line.Goals as goal

pub returns : goal.returns
returns c = record {
  app = ap app_of_fields c.after_help.ensures ∙ (ap app_of_fields c.about.ensures ∙ (ap app_of_fields c.override_usage.ensures
      ∙ (ap app_of_fields c.version.ensures ∙ (ap (λ f. on_top (λ s. record s { has_version = true }) (app_of_fields f)) c.no_binary_name.ensures
      ∙ ap (on_top (λ s. record s { no_binary_name = true; has_version = true })) c.new.ensures.app))));
  args = ap (λ f. f.args.items) c.after_help.ensures ∙ (ap (λ f. f.args.items) c.about.ensures ∙ (ap (λ f. f.args.items) c.override_usage.ensures
      ∙ (ap (λ f. f.args.items) c.version.ensures ∙ (ap (λ f. f.args.items) c.no_binary_name.ensures ∙ c.new.ensures.empty.0))));
  groups = ap (λ f. f.groups.items) c.after_help.ensures ∙ (ap (λ f. f.groups.items) c.about.ensures ∙ (ap (λ f. f.groups.items) c.override_usage.ensures
      ∙ (ap (λ f. f.groups.items) c.version.ensures ∙ (ap (λ f. f.groups.items) c.no_binary_name.ensures ∙ c.new.ensures.empty.1))));
  own = ap (λ f. f.has_globals) c.after_help.ensures ∙ (ap (λ f. f.has_globals) c.about.ensures ∙ (ap (λ f. f.has_globals) c.override_usage.ensures
      ∙ (ap (λ f. f.has_globals) c.version.ensures ∙ (ap (λ f. f.has_globals) c.no_binary_name.ensures ∙ c.new.ensures.local))));
}
