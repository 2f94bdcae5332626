use Rattle.std.proofs.Common.{◌∙◌}
use Rattle.clap.specs.Words.{found_of}
use Rattle.clap.proofs.WalkLemmas.{one_text-rows}
use Rattle.lincheck.proofs.request.is_asked.Goals as goal

pub returns : goal.returns
returns c = record {
  asked = λ given. c.get_flag.ensures.value (one_text-rows (found_of c.args.matches.now) c.args.name.now ∙ given);
  silent = λ given. c.get_flag.ensures.other (one_text-rows (found_of c.args.matches.now) c.args.name.now ∙ given);
}
