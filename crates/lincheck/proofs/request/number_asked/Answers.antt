use Rattle.std.specs.Str.Parse.{ParsesUnsigned, ExplainsUnsignedError, HasUnsignedDigitsIfOk}
use Rattle.std.proofs.Common.{◌∙◌, ap}
use Rattle.clap.specs.Words.{found_of}
use Rattle.clap.proofs.WalkLemmas.{one_text-rows}
use Rattle.lincheck.specs.CommandLine.{number_in}
use Rattle.lincheck.proofs.CommandLineLemmas.{number_read}
use Rattle.lincheck.proofs.request.number_asked.Goals as goal

pub returns : goal.returns
returns c = λ greatest given.
    let read = number_read _ (λ bs r. ParsesUnsigned 64 10 bs r × ExplainsUnsignedError 10 bs r × HasUnsignedDigitsIfOk bs r) greatest _ c.get_one.result
    c.get_one.ensures.none c.get_one.ensures.value (λ u x g. g.0) given in
    record { given = read.0 ∙ ap number_in (one_text-rows (found_of c.args.matches.now) c.args.name.now); within = read.1 }
