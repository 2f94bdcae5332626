-- What the command line takes and refuses, computed of words that are written out.
use Rattle.std.proofs.Common.{◌≡◌, List, [], ◌∷◌, Some, None, refl, codes}
use Rattle.clap.specs.Words.{Text, fault_of, matches_of, one_of}
use Rattle.clap.specs.declared.error.kind.ErrorKind.TheVariants.{ArgumentConflict, DisplayHelp, DisplayVersion, UnknownArgument, ValueValidation}
use Rattle.clap.proofs.OnLiterals.{clap_on_literals}
use Rattle.lincheck.specs.CommandLine.{number_given, program}
use Rattle.lincheck.specs.declared.request.TheConstants.{DEFAULT_WORKERS, DEFAULT_SHARDS}

-- What an option is given with.
abbrev given : Text → Text → List Text
given name value = name ∷ value ∷ []

-- No words at all are taken, and so are the least and the greatest numbers.
none_taken : fault_of program [] ≡ []
unfolding program clap_on_literals
none_taken = refl

most_taken : fault_of program (codes "--workers" ∷ codes "64" ∷ codes "--shards=256" ∷ codes "--limit" ∷ codes "1000000000000" ∷ codes "--stats" ∷ []) ≡ []
unfolding program clap_on_literals
most_taken = refl

least_taken : fault_of program (codes "--limit" ∷ codes "1" ∷ codes "--shards" ∷ codes "1" ∷ codes "--workers" ∷ codes "1" ∷ []) ≡ []
unfolding program clap_on_literals
least_taken = refl

-- They are read as what they are.
is_read : number_given (matches_of program (given (codes "--workers") (codes "64"))) (codes "workers") ≡ Some 64
unfolding program clap_on_literals
is_read = refl

is_absent : number_given (matches_of program (given (codes "--workers") (codes "64"))) (codes "limit") ≡ None
unfolding program clap_on_literals
is_absent = refl

is_set : one_of (codes "stats") (matches_of program (codes "--stats" ∷ [])) ≡ Some (codes "true")
unfolding program clap_on_literals
is_set = refl

is_not_set : one_of (codes "stats") (matches_of program []) ≡ Some (codes "false")
unfolding program clap_on_literals
is_not_set = refl

explain_is_set : one_of (codes "explain") (matches_of program (codes "--explain" ∷ [])) ≡ Some (codes "true")
unfolding program clap_on_literals
explain_is_set = refl

explain_is_not_set : one_of (codes "explain") (matches_of program (codes "--stats" ∷ [])) ≡ Some (codes "false")
unfolding program clap_on_literals
explain_is_not_set = refl

each_is_set : one_of (codes "each") (matches_of program (codes "--each" ∷ [])) ≡ Some (codes "true")
unfolding program clap_on_literals
each_is_set = refl

each_is_not_set : one_of (codes "each") (matches_of program (codes "--explain" ∷ [])) ≡ Some (codes "false")
unfolding program clap_on_literals
each_is_not_set = refl

progress_is_set : one_of (codes "progress") (matches_of program (codes "--progress" ∷ [])) ≡ Some (codes "true")
unfolding program clap_on_literals
progress_is_set = refl

progress_is_not_set : one_of (codes "progress") (matches_of program (codes "--each" ∷ [])) ≡ Some (codes "false")
unfolding program clap_on_literals
progress_is_not_set = refl

-- What is usual where nothing is given.
is_usual : (DEFAULT_WORKERS ≡ 4) × (DEFAULT_SHARDS ≡ 16)
is_usual = (refl, refl)

-- What is out of its range, no number, given twice, or unknown is refused.
workers_refused : (fault_of program (given (codes "--workers") (codes "0")) ≡ ValueValidation ∷ [])
    × (fault_of program (given (codes "--workers") (codes "65")) ≡ ValueValidation ∷ [])
    × (fault_of program (given (codes "--workers") (codes "x")) ≡ ValueValidation ∷ [])
unfolding program clap_on_literals
workers_refused = (refl, refl, refl)

shards_refused : fault_of program (given (codes "--shards") (codes "257")) ≡ ValueValidation ∷ []
unfolding program clap_on_literals
shards_refused = refl

limit_refused : (fault_of program (given (codes "--limit") (codes "0")) ≡ ValueValidation ∷ [])
    × (fault_of program (given (codes "--limit") (codes "1000000000001")) ≡ ValueValidation ∷ [])
unfolding program clap_on_literals
limit_refused = (refl, refl)

twice_refused : fault_of program (codes "--workers" ∷ codes "2" ∷ codes "--workers" ∷ codes "3" ∷ []) ≡ ArgumentConflict ∷ []
unfolding program clap_on_literals
twice_refused = refl

explain_twice_refused : fault_of program (codes "--explain" ∷ codes "--explain" ∷ []) ≡ ArgumentConflict ∷ []
unfolding program clap_on_literals
explain_twice_refused = refl

word_refused : fault_of program (codes "extra" ∷ []) ≡ UnknownArgument ∷ []
unfolding program clap_on_literals
word_refused = refl

-- Help is told where it is asked for.
help_told : fault_of program (codes "--help" ∷ []) ≡ DisplayHelp ∷ []
unfolding program clap_on_literals
help_told = refl

-- So is the version.
version_told : fault_of program (codes "--version" ∷ []) ≡ DisplayVersion ∷ []
unfolding program clap_on_literals
version_told = refl
