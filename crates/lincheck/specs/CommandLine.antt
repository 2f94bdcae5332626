-- The options of the program's command line (this project's own).
use Rattle.std.specs.Prelude.{◌≡◌, ◌⊎◌, ℕ, Bool, true, false, List, [], ◌∷◌, Option, Some, None, IfSome, nat_le, option_map, unwrap_or, codes}
use Rattle.std.specs.List.{All}
use Rattle.std.specs.Str.Parse.{digits_value, without_leading_plus}
use Rattle.clap.specs.Simple.{on_top}
use Rattle.clap.specs.Words.{App, Row, Rule, app_of, new_app, new_rule, one_of, rule_of, with_rule}
use Rattle.clap.specs.Words.{args_of, groups_of, one_text, IsPlain, IsPlainArg, IsUnsignedIn}
use Rattle.clap.specs.declared.builder.action.ArgAction.TheVariants.{SetTrue}
use Rattle.clap.specs.declared.builder.arg.Arg.{Arg}
use Rattle.clap.specs.declared.builder.command.Command.{Command}
use Rattle.clap.specs.declared.builder.command.Command.TheViews.{out-Command}
use Rattle.clap.specs.declared.builder.value_parser.ValueParser.TheVariants as parsers
use Rattle.clap.specs.declared.parser.matches.Found.{Found}
use Rattle.lin_workers.specs.Options.{IsUpTo, Options}
use Rattle.lin_workers.specs.declared.options.TheConstants.{MAX_WORKERS, MAX_SHARDS, MAX_LIMIT, MAX_SECONDS}
use Rattle.lincheck.specs.declared.option_rows.OptionRow.{OptionRow}
use Rattle.lincheck.specs.declared.request.TheConstants.{DEFAULT_WORKERS, DEFAULT_SHARDS}

-- The option of this name, which takes one number from 1 to the greatest.
abbrev pub number_rule : List ℕ → ℕ → Rule
number_rule name greatest = record (new_rule name) {
  long = Some name;
  value_names = 1;
  parser = Some (parsers.Unsigned 1 greatest);
}

-- The option of this name, which is given or not.
abbrev pub flag_rule : List ℕ → Rule
flag_rule name = record (new_rule name) { long = Some name; action = Some SetTrue }

-- A command line without an option, which has a version and is parsed without the name of the program.
abbrev pub no_options : App
no_options = on_top (λ s. record s { no_binary_name = true; has_version = true }) (new_app (codes "lincheck"))

-- An option: its name, and the greatest number that it takes, where it takes one.
pub record ProgramOption : Type 0 where
  pub name : List ℕ
  pub greatest : Option ℕ

-- The option of this name, which takes one number from 1 to the greatest.
abbrev pub numbered : List ℕ → ℕ → ProgramOption
numbered name greatest = record { name = name; greatest = Some greatest }

-- The option of this name, which is given or not.
abbrev pub flag : List ℕ → ProgramOption
flag name = record { name = name; greatest = None }

-- The program's options.
abbrev pub program_options : List ProgramOption
program_options =
    numbered (codes "workers") MAX_WORKERS
    ∷ numbered (codes "shards") MAX_SHARDS
    ∷ numbered (codes "limit") MAX_LIMIT
    ∷ flag (codes "stats")
    ∷ flag (codes "explain")
    ∷ flag (codes "each")
    ∷ numbered (codes "seconds") MAX_SECONDS
    ∷ flag (codes "progress")
    ∷ []

-- What the command line says of an option.
abbrev pub rule_taking : List ℕ → Option ℕ → Rule
rule_taking name None = flag_rule name
rule_taking name (Some greatest) = number_rule name greatest

-- A command line with these options more.
abbrev pub with_options : App → List ProgramOption → App
with_options app [] = app
with_options app (o ∷ os) = with_options (with_rule app (rule_taking o.name o.greatest)) os

-- The program's command line.
unfoldable pub program : App
program = with_options no_options program_options

-- The argument is the option, and excludes no other.
pub record IsArgOf (o : ProgramOption) (a : Arg) : Type 0 where
  pub rule : rule_of a ≡ rule_taking o.name o.greatest
  pub plain : IsPlainArg a
  pub own : a.global ≡ false

-- The command has no argument yet.
pub record IsBareLine (c : Command) : Type 0 where
  pub app : app_of c ≡ no_options
  pub args : args_of c ≡ []
  pub groups : groups_of c ≡ []
  pub own : (out-Command c).has_globals ≡ false

-- The argument takes a number from 1 to the greatest, where there is one.
abbrev pub TakesUpTo : Option ℕ → Arg → Type 0
TakesUpTo greatest a = IfSome greatest (λ n. a.value_parser ≡ Some (parsers.Unsigned 1 n))

-- The argument has the name of one of these options, and takes its numbers.
abbrev pub IsOneOf : List ProgramOption → Arg → Type 0
IsOneOf [] a = ⊥
IsOneOf (o ∷ os) a = ((a.id.now ≡ o.name) × TakesUpTo o.greatest a) ⊎ IsOneOf os a

-- The command line has these options and no other: no argument excludes another, and each takes the numbers of its option.
pub record HasOptions (os : List ProgramOption) (c : Command) : Type 0 where
  pub app : app_of c ≡ with_options no_options os
  pub plain : IsPlain c
  pub own : (out-Command c).has_globals ≡ false
  pub each : All (IsOneOf os) (args_of c)

-- The command is the program's.
pub record IsCommandLine (c : Command) : Type 0 where
  pub app : app_of c ≡ program
  pub options : HasOptions program_options c

-- The row of the program's table is this option.
abbrev pub option_of : OptionRow → ProgramOption
option_of row = record { name = row.name.now; greatest = row.greatest }

-- The number is at most the greatest limit, where there is one.
abbrev pub is_small : Option ℕ → Bool
is_small None = true
is_small (Some n) = nat_le n MAX_LIMIT

-- What the words gave for this name, where they gave something, is a number from 1 to the greatest.
abbrev pub GivesUpTo : Found → List ℕ → ℕ → Type 0
GivesUpTo found name greatest = IfSome (one_text found name) (IsUnsignedIn 1 greatest)

-- Each number that the words gave is within the range of its option.
abbrev pub AreInRange : Found → Type 0
AreInRange found = All (λ (o : ProgramOption). IfSome o.greatest (GivesUpTo found o.name)) program_options

-- The number that a text gives, where there is one.
abbrev pub number_in : Option (List ℕ) → Option ℕ
number_in = option_map (λ text. digits_value 10 (without_leading_plus text))

-- The number that stands for this name among what the words gave.
abbrev pub number_given : List Row → List ℕ → Option ℕ
number_given rows name = number_in (one_of name rows)

-- The number that was asked for by this name, which is from 1 to the greatest, is what the words gave.
pub record IsNumberAsked (rows : List Row) (name : List ℕ) (greatest : ℕ) (number : Option ℕ) : Type 0 where
  pub given : number ≡ number_given rows name
  pub within : IfSome number (IsUpTo greatest)

-- Whether this option is asked for, which is given or not, is what the words gave.
pub record IsFlagAsked (rows : List Row) (name : List ℕ) (is_asked : Bool) : Type 0 where
  pub asked : one_of name rows ≡ Some (codes "true") → is_asked ≡ true
  pub silent : one_of name rows ≡ Some (codes "false") → is_asked ≡ false

-- The options are those that the words gave, and the usual ones where they gave none.
pub record AreAsked (rows : List Row) (o : Options) : Type 0 where
  pub workers : o.workers ≡ unwrap_or (number_given rows (codes "workers")) DEFAULT_WORKERS
  pub shards : o.shards ≡ unwrap_or (number_given rows (codes "shards")) DEFAULT_SHARDS
  pub limit : o.limit ≡ number_given rows (codes "limit")
  pub seconds : o.seconds ≡ number_given rows (codes "seconds")
  pub stats : IsFlagAsked rows (codes "stats") o.stats
  pub progress : IsFlagAsked rows (codes "progress") o.progress
