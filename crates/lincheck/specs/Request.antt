-- What a user asks for (this project's own).
use Rattle.std.specs.Prelude.{◌≡◌, ◌≢◌, Bool, true, false, List, [], codes, Result, Ok, Err}
use Rattle.clap.specs.Words.{Text, IsAmong, fault_of, matches_of}
use Rattle.clap.specs.declared.error.kind.ErrorKind.{ErrorKind}
use Rattle.clap.specs.declared.error.kind.ErrorKind.TheVariants as kinds
use Rattle.lin_workers.specs.Options.{Options}
use Rattle.lincheck.specs.CommandLine.{AreAsked, IsFlagAsked, program}
use Rattle.lincheck.specs.declared.request.Request.{Request}
use Rattle.lincheck.specs.declared.request.Request.TheVariants.{Run, Explain, Each, ExplainEach, Help, Version, Refused}

-- The request is for a check with these options, with an explanation and a line for each object where that is asked for.
abbrev pub IsRequestOf : Options → Bool → Bool → Request → Type 0
IsRequestOf options explain each (Run o) = (o ≡ options) × (explain ≡ false) × (each ≡ false)
IsRequestOf options explain each (Explain o) = (o ≡ options) × (explain ≡ true) × (each ≡ false)
IsRequestOf options explain each (Each o) = (o ≡ options) × (explain ≡ false) × (each ≡ true)
IsRequestOf options explain each (ExplainEach o) = (o ≡ options) × (explain ≡ true) × (each ≡ true)
IsRequestOf options explain each (Help text) = ⊥
IsRequestOf options explain each (Version text) = ⊥
IsRequestOf options explain each (Refused text) = ⊥

-- What is answered where the words were not taken: help and the version only where they were asked for, a refusal only where
-- there is another kind of error than being out of memory, and options never.
abbrev pub AnswersKind : {E : Type 0} → ErrorKind → Result Request E → Type 0
AnswersKind kind (Ok (Run options)) = ⊥
AnswersKind kind (Ok (Explain options)) = ⊥
AnswersKind kind (Ok (Each options)) = ⊥
AnswersKind kind (Ok (ExplainEach options)) = ⊥
AnswersKind kind (Ok (Help text)) = kind ≡ kinds.DisplayHelp
AnswersKind kind (Ok (Version text)) = kind ≡ kinds.DisplayVersion
AnswersKind kind (Ok (Refused text)) = (kind ≢ kinds.DisplayHelp) × (kind ≢ kinds.DisplayVersion) × (kind ≢ kinds.OutOfMemory)
AnswersKind kind (Err e) = Unit {0}

-- The program's command line takes the words, and they ask or do not ask for an explanation and for a line for each object.
pub record AreTaken (words : List Text) (explain each : Bool) : Type 0 where
  pub sound : fault_of program words ≡ []
  pub explain_asked : IsFlagAsked (matches_of program words) (codes "explain") explain
  pub each_asked : IsFlagAsked (matches_of program words) (codes "each") each

-- The words have a fault that is no request for help or for the version.
abbrev pub AreFaulty : List Text → Type 0
AreFaulty words = (kind : ErrorKind) × (kind ≢ kinds.DisplayHelp) × (kind ≢ kinds.DisplayVersion) × IsAmong kind (fault_of program words)

-- What is answered to the words: the options that they ask for where the program's command line takes them; help or the
-- version where that is what ends the reading of them; and a refusal where they have a fault.
abbrev pub IsAnswerTo : List Text → Request → Type 0
IsAnswerTo words (Run options) = AreTaken words false false × AreAsked (matches_of program words) options
IsAnswerTo words (Explain options) = AreTaken words true false × AreAsked (matches_of program words) options
IsAnswerTo words (Each options) = AreTaken words false true × AreAsked (matches_of program words) options
IsAnswerTo words (ExplainEach options) = AreTaken words true true × AreAsked (matches_of program words) options
IsAnswerTo words (Help text) = IsAmong kinds.DisplayHelp (fault_of program words)
IsAnswerTo words (Version text) = IsAmong kinds.DisplayVersion (fault_of program words)
IsAnswerTo words (Refused text) = AreFaulty words
