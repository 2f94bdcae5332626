-- What a parse of the command line gives.
use Rattle.std.proofs.Common.{◌≡◌, ◌⊎◌, ◌∙◌, ◌<◌, ◌+◌, ◌++◌, ◌&&◌, ◌||◌, ℕ, zero, suc, Bool, true, false, true≢false, not, List, [], ◌∷◌, length, map, take, Option, Some, None, Result, Ok, Err, ap, ap₂, refl, sym, subst, inl, inr, arith, codes}
use Rattle.std.specs.Prelude.{IfOk, IfSome, bytes_eq, option_map, unwrap_or, slice_get}
use Rattle.std.specs.List.{All, slice_index_or}
use Rattle.std.specs.Borrow.{Bor}
use Rattle.std.specs.Str.Parse.{ParsesUnsigned, digits_value, without_leading_plus}
use Rattle.std.proofs.lemmas.Bool.{and_parts, cases_lt, le-ltb, or_left, or_parts, or_right}
use Rattle.std.proofs.lemmas.List.{map_push, take_more}
use Rattle.std.proofs.lemmas.List.Elements.{All-nil, All-push}
use Rattle.std.proofs.lemmas.Slice.Eq.{bytes_eq-Decides}
use Rattle.clap.specs.Words.{Accepts, AddsArg, App, BuildsTo, IsParsedFrom, IsPlainArg, IsUnsignedIn, ReadsOne, Row, SameRules, args_of, found_of, groups_of, matched_of, read_as, reading_of, rows_of, rule_of, with_rule, Rule, Text, HasKind, HasMatchesOf, IsAmong, app_of, fault_of, is_simple, is_simple_and_free, kind_of, matches_of}
use Rattle.clap.specs.Facts.{Entry, EntryPasses, HasReading, PassesArg, ValuesPass, parser_of_value}
use Rattle.clap.specs.declared.builder.arg.Arg.{Arg}
use Rattle.clap.specs.declared.builder.command.Command.{Command}
use Rattle.clap.specs.declared.builder.value_parser.ValueParser.{ValueParser}
use Rattle.clap.specs.declared.builder.value_parser.ValueParser.TheVariants as parsers
use Rattle.clap.specs.declared.builder.value_parser.Reading.{Reading}
use Rattle.clap.specs.declared.parser.matches.ArgMatches.{ArgMatches}
use Rattle.clap.specs.declared.parser.matches.Found.{Found}
use Rattle.clap.specs.declared.parser.matches.MatchedArg.{MatchedArg}
use Rattle.clap.specs.declared.error.Error.{Error}
use Rattle.clap.specs.declared.error.kind.ErrorKind.TheVariants as kinds
use Rattle.clap.proofs.OnLiterals.{clap_on_literals}
use Rattle.clap.proofs.CallerLemmas.{added_plain, entry_by_id}
use Rattle.lin_workers.specs.Options.{Options, IsUpTo, is_outside, is_limit_outside, is_time_outside, options_made, with_progress, with_seconds}
use Rattle.lin_workers.specs.declared.options.TheConstants.{MAX_WORKERS, MAX_SHARDS, MAX_LIMIT, MAX_SECONDS}
use Rattle.lincheck.specs.CommandLine.{ProgramOption, TakesUpTo, no_options, option_of, program, program_options, rule_taking, with_options, HasOptions, IsArgOf, IsBareLine, IsCommandLine, IsFlagAsked, IsNumberAsked, IsOneOf, GivesUpTo, AreAsked, AreInRange}
use Rattle.lincheck.specs.declared.option_rows.OptionRow.{OptionRow}
use Rattle.lincheck.specs.Request.{AnswersKind, AreTaken, IsAnswerTo, IsRequestOf}
use Rattle.lincheck.specs.declared.request.Request.{Request}
use Rattle.lincheck.specs.declared.request.Request.TheVariants.{Run, Explain, Each, ExplainEach, Help, Version, Refused}
use Rattle.lincheck.specs.declared.request.TheConstants.{DEFAULT_WORKERS, DEFAULT_SHARDS}

-- The argument of this name takes a number from 1 to the greatest.
abbrev TakesByName : Command → List ℕ → ℕ → Type 0
TakesByName c name greatest = All (λ a. a.id.now ≡ name → a.value_parser ≡ Some (parsers.Unsigned 1 greatest)) (args_of c)

-- Building adds help and version alone.
takes_built : (old new : Command) (name : List ℕ) (greatest : ℕ) → BuildsTo old new → TakesByName old name greatest
    → ((name ≡ codes "help") ⊎ (name ≡ codes "version") → ⊥) → TakesByName new name greatest
takes_built old new name greatest builds all other k d lt =
    λ is. elim (cases_lt k (length (args_of old))) [
      | inl under ↦
          let kept = builds.kept k d under in
          kept.1.parser (parsers.Unsigned 1 greatest) (all k d under (ap (λ b. b.now) (sym kept.1.id) ∙ is))
      | inr over ↦ absurd (other (elim (builds.extra k d over lt) [ inl h ↦ inl (sym is ∙ h) | inr h ↦ inr (sym is ∙ h) ]))
    ]

-- What such an argument takes, and as what it is read.
accepted : (c : Command) (name : List ℕ) (greatest : ℕ) (text : List ℕ) → TakesByName c name greatest → PassesArg c name text
    → IsUnsignedIn 1 greatest text
accepted c name greatest text all pass =
    let is : pass.1.id.now ≡ name = (bytes_eq-Decides pass.1.id.now name).0 pass.4.0 in
    let parser : pass.1.value_parser ≡ Some (parsers.Unsigned 1 greatest) =
    subst (λ b. b.id.now ≡ name → b.value_parser ≡ Some (parsers.Unsigned 1 greatest)) pass.3 (all pass.0 pass.1 pass.2) is in
    subst (λ (p : ValueParser). Accepts pass.1.ignore_case p text) (ap parser_of_value parser) pass.4.1

read_alike : (c : Command) (name : List ℕ) (greatest : ℕ) (how : Reading) → TakesByName c name greatest → HasReading c name how
    → reading_of (parsers.Unsigned 1 greatest) ≡ how
read_alike c name greatest how all has =
    let is : has.1.id.now ≡ name = (bytes_eq-Decides has.1.id.now name).0 has.4.0 in
    let parser : has.1.value_parser ≡ Some (parsers.Unsigned 1 greatest) =
    subst (λ b. b.id.now ≡ name → b.value_parser ≡ Some (parsers.Unsigned 1 greatest)) has.3 (all has.0 has.1 has.2) is in
    sym (ap reading_of (ap parser_of_value parser)) ∙ has.4.1

first_given : (P : List ℕ → Type 0) (how : Reading) (vals : List (Bor (List ℕ))) → ((t : List ℕ) → read_as how t ≡ t)
    → All (λ v. P v.now) vals → IfSome (option_map (λ s. read_as how s.now) (slice_get vals 0)) P
first_given P how [] same all = tt
first_given P how (v ∷ vs) same all = subst P (sym (same v.now)) (all 0 v (omega arith))

entry_given : (c : Command) (name : List ℕ) (greatest : ℕ) (x : MatchedArg) (e : Entry) → groups_of c ≡ [] → (name ≡ [] → ⊥)
    → TakesByName c name greatest → e.1 ≡ x → e.0.now ≡ name → EntryPasses c e
    → IfSome (option_map (λ s. read_as x.reading s.now) (slice_get x.vals.items 0)) (IsUnsignedIn 1 greatest)
entry_given c name greatest x e no_groups named all same key pass =
    let no_group : e.1.is_group ≡ true → ⊥ = λ g. elim (pass.3 g) [
      | inl empty ↦ named (sym key ∙ empty)
      | inr lots ↦
          let bad : 0 < 0 = rw no_groups at lots in
          absurd (omega arith)
    ] in
    let vals : All (λ v. PassesArg c name v.now) x.vals.items = elim pass.0 [
      | inl g ↦ absurd (no_group g)
      | inr vals ↦ subst (λ (w : List ℕ). All (λ v. PassesArg c w v.now) x.vals.items) key (rw same at vals)
    ] in
    let how : reading_of (parsers.Unsigned 1 greatest) ≡ e.1.reading = elim pass.4 [
      | inl g ↦ absurd (no_group g)
      | inr h ↦ read_alike c name greatest e.1.reading all (subst (λ (w : List ℕ). HasReading c w e.1.reading) key h)
    ] in
    let how_x : reading_of (parsers.Unsigned 1 greatest) ≡ x.reading = how ∙ ap (λ (y : MatchedArg). y.reading) same in
    first_given (IsUnsignedIn 1 greatest) x.reading x.vals.items
    (λ t. subst (λ (r : Reading). read_as r t ≡ t) how_x refl)
    (λ k d lt. accepted c name greatest (slice_index_or x.vals.items k d).now all (vals k d lt))

gives : (c : Command) (f : Found) (name : List ℕ) (greatest : ℕ) → ValuesPass c f → groups_of c ≡ [] → (name ≡ [] → ⊥)
    → TakesByName c name greatest → GivesUpTo f name greatest
gives c f name greatest values no_groups named all = go (matched_of f name) refl
  where
    go : (o : Option MatchedArg) → matched_of f name ≡ o → GivesUpTo f name greatest
    go None e = rw e tt
    go (Some x) e =
        let got = entry_by_id (EntryPasses c) f.entries.items name x values e in
        rw e (entry_given c name greatest x got.0 no_groups named all got.1 ((bytes_eq-Decides got.0.0.now name).0 got.2) got.3)

-- ---- the options of a command line

takes_same : (greatest : Option ℕ) (a b : Arg) → SameRules a b → TakesUpTo greatest a → TakesUpTo greatest b
takes_same None a b same takes = tt
takes_same (Some n) a b same takes = same.parser (parsers.Unsigned 1 n) takes

one_same : (os : List ProgramOption) (a b : Arg) → SameRules a b → IsOneOf os a → IsOneOf os b
one_same [] a b same one = absurd one
one_same (o ∷ os) a b same (inl h) = inl (ap (λ x. x.now) same.id ∙ h.0, takes_same o.greatest a b same h.1)
one_same (o ∷ os) a b same (inr h) = inr (one_same os a b same h)

one_before : (os more : List ProgramOption) (a : Arg) → IsOneOf os a → IsOneOf (os ++ more) a
one_before [] more a one = absurd one
one_before (o ∷ os) more a (inl h) = inl h
one_before (o ∷ os) more a (inr h) = inr (one_before os more a h)

one_last : (os : List ProgramOption) (o : ProgramOption) (a : Arg) → a.id.now ≡ o.name → TakesUpTo o.greatest a → IsOneOf (os ++ o ∷ []) a
one_last [] o a named takes = inl (named, takes)
one_last (p ∷ os) o a named takes = inr (one_last os o a named takes)

named_by_rule : (a : Arg) (name : List ℕ) (greatest : Option ℕ) → rule_of a ≡ rule_taking name greatest → a.id.now ≡ name
named_by_rule a name None is = ap (λ (r : Rule). r.id) is
named_by_rule a name (Some n) is = ap (λ (r : Rule). r.id) is

takes_by_rule : (a : Arg) (name : List ℕ) (greatest : Option ℕ) → rule_of a ≡ rule_taking name greatest → TakesUpTo greatest a
takes_by_rule a name None is = tt
takes_by_rule a name (Some n) is = ap (λ (r : Rule). r.parser) is

with_last : (app : App) (os : List ProgramOption) (o : ProgramOption) → with_options app (os ++ o ∷ []) ≡ with_rule (with_options app os) (rule_taking o.name o.greatest)
with_last app [] o = refl
with_last app (p ∷ os) o = with_last (with_rule app (rule_taking p.name p.greatest)) os o

-- A command line without options has none.
pub has_none : (c : Command) → IsBareLine c → HasOptions [] c
has_none c bare = record {
  app = bare.app;
  plain = (subst (All IsPlainArg) (sym bare.args) (All-nil IsPlainArg), bare.groups);
  own = bare.own;
  each = subst (All (IsOneOf [])) (sym bare.args) (All-nil (IsOneOf []));
}

-- With the argument of one option more it has this option too.
pub has_more : (os : List ProgramOption) (o : ProgramOption) (old new : Command) (a : Arg) → HasOptions os old → AddsArg old a new → IsArgOf o a → HasOptions (os ++ o ∷ []) new
has_more os o old new a has added is = record {
  app = added.shape is.own ∙ (ap₂ with_rule has.app is.rule ∙ sym (with_last no_options os o));
  plain = added_plain old new a added has.plain is.plain;
  own = added.globals ∙ (ap (λ b. b || a.global) has.own ∙ ap (λ b. false || b) is.own);
  each = subst (All (IsOneOf (os ++ o ∷ []))) (sym added.args)
      (All-push (IsOneOf (os ++ o ∷ [])) (args_of old) added.arg (λ k d lt. one_before os (o ∷ []) (slice_index_or (args_of old) k d) (has.each k d lt))
      (one_same (os ++ o ∷ []) a added.arg added.rules
      (one_last os o a (named_by_rule a o.name o.greatest is.rule) (takes_by_rule a o.name o.greatest is.rule))));
}

-- ---- the names of options

-- an option of the list has this name
abbrev has_name : List ℕ → List ProgramOption → Bool
has_name name [] = false
has_name name (o ∷ os) = bytes_eq o.name name || has_name name os

-- no two have one name
abbrev are_apart : List ProgramOption → Bool
are_apart [] = true
are_apart (o ∷ os) = not (has_name o.name os) && are_apart os

-- none has that of help or of the version, and each has one
abbrev are_own : List ProgramOption → Bool
are_own [] = true
are_own (o ∷ os) = not (bytes_eq o.name (codes "help") || bytes_eq o.name (codes "version") || bytes_eq o.name []) && are_own os

name_among : (os : List ProgramOption) (name : List ℕ) (a : Arg) → IsOneOf os a → a.id.now ≡ name → has_name name os ≡ true
name_among [] name a one named = absurd one
name_among (o ∷ os) name a (inl h) named = or_left (bytes_eq o.name name) (has_name name os) ((bytes_eq-Decides o.name name).1 (sym h.0 ∙ named))
name_among (o ∷ os) name a (inr h) named = or_right (bytes_eq o.name name) (has_name name os) (name_among os name a h named)

name_at : (os : List ProgramOption) (name : List ℕ) (k : ℕ) (d : ProgramOption) → k < length os → (slice_index_or os k d).name ≡ name → has_name name os ≡ true
name_at [] name k d lt named = absurd (omega (arith, lt))
name_at (o ∷ os) name zero d lt named = or_left (bytes_eq o.name name) (has_name name os) ((bytes_eq-Decides o.name name).1 named)
name_at (o ∷ os) name (suc k) d lt named = or_right (bytes_eq o.name name) (has_name name os) (name_at os name k d (omega (arith, lt)) named)

not_both : (b : Bool) → not b ≡ true → b ≡ true → ⊥
not_both true e f = true≢false (sym e)
not_both false e f = true≢false (sym f)

-- An argument with the name of the option takes its numbers.
takes_at : (os : List ProgramOption) → are_apart os ≡ true → (k : ℕ) (d : ProgramOption) → k < length os → (a : Arg) → IsOneOf os a
    → a.id.now ≡ (slice_index_or os k d).name → TakesUpTo (slice_index_or os k d).greatest a
takes_at [] apart k d lt a one named = absurd one
takes_at (o ∷ os) apart zero d lt a (inl h) named = h.1
takes_at (o ∷ os) apart zero d lt a (inr h) named =
    absurd (not_both (has_name o.name os) (and_parts (not (has_name o.name os)) (are_apart os) apart).0 (name_among os o.name a h named))
takes_at (o ∷ os) apart (suc k) d lt a (inl h) named =
    absurd (not_both (has_name o.name os) (and_parts (not (has_name o.name os)) (are_apart os) apart).0 (name_at os o.name k d (omega (arith, lt)) (sym named ∙ h.0)))
takes_at (o ∷ os) apart (suc k) d lt a (inr h) named =
    takes_at os (and_parts (not (has_name o.name os)) (are_apart os) apart).1 k d (omega (arith, lt)) a h named

is_other : (name other : List ℕ) → bytes_eq name other ≡ false → name ≡ other → ⊥
is_other name other differ same = true≢false (sym ((bytes_eq-Decides name other).1 same) ∙ differ)

-- The name of an option is not empty, and neither that of help nor that of the version.
own_at : (os : List ProgramOption) → are_own os ≡ true → (k : ℕ) (d : ProgramOption) → k < length os
    → let name = (slice_index_or os k d).name in (((name ≡ codes "help") ⊎ (name ≡ codes "version")) → ⊥) × (name ≡ [] → ⊥)
own_at [] own k d lt = absurd (omega (arith, lt))
own_at (o ∷ os) own (suc k) d lt = own_at os (and_parts _ (are_own os) own).1 k d (omega (arith, lt))
own_at (o ∷ os) own zero d lt =
    let first = and_parts (not (bytes_eq o.name (codes "help") || bytes_eq o.name (codes "version") || bytes_eq o.name [])) (are_own os) own in
    let none = or_parts (bytes_eq o.name (codes "help") || bytes_eq o.name (codes "version")) (bytes_eq o.name []) (not_true _ first.0) in
    let auto = or_parts (bytes_eq o.name (codes "help")) (bytes_eq o.name (codes "version")) none.0 in
    (λ is. elim is [ inl h ↦ is_other o.name (codes "help") auto.0 h | inr v ↦ is_other o.name (codes "version") auto.1 v ], is_other o.name [] none.1)
  where
    not_true : (b : Bool) → not b ≡ true → b ≡ false
    not_true true e = absurd (true≢false (sym e))
    not_true false e = refl

names_apart : are_apart program_options ≡ true
names_apart = refl

names_own : are_own program_options ≡ true
names_own = refl

-- Each number that the words gave is within its range.
pub in_range : (old : Command) (m : ArgMatches) → IsParsedFrom old m → IsCommandLine old → AreInRange (found_of m)
in_range old m p line k d lt = go (slice_index_or program_options k d).greatest refl
  where
    go : (g : Option ℕ) → (slice_index_or program_options k d).greatest ≡ g → IfSome g (GivesUpTo (found_of m) (slice_index_or program_options k d).name)
    go None is = tt
    go (Some n) is =
        let own = own_at program_options names_own k d lt in
        gives p.built (found_of m) (slice_index_or program_options k d).name n (p.parsed (p.from.globals ∙ line.options.own)).values (p.from.plain line.options.plain).1 own.1
        (takes_built old p.built (slice_index_or program_options k d).name n p.from
        (λ i a less. λ named. subst (λ g. TakesUpTo g (slice_index_or (args_of old) i a)) is (takes_at program_options names_apart k d lt (slice_index_or (args_of old) i a) (line.options.each i a less) named))
        own.0)

-- What is read of a text that gives such a number is that number.
pub number_read : (E : Type 0) (G : List ℕ → Result ℕ E → Type 0) (greatest : ℕ) (text : Option (List ℕ)) (r : Option ℕ)
    → (text ≡ None → r ≡ None) → ((t : List ℕ) → text ≡ Some t → ReadsOne G t r)
    → ((u : List ℕ) (x : Result ℕ E) → G u x → ParsesUnsigned 64 10 u x) → IfSome text (IsUnsignedIn 1 greatest)
    → (r ≡ option_map (λ t. digits_value 10 (without_leading_plus t)) text) × IfSome r (IsUpTo greatest)
number_read E G greatest None r none some parses given = (none refl, subst (λ o. IfSome o (IsUpTo greatest)) (sym (none refl)) tt)
number_read E G greatest (Some t) None none some parses given =
    let read = some t refl in
    absurd (parses t (Err read.0) read.1 (given.0, given.1))
number_read E G greatest (Some t) (Some v) none some parses given =
    let parsed = parses t (Ok v) (some t refl) in
    (ap Some parsed.1, subst (IsUpTo greatest) (sym parsed.1) (given.2, given.3))

-- Options within their ranges are not refused.
is_inside : (greatest n : ℕ) → IsUpTo greatest n → is_outside greatest n ≡ false
is_inside greatest n h = rw (le-ltb n 1 h.0, le-ltb greatest n h.1) refl

limit_is_inside : (limit : Option ℕ) → IfSome limit (IsUpTo MAX_LIMIT) → is_limit_outside limit ≡ false
limit_is_inside None h = refl
limit_is_inside (Some n) h = is_inside MAX_LIMIT n h

-- The options that are made of what lies within the ranges.
made_whole : (o : Options) → IsUpTo MAX_WORKERS o.workers → IsUpTo MAX_SHARDS o.shards → IfSome o.limit (IsUpTo MAX_LIMIT) → options_made o ≡ Ok o
made_whole o workers shards limit = rw (is_inside MAX_WORKERS o.workers workers, is_inside MAX_SHARDS o.shards shards, limit_is_inside o.limit limit) refl

time_is_inside : (seconds : Option ℕ) → IfSome seconds (IsUpTo MAX_SECONDS) → is_time_outside seconds ≡ false
time_is_inside None h = refl
time_is_inside (Some n) h = is_inside MAX_SECONDS n h

pub timed_whole : (seconds : Option ℕ) (o : Options) → IfSome seconds (IsUpTo MAX_SECONDS)
    → with_seconds seconds o ≡ Ok (record { workers = o.workers; shards = o.shards; limit = o.limit; stats = o.stats; seconds = seconds; progress = o.progress })
timed_whole seconds o within = rw (time_is_inside seconds within) refl

-- A number, or the usual one.
or_usual : (greatest usual : ℕ) (r : Option ℕ) → IfSome r (IsUpTo greatest) → IsUpTo greatest usual → IsUpTo greatest (unwrap_or r usual)
or_usual greatest usual None given is = is
or_usual greatest usual (Some n) given is = given

usual_in : (greatest usual n : ℕ) (r : Option ℕ) → n ≡ unwrap_or r usual → IfSome r (IsUpTo greatest) → IsUpTo greatest usual → IsUpTo greatest n
usual_in greatest usual n r is within h = subst (IsUpTo greatest) (sym is) (or_usual greatest usual r within h)

ok_same : {E : Type 0} (a b : Options) → ◌≡◌ {A = Result Options E} (Ok a) (Ok b) → a ≡ b
ok_same a b same = cc

-- What was read of the words: numbers within their ranges.
pub record AreRead (rows : List Row) (w s l d : Option ℕ) (workers shards : ℕ) : Type 0 where
  pub w_is : IsNumberAsked rows (codes "workers") MAX_WORKERS w
  pub s_is : IsNumberAsked rows (codes "shards") MAX_SHARDS s
  pub l_is : IsNumberAsked rows (codes "limit") MAX_LIMIT l
  pub d_is : IsNumberAsked rows (codes "seconds") MAX_SECONDS d
  pub workers_is : workers ≡ unwrap_or w DEFAULT_WORKERS
  pub shards_is : shards ≡ unwrap_or s DEFAULT_SHARDS

-- Options of it are not refused.
pub first_made : (rows : List Row) (w s l d : Option ℕ) (workers shards : ℕ) (stats : Bool) → AreRead rows w s l d workers shards
    → let o : Options = record { workers = workers; shards = shards; limit = l; stats = stats; seconds = None; progress = false } in options_made o ≡ Ok o
first_made rows w s l d workers shards stats read =
    made_whole (record { workers = workers; shards = shards; limit = l; stats = stats; seconds = None; progress = false })
    (usual_in MAX_WORKERS DEFAULT_WORKERS workers w read.workers_is read.w_is.within (omega arith, omega arith))
    (usual_in MAX_SHARDS DEFAULT_SHARDS shards s read.shards_is read.s_is.within (omega arith, omega arith)) read.l_is.within

-- The options that are made of it.
pub asked : (rows : List Row) (w s l d : Option ℕ) (workers shards : ℕ) (stats progress : Bool) (made timed given : Options)
    → AreRead rows w s l d workers shards → IsFlagAsked rows (codes "stats") stats → IsFlagAsked rows (codes "progress") progress
    → options_made (record { workers = workers; shards = shards; limit = l; stats = stats; seconds = None; progress = false }) ≡ Ok made
    → with_seconds d made ≡ Ok timed → given ≡ with_progress progress timed → AreAsked rows given
asked rows w s l d workers shards stats progress made timed given read stats_is progress_is is then last =
    let o : Options = record { workers = workers; shards = shards; limit = l; stats = stats; seconds = None; progress = false } in
    let first : made ≡ o = ok_same made o (sym is ∙ first_made rows w s l d workers shards stats read) in
    let second = ok_same timed _ (sym then ∙ timed_whole d made read.d_is.within) in
    let all : given ≡ record { workers = workers; shards = shards; limit = l; stats = stats; seconds = d; progress = progress } =
    last ∙ (ap (with_progress progress) second ∙ ap (λ (o : Options). record { workers = o.workers; shards = o.shards; limit = o.limit; stats = o.stats; seconds = d; progress = progress }) first) in
    subst (AreAsked rows) (sym all) (record {
      workers = read.workers_is ∙ ap (λ n. unwrap_or n DEFAULT_WORKERS) read.w_is.given;
      shards = read.shards_is ∙ ap (λ n. unwrap_or n DEFAULT_SHARDS) read.s_is.given;
      limit = read.l_is.given;
      seconds = read.d_is.given;
      stats = stats_is;
      progress = progress_is;
    })

pub rows_more : (rows : List OptionRow) (i : ℕ) (d : OptionRow) → i < length rows → map option_of (take (i + 1) rows) ≡ map option_of (take i rows) ++ option_of (slice_index_or rows i d) ∷ []
rows_more rows i d less = ap (map option_of) (take_more rows i d less) ∙ map_push option_of (take i rows) (slice_index_or rows i d)

-- What has the program's options is its command line.
pub line_of : (c : Command) → HasOptions program_options c → IsCommandLine c
unfolding program
line_of c has = record { app = has.app; options = has }

-- Its matches and its faults are those that can be computed.
is_plain_enough : (is_simple program ≡ true) × (is_simple_and_free program ≡ true)
unfolding program clap_on_literals
is_plain_enough = (refl, refl)

-- What is asked for by words that are taken.
request_answers : (words : List Text) (o : Options) (explain each : Bool) (r : Request) → IsRequestOf o explain each r → AreTaken words explain each → AreAsked (matches_of program words) o → IsAnswerTo words r
request_answers words o explain each (Run p) is taken asks = (subst (AreTaken words false) is.2 (subst (λ e. AreTaken words e each) is.1 taken), subst (AreAsked (matches_of program words)) (sym is.0) asks)
request_answers words o explain each (Explain p) is taken asks = (subst (AreTaken words true) is.2 (subst (λ e. AreTaken words e each) is.1 taken), subst (AreAsked (matches_of program words)) (sym is.0) asks)
request_answers words o explain each (Each p) is taken asks = (subst (AreTaken words false) is.2 (subst (λ e. AreTaken words e each) is.1 taken), subst (AreAsked (matches_of program words)) (sym is.0) asks)
request_answers words o explain each (ExplainEach p) is taken asks = (subst (AreTaken words true) is.2 (subst (λ e. AreTaken words e each) is.1 taken), subst (AreAsked (matches_of program words)) (sym is.0) asks)
request_answers words o explain each (Help text) is taken asks = absurd is
request_answers words o explain each (Version text) is taken asks = absurd is
request_answers words o explain each (Refused text) is taken asks = absurd is

-- Where the words are taken, the options are those that they ask for.
pub run_answers : (words : List Text) (c : Command) (m : ArgMatches) (o : Options) (explain each : Bool) (r : Request) → IsCommandLine c → HasMatchesOf (app_of c) words m
    → (is_simple_and_free (app_of c) ≡ true → fault_of (app_of c) words ≡ []) → AreAsked (rows_of (found_of m)) o
    → IsFlagAsked (rows_of (found_of m)) (codes "explain") explain → IsFlagAsked (rows_of (found_of m)) (codes "each") each
    → IsRequestOf o explain each r → IsAnswerTo words r
run_answers words c m o explain each r line matches fails asked told told_each is =
    let faults = fails (ap is_simple_and_free line.app ∙ is_plain_enough.1) in
    let rows = (matches (ap is_simple line.app ∙ is_plain_enough.0)).0 ∙ ap (λ a. matches_of a words) line.app in
    let taken : AreTaken words explain each = record {
      sound = ap (λ a. fault_of a words) (sym line.app) ∙ faults;
      explain_asked = subst (λ r. IsFlagAsked r (codes "explain") explain) rows told;
      each_asked = subst (λ r. IsFlagAsked r (codes "each") each) rows told_each;
    } in
    request_answers words o explain each r is taken (subst (λ r. AreAsked r o) rows asked)

help_is_not_memory : kinds.DisplayHelp ≡ kinds.OutOfMemory → ⊥
help_is_not_memory same = cc

version_is_not_memory : kinds.DisplayVersion ≡ kinds.OutOfMemory → ⊥
version_is_not_memory same = cc

-- Where they are not, help or a refusal is told by a fault that they have.
pub other_answers : {E : Type 0} → (words : List Text) (c : Command) (e : Error) (r : Result Request E) → IsCommandLine c
    → (is_simple_and_free (app_of c) ≡ true → HasKind (fault_of (app_of c) words) e) → AnswersKind (kind_of e) r → IfOk r (IsAnswerTo words)
other_answers {E} words c e r line fails answers =
    go r answers (subst (λ a. HasKind (fault_of a words) e) line.app (fails (ap is_simple_and_free line.app ∙ is_plain_enough.1)))
  where
    go : (r : Result Request E) → AnswersKind (kind_of e) r → HasKind (fault_of program words) e → IfOk r (IsAnswerTo words)
    go (Ok (Run o)) answers kind = absurd answers
    go (Ok (Explain o)) answers kind = absurd answers
    go (Ok (Each o)) answers kind = absurd answers
    go (Ok (ExplainEach o)) answers kind = absurd answers
    go (Ok (Help text)) answers (inl memory) = absurd (help_is_not_memory (sym answers ∙ memory))
    go (Ok (Help text)) answers (inr among) = subst (λ k. IsAmong k (fault_of program words)) answers among
    go (Ok (Version text)) answers (inl memory) = absurd (version_is_not_memory (sym answers ∙ memory))
    go (Ok (Version text)) answers (inr among) = subst (λ k. IsAmong k (fault_of program words)) answers among
    go (Ok (Refused text)) answers (inl memory) = absurd (answers.2 memory)
    go (Ok (Refused text)) answers (inr among) = (kind_of e, answers.0, answers.1, among)
    go (Err fault) answers kind = tt
