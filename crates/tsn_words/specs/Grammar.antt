-- What the words of the command line ask for, by the grammar that `clap` reads them with.
--     tsn, valid, plan, check, prove, explain, gates, replay, chart, streams    the commands
--     IsNumber, number_of, offsets_in      numbers
--     gates_format, replay_format, streams_format, plan_search, has_format      formats and searches
--     AsksFor, takes_words, IsRefused      what the words ask for, and whether they are refused
--     IsGiven, HasWords, HasArguments, HasCommand, IsWhole      what a parse without a fault finds
use Rattle.std.specs.Prelude.{◌≡◌, ◌≤◌, ◌&&◌, if◌then◌else◌, ℕ, List, [], ◌∷◌, map, length, codes, Option, Some, None, IfSome, MatchOption, is_some, option_map, Bool, true, false, All}
use Rattle.std.specs.Str.Parse.{IsNumeral, digits_value, without_leading_plus}
use Rattle.std.specs.Str.{bytes_eq}
use Rattle.std.specs.List.{find}
use Rattle.clap.specs.Facts.{parser_of_value}
use Rattle.clap.specs.Simple.{built}
use Rattle.clap.specs.Values.{Accepts}
use Rattle.clap.specs.Walk.{action_of}
use Rattle.clap.specs.Words.{App, Row, Rule, Text, all_of, first_of, one_of, new_app, new_rule, subcommand_of, takes, with_rule, with_subcommand}
use Rattle.clap.specs.declared.builder.ArgAction.{ArgAction}
use Rattle.clap.specs.declared.builder.ArgAction.TheVariants.{Set, Append, SetTrue}
use Rattle.clap.specs.declared.builder.value_parser.ValueParser.TheVariants.{Unsigned}
use Rattle.tsn_words.specs.declared.words.TheConstants.{MAX_WORKERS}
use Rattle.tsn_words.specs.declared.words.Words.{Words}
use Rattle.tsn_words.specs.declared.words.Words.TheVariants.{Valid, Plan, Check, Prove, Explain, Gates, Replay, Chart, Streams}
use Rattle.tsn_words.specs.declared.words.ValidWords.{ValidWords}
use Rattle.tsn_words.specs.declared.words.PlanWords.{PlanWords}
use Rattle.tsn_words.specs.declared.words.CheckWords.{CheckWords}
use Rattle.tsn_words.specs.declared.words.ProveWords.{ProveWords}
use Rattle.tsn_words.specs.declared.words.ExplainWords.{ExplainWords}
use Rattle.tsn_words.specs.declared.words.GatesWords.{GatesWords}
use Rattle.tsn_words.specs.declared.words.ReplayWords.{ReplayWords}
use Rattle.tsn_words.specs.declared.words.ChartWords.{ChartWords}
use Rattle.tsn_words.specs.declared.words.StreamsWords.{StreamsWords}
use Rattle.tsn_words.specs.declared.options.GatesFormat.{GatesFormat}
use Rattle.tsn_words.specs.declared.options.GatesFormat.TheVariants as lists
use Rattle.tsn_words.specs.declared.options.ReplayFormat.{ReplayFormat}
use Rattle.tsn_words.specs.declared.options.ReplayFormat.TheVariants as replays
use Rattle.tsn_words.specs.declared.options.StreamsFormat.{StreamsFormat}
use Rattle.tsn_words.specs.declared.options.StreamsFormat.TheVariants as shares
use Rattle.tsn_words.specs.declared.options.Method.{Method}
use Rattle.tsn_words.specs.declared.options.Method.TheVariants as method
use Rattle.tsn_words.specs.declared.words.WordsFault.{WordsFault}
use Rattle.tsn_words.specs.declared.words.WordsFault.TheVariants.{Refused, Asked}

-- a file: one word
abbrev pub file : Text → Rule
file id = record (new_rule id) { required = true; action = Some Set }

-- the offsets: one word or more, each a number up to the greatest offset
abbrev pub offsets : Rule
offsets = record (new_rule (codes "OFFSET")) {
  required = true;
  action = Some Append;
  range = Some (record { start_inclusive = 1; end_inclusive = 18446744073709551615 });
  parser = Some (Unsigned 0 2000000000);
}

-- an option with a number from 1 on
abbrev pub number_option : Text → ℕ → Rule
number_option id most = record (new_rule id) { long = Some id; value_names = 1; action = Some Set; parser = Some (Unsigned 1 most) }

-- an option with a time in nanoseconds
abbrev pub time_option : Text → Rule
time_option id = record (new_rule id) { long = Some id; value_names = 1; action = Some Set; parser = Some (Unsigned 0 1000000000) }

-- an option with a word: a file, a format or a search
abbrev pub word_option : Text → Rule
word_option id = record (new_rule id) { long = Some id; value_names = 1; action = Some Set }

-- a flag, which takes no word
abbrev pub flag : Text → Rule
flag id = record (new_rule id) { long = Some id; action = Some SetTrue }

-- valid NET OFFSET.. [--json]
abbrev pub valid : App
valid = with_rule (with_rule (with_rule (new_app (codes "valid")) (file (codes "NET"))) offsets) (flag (codes "json"))

-- plan NET [--workers W] [--steps N] [--plan FILE] [--cert FILE] [--progress] [--search SEARCH] [--json]
abbrev pub plan : App
plan =
    with_rule (with_rule (with_rule (with_rule (with_rule (with_rule (with_rule (with_rule (new_app (codes "plan")) (file (codes "NET"))) (number_option (codes "workers") MAX_WORKERS))
    (number_option (codes "steps") 1000000000))
    (word_option (codes "plan")))
    (word_option (codes "cert")))
    (flag (codes "progress")))
    (word_option (codes "search")))
    (flag (codes "json"))

-- check NET PLAN CERT [--json]
abbrev pub check : App
check = with_rule (with_rule (with_rule (with_rule (new_app (codes "check")) (file (codes "NET"))) (file (codes "PLAN"))) (file (codes "CERT"))) (flag (codes "json"))

-- prove NET PLAN [--steps N] [--plan FILE] [--cert FILE] [--progress] [--json]
abbrev pub prove : App
prove =
    with_rule (with_rule (with_rule (with_rule (with_rule (with_rule (with_rule (new_app (codes "prove")) (file (codes "NET"))) (file (codes "PLAN"))) (number_option (codes "steps") 1000000000))
    (word_option (codes "plan")))
    (word_option (codes "cert")))
    (flag (codes "progress")))
    (flag (codes "json"))

-- explain NET PLAN CERT
abbrev pub explain : App
explain = with_rule (with_rule (with_rule (new_app (codes "explain")) (file (codes "NET"))) (file (codes "PLAN"))) (file (codes "CERT"))

-- gates NET PLAN [--format FORMAT] [--merge NS] [--most N] [--least NS]
abbrev pub gates : App
gates =
    with_rule (with_rule (with_rule (with_rule (with_rule (with_rule (new_app (codes "gates")) (file (codes "NET"))) (file (codes "PLAN"))) (word_option (codes "format"))) (time_option (codes "merge")))
    (number_option (codes "most") 1000000))
    (time_option (codes "least"))

-- an option with by how much frames are early
abbrev pub early_option : Rule
early_option = record (new_rule (codes "early")) { long = Some (codes "early"); value_names = 1; action = Some Set; parser = Some (Unsigned 0 1000000) }

-- replay NET PLAN [--cycles N] [--greedy] [--format FORMAT] [--merge NS] [--early NS]
abbrev pub replay : App
replay =
    with_rule (with_rule (with_rule (with_rule (with_rule (with_rule (with_rule (new_app (codes "replay")) (file (codes "NET"))) (file (codes "PLAN"))) (number_option (codes "cycles") 16)) (flag (codes "greedy")))
    (word_option (codes "format"))) (time_option (codes "merge"))) early_option

-- an option with a link's number
abbrev pub link_option : Rule
link_option = record (new_rule (codes "link")) { long = Some (codes "link"); value_names = 1; action = Some Set; parser = Some (Unsigned 0 4095) }

-- chart NET PLAN [--until NS] [--all] [--link N] [--cert FILE]
abbrev pub chart : App
chart =
    with_rule (with_rule (with_rule (with_rule (with_rule (with_rule (new_app (codes "chart")) (file (codes "NET"))) (file (codes "PLAN"))) (number_option (codes "until") 1000000000)) (flag (codes "all")))
    link_option) (word_option (codes "cert"))

-- streams NET PLAN [--format FORMAT]
abbrev pub streams : App
streams = with_rule (with_rule (with_rule (new_app (codes "streams")) (file (codes "NET"))) (file (codes "PLAN"))) (word_option (codes "format"))

-- the program: a command is required, unless the version is asked for
abbrev pub alone : App
alone = record { top = record (new_app (codes "tsn")).top { has_version = true; subcommand_required = true }; subs = (new_app (codes "tsn")).subs }

abbrev pub tsn : App
tsn =
    with_subcommand (with_subcommand (with_subcommand (with_subcommand (with_subcommand (with_subcommand (with_subcommand (with_subcommand (with_subcommand alone valid.top) plan.top) check.top) prove.top)
    explain.top) gates.top) replay.top) chart.top) streams.top

-- a word that is a number: digits, where a plus may stand first
abbrev pub IsNumber : Text → Type 0
IsNumber word = IsNumeral 10 (without_leading_plus word)

abbrev pub number_of : Text → ℕ
number_of word = digits_value 10 (without_leading_plus word)

-- the numbers that the words of an argument are
abbrev pub AreNumbers : Option (List Text) → List ℕ → Type 0
AreNumbers argument numbers = (words : List Text) × (argument ≡ Some words) × All IsNumber words × (numbers ≡ map number_of words)

-- whether a flag is set, by the text that stands for it
abbrev pub IsFlag : Option Text → Bool → Type 0
IsFlag word is_set = (word ≡ Some (codes "true") → is_set ≡ true) × (word ≡ Some (codes "false") → is_set ≡ false) × (word ≡ None → is_set ≡ false)

-- the file, the numbers and the flag of `valid`
abbrev pub IsValidOf : List Row → ValidWords → Type 0
IsValidOf rows asked = (first_of (codes "NET") rows ≡ Some asked.network.now) × AreNumbers (all_of (codes "OFFSET") rows) asked.offsets.items
    × IsFlag (one_of (codes "json") rows) asked.json

-- the number that the word of an option is, or the default where there is none
abbrev pub IsNumberOr : Option Text → ℕ → ℕ → Type 0
IsNumberOr (Some word) default number = IsNumber word × (number ≡ number_of word)
IsNumberOr None default number = number ≡ default

-- the number that the word of an option is, if there is one
abbrev pub IsNumberIf : Option Text → Option ℕ → Type 0
IsNumberIf (Some word) number = IsNumber word × (number ≡ Some (number_of word))
IsNumberIf None number = number ≡ None

-- the format of `gates` that a word names; a table where there is none
abbrev pub gates_format : Option Text → Option GatesFormat
gates_format None = Some lists.Table
gates_format (Some word) =
    if bytes_eq word (codes "table") then Some lists.Table
    else if bytes_eq word (codes "taprio") then Some lists.Taprio else if bytes_eq word (codes "json") then Some lists.Json else None

-- the same of `replay`
abbrev pub replay_format : Option Text → Option ReplayFormat
replay_format None = Some replays.Table
replay_format (Some word) = if bytes_eq word (codes "table") then Some replays.Table else if bytes_eq word (codes "csv") then Some replays.Csv else None

-- the same of `streams`
abbrev pub streams_format : Option Text → Option StreamsFormat
streams_format None = Some shares.Table
streams_format (Some word) =
    if bytes_eq word (codes "table") then Some shares.Table
    else if bytes_eq word (codes "json") then Some shares.Json else if bytes_eq word (codes "csv") then Some shares.Csv else None

-- the search of `plan` that a word names; `auto` where there is none
abbrev pub plan_search : Option Text → Option Method
plan_search None = Some method.Auto
plan_search (Some word) =
    if bytes_eq word (codes "auto") then Some method.Auto
    else if bytes_eq word (codes "file") then Some method.FileOrder else if bytes_eq word (codes "learn") then Some method.Learn else None

-- the file, the numbers, the files to write, the flags and the search of `plan`
abbrev pub IsPlanOf : List Row → PlanWords → Type 0
IsPlanOf rows asked =
    (first_of (codes "NET") rows ≡ Some asked.network.now) × IsNumberOr (first_of (codes "workers") rows) 1 asked.workers × IsNumberOr (first_of (codes "steps") rows) 1000000 asked.steps
    × (first_of (codes "plan") rows ≡ option_map (λ word. word.now) asked.plan) × (first_of (codes "cert") rows ≡ option_map (λ word. word.now) asked.cert)
    × IsFlag (one_of (codes "progress") rows) asked.progress × (plan_search (first_of (codes "search") rows) ≡ Some asked.search)
    × IsFlag (one_of (codes "json") rows) asked.json

-- the files and the flag of `check`
abbrev pub IsCheckOf : List Row → CheckWords → Type 0
IsCheckOf rows asked =
    (first_of (codes "NET") rows ≡ Some asked.network.now) × (first_of (codes "PLAN") rows ≡ Some asked.plan.now) × (first_of (codes "CERT") rows ≡ Some asked.cert.now)
    × IsFlag (one_of (codes "json") rows) asked.json

-- the files, the number, the files to write and the flags of `prove`
abbrev pub IsProveOf : List Row → ProveWords → Type 0
IsProveOf rows asked =
    (first_of (codes "NET") rows ≡ Some asked.network.now) × (first_of (codes "PLAN") rows ≡ Some asked.given.now) × IsNumberOr (first_of (codes "steps") rows) 1000000 asked.steps
    × (first_of (codes "plan") rows ≡ option_map (λ word. word.now) asked.plan) × (first_of (codes "cert") rows ≡ option_map (λ word. word.now) asked.cert)
    × IsFlag (one_of (codes "progress") rows) asked.progress
    × IsFlag (one_of (codes "json") rows) asked.json

-- the files of `explain`
abbrev pub IsExplainOf : List Row → ExplainWords → Type 0
IsExplainOf rows asked =
    (first_of (codes "NET") rows ≡ Some asked.network.now) × (first_of (codes "PLAN") rows ≡ Some asked.plan.now) × (first_of (codes "CERT") rows ≡ Some asked.cert.now)

-- the files, the format, the times and the number of `gates`
abbrev pub IsGatesOf : List Row → GatesWords → Type 0
IsGatesOf rows asked =
    (first_of (codes "NET") rows ≡ Some asked.network.now) × (first_of (codes "PLAN") rows ≡ Some asked.plan.now) × (gates_format (first_of (codes "format") rows) ≡ Some asked.format)
    × IsNumberIf (first_of (codes "merge") rows) asked.merge × IsNumberOr (first_of (codes "most") rows) 30 asked.most × IsNumberIf (first_of (codes "least") rows) asked.least

-- the files, the number, the flag, the format and the times of `replay`
abbrev pub IsReplayOf : List Row → ReplayWords → Type 0
IsReplayOf rows asked =
    (first_of (codes "NET") rows ≡ Some asked.network.now) × (first_of (codes "PLAN") rows ≡ Some asked.plan.now)
    × IsNumberOr (first_of (codes "cycles") rows) 1 asked.cycles × IsFlag (one_of (codes "greedy") rows) asked.greedy
    × (replay_format (first_of (codes "format") rows) ≡ Some asked.format) × IsNumberIf (first_of (codes "merge") rows) asked.merge × IsNumberIf (first_of (codes "early") rows) asked.early

-- the files, the numbers, the flag and the certificate of `chart`
abbrev pub IsChartOf : List Row → ChartWords → Type 0
IsChartOf rows asked =
    (first_of (codes "NET") rows ≡ Some asked.network.now) × (first_of (codes "PLAN") rows ≡ Some asked.plan.now)
    × IsNumberOr (first_of (codes "until") rows) 1000000000 asked.until × IsFlag (one_of (codes "all") rows) asked.all
    × IsNumberIf (first_of (codes "link") rows) asked.link
    × (first_of (codes "cert") rows ≡ option_map (λ word. word.now) asked.cert)

-- the files and the format of `streams`
abbrev pub IsStreamsOf : List Row → StreamsWords → Type 0
IsStreamsOf rows asked =
    (first_of (codes "NET") rows ≡ Some asked.network.now) × (first_of (codes "PLAN") rows ≡ Some asked.plan.now) × (streams_format (first_of (codes "format") rows) ≡ Some asked.format)

-- what is asked for by a command's name and the values of its arguments
abbrev pub IsAsked : Option (Text × List Row) → Words → Type 0
IsAsked found (Valid asked) = (rows : List Row) × (found ≡ Some (codes "valid", rows)) × IsValidOf rows asked
IsAsked found (Plan asked) = (rows : List Row) × (found ≡ Some (codes "plan", rows)) × IsPlanOf rows asked
IsAsked found (Check asked) = (rows : List Row) × (found ≡ Some (codes "check", rows)) × IsCheckOf rows asked
IsAsked found (Prove asked) = (rows : List Row) × (found ≡ Some (codes "prove", rows)) × IsProveOf rows asked
IsAsked found (Explain asked) = (rows : List Row) × (found ≡ Some (codes "explain", rows)) × IsExplainOf rows asked
IsAsked found (Gates asked) = (rows : List Row) × (found ≡ Some (codes "gates", rows)) × IsGatesOf rows asked
IsAsked found (Replay asked) = (rows : List Row) × (found ≡ Some (codes "replay", rows)) × IsReplayOf rows asked
IsAsked found (Chart asked) = (rows : List Row) × (found ≡ Some (codes "chart", rows)) × IsChartOf rows asked
IsAsked found (Streams asked) = (rows : List Row) × (found ≡ Some (codes "streams", rows)) × IsStreamsOf rows asked

-- the words ask for this
abbrev pub AsksFor : List Text → Words → Type 0
AsksFor words asked = IsAsked (subcommand_of tsn words) asked

-- the format or the search that is named, if any, is one of the command's
abbrev pub has_format : Option (Text × List Row) → Bool
has_format None = true
has_format (Some command) =
    if bytes_eq command.0 (codes "plan") then is_some (plan_search (first_of (codes "search") command.1))
    else if bytes_eq command.0 (codes "gates") then is_some (gates_format (first_of (codes "format") command.1))
    else if bytes_eq command.0 (codes "replay") then is_some (replay_format (first_of (codes "format") command.1))
    else if bytes_eq command.0 (codes "streams") then is_some (streams_format (first_of (codes "format") command.1)) else true

-- the words keep to the grammar, and name no other format or search
abbrev pub takes_words : List Text → Bool
takes_words words = takes tsn words && has_format (subcommand_of tsn words)

-- the argument has a value
abbrev pub IsGiven : Text → List Row → Type 0
IsGiven id rows = is_some (first_of id rows) ≡ true

-- each of a list, by its cases
abbrev pub Each : {X : Type 0} → (X → Type 0) → List X → Type 0
Each P [] = Unit {0}
Each P (x ∷ xs) = P x × Each P xs

-- each use of an argument gives a word
abbrev pub takes_word : ArgAction → Bool
takes_word Set = true
takes_word Append = true
takes_word _ = false

-- the argument's parser takes the word
abbrev pub IsTaken : Rule → Text → Type 0
IsTaken rule word = Accepts rule.ignore_case (parser_of_value rule.parser) word

-- what is there of an argument, by whether it takes a word and whether it is required: words where it is, and none that its parser refuses
abbrev pub HasWords : Bool → Bool → Rule → List Row → Type 0
HasWords false required rule rows = Unit {0}
HasWords true false rule rows = IfSome (first_of rule.id rows) (IsTaken rule)
HasWords true true rule rows = IsGiven rule.id rows × MatchOption (all_of rule.id rows) ⊥ (λ words. (1 ≤ length words) × All (IsTaken rule) words)

-- the same of each of a command's arguments
abbrev pub HasArguments : List Rule → List Row → Type 0
HasArguments rules rows = Each (λ rule. HasWords (takes_word (action_of rule)) rule.required rule rows) rules

-- a command of the program, other than help, and what its arguments have
abbrev pub HasCommand : Text → List Row → Type 0
HasCommand name rows =
    (bytes_eq name (codes "help") ≡ false) × MatchOption (find (λ command. bytes_eq name command.name) (built tsn).subs) ⊥ (λ command. HasArguments command.rules rows)

-- what a parse without a fault finds
abbrev pub IsWhole : Option (Text × List Row) → Type 0
IsWhole found = MatchOption found ⊥ (λ command. HasCommand command.0 command.1)

-- the words ask for no command: they are refused as words, or ask for the version
abbrev pub IsRefused : WordsFault → Type 0
IsRefused (Refused text) = Unit {0}
IsRefused (Asked text) = Unit {0}
IsRefused _ = ⊥
