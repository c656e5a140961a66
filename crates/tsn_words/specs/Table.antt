-- What `clap` is told of the table of commands, and what the reading of a command's words comes to.
--     rule_by, app_by, with_form     an argument, and a command, as `clap` has them
--     IsReadOf, IsMet, IsAskedBy, IsReadFrom      what was met of a command, and what its arguments' values are read as
use Rattle.std.specs.Prelude.{Option, ◌≡◌, List, map, Some, Result, Ok, Err, true, false}
use Rattle.std.specs.List.{fold}
use Rattle.clap.specs.Words.{App, Row, Rule, Text, found_of, new_app, new_rule, rows_of, with_rule, with_subcommand}
use Rattle.clap.specs.declared.parser.matches.ArgMatches.{ArgMatches}
use Rattle.clap.specs.declared.builder.ArgAction.TheVariants.{Set, Append}
use Rattle.clap.specs.declared.builder.value_parser.ValueParser.TheVariants.{Unsigned}
use Rattle.tsn_words.specs.declared.table.Takes.{Takes}
use Rattle.tsn_words.specs.declared.table.Takes.TheVariants as takes
use Rattle.tsn_words.specs.declared.table.Argument.{Argument}
use Rattle.tsn_words.specs.declared.table.Form.{Form}
use Rattle.tsn_words.specs.declared.words.Words.{Words}
use Rattle.tsn_words.specs.declared.words.WordsFault.{WordsFault}
use Rattle.tsn_words.specs.Grammar.{HasCommand, IsAsked, IsRefused, file, flag, has_format, word_option}

-- the rule of an argument of that name
abbrev pub rule_for : Text → Takes → Rule
rule_for id takes.File = file id
rule_for id (takes.Numbers most) = record (new_rule id) {
  required = true;
  action = Some Append;
  range = Some (record { start_inclusive = 1; end_inclusive = 18446744073709551615 });
  parser = Some (Unsigned 0 most);
}
rule_for id (takes.Number least most range) = record (new_rule id) { long = Some id; value_names = 1; action = Some Set; parser = Some (Unsigned least most) }
rule_for id (takes.Word word) = word_option id
rule_for id takes.Nothing = flag id

abbrev pub rule_by : Argument → Rule
rule_by argument = rule_for argument.name.now argument.takes

-- the command of a form
abbrev pub app_by : Form → App
app_by form = fold with_rule (new_app form.name.now) (map rule_by form.arguments.now)

-- a command with that of a form below it
unfoldable pub with_form : App → Form → App
with_form above form = with_subcommand above (app_by form).top

-- the words that a command that was met and its values ask for; they are refused only where they name no format or search of the command's
abbrev pub IsReadOf : Option (Text × List Row) → Result Words WordsFault → Type 0
IsReadOf found (Ok words) = IsAsked found words × (has_format found ≡ true)
IsReadOf found (Err fault) = IsRefused fault → has_format found ≡ false

-- what was met of the command of this name has what the grammar requires
abbrev pub IsMet : Text → ArgMatches → Type 0
IsMet name words = HasCommand name (rows_of (found_of words))

-- and what is made of it: the words that it asks for; and the same where they may be refused
abbrev pub IsAskedBy : Text → ArgMatches → Words → Type 0
IsAskedBy name words asked = IsAsked (Some (name, rows_of (found_of words))) asked

abbrev pub IsReadFrom : Text → ArgMatches → Result Words WordsFault → Type 0
IsReadFrom name words result = IsReadOf (Some (name, rows_of (found_of words))) result
