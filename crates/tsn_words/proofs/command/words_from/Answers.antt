use Rattle.std.proofs.Common.{◌≡◌, ◌∙◌, List, true, [], ap, map, sym, subst}
use Rattle.clap.specs.declared.parser.matches.ArgMatches.{ArgMatches}
use Rattle.clap.specs.Words.{App, HasMatchesOf, Text, is_simple, subcommand_of, subcommand_rows_of, takes}
use Rattle.clap.specs.Faults.{fault_of, is_simple_and_free}
use Rattle.tsn_words.specs.Grammar as grammar
use Rattle.tsn_words.specs.Grammar.{IsWhole}
use Rattle.tsn_words.specs.Table.{IsReadOf}
use Rattle.tsn_words.proofs.Given.{both_of}
use Rattle.tsn_words.proofs.Levels.{whole}
use Rattle.tsn_words.proofs.Reading.{Reads, only_memory, reads_of}
use Rattle.tsn_words.proofs.Taken.{taken}
use Rattle.tsn_words.proofs.command.words_from.Goals as goal

faultless : (app : App) (words : List Text) → app ≡ grammar.tsn → (is_simple_and_free app ≡ true → fault_of app words ≡ []) → fault_of grammar.tsn words ≡ []
faultless app words is kinds = ap (λ a. fault_of a words) (sym is) ∙ kinds (ap is_simple_and_free is)

found : (app : App) (words : List Text) (m : ArgMatches) → app ≡ grammar.tsn → HasMatchesOf app words m → subcommand_rows_of m ≡ subcommand_of grammar.tsn words
found app words m is has = (has (ap is_simple is)).1 ∙ ap (λ a. subcommand_of a words) is

pub command_of-requires : goal.command_of-requires
command_of-requires c =
    let words : List Text = map (λ word. word.now) c.args.words.now in
    let none = faultless _ words c.in_ok-program.ensures c.in-Ok.ensures.kinds in
    subst IsWhole (sym (found _ words c.in-Ok.matches c.in_ok-program.ensures c.in-Ok.ensures.matches)) (whole words none)

reads : (c : goal.Joined-matches) → Reads (map (λ word. word.now) c.args.words.now) c.command_of.result
reads c =
    let words : List Text = map (λ word. word.now) c.args.words.now in
    reads_of words c.command_of.result (taken words (faultless _ words c.in_ok-program.ensures c.in-Ok.ensures.kinds))
    (subst (λ o. IsReadOf o c.command_of.result) (found _ words c.in-Ok.matches c.in_ok-program.ensures c.in-Ok.ensures.matches) c.command_of.ensures)

pub returns-in-Ok-clause-asked : goal.returns-in-Ok-clause-asked
returns-in-Ok-clause-asked c = (reads c).asked

pub returns-in-Ok-clause-taken : goal.returns-in-Ok-clause-taken
returns-in-Ok-clause-taken c = (reads c).known

pub returns-in-Ok-clause-refused : goal.returns-in-Ok-clause-refused
returns-in-Ok-clause-refused c = (reads c).refused

pub returns-in-Ok-clause-memory : goal.returns-in-Ok-clause-memory
returns-in-Ok-clause-memory c = (reads c).memory

pub returns-in-Err-clause-refused : goal.returns-in-Err-clause-refused
returns-in-Err-clause-refused c refused takes_all =
    let words : List Text = map (λ word. word.now) c.args.words.now in
    let same = ap (λ (a : App). takes a words) c.in_ok-program.ensures in
    c.fault_of.ensures refused (c.in-Err.ensures.passes (same ∙ (both_of (takes grammar.tsn words) _ takes_all).0))

pub returns-in-Err-clause-memory : goal.returns-in-Err-clause-memory
returns-in-Err-clause-memory c takes_all = only_memory c.fault_of.result (λ refused. returns-in-Err-clause-refused c refused takes_all)
