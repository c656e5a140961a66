use Rattle.std.proofs.Common.{◌≡◌, false, map, take}
use Rattle.std.specs.List.{fold}
use Rattle.clap.specs.Words.{app_of, with_rule}
use Rattle.clap.specs.declared.builder.command.Command.TheViews.{out-Command as fields_of}
use Rattle.tsn_words.specs.Table.{rule_by}
use Rattle.tsn_words.proofs.command.with_arguments.Given as goal

abbrev pub invariant-loop-row : goal.invariant-loop-row
invariant-loop-row l = record {
  app : app_of l.command ≡ fold with_rule (app_of l.fn.command) (map rule_by (take l.row-index l.rows));
  local : (fields_of l.command).has_globals ≡ false;
}
