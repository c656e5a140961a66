use Rattle.std.proofs.Common.{◌∷◌, [], List, ap, map, sym, slice_index_or, take, ◌∙◌}
use Rattle.std.proofs.lemmas.List.Sums.{fold-append}
use Rattle.std.specs.List.{fold}
use Rattle.clap.specs.Words.{Rule, app_of, with_rule}
use Rattle.tsn_words.specs.declared.table.Argument.{Argument}
use Rattle.tsn_words.specs.declared.table.Takes.TheVariants.{File}
use Rattle.tsn_words.specs.Table.{rule_by}
use Rattle.tsn_words.proofs.Commands.{argument_added}
use Rattle.tsn_words.proofs.Fronts.{more_mapped}
use Rattle.tsn_words.proofs.command.with_arguments.Goals as goal

-- what an element past the end is read as
abbrev past : Argument
past = record { name = record { ref_ptr = (0, 0); now = [] }; takes = File; help = record { ref_ptr = (0, 0); now = [] } }

pub loop-row-preserved : goal.loop-row-preserved
loop-row-preserved c =
    let before : List Rule = map rule_by (take c.loop-row.row-index c.args.rows.now) in
    let row : Argument = slice_index_or c.args.rows.now c.loop-row.row-index past in
    let added = argument_added _ c.argument_by.result _ _ _
    (record { app = c.loop-row.invariant.app; local = c.loop-row.invariant.local }) c.argument_by.ensures.rule c.argument_by.ensures.local c.in_ok-command.ensures in
    record {
      app =
          added.app ∙ sym (fold-append with_rule (app_of c.args.command) before (rule_by row ∷ []))
          ∙ ap (fold with_rule (app_of c.args.command)) (sym (more_mapped rule_by c.args.rows.now c.loop-row.row-index past c.loop-row-test.true));
      local = added.local;
    }
