-- A command with one more argument.
use Rattle.std.proofs.Common.{◌≡◌, false, ◌||◌, ◌∙◌, ap₂}
use Rattle.clap.specs.Words.{AddsArg, App, Rule, app_of, rule_of, with_rule}
use Rattle.clap.specs.declared.builder.arg.Arg.{Arg}
use Rattle.clap.specs.declared.builder.command.Command.{Command}
use Rattle.clap.specs.declared.builder.command.Command.TheViews.{out-Command as fields_of}

-- a command that reads words so, and hands no argument on to commands below it
pub record Reads (command : Command) (a : App) : Type 0 where
  pub app : app_of command ≡ a
  pub local : (fields_of command).has_globals ≡ false

-- a command with one more argument
pub argument_added : (old : Command) (argument : Arg) (new : Command) (a : App) (rule : Rule) → Reads old a → rule_of argument ≡ rule → argument.global ≡ false → AddsArg old argument new → Reads new (with_rule a rule)
argument_added old argument new a rule reads is_rule local adds = record {
  app = adds.shape local ∙ ap₂ with_rule reads.app is_rule;
  local = adds.globals ∙ ap₂ ◌||◌ reads.local local;
}
