use Rattle.std.proofs.Common.{◌≡◌, take}
use Rattle.std.specs.List.{fold}
use Rattle.clap.specs.Words.{app_of}
use Rattle.tsn_words.specs.Table.{with_form}
use Rattle.tsn_words.proofs.command.with_forms.Given as goal

abbrev pub invariant-loop-form : goal.invariant-loop-form
invariant-loop-form l = app_of l.command ≡ fold with_form (app_of l.fn.command) (take l.form-index l.forms)
