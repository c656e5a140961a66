use Rattle.std.proofs.Common.{[], ◌∙◌, ap, sym, slice_index_or}
use Rattle.std.proofs.lemmas.List.Sums.{fold_more}
use Rattle.clap.specs.Words.{App, app_of}
use Rattle.tsn_words.specs.declared.table.Form.{Form}
use Rattle.tsn_words.specs.Table.{with_form}
use Rattle.tsn_words.proofs.command.with_forms.Goals as goal

-- what an element past the end is read as
abbrev past : Form
past = record { name = record { ref_ptr = (0, 0); now = [] }; about = record { ref_ptr = (0, 0); now = [] }; arguments = record { ref_ptr = (0, 0); now = [] } }

pub loop-form-preserved : goal.loop-form-preserved
loop-form-preserved c =
    c.in_ok-command.ensures
    ∙ ap (λ (above : App). with_form above (slice_index_or c.args.forms.now c.loop-form.form-index past)) c.loop-form.invariant
    ∙ sym (fold_more with_form (app_of c.args.command) c.args.forms.now c.loop-form.form-index past c.loop-form-test.true)
