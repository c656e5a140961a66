use Rattle.std.proofs.Common.{ap, ◌∙◌}
use Rattle.serde_json.specs.Data.{object}
use Rattle.serde_json.specs.Written.{has_float}
use Rattle.serde_json.proofs.Views.{view-Object}
use Rattle.tsn_chart.specs.Json.{with_frames, with_listeners}
use Rattle.tsn_chart.proofs.Listening.{no_float}
use Rattle.tsn_chart.proofs.json.stream_value.Goals as goal

pub returns-clause-plain : goal.returns-clause-plain
returns-clause-plain c =
    let problem = c.args.problem.now in
    let share = c.args.share.now in
    let framed = c.in_ok-put_frames.ensures ∙ ap (with_frames problem.network share) c.in_ok-members.ensures in
    let whole = c.in_ok-put_listeners.ensures ∙ ap (with_listeners problem share) framed in
    ap has_float (view-Object c.put_listeners.new.members ∙ ap object whole) ∙ no_float problem share
