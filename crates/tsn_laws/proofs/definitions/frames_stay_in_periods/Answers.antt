use Rattle.std.proofs.Common.{◌+◌, ◌*◌}
use Rattle.tsn_model.specs.Network.{period_of}
use Rattle.tsn_model.specs.Timing.{pace}
use Rattle.tsn_model.proofs.Shifts.{sent_from}
use Rattle.tsn_model.proofs.Routes.{keeps_too, frame_in_period}
use Rattle.tsn_laws.proofs.definitions.frames_stay_in_periods.Goals as goal

pub returns : goal.returns
returns c =
    λ network offsets valid i link turn place uses in_cycle in_burst. (
      sent_from network i turn place in_cycle in_burst,
      λ t occupies. frame_in_period network offsets i turn place link valid uses in_burst t
          (keeps_too network offsets i (turn * period_of network i + place * pace network i) link t occupies),
    )
