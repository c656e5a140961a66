-- How late a frame is.
use Rattle.std.proofs.Common.{ℕ, ◌<◌, ◌≤◌, arith}
use Rattle.tsn_model.specs.Network.{Network, IsWellFormed, stream_count}
use Rattle.tsn_model.specs.Timing.{Sends}
use Rattle.tsn_model.proofs.Limits.{shift-le}
use Rattle.tsn_model.proofs.Shifts.{parts_of}

pub shift_short : (network : Network) (i shift : ℕ) → IsWellFormed network → Sends network i shift → i < stream_count network → shift ≤ 1018504000
shift_short network i shift formed sent counted =
    let parts = parts_of network i shift sent in
    let short = shift-le network formed i parts.turn parts.place counted parts.in_cycle parts.in_burst in
    omega arith
