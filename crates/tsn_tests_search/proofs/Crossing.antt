-- The shared word may cross threads.
use denote.Param.Send.{IsSync, sendable}
use Rattle.std.proofs.Crossing.{crosses}
use Rattle.atomic_table.proofs.shared.Shared.TheSendSync.{the_sync as table_sync}
use Rattle.atomic_table.proofs.send_lease.SendLease.TheSendSync.{the_sync as lease_sync}
use Rattle.tsn_incumbent.specs.contracts.incumbent.Incumbent.{the_row}

pub incumbent_sync : IsSync the_row
incumbent_sync = search (sendable, crosses, table_sync, lease_sync) depth 40 fits 10000
