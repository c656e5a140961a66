use denote.Param.Send.{sendable}
use Rattle.tsn_tests_search.proofs.Crossing.{incumbent_sync}
use Rattle.tsn_tests_search.proofs.word.run.Goals as goal

pub for_each_mut-requires-sync-F : goal.for_each_mut-requires-sync-F
for_each_mut-requires-sync-F g c κs within = search (sendable, incumbent_sync) depth 20
