use Rattle.std.proofs.Common.{◌≤◌, ◌<◌, take, All}
use Rattle.tsn_conflict.specs.Raised.{triple_at}
use Rattle.tsn_conflict.specs.Pairs.{Meets, IsApartBefore}
use Rattle.tsn_conflict.proofs.sharing.Conflicts.raised_meeting.Given as goal

abbrev pub invariant-loop-stream : goal.invariant-loop-stream
invariant-loop-stream l = record {
  at_most : l.least ≤ l.end;
  meets : l.least < l.end → Meets l.self.uses l.offsets (triple_at l.self.triples l.least);
  apart : All (IsApartBefore l.self l.offsets l.least) (take l.stream-index l.raised);
}
