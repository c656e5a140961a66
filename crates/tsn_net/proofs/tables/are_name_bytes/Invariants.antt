use Rattle.std.proofs.Common.{◌≡◌, drop}
use Rattle.std.specs.List.{list_all}
use Rattle.tsn_net.specs.Conditions.{is_name_byte}
use Rattle.tsn_net.proofs.tables.are_name_bytes.Given as goal

-- whether all of the rest are bytes of names is whether all are
abbrev pub invariant-loop-byte : goal.invariant-loop-byte
invariant-loop-byte l = list_all is_name_byte (drop l.byte-index l.bytes) ≡ list_all is_name_byte l.bytes
