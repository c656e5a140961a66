use Rattle.std.proofs.Common.{◌≡◌, take, map, ◌++◌}
use Rattle.serde_json.specs.View.{view}
use Rattle.tsn_cert.specs.Json.{number_value}
use Rattle.tsn_codec.proofs.document.with_numbers.Given as goal

abbrev pub invariant-loop-number : goal.invariant-loop-number
invariant-loop-number l = map view l.items.items ≡ map view l.initial.items.items ++ map number_value (take l.number-index l.numbers)
