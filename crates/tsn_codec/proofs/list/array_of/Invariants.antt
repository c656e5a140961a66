use Rattle.std.proofs.Common.{◌≡◌, take, map, Some}
use Rattle.serde_json.specs.View.{view}
use Rattle.tsn_cert.specs.Json.{each}
use Rattle.tsn_codec.proofs.list.array_of.Given as goal

abbrev pub invariant-loop-one : goal.invariant-loop-one
invariant-loop-one g l = record {
  printed : map view l.items.items ≡ map g.T.Element.written (map g.T.Element.seen (take l.one-index l.list));
  read : each g.T.Element.form.said (map g.T.Element.written (map g.T.Element.seen (take l.one-index l.list)))
      ≡ Some (map g.T.Element.seen (take l.one-index l.list));
}
