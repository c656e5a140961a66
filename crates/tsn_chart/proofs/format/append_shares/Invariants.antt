use Rattle.std.proofs.Common.{◌≡◌, ◌++◌, take, string_bytes}
use Rattle.std.specs.List.{flat_map}
use Rattle.tsn_chart.proofs.format.append_shares.Given as goal

abbrev pub invariant-loop-share : goal.invariant-loop-share
invariant-loop-share g l = string_bytes l.text ≡ string_bytes l.initial.text ++ flat_map (g.F.Format.stream_text l.problem) (take l.share-index l.streams)

abbrev pub invariant-loop-share-2 : goal.invariant-loop-share-2
invariant-loop-share-2 g l = string_bytes l.text ≡ string_bytes l.initial.text ++ flat_map (g.F.Format.link_text l.problem) (take l.share-index l.links)
