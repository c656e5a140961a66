use Rattle.std.proofs.Common.{◌≡◌, ◌++◌, false, length, string_bytes}
use Rattle.tsn_cert.specs.Laws.{AreInGrammar}
use Rattle.tsn_cert.specs.Text.{nodes_text}
use Rattle.tsn_cli.specs.Pieces.{IsParted}
use Rattle.tsn_cli.proofs.write_certificate.write_nodes.Given as goal

-- what is left to write are the text at hand and the nodes that are left; the grammar has those that were given
abbrev pub invariant-loop-text : goal.invariant-loop-text
invariant-loop-text g l =
    IsParted (g.C.Sink.taken l.fn.sink) (g.C.Sink.taken l.sink) (string_bytes l.text ++ nodes_text l.later l.cert.nodes) (string_bytes l.fn.head ++ nodes_text false l.fn.cert.nodes)
    × (g.C.Sink.failed l.sink ≡ g.C.Sink.failed l.fn.sink)
    × (l.cert.target ≡ l.fn.cert.target)
    × (AreInGrammar l.cert.nodes → AreInGrammar l.fn.cert.nodes)

abbrev pub decreases-loop-text : goal.decreases-loop-text
decreases-loop-text g l = length l.cert.nodes
