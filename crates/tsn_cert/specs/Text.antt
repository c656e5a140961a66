-- The text of a certificate in parts.
--     head_text          before the nodes
--     node_text          a node, behind a comma where it is a later one than the first
--     nodes_text         the nodes, one after another
--     tail_text          behind the nodes
use Rattle.std.specs.Prelude.{◌≡◌, ℕ, List, [], ◌++◌, ◌∷◌, Bool, true, false, codes, decimal}
use Rattle.serde_json.specs.Written.{comma_if, compact_text}
use Rattle.tsn_model.specs.Certificate.{Node}
use Rattle.tsn_cert.specs.Cert.{format_number, node_value, cert_text}
use Rattle.tsn_cert.specs.declared.cert.Cert.{Cert}
use Rattle.tsn_cert.specs.declared.cert.Format.{Format}

abbrev pub head_text : Format → List ℕ
head_text format = codes "{\"format\":" ++ decimal (format_number format) ++ codes ",\"nodes\":["

abbrev pub node_text : Bool → Node → List ℕ
node_text later node = comma_if later ++ compact_text (node_value node)

abbrev pub nodes_text : Bool → List Node → List ℕ
nodes_text later [] = []
nodes_text later (node ∷ nodes) = node_text later node ++ nodes_text true nodes

abbrev pub tail_text : ℕ → List ℕ
tail_text target = codes "],\"target\":" ++ decimal target ++ codes "}\n"

-- a certificate's text is these, one after another
abbrev pub CertTextHasParts : Type 0
CertTextHasParts = (cert : Cert) → cert_text cert ≡ head_text cert.format ++ (nodes_text false cert.nodes ++ tail_text cert.target)
