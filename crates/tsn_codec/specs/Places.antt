-- The nodes of one format.
use Rattle.std.specs.Prelude.{List, Option, Some}
use Rattle.serde_json.specs.Data.{Data}
use Rattle.tsn_model.specs.Certificate.{Node}
use Rattle.tsn_cert.specs.Json.{◌>>=◌, when}
use Rattle.tsn_cert.specs.Cert.{nodes_of, are_of}
use Rattle.tsn_cert.specs.declared.cert.Format.{Format}

abbrev pub nodes_in : Format → Data → Option (List Node)
nodes_in format d = do
  nodes ← nodes_of d
  when (are_of format nodes) (Some nodes)
