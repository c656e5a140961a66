-- How a fault is printed.
use Rattle.std.specs.Prelude.{ℕ, List, ◌++◌, codes, decimal}
use Rattle.tsn_model.specs.declared.fault.Place.{Place}
use Rattle.tsn_model.specs.declared.fault.Place.TheVariants.{Text, Top, Node, Cable, Stream}
use Rattle.tsn_model.specs.declared.fault.Code.{Code}
use Rattle.tsn_model.specs.declared.fault.Code.TheVariants.{NotToml, MissingKey, WrongKind, UnknownKey, Limit, DuplicateName, UnknownName, BadRate, DuplicateCable, BadRoute, NoCable, NoStream, Memory, BadPeriod, BadSlack}
use Rattle.tsn_model.specs.declared.fault.NetFault.{NetFault}

-- the codes count from 1
abbrev pub code_number : Code → ℕ
code_number NotToml = 1
code_number MissingKey = 2
code_number WrongKind = 3
code_number UnknownKey = 4
code_number Limit = 5
code_number DuplicateName = 6
code_number UnknownName = 7
code_number BadRate = 8
code_number DuplicateCable = 9
code_number BadRoute = 10
code_number NoCable = 11
code_number NoStream = 12
code_number Memory = 13
code_number BadPeriod = 14
code_number BadSlack = 15

abbrev pub code_text : Code → List ℕ
code_text code = codes "N" ++ decimal (code_number code)

abbrev pub place_text : Place → List ℕ
place_text Text = codes "text"
place_text Top = codes "top"
place_text (Node n) = codes "node " ++ decimal n
place_text (Cable k) = codes "link " ++ decimal k
place_text (Stream i) = codes "stream " ++ decimal i

-- the code, a space, the place
abbrev pub fault_text : NetFault → List ℕ
fault_text fault = code_text fault.code ++ codes " " ++ place_text fault.place
