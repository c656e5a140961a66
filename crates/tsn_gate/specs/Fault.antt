-- Why entries make no gate control list.
use Rattle.std.specs.Prelude.{ℕ, ◌<◌, List, length}
use Rattle.tsn_model.specs.declared.GateEntry.{GateEntry}
use Rattle.tsn_model.specs.Gates.{cycle_of}
use Rattle.tsn_gate.specs.declared.fault.GateFault.{GateFault}
use Rattle.tsn_gate.specs.declared.fault.GateFault.TheVariants.{Empty, TooLong, Memory}
use Rattle.tsn_gate.specs.Entries.{AllPositive, IsGateList}

-- the number by which a fault is told
abbrev pub number_of : GateFault → ℕ
number_of Empty = 1
number_of TooLong = 2
number_of Memory = 3

-- the first reason for which the entries make no list; where none is in them, there was no memory
abbrev pub HasGateFault : List GateEntry → GateFault → Type 0
HasGateFault entries Empty = ¬ ((0 < length entries) × AllPositive entries)
HasGateFault entries TooLong = (0 < length entries) × AllPositive entries × (1000000000 < cycle_of entries)
HasGateFault entries Memory = IsGateList entries
