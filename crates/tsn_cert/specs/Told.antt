-- How a file is refused, with what is the matter.
use Rattle.std.specs.Prelude.{◌≡◌, ℕ, List, codes, Option, Result, Ok, Err}
use Rattle.tsn_cert.specs.Fault.{FaultGiven, named}
use Rattle.tsn_cert.specs.declared.fault.FileFault.{FileFault}
use Rattle.tsn_cert.specs.declared.fault.FileFault.TheVariants as fault
use Rattle.tsn_cert.specs.declared.refused.Key.{Key}
use Rattle.tsn_cert.specs.declared.refused.Key.TheVariants as key
use Rattle.tsn_cert.specs.declared.refused.Refused.{Refused}
use Rattle.tsn_cert.specs.declared.refused.Refused.TheVariants.{NotJson, WrongShape, NumberTooLarge, Memory}

-- a key, as it stands in a file
abbrev pub key_name : Key → List ℕ
key_name key.Flowspan = codes "flowspan"
key_name key.Offsets = codes "offsets"
key_name key.Format = codes "format"
key_name key.Goal = codes "goal"
key_name key.Nodes = codes "nodes"
key_name key.Steps = codes "steps"
key_name key.Target = codes "target"

-- the fault, without what is the matter
abbrev pub code_of : Refused → FileFault
code_of (NotJson error) = fault.NotJson
code_of (WrongShape misfit) = fault.WrongShape
code_of (NumberTooLarge excess) = fault.NumberTooLarge
code_of Memory = fault.Memory

-- What a call gave, seen by view, is the expected answer, unless memory ran out.
abbrev pub Tells : {X A : Type 0} → (X → A) → Result X Refused → Result A FileFault → Type 0
Tells view (Ok x) expected = expected ≡ Ok (view x)
Tells view (Err refused) expected = FaultGiven (code_of refused) expected

-- What a reader of a value gave, seen by view, is what the grammar says, or that the value is not in it.
abbrev pub Finds : {X A : Type 0} → (X → A) → Result X Refused → Option A → Type 0
Finds view result found = Tells view result (named fault.WrongShape found)
