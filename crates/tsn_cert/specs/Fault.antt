-- How a file is refused.
use Rattle.std.specs.Prelude.{◌≡◌, ℕ, Bool, Option, Some, None, if◌then◌else◌, Result, Ok, Err}
use Rattle.tsn_cert.specs.declared.fault.FileFault.{FileFault}
use Rattle.tsn_cert.specs.declared.fault.FileFault.TheVariants.{NotJson, WrongShape, NumberTooLarge, Memory}

-- the number by which a fault is told
abbrev pub number_of : FileFault → ℕ
number_of NotJson = 1
number_of WrongShape = 2
number_of NumberTooLarge = 3
number_of Memory = 4

-- the value, or this fault where there is none
abbrev pub named : {A : Type 0} → FileFault → Option A → Result A FileFault
named fault None = Err fault
named fault (Some x) = Ok x

-- The answer for a file: not JSON, then not in the grammar, then a number above its limit, in this order.
abbrev pub shaped : {A : Type 0} → (A → Bool) → Option A → Result A FileFault
shaped fits None = Err WrongShape
shaped fits (Some x) = if fits x then Ok x else Err NumberTooLarge

abbrev pub answer : {D A : Type 0} → (D → Option A) → (A → Bool) → Option D → Result A FileFault
answer grammar fits None = Err NotJson
answer grammar fits (Some d) = shaped fits (grammar d)

abbrev pub FaultGiven : {A : Type 0} → FileFault → Result A FileFault → Type 0
FaultGiven NotJson expected = expected ≡ Err NotJson
FaultGiven WrongShape expected = expected ≡ Err WrongShape
FaultGiven NumberTooLarge expected = expected ≡ Err NumberTooLarge
FaultGiven Memory expected = Unit {0}

-- What a call gave, seen by view, is the expected answer, unless memory ran out.
abbrev pub Gives : {X A : Type 0} → (X → A) → Result X FileFault → Result A FileFault → Type 0
Gives view (Ok x) expected = expected ≡ Ok (view x)
Gives view (Err e) expected = FaultGiven e expected

-- What a reader of a value gave, seen by view, is what the grammar says, or that the value is not in it.
abbrev pub Reads : {X A : Type 0} → (X → A) → Result X FileFault → Option A → Type 0
Reads view result found = Gives view result (named WrongShape found)
