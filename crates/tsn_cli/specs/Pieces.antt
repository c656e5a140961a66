-- A text that is written in pieces.
--     IsParted     what was taken, and what is left, make the whole
--     IsPut        all was taken but what is left in the end; or a beginning
--     IsCounted    how many writes failed
use Rattle.std.specs.Prelude.{◌≡◌, ◌+◌, ◌++◌, ℕ, List, Option, Result, Err, IfOk, OnErr}
use Rattle.std.specs.Io.KnownBytes.{Appends}
use Rattle.tsn_device.specs.declared.device.ReadFault.{ReadFault}
use Rattle.tsn_device.specs.declared.device.ReadFault.TheVariants.{Broken, TooLong}

-- what a sink took over some calls, and what is left, make the whole
abbrev pub IsParted : Option (List ℕ) → Option (List ℕ) → List ℕ → List ℕ → Type 0
IsParted before after rest whole = (piece : List ℕ) × Appends before after piece × (piece ++ rest ≡ whole)

-- the sink took the whole, but for what is left by this value; or, where there is a fault, a beginning of it
abbrev pub IsPut : {A : Type 0} → Option (List ℕ) → Option (List ℕ) → List ℕ → (A → List ℕ) → Result A ReadFault → Type 0
IsPut before after whole left result = IfOk result (λ value. IsParted before after (left value) whole)
    × OnErr result ((rest : List ℕ) × IsParted before after rest whole)

-- one write failed where the fault is that, and else none, since memory was refused
abbrev pub IsCounted : {A : Type 0} → ℕ → ℕ → Result A ReadFault → Type 0
IsCounted before after result =
    (result ≡ Err Broken → after ≡ before + 1) × ((result ≡ Err Broken → ⊥) → after ≡ before) × (result ≡ Err TooLong → ⊥)
