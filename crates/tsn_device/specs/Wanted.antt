-- A file that may be wanted.
--     path_in        its path
--     contents_in    what it holds
--     IsMade         it is made, where it is wanted
--     IsUnwritten    nothing was written to it: it isn't made
use Rattle.std.specs.Prelude.{◌≡◌, ℕ, List, Option, None, Some, IsSome}
use Rattle.tsn_device.specs.declared.sink.Wanted.{Wanted}
use Rattle.tsn_device.specs.Known.{known_of}

-- the path of a wanted file
abbrev pub path_in : {F : Type 0} → Option (Wanted F) → Option (List ℕ)
path_in None = None
path_in (Some wanted) = Some wanted.path.now

-- what a wanted file holds, as far as is known; nothing is known of one that isn't wanted or isn't made
abbrev pub contents_in : {F : Type 0} → (F → Option (List ℕ)) → Option (Wanted F) → Option (List ℕ)
contents_in contents None = None
contents_in contents (Some wanted) = known_of contents wanted.file

-- where a file is wanted, it is made
abbrev pub IsMade : {F : Type 0} → Option (Wanted F) → Type 0
IsMade None = Unit {0}
IsMade (Some wanted) = IsSome wanted.file

-- nothing was written to it: it isn't made
abbrev pub IsUnwritten : {F : Type 0} → Option (Wanted F) → Type 0
IsUnwritten None = Unit {0}
IsUnwritten (Some wanted) = wanted.file ≡ None
