-- What the files of a folder hold.
--     bytes_in                      the bytes of a file
--     input_name                    the file that a network's word names
--     Holds, IsOpened, IsFresh      devices before a command runs
use Rattle.std.specs.Prelude.{◌≡◌, ℕ, List, [], ◌∷◌, Option, None, Some, if◌then◌else◌, string_bytes, codes}
use Rattle.std.specs.Str.{bytes_eq}
use Rattle.tsn_memory.specs.declared.devices.MemorySource.{MemorySource}
use Rattle.tsn_memory.specs.declared.devices.MemorySink.{MemorySink}
use Rattle.tsn_rows.specs.declared.folder.File.{File}

-- what the first file of this name holds, where there is one
abbrev pub bytes_in : List File → List ℕ → Option (List ℕ)
bytes_in [] name = None
bytes_in (file ∷ files) name = if bytes_eq (string_bytes file.name) name then Some file.bytes.items else bytes_in files name

-- the file that a network's word names: `-` is standard input
abbrev pub input_name : List ℕ → List ℕ
input_name word = if bytes_eq word (codes "-") then codes "stdin" else word

-- a source of these bytes, or one whose first read fails
abbrev pub Holds : Option (List ℕ) → MemorySource → Type 0
Holds (Some bytes) source = source.bytes.now ≡ bytes
Holds None source = source.good_calls ≡ 0

-- a source of a file of these, where there is one of the name, of which nothing was read
abbrev pub IsOpened : List File → List ℕ → MemorySource → Type 0
IsOpened files name source = Holds (bytes_in files name) source × (source.position ≡ 0) × (source.failures ≡ 0)

-- a sink to which nothing was written
abbrev pub IsFresh : MemorySink → Type 0
IsFresh sink = (sink.bytes.items ≡ []) × (sink.failures ≡ 0)
