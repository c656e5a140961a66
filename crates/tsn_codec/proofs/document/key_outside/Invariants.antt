use Rattle.std.proofs.Common.{◌≡◌, not, string_bytes}
use Rattle.std.specs.BTreeMap.{keys}
use Rattle.std.specs.List.{find, list_any}
use Rattle.std.specs.Str.{bytes_eq}
use Rattle.tsn_cert.specs.Told.{key_name}
use Rattle.tsn_codec.proofs.document.key_outside.Given as goal

-- the first other name of the rest is that of all
abbrev pub invariant-loop-name : goal.invariant-loop-name
invariant-loop-name l =
    find (λ name. not (list_any (λ k. bytes_eq (key_name k) (string_bytes name)) l.keys)) l.name-iterator
    ≡ find (λ name. not (list_any (λ k. bytes_eq (key_name k) (string_bytes name)) l.keys)) (keys l.members)
