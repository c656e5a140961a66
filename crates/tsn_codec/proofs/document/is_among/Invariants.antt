use Rattle.std.proofs.Common.{◌≡◌, drop}
use Rattle.std.specs.List.{list_any}
use Rattle.std.specs.Str.{bytes_eq}
use Rattle.tsn_cert.specs.Told.{key_name}
use Rattle.tsn_codec.proofs.document.is_among.Given as goal

-- whether the name is that of one of the rest is whether it is that of one of all
abbrev pub invariant-loop-key : goal.invariant-loop-key
invariant-loop-key l = list_any (λ k. bytes_eq (key_name k) l.name) (drop l.key-index l.keys) ≡ list_any (λ k. bytes_eq (key_name k) l.name) l.keys
