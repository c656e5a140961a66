use Rattle.std.proofs.Common.{◌≡◌, ◌≤◌, ℕ, length}
use Rattle.tsn_cert.specs.Form.{number, many, elements_taken}
use Rattle.tsn_codec.proofs.Elements.{prefixed}
use Rattle.tsn_codec.proofs.tokens.fill.Given as goal

abbrev pub invariant-numbers : goal.invariant-numbers
invariant-numbers l =
    (m : ℕ) × (length l.reader ≤ m) × (prefixed l.list.items (many number.taken m l.reader) ≡ elements_taken number.taken l.initial.reader)

abbrev pub decreases-numbers : goal.decreases-numbers
decreases-numbers l = length l.reader
