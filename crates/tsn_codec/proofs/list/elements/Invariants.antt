use Rattle.std.proofs.Common.{◌≡◌, ◌≤◌, ◌++◌, ℕ, List, length, map}
use Rattle.tsn_cert.specs.Form.{many, elements_taken}
use Rattle.tsn_codec.specs.Lists.{Stops}
use Rattle.tsn_codec.proofs.Elements.{prefixed}
use Rattle.tsn_codec.proofs.list.elements.Given as goal

abbrev pub invariant-elements : goal.invariant-elements
invariant-elements g l =
    (m : ℕ) × (length l.tokens ≤ m) × (prefixed (map g.T.Element.seen l.found.items) (many g.T.Element.form.taken m l.tokens)
    ≡ elements_taken g.T.Element.form.taken l.initial.tokens)
    × ((xs : List g.T.Element.Said) → Stops g.T.Element.form.taken xs l.tokens
    → Stops g.T.Element.form.taken (map g.T.Element.seen l.found.items ++ xs) l.initial.tokens)

abbrev pub decreases-elements : goal.decreases-elements
decreases-elements g l = length l.tokens
