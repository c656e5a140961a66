use Rattle.std.proofs.Common.{◌≡◌, length, Some, refl, arith}
use Rattle.tsn_codec.proofs.Elements.{map_same}
use Rattle.tsn_cert.specs.declared.refused.Part.TheVariants as part
use Rattle.tsn_codec.proofs.argument.step.step_inside.Goals as goal

pub returns-in-Err-Behind : goal.returns-in-Err-Behind
returns-in-Err-Behind c =
    let taken = rw c.in-Err-Behind.field-0-is at c.in-Err-Behind.ensures in
    let stops = rw (map_same c.in-Err-Behind.facts.items) at taken.2 in
    let counted : c.len.result ≡ length c.in-Err-Behind.facts.items = omega (arith, c.in-Err-Behind.facts.ok.0) in
    (Some (part.Fact c.len.result), refl, (taken.0, c.in-Err-Behind.facts.items, taken.1, stops, counted))
