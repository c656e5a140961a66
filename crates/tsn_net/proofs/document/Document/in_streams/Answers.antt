use Rattle.std.proofs.Common.{◌<◌, length, ap, sym, ◌∙◌}
use Rattle.std.specs.Prelude.{is_some}
use Rattle.std.proofs.lemmas.List.{length-map}
use Rattle.toml.specs.View.{view}
use Rattle.tsn_model.specs.declared.fault.Place.TheVariants.{Stream}
use Rattle.tsn_net.specs.DocumentView.{document_view}
use Rattle.tsn_net.specs.Conditions.{holds}
use Rattle.tsn_net.proofs.PlaceLemmas.{find-here, find-range}
use Rattle.tsn_net.proofs.document.Document.in_streams.Goals as goal

pub returns-in-Some : goal.returns-in-Some
returns-in-Some c =
    let d = document_view c.args.self.now in
    let within : c.loop-i.i < length d.streams = rw (length-map c.args.self.now.streams.now view) c.loop-i-test.true in
    let here = find-here (holds c.args.code d) (λ n. Stream n) c.loop-i.i (length d.streams) within (sym c.matter.ensures.0 ∙ ap is_some c.in-Some.is) in
    (sym (sym c.loop-i.invariant ∙ here), c.in-Some.ensures.1)

pub loop-i-preserved : goal.loop-i-preserved
loop-i-preserved c =
    let d = document_view c.args.self.now in
    let within : c.loop-i.i < length d.streams = rw (length-map c.args.self.now.streams.now view) c.loop-i-test.true in
    sym (find-range (holds c.args.code d) (λ n. Stream n) c.loop-i.i (length d.streams) within (sym c.matter.ensures.0 ∙ ap is_some c.in_default.is))
    ∙ c.loop-i.invariant
