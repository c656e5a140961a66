use Rattle.std.proofs.Common.{◌<◌, length, ap, sym, ◌∙◌}
use Rattle.std.specs.Prelude.{is_some}
use Rattle.std.proofs.lemmas.List.{length-map}
use Rattle.toml.specs.View.{view}
use Rattle.tsn_model.specs.declared.fault.Place.TheVariants.{Cable}
use Rattle.tsn_net.specs.DocumentView.{document_view}
use Rattle.tsn_net.specs.Conditions.{holds}
use Rattle.tsn_net.proofs.PlaceLemmas.{find-here, find-range}
use Rattle.tsn_net.proofs.document.Document.in_cables.Goals as goal

pub returns-in-Some : goal.returns-in-Some
returns-in-Some c =
    let d = document_view c.args.self.now in
    let within : c.loop-k.k < length d.cables = rw (length-map c.args.self.now.cables.now view) c.loop-k-test.true in
    let here = find-here (holds c.args.code d) (λ n. Cable n) c.loop-k.k (length d.cables) within (sym c.matter.ensures.0 ∙ ap is_some c.in-Some.is) in
    (sym (sym c.loop-k.invariant ∙ here), c.in-Some.ensures.1)

pub loop-k-preserved : goal.loop-k-preserved
loop-k-preserved c =
    let d = document_view c.args.self.now in
    let within : c.loop-k.k < length d.cables = rw (length-map c.args.self.now.cables.now view) c.loop-k-test.true in
    sym (find-range (holds c.args.code d) (λ n. Cable n) c.loop-k.k (length d.cables) within (sym c.matter.ensures.0 ∙ ap is_some c.in_default.is))
    ∙ c.loop-k.invariant
