use Rattle.std.proofs.Common.{◌≡◌, sym, ◌∙◌, subst}
use Rattle.std.specs.Prelude.{IfSome, is_some}
use Rattle.tsn_model.specs.declared.fault.Code.TheVariants as code
use Rattle.tsn_model.specs.declared.fault.Place.{Place}
use Rattle.tsn_model.specs.declared.fault.Place.TheVariants.{Cable}
use Rattle.tsn_net.specs.declared.schema.Table.TheVariants as tables
use Rattle.tsn_net.specs.Document.{value_at}
use Rattle.tsn_net.specs.DocumentView.{document_view}
use Rattle.tsn_net.specs.Conditions.{holds, limit}
use Rattle.tsn_net.specs.Matter.{FindsIn, IsMatter, breaks_key_limit, matter_code}
use Rattle.tsn_net.proofs.MatterLemmas.{cable-breaks, limited}
use Rattle.tsn_net.proofs.document.Document.limit.Goals as goal

pub returns-in-Cable : goal.returns-in-Cable
unfolding holds limit
returns-in-Cable c =
    let d = document_view c.args.self.now in
    let cable = Cable c.in-Cable.field-0 in
    let r = c.key_limit-in-Cable.result in
    let there = subst (λ v. FindsIn (breaks_key_limit tables.Cable v) tables.Cable v r) c.value_at-in-Cable.ensures c.key_limit-in-Cable.ensures in
    let found = subst (λ p. FindsIn (breaks_key_limit tables.Cable (value_at d p)) tables.Cable (value_at d p) r) c.in-Cable.is there in
    let Is : Place → Type 0 = λ p. (is_some r ≡ holds code.Limit d p) × IfSome r (λ m. (matter_code m ≡ code.Limit) × IsMatter d p m) in
    let is : Is cable = (found.0 ∙ cable-breaks (value_at d cable), limited d cable r found.1) in
    subst Is (sym c.in-Cable.is) is
