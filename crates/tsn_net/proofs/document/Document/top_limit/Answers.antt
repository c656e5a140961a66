use Rattle.std.proofs.Common.{◌≡◌, ◌||◌, Bool, true, length, sym, ap, ◌∙◌, subst}
use Rattle.std.specs.Prelude.{IfSome, is_some, nat_lt, sum_by}
use Rattle.tsn_model.specs.declared.fault.Code.TheVariants as code
use Rattle.tsn_model.specs.declared.fault.Place.TheVariants.{Top}
use Rattle.tsn_net.specs.declared.schema.Key.TheVariants as key
use Rattle.tsn_net.specs.declared.schema.Table.TheVariants as tables
use Rattle.tsn_net.specs.Document.{number_at}
use Rattle.tsn_net.specs.DocumentView.{document_view}
use Rattle.tsn_net.specs.Conditions.{holds, limit, frames_of}
use Rattle.tsn_net.specs.Matter.{IsMatter, breaks_key_limit, matter_code}
use Rattle.tsn_net.proofs.MatterLemmas.{top-breaks, limited}
use Rattle.tsn_net.proofs.document.Document.top_limit.Goals as goal

pub returns-in-Some : goal.returns-in-Some
unfolding holds limit
returns-in-Some c =
    let d = document_view c.args.self.now in
    let breaks : breaks_key_limit tables.Top d.top ≡ true = sym c.key_limit.ensures.0 ∙ ap is_some c.in-Some.is in
    let frames = nat_lt 65536 (sum_by (frames_of (number_at key.Cycle d.top)) d.streams) in
    let limits : Bool → Bool = λ b. (((b || nat_lt 1024 (length d.nodes)) || nat_lt 2048 (length d.cables)) || nat_lt 2048 (length d.streams)) || frames in (
      sym (ap limits (sym (top-breaks d.top) ∙ breaks)),
      subst (λ r. IfSome r (λ m. (matter_code m ≡ code.Limit) × IsMatter d Top m)) c.in-Some.is (limited d Top c.key_limit.result c.key_limit.ensures.1),
    )
