use Rattle.std.proofs.Common.{List, Contains, subst}
use Rattle.std.specs.Prelude.{MatchBool}
use Rattle.tsn_model.specs.declared.Frame.{Frame}
use Rattle.tsn_argue.proofs.SeenLemmas.{told}
use Rattle.tsn_argue.proofs.seen.Seen.has.Goals as goal

pub returns : goal.returns
returns c =
    subst (λ (list : List Frame). MatchBool c.contains.result (Contains list c.args.frame) (Contains list c.args.frame → ⊥)) c.self.view_is
    (told c.self.inside.frames.keys c.args.frame c.contains.result c.contains.ensures)
