use Rattle.std.proofs.Common.{◌≡◌, ◌≤◌, ◌+◌, ◌++◌, [], ◌∷◌, List, length, Contains, sym, ap, ◌∙◌, subst, arith}
use Rattle.std.proofs.lemmas.List.{length-append}
use Rattle.indexmap.specs.IndexSet.{index_set_len, spare}
use Rattle.tsn_model.specs.declared.Frame.{Frame}
use Rattle.tsn_argue.proofs.SeenLemmas.{added}
use Rattle.tsn_argue.proofs.seen.Seen.add.Goals as goal

pub invariant_of-self : goal.invariant_of-self
invariant_of-self c =
    let old = c.self.inside.frames in
    let new = subst (λ (list : List Frame). Contains list c.args.frame → ⊥) (sym c.self.view_is) c.if-has.ensures in
    let longer : length c.insert.new.self.keys ≡ length old.keys + 1 =
    ap length (c.in-Ok.ensures.keys ∙ added old.keys c.args.frame new) ∙ length-append old.keys (c.args.frame ∷ []) in
    let room : 65536 ≤ index_set_len c.insert.new.self + spare c.insert.new.self = omega (arith, longer, c.in-Ok.ensures.spare, c.self.invariant) in
    room

pub returns : goal.returns
returns c =
    let old = c.self.inside.frames in
    let new = subst (λ (list : List Frame). Contains list c.args.frame → ⊥) (sym c.self.view_is) c.if-has.ensures in
    (c.if-has.ensures, c.in-Ok.ensures.keys ∙ added old.keys c.args.frame new ∙ ap (λ (list : List Frame). list ++ c.args.frame ∷ []) c.self.view_is)
