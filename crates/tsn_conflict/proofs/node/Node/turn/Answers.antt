use Rattle.std.proofs.Common.{◌≡◌, ◌-◌, ◌∙◌, ◌≤◌, List, ap, length, arith, slice_index_or}
use Rattle.std.specs.Prelude.{slice_set}
use Rattle.tsn_model.specs.declared.Triple.{Triple}
use Rattle.tsn_model.specs.declared.Decision.{Decision}
use Rattle.tsn_model.specs.declared.Side.TheVariants.{Left, Right}
use Rattle.tsn_conflict.specs.Path.{IsLastSide}
use Rattle.tsn_model.proofs.Decisions.{length-decided}
use Rattle.tsn_conflict.proofs.Paths.{set_last, get_last}
use Rattle.tsn_conflict.proofs.node.Node.turn.Goals as goal

some_decision : (path : List Decision) → IsLastSide path Left → 1 ≤ length path
some_decision path (front, triple, is) = let long = ap length is ∙ length-decided front triple Left in omega arith

pub overflow_sub-last : goal.overflow_sub-last
overflow_sub-last c =
    let some = some_decision c.args.self.now c.requires in
    let same = ap length c.self.view_is in
    let long = c.self.inside.path.ok.0 in
    omega (arith, c.len-last.ensures)

pub index-requires : goal.index-requires
index-requires c =
    let some = some_decision c.args.self.now c.requires in
    let same = ap length c.self.view_is in
    let long = c.self.inside.path.ok.0 in
    omega (arith, c.len-last.ensures)

pub index_mut-requires : goal.index_mut-requires
index_mut-requires c =
    let some = some_decision c.args.self.now c.requires in
    let same = ap length c.self.view_is in
    let long = c.self.inside.path.ok.0 in
    omega (arith, c.len-last.ensures)

pub returns : goal.returns
returns c =
    λ front triple is.
    let path = c.self.inside.path.items in
    let whole = c.self.view_is ∙ is in
    let long = c.self.inside.path.ok.0 in
    let place : c.len-last.result - 1 ≡ length path - 1 = omega (arith, c.len-last.ensures) in
    let at : c.index.result.now ≡ record { triple = triple; side = Left } = c.index.ensures ∙ ap (λ n. slice_index_or path n c.index.result.now) place ∙ get_last front triple Left path c.index.result.now whole in
    let same : c.index.result.now.triple ≡ triple = ap (λ (d : Decision). d.triple) at in
    ap (λ n. slice_set path n (record { triple = c.index.result.now.triple; side = Right })) place
    ∙ ap (λ (t : Triple). slice_set path (length path - 1) (record { triple = t; side = Right })) same
    ∙ set_last front triple Left Right path whole
