use Rattle.std.proofs.Common.{◌≡◌, ◌<◌, ◌-◌, ◌/◌, ◌+◌, ◌*◌, suc, length, arith, sym, ap, ◌∙◌}
use Rattle.std.specs.List.{slice_index_or}
use Rattle.tsn_model.specs.declared.Side.TheVariants.{Left, Right}
use Rattle.tsn_book.specs.declared.statuses.Origin.{Origin}
use Rattle.tsn_book.specs.declared.statuses.Origin.TheVariants.{Root, Child}
use Rattle.tsn_book.specs.declared.statuses.Branching.{Branching}
use Rattle.tsn_book.specs.Places.{Placed, origins_of}
use Rattle.tsn_book.proofs.Branchings.{length-origins_of, child_made}
use Rattle.tsn_book.proofs.statuses.Places.origin.Goals as goal
use Rattle.tsn_book.proofs.statuses.Places.origin.Goals.{then-place-eq1, else-place-eq1}

pub returns-then-place-eq0 : goal.returns-then-place-eq0
returns-then-place-eq0 c =
    ap (λ (places : Placed). slice_index_or places.origins 0 Root) c.self.view_is
    ∙ ap (λ k. slice_index_or c.args.self.now.origins k Root) (sym c.if-place-eq0.true)

pub index-split-requires : goal.index-split-requires
index-split-requires c =
    let inside = c.self.inside in
    omega (
      arith,
      c.requires.within,
      c.if-place-eq0.false,
      length-origins_of inside.splits.items,
      ap (λ (places : Placed). length places.origins) c.self.view_is,
      inside.splits.ok,
    )

pub returns : goal.returns
returns c =
    let inside = c.self.inside in
    let splits = inside.splits.items in
    let read = c.index-split.result.now in
    let place = c.args.place in
    let number = (place - 1) / 2 in
    let within : number < length splits =
    omega (arith, c.requires.within, c.if-place-eq0.false, length-origins_of splits, ap (λ (places : Placed). length places.origins) c.self.view_is) in
    let below : place ≡ suc (place - 1) = omega (arith, c.if-place-eq0.false) in
    elim c.if-place-eq1.branch [
      | then-place-eq1 w ↦
          let it : Origin = Child read.place (record { triple = read.triple; side = Left }) in
          let odd : place - 1 ≡ 2 * number + 0 = omega (arith, w.if-place-eq1.true, c.if-place-eq0.false) in
          rw w.side-is
          (ap (λ (b : Branching). Child b.place (record { triple = b.triple; side = Left })) c.index-split.ensures
          ∙ sym (child_made splits number 0 (place - 1) odd within (omega arith) read it)
          ∙ ap (λ k. slice_index_or (origins_of splits) k it) (sym below)
          ∙ ap (λ (places : Placed). slice_index_or places.origins place it) c.self.view_is)
      | else-place-eq1 w ↦
          let it : Origin = Child read.place (record { triple = read.triple; side = Right }) in
          let even : place - 1 ≡ 2 * number + 1 = omega (arith, w.if-place-eq1.false, c.if-place-eq0.false) in
          rw w.side-is
          (ap (λ (b : Branching). Child b.place (record { triple = b.triple; side = Right })) c.index-split.ensures
          ∙ sym (child_made splits number 1 (place - 1) even within (omega arith) read it)
          ∙ ap (λ k. slice_index_or (origins_of splits) k it) (sym below)
          ∙ ap (λ (places : Placed). slice_index_or places.origins place it) c.self.view_is)
    ]
