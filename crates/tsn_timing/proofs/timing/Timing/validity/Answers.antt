use Rattle.std.proofs.Common.{◌≡◌, length, ◌∙◌}
use Rattle.tsn_model.specs.Network.{stream_count}
use Rattle.tsn_model.proofs.Validity.{valid_from_parts}
use Rattle.tsn_timing.proofs.Judging.{fits_small}
use Rattle.tsn_timing.proofs.timing.Timing.validity.Goals as goal

pub returns-in-None : goal.returns-in-None
returns-in-None c =
    let count : length c.args.offsets.now ≡ stream_count c.args.self.now = c.if-offsets-streams.false ∙ c.streams.ensures.value in
    valid_from_parts c.args.self.now c.args.offsets.now count c.in_default.ensures c.in_default-first_overlap.ensures c.in_default-first_early.ensures c.in-None.ensures

pub first_overlap-requires-clause-small : goal.first_overlap-requires-clause-small
first_overlap-requires-clause-small c =
    let count : length c.args.offsets.now ≡ stream_count c.args.self.now = c.if-offsets-streams.false ∙ c.streams.ensures.value in
    fits_small c.args.self.now c.args.offsets.now count c.in_default.ensures

pub first_too_late-requires-clause-small : goal.first_too_late-requires-clause-small
first_too_late-requires-clause-small c =
    let count : length c.args.offsets.now ≡ stream_count c.args.self.now = c.if-offsets-streams.false ∙ c.streams.ensures.value in
    fits_small c.args.self.now c.args.offsets.now count c.in_default.ensures
