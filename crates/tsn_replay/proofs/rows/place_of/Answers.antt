use Rattle.std.proofs.Common.{◌≡◌, ◌≤◌, ltb, true, false, length, rules, sym, subst}
use Rattle.std.specs.List.Sorted.{IsPartitionedBy, IsPartitionPoint}
use Rattle.std.proofs.lemmas.List.Sorted.{IsPartitionPoint-from_clause}
use Rattle.tsn_replay.proofs.Counting.{shifts_parted, place_searched}
use Rattle.tsn_replay.proofs.rows.place_of.Goals as goal

pub returns : goal.returns
returns c =
    let network = c.args.timing.now in
    let stream = c.args.stream in
    let shift = c.args.shift in
    let point = c.partition_point.result in
    let list = c.shifts.result.now in
    let ascend = c.requires.spaced.ascend stream c.requires.stream in
    let parted = subst (IsPartitionedBy (λ s. ltb s shift)) (sym c.shifts.ensures.value) (shifts_parted network stream shift ascend) in
    let parts = IsPartitionPoint-from_clause (λ s. ltb s shift) list point c.partition_point.ensures.partitioned parted (λ a r q k. search rules) in
    let found = place_searched network stream shift point ascend c.requires.sent
    (subst (λ xs. point ≤ length xs) c.shifts.ensures.value c.partition_point.ensures.bound)
    (subst (λ xs. IsPartitionPoint (λ s. ltb s shift ≡ true) (λ s. ltb s shift ≡ false) xs point) c.shifts.ensures.value parts) in
    record { value = found.0; within = found.1 }
