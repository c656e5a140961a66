use Rattle.std.proofs.Common.{leb, rules}
use Rattle.std.proofs.lemmas.List.Sorted.{IsPartitionPoint-from_clause}
use Rattle.tsn_book.specs.declared.log.Piece.{Piece}
use Rattle.tsn_book.proofs.Pieces.{parted, some_before, begins_before, ends_behind}
use Rattle.tsn_book.proofs.log.piece_of.Goals as goal

pub overflow_sub-result : goal.overflow_sub-result
overflow_sub-result c =
    let full = c.args.full.now in
    let point = IsPartitionPoint-from_clause (λ (piece : Piece). leb piece.first c.args.number)
    full c.partition_point.result c.partition_point.ensures.partitioned (parted full c.requires.numbered c.args.number) (λ a r q k. search rules) in
    some_before full c.requires.numbered c.args.number c.requires.within c.partition_point.result point

pub returns-clause-from : goal.returns-clause-from
returns-clause-from c =
    let full = c.args.full.now in
    let point = IsPartitionPoint-from_clause (λ (piece : Piece). leb piece.first c.args.number)
    full c.partition_point.result c.partition_point.ensures.partitioned (parted full c.requires.numbered c.args.number) (λ a r q k. search rules) in
    begins_before full c.requires.numbered c.args.number c.requires.within c.partition_point.result point

pub returns-clause-to : goal.returns-clause-to
returns-clause-to c =
    let full = c.args.full.now in
    let point = IsPartitionPoint-from_clause (λ (piece : Piece). leb piece.first c.args.number)
    full c.partition_point.result c.partition_point.ensures.partitioned (parted full c.requires.numbered c.args.number) (λ a r q k. search rules) in
    ends_behind full c.requires.numbered c.args.number c.requires.within c.partition_point.result point c.partition_point.ensures.bound
