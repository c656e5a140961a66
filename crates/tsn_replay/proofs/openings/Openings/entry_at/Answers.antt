use Rattle.std.proofs.Common.{◌≡◌, leb, leb-true, rules, sym, ap, subst, arith}
use Rattle.std.proofs.lemmas.Bool.{leb-false}
use Rattle.std.proofs.lemmas.List.Sorted.{IsPartitionPoint-from_clause, IsPartitionedBy-leb}
use Rattle.tsn_model.specs.Bridge.{LinkGates}
use Rattle.tsn_replay.specs.Openings.{AreEnds}
use Rattle.tsn_replay.proofs.Spans.{ends_rise, entry_from_ends}
use Rattle.tsn_replay.proofs.openings.Openings.entry_at.Goals as goal

pub returns : goal.returns
returns c =
    let entries : c.self.inside.entries.items ≡ c.args.self.now.entries = ap (λ (g : LinkGates). g.entries) c.self.view_is in
    let ends = c.deref.result.now in
    let are = subst (AreEnds c.args.self.now.entries) (sym c.deref.ensures.value) (subst (λ es. AreEnds es c.self.inside.ends.items) entries c.self.invariant.2) in
    let parted = IsPartitionedBy-leb (λ end. end) ends c.args.phase (ends_rise c.args.self.now.entries ends are) in
    let point = IsPartitionPoint-from_clause (λ end. leb end c.args.phase) ends c.partition_point.result c.partition_point.ensures.partitioned parted (λ a r q k. search rules) in
    entry_from_ends c.args.self.now.entries ends c.args.phase c.partition_point.result are c.requires c.partition_point.ensures.bound
    (λ k below. leb-true _ _ (point.0 k 0 (omega arith) below)) (λ within. leb-false _ _ (point.1 c.partition_point.result 0 (omega arith) within))
