use Rattle.std.proofs.Common.{All, ap, sym, subst, ◌∙◌}
use Rattle.tsn_conflict.specs.Rows.{uses_in}
use Rattle.tsn_conflict.specs.Pairs.{IsPairBelow}
use Rattle.tsn_conflict.proofs.Reading.{AreConflictsOf-from}
use Rattle.tsn_conflict.proofs.Meeting.{all_in_uses, all_pairs_below}
use Rattle.tsn_conflict.proofs.conflicts.Goals as goal

pub pairs_of-requires : goal.pairs_of-requires
pairs_of-requires c =
    all_in_uses c.args.timing.now (record { uses = uses_in c.deref-2.result.now; triples = c.deref-3.result.now })
    (AreConflictsOf-from c.args.timing.now _ c.cycle-limit.ensures.well_formed c.requires
    (ap uses_in c.deref-2.ensures.value ∙ c.in_ok-rows.ensures) (c.deref-3.ensures.value ∙ c.in_ok-triples.ensures))

pub numbers_of-requires : goal.numbers_of-requires
numbers_of-requires c =
    subst (λ ts. All (IsPairBelow c.streams.result) ts) (sym c.deref-4.ensures.value)
    (all_pairs_below c.args.timing.now (record { uses = uses_in c.in_ok-rows.rows.items; triples = c.in_ok-triples.triples.items })
    (AreConflictsOf-from c.args.timing.now _ c.cycle-limit.ensures.well_formed c.requires c.in_ok-rows.ensures c.in_ok-triples.ensures)
    c.streams.result c.streams.ensures.value)

pub invariant_of-result : goal.invariant_of-result
invariant_of-result c = record {
  of_network = rw c.in_ok-timing.ensures
      (AreConflictsOf-from c.args.timing.now _ c.cycle-limit.ensures.well_formed c.requires c.in_ok-rows.ensures c.in_ok-triples.ensures);
  pairs_made = cc c.in_ok-pairs.ensures;
  numbers_made =
      let counted = c.streams.ensures.value ∙ sym (AreConflictsOf-from c.args.timing.now _ c.cycle-limit.ensures.well_formed c.requires c.in_ok-rows.ensures c.in_ok-triples.ensures).streams in
      cc (c.in_ok-numbers.ensures, counted);
}

pub returns : goal.returns
returns c = AreConflictsOf-from c.args.timing.now _ c.cycle-limit.ensures.well_formed c.requires c.in_ok-rows.ensures c.in_ok-triples.ensures
