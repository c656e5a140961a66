use Rattle.std.proofs.Common.{ℕ, List, length, slice_index, sym, ap, ◌∙◌, subst, arith}
use Rattle.std.proofs.lemmas.List.{length-append}
use Rattle.tsn_replay.specs.Feeding.{IsNextIn}
use Rattle.tsn_replay.proofs.Orders.{one_more}
use Rattle.tsn_replay.proofs.feed.lines_of.Goals as goal

pub loop-link-preserved : goal.loop-link-preserved
loop-link-preserved c =
    let order = c.in_ok-order.order.items in
    let items = c.in_ok-push.ensures.items in
    let next = c.loop-link.next.items in
    let here = subst (λ waiting. IsNextIn waiting 0 c.loop-link.link c.next_in.result) c.deref.ensures.value c.next_in.ensures in
    let count = c.loop-link.invariant.count in
    record {
      count = ap length items ∙ (length-append next _ ∙ omega arith);
      each = λ m below. subst (λ (all : List ℕ). IsNextIn order 0 m (slice_index all m)) (sym items)
          (one_more (λ k n. IsNextIn order 0 k n) next c.next_in.result 0 c.loop-link.link count c.loop-link.invariant.each here m below);
    }
