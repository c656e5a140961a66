use Rattle.std.proofs.Common.{ℕ, List, length, replicate, None, sym, ◌∙◌, subst}
use Rattle.std.proofs.lemmas.Result.{err_from_is_err_and}
use Rattle.tsn_diff.specs.Forest.{IsRaised}
use Rattle.tsn_diff.proofs.Solutions.{IsForest-unraised, IsRaised-unraised}
use Rattle.tsn_diff.proofs.solve.Net.least.Goals as goal

pub settle-requires : goal.settle-requires
settle-requires c =
    let offsets = c.in_ok-labels.ensures.offsets in
    let items = c.in_ok-labels.labels.offsets.items in
    let all = c.in_ok-all.ensures.items in
    let net = c.in_ok-copied.ensures in
    record {
      among = rw (all, net) c.requires;
      forest = rw (all, c.in_ok-labels.ensures.last) (IsForest-unraised c.args.arcs.now items (rw offsets c.self.invariant.0) (rw offsets c.self.invariant.1));
      raised = rw c.in_ok-labels.ensures.last (subst (λ (releases : List ℕ). IsRaised releases (record { offsets = items; last = replicate (length items) None })) (offsets ∙ c.self.view_is ∙ sym net) (IsRaised-unraised items));
    }

pub returns : goal.returns
returns c = rw (c.in_ok-copied.ensures, c.in_ok-all.ensures.items) at c.in_ok-settle.ensures

pub returns-in_err-all : goal.returns-in_err-all
returns-in_err-all c =
    let p = err_from_is_err_and c.from_residual.result c.from_residual.ensures.1 in
    rw p.1 tt
