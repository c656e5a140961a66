use Rattle.std.proofs.Common.{◌≤◌, max, sym, ap, ◌∙◌, subst, arith}
use Rattle.std.proofs.Math.Nat.{max-le}
use Rattle.tsn_model.specs.Timing.{occupancy}
use Rattle.tsn_model.specs.Bridge.{link_of, length_of}
use Rattle.tsn_replay.specs.Openings.{IsOpenFor}
use Rattle.tsn_replay.specs.Queue.{passage_of}
use Rattle.tsn_replay.proofs.port.start_of.Goals as goal

pub returns-clause-none : goal.returns-clause-none
unfolding length_of link_of passage_of
returns-clause-none c u since ready before in_time fits =
    let long = c.occupancy.ensures.value ∙ ap (occupancy c.args.network.now c.args.frame.now.stream) c.route_link-link.ensures.value in
    let later : max c.args.from c.args.frame.now.ready ≤ u = max-le since ready in
    c.first_fit.ensures.none u (omega arith) before in_time (subst (λ n. IsOpenFor c.args.list.now.entries n u) (sym long) fits)

pub returns-clause-here : goal.returns-clause-here
unfolding length_of link_of passage_of
returns-clause-here c in_time =
    let long = c.occupancy.ensures.value ∙ ap (occupancy c.args.network.now c.args.frame.now.stream) c.route_link-link.ensures.value in
    subst (λ n. IsOpenFor c.args.list.now.entries n c.first_fit.result) long (c.first_fit.ensures.here in_time)
