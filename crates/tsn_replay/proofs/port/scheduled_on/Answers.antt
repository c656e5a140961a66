use Rattle.std.proofs.Common.{◌≡◌, ◌≤◌, Some, sym, ◌∙◌, subst}
use Rattle.tsn_model.specs.Bridge.{length_of}
use Rattle.tsn_replay.specs.Openings.{IsOpenFor}
use Rattle.tsn_replay.specs.Queue.{passage_of, frame_in, IsHead}
use Rattle.tsn_replay.proofs.port.scheduled_on.Goals as goal

pub start_of-requires-clause-waits : goal.start_of-requires-clause-waits
unfolding frame_in
start_of-requires-clause-waits c = (subst (IsHead c.args.queue.network.now c.args.queue.frames.now c.args.queue.list.now.link) c.in-Some.is c.requires.first).1

pub start_of-requires-clause-hop : goal.start_of-requires-clause-hop
unfolding frame_in
start_of-requires-clause-hop c =
    c.requires.line.hop c.in-Some.number
    (subst (IsHead c.args.queue.network.now c.args.queue.frames.now c.args.queue.list.now.link) c.in-Some.is c.requires.first).0

pub returns-in-Some : goal.returns-in-Some
unfolding frame_in
returns-in-Some c = record {
  forward = c.start_of.ensures.forward;
  none = λ number u is since ready before in_time fits.
      let same_some : Some number ≡ Some c.in-Some.number = sym is ∙ c.in-Some.is in
      let same : number ≡ c.in-Some.number = cc same_some in
      c.start_of.ensures.none u since (subst (λ p. (frame_in c.args.queue.frames.now p).ready ≤ u) same ready) before in_time
      (subst (λ p. IsOpenFor c.args.queue.list.now.entries (length_of c.args.queue.network.now (passage_of (frame_in c.args.queue.frames.now p))) u) same fits);
  here = λ in_time. (c.in-Some.number, c.in-Some.is, c.start_of.ensures.ready, c.start_of.ensures.here in_time);
}
