use Rattle.std.proofs.Common.{◌≡◌, ◌+◌, ◌<◌, ◌++◌, length, get_or, slice_set, take, drop, sym, ap, ◌∙◌, subst, arith}
use Rattle.std.proofs.Math.Seq.{take-append_seam}
use Rattle.tsn_replay.specs.Ports.{port_time}
use Rattle.tsn_replay.specs.Tournament.{AreLesserBut, IsTournament}
use Rattle.tsn_replay.proofs.Tournaments.{set_tournament, leaf_written}
use Rattle.tsn_replay.proofs.tournament.PortQueue.set.Goals as goal

pub carry-requires-clause-lesser : goal.carry-requires-clause-lesser
carry-requires-clause-lesser c =
    let below = subst (λ ps. c.args.number < length ps) (sym c.self.view_is) c.requires in
    let written : slice_set c.self.inside.times.items (c.self.inside.leaves + c.args.number) (port_time c.args.port) ≡ c.deref_mut.result.now =
    ap (slice_set c.self.inside.times.items (c.self.inside.leaves + c.args.number)) (sym c.time.ensures) ∙ sym c.deref_mut.ensures.value in
    subst (AreLesserBut (c.self.inside.leaves + c.args.number) c.self.inside.leaves) written (leaf_written c.self.inside.ports.items c.self.inside.leaves c.self.inside.times.items c.self.invariant c.args.number below c.args.port)

pub invariant_of-self : goal.invariant_of-self
invariant_of-self c =
    let below = subst (λ ps. c.args.number < length ps) (sym c.self.view_is) c.requires in
    let written : c.deref_mut.result.now ≡ slice_set c.self.inside.times.items (c.self.inside.leaves + c.args.number) (port_time c.args.port) =
    c.deref_mut.ensures.value ∙ ap (slice_set c.self.inside.times.items (c.self.inside.leaves + c.args.number)) c.time.ensures in
    let rest = drop (length c.carry.new.times) (slice_set c.self.inside.times.items (c.self.inside.leaves + c.args.number) c.time.result) in
    let long : c.self.inside.times.len ≡ length c.carry.new.times = omega arith in
    let whole : take c.self.inside.times.len (c.carry.new.times ++ rest) ≡ c.carry.new.times = ap (λ n. take n (c.carry.new.times ++ rest)) long ∙ take-append_seam c.carry.new.times rest in
    subst (IsTournament (slice_set c.self.inside.ports.items c.args.number c.args.port) c.self.inside.leaves) (sym whole)
    (set_tournament c.self.inside.ports.items c.self.inside.leaves c.self.inside.times.items c.self.invariant c.args.number below c.args.port c.carry.new.times
    (c.carry.ensures.count ∙ ap length written) c.carry.ensures.lesser (λ k leaf. c.carry.ensures.leaves k leaf ∙ ap (λ ts. get_or ts k 0) written))
