use Rattle.std.proofs.Common.{◌≡◌, ◌*◌, length, replicate, None, sym, ap, ◌∙◌, subst}
use Rattle.std.proofs.lemmas.List.{length-replicate, get_or-replicate}
use Rattle.tsn_replay.specs.declared.port.Port.{Port}
use Rattle.tsn_replay.specs.Ports.{port_time, port_in}
use Rattle.tsn_replay.specs.Tournament.{never, IsTournament}
use Rattle.tsn_replay.proofs.Tournaments.{new_tournament}
use Rattle.tsn_replay.proofs.tournament.PortQueue.new.Goals as goal

pub invariant_of-result : goal.invariant_of-result
unfolding port_in
invariant_of-result c =
    let idle : Port = record { head = None; scheduled = never; background = never } in
    let ports : c.in_ok-vec.field-0.items ≡ replicate c.args.count idle = c.in_ok-vec.ensures.items_if_clones_equal (λ y same. same) in
    let times : c.in_ok-vec-2.field-0.items ≡ replicate (2 * c.leaves_for-leaves.result) never = c.in_ok-vec-2.ensures.items_if_clones_equal (λ y same. same) in
    let is = c.leaves_for-leaves.ensures in
    subst (IsTournament c.in_ok-vec.field-0.items c.leaves_for-leaves.result) (sym times)
    (new_tournament c.in_ok-vec.field-0.items c.leaves_for-leaves.result c.args.count is.some is.few is.fits (ap length ports ∙ length-replicate c.args.count idle)
    (λ number below. ap (λ ps. port_time (port_in ps number)) ports ∙ ap port_time (get_or-replicate c.args.count number idle _ below)))
