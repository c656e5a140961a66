use Rattle.std.proofs.Common.{◌≡◌, ◌+◌, min, set, ap, ap₂, sym, ◌∙◌, subst}
use Rattle.tsn_model.specs.Network.{Network, Stream, IsWellFormed}
use Rattle.tsn_model.specs.Held.{hold}
use Rattle.tsn_model.proofs.Readings.{stream_read}
use Rattle.tsn_model.proofs.Holding.{well_held}
use Rattle.tsn_model.proofs.plain.PlainNetwork.hold_one.Goals as goal

placed : (c : goal.After-self-1) → c.hold.new.self ≡ hold c.args.self.now c.args.i c.args.offset
placed c =
    let stream = stream_read c.args.self.now c.self.inside.streams.items c.args.i c.index_mut.result.now
    (ap (λ (n : Network). n.streams) c.self.view_is) c.requires.stream c.index_mut.ensures.value in
    c.hold.ensures
    ∙ ap₂ (λ (s : Stream) time. record s { release = c.args.offset; latest = time }) stream
    (c.min-latest.ensures ∙ ap (λ time. min (c.args.offset + time) 1000000000) c.arrival.ensures.value)

pub invariant_of-self : goal.invariant_of-self
invariant_of-self c =
    let formed = well_held c.args.self.now (subst IsWellFormed c.self.view_is c.self.invariant) c.args.i c.args.offset c.requires.stream c.requires.within in
    subst (λ (n : Network). IsWellFormed (record n { streams = set n.streams c.args.i c.hold.new.self })) (sym c.self.view_is)
    (subst (λ s. IsWellFormed (record c.args.self.now { streams = set c.args.self.now.streams c.args.i s })) (sym (placed c)) formed)

pub returns : goal.returns
returns c =
    ap (λ (n : Network). record n { streams = set n.streams c.args.i c.hold.new.self }) c.self.view_is
    ∙ ap (λ s. record c.args.self.now { streams = set c.args.self.now.streams c.args.i s }) (placed c)
