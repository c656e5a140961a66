use Rattle.std.proofs.Common.{◌<◌, take, set, refl, ap, subst, sym, ◌∙◌, arith}
use Rattle.std.proofs.lemmas.List.{take_all}
use Rattle.tsn_model.specs.Network.{Network, stream_count}
use Rattle.tsn_model.specs.Held.{hold, held}
use Rattle.tsn_model.proofs.Held.{same_count}
use Rattle.tsn_model.proofs.Holding.{held_none, held_more, held_no_more}
use Rattle.tsn_model.proofs.plain.PlainNetwork.hold.Goals as goal
use Rattle.tsn_model.proofs.plain.PlainNetwork.hold.Goals.{in-Some, in_default}

pub loop-i-init : goal.loop-i-init
loop-i-init c = record { so_far = held_none c.args.self.now; end = refl }

pub hold_one-requires-clause-stream : goal.hold_one-requires-clause-stream
hold_one-requires-clause-stream c =
    let before = c.loop-i-test.true in
    let count = c.requires.count in
    let below : c.loop-i.i < stream_count c.args.self.now = omega (arith, before, count) in
    subst (λ network. c.loop-i.i < stream_count network) (sym c.loop-i.invariant.so_far)
    (rw (same_count c.args.self.now (take c.loop-i.i c.args.offsets.now)) below)

pub loop-i-preserved : goal.loop-i-preserved
loop-i-preserved c =
    let before = c.loop-i-test.true in
    let count = c.requires.count in
    let below : c.loop-i.i < stream_count c.args.self.now = omega (arith, before, count) in
    elim c.match-offsets-i.branch [
      | in-Some w ↦ record {
        so_far =
            w.self-is ∙ w.hold_one.ensures
            ∙ ap (λ (n : Network). record n { streams = set n.streams c.loop-i.i (hold n c.loop-i.i w.in-Some.offset) }) c.loop-i.invariant.so_far
            ∙ held_more c.args.self.now c.args.offsets.now c.loop-i.i below w.in-Some.offset w.in-Some.is;
        end = refl;
      }
      | in_default w ↦ record {
        so_far = w.self-is ∙ c.loop-i.invariant.so_far ∙ held_no_more c.args.self.now c.args.offsets.now c.loop-i.i below w.in_default.is;
        end = refl;
      }
    ]

pub returns : goal.returns
returns c =
    c.loop-i.invariant.so_far ∙ ap (held c.args.self.now) (take_all c.loop-i.i c.args.offsets.now (omega arith))
