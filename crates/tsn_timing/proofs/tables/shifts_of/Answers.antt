use Rattle.std.proofs.Common.{◌≡◌, ◌≤◌, All, sym, ap, ◌∙◌, subst, arith, append-nil, append_assoc}
use Rattle.tsn_model.specs.Network.{turns_of, burst_of}
use Rattle.tsn_timing.proofs.Sending.{of_turns, turn_more, turns_more, all_turns, shifts-le}
use Rattle.tsn_timing.proofs.tables.shifts_of.Goals as goal

pub loop-place-init : goal.loop-place-init
loop-place-init c = grind (arith, append-nil)

pub loop-place-preserved : goal.loop-place-preserved
loop-place-preserved c = grind (arith, append_assoc, turn_more)

pub loop-turn-preserved : goal.loop-turn-preserved
loop-turn-preserved c =
    let network = c.args.network.now in
    let i = c.args.stream in
    let turn = c.loop-turn.turn in
    let all : c.loop-place.place ≡ burst_of network i = omega arith in
    grind (arith, turns_more)

pub returns-clause-value : goal.returns-clause-value
returns-clause-value c =
    let network = c.args.network.now in
    let all : c.loop-turn.turn ≡ turns_of network c.args.stream = omega arith in
    c.loop-turn.invariant.so_far ∙ ap (of_turns network c.args.stream) all ∙ all_turns network c.args.stream

pub returns-clause-bound : goal.returns-clause-bound
returns-clause-bound c =
    let network = c.args.network.now in
    let all : c.loop-turn.turn ≡ turns_of network c.args.stream = omega arith in
    subst (All (λ shift. shift ≤ 1018504000)) (sym (c.loop-turn.invariant.so_far ∙ ap (of_turns network c.args.stream) all ∙ all_turns network c.args.stream))
    (shifts-le network c.args.stream c.cycle-limits.ensures.well_formed c.requires)
