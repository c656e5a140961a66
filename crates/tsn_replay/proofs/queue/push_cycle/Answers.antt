use Rattle.std.proofs.Common.{◌≡◌, ◌+◌, ◌∷◌, [], ◌++◌, ℕ, map, sym, ap, ◌∙◌, arith, append-nil, append_assoc}
use Rattle.std.proofs.lemmas.List.{map-append}
use Rattle.tsn_model.specs.Network.{turns_of, burst_of}
use Rattle.tsn_timing.proofs.Sending.{of_place, of_turn, of_turns, turn_more, turns_more, all_turns}
use Rattle.tsn_replay.specs.Queue.{fresh_frame}
use Rattle.tsn_replay.proofs.queue.push_cycle.Goals as goal

pub loop-place-init : goal.loop-place-init
loop-place-init c = record {
  so_far = c.loop-turn.invariant.so_far
      ∙ ap (λ shifts. c.args.frames.now.items ++ map (fresh_frame c.args.stage c.args.stream c.args.hop c.args.cycle c.args.begin) shifts)
      (sym (append-nil (of_turns c.args.network.now c.args.stream c.loop-turn.turn)));
  last = c.burst-place-end.ensures.value;
}

pub loop-place-preserved : goal.loop-place-preserved
loop-place-preserved c =
    let network = c.args.network.now in
    let i = c.args.stream in
    let turn = c.loop-turn.turn in
    let place = c.loop-place.place in
    let fresh = fresh_frame c.args.stage i c.args.hop c.args.cycle c.args.begin in
    let old = c.args.frames.now.items in
    let turns = of_turns network i turn in
    let before = turns ++ of_turn network i place turn in
    let after : turns ++ of_turn network i (place + 1) turn ≡ before ++ c.shift-shift.result ∷ [] =
    ap (λ xs. turns ++ xs) (turn_more network i turn place)
    ∙ (sym (append_assoc turns (of_turn network i place turn) (of_place network i turn place ∷ []))
    ∙ ap (λ (s : ℕ). before ++ s ∷ []) (sym c.shift-shift.ensures.value)) in
    record {
      so_far =
          c.in_ok-push.ensures.items
          ∙ (ap (λ xs. xs ++ fresh c.shift-shift.result ∷ []) c.loop-place.invariant.so_far
          ∙ (append_assoc old (map fresh before) (fresh c.shift-shift.result ∷ [])
          ∙ (ap (λ xs. old ++ xs) (sym (map-append fresh before (c.shift-shift.result ∷ [])))
          ∙ ap (λ shifts. old ++ map fresh shifts) (sym after))));
      last = c.loop-place.invariant.last;
    }

pub loop-turn-preserved : goal.loop-turn-preserved
loop-turn-preserved c =
    let network = c.args.network.now in
    let i = c.args.stream in
    let turn = c.loop-turn.turn in
    let last = c.loop-place.invariant.last in
    let all : c.loop-place.place ≡ burst_of network i = omega arith in
    let whole : of_turns network i turn ++ of_turn network i c.loop-place.place turn ≡ of_turns network i (turn + 1) =
    ap (λ places. of_turns network i turn ++ of_turn network i places turn) all ∙ sym (turns_more network i turn) in
    record {
      so_far = c.loop-place.invariant.so_far
          ∙ ap (λ shifts. c.args.frames.now.items ++ map (fresh_frame c.args.stage i c.args.hop c.args.cycle c.args.begin) shifts) whole;
      last = c.loop-turn.invariant.last;
    }

pub returns : goal.returns
returns c =
    let network = c.args.network.now in
    let i = c.args.stream in
    let all : c.loop-turn.turn ≡ turns_of network i = omega arith in
    c.loop-turn.invariant.so_far
    ∙ ap (λ shifts. c.args.frames.now.items ++ map (fresh_frame c.args.stage i c.args.hop c.args.cycle c.args.begin) shifts)
    (ap (of_turns network i) all ∙ all_turns network i)
