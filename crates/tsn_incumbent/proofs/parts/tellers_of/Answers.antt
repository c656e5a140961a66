use Rattle.std.proofs.Common.{◌++◌, ◌∷◌, [], rules, ap, ◌∙◌, arith}
use Rattle.tsn_incumbent.specs.Teller.{head_of, tellers_from, Known}
use Rattle.tsn_incumbent.specs.Desk.{others_from}
use Rattle.tsn_incumbent.proofs.Seats.{next_halves, all_dealt, one_more_teller, one_more_other, fresh_keeps}
use Rattle.tsn_incumbent.proofs.parts.tellers_of.Goals as goal

pub next_seat-seat-requires-clause-number : goal.next_seat-seat-requires-clause-number
next_seat-seat-requires-clause-number g c = (next_halves _ _ _ _ _ _ _ _ c.in-Some.ensures.steps.0 c.loop-share.invariant.left).low

pub next_seat-seat-requires-clause-rest : goal.next_seat-seat-requires-clause-rest
next_seat-seat-requires-clause-rest g c = c.loop-share.invariant.rest (next_halves _ _ _ _ _ _ _ _ c.in-Some.ensures.steps.0 c.loop-share.invariant.left).low

pub invariant_of-push : goal.invariant_of-push
invariant_of-push g c =
    let next = next_halves _ _ _ _ _ _ _ _ c.in-Some.ensures.steps.0 c.loop-share.invariant.left in
    fresh_keeps g.K.Named.names _ _ _ (omega (arith, next.low, c.requires.race.1)) c.next_seat-seat.ensures.one next.one

pub loop-share-preserved : goal.loop-share-preserved
loop-share-preserved g c =
    let names = g.K.Named.names in
    let i = c.loop-share.invariant in
    let next = next_halves _ _ _ _ _ _ _ _ c.in-Some.ensures.steps.0 i.left in
    let seat = c.next_seat-seat.ensures in
    let known : Known = record { standing = head_of c.next_seat-seat.result.0.standings; tally = c.in-Some.share.tally } in
    record {
      left = next.left;
      few = omega (arith, next.low);
      rest = seat.more;
      all = c.in_ok-push.ensures.items ∙ (λ k. i.all k ++ record { standing = head_of (seat.one k).standings; tally = (next.one k).tally } ∷ []) ∙ one_more_teller names c.loop-share.number;
      others = c.in_ok-push-2.ensures.items ∙ (λ k. i.others k ++ next.other k ∷ []) ∙ one_more_other names c.loop-share.number;
    }

pub returns-clause-tellers : goal.returns-clause-tellers
returns-clause-tellers g c = let all = all_dealt _ _ _ _ _ c.loop-share.invariant.left c.loop-share.invariant.few (search rules) in c.loop-share.invariant.all ∙ ap (tellers_from g.K.Named.names 0) all

pub returns-clause-others : goal.returns-clause-others
returns-clause-others g c = let all = all_dealt _ _ _ _ _ c.loop-share.invariant.left c.loop-share.invariant.few (search rules) in c.loop-share.invariant.others ∙ ap (others_from g.K.Named.names 0) all
