use Rattle.std.proofs.Common.{◌≡◌, ◌<◌, All, ℕ, ◌≤◌, ap, sym, ◌∙◌, subst, arith}
use Rattle.tsn_model.specs.Network.{hop_count, route_of}
use Rattle.tsn_timing.specs.Ends.{is_heard, ends_of}
use Rattle.tsn_timing.proofs.Ending.{kept_more, kept_same, ends_whole, ends_exist}
use Rattle.tsn_timing.proofs.ends.ends_of.Goals as goal
use Rattle.tsn_timing.proofs.ends.ends_of.Goals.{then-is_heard+in_ok-push, else-is_heard}

pub loop-hop-preserved : goal.loop-hop-preserved
loop-hop-preserved c =
    let network = c.args.timing.now in
    let before = c.loop-hop.invariant.so_far in
    elim c.if-is_heard.branch [
      | then-is_heard+in_ok-push w ↦
          let more = kept_more (is_heard network (route_of network c.args.stream)) c.loop-hop.hop (sym c.is_heard.ensures.value ∙ w.if-is_heard.true) in
          let pushed = w.in_ok-push.ensures.items in
          let is = w.ends-is in
          record { so_far = cc; last = c.loop-hop.invariant.last }
      | else-is_heard w ↦
          let same = kept_same (is_heard network (route_of network c.args.stream)) c.loop-hop.hop (sym c.is_heard.ensures.value ∙ w.if-is_heard.false) in
          let is = w.ends-is in
          record { so_far = cc; last = c.loop-hop.invariant.last }
    ]

whole : (hop end count : ℕ) → hop ≤ end → end ≤ hop → end ≡ count → hop ≡ count
whole hop end count below past last = omega arith

pub returns-clause-value : goal.returns-clause-value
returns-clause-value c =
    c.loop-hop.invariant.so_far
    ∙ ends_whole c.args.timing.now c.args.stream c.loop-hop.hop
    (whole c.loop-hop.hop _ _ c.loop-hop.auto.hop-end c.loop-hop-test.false c.loop-hop.invariant.last)

pub returns-clause-exist : goal.returns-clause-exist
returns-clause-exist c =
    let network = c.args.timing.now in
    let value =
    c.loop-hop.invariant.so_far
    ∙ ends_whole network c.args.stream c.loop-hop.hop
    (whole c.loop-hop.hop _ _ c.loop-hop.auto.hop-end c.loop-hop-test.false c.loop-hop.invariant.last) in
    subst (All (λ hop. hop < hop_count network c.args.stream)) (sym value) (ends_exist network c.args.stream)
