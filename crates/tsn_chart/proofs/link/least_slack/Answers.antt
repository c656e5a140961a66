use Rattle.std.proofs.Common.{◌≡◌, ◌≤◌, get_or, inl, inr, ap, subst, arith}
use Rattle.std.proofs.lemmas.Bool.{cases_lt}
use Rattle.std.proofs.lemmas.List.{get_or_default}
use Rattle.tsn_chart.specs.declared.link.LinkShare.{LinkShare}
use Rattle.tsn_chart.proofs.link.least_slack.Goals as goal

none : LinkShare
none = record { link = 0; scheduled = 0; guard = 0; «open» = 0; longest_open = 0; slack = 0; windows = 0 }

pub loop-share-init : goal.loop-share-init
unfolding none
loop-share-init c = record { least = λ k d below. absurd (omega arith); greatest = λ n all. all 0 none c.requires }

pub loop-share-preserved : goal.loop-share-preserved
unfolding none
loop-share-preserved c =
    let shares = c.args.shares.now in
    let i = c.loop-share.share-index in
    let inside = c.loop-share-test.true in
    record {
      least = λ k d below. elim (cases_lt k i) [
        | inl before ↦ let low = c.loop-share.invariant.least k d before in omega (arith, c.min-least.ensures)
        | inr at ↦
            let is : i ≡ k = omega arith in
            let same = ap (λ (share : LinkShare). share.slack) (get_or_default shares i d none inside) in
            subst (λ m. c.min-least.result ≤ (get_or shares m d).slack) is (omega (arith, c.min-least.ensures))
      ];
      greatest = λ n all.
          let before = c.loop-share.invariant.greatest n all in
          let here = all i none inside in
          omega (arith, c.min-least.ensures);
    }

pub returns : goal.returns
returns c n =
    let ended = c.loop-share-test.false in (
      (λ all. c.loop-share.invariant.greatest n all),
      (λ few k d below. let low = c.loop-share.invariant.least k d (omega arith) in omega arith),
    )
