use Rattle.std.proofs.Common.{◌≡◌, ◌<◌, ◌∙◌, ℕ, sym, ap, subst, arith}
use Rattle.tsn_model.specs.declared.Link.{Link}
use Rattle.tsn_model.specs.Network.{route_of, hop_count, route_link, link_at, to_at}
use Rattle.tsn_model.specs.Timing.{hop_delay, UsesLink}
use Rattle.tsn_model.specs.PlainWords.{Under}
use Rattle.tsn_model.proofs.Routes.{UsesLink-exists}
use Rattle.tsn_model.proofs.Tolerating.{under_none, under_more, under_same, no_hop, past_all, IsPastDelay, IsPastHop}
use Rattle.tsn_model.proofs.tolerance.delay_before.Goals as goal
use Rattle.tsn_model.proofs.tolerance.delay_before.Goals.{then-link-from, else-link-from}

pub returns-then-is_none : goal.returns-then-is_none
returns-then-is_none c =
    under_none c.args.most (IsPastDelay c.args.network.now c.args.link c.args.i)
    (λ slack. no_hop c.args.network.now c.cycle-limits.ensures.well_formed c.args.i c.args.link slack c.requires (λ uses. grind (arith, uses)))

pub link-from-requires : goal.link-from-requires
link-from-requires c =
    let used : UsesLink c.args.network.now c.args.i c.args.link = grind arith in
    UsesLink-exists c.args.network.now c.args.i c.args.link c.cycle-limits.ensures.well_formed used

pub loop-k-preserved : goal.loop-k-preserved
loop-k-preserved c =
    let from : c.link-from.result.from ≡ (link_at c.args.network.now c.args.link).from = ap (λ (l : Link). l.from) c.link-from.ensures in
    let to : c.link.result.to ≡ to_at c.args.network.now (route_of c.args.network.now c.args.i) c.loop-k.k =
    ap (λ (l : Link). l.to) (c.link.ensures ∙ ap (link_at c.args.network.now) c.route_link-before.ensures.value) in
    record {
      so_far = under_more (λ before slack. IsPastHop c.args.network.now c.args.link c.args.i before slack) c.loop-k.k c.loop-k.least c.if-link-from.least c.args.most
          c.loop-k.invariant.so_far
          (elim c.if-link-from.branch [
            | then-link-from w ↦
                let delay : w.hop_delay.result ≡ hop_delay c.args.network.now c.args.i (route_link c.args.network.now c.args.i c.loop-k.k) =
                w.hop_delay.ensures.value ∙ ap (hop_delay c.args.network.now c.args.i) c.route_link-before.ensures.value in
                let is = w.least-is in
                let ends : to_at c.args.network.now (route_of c.args.network.now c.args.i) c.loop-k.k ≡ (link_at c.args.network.now c.args.link).from = sym to
                ∙ (w.if-link-from.true ∙ from) in
                λ slack. (
                  (λ less. (omega (arith, w.min-least.ensures), λ too. omega (arith, w.min-least.ensures))),
                  (λ both. let past = both.1 ends in omega (arith, both.0, w.min-least.ensures)),
                )
            | else-link-from w ↦
                let is = w.least-is in
                λ slack. (
                  (λ less. (omega arith, λ ends. absurd (w.if-link-from.false (to ∙ (ends ∙ sym from))))),
                  (λ both. omega (arith, both.0)),
                )
          ]);
      end = c.loop-k.invariant.end;
    }

pub returns : goal.returns
returns c =
    let used : UsesLink c.args.network.now c.args.i c.args.link = grind arith in
    let all : c.loop-k.k ≡ hop_count c.args.network.now c.args.i = omega (arith, c.loop-k.invariant.end, c.loop-k-test.false) in
    under_same c.loop-k.least c.args.most
    (λ slack. (before : ℕ) → before < hop_count c.args.network.now c.args.i → IsPastHop c.args.network.now c.args.link c.args.i before slack)
    (IsPastDelay c.args.network.now c.args.link c.args.i)
    (subst (λ n. Under c.loop-k.least c.args.most (λ slack. (before : ℕ) → before < n → IsPastHop c.args.network.now c.args.link c.args.i before slack)) all
    c.loop-k.invariant.so_far)
    (λ slack. past_all c.args.network.now c.args.i c.args.link slack used)
