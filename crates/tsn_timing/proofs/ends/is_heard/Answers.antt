use Rattle.std.proofs.Common.{◌≡◌, not, ◌∙◌, sym, ap}
use Rattle.tsn_model.specs.declared.Link.{Link}
use Rattle.tsn_model.specs.Network.{link_at, route_of, to_at}
use Rattle.tsn_timing.specs.Ends.{goes_on, is_heard}
use Rattle.tsn_timing.proofs.Ending.{from_heard, to_heard}
use Rattle.tsn_timing.proofs.ends.is_heard.Goals as goal

pub returns-clause-heard : goal.returns-clause-heard
unfolding is_heard
returns-clause-heard c =
    let network = c.args.timing.now in
    let route = route_of network c.args.stream in
    let to : c.link.result.to ≡ to_at network route c.args.hop =
    ap (λ (l : Link). l.to) (c.link.ensures ∙ ap (link_at network) c.route_link.ensures.value) in
    let same : not c.goes_on.result ≡ is_heard network route c.args.hop = ap not (c.goes_on.ensures ∙ ap (goes_on network route) to) in (
      λ yes. from_heard network route c.args.hop (sym same ∙ yes),
      λ heard. same ∙ to_heard network route c.args.hop heard,
    )
