use Rattle.std.proofs.Common.{◌≡◌, ◌+◌, ◌-◌, ◌==◌, ℕ, ◌∷◌, Vec, Global, map, drop, ap, sym, ◌∙◌}
use Rattle.std.specs.List.{list_any}
use Rattle.toml.specs.View.{view}
use Rattle.tsn_model.specs.Unions.{with_links}
use Rattle.tsn_net.specs.Document.{text_of}
use Rattle.tsn_net.specs.DocumentView.{texts_view}
use Rattle.tsn_net.specs.Conditions.{neighbours}
use Rattle.tsn_net.specs.Problem.{number_of, link_between}
use Rattle.tsn_timing.specs.ProblemView.{names_in}
use Rattle.tsn_net.proofs.ProblemLemmas.{route-next, route-end, link_there, link_new}
use Rattle.tsn_net.proofs.problem.with_route.Goals as goal
use Rattle.tsn_net.proofs.problem.with_route.Goals.{then-not-is_among+in_ok-push, else-not-is_among}

pub loop-k-preserved : goal.loop-k-preserved
loop-k-preserved c =
    let names = names_in c.args.names.now.keys in
    let links = c.args.index.now.links.now in
    let route = c.args.route.now in
    let now = c.loop-k.along.items in
    let link = c.link_between-link.result in
    let rest = map (link_between links) (neighbours (drop (c.loop-k.k + 1 - 1) (map (number_of names) (texts_view route)))) in
    let next = route-next names links route c.loop-k.k c.index-route-k.result c.index-route-k-in-loop-k.result c.loop-k.auto.k c.loop-k-test.true
    c.index-route-k.is c.index-route-k-in-loop-k.is in
    let from : c.number_of-from.result ≡ number_of names (text_of (view c.index-route-k.result)) = c.number_of-from.ensures
    ∙ ap (number_of names) c.text.ensures in
    let to : c.number_of-to.result ≡ number_of names (text_of (view c.index-route-k-in-loop-k.result)) =
    c.number_of-to.ensures ∙ ap (number_of names) c.text-in-loop-k.ensures in
    let is : link ≡ link_between links (number_of names (text_of (view c.index-route-k.result)), number_of names (text_of (view c.index-route-k-in-loop-k.result))) =
    c.link_between-link.ensures ∙ (λ j. link_between links (from j, to j)) in
    let all = ap (with_links now) (ap (λ l. l ∷ rest) is ∙ sym next) ∙ c.loop-k.invariant in
    let among = sym (ap (list_any (λ other. other == link)) c.deref.ensures.value) ∙ sym c.is_among.ensures in
    elim c.if-not-is_among.branch [
      | then-not-is_among+in_ok-push w ↦
          ap (λ (v : Vec ℕ Global). with_links v.items rest) w.along-is ∙ ap (λ xs. with_links xs rest) w.in_ok-push.ensures.items
          ∙ link_new now rest _ link all (among ∙ w.if-not-is_among.true)
      | else-not-is_among w ↦
          ap (λ (v : Vec ℕ Global). with_links v.items rest) w.along-is ∙ link_there now rest _ link all (among ∙ w.if-not-is_among.false)
    ]

pub returns : goal.returns
unfolding with_links
returns c =
    sym (ap (with_links c.loop-k.along.items)
    (route-end (names_in c.args.names.now.keys) c.args.index.now.links.now c.args.route.now c.loop-k.k c.loop-k.auto.k c.loop-k-test.false))
    ∙ c.loop-k.invariant
