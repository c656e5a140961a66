use Rattle.std.proofs.Common.{◌≡◌, ◌<◌, ◌+◌, ◌&&◌, [], length, get_or, drop, ap, sym, ◌∙◌, arith}
use Rattle.std.specs.Str.{bytes_eq}
use Rattle.std.proofs.lemmas.Bool.{not-true}
use Rattle.std.proofs.lemmas.List.{length-map}
use Rattle.tsn_net.specs.DocumentView.{texts_view}
use Rattle.tsn_net.specs.Conditions.{is_same}
use Rattle.tsn_net.proofs.Found.{not_false}
use Rattle.tsn_net.proofs.RouteLemmas.{text_in, text-at}
use Rattle.tsn_net.proofs.StepLemmas.{same-lengths, same-at}
use Rattle.tsn_net.proofs.steps.is_same.Goals as goal

pub returns-then-route-other : goal.returns-then-route-other
returns-then-route-other c =
    sym (same-lengths (texts_view c.args.route.now) (texts_view c.args.other.now)
    (λ same. c.if-route-other.true (sym (length-map c.args.route.now text_in) ∙ same ∙ length-map c.args.other.now text_in)))

pub returns-then-ne : goal.returns-then-ne
returns-then-ne c =
    let route = c.args.route.now in
    let other = c.args.other.now in
    let k = c.loop-k.k in
    let lengths : length route ≡ length other = c.if-route-other.false in
    let in_route : k < length (texts_view route) = let n = length-map route text_in in let h = c.loop-k-test.true in omega (arith, n, h) in
    let in_other : k < length (texts_view other) = let n = length-map other text_in in let h = c.loop-k-test.true in omega (arith, n, h, lengths) in
    let at = same-at (texts_view route) (texts_view other) k in_route in_other in
    let first : get_or (texts_view route) k [] ≡ c.text.result.now =
    sym (c.text.ensures ∙ text-at route k c.index-route-k.result c.loop-k-test.true c.index-route-k.is) in
    let second : get_or (texts_view other) k [] ≡ c.text-in-loop-k.result.now =
    sym (c.text-in-loop-k.ensures ∙ text-at other k c.index-other-k.result (let h = c.loop-k-test.true in omega (arith, h, lengths)) c.index-other-k.is) in
    let both : bytes_eq (get_or (texts_view route) k []) (get_or (texts_view other) k []) ≡ bytes_eq c.text.result.now c.text-in-loop-k.result.now =
    λ j. bytes_eq (first j) (second j) in
    let rest = is_same (drop (k + 1) (texts_view route)) (drop (k + 1) (texts_view other)) in
    let differ = both ∙ not-true (bytes_eq c.text.result.now c.text-in-loop-k.result.now) (sym c.ne.ensures ∙ c.if-ne.true) in
    sym (sym c.loop-k.invariant ∙ at ∙ ap (λ b. b && rest) differ)

pub loop-k-preserved : goal.loop-k-preserved
loop-k-preserved c =
    let route = c.args.route.now in
    let other = c.args.other.now in
    let k = c.loop-k.k in
    let lengths : length route ≡ length other = c.if-route-other.false in
    let in_route : k < length (texts_view route) = let n = length-map route text_in in let h = c.loop-k-test.true in omega (arith, n, h) in
    let in_other : k < length (texts_view other) = let n = length-map other text_in in let h = c.loop-k-test.true in omega (arith, n, h, lengths) in
    let at = same-at (texts_view route) (texts_view other) k in_route in_other in
    let first : get_or (texts_view route) k [] ≡ c.text.result.now =
    sym (c.text.ensures ∙ text-at route k c.index-route-k.result c.loop-k-test.true c.index-route-k.is) in
    let second : get_or (texts_view other) k [] ≡ c.text-in-loop-k.result.now =
    sym (c.text-in-loop-k.ensures ∙ text-at other k c.index-other-k.result (let h = c.loop-k-test.true in omega (arith, h, lengths)) c.index-other-k.is) in
    let both : bytes_eq (get_or (texts_view route) k []) (get_or (texts_view other) k []) ≡ bytes_eq c.text.result.now c.text-in-loop-k.result.now =
    λ j. bytes_eq (first j) (second j) in
    let rest = is_same (drop (k + 1) (texts_view route)) (drop (k + 1) (texts_view other)) in
    let alike = both ∙ not_false (bytes_eq c.text.result.now c.text-in-loop-k.result.now) (sym c.ne.ensures ∙ c.if-ne.false) in
    sym (at ∙ ap (λ b. b && rest) alike) ∙ c.loop-k.invariant
