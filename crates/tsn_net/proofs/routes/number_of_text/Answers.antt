use Rattle.std.proofs.Common.{sym, ap, ◌∙◌}
use Rattle.std.specs.List.{position_from}
use Rattle.std.specs.Str.{bytes_eq}
use Rattle.std.proofs.lemmas.Iterator.Adapters.{position_from-zero}
use Rattle.tsn_net.specs.DocumentView.{texts_view}
use Rattle.tsn_model.proofs.Rest.{rest_seen, rest_none, place_here, place_later}
use Rattle.tsn_net.proofs.RouteLemmas.{text_in}
use Rattle.tsn_net.proofs.routes.number_of_text.Goals as goal

pub loop-k-init : goal.loop-k-init
loop-k-init c = sym (position_from-zero (bytes_eq c.args.wanted.now) (texts_view c.args.texts.now))

pub returns-then-eq : goal.returns-then-eq
returns-then-eq c =
    let next = rest_seen text_in c.args.texts.now c.loop-k.k c.index-texts-k.result c.text.result.now c.loop-k-test.true c.index-texts-k.is c.text.ensures in
    place_here (bytes_eq c.args.wanted.now) _ _ c.text.result.now next c.loop-k.k _ (sym c.eq.ensures ∙ c.if-eq.true) c.loop-k.invariant

pub loop-k-preserved : goal.loop-k-preserved
loop-k-preserved c =
    let next = rest_seen text_in c.args.texts.now c.loop-k.k c.index-texts-k.result c.text.result.now c.loop-k-test.true c.index-texts-k.is c.text.ensures in
    place_later (bytes_eq c.args.wanted.now) _ _ c.text.result.now next c.loop-k.k _ (sym c.eq.ensures ∙ c.if-eq.false) c.loop-k.invariant

pub returns : goal.returns
returns c =
    sym (ap (position_from (bytes_eq c.args.wanted.now) c.loop-k.k) (rest_none text_in c.args.texts.now c.loop-k.k c.loop-k-test.false)) ∙ c.loop-k.invariant
