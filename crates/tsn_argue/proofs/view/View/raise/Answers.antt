use Rattle.std.proofs.Common.{◌≡◌, pos, get_or, set, to_z, of_z, refl, ap, ◌∙◌, arith}
use mir.Syntax.{w128}
use Rattle.std.specs.Int.{int_max}
use Rattle.std.proofs.lemmas.Int.{ints, clamps, int_max_is}
use Rattle.std.proofs.lemmas.List.{set-get_or}
use Rattle.tsn_model.specs.Argument.{from, low_at, learned}
use Rattle.tsn_argue.specs.State.{view_of, base_of}
use Rattle.tsn_argue.proofs.Settling.{same_view}
use Rattle.tsn_argue.proofs.ViewLemmas.{told_by, learns, on_ok}
use Rattle.tsn_argue.proofs.view.View.raise.Goals as goal

pub returns-then-number-at : goal.returns-then-number-at
unfolding learned
returns-then-number-at c =
    let old = c.args.self.now in
    let lows = old.low.view in
    let same : int_max c.args.number (get_or lows c.args.stream (pos 0)) ≡ get_or lows c.args.stream (pos 0) =
    omega (arith, ints, int_max_is c.args.number (get_or lows c.args.stream (pos 0)), c.if-number-at.true, c.at.ensures) in
    same_view old _ c.requires.sound
    (ap (λ xs. record (view_of old) { low = xs }) (ap (set lows c.args.stream) same ∙ set-get_or lows c.args.stream (pos 0)))

pub returns : goal.returns
unfolding learned
returns c =
    let old = c.args.self.now in
    let new : to_z w128 (of_z w128 c.args.number) ≡ int_max c.args.number (low_at (view_of old) c.args.stream) =
    omega (arith, ints, clamps, int_max_is c.args.number (low_at (view_of old) c.args.stream), c.if-number-at.false, c.at.ensures) in
    on_ok c.set.result
    (λ view. learns old _ (from c.args.stream c.args.number) c.requires.sound c.requires.there refl
    (ap (λ xs. record (base_of old) { low = xs }) c.set.ensures.base) refl
    (ap (λ xs. record (view_of old) { low = xs }) (view ∙ ap (set old.low.view c.args.stream) new))
    (told_by _ _ _ _ _ c.or_above-self.ensures (λ past. omega (arith, ints, past)) (λ past. omega (arith, ints, past))))
    c.set.ensures.view
