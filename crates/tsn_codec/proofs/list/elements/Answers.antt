use Rattle.std.proofs.Common.{◌≡◌, ◌<◌, ◌-◌, [], ◌++◌, length, map, Some, None, subst, sym, ap, arith}
use Rattle.json.specs.Json.{after_end_array}
use Rattle.tsn_codec.specs.Lists.{Stops}
use Rattle.tsn_codec.proofs.Elements.{taken_start, taken_more, taken_over, seen_more}
use Rattle.tsn_codec.proofs.Lists.{stops_before, stops_here}
use Rattle.tsn_cert.proofs.Says.{said_shorter}
use Rattle.tsn_codec.proofs.list.elements.Goals as goal

pub elements-init : goal.elements-init
elements-init g c =
    let empty : map g.T.Element.seen c.new-found.result.items ≡ [] = ap (map g.T.Element.seen) c.new-found.ensures.items in (
      length c.args.tokens.now,
      omega arith,
      taken_start _ _ _ empty,
      λ xs s. subst (λ ys. Stops g.T.Element.form.taken (ys ++ xs) c.args.tokens.now) (sym empty) s,
    )

pub elements-preserved : goal.elements-preserved
elements-preserved g c =
    let inv = c.elements.invariant in
    let going : after_end_array c.elements.tokens ≡ None = grind arith in
    let same : c.take_end.new.self ≡ c.elements.tokens = grind arith in
    let got : g.T.Element.form.taken c.elements.tokens ≡ Some (g.T.Element.seen c.in-Ok.one, c.take.new.tokens) =
    subst (λ ts. g.T.Element.form.taken ts ≡ Some (g.T.Element.seen c.in-Ok.one, c.take.new.tokens)) same c.in-Ok.ensures in
    let less : length c.take.new.tokens < length c.elements.tokens = said_shorter 8 g.T.Element.form g.met.T.Element.says _ _ _ got in
    let more = seen_more g.T.Element.seen _ _ _ c.in_ok-push-in-Ok.ensures.items in (
      inv.0 - 1,
      omega (arith, inv.1),
      taken_more _ inv.0 _ _ _ _ _ _ (omega (arith, inv.1)) going got more inv.2,
      stops_before _ _ _ _ _ _ _ going got more inv.3,
    )

pub elements-smaller : goal.elements-smaller
elements-smaller g c =
    let same : c.take_end.new.self ≡ c.elements.tokens = grind arith in
    said_shorter 8 g.T.Element.form g.met.T.Element.says _ _ _
    (subst (λ ts. g.T.Element.form.taken ts ≡ Some (g.T.Element.seen c.in-Ok.one, c.take.new.tokens)) same c.in-Ok.ensures)

pub returns : goal.returns
returns g c =
    let inv = c.elements.invariant in
    let closed : after_end_array c.elements.tokens ≡ Some c.take_end.new.self = grind arith in
    taken_over _ inv.0 _ _ _ _ inv.1 closed inv.2

pub returns-in-Err-OtherForm : goal.returns-in-Err-OtherForm
returns-in-Err-OtherForm g c =
    let inv = c.elements.invariant in
    let going : after_end_array c.elements.tokens ≡ None = grind arith in
    let same : c.take_end.new.self ≡ c.elements.tokens = grind arith in
    let none = rw c.in-Err-OtherForm.field-0-is at c.in-Err-OtherForm.ensures in
    stops_here _ _ _ _ going (subst (λ ts. g.T.Element.form.taken ts ≡ None) same none) inv.3
