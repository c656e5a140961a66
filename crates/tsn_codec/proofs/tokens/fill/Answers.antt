use Rattle.std.proofs.Common.{◌≡◌, ◌<◌, ◌-◌, [], length, Some, None, subst, arith}
use Rattle.std.proofs.lemmas.Result.{err_from_is_err_and}
use Rattle.json.specs.Json.{after_end_array}
use Rattle.tsn_cert.specs.Form.{number}
use Rattle.tsn_codec.proofs.Elements.{taken_start, taken_more, taken_none, taken_over, fault_up}
use Rattle.tsn_cert.proofs.Says.{number_says, said_shorter}
use Rattle.tsn_codec.proofs.tokens.fill.Goals as goal

pub numbers-init : goal.numbers-init
numbers-init c =
    let empty : c.clear.new.self.items ≡ [] = grind arith in
    (length c.args.reader.now, omega arith, taken_start _ _ _ empty)

pub numbers-preserved : goal.numbers-preserved
numbers-preserved c =
    let inv = c.numbers.invariant in
    let going : after_end_array c.numbers.reader ≡ None = grind arith in
    let same : c.take_end_array.new.self ≡ c.numbers.reader = grind arith in
    let got : number.taken c.numbers.reader ≡ Some (c.in_ok-one.one, c.number.new.reader) =
    subst (λ ts. number.taken ts ≡ Some (c.in_ok-one.one, c.number.new.reader)) same c.in_ok-one.ensures in
    let less : length c.number.new.reader < length c.numbers.reader = said_shorter 0 number number_says _ _ _ got in
    (inv.0 - 1, omega (arith, inv.1), taken_more _ inv.0 _ _ _ _ _ _ (omega (arith, inv.1)) going got c.in_ok-push.ensures.items inv.2)

pub numbers-smaller : goal.numbers-smaller
numbers-smaller c =
    let same : c.take_end_array.new.self ≡ c.numbers.reader = grind arith in
    said_shorter 0 number number_says _ _ _ (subst (λ ts. number.taken ts ≡ Some (c.in_ok-one.one, c.number.new.reader)) same c.in_ok-one.ensures)

pub returns : goal.returns
returns c =
    let inv = c.numbers.invariant in
    let closed : after_end_array c.numbers.reader ≡ Some c.take_end_array.new.self = grind arith in
    taken_over _ inv.0 _ _ _ _ inv.1 closed inv.2

pub returns-in_err-one : goal.returns-in_err-one
returns-in_err-one c =
    let inv = c.numbers.invariant in
    let going : after_end_array c.numbers.reader ≡ None = grind arith in
    let same : c.take_end_array.new.self ≡ c.numbers.reader = grind arith in
    let p = err_from_is_err_and c.from_residual.result c.from_residual.ensures.1 in
    rw (p.1, p.2)
    (fault_up _ _ _ (λ none. taken_none number.taken inv.0 _ _ _ going (subst (λ ts. number.taken ts ≡ None) same none) inv.2) c.in_err-one.ensures)
