use Rattle.std.proofs.Common.{◌≡◌, subst, sym, ap, ◌∙◌, refl, arith}
use Rattle.tsn_conflict.specs.Raised.{triple_at}
use Rattle.tsn_conflict.specs.Pairs.{numbers_in, with_number}
use Rattle.tsn_conflict.proofs.ByStream.{AreFirst, one_triple_more, none_first, all_first}
use Rattle.tsn_conflict.proofs.numbers.numbers_of.Goals as goal

pub loop-number-init : goal.loop-number-init
loop-number-init c = none_first c.args.triples.now c.args.streams _ c.in_ok-lists.ensures

pub loop-number-preserved : goal.loop-number-preserved
loop-number-preserved c =
    let triples = c.args.triples.now in
    let n = c.loop-number.number in
    let triple = triple_at triples n in
    let before = numbers_in c.loop-number.lists.items in
    let once : numbers_in c.push_number.new.lists.items ≡ with_number before triple.left n = c.in_ok-push_number.ensures in
    let twice : numbers_in c.push_number-in-loop-number.new.lists.items ≡ with_number (numbers_in c.push_number.new.lists.items) triple.right n =
    c.in_ok-push_number-2.ensures in
    let pair = c.requires n _ c.loop-number-test.true in
    rw (twice, once) (one_triple_more triples c.args.streams n before triple refl pair c.loop-number.invariant)

pub returns : goal.returns
returns c = all_first c.args.triples.now c.args.streams c.loop-number.number _ (omega arith) c.loop-number.invariant
