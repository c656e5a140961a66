use Rattle.std.proofs.Common.{◌-◌, ◌∙◌, ◌<◌, sym, take, length, arith}
use Rattle.std.proofs.lemmas.Option.{slice_get_within, get_or_from_slice_get}
use Rattle.tsn_conflict.proofs.Paths.{by_last}
use Rattle.tsn_conflict.proofs.node.Node.last_side.Goals as goal

pub returns-in-Some : goal.returns-in-Some
returns-in-Some c =
    let path = c.deref.result.now in
    let last = c.in-Some.last.now in
    let there = sym c.in-Some.ensures.value in
    let within : length path - 1 < length path = slice_get_within path (length path - 1) last there in
    let at = sym (get_or_from_slice_get path (length path - 1) last last there) in
    let whole = by_last path last (omega arith) at in
    (take (length path - 1) path, last.triple, sym c.self.view_is ∙ sym c.deref.ensures.value ∙ whole)
