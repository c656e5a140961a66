use Rattle.std.proofs.Common.{take, sym, ap, ◌∙◌, arith}
use Rattle.std.specs.List.{slice_index_or}
use Rattle.std.proofs.lemmas.Grind.{common_steps}
use Rattle.tsn_book.specs.Log.{Logged}
use Rattle.tsn_book.proofs.Pieces.{stands_in, read_full}
use Rattle.tsn_book.proofs.log.Log.get.Goals as goal

pub returns-else-number-self : goal.returns-else-number-self
returns-else-number-self c =
    let inside = c.self.inside in
    let full = inside.full.items in
    let number = c.args.number in
    let k = c.piece_of.result in
    let piece = c.index-piece.result.now in
    let read = c.index-else-number-self.result.now in
    let found = c.piece_of.ensures in
    let stands = stands_in c.deref.result.now full c.deref.ensures.value number k piece c.index-piece.ensures found.piece (found.from piece) (found.to piece) in
    c.index-else-number-self.ensures
    ∙ sym (read_full full c.self.invariant.numbered (take inside.settled inside.last.items) number k piece stands read)
    ∙ ap (λ (log : Logged). slice_index_or log.items number read) c.self.view_is

pub returns-then-number-self : goal.returns-then-number-self
returns-then-number-self c = grind (arith, common_steps) steps 2000000
