use Rattle.std.proofs.Common.{◌≡◌, ◌<◌, ◌≤◌, ◌-◌, ◌++◌, length, take, arith, refl, sym, ap, ◌∙◌}
use Rattle.std.specs.List.{flat_map, slice_index_or}
use Rattle.std.specs.Vec.{with_items}
use Rattle.std.proofs.lemmas.Grind.{common_steps}
use Rattle.tsn_book.specs.declared.log.Settled.{Settled}
use Rattle.tsn_book.specs.declared.log.Piece.{Piece}
use Rattle.tsn_book.specs.Log.{Logged, items_of}
use Rattle.tsn_book.proofs.Closing.{written_back}
use Rattle.tsn_book.proofs.Pieces.{SameButOne, stands_in, read_full, read_last, written_last, written_pieced, written_counted, written_others}
use Rattle.tsn_book.proofs.log.Log.take.Goals as goal

pub returns-then-number-self-clause-look : goal.returns-then-number-self-clause-look
returns-then-number-self-clause-look c =
    let inside = c.self.inside in
    let number = c.args.number in
    let items = flat_map items_of inside.full.items ++ take inside.settled inside.last.items in
    let within : number < length items = omega (arith, c.requires.within, ap (λ (log : Logged). length log.items) c.self.view_is) in
    let from : inside.before ≤ number = omega (arith, c.if-number-self.true) in
    λ d.
    c.take_at.ensures.look d
    ∙ ap (λ events. (slice_index_or events (number - inside.before) d).look) c.deref_mut.ensures.value
    ∙ ap (λ (event : Settled). event.look) (sym (read_last c.self.invariant number from within d))
    ∙ ap (λ (log : Logged). (slice_index_or log.items number d).look) c.self.view_is

pub returns-then-number-self-clause-others : goal.returns-then-number-self-clause-others
returns-then-number-self-clause-others c =
    let inside = c.self.inside in
    let full = inside.full.items in
    let last = inside.last.items in
    let number = c.args.number in
    let from : inside.before ≤ number = omega (arith, c.if-number-self.true) in
    let now = c.take_at.new.piece in
    let as_many : length now ≡ length last = c.take_at.ensures.counted ∙ ap length c.deref_mut.ensures.value in
    let whole = written_back now last inside.last.len (omega (arith, inside.last.ok)) as_many in
    let same : SameButOne (number - inside.before) now last =
    λ other apart d. c.take_at.ensures.others other apart d ∙ ap (λ events. slice_index_or events other d) c.deref_mut.ensures.value in
    λ other apart d.
    ap (λ events. slice_index_or (flat_map items_of full ++ take inside.settled events) other d) whole
    ∙ written_last c.self.invariant number from now as_many same other apart d
    ∙ ap (λ (log : Logged). slice_index_or log.items other d) c.self.view_is

pub invariant_of-self-else-number-self : goal.invariant_of-self-else-number-self
invariant_of-self-else-number-self c =
    let was = c.index_mut-piece.result.now in
    let now = c.take_at-else-number-self.new.piece in
    let piece : Piece = record { first = was.first; list = with_items was.list now } in
    let as_many : length now ≡ length (items_of was) = c.take_at-else-number-self.ensures.counted ∙ ap length c.deref_mut-else-number-self.ensures.value in
    let whole = written_back now was.list.items was.list.len (omega (arith, was.list.ok)) as_many in
    written_pieced c.self.invariant c.piece_of-at.result was piece c.index_mut-piece.ensures.value (ap length whole ∙ as_many) refl

pub returns-else-number-self-clause-look : goal.returns-else-number-self-clause-look
returns-else-number-self-clause-look c =
    let inside = c.self.inside in
    let full = inside.full.items in
    let number = c.args.number in
    let k = c.piece_of-at.result in
    let was = c.index_mut-piece.result.now in
    let found = c.piece_of-at.ensures in
    let stands = stands_in c.deref.result.now full c.deref.ensures.value number k was c.index_mut-piece.ensures.value found.piece (found.from was)
    (found.to was) in
    λ d.
    c.take_at-else-number-self.ensures.look d
    ∙ ap (λ events. (slice_index_or events (number - was.first) d).look) c.deref_mut-else-number-self.ensures.value
    ∙ ap (λ (event : Settled). event.look) (sym (read_full full c.self.invariant.numbered (take inside.settled inside.last.items) number k was stands d))
    ∙ ap (λ (log : Logged). (slice_index_or log.items number d).look) c.self.view_is

pub returns-else-number-self-clause-counted : goal.returns-else-number-self-clause-counted
returns-else-number-self-clause-counted c =
    let was = c.index_mut-piece.result.now in
    let now = c.take_at-else-number-self.new.piece in
    let piece : Piece = record { first = was.first; list = with_items was.list now } in
    let as_many : length now ≡ length (items_of was) = c.take_at-else-number-self.ensures.counted ∙ ap length c.deref_mut-else-number-self.ensures.value in
    let whole = written_back now was.list.items was.list.len (omega (arith, was.list.ok)) as_many in
    written_counted c.self.invariant c.piece_of-at.result was piece c.index_mut-piece.ensures.value (ap length whole ∙ as_many)
    ∙ ap (λ (log : Logged). length log.items) c.self.view_is

pub returns-else-number-self-clause-others : goal.returns-else-number-self-clause-others
returns-else-number-self-clause-others c =
    let inside = c.self.inside in
    let full = inside.full.items in
    let number = c.args.number in
    let k = c.piece_of-at.result in
    let was = c.index_mut-piece.result.now in
    let now = c.take_at-else-number-self.new.piece in
    let piece : Piece = record { first = was.first; list = with_items was.list now } in
    let found = c.piece_of-at.ensures in
    let stands = stands_in c.deref.result.now full c.deref.ensures.value number k was c.index_mut-piece.ensures.value found.piece (found.from was)
    (found.to was) in
    let as_many : length now ≡ length (items_of was) = c.take_at-else-number-self.ensures.counted ∙ ap length c.deref_mut-else-number-self.ensures.value in
    let whole = written_back now was.list.items was.list.len (omega (arith, was.list.ok)) as_many in
    let same : SameButOne (number - was.first) (items_of piece) (items_of was) =
    λ other apart d. ap (λ events. slice_index_or events other d) whole ∙ c.take_at-else-number-self.ensures.others other apart d
    ∙ ap (λ events. slice_index_or events other d) c.deref_mut-else-number-self.ensures.value in
    λ other apart d.
    written_others c.self.invariant k was piece c.index_mut-piece.ensures.value (ap length whole ∙ as_many) number stands same other apart d
    ∙ ap (λ (log : Logged). slice_index_or log.items other d) c.self.view_is

pub take_at-requires : goal.take_at-requires
take_at-requires c = grind (arith, common_steps) steps 2000000

pub invariant_of-self : goal.invariant_of-self
invariant_of-self c = grind (arith, common_steps) steps 2000000

pub returns-then-number-self-clause-counted : goal.returns-then-number-self-clause-counted
returns-then-number-self-clause-counted c = grind (arith, common_steps) steps 2000000
