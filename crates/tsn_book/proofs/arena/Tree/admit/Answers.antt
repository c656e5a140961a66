use Rattle.std.proofs.Common.{◌≡◌, ◌<◌, length, arith}
use Rattle.std.proofs.lemmas.Grind.{common_steps}
use Rattle.tsn_book.specs.Arena.{history_of}
use Rattle.tsn_book.proofs.Asking.{open_stop, stop_decides, length-history_of}
use Rattle.tsn_book.proofs.arena.Tree.admit.Goals as goal

pub returns-then-len-bounds : goal.returns-then-len-bounds
returns-then-len-bounds c =
    let self = c.args.self.now in
    let history = history_of self.places.origins self.events.items in
    let is_open = open_stop c.requires.tree c.args.path.now c.args.stop c.in-Open.place c.in-Open.is c.requires.stop in
    let count : length history ≡ length self.events.items = length-history_of self.places.origins self.events.items in
    (is_open, omega (arith, count, c.len.ensures.count, c.if-len-bounds.true), omega (arith, count, c.len-then-len-bounds.ensures.count))

pub is_met-requires-clause-decided : goal.is_met-requires-clause-decided
is_met-requires-clause-decided c =
    stop_decides c.requires.tree c.args.path.now c.args.stop c.in-Open.place c.in-Open.is c.requires.stop

pub returns-then-is_met : goal.returns-then-is_met
returns-then-is_met c =
    let self = c.args.self.now in
    let history = history_of self.places.origins self.events.items in
    let count : length history ≡ length self.events.items = length-history_of self.places.origins self.events.items in
    let below : length history < c.args.bounds.limit = omega (arith, count, c.len.ensures.count, c.if-len-bounds.false) in
    (c.in-Open.is, below, c.if-is_met.ensures)

pub returns-else-is_met : goal.returns-else-is_met
returns-else-is_met c =
    let self = c.args.self.now in
    let history = history_of self.places.origins self.events.items in
    let is_open = open_stop c.requires.tree c.args.path.now c.args.stop c.in-Open.place c.in-Open.is c.requires.stop in
    let count : length history ≡ length self.events.items = length-history_of self.places.origins self.events.items in
    let below : length history < c.args.bounds.limit = omega (arith, count, c.len.ensures.count, c.if-len-bounds.false) in
    (is_open, below, c.if-is_met.ensures, c.requires.best)

pub is_met-requires-clause-kept : goal.is_met-requires-clause-kept
is_met-requires-clause-kept c = grind (arith, common_steps) steps 2000000

pub is_met-requires-clause-proof : goal.is_met-requires-clause-proof
is_met-requires-clause-proof c = grind (arith, common_steps) steps 2000000
