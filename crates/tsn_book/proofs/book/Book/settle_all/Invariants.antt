use Rattle.std.proofs.Common.{◌≡◌, ◌++◌, List, map, reverse, vec_len}
use Rattle.tsn_book.specs.declared.event.Event.{Event}
use Rattle.tsn_book.specs.Event.{event_of}
use Rattle.tsn_book.specs.Book.{IsLawful}
use Rattle.tsn_book.proofs.Below.{book_after}
use Rattle.tsn_book.proofs.book.Book.settle_all.Given as goal

abbrev pub invariant-loop-event : goal.invariant-loop-event
invariant-loop-event l = record {
  taken : List Event;
  all : l.fn.events.items ≡ taken ++ reverse l.rest.items;
  settled : l.self ≡ book_after l.initial.self l.teller (map event_of taken);
  lawful : IsLawful l.self;
}

abbrev pub decreases-loop-event : goal.decreases-loop-event
decreases-loop-event l = vec_len l.rest
