-- What the program's events stand for.
use Rattle.tsn_model.specs.Search as search
use Rattle.tsn_conflict.specs.Outcome.{outcome_of}
use Rattle.tsn_book.specs.declared.event.Event.{Event}

abbrev pub event_of : Event → search.Event
event_of event = record { path = event.node; outcome = outcome_of event.look }
