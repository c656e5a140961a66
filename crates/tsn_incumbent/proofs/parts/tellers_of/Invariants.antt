use Rattle.std.proofs.Common.{◌≡◌, ◌-◌, ◌<◌, ◌≤◌, Some}
use Rattle.tsn_incumbent.specs.Halves.{halves_from}
use Rattle.tsn_incumbent.specs.Teller.{no_event, rest_of, tellers_from}
use Rattle.tsn_incumbent.specs.Desk.{others_from}
use Rattle.tsn_incumbent.proofs.parts.tellers_of.Given as goal

abbrev pub invariant-loop-share : goal.invariant-loop-share
invariant-loop-share g l = record {
  left : l.share-iterator.rest.items ≡ halves_from g.K.Named.names.halves (no_event g.K.Named.names.race.network) l.number (l.tellers - l.number);
  few : l.number ≤ l.tellers;
  rest : l.number < l.tellers → l.rest ≡ Some (rest_of g.K.Named.names l.number (l.tellers - l.number));
  all : l.all.items ≡ tellers_from g.K.Named.names 0 l.number;
  others : l.others.items ≡ others_from g.K.Named.names 0 l.number;
}
