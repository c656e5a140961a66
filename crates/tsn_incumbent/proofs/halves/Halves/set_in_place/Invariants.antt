use Rattle.tsn_incumbent.proofs.halves.Halves.set_in_place.Given as goal

abbrev pub ghosts-set_by : goal.ghosts-set_by
ghosts-set_by a = record { tally = a.tally }
