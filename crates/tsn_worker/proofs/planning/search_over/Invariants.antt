use Rattle.tsn_worker.proofs.planning.search_over.Given as goal

-- The names of the search are those of its parts: its word, of which network and for how many tellers that is,
-- the halves of their tallies, and how many events may be settled.
abbrev pub ghosts-search : goal.ghosts-search
ghosts-search g a = record { names = a.parts }
