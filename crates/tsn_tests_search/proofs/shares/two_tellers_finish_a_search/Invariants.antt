use Rattle.tsn_tests_search.proofs.shares.two_tellers_finish_a_search.Given as goal

abbrev pub ghosts-finish : goal.ghosts-finish
ghosts-finish g a = record { names = a.parts }
