use Rattle.tsn_solver.proofs.analysis.Analysis.+is_implied.Given as goal

-- it looks less deep each time
abbrev pub decreases-is_implied : goal.decreases-is_implied
decreases-is_implied l = l.depth
