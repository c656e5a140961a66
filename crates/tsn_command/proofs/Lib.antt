mod LawLemmas
