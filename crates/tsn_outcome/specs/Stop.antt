-- What is known where a search was stopped.
--     span_or         a number of nanoseconds, or these words
--     is_least        whether the best schedule is known to be the least
--     known_text      the line on it, by whether it is
--     stop_text       the line on it
use Rattle.std.specs.Prelude.{ℕ, List, ◌++◌, codes, decimal, nat_eq, Bool, true, false, Option, Some, None}
use Rattle.tsn_outcome.specs.declared.stop.Stop.{Stop}

-- a number of nanoseconds, if there is one, and else these words
abbrev pub span_or : List ℕ → Option ℕ → List ℕ
span_or words None = words
span_or words (Some span) = decimal span

-- the best schedule is known to be the least: none finishes before it
abbrev pub is_least : Option ℕ → ℕ → Bool
is_least None bound = false
is_least (Some best) bound = nat_eq best bound

-- the bound; where the best schedule is the least, also that it is, and what writes a certificate of that
abbrev pub bound_text : Bool → ℕ → List ℕ → List ℕ
bound_text false bound writer = decimal bound
bound_text true bound writer = decimal bound ++ (codes ": that is the least flowspan, and " ++ (writer ++ codes " writes its certificate"))

abbrev pub known_text : Bool → Option ℕ → ℕ → List ℕ → List ℕ
known_text least best bound writer =
    codes "best " ++ (span_or (codes "none") best ++ (codes ", and no schedule finishes before " ++ bound_text least bound writer))

-- the line, without its end
abbrev pub stop_text : Stop → List ℕ → List ℕ
stop_text stop writer = known_text (is_least stop.best stop.bound) stop.best stop.bound writer
