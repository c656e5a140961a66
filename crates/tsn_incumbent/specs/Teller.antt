-- What a teller knows.
--     Known, IsEven                 what it has seen, posted and settled
--     Keeps                         what every teller keeps to
--     settled, settled_all          one more event, and several
--     OnlyLastSolved                outcomes of which at most the last is solved
--     fresh_teller, tellers_from    tellers that have settled nothing
use Rattle.std.specs.Prelude.{◌≡◌, ℕ, zero, suc, ◌<◌, ◌≤◌, false, List, [], ◌∷◌, ◌++◌, All}
use Rattle.tsn_model.specs.Network.{Network}
use Rattle.tsn_model.specs.Certificate.{beyond}
use Rattle.tsn_model.specs.Search.{Outcome, tally_as}
use Rattle.tsn_conflict.specs.Outcome.{IsUnsolved}
use Rattle.tsn_model.specs.Gathering.{tally_with}
use Rattle.tsn_incumbent.specs.Flowspans.{no_flowspan}
use Rattle.tsn_incumbent.specs.Standings.{Seated, fresh, fresh_from}
use Rattle.tsn_model.specs.declared.Tally.{Tally}
use Rattle.tsn_incumbent.specs.Halves.{Half, half}
use Rattle.tsn_incumbent.specs.declared.standing.Standing.{Standing}
use Rattle.tsn_incumbent.specs.Names.{Names}

-- what a teller has seen and posted, and its share: how many events it settled, the least bound that it pruned by, and the least flowspan that it solved
pub record Known : Type 0 where
  pub standing : Standing
  pub tally : Tally

abbrev pub nothing : Standing
nothing = record { number = 0; seen = 0; posted = 0; steps = 0 }

-- the one standing of a seat
abbrev pub head_of : List Standing → Standing
head_of [] = nothing
head_of (p ∷ ps) = p

-- the seat and the half are those of one number of this search; the least bound pruned is worse than what was seen, and the least flowspan solved is at most what was posted
pub record Keeps (names : Names) (number : ℕ) (seat : Seated) (share : Half) : Type 0 where
  pub sits : seat ≡ record { race = names.race; standings = head_of seat.standings ∷ [] }
  pub shares : share ≡ half names.halves number false share.tally
  pub numbered : (head_of seat.standings).number ≡ number
  pub within : number < names.race.tellers
  pub pruned : beyond names.race.network (head_of seat.standings).seen ≤ share.tally.pruned
  pub solved : share.tally.solved ≤ (head_of seat.standings).posted

-- it has posted the least flowspan that it solved
abbrev pub IsEven : Known → Type 0
IsEven known = known.tally.solved ≡ known.standing.posted

-- its share takes an event
abbrev pub settled : Outcome → Known → Known
settled outcome known = record { standing = known.standing; tally = tally_with known.tally outcome }

-- a tally with several more events
abbrev pub tally_with_all : Tally → List Outcome → Tally
tally_with_all tally [] = tally
tally_with_all tally (outcome ∷ outcomes) = tally_with_all (tally_with tally outcome) outcomes

-- its share takes several events, one after another
abbrev pub settled_all : List Outcome → Known → Known
settled_all outcomes known = record { standing = known.standing; tally = tally_with_all known.tally outcomes }

-- there is a last outcome, and none before it is solved
pub record OnlyLastSolved (outcomes : List Outcome) : Type 0 where
  pub front : List Outcome
  pub last : Outcome
  pub is : outcomes ≡ front ++ last ∷ []
  pub unsolved : All IsUnsolved front

-- the tally of no event
abbrev pub no_event : Network → Tally
no_event network = tally_as 0 (no_flowspan network) (no_flowspan network)

-- the seat of count numbers from first on, with nothing seen or posted
abbrev pub rest_of : Names → ℕ → ℕ → Seated
rest_of names first count = record { race = names.race; standings = fresh_from (no_flowspan names.race.network) first count }

abbrev pub fresh_teller : Network → ℕ → Known
fresh_teller network number = record { standing = fresh (no_flowspan network) number; tally = no_event network }

-- the count tellers from first on, in order, with nothing settled
abbrev pub tellers_from : Names → ℕ → ℕ → List Known
tellers_from names first zero = []
tellers_from names first (suc count) = fresh_teller names.race.network first ∷ tellers_from names (suc first) count
