-- What tellers have seen and posted.
use Rattle.std.specs.Prelude.{◌≡◌, ℕ, zero, suc, ◌+◌, ◌<◌, ◌≤◌, min, not, cond, ltb, eqb, List, [], ◌∷◌, All, count_by, filter}
use Rattle.atomic_table.specs.Seated.{TableId}
use Rattle.tsn_model.specs.Network.{Network}
use Rattle.tsn_incumbent.specs.Flowspans.{no_flowspan}
use Rattle.tsn_incumbent.specs.declared.standing.Standing.{Standing}

-- the least of c and of f of each element
abbrev pub least : {X : Type 0} → (X → ℕ) → ℕ → List X → ℕ
least f c [] = c
least f c (x ∷ xs) = min (f x) (least f c xs)

-- nothing seen or posted below c
abbrev pub fresh : ℕ → ℕ → Standing
fresh c number = record { number = number; seen = c; posted = c; steps = 0 }

-- the count numbers from first on
abbrev pub fresh_from : ℕ → ℕ → ℕ → List Standing
fresh_from c first zero = []
fresh_from c first (suc count) = fresh c first ∷ fresh_from c (suc first) count

-- a load that found the word
abbrev pub saw : ℕ → Standing → Standing
saw word p = record { number = p.number; seen = min p.seen word; posted = p.posted; steps = p.steps + 1 }

-- a fetch-min with a flowspan
abbrev pub put : ℕ → Standing → Standing
put flowspan p = record { number = p.number; seen = min p.seen flowspan; posted = min p.posted flowspan; steps = p.steps + 1 }

-- the first number saw the word
abbrev pub observed : ℕ → List Standing → List Standing
observed word [] = []
observed word (p ∷ ps) = saw word p ∷ ps

-- the first number posted a flowspan
abbrev pub posted : ℕ → List Standing → List Standing
posted flowspan [] = []
posted flowspan (p ∷ ps) = put flowspan p ∷ ps

-- how often the number stands here
abbrev pub times : ℕ → List Standing → ℕ
times number = count_by (λ p. eqb p.number number)

abbrev pub alone : ℕ → List Standing → List Standing
alone number = filter (λ p. eqb p.number number)

abbrev pub without : ℕ → List Standing → List Standing
without number = filter (λ p. not (eqb p.number number))

-- one more standing, before the greater numbers
abbrev pub placed : Standing → List Standing → List Standing
placed p [] = p ∷ []
placed p (q ∷ qs) = cond (ltb p.number q.number) (p ∷ q ∷ qs) (q ∷ placed p qs)

abbrev pub merged : List Standing → List Standing → List Standing
merged [] qs = qs
merged (p ∷ ps) qs = placed p (merged ps qs)

-- the number is at most all that these saw or posted
abbrev pub IsAtMostKnown : ℕ → List Standing → Type 0
IsAtMostKnown word = All (λ p. (word ≤ p.seen) × (word ≤ p.posted))

abbrev pub least_posted : Network → List Standing → ℕ
least_posted network = least (λ p. p.posted) (no_flowspan network)

-- which word it is, of which network, and for how many tellers
pub record Race : Type 0 where
  pub table : TableId
  pub network : Network
  pub tellers : ℕ

-- what a seat at the word holds: what its tellers have seen and posted, each by its number
pub record Seated : Type 0 where
  pub race : Race
  pub standings : List Standing

-- the word in the end, and the seat that was closed
pub record Ended : Type 0 where
  pub word : ℕ
  pub seat : Seated

-- the seat holds each teller's number
abbrev pub HoldsAll : Seated → Type 0
HoldsAll seat = (number : ℕ) → number < seat.race.tellers → times number seat.standings ≡ 1
