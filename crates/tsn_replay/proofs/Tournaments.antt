-- The tree of the ports' instants: when it is made, when a port changes, and that its root holds the least instant.
use Rattle.std.proofs.Common.{◌≡◌, ℕ, ◌+◌, ◌*◌, ◌-◌, ◌/◌, ◌≤◌, ◌<◌, List, length, get_or, slice_set, replicate, zero, suc, sym, ap, ◌∙◌, subst, arith, inl, inr}
use Rattle.std.proofs.lemmas.Bool.{cases_lt, cases_eq}
use Rattle.std.proofs.lemmas.List.{get_or-set_same, get_or-set_other, length-set, length-replicate, get_or-replicate}
use Rattle.std.proofs.Math.Nat.{min-le_left, min-le_right}
use Rattle.tsn_replay.specs.declared.port.Port.{Port}
use Rattle.tsn_replay.specs.Ports.{IsFirstPort, port_time, port_in}
use Rattle.tsn_replay.specs.Tournament.{most_ports, never, AreLesserBut, IsTournament}
use Rattle.tsn_replay.proofs.States.{port_set_same, port_set_other}

-- ---- the root

-- a node above the leaves is at most those below it
above_least : (leaves : ℕ) (times : List ℕ) → AreLesserBut 0 leaves times → (k : ℕ) → 1 ≤ k → k < leaves → (get_or times k 0 ≤ get_or times (2 * k) 0) × (get_or times k 0 ≤ get_or times (2 * k + 1) 0)
above_least leaves times lesser k some below = grind (arith, min-le_left, min-le_right)

root_upto : (leaves : ℕ) (times : List ℕ) → AreLesserBut 0 leaves times → (depth k : ℕ) → k ≤ depth → 1 ≤ k → k < 2 * leaves → get_or times 1 0 ≤ get_or times k 0
root_upto leaves times lesser zero k upto some below = absurd (omega arith)
root_upto leaves times lesser (suc depth) k upto some below = elim (cases_eq k 1) [
  | inl same ↦ subst (λ n. get_or times 1 0 ≤ get_or times n 0) (sym same) (omega arith)
  | inr differ ↦
      let before = root_upto leaves times lesser depth (k / 2) (omega arith) (omega arith) (omega arith) in
      let both = above_least leaves times lesser (k / 2) (omega arith) (omega arith) in
      let left = both.0 in
      let right = both.1 in
      grind arith
]

root_least : (leaves : ℕ) (times : List ℕ) → AreLesserBut 0 leaves times → (k : ℕ) → 1 ≤ k → k < 2 * leaves → get_or times 1 0 ≤ get_or times k 0
root_least leaves times lesser k some below = root_upto leaves times lesser k k (omega arith) some below

module _ (ports : List Port) (leaves : ℕ) (times : List ℕ) (is : IsTournament ports leaves times) (end : ℕ) where
  -- a leaf that holds the least instant is the first port's
  pub leaf_first : (leaf : ℕ) → end ≤ never → leaves ≤ leaf → leaf < 2 * leaves → get_or times leaf 0 ≡ get_or times 1 0 → get_or times 1 0 < end → IsFirstPort ports end (leaf - leaves)
  leaf_first leaf limit low high root soon =
      let place : leaves + (leaf - leaves) ≡ leaf = omega arith in
      elim (cases_lt (leaf - leaves) (length ports)) [
        | inl within ↦
            let here = sym (is.leaf (leaf - leaves) within) ∙ ap (λ k. get_or times k 0) place in
            record {
              within = within;
              in_time = omega arith;
              least = λ other below. let each = is.leaf other below in let fits = is.fits in let some = is.some in let least = root_least leaves times is.lesser (leaves + other) (omega arith) (omega arith) in omega arith;
            }
        | inr past ↦ grind arith
      ]

  -- where the root is late, each port is
  pub root_late : end ≤ get_or times 1 0 → (number : ℕ) → number < length ports → end ≤ port_time (port_in ports number)
  root_late late number below = let each = is.leaf number below in let fits = is.fits in let some = is.some in let least = root_least leaves times is.lesser (leaves + number) (omega arith) (omega arith) in omega arith

-- ---- a new tree

pub new_tournament : (ports : List Port) (leaves count : ℕ) → 1 ≤ leaves → leaves ≤ 2 * most_ports → count ≤ leaves → length ports ≡ count
    → ((number : ℕ) → number < count → port_time (port_in ports number) ≡ never) → IsTournament ports leaves (replicate (2 * leaves) never)
new_tournament ports leaves count some few fits long late = grind (arith, replicate, get_or-replicate, length-replicate)

-- ---- a port that changes

module _ (ports : List Port) (leaves : ℕ) (times : List ℕ) (is : IsTournament ports leaves times) (number : ℕ) (below : number < length ports) (port : Port) where
  -- once its leaf is written, the nodes above it are left
  pub leaf_written : AreLesserBut (leaves + number) leaves (slice_set times (leaves + number) (port_time port))
  leaf_written k some under not_above = grind (arith, get_or-set_other)

  pub set_tournament : (new : List ℕ) → length new ≡ length (slice_set times (leaves + number) (port_time port)) → AreLesserBut 0 leaves new
      → ((k : ℕ) → leaves ≤ k → get_or new k 0 ≡ get_or (slice_set times (leaves + number) (port_time port)) k 0) → IsTournament (slice_set ports number port) leaves new
  set_tournament new long lesser kept = grind (arith, length-set, get_or-set_same, port_set_same, get_or-set_other, port_set_other)
