-- A network whose streams are held to offsets is within its limits.
use Rattle.std.proofs.Common.{◌≡◌, ℕ, zero, suc, ◌+◌, ◌≤◌, ◌<◌, List, length, take, Option, Some, None, refl, sym, ◌∙◌, subst, arith}
use Rattle.std.proofs.lemmas.List.{length-map, take_all}
use Rattle.tsn_model.specs.Network.{Network, IsWellFormed, stream_count}
use Rattle.tsn_model.specs.Held.{had, held, AreInLimits}
use Rattle.tsn_model.proofs.Held.{same_count}
use Rattle.tsn_model.proofs.Holding.{held_none, held_more, held_no_more, well_held}
use Rattle.tsn_net.specs.Document.{Document}
use Rattle.tsn_net.specs.Conditions.{fault_of}
use Rattle.tsn_net.specs.Problem.{stream_of, offset_at, cycle_of, node_names_of, links_of, free_network_of, offsets_of, network_of}
use Rattle.tsn_net.proofs.WellFormed.{well_formed, offsets_within}

module _ (network : Network) (offsets : List (Option ℕ)) (formed : IsWellFormed network) (limits : AreInLimits offsets)
    (count : length offsets ≡ stream_count network) where
  IsFormed : ℕ → Type 0
  IsFormed i = IsWellFormed (held network (take i offsets))

  next : (i : ℕ) → i < stream_count network → IsFormed i → (found : Option ℕ) → had offsets i ≡ found → IsFormed (i + 1)
  unfolding IsFormed
  next i below so_far None is = subst IsWellFormed (held_no_more network offsets i below is) so_far
  next i below so_far (Some offset) is =
      subst IsWellFormed (held_more network offsets i below offset is)
      (well_held (held network (take i offsets)) so_far i offset (rw (same_count network (take i offsets)) below)
      (limits i None (omega (arith, below, count)) offset is))

  up_to : (i : ℕ) → i ≤ stream_count network → IsFormed i
  unfolding IsFormed
  up_to zero within = subst IsWellFormed (held_none network) formed
  up_to (suc i) within =
      let one_more : i + 1 ≡ suc i = omega arith in
      subst IsFormed one_more (next i (omega (arith, within)) (up_to i (omega (arith, within))) (had offsets i) refl)

  held_formed : IsWellFormed (held network offsets)
  unfolding IsFormed
  held_formed =
      subst (λ found. IsWellFormed (held network found)) (take_all (stream_count network) offsets (omega (arith, count)))
      (up_to (stream_count network) (omega arith))

-- a document without fault states a network within its limits
pub stated_formed : (d : Document) → fault_of d ≡ None → IsWellFormed (network_of d)
stated_formed d none =
    held_formed (free_network_of d) (offsets_of d) (well_formed d none) (offsets_within d none)
    (length-map d.streams offset_at ∙ sym (length-map d.streams (stream_of (cycle_of d) (node_names_of d) (links_of d))))
