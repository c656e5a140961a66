-- A link that one of its users shows not to be loaded.
use Rattle.std.proofs.Common.{◌≡◌, ℕ, ◌+◌, ◌<◌, List, All, length, map, take, pos, ◌≤ℤ◌, arith}
use Rattle.std.specs.List.{slice_index_or}
use Rattle.std.proofs.lemmas.Int.{ints}
use Rattle.std.proofs.lemmas.List.Elements.{All-more, All-contains}
use Rattle.tsn_model.specs.Network.{Network}
use Rattle.tsn_model.specs.Schedule.{offset_of}
use Rattle.tsn_model.specs.Certificate.{least}
use Rattle.tsn_model.proofs.Soundness.{least-le}
use Rattle.tsn_model.proofs.Lists.{All-unmap}
use Rattle.tsn_branch.specs.Links.{shared_links, busy_by, load_by, IsUnloaded}
use Rattle.tsn_branch.specs.declared.loads.User.{User}
use Rattle.tsn_branch.specs.Loads.{SharedLink, IsCalm, shared_link}
use Rattle.tsn_branch.proofs.Loading.{head_is, work_is, tail_is}

pub calm_unloaded : (network : Network) (offsets : List ℕ) (target link : ℕ) (found : SharedLink) → found ≡ shared_link network link → IsCalm offsets network.cycle target found → IsUnloaded network offsets target link
unfolding busy_by load_by
calm_unloaded network offsets target link found is calm =
    let user = calm.user in
    let instants = map (λ (u : User). pos (offset_of offsets u.stream + u.start)) found.users in
    let all = All-unmap (λ x. least instants ≤ℤ x) (λ (u : User). pos (offset_of offsets u.stream + u.start)) found.users (least-le instants) in
    let low = All-contains (λ (u : User). least instants ≤ℤ pos (offset_of offsets u.stream + u.start)) found.users user all calm.there in
    let head = head_is network link found is offsets in
    let work = work_is network link found is in
    let tail = tail_is network link found is in
    let done = calm.done in
    let sooner = calm.sooner in
    record { within_cycle = omega (arith, ints); below_target = omega (arith, ints) }

pub calm_more : (network : Network) (offsets : List ℕ) (target place : ℕ) (found : SharedLink) → place < length (shared_links network) → found ≡ shared_link network (slice_index_or (shared_links network) place 0)
    → IsCalm offsets network.cycle target found
    → All (IsUnloaded network offsets target) (take place (shared_links network)) → All (IsUnloaded network offsets target) (take (place + 1) (shared_links network))
calm_more network offsets target place found below is calm before =
    All-more (IsUnloaded network offsets target) (shared_links network) place 0 below before (calm_unloaded network offsets target (slice_index_or (shared_links network) place 0) found is calm)
