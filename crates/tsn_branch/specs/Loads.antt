-- What is kept of a network for the load of its links.
--     SharedLink, shared_link     a link that two or more streams use
--     AreLoadsOf                  what is kept is that of a network
--     IsCalm                      a link that one of its users shows not to be loaded
--     IsFirstLoad                 the first link that is loaded by a list of offsets, and how
--     IsTightest, IsLoading       the same where there is one, and for a target and a limit at once
use Rattle.std.specs.Prelude.{◌≡◌, ℕ, ◌+◌, ◌≤◌, ◌<◌, nat_le, List, map, take, filter, length, is_some, sum_by, slice_get, Some, Option, MatchOption, All, Contains, ℤ, pos, ◌+ℤ◌, ◌-ℤ◌, ◌≤ℤ◌, ◌<ℤ◌}
use Rattle.std.specs.List.{range_with_len}
use Rattle.tsn_model.specs.declared.bounds.TheConstants.{MAX_START}
use Rattle.tsn_model.specs.Network.{Network}
use Rattle.tsn_model.specs.Timing.{separation, arrival, hop_on, start_on}
use Rattle.tsn_model.specs.Schedule.{offset_of}
use Rattle.tsn_model.specs.Certificate.{Entry, least}
use Rattle.tsn_diff.specs.Offsets.{LeastOffsets, chain_of}
use Rattle.tsn_branch.specs.Links.{users_of, shared_links, busy_by, load_by, IsUnloaded}
use Rattle.tsn_branch.specs.declared.loads.User.{User}
use Rattle.tsn_branch.specs.declared.loads.LinkTable.{LinkTable}
use Rattle.tsn_branch.specs.declared.loads.FirstLoad.{FirstLoad}
use Rattle.tsn_branch.specs.declared.loads.FirstLoad.TheVariants.{Overload, Load}
use Rattle.tsn_branch.specs.declared.loads.Loading.{Loading}
use Rattle.tsn_branch.specs.declared.loads.Loading.TheVariants.{Closed, Open}

-- a link, when its streams start there from their offsets on, how long they keep it, and their least tail
pub record SharedLink : Type 0 where
  pub link : ℕ
  pub users : List User
  pub work : ℕ
  pub tail : ℤ

-- a stream on the link
abbrev pub user_on : Network → ℕ → ℕ → User
user_on network link i = record { stream = i; start = start_on network i link }

-- what some of the link's streams come to
unfoldable pub link_with : Network → ℕ → List ℕ → SharedLink
link_with network link streams = record {
  link = link;
  users = map (user_on network link) streams;
  work = sum_by (λ i. separation network i link) streams;
  tail = least (map (λ i. pos (arrival network i) -ℤ pos (start_on network i link + separation network i link)) streams);
}

-- those of the first n streams that use the link
abbrev pub users_upto : Network → ℕ → ℕ → List ℕ
users_upto network link n = filter (λ i. is_some (hop_on network i link)) (range_with_len 0 n)

-- those of the first n links that two or more streams use
abbrev pub shared_upto : Network → ℕ → List ℕ
shared_upto network n = filter (λ link. nat_le 2 (length (users_of network link))) (range_with_len 0 n)

unfoldable pub shared_link : Network → ℕ → SharedLink
shared_link network link = link_with network link (users_of network link)

-- this is what is kept of the network
abbrev pub AreLoadsOf : Network → List SharedLink → Type 0
AreLoadsOf network links = links ≡ map (shared_link network) (shared_links network)

-- the link that a table of the code is
abbrev pub link_in : LinkTable → SharedLink
link_in table = record { link = table.link; users = table.users.items; work = table.work; tail = table.tail }

-- one of the first n streams, early on its link
pub record IsEarly (n : ℕ) (user : User) : Type 0 where
  pub counted : user.stream < n
  pub early : user.start ≤ MAX_START

-- a user's first frame with the chain that shows its least offset
abbrev pub entry_by : LeastOffsets → User → Entry
entry_by lowest user = record { frame = record { stream = user.stream; shift = 0 }; chain = chain_of lowest user.stream }

-- the earliest instant at which one of the users starts by the offsets
abbrev pub head_in : List ℕ → List User → ℤ
head_in offsets users = least (map (λ user. pos (offset_of offsets user.stream + user.start)) users)

-- one of the link's users, put at its offset, starts there so early that the link isn't loaded
pub record IsCalm (offsets : List ℕ) (cycle target : ℕ) (link : SharedLink) : Type 0 where
  pub user : User
  pub there : Contains link.users user
  pub done : offset_of offsets user.stream + user.start + link.work ≤ cycle
  pub sooner : (pos (offset_of offsets user.stream + user.start + link.work) +ℤ link.tail) <ℤ pos target

-- the shared link of this index is loaded, and none before it is
pub record IsLoadedAt (network : Network) (offsets : List ℕ) (target link_index link : ℕ) : Type 0 where
  pub there : slice_get (shared_links network) link_index ≡ Some link
  pub unloaded_before : All (IsUnloaded network offsets target) (take link_index (shared_links network))

-- the first shared link that isn't done within the cycle, or else asks for a flowspan of at least the target
abbrev pub IsFirstLoad : Network → List ℕ → ℕ → FirstLoad → Type 0
IsFirstLoad network offsets target (Overload link_index) =
    (link : ℕ) × IsLoadedAt network offsets target link_index link × (pos network.cycle <ℤ busy_by network offsets link)
IsFirstLoad network offsets target (Load link_index bound) =
    (link : ℕ) × IsLoadedAt network offsets target link_index link × (busy_by network offsets link ≤ℤ pos network.cycle)
    × (pos bound ≡ load_by network offsets link) × (target ≤ bound)

-- the first shared link that is loaded, where one is
abbrev pub IsTightest : Network → List ℕ → ℕ → Option FirstLoad → Type 0
IsTightest network offsets target found = MatchOption found (All (IsUnloaded network offsets target) (shared_links network)) (IsFirstLoad network offsets target)

-- a link that is loaded for a lesser target is so for this one
abbrev pub Reaches : ℕ → FirstLoad → Type 0
Reaches target (Overload link_index) = Unit {0}
Reaches target (Load link_index bound) = target ≤ bound

-- the first shared link that is loaded for the target; or where none is, the first that is for the limit
abbrev pub IsLoading : Network → List ℕ → ℕ → ℕ → Loading → Type 0
IsLoading network offsets target limit (Closed found) = IsFirstLoad network offsets target found
IsLoading network offsets target limit (Open found) = All (IsUnloaded network offsets target) (shared_links network) × IsTightest network offsets limit found
