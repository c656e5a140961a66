-- The streams that use a link.
--     users_of                             of a network
--     users_in, with_user, AreUsersBefore, AreUsers      as a `Timing` lists them
use Rattle.std.specs.Prelude.{◌≡◌, ℕ, ◌+◌, ◌<◌, List, [], ◌∷◌, ◌++◌, map, flat_map, length, slice_index_or, slice_set}
use Rattle.std.specs.List.{range_with_len}
use Rattle.std.specs.Option.{option_map_or}
use Rattle.tsn_model.specs.Network.{Network, stream_count}
use Rattle.tsn_model.specs.Timing.{hop_on}
use Rattle.tsn_timing.specs.declared.users.User.{User}
use Rattle.tsn_timing.specs.declared.users.Users.{Users}

-- stream i with the hop on which it uses the link, if it does
abbrev pub user_on : Network → ℕ → ℕ → List User
user_on network link i = option_map_or (λ hop. record { stream = i; hop = hop } ∷ []) (hop_on network i link) []

-- the users of the link among the first n streams
abbrev pub users_before : Network → ℕ → ℕ → List User
users_before network n link = flat_map (user_on network link) (range_with_len 0 n)

-- the streams that use the link, ascending, and the hop of each
unfoldable pub users_of : Network → ℕ → List User
users_of network link = users_before network (stream_count network) link

-- the users that each list holds
abbrev pub users_in : List Users → List (List User)
users_in lists = map (λ (users : Users). users.list.items) lists

-- the lists with a user put last in that of a link
abbrev pub with_user : List (List User) → ℕ → User → List (List User)
with_user lists link user = slice_set lists link (slice_index_or lists link [] ++ user ∷ [])

-- each link's list has its users among the first n streams
pub record AreUsersBefore (network : Network) (n : ℕ) (lists : List (List User)) : Type 0 where
  pub long : length lists ≡ length network.links
  pub each : (link : ℕ) → link < length network.links → slice_index_or lists link [] ≡ users_before network n link

-- each link's list has its users
pub record AreUsers (network : Network) (lists : List Users) : Type 0 where
  pub made : users_in lists ≡ map (users_of network) (range_with_len 0 (length network.links))
