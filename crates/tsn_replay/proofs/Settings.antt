-- What is handed in can be replayed, where it has no fault.
use Rattle.std.proofs.Common.{◌≡◌, ◌≢◌, ℕ, ◌*◌, ◌≤◌, ◌<◌, List, map, length, get_or, Option, Some, None, MatchOption, All, refl, ap, ◌∙◌, arith, mul-le-mul}
use Rattle.std.proofs.Math.Dec.{eqb}
use Rattle.std.proofs.lemmas.Bool.Decides.{Decides-eqb}
use Rattle.std.proofs.lemmas.List.{get_or_default, length-map}
use Rattle.std.proofs.lemmas.List.Elements.{All-map, All-contains}
use Rattle.std.proofs.lemmas.Map.Made.{IsDistinct-from_AllPairs}
use Rattle.std.proofs.lemmas.Map.Steps.{length-le_from_distinct_below}
use Rattle.std.proofs.lemmas.Map.Views.{Contains-from_any}
use Rattle.tsn_model.specs.Network.{Network, IsWellFormed, stream_count, route_link}
use Rattle.tsn_model.specs.Timing.{UsesLink}
use Rattle.tsn_model.specs.Schedule.{IsValid}
use Rattle.tsn_model.specs.Bridge.{LinkGates, BackgroundFrame, Background, frame_at}
use Rattle.tsn_model.specs.Bridge.Background.{nothing, greedy, frames}
use Rattle.tsn_model.proofs.Lists.{AllPairs-map}
use Rattle.tsn_model.proofs.Schedules.{offsets_within}
use Rattle.tsn_model.proofs.Limits.{hops-pos}
use Rattle.tsn_model.proofs.Hops.{hop_uses}
use Rattle.tsn_model.proofs.Routes.{occupancy-pos, window-le-cycle}
use Rattle.tsn_gate.proofs.Ascending.{shifts_ascend}
use Rattle.tsn_replay.specs.declared.replay_fault.ReplayFault.{ReplayFault}
use Rattle.tsn_replay.specs.Openings.{IsGivenFrame, HasLists, HasBackground}
use Rattle.tsn_replay.specs.Faults.{IsListed, NamesLinks, KeepsLimits, HasReplayFault}
use Rattle.tsn_replay.specs.Progress.{Setting, IsSetting}
use Rattle.tsn_replay.specs.Frames.{AreSpaced}

pub no_fault : (network : Network) (lists : List LinkGates) (cycles : ℕ) (background : Background) (found : Option ReplayFault) → ((fault : ReplayFault) → found ≡ Some fault → ⊥)
    → MatchOption found (NamesLinks network lists background × KeepsLimits network lists cycles background) (HasReplayFault network lists cycles background) → NamesLinks network lists background × KeepsLimits network lists cycles background
no_fault network lists cycles background None never both = both
no_fault network lists cycles background (Some fault) never has = absurd (never fault refl)

-- where the list of a link stands
listed_at : (lists : List LinkGates) (link : ℕ) → IsListed lists link → (number : ℕ) × (number < length lists) × ((d : LinkGates) → (get_or lists number d).link ≡ link)
listed_at lists link (number, list, below, is, same) = (number, below, λ d. ap (λ (g : LinkGates). g.link) (get_or_default lists number d list below ∙ is) ∙ same)

listed_exists : (network : Network) (lists : List LinkGates) (link : ℕ) → All (λ (list : LinkGates). list.link < length network.links) lists → IsListed lists link → link < length network.links
listed_exists network lists link exist (number, list, below, is, same) = grind arith

given_frame : (network : Network) (formed : IsWellFormed network) (lists : List LinkGates) (cycles : ℕ) (few : cycles ≤ 16) (list : List BackgroundFrame) → NamesLinks network lists (frames list) → KeepsLimits network lists cycles (frames list)
    → (number : ℕ) → number < length list → IsGivenFrame network lists (frame_at list number)
unfolding frame_at
given_frame network formed lists cycles few list names keeps number below =
    let none : BackgroundFrame = record { link = 0; wanted = 0; octets = 0 } in
    let listed = names.waited number none below in
    let within = keeps.within number none below in
    let soon = within.2 in
    let short = formed.short_cycle in
    let end : cycles * network.cycle ≤ 16 * 1000000000 = mul-le-mul few short in
    grind (arith, listed_exists, listed_at)

has_background : (network : Network) (formed : IsWellFormed network) (lists : List LinkGates) (cycles : ℕ) (few : cycles ≤ 16) (background : Background) → NamesLinks network lists background → KeepsLimits network lists cycles background
    → HasBackground network lists background
has_background network formed lists cycles few nothing names keeps = record {}
has_background network formed lists cycles few greedy names keeps = record {}
has_background network formed lists cycles few (frames list) names keeps = given_frame network formed lists cycles few list names keeps

-- a valid schedule's frames are spaced
pub valid_spaced : (network : Network) (offsets : List ℕ) → IsWellFormed network → IsValid network offsets → AreSpaced network
valid_spaced network offsets formed valid = record {
  within = λ i shift below sent.
      let first = link_of_first i below in
      let some = occupancy-pos network i (route_link network i 0) formed first in
      let end = window-le-cycle network offsets i shift (route_link network i 0) valid sent first in
      omega arith;
  ascend = λ i below. shifts_ascend network offsets i (route_link network i 0) formed valid (link_of_first i below);
}
  where
    link_of_first : (i : ℕ) → i < stream_count network → UsesLink network i (route_link network i 0)
    link_of_first i below = let some = hops-pos network formed i below in hop_uses network formed i below 0 (omega arith)

pub setting_right : (setting : Setting) → IsWellFormed setting.network → IsValid setting.network setting.offsets → setting.cycles ≤ 16
    → setting.slack ≤ 1000000 → NamesLinks setting.network setting.gates setting.background
    → KeepsLimits setting.network setting.gates setting.cycles setting.background → IsSetting setting
setting_right setting formed valid few short names keeps = record {
  formed = formed;
  count = valid.count;
  small = offsets_within setting.network setting.offsets valid;
  spaced = valid_spaced setting.network setting.offsets formed valid;
  few = few;
  short = short;
  lists = record { links = names.exist; distinct = names.distinct; used = λ i k i_below k_below. listed_at setting.gates (route_link setting.network i k) (names.used i i_below k k_below) };
  background = has_background setting.network formed setting.gates setting.cycles few setting.background names keeps;
}

-- there are no more lists than a network has links
pub lists_few : (network : Network) → IsWellFormed network → (gates : List LinkGates) → HasLists network gates → length gates ≤ 4096
lists_few network formed gates lists =
    let links = map (λ (item : LinkGates). item.link) gates in
    let exist = All-map (λ link. link < length network.links) (λ (item : LinkGates). item.link) gates lists.links in
    let distinct = IsDistinct-from_AllPairs {eq = eqb} Decides-eqb links (AllPairs-map (λ a b. a ≢ b) (λ (item : LinkGates). item.link) gates lists.distinct) in
    let few = length-le_from_distinct_below links (length network.links) distinct
    (λ link found. All-contains (λ l. l < length network.links) links link exist (Contains-from_any {eq = eqb} (λ x y same. (Decides-eqb x y).0 same) link links found)) in
    let size = length-map gates (λ (item : LinkGates). item.link) in
    omega arith
