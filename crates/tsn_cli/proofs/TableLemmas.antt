-- A schedule's gate lists can be replayed.
use Rattle.std.proofs.Common.{◌≡◌, ℕ, ◌<◌, ◌*◌, List, length, All, AllPairs, Bool, true, false, Option, Some, None, refl, sym, subst, arith}
use Rattle.std.specs.List.{Any}
use Rattle.std.proofs.lemmas.List.Elements.{All-nil}
use Rattle.tsn_model.specs.Network.{Network, IsWellFormed, route_link}
use Rattle.tsn_model.specs.Gates.{cycle_of}
use Rattle.tsn_model.specs.Bridge.{LinkGates, Background, IsFed}
use Rattle.tsn_model.proofs.Hops.{hop_uses}
use Rattle.tsn_gate.specs.GateLists.{IsUsed}
use Rattle.tsn_gate.specs.Merged.{AreListsBy}
use Rattle.tsn_replay.specs.Faults.{NamesLinks, KeepsLimits, IsListed, IsWithin, HasReplayFault}
use Rattle.tsn_replay.specs.declared.replay_fault.ReplayFault.{ReplayFault}
use Rattle.tsn_replay.specs.declared.replay_fault.ReplayFault.TheVariants.{UnknownLink, Limit, Memory}
use Rattle.tsn_replay.specs.Feeding.{background_for}
use Rattle.tsn_replay.specs.Records.{AreRowsOfRun, AreRowsOfEarlyRun}
use Rattle.tsn_replay.specs.declared.trace.Row.{Row}
use Rattle.tsn_timing.specs.Problem.{NamedNetwork}
use Rattle.tsn_cli.specs.declared.options.ReplayOptions.{ReplayOptions}
use Rattle.tsn_cli.specs.Tables.{IsRunBy, AreRowsBy}

-- lists that last the cycle, one for each link that a stream uses
record AreWhole (network : Network) (lists : List LinkGates) : Type 0 where
  whole : All (λ (list : LinkGates). cycle_of list.entries ≡ network.cycle) lists
  in_order : AllPairs (λ (a b : LinkGates). a.link < b.link) lists
  all_used : (link : ℕ) → IsUsed network link → Any (λ (list : LinkGates). list.link ≡ link) lists

are_whole : (network : Network) (offsets : List ℕ) (lists : List LinkGates) (merge : Option ℕ) → AreListsBy merge network offsets lists → AreWhole network lists
are_whole network offsets lists None are = record { whole = λ k d below. (are.wanted k d below).whole; in_order = are.in_order; all_used = are.all_used }
are_whole network offsets lists (Some least) are = record { whole = λ k d below. (are.kept k d below).whole; in_order = are.in_order; all_used = are.all_used }

module _ (network : Network) (formed : IsWellFormed network) (offsets : List ℕ) (lists : List LinkGates) (merge : Option ℕ) (are : AreListsBy merge network offsets lists) (exist : All (λ list. list.link < length network.links) lists) where
  wanted : AreWhole network lists
  wanted = are_whole network offsets lists merge are

  names : (is_greedy : Bool) → NamesLinks network lists (background_for is_greedy)
  names true = record {
    exist = exist;
    distinct = λ i j d order below same. let less = wanted.in_order i j d order below in omega (arith, less, same);
    used = λ i below k at. wanted.all_used (route_link network i k) (i, hop_uses network formed i below k at);
    waited = All-nil (λ frame. IsListed lists frame.link);
  }
  names false = record {
    exist = exist;
    distinct = λ i j d order below same. let less = wanted.in_order i j d order below in omega (arith, less, same);
    used = λ i below k at. wanted.all_used (route_link network i k) (i, hop_uses network formed i below k at);
    waited = All-nil (λ frame. IsListed lists frame.link);
  }

  keeps : (cycles : ℕ) (is_greedy : Bool) → KeepsLimits network lists cycles (background_for is_greedy)
  keeps cycles true = record { whole = wanted.whole; few = omega arith; within = All-nil (IsWithin (cycles * network.cycle)) }
  keeps cycles false = record { whole = wanted.whole; few = omega arith; within = All-nil (IsWithin (cycles * network.cycle)) }

  -- so they are refused for want of memory alone
  pub memory_alone : (cycles : ℕ) (is_greedy : Bool) (fault : ReplayFault) → HasReplayFault network lists cycles (background_for is_greedy) fault → fault ≡ Memory
  memory_alone cycles is_greedy UnknownLink fault = absurd (fault (names is_greedy))
  memory_alone cycles is_greedy Limit fault = absurd (fault.1 (keeps cycles is_greedy))
  memory_alone cycles is_greedy Memory fault = refl

-- ---- the rows of a replay, with frames that are early or without

module _ (options : ReplayOptions) (problem : NamedNetwork) (offsets : List ℕ) (lists : List LinkGates) (background : Background)
    (background_is : background ≡ background_for options.greedy) (rows : List Row) where
  pub rows_of_run : options.early ≡ None → AreRowsOfRun problem.network offsets lists options.cycles background rows
      → AreRowsBy options problem offsets lists rows
  rows_of_run early are = (
    are.run,
    subst (λ e. IsRunBy e problem.network offsets lists options.cycles are.run) (sym early) are.is_run,
    subst (λ b. IsFed problem.network lists options.cycles b are.run) background_is are.fed,
    are.are_rows,
  )

  pub rows_of_early_run : (slack : ℕ) → options.early ≡ Some slack → AreRowsOfEarlyRun problem.network offsets lists options.cycles slack background rows
      → AreRowsBy options problem offsets lists rows
  rows_of_early_run slack early are = (
    are.run,
    subst (λ e. IsRunBy e problem.network offsets lists options.cycles are.run) (sym early) (are.ready, are.is_run),
    subst (λ b. IsFed problem.network lists options.cycles b are.run) background_is are.fed,
    are.are_rows,
  )
