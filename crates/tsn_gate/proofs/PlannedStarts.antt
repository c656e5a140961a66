-- The starts of a link's windows are those that the schedule plans there.
use Rattle.std.proofs.Common.{◌≡◌, ℕ, ◌<◌, List, length, ap, arith, inl, inr}
use Rattle.std.proofs.Math.ListN.{length-map}
use Rattle.std.proofs.lemmas.Bool.{cases_lt}
use Rattle.std.proofs.lemmas.List.Elements.{All-map}
use Rattle.tsn_model.specs.declared.Frame.{Frame}
use Rattle.tsn_model.specs.Network.{Network, IsWellFormed}
use Rattle.tsn_model.specs.Timing.{Sends, UsesLink}
use Rattle.tsn_model.specs.Tolerance.{planned_on, AreStartsOn}
use Rattle.tsn_model.proofs.Lists.{AllPairs-map, Contains-map}
use Rattle.tsn_gate.specs.declared.windows.Window.{Window}
use Rattle.tsn_gate.specs.Windows.{window_of, AreWindowsOf, AreWindows, starts_of}
use Rattle.tsn_gate.specs.GateLists.{IsUsed}
use Rattle.tsn_gate.proofs.Wanted.{none_used}

module _ (network : Network) (offsets : List ℕ) (link : ℕ) (windows : List Window) (all : AreWindowsOf network offsets link windows)
    (are : AreWindows network.cycle windows) where
  pub AreStartsOn-windows : AreStartsOn network offsets link (starts_of windows)
  unfolding window_of planned_on
  AreStartsOn-windows = record {
    in_order = AllPairs-map ◌<◌ (λ (w : Window). w.start) windows
        (λ j k d order below.
        let apart = are.in_order j k d order below in
        let some = are.some_length j d (omega arith) in
        omega arith);
    used = All-map
        (λ (start : ℕ). (i : ℕ) × (shift : ℕ) × UsesLink network i link × Sends network i shift × (start ≡ planned_on network offsets link i shift))
        (λ (w : Window). w.start) windows
        (λ k d below.
        let used = all.used k d below in
        (used.0.stream, used.0.shift, used.1.uses, used.1.sent, ap (λ (w : Window). w.start) used.2));
    all_uses = λ i shift uses sent.
        let frame : Frame = record { stream = i; shift = shift } in
        Contains-map (λ (w : Window). w.start) windows (window_of network offsets link frame) (all.all_uses frame (record { sent = sent; uses = uses }));
  }

  -- each stream sends some frame
  pub some_start : IsWellFormed network → IsUsed network link → 0 < length (starts_of windows)
  some_start formed used =
      let long : length (starts_of windows) ≡ length windows = simp length-map in
      elim (cases_lt 0 (length windows)) [
        | inl some ↦ omega arith
        | inr none ↦ absurd (none_used network offsets link windows formed all (omega arith) used)
      ]
