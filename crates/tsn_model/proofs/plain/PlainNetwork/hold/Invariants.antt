use Rattle.std.proofs.Common.{◌≡◌, length, take}
use Rattle.tsn_model.specs.Held.{held}
use Rattle.tsn_model.proofs.plain.PlainNetwork.hold.Given as goal

abbrev pub invariant-loop-i : goal.invariant-loop-i
invariant-loop-i l = record {
  so_far : l.self ≡ held l.initial.self (take l.i l.offsets);
  end : l.i-end ≡ length l.offsets;
}
