use Rattle.std.proofs.Common.{ℕ, arith}
use Rattle.std.proofs.lemmas.List.{length-take}
use Rattle.tsn_device.proofs.KnownLemmas.{take_piece}
use Rattle.tsn_memory.proofs.devices.MemorySourceSource.read.Goals as goal

pub returns-clause-bytes : goal.returns-clause-bytes
returns-clause-bytes c = take_piece _ c.copy_from_slice.new.self _ c.args.self.now.position _ c.copy_from_slice.ensures.after
    (omega (arith, c.copy_from_slice.ensures.len, length-take {A = ℕ}))
