use Rattle.std.proofs.Common.{subst}
use Rattle.tsn_model.specs.Network.{IsWellFormed}
use Rattle.tsn_cli.proofs.TableLemmas.{memory_alone}
use Rattle.tsn_cli.proofs.tables.replay_table.Goals as goal

pub want_of_memory-requires : goal.want_of_memory-requires
want_of_memory-requires c =
    memory_alone c.args.problem.now.network (subst IsWellFormed c.deref.ensures c.cycle-limits.ensures.well_formed) c.args.valid.now c.in_ok-lists.lists.items c.args.options.merge c.in_ok-lists.ensures.lists c.in_ok-lists.ensures.exist
    c.args.options.cycles c.args.options.greedy c.in-Err.fault (rw (c.deref-2.ensures.value) at c.in-Err.ensures.fault)
