use Rattle.std.proofs.Common.{arith}
use Rattle.std.proofs.lemmas.Grind.{common_steps}
use Rattle.tsn_book.proofs.Ledgers.{ledger_lawful}
use Rattle.tsn_book.proofs.book.Book.enter.Goals as goal

pub returns-clause-lawful : goal.returns-clause-lawful
returns-clause-lawful c = ledger_lawful c.record.new.self c.record.ensures.agrees

pub reserve-requires : goal.reserve-requires
reserve-requires c = grind (arith, common_steps) steps 2000000
