-- The numbers by which faults are told.
use Rattle.std.specs.Prelude.{ℕ}
use Rattle.tsn_book.specs.declared.fault.BookFault.{BookFault}
use Rattle.tsn_book.specs.declared.fault.BookFault.TheVariants.{NotOpen, Limit, NotConflict, AlreadyDecided, Memory, NotMet}

abbrev pub number_of : BookFault → ℕ
number_of (NotOpen event) = 1
number_of (Limit count) = 2
number_of NotConflict = 3
number_of AlreadyDecided = 4
number_of Memory = 5
number_of (NotMet bound) = 6
