-- A search that goes on where an earlier one was stopped.
--     GoesOn     what is left of a search that went on from a book
use Rattle.std.specs.Prelude.{ℕ}
use Rattle.tsn_book.specs.Book.{Progress}
use Rattle.tsn_walk.specs.Search.{IsFurther}
use Rattle.tsn_answer.specs.declared.found.Found.{Found}
use Rattle.tsn_answer.specs.declared.found.Found.TheVariants as found

-- what is left is an argument; or a book of the same search as this one, in which as much is settled, or more by this teller
abbrev pub GoesOn : ℕ → Progress → Found → Type 0
GoesOn teller book (found.Finished left) = IsFurther teller book left
GoesOn teller book (found.Argued plan argument) = Unit {0}
GoesOn teller book (found.Stopped left known) = IsFurther teller book left
GoesOn teller book (found.GaveUp known count) = ⊥
