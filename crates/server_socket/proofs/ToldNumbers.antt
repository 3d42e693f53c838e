-- Numbers that are told of some book.
use Rattle.std.proofs.Common.{ℕ}
use Rattle.server_commands.specs.Numbers.{AreNumbersOf}
use Rattle.server_commands.specs.declared.numbers.BookNumbers.{BookNumbers}
use Rattle.server_commands.proofs.NumbersLaws.{of_book}
use Rattle.server_shared.specs.Standing.{TellsOfBook}
use Rattle.server_shared.specs.declared.standing.Standing.{Standing}
use Rattle.server_socket.specs.SeatWait.{TellsSomeBook}

-- the numbers that are made of what a shared book told are those of that book
pub told_numbers : (most : ℕ) (standing : Standing) (numbers : BookNumbers) → TellsOfBook most standing
    → AreNumbersOf standing.snapshot standing.begun standing.entries numbers → TellsSomeBook most numbers
told_numbers most standing numbers told are = (
  told.0,
  told.1,
  told.2,
  of_book told.0 standing.snapshot standing.begun standing.entries numbers told.3.state told.3.begun told.3.entries are,
)
