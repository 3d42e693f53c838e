-- The numbers are those of the desk's book.
use Rattle.std.proofs.Common.{refl, rules, subst}
use Rattle.history_machine.specs.Machine.{Machine}
use Rattle.server_commands.specs.Numbers.{AreBookNumbers}
use Rattle.server_commands.proofs.NumbersLaws.{of_book}
use Rattle.server_commands.proofs.desk.SoloDesk.numbers.Goals as goal

pub returns-in-Ok : goal.returns-in-Ok
returns-in-Ok c = (
  record {
    one_session = refl;
    no_worker = refl;
    at_limit = refl;
    of_book = subst (λ (m : Machine). AreBookNumbers m c.book_numbers-book.result) c.self.view_is
        (of_book c.self.inside.book c.in-Ok.snapshot _ _ c.book_numbers-book.result c.in-Ok.ensures c.begun-chapter.ensures (search rules)
        c.book_numbers-book.ensures);
  },
  refl,
)
