-- The table's place at the package's number.
use Rattle.std.proofs.Common.{Bool, sym, subst}
use Rattle.std.specs.Prelude.{◌↔◌, IsTrue}
use Rattle.history_book.specs.WorkLeft.{IsFinishedAt}
use Rattle.history_book.proofs.WorkLeft.{has_unit}
use Rattle.history_book.proofs.work_left.is_finished.Goals as goal

pub returns : goal.returns
returns c =
    subst (λ (b : Bool). IsTrue b ↔ IsFinishedAt c.args.table.now c.args.number) (sym c.is_some.ensures)
    (has_unit c.args.table.now c.args.number c.get.result c.get.ensures)
