-- No package of the first state is finished.
use Rattle.std.proofs.Common.{vec_capacity}
use Rattle.history_book.proofs.BookUnits.{opening_book}
use Rattle.history_book.proofs.book.Book.new.Goals as goal

pub invariant_of-result : goal.invariant_of-result
invariant_of-result c =
    opening_book c.in_ok-content.content c.args.limits c.new-2.result.items (vec_capacity c.new-2.result) c.in_ok-content.ensures c.new-2.ensures.items
