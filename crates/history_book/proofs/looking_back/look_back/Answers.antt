-- A look shows a view of the content.
use Rattle.history_book.proofs.looking_back.look_back.Goals as goal

pub with_states-requires : goal.with_states-requires
with_states-requires c = c.in-Ok.ensures.0
