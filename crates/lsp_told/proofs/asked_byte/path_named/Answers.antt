-- The answers to the goals of `asked_byte::path_named`.
use Rattle.lsp_told.proofs.Refusing.{name_refused}
use Rattle.lsp_told.proofs.asked_byte.path_named.Goals as goal

pub returns-in-Err : goal.returns-in-Err
returns-in-Err c = rw c.why_unnamed.ensures (name_refused c.args.name.now c.in-Err.refusal c.in-Err.ensures)
