-- The answers to the goals of `following::name_of`.
use Rattle.std.proofs.Common.{sym, ◌∙◌}
use Rattle.refactor_move.proofs.Naming.{first_name}
use Rattle.refactor_move.proofs.following.name_of.Goals as goal

pub returns-in-Some : goal.returns-in-Some
returns-in-Some c = c.clause_name.ensures ∙ sym (first_name c.args.files.now c.in-Some.file.now c.in-Some.ensures.value)
