-- The answer to the goal of `marks::is_marked_before`.
use Rattle.std.proofs.Common.{sym, ◌∙◌}
use Rattle.refactor_follow.proofs.marks.is_marked_before.Goals as goal

pub returns-in-Some : goal.returns-in-Some
returns-in-Some c = λ t. record { file = c.args.at.file; token = c.in-Some.token; marked = sym c.is_marked.ensures ∙ t }
