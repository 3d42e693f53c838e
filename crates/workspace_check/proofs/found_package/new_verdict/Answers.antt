-- The answers to the goals of `found_package::new_verdict`.
use Rattle.std.proofs.lemmas.Option.{none-some}
use Rattle.workspace_check.proofs.found_package.new_verdict.Goals as goal

pub returns-in-Some : goal.returns-in-Some
returns-in-Some c = λ p at one is. absurd (none-some one is)
