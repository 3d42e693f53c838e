-- A clone of what is known.
use Rattle.std.proofs.Common.{sym, subst, ◌∙◌}
use Rattle.std.proofs.lemmas.Option.{none-some, same_Some}
use Rattle.workspace_check.specs.KnownFindings.{IsKnownVerdict}
use Rattle.history_machine.proofs.resting.own_verdict.Goals as goal

pub returns-in_default : goal.returns-in_default
returns-in_default c = λ p at one is. absurd (none-some one is)

pub returns : goal.returns
returns c = λ p at one is.
    subst (IsKnownVerdict c.args.files.now p) (sym c.in_ok-verdict.ensures.cases ∙ same_Some c.in_ok-verdict.verdict one is)
    (c.requires c.args.number p c.in-Some.verdict.now at c.in-Some.ensures)
