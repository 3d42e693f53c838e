-- The answers to the goals of `definition::definition_of`.
use Rattle.std.proofs.Common.{ap, sym, ◌∙◌}
use Rattle.std.specs.Prelude.{Some}
use Rattle.refactor_members.specs.Renames.{IsDefinitionIn}
use Rattle.refactor_members.proofs.Homes.{choice_home}
use Rattle.refactor_members.proofs.definition.definition_of.Goals as goal

pub returns-in-Some-number_of : goal.returns-in-Some-number_of
returns-in-Some-number_of c =
    let w = c.args.workspace.now in
    let number = c.in-Some-number_of.number in
    let path = c.in-Some.path.now in
    let at = c.in-Some-number_of.ensures ∙ ap Some c.path.ensures in
    let home = c.requires number path at (sym c.in-Some.ensures) in
    choice_home w.graph w.findings c.has_no_faults.ensures number path at c.args.member.now c.in-Some.ensures (λ q. IsDefinitionIn q c.args.member.now)
    c.definition_at.result (λ p is. c.definition_at.ensures home.owners home.is_listed p (home.are_owners p is))
