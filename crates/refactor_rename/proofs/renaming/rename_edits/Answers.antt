-- The answers to the goals of `renaming::rename_edits`.
use Rattle.std.proofs.lemmas.Result.{IfOk-weaker}
use Rattle.refs_binding.specs.Workspaces.{known_in}
use Rattle.refactor_rename.specs.RenameEdits.{AreEditsOf, AreRenameEdits}
use Rattle.refactor_rename.proofs.renaming.rename_edits.Goals as goal

pub edits_by-requires : goal.edits_by-requires
edits_by-requires c = c.in_ok-renamed.ensures.uses.in_order

pub returns-clause-edits : goal.returns-clause-edits
returns-clause-edits c =
    let w = c.args.at.workspace.now.graph in
    let known = known_in c.args.at.workspace.now.findings in
    let asked = c.args.renaming.now in
    IfOk-weaker c.edits_by.result (AreEditsOf w known c.in_ok-renamed.renamed) (AreRenameEdits w known asked.declaration.now asked.set.now asked.name.now)
    (λ s h. record { renamed = c.in_ok-renamed.renamed; is_renamed = c.in_ok-renamed.ensures; edits = h }) c.edits_by.ensures.edits
