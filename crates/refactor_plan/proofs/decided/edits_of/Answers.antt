-- The answers to the goals of `decided::edits_of`.
use Rattle.std.proofs.Common.{subst, ◌∙◌}
use Rattle.std.specs.Prelude.{IfOk}
use Rattle.base_edits.specs.Fits.{Fits}
use Rattle.refs_binding.specs.WorkspaceFindings.{WorkspaceFindings}
use Rattle.refs_binding.specs.Workspaces.{known_in}
use Rattle.refactor_rename.specs.RenameEdits.{AreRenameEdits}
use Rattle.refactor_plan.proofs.Homes.{same_home}
use Rattle.refactor_plan.proofs.decided.edits_of.Goals as goal

pub rename_edits-requires-clause-home : goal.rename_edits-requires-clause-home
rename_edits-requires-clause-home c = same_home c.args.renaming.now.declaration.now ∙ c.requires.home

pub returns-clause-edits : goal.returns-clause-edits
returns-clause-edits c =
    let asked = c.args.renaming.now in
    subst (λ (v : WorkspaceFindings).
    IfOk c.rename_edits.result (AreRenameEdits v.graph (known_in v.findings) asked.declaration.now asked.set.now asked.name.now))
    c.requires.read.same c.rename_edits.ensures.edits

pub returns-clause-fits : goal.returns-clause-fits
returns-clause-fits c =
    subst (λ (v : WorkspaceFindings). IfOk c.rename_edits.result (λ s. Fits s v.graph)) c.requires.read.same c.rename_edits.ensures.fits
