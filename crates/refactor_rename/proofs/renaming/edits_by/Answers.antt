-- The answers to the goals of `renaming::edits_by`.
use Rattle.refs_binding.specs.Workspaces.{known_in}
use Rattle.refactor_rename.proofs.Changing.{set_from, fits_from, edits_from}
use Rattle.refactor_rename.proofs.renaming.edits_by.Goals as goal

pub new-edits-requires : goal.new-edits-requires
new-edits-requires c =
    set_from c.args.workspace.now.graph (known_in c.args.workspace.now.findings) c.args.renamed.now c.in_ok-changed.changed.items c.new-added.result.items
    c.new-added.ensures.items c.in_ok-changed.ensures

pub returns-clause-edits : goal.returns-clause-edits
returns-clause-edits c =
    edits_from c.args.workspace.now.graph (known_in c.args.workspace.now.findings) c.args.renamed.now c.in_ok-changed.changed.items
    c.new-added.result.items c.new-edits.result
    c.new-edits.ensures c.new-added.ensures.items c.in_ok-changed.ensures

pub returns-clause-fits : goal.returns-clause-fits
returns-clause-fits c =
    fits_from c.args.workspace.now.graph (known_in c.args.workspace.now.findings) c.args.renamed.now c.in_ok-changed.changed.items
    c.new-added.result.items c.new-edits.result
    c.new-edits.ensures c.new-added.ensures.items c.in_ok-changed.ensures
