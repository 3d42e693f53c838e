-- The answers to the goals of `reading::trees`.
use Rattle.std.proofs.Common.{[], sym, subst, ◌∙◌}
use Rattle.std.proofs.lemmas.Option.{same_Some}
use Rattle.base_files.specs.Packages.{package_files}
use Rattle.workspace_graph.specs.Parsed.{AreParsed}
use Rattle.refs_binding.specs.Workspaces.{known_in}
use Rattle.refs_binding.proofs.Units.{all_read, no_fault_in}
use Rattle.refs_binding.proofs.reading.trees.Goals as goal

pub returns : goal.returns
returns c = rw (← c.workspace.view_is) (λ p at.
    let w = c.workspace.inside.graph.now in
    let found = c.workspace.inside.findings.now in
    let is = c.package.ensures in
    let pkg = c.package.result.now in
    let parsed = subst (λ q. AreParsed (package_files w q) pkg.trees.items pkg.faulty.items) (same_Some _ _ (sym is.path ∙ at)) is.files in
    subst (λ ts. AreParsed (package_files w p) ts []) (sym c.deref.ensures.value)
    (all_read w (known_in found) p pkg.trees.items pkg.faulty.items (no_fault_in w found c.workspace.invariant c.args.number p at) parsed))
