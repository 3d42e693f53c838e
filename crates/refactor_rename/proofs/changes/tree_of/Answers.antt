-- The answers to the goals of `changes::tree_of`.
use Rattle.std.proofs.Common.{◌≡◌, sym, subst, ◌∙◌}
use Rattle.std.specs.Prelude.{Some, Contains, slice_get}
use Rattle.std.proofs.lemmas.Option.{same_Some, slice_get_within}
use Rattle.base_files.specs.Packages.{package_paths}
use Rattle.refs_binding.specs.Workspaces.{known_in}
use Rattle.types_info.proofs.MeaningLists.{slice_get_some}
use Rattle.refs_binding.proofs.PackageNumbers.{package_there}
use Rattle.refactor_rename.proofs.Sources.{trees_in_order, tree_found, none_found}
use Rattle.refactor_rename.proofs.changes.tree_of.Goals as goal

pub tree_in-requires : goal.tree_in-requires
tree_in-requires c =
    let w = c.args.workspace.now.graph in
    let x = slice_get_some (package_paths w) c.in-Some.number (slice_get_within (package_paths w) c.in-Some.number c.folder.result.now c.in-Some.ensures) in
    trees_in_order w x.0 c.trees.result.now (c.trees.ensures x.0 x.1)

pub returns-in-None : goal.returns-in-None
returns-in-None c =
    let w = c.args.workspace.now.graph in
    none_found w (known_in c.args.workspace.now.findings) c.args.path.now
    (λ has. c.in-None.ensures (subst (Contains (package_paths w)) (sym c.folder.ensures) has))

pub returns-in-Some : goal.returns-in-Some
returns-in-Some c =
    let w = c.args.workspace.now.graph in
    let n = c.in-Some.number in
    let at : slice_get (package_paths w) n ≡ Some c.folder.result.now = c.in-Some.ensures in
    let x = package_there w c.args.workspace.now.findings c.has_no_faults.ensures n (slice_get_within (package_paths w) n c.folder.result.now at) in
    tree_found w (known_in c.args.workspace.now.findings) n x.0 x.1 c.trees.result.now (c.trees.ensures x.0.path x.1.has_number) c.args.path.now
    (sym c.folder.ensures ∙ same_Some c.folder.result.now x.0.path (sym at ∙ x.1.has_number)) c.tree_in.result c.tree_in.ensures
