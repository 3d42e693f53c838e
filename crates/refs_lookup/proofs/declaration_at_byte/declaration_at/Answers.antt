-- The answers to the goals of `declaration_at_byte::declaration_at`.
use Rattle.std.proofs.Common.{◌∙◌, ap, sym, subst}
use Rattle.std.specs.Prelude.{Some, Contains}
use Rattle.std.proofs.lemmas.Option.{slice_get_within}
use Rattle.base_files.specs.Packages.{package_paths}
use Rattle.refs_binding.specs.Workspaces.{known_in}
use Rattle.refs_lookup.proofs.Asking.{no_folder, found_at}
use Rattle.refs_lookup.proofs.declaration_at_byte.declaration_at.Goals as goal

pub returns-in-None : goal.returns-in-None
returns-in-None c = λ p is u holds.
    no_folder c.args.workspace.now.graph (known_in c.args.workspace.now.findings) c.args.path.now
    (λ has. c.in-None.ensures (subst (Contains (package_paths c.args.workspace.now.graph)) (sym c.folder.ensures) has)) p is

pub returns-in-Some : goal.returns-in-Some
returns-in-Some c =
    found_at c.args.workspace.now.graph (known_in c.args.workspace.now.findings) c.in-Some.number c.args.path.now c.args.offset
    (c.in-Some.ensures ∙ ap Some c.folder.ensures)
    c.declaration_in.result c.declaration_in.ensures

pub declaration_in-requires : goal.declaration_in-requires
declaration_in-requires c = record {
  in_range = slice_get_within (package_paths c.args.workspace.now.graph) c.in-Some.number _ c.in-Some.ensures;
}
