-- The answers to the goals of `workspace_uses::uses_at`.
use Rattle.std.proofs.Common.{◌∙◌, ap, sym, subst}
use Rattle.std.specs.Prelude.{Some, Contains}
use Rattle.std.proofs.lemmas.Option.{slice_get_within}
use Rattle.base_files.specs.Packages.{package_paths}
use Rattle.refs_binding.specs.Workspaces.{known_in}
use Rattle.refs_lookup.proofs.Asking.{no_folder}
use Rattle.refs_uses.proofs.workspace_uses.uses_at.Goals as goal

pub returns-in-None : goal.returns-in-None
returns-in-None c = record {
  known = known_in c.args.workspace.now.findings;
  right = c.has_no_faults.ensures.findings.right;
  none = λ p is u holds.
      no_folder c.args.workspace.now.graph (known_in c.args.workspace.now.findings) c.args.path.now
      (λ has. c.in-None.ensures (subst (Contains (package_paths c.args.workspace.now.graph)) (sym c.folder.ensures) has)) p is;
}

pub uses_of_package-requires : goal.uses_of_package-requires
uses_of_package-requires c = record {
  numbered = record {
    in_range = slice_get_within (package_paths c.args.workspace.now.graph) c.in-Some.number _ c.in-Some.ensures;
  };
  folder = c.in-Some.ensures ∙ ap Some c.folder.ensures;
}
