-- The answers to the goals of `exported_name::declared_name`.
use Rattle.std.proofs.Common.{◌∙◌, sym, subst}
use Rattle.std.specs.Prelude.{Contains, option_map}
use Rattle.std.proofs.lemmas.Option.{same_Some, slice_get_within}
use Rattle.std.proofs.lemmas.Result.{IfOk-weaker}
use Rattle.base_files.specs.Packages.{package_paths}
use Rattle.refs_binding.specs.declared.declaration.Declaration.TheVariants.{Declared}
use Rattle.refs_binding.specs.Workspaces.{known_in, name_bytes, IsExportedName, IsExportedUnder}
use Rattle.refs_binding.proofs.Exporting.{name_exported}
use Rattle.refs_uses.proofs.exported_name.declared_name.Goals as goal

pub returns-in-None : goal.returns-in-None
returns-in-None c = λ p is e seen. c.in-None.ensures (subst (Contains (package_paths c.args.workspace.now.graph)) (e ∙ sym c.path.ensures) is.of_workspace)

pub returns-in-Some : goal.returns-in-Some
returns-in-Some c =
    let w = c.args.workspace.now.graph in
    let known = known_in c.args.workspace.now.findings in
    IfOk-weaker c.name_at.result (λ name. IsExportedName w known c.in-Some.number c.args.d (option_map name_bytes name))
    (λ name. IsExportedUnder w known (Declared c.args.path.now c.args.d) (option_map name_bytes name))
    (λ name x. name_exported w known c.args.path.now c.args.d x.0 x.1.0.is_package
    (same_Some _ _ (sym x.1.0.has_number ∙ c.in-Some.ensures) ∙ c.path.ensures) (option_map name_bytes name) x.1.1) c.name_at.ensures

pub name_at-requires : goal.name_at-requires
name_at-requires c = record {
  in_range = slice_get_within (package_paths c.args.workspace.now.graph) c.in-Some.number _ c.in-Some.ensures;
}
