-- The package of the number is taken out, or none.
use Rattle.std.proofs.Common.{◌≡◌, List, Some, slice_get, ap, sym, subst, ◌∙◌, arith}
use Rattle.std.specs.List.Sorted.{IsStrictlySortedBy}
use Rattle.base_files.specs.Workspace.{path_cmp}
use Rattle.workspace_graph.specs.Graphs.{paths_of}
use Rattle.workspace_graph.specs.Updated.{IsPlace}
use Rattle.workspace_graph.specs.declared.package.ParsedPackage.{ParsedPackage}
use Rattle.workspace_graph.proofs.Numbers.{path_of_package}
use Rattle.workspace_graph.proofs.UpdatedPackages.{none_out, number_within, one_out}
use Rattle.workspace_graph.proofs.updated.take_out.Goals as goal

pub place_of-requires : goal.place_of-requires
place_of-requires c = subst (λ (ps : List ParsedPackage). IsStrictlySortedBy path_cmp (paths_of ps)) (sym c.deref.ensures.value) c.requires

pub remove-requires : goal.remove-requires
remove-requires c =
    let old = c.args.packages.now.items in
    let at : slice_get (paths_of old) c.in-Ok.number ≡ Some c.args.path.now =
    ap (λ (ps : List ParsedPackage). slice_get (paths_of ps) c.in-Ok.number) (sym c.deref.ensures.value) ∙ c.in-Ok.ensures in
    omega (arith, number_within path_of_package old c.in-Ok.number c.args.path.now at, c.args.packages.now.ok.0)

pub returns-in-Ok : goal.returns-in-Ok
returns-in-Ok c =
    let old = c.args.packages.now.items in
    let at : slice_get (paths_of old) c.in-Ok.number ≡ Some c.args.path.now =
    ap (λ (ps : List ParsedPackage). slice_get (paths_of ps) c.in-Ok.number) (sym c.deref.ensures.value) ∙ c.in-Ok.ensures in
    one_out path_of_package c.args.path.now old c.remove.new.self.items c.in-Ok.number c.requires at
    (number_within path_of_package old c.in-Ok.number c.args.path.now at)
    c.remove.ensures.items

pub returns-in-Err : goal.returns-in-Err
returns-in-Err c = none_out path_of_package c.args.path.now c.args.packages.now.items c.in-Err.place c.requires
    (subst (λ (ps : List ParsedPackage). IsPlace (paths_of ps) c.args.path.now c.in-Err.place) c.deref.ensures.value c.in-Err.ensures)
