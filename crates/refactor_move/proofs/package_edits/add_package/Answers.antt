-- The answers to the goals of `package_edits::add_package`.
use Rattle.std.proofs.Common.{◌≡◌, List, ℕ, sym, subst, ◌∙◌}
use Rattle.std.specs.Prelude.{Bool}
use Rattle.std.specs.Global.{Vec}
use Rattle.std.proofs.lemmas.Result.{on_ok_weaker}
use Rattle.types_declared.specs.Package.{Package}
use Rattle.refs_binding.specs.Workspaces.{known_in}
use Rattle.refs_binding.proofs.PackageNumbers.{package_there}
use Rattle.refactor_move.specs.declared.package_edits.MovedPackage.{MovedPackage}
use Rattle.refactor_move.specs.Steps.{AddsEdits, AreEditsIn, HasFileIn}
use Rattle.refactor_move.specs.Uses.{IsPackageOfMove, MarksUses}
use Rattle.refactor_move.proofs.EditMaps.{next_package}
use Rattle.refactor_move.proofs.Naming.{files_are}
use Rattle.refactor_move.proofs.package_edits.add_package.Goals as goal

pub returns : goal.returns
returns c =
    let w = c.args.workspace.now.graph in
    let found = c.args.workspace.now.findings in
    let known = known_in found in
    let m = c.args.of.now.moved.now in
    let n = c.args.number in
    let old = c.args.edits.now in
    let new = c.add_files.new.edits in
    let x = package_there w found c.has_no_faults.ensures n c.requires.in_range in
    let p = x.0 in
    let at = x.1 in
    let of : MovedPackage = record { path = c.path_of.result; files = c.trees.result; moved = c.args.of.now.moved; rows = c.rows_of.result } in
    let is : IsPackageOfMove p of = record {
      path = sym (c.path_of.ensures p.path at.has_number);
      files = files_are w known p at.is_package c.trees.result.now (c.trees.ensures p.path at.has_number);
      marks = subst (λ (rows : List (Vec Bool)). MarksUses p m rows) (sym c.rows_of.ensures) (c.requires.uses n p at);
    } in
    let more = λ (adds : (q : Package) → IsPackageOfMove q of → AddsEdits old new (AreEditsIn q m) (HasFileIn q)).
    next_package w known m n p old new at (adds p is) in
    on_ok_weaker c.add_files.result more c.add_files.ensures
