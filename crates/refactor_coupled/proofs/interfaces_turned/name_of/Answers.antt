-- The answers to the goals of `interfaces_turned::name_of`.
use Rattle.std.proofs.Common.{◌≡◌, map, ap, sym, ◌∙◌}
use Rattle.std.specs.Prelude.{Some, slice_get}
use Rattle.std.proofs.lemmas.Option.{slice_get_within}
use Rattle.std.proofs.lemmas.Result.{IfOk-weaker}
use Rattle.base_files.specs.Packages.{package_paths}
use Rattle.go_ast.specs.SourceFile.{source_of}
use Rattle.types_declared.specs.Package.{Package}
use Rattle.workspace_check.proofs.OnePackage.{one_sources}
use Rattle.refs_binding.specs.Uses.{IsCheckedPackage}
use Rattle.refs_binding.specs.Workspaces.{known_in}
use Rattle.refs_binding.proofs.Units.{package_there}
use Rattle.refs_places.specs.DeclaredPlaces.{IsChoice}
use Rattle.refs_places.proofs.Found.{found_as}
use Rattle.refactor_coupled.specs.FirstTurns.{IsTypeNameAt, IsTypeNameIn}
use Rattle.refactor_coupled.proofs.TypeNames.{name_here, name_there}
use Rattle.refactor_coupled.proofs.interfaces_turned.name_of.Goals as goal

pub returns-in-Some : goal.returns-in-Some
returns-in-Some c =
    let w = c.args.workspace.now.graph in
    let found = c.args.workspace.now.findings in
    let known = known_in found in
    let s = c.args.named.now in
    let n = c.in-Some.number in
    let at : slice_get (package_paths w) n ≡ Some s.package = c.in-Some.ensures ∙ ap Some c.path.ensures in
    let there = package_there w found c.has_no_faults.ensures n (slice_get_within (package_paths w) n s.package at) in
    let p = there.0 in
    let is = there.1 in
    let checked = is.is_package.is_checked in
    let files = map source_of c.trees.result.now in
    let same : files ≡ p.files = one_sources (c.trees.ensures p.path is.has_number) checked.parsed
    ∙ sym (ap (λ (x : Package). x.files) checked.is_package.is_package) in
    IfOk-weaker c.name_in.result (IsChoice (IsTypeNameIn files s.rank)) (IsChoice (IsTypeNameAt (IsCheckedPackage w known) s))
    (λ o h. found_as (IsTypeNameIn files s.rank) (IsTypeNameAt (IsCheckedPackage w known) s) o (name_there w known n p is s at files same)
    (name_here w known n p is s at files same) h) c.name_in.ensures
