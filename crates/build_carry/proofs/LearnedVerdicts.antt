-- The inputs of a package have the closures of the workspace that they come from. So verdicts found in them are right in this workspace.
use Rattle.std.proofs.Common.{ℕ, List, sym, subst, ◌∙◌}
use Rattle.std.specs.FinMap.{entries}
use Rattle.std.specs.Prelude.{Contains}
use Rattle.base_files.specs.Packages.{is_of_package, package_paths}
use Rattle.base_files.specs.Workspace.{Workspace}
use Rattle.base_files.proofs.PackageFolders.{of_folder}
use Rattle.workspace_graph.specs.Packages.{IsInClosure}
use Rattle.workspace_check.specs.Found.{AreVerdictsOf}
use Rattle.workspace_check.specs.declared.known.KnownVerdict.{KnownVerdict}
use Rattle.workspace_check.proofs.Local.{same_back, same_within, told_there}
use Rattle.workspace_check.proofs.Members.{passes}
use Rattle.workspace_check.proofs.PackageFiles.{package_file}
use Rattle.build_unit.specs.Inputs.{AreInputs, HasClosuresOf}
use Rattle.build_carry.proofs.ClosureTexts.{inputs_same, package_there}

-- verdicts on packages of the inputs are those on the packages in the workspace
pub found_here : (w inputs : Workspace) → HasClosuresOf w inputs → (found : List KnownVerdict) → AreVerdictsOf inputs found → AreVerdictsOf w found
found_here w inputs closures found are one among =
    let p = one.finding.path in
    let told = are one among in
    let same = same_back w inputs p (closures p told.0) in
    (package_there inputs w p told.0 same, told_there inputs w p one told.0 same told.1)

-- each package of the inputs is in the closure
inputs_closed : (w : Workspace) (p : List ℕ) (inputs : Workspace) → AreInputs w p inputs → (q : List ℕ) → Contains (package_paths inputs) q → IsInClosure w p q
inputs_closed w p inputs are q has =
    let file = package_file inputs q has in
    let here = passes (λ d. is_of_package q d.0) (entries inputs) file.0 file.1 in
    let text = (are.texts file.0).0 here.1 in
    let there = passes (λ d. is_of_package text.0 d.0) (entries w) file.0 text.2 in
    subst (IsInClosure w p) (sym (of_folder text.0 file.0.0 there.0) ∙ of_folder q file.0.0 here.0) text.1

pub inputs_closures : (w : Workspace) (p : List ℕ) (inputs : Workspace) → AreInputs w p inputs → HasClosuresOf w inputs
inputs_closures w p inputs are q has = same_within w inputs p (inputs_same w p inputs are) q (inputs_closed w p inputs are q has)
