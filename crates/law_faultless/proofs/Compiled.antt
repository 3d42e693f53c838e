-- The code of a package's unit is balanced in a workspace without faults.
use Rattle.std.proofs.Common.{ℕ, ◌≡◌, List, [], ap, sym, subst}
use Rattle.std.specs.Prelude.{Contains}
use Rattle.base_files.specs.Packages.{package_paths}
use Rattle.base_files.specs.Workspace.{Workspace}
use Rattle.types_declared.specs.Package.{Package, ExportData}
use Rattle.workspace_check.specs.FaultLists.{ListsFaults}
use Rattle.workspace_check.specs.Verdicts.{Verdicts, AreVerdicts, IsPackageIn}
use Rattle.workspace_check.proofs.Alike.{package_as}
use Rattle.workspace_check.proofs.OneVerdict.{right_alike, right_below}
use Rattle.build_object.specs.Lines.{FunctionName}
use Rattle.build_object.specs.Objects.{ObjectFunction, FunctionOf}
use Rattle.law_faultless.specs.Stack.{Arity, IsBalanced}
use Rattle.refs_binding.specs.Uses.{IsCheckedPackage}
use Rattle.build_unit.specs.Units.{AreFilesBelow, IsCompiled}
use Rattle.law_faultless.specs.Arities.{AreArities}
use Rattle.law_faultless.proofs.Objects.{object_good}
use Rattle.law_faultless.proofs.SettledQuestions.{function_settled}

pub compiled_balanced : (w : Workspace) → ListsFaults w [] → (known : Verdicts) → AreVerdicts w known → (arity : FunctionName → Arity) →
    AreArities w known arity → (p : List ℕ) → Contains (package_paths w) p → (i : ExportData) (text : List ℕ) (u : IsCompiled w p i text) (f : ObjectFunction) →
    Contains u.is_object.object.declarations (FunctionOf f) → IsBalanced arity 0 f.code 0
compiled_balanced w sound known right arity arities p has i text u f here =
    let c = u.checked in
    let path : c.path ≡ p = ap (λ (z : Package). z.path) u.is_package.is_package.is_package in
    let there : IsPackageIn w known p c = package_as w p u.known known (right_alike w p u.known known u.right (right_below w known right p)) c u.is_package in
    let is : IsCheckedPackage w known c = record {
      of_workspace = subst (Contains (package_paths w)) (sym path) has;
      is_checked = subst (λ k. IsPackageIn w known k c) (sym path) there;
    } in
    let below : AreFilesBelow w c.path u.files_of = subst (λ k. AreFilesBelow w k u.files_of) (sym path) u.are_files in
    object_good (λ lines. IsBalanced arity 0 lines 0) c u.files_of u.is_object.object u.is_object.of_package
    (λ file s at code source k g e held name. function_settled w sound known right arity arities c is u.files_of below file s at code source k g e held)
    (FunctionOf f) here
