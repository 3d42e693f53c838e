-- The texts of closures. A closure stays where none of its packages has other files. The inputs of a package have its closure in the
-- workspace that they come from.
use Rattle.std.proofs.Common.{ℕ, List}
use Rattle.std.specs.FinMap.{entries}
use Rattle.std.specs.List.{Contains}
use Rattle.base_files.specs.Packages.{is_of_package, package_paths, package_files}
use Rattle.base_files.specs.Workspace.{Workspace}
use Rattle.workspace_graph.specs.Packages.{PackageImports, IsInClosure, itself, through, AreClosureTexts}
use Rattle.workspace_graph.proofs.ByPath.{has_file}
use Rattle.workspace_check.specs.Closures.{IsClosureText, HasSameClosure}
use Rattle.workspace_check.proofs.Members.{passes, passed}
use Rattle.workspace_check.proofs.PackageFiles.{package_file}
use Rattle.workspace_check.proofs.Closed.{to_package}
use Rattle.workspace_check.proofs.Local.{closed_there}
use Rattle.build_unit.specs.Inputs.{AreInputs}
use Rattle.build_carry.specs.Changes.{HasSameFiles, KeepsClosure}

-- ---- the closure: the imports of a package depend on its files alone
imports_same : (v w : Workspace) (p q : List ℕ) → HasSameFiles v w p → PackageImports v p q → PackageImports w p q
imports_same v w p q same i = record { entry = i.entry; of_package = (same i.entry).0 i.of_package; file = i.file; parsed = i.parsed; imports = i.imports }

package_same : (v w : Workspace) (p : List ℕ) → HasSameFiles v w p → Contains (package_paths v) p → Contains (package_paths w) p
package_same v w p same has =
    let e = package_file v p has in
    has_file w p e.0 ((same e.0).0 e.1)

pub closure_stays : (v w : Workspace) (p q : List ℕ) → KeepsClosure v w p → IsInClosure v p q → IsInClosure w p q
closure_stays v w p q keeps (itself has) = itself (package_same v w p (keeps p (itself has)) has)
closure_stays v w p q keeps (through {q = r} i rest) =
    through (imports_same v w p r (keeps p (itself (has_file v p i.entry i.of_package))) i) (closure_stays v w r q (λ s c. keeps s (through i c)) rest)

-- where the packages of both closures have the same files, the closures have the same texts
pub same_texts : (v w : Workspace) (p : List ℕ) → KeepsClosure v w p → KeepsClosure w v p → HasSameClosure v w p
same_texts v w p there back e = (
  λ h. record { path = h.path; in_closure = closure_stays v w p h.path there h.in_closure; of_package = (there h.path h.in_closure e).0 h.of_package },
  λ h. record { path = h.path; in_closure = closure_stays w v p h.path back h.in_closure; of_package = (back h.path h.in_closure e).0 h.of_package },
)

-- and only there
pub same_files : (v w : Workspace) (p : List ℕ) → HasSameClosure v w p → KeepsClosure v w p
same_files v w p same q c e = (
  λ has. files_there v w q e ((same e).0 (record { path = q; in_closure = c; of_package = has })) has,
  λ has. files_there w v q e ((same e).1 (record { path = q; in_closure = closed_there v w p same q c; of_package = has })) has,
)
  where
    files_there : (x y : Workspace) (q : List ℕ) (e : List ℕ × List ℕ) → IsClosureText y p e → Contains (package_files x q) e → Contains (package_files y q) e
    files_there x y q e text has =
        let of = passes (λ d. is_of_package q d.0) (entries x) e has in
        let found = passes (λ d. is_of_package text.path d.0) (entries y) e text.of_package in
        passed (λ d. is_of_package q d.0) (entries y) e of.0 found.1

-- a package whose closure has the same texts is a package of both
pub package_there : (v w : Workspace) (p : List ℕ) → Contains (package_paths v) p → HasSameClosure v w p → Contains (package_paths w) p
package_there v w p has same = to_package w p p (closed_there v w p same p (itself has))

-- ---- the inputs of a package
pub inputs_keep : (w : Workspace) (p : List ℕ) (inputs : Workspace) → AreClosureTexts w p (entries inputs) → KeepsClosure w inputs p
inputs_keep w p inputs texts q c e = (
  λ has.
      let of = passes (λ d. is_of_package q d.0) (entries w) e has in
      passed (λ d. is_of_package q d.0) (entries inputs) e of.0 ((texts e).1 (q, c, has)),
  λ has.
      let of = passes (λ d. is_of_package q d.0) (entries inputs) e has in
      let text = (texts e).0 of.1 in
      let found = passes (λ d. is_of_package text.0 d.0) (entries w) e text.2 in
      passed (λ d. is_of_package q d.0) (entries w) e of.0 found.1,
)

-- the closure of p has the same texts in the workspace and in the inputs
pub inputs_same : (w : Workspace) (p : List ℕ) (inputs : Workspace) → AreInputs w p inputs → HasSameClosure w inputs p
inputs_same w p inputs are e = (
  λ h.
      let keeps = inputs_keep w p inputs are.texts in
      record { path = h.path; in_closure = closure_stays w inputs p h.path keeps h.in_closure; of_package = (keeps h.path h.in_closure e).0 h.of_package },
  λ h.
      let text = (are.texts e).0 (passes (λ d. is_of_package h.path d.0) (entries inputs) e h.of_package).1 in
      record { path = text.0; in_closure = text.1; of_package = text.2 },
)
