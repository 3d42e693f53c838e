-- Examples of the definitions: the order of faults; cycles and paths of no package; a workspace without packages.
use Rattle.std.proofs.Common.{ℕ, ◌≡◌, true, List, [], refl, subst}
use Rattle.std.specs.Prelude.{Contains, None, codes}
use Rattle.std.specs.List.Sorted.{IsStrictlySortedBy}
use Rattle.std.specs.declared.cmp.Ordering.TheVariants.{Less}
use Rattle.base_lemmas.proofs.Elements.{nothing_in}
use Rattle.base_files.specs.Workspace.{Workspace}
use Rattle.base_files.specs.Packages.{package_paths}
use Rattle.base_files.specs.declared.fault_kind.FaultKind.{FaultKind}
use Rattle.base_files.specs.declared.fault_kind.FaultKind.TheVariants as kind
use Rattle.workspace_graph.specs.Packages.{PackageImports, itself, through}
use Rattle.workspace_graph.proofs.ByPath.{has_file}
use Rattle.types_declared.specs.declared.states.ImportState.TheVariants.{Missing, OnCycle}
use Rattle.types_declared.specs.ExportTablesView.{no_export_data}
use Rattle.workspace_check.specs.declared.fault.FileFault.{FileFault}
use Rattle.workspace_check.specs.Faults.{fault_cmp}
use Rattle.workspace_check.specs.Verdicts.{BuildsOn, Verdicts, IsStateOf, is_missing, is_on_cycle, IsSeenAs, unseen}
use Rattle.workspace_check.specs.FaultLists.{ListsFaults}
use Rattle.workspace_check.proofs.Closed.{to_package, not_on_itself}

abbrev fault_at : List ℕ → ℕ → FaultKind → FileFault
fault_at path offset k = record { place = record { path = path; offset = offset }; kind = k }

-- at one place `cycle` stands before `import`, and `repeated` before `unused`
cycle_before_import : fault_cmp (fault_at (codes "a/a.go") 3 kind.Cycle) (fault_at (codes "a/a.go") 3 kind.Import) ≡ Less
cycle_before_import = refl

repeated_before_unused : fault_cmp (fault_at (codes "a/a.go") 3 kind.Repeated) (fault_at (codes "a/a.go") 3 kind.Unused) ≡ Less
repeated_before_unused = refl

-- what comes earlier in a file stands before it, whatever its kind
earlier_first : fault_cmp (fault_at (codes "a/a.go") 3 kind.Unused) (fault_at (codes "a/a.go") 4 kind.Cycle) ≡ Less
earlier_first = refl

-- a package stands before those of the folders in it, though its path does not
package_first : fault_cmp (fault_at (codes "a/c.go") 0 kind.Syntax) (fault_at (codes "a/b/x.go") 0 kind.Syntax) ≡ Less
package_first = refl

-- a package that imports itself is on a cycle
imports_itself : (w : Workspace) (known : Verdicts) (p : List ℕ) → PackageImports w p p → IsStateOf w known p p OnCycle
imports_itself w known p i = is_on_cycle (itself (has_file w p i.entry i.of_package))

-- neither of two packages that import each other builds on the other
import_each_other : (w : Workspace) (p q : List ℕ) → PackageImports w p q → PackageImports w q p → BuildsOn w p q → ⊥
import_each_other w p q i j on = on.not_back (through j (itself (has_file w p i.entry i.of_package)))

-- a path of no package is missing, whatever is known of it, and nothing is seen of it
no_package : (w : Workspace) (known : Verdicts) (p q : List ℕ) → (Contains (package_paths w) q → ⊥) → IsStateOf w known p q Missing
no_package w known p q none = is_missing none

nothing_seen : (w : Workspace) (known : Verdicts) (p q : List ℕ) → (Contains (package_paths w) q → ⊥) → IsSeenAs w known p q None (no_export_data q)
nothing_seen w known p q none = unseen (λ on. absurd (none (to_package w p q on.imported)))

-- nor is anything seen of the package itself
itself_unseen : (w : Workspace) (known : Verdicts) (p : List ℕ) → IsSeenAs w known p p None (no_export_data p)
itself_unseen w known p = unseen (λ on. absurd (not_on_itself w p p on refl))

-- a workspace without packages has no fault
no_packages : (w : Workspace) → package_paths w ≡ [] → ListsFaults w []
unfolding IsStrictlySortedBy
no_packages w e = record {
  known = λ q. record { faulty = true; export_data = no_export_data q };
  right = λ p has. absurd (nothing_in p (subst (λ l. Contains l p) e has));
  listed = record {
    in_order = tt;
    each = λ f. (λ c. absurd (nothing_in f c), λ s. absurd (nothing_in s.path (subst (λ l. Contains l s.path) e s.is_package)));
  };
}
