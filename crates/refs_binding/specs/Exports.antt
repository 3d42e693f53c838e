-- The declarations that packages export, by package number and by name.
use Rattle.std.specs.Prelude.{ℕ, ◌≡◌, ◌<◌, List, Option, length, MatchOption}
use Rattle.std.specs.Global.{Vec}
use Rattle.std.specs.BTreeMap.{BTreeMap, get_by}
use Rattle.std.specs.Cmp.Lexicographic.{slice_cmp}
use Rattle.std.specs.Ordering.{nat_cmp}
use Rattle.base_files.specs.Packages.{package_paths}
use Rattle.base_files.specs.Workspace.{Workspace}
use Rattle.types_declared.specs.Package.{Package}
use Rattle.types_check.specs.Exports.{DoesExport}
use Rattle.workspace_check.specs.Verdicts.{Verdicts}
use Rattle.refs_binding.specs.Workspaces.{IsPackageAt}
use Rattle.refs_binding.specs.Packages.{HoldsOfEach}

-- The number that a map has for a name.
abbrev pub number_named : BTreeMap (Vec ℕ) ℕ → List ℕ → Option ℕ
number_named numbers name = get_by (λ key. slice_cmp nat_cmp name key.items) numbers

-- The package exports `d` under this name, and `d` is below `n`.
pub record IsExportedBelow (p : Package) (n : ℕ) (name : List ℕ) (d : ℕ) : Type 0 where
  pub below : d < n
  pub seen : DoesExport p d
  pub named : p.names d ≡ name

-- `numbers` has for each name a declaration below `n` that the package exports under it, or `None` if there is none.
abbrev pub ExportNamesBelow : Package → ℕ → (List ℕ → Option ℕ) → Type 0
ExportNamesBelow p n numbers = (name : List ℕ) → MatchOption (numbers name) ((d : ℕ) → IsExportedBelow p n name d → ⊥) (λ d. IsExportedBelow p n name d)

-- `numbers` has for each name the declaration that the package exports under it, or `None` if there is none.
abbrev pub AreExportsByName : Package → (List ℕ → Option ℕ) → Type 0
AreExportsByName p numbers = (name : List ℕ) → MatchOption (numbers name) ((d : ℕ) → DoesExport p d → p.names d ≡ name →
    ⊥) (λ d. DoesExport p d × (p.names d ≡ name))

-- `numbers` has for each name the declaration that the package of the number `n` exports under it.
abbrev pub AreExportsByNameAt : Workspace → Verdicts → ℕ → BTreeMap (Vec ℕ) ℕ → Type 0
AreExportsByNameAt w known n numbers = (p : Package) × (IsPackageAt w known n p × AreExportsByName p (number_named numbers))

-- `list` has for each package, by number, the declarations that it exports, by name.
abbrev pub AreExports : Workspace → Verdicts → List (BTreeMap (Vec ℕ) ℕ) → Type 0
AreExports w known list = HoldsOfEach (AreExportsByNameAt w known) (length (package_paths w)) list
