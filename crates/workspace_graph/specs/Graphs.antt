-- The graph of a workspace: its packages by number, with their parsed files, and which imports which.
use Rattle.std.specs.Prelude.{◌≡◌, ℕ, ◌<◌, ◌↔◌, List, [], map, length, Some, slice_get}
use Rattle.std.specs.List.{Contains}
use Rattle.std.specs.List.Sorted.{IsStrictlyIncreasing}
use Rattle.base_files.specs.Workspace.{Workspace}
use Rattle.workspace_graph.specs.Imports.{LinkTable, row_of}
use Rattle.base_files.specs.Packages.{package_paths, package_files}
use Rattle.workspace_graph.specs.Packages.{AreLinksOf}
use Rattle.workspace_graph.specs.Parsed.{AreParsed}
use Rattle.workspace_graph.specs.declared.package.ParsedPackage.{ParsedPackage}

-- The paths of packages.
abbrev pub paths_of : List ParsedPackage → List (List ℕ)
paths_of packages = map (λ p. p.path.items) packages

-- The package has no file.
abbrev pub IsEmpty : ParsedPackage → Type 0
IsEmpty p = (p.trees.items ≡ []) × (p.faulty.items ≡ [])

-- `p` is the package of that number in the workspace, with the parsed files of its folder.
pub record IsPackage (w : Workspace) (number : ℕ) (p : ParsedPackage) : Type 0 where
  pub path : slice_get (package_paths w) number ≡ Some p.path.items
  pub files : AreParsed (package_files w p.path.items) p.trees.items p.faulty.items

-- `packages` are all packages of the workspace in the order of their paths, with their parsed files. `links` are their imports, in order.
pub record IsGraph (w : Workspace) (packages : List ParsedPackage) (links : LinkTable) : Type 0 where
  pub paths : paths_of packages ≡ package_paths w
  pub each : (i : ℕ) (p : ParsedPackage) → slice_get packages i ≡ Some p → AreParsed (package_files w p.path.items) p.trees.items p.faulty.items
  pub linked : AreLinksOf w links
  pub rising : (i : ℕ) → i < length links → IsStrictlyIncreasing (row_of links i)

-- The numbers are exactly those of the packages for whose paths `P` holds.
abbrev pub ListsPackages : Workspace → (List ℕ → Type 0) → List ℕ → Type 0
ListsPackages w P numbers = (i : ℕ) → Contains numbers i ↔ ((q : List ℕ) × (slice_get (package_paths w) i ≡ Some q) × P q)

-- `P` holds for the path of the package of that number, if there is such a package.
abbrev pub OfPackage : Workspace → ℕ → (List ℕ → Type 0) → Type 0
OfPackage w number P = (p : List ℕ) → slice_get (package_paths w) number ≡ Some p → P p
