-- Marks on the packages that import a declaration's package.
use Rattle.std.specs.Prelude.{ℕ, ◌≡◌, Bool, List, Option, Some}
use Rattle.base_files.specs.Workspace.{Workspace}
use Rattle.workspace_graph.specs.Graphs.{OfPackage}
use Rattle.workspace_graph.specs.Reaching.{MarksClosuresWith}

-- If there is a package `home`, the marked packages are just `home` and those that import it, directly or indirectly.
abbrev pub AreImporting : Workspace → Option ℕ → List Bool → Type 0
AreImporting w home marks = (h : ℕ) → home ≡ Some h → OfPackage w h (λ q. MarksClosuresWith w q marks)
