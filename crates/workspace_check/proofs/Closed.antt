-- Closures of packages.
use Rattle.std.proofs.Common.{ℕ, ◌≡◌, List, sym, subst}
use Rattle.std.specs.Prelude.{Contains}
use Rattle.base_files.specs.Workspace.{Workspace}
use Rattle.base_files.specs.Packages.{package_paths}
use Rattle.workspace_graph.specs.Packages.{PackageImports, IsInClosure, itself, through}
pub use Rattle.workspace_graph.proofs.ByPath.{is_package as from_package}
use Rattle.workspace_check.specs.Verdicts.{BuildsOn}

-- both ends are packages

pub to_package : (w : Workspace) (p q : List ℕ) → IsInClosure w p q → Contains (package_paths w) q
to_package w p q (itself has) = has
to_package w p r (through {q = q} imports rest) = to_package w q r rest

pub in_closure_then : (w : Workspace) (p q r : List ℕ) → IsInClosure w p q → IsInClosure w q r → IsInClosure w p r
in_closure_then w p q r (itself has) b = b
in_closure_then w p q r (through {q = m} imports rest) b = through imports (in_closure_then w m q r rest b)

pub imports_closed : (w : Workspace) (p q : List ℕ) → PackageImports w p q → Contains (package_paths w) q → IsInClosure w p q
imports_closed w p q imports has = through imports (itself has)

-- a package does not build on itself
pub not_on_itself : (w : Workspace) (p q : List ℕ) → BuildsOn w p q → q ≡ p → ⊥
not_on_itself w p q on e = on.not_back (subst (λ r. IsInClosure w q r) e (subst (λ r. IsInClosure w r r) (sym e) (itself (from_package w p q on.imported))))
