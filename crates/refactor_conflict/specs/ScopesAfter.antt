-- Declarations and exports of the workspace after a change, by its scopes.
use Rattle.std.specs.Prelude.{◌≡◌, ⊤}
use Rattle.base_files.specs.Workspace.{Workspace}
use Rattle.go_scope.specs.Bindings.{Counts}
use Rattle.types_declared.specs.Package.{Package}
use Rattle.refs_binding.specs.declared.declaration.Declaration.{Declaration}
use Rattle.refs_binding.specs.declared.declaration.Declaration.TheVariants.{Predeclared, Declared, Field, Method}
use Rattle.refactor_conflict.specs.ScopedPackages.{IsScopedIn}

-- Scopes can bind to this declaration: it is predeclared, or a declaration of a package of `w` that counts.
abbrev pub IsBindable : Workspace → Declaration → Type 0
IsBindable w (Predeclared d) = ⊤
IsBindable w (Declared path d) = (p : Package) × (IsScopedIn w p × ((p.path ≡ path) × Counts p.layout p.names d))
IsBindable w (Field s) = ⊥
IsBindable w (Method s) = ⊥
