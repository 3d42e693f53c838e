-- Declarations of packages that are not marked.
use Rattle.std.specs.Prelude.{ℕ, ◌≡◌, List, Option, Some, None}
use Rattle.refs_binding.specs.declared.declaration.Declaration.{Declaration}
use Rattle.refs_binding.specs.declared.declaration.Declaration.TheVariants.{Predeclared, Declared, Field, Method}

-- The path of the package of a declaration, or `None` if it is predeclared.
abbrev pub declaring_path : Declaration → Option (List ℕ)
declaring_path (Predeclared n) = None
declaring_path (Declared path n) = Some path
declaring_path (Field s) = Some s.package
declaring_path (Method s) = Some s.package
