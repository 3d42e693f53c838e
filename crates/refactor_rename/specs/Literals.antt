-- The string literals of imports without a name: each stands for its import declaration. IsPackage: the packages of the workspace.
use Rattle.std.specs.Prelude.{ℕ, ◌≡◌, ◌<◌, Option, Some, None, slice_get, MatchOption}
use Rattle.go_ast.specs.SourceFile.{SourceFile}
use Rattle.go_scope.specs.Bindings.{IsImport}
use Rattle.types_declared.specs.Laid.{literal_of}
use Rattle.types_declared.specs.Package.{Package}
use Rattle.refs_binding.specs.declared.declaration.Declaration.{Declaration}
use Rattle.refs_binding.specs.declared.declaration.Declaration.TheVariants.{Predeclared, Declared, Field, Method}
use Rattle.refs_binding.specs.DeclaringPlaces.{InPackage}
use Rattle.refactor_rename.specs.declared.renamed.Literal.{Literal}

-- There is a file, and `l` is its token of this number.
abbrev pub IsTokenOf : Option SourceFile → ℕ → Literal → Type 0
IsTokenOf None token l = ⊥
IsTokenOf (Some f) token l = (l.path ≡ f.path) × (l.token ≡ token)

-- The declaration `d` is an import without a name, as in `import "shapes"`.
abbrev pub IsUnnamedImport : Package → ℕ → Type 0
IsUnnamedImport p d = IsImport p.layout d × (literal_of p.layout d ≡ d)

-- The declaration `d` of the package `p` is an import without a name, and `l` is its string literal.
abbrev pub IsPathLiteralIn : Package → ℕ → Literal → Type 0
IsPathLiteralIn p d l = (d < p.size) × IsUnnamedImport p d × IsTokenOf (slice_get p.files (p.layout.place d).file) (p.layout.place d).index l

-- The declaration of the workspace is an import without a name, and `l` is its string literal.
abbrev pub IsPathLiteralOf : (Package → Type 0) → Declaration → Literal → Type 0
IsPathLiteralOf IsPackage (Predeclared d) l = ⊥
IsPathLiteralOf IsPackage (Declared path d) l = InPackage IsPackage path (λ p. IsPathLiteralIn p d l)
IsPathLiteralOf IsPackage (Field s) l = ⊥
IsPathLiteralOf IsPackage (Method s) l = ⊥

-- The literal of which `K` holds, or `None` where it holds of none.
abbrev pub IsLiteralFound : (Literal → Type 0) → Option Literal → Type 0
IsLiteralFound K found = MatchOption found ((l : Literal) → K l → ⊥) (λ l. K l)
