-- The laid out identifiers of a package, the paths of its imports, and exported names.
use Rattle.std.specs.Prelude.{ℕ, ◌≡◌, ◌+◌, Bool, true, false, List, Option, Some, None, slice_get, length, codes, if◌then◌else◌}
use Rattle.bstr.specs.Utf8.{decoded}
use Rattle.unicode.specs.GeneralCategory.{general_category, general_category_eq}
use Rattle.ucd_category.specs.declared.GeneralCategory.TheVariants.{UppercaseLetter}
use Rattle.go_ast.specs.SourceFile.{SourceFile}
use Rattle.go_scope.specs.declared.model.Role.{Role}
use Rattle.go_scope.specs.declared.model.Role.TheVariants.{NotLexical}
use Rattle.go_scope.specs.declared.model.Purpose.TheVariants as purpose
use Rattle.go_scope.specs.Packages.{ScopedPackage, layout_in, names_in}
use Rattle.go_scope.specs.Bindings.{Layout, Names}
use Rattle.types_declared.specs.Files.{HasLiteral}

-- the identifiers of a package, laid out: their layout, their names and their number
pub record Laid : Type 0 where
  pub layout : Layout
  pub names : Names
  pub size : ℕ

-- the laid out identifiers of a scope table
abbrev pub laid_in : ScopedPackage → Laid
laid_in t = record { layout = layout_in t; names = names_in t; size = length t.sites }

-- the name `init`, which no package-level variable and no type may have
abbrev pub init_name : List ℕ
init_name = codes "init"

-- whether a role is that of the string literal of an import with a name
abbrev pub is_literal : Role → Bool
is_literal (NotLexical purpose.ImportPath) = true
is_literal r = false

-- the identifier of an import's string literal: the next one where the import has a name, else d itself
abbrev pub literal_of : Layout → ℕ → ℕ
literal_of l d = if is_literal (l.role (d + 1)) then d + 1 else d

-- whether a name's first character is an upper case letter (Unicode category Lu)
abbrev pub is_upper_at : Option ℕ → Bool
is_upper_at None = false
is_upper_at (Some c) = general_category_eq (general_category c) UppercaseLetter

-- Whether a name is exported: its first character is an upper case letter (the Go specification, "Exported identifiers").
unfoldable pub is_exported : List ℕ → Bool
is_exported name = is_upper_at (decoded name).char

-- the import d has this path
pub record IsPathOf (files : List SourceFile) (p : Laid) (d : ℕ) (path : List ℕ) : Type 0 where
  pub source : SourceFile
  pub is_file : slice_get files (p.layout.place d).file ≡ Some source
  pub has_literal : HasLiteral source (p.layout.place (literal_of p.layout d)).index path
