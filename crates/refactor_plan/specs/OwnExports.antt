-- The export data of a package is its own: its names, fields and methods are those of the package itself.
use Rattle.std.specs.Prelude.{ℕ, ◌≡◌, true, List, Some}
use Rattle.base_files.specs.Workspace.{Workspace}
use Rattle.types_declared.specs.Laid.{is_exported}
use Rattle.types_expr.specs.World.{Field, Method}
use Rattle.types_declared.specs.Package.{Package, Export, ExportData}
use Rattle.types_check.specs.Exports.{IsExport}
use Rattle.workspace_check.specs.Verdicts.{Verdicts, IsPackageIn}

-- The package at the path `p` exports the name `name` as `e`: it declares that name, which begins with an upper case letter.
pub record ExportsName (w : Workspace) (known : Verdicts) (p name : List ℕ) (e : Export) : Type 0 where
  pub checked : Package
  pub is_package : IsPackageIn w known p checked
  pub is_export : IsExport checked name e
  pub exported : is_exported name ≡ true

-- The package at the path `p` declares each name of this export data. Each field and method of its type definitions has a symbol of that
-- package.
pub record AreOwnExports (w : Workspace) (known : Verdicts) (p : List ℕ) (i : ExportData) : Type 0 where
  pub exports : (name : List ℕ) (e : Export) → i.exported name ≡ Some e → ExportsName w known p name e
  pub fields : (rank : ℕ) (name : List ℕ) (f : Field) → (i.definition rank).field name ≡ Some f → f.symbol.«package» ≡ p
  pub methods : (rank : ℕ) (name : List ℕ) (m : Method) → (i.definition rank).method name ≡ Some m → m.symbol.«package» ≡ p
