-- What an import without a name declares, in a workspace without faults.
use Rattle.std.specs.Prelude.{ℕ, ◌≡◌, ◌<◌, List, [], Option, None, Some, Contains, slice_get}
use Rattle.base_files.specs.Workspace.{Workspace}
use Rattle.go_ast.specs.declared.syntax.Kind.TheVariants as kind
use Rattle.go_ast.specs.Kinds.{kind_of_name}
use Rattle.go_ast.specs.SourceFile.{SourceFile}
use Rattle.go_ast.specs.Tree.{ImportTree}
use Rattle.go_scanner.specs.declared.piece.Class.TheVariants as class
use Rattle.go_scanner.specs.Pieces.{IsPiece}
use Rattle.go_scope.specs.Bindings.{IsImport}
use Rattle.types_declared.specs.Files.{HasLiteral, imports_in}
use Rattle.types_declared.specs.Laid.{literal_of}
use Rattle.types_declared.specs.Package.{Package}
use Rattle.workspace_check.specs.FaultLists.{ListsFaults}
use Rattle.refs_binding.specs.Uses.{IsCheckedPackage}

-- The bytes are an identifier, and not `_`.
pub record IsIdentifierText (name : List ℕ) : Type 0 where
  pub piece : IsPiece class.Name name
  pub named : kind_of_name name ≡ kind.Name

-- The import has a spec without a name in the file `f`, with a path as its literal. The package of that path has the name that it declares.
pub record DeclaresPackageName (p : Package) (name_of : List ℕ → Option (List ℕ)) (d : ℕ) (f : SourceFile) : Type 0 where
  pub spec : ImportTree
  pub in_file : Contains (imports_in f.tree) spec
  pub bare : spec.name ≡ None
  pub literal : spec.path ≡ (p.layout.place d).index
  pub path : List ℕ
  pub has_path : HasLiteral f (p.layout.place d).index path
  pub named : name_of path ≡ Some (p.names d)
  pub is_identifier : IsIdentifierText (p.names d)

-- That is so of each import without a name.
abbrev pub BareImportsDeclare : Type 0
BareImportsDeclare = (w : Workspace) (sound : ListsFaults w []) (p : Package) (is : IsCheckedPackage w sound.known p) (d : ℕ) → d < p.size →
    IsImport p.layout d × (literal_of p.layout d ≡ d) → (f : SourceFile) → slice_get p.files (p.layout.place d).file ≡ Some f →
    DeclaresPackageName p is.is_checked.name_of d f
