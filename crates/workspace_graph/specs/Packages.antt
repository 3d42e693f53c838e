-- The imports and closures of the packages of a workspace.
use Rattle.std.specs.Prelude.{◌≡◌, ℕ, ◌↔◌, List, length, Some, slice_get}
use Rattle.std.specs.List.{Contains}
use Rattle.base_files.specs.Packages.{package_paths, package_files}
use Rattle.base_files.specs.Workspace.{Workspace}
use Rattle.go_scanner.specs.StringValues.{HasStringValue}
use Rattle.go_scanner.specs.TokenValues.{IsStringClass}
use Rattle.go_scanner.specs.declared.piece.Piece.{Piece}
use Rattle.go_scanner.specs.Cuts.{bytes_of}
use Rattle.go_scanner.specs.CutText.{tokens_in}
use Rattle.go_ast.specs.SourceFile.{SourceFile, IsSourceFile}
use Rattle.workspace_graph.specs.FileImports.{import_literals}
use Rattle.workspace_graph.specs.Imports.{LinkTable, AreLinked, Imports}

-- `file` is the parsed file with this path and text.
pub record IsParsed (path : List ℕ) (text : List ℕ) (file : SourceFile) : Type 0 where
  pub of_path : file.path ≡ path
  pub of_text : file.cut.text ≡ text
  pub is_file : IsSourceFile file

-- One of the file's import specs has a string literal whose value is the path.
pub record ImportsPath (file : SourceFile) (path : List ℕ) : Type 0 where
  pub token : ℕ
  pub literal : Contains (import_literals file.tree) token
  pub piece : Piece
  pub at : slice_get (tokens_in file.cut) token ≡ Some piece
  pub is_string : IsStringClass piece.class
  pub value : HasStringValue (bytes_of file.cut.text piece) path

-- A file of package `p` that has a tree imports `q`.
pub record PackageImports (w : Workspace) (p q : List ℕ) : Type 0 where
  pub entry : List ℕ × List ℕ
  pub of_package : Contains (package_files w p) entry
  pub file : SourceFile
  pub parsed : IsParsed entry.0 entry.1 file
  pub imports : ImportsPath file q

-- `g` has exactly the imports between the packages of the workspace, by their numbers.
pub record AreLinksOf (w : Workspace) (g : LinkTable) : Type 0 where
  pub size : length g ≡ length (package_paths w)
  pub linked : AreLinked g
  pub each : (i j : ℕ) (p q : List ℕ) → slice_get (package_paths w) i ≡ Some p → slice_get (package_paths w) j ≡ Some q → Imports g i j ↔ PackageImports w p q

-- `q` is in the closure of `p`: `p` imports `q`, directly or indirectly, or is `q`. Both are packages of the workspace.
pub data IsInClosure (w : Workspace) : List ℕ → List ℕ → Type 0 where
  itself : {p : List ℕ} → Contains (package_paths w) p → IsInClosure w p p
  through : {p q r : List ℕ} → PackageImports w p q → IsInClosure w q r → IsInClosure w p r

-- `texts` has exactly the Go files of the packages in the closure of `p`, as pairs of path and text.
abbrev pub AreClosureTexts : Workspace → List ℕ → List (List ℕ × List ℕ) → Type 0
AreClosureTexts w p texts = (e : List ℕ × List ℕ) → Contains texts e ↔ ((q : List ℕ) × IsInClosure w p q × Contains (package_files w q) e)
