-- The imports of a file, by the string literals of its import specs.
use Rattle.std.specs.Prelude.{◌≡◌, ℕ, List, [], ◌∷◌, map, Option, Some, None, slice_get, Vec}
use Rattle.std.specs.List.{flat_map, AllZip}
use Rattle.go_scanner.specs.declared.piece.Piece.{Piece}
use Rattle.go_scanner.specs.Cuts.{bytes_of}
use Rattle.go_scanner.specs.CutText.{tokens_in}
use Rattle.go_scanner.specs.TokenValues.{HasTokenValue}
use Rattle.go_ast.specs.Tree.{FileTree, ImportTree, Group, single, several}
use Rattle.go_ast.specs.SourceFile.{SourceFile}
use Rattle.workspace_graph.specs.declared.file_imports.FileImport.{FileImport}

-- The token indices of the string literals in a group of import specs.
abbrev pub paths_in : Group ImportTree → List ℕ
paths_in (single spec) = spec.path ∷ []
paths_in (several opening items closing) = map (λ item. item.value.path) items

-- The token indices of the string literals of all import specs of a file, in order.
abbrev pub import_literals : FileTree → List ℕ
import_literals tree = flat_map (λ decl. paths_in decl.imports) tree.imports

-- `value` is the value of the token if it is a string literal, and otherwise `None`.
abbrev pub HasPieceValue : {Z : Type 0} → List ℕ → Option Piece → Option (Vec ℕ Z) → Type 0
HasPieceValue text None value = value ≡ None
HasPieceValue text (Some piece) value = HasTokenValue piece.class (bytes_of text piece) value

-- `value` is the value of the token of that index if it is a string literal, and otherwise `None`.
abbrev pub HasValue : {Z : Type 0} → SourceFile → ℕ → Option (Vec ℕ Z) → Type 0
HasValue file token value = HasPieceValue file.cut.text (slice_get (tokens_in file.cut) token) value

-- `imports` lists the string literals of the file's import specs, in order, with their values.
abbrev pub ListsImports : SourceFile → List FileImport → Type 0
ListsImports file imports = AllZip (λ token found. (found.literal ≡ token) × HasValue file token found.path) (import_literals file.tree) imports
