-- The paths that files import, as a set that is being collected.
use Rattle.std.specs.Prelude.{◌≡◌, ℕ, ◌↔◌, ◌⊎◌, List, Option, Some, None, Vec, map, slice_get}
use Rattle.std.specs.List.{Contains}
use Rattle.go_ast.specs.SourceFile.{FileParts, source_of}
use Rattle.workspace_graph.specs.Packages.{ImportsPath}
use Rattle.workspace_graph.specs.declared.file_imports.FileImport.{FileImport}

-- The paths as lists of bytes.
abbrev pub bytes_of_paths : {Z : Type 0} → List (Vec ℕ Z) → List (List ℕ)
bytes_of_paths paths = map (λ path. path.items) paths

-- The value of an import's string literal is known and is the path.
abbrev pub IsPathValue : {Z : Type 0} → Option (Vec ℕ Z) → List ℕ → Type 0
IsPathValue None path = ⊥
IsPathValue (Some value) path = value.items ≡ path

-- One of the imports is of the path.
abbrev pub AnyIsOfPath : List FileImport → List ℕ → Type 0
AnyIsOfPath imports path = (found : FileImport) × (Contains imports found × IsPathValue found.path path)

-- One of the files imports the path.
abbrev pub AnyImports : List FileParts → List ℕ → Type 0
AnyImports files path = (file : FileParts) × (Contains files file × ImportsPath (source_of file) path)

-- The list has exactly the paths of which `P` holds.
pub record ListsPaths {Z : Type 0} (P : List ℕ → Type 0) (paths : List (Vec ℕ Z)) : Type 0 where
  pub each : (path : List ℕ) → Contains (bytes_of_paths paths) path ↔ P path

-- The list `new` has the paths of `old` and those of which `P` holds, and no others.
pub record AddsPaths {Z : Type 0} (P : List ℕ → Type 0) (old new : List (Vec ℕ Z)) : Type 0 where
  pub each : (path : List ℕ) → Contains (bytes_of_paths new) path ↔ (Contains (bytes_of_paths old) path ⊎ P path)

-- The entry of number `j` in `paths` is one of `some`.
abbrev pub IsOneOf : List (List ℕ) → List (List ℕ) → ℕ → Type 0
IsOneOf paths some j = (q : List ℕ) × (Contains some q × (slice_get paths j ≡ Some q))
