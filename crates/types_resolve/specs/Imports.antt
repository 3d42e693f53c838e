-- The faults of imports, at the string literal of a path that is missing, on a cycle or of a package with faults.
use Rattle.std.specs.Prelude.{ℕ, ◌≡◌, List, map, Some}
use Rattle.std.specs.List.{flat_map}
use Rattle.types_declared.specs.declared.fault.Fault.{Fault}
use Rattle.types_declared.specs.Listing.{IsOfSomeItem}
use Rattle.go_ast.specs.Tree.{ImportTree}
use Rattle.go_ast.specs.SourceFile.{SourceFile}
use Rattle.types_declared.specs.declared.states.ImportState.{ImportState}
use Rattle.types_declared.specs.States.{import_fault}
use Rattle.types_declared.specs.Files.{RankedSource, ranked_files, imports_in, HasLiteral}

-- an import spec, with its file and the file's rank
abbrev pub PlacedImport : Type 0
PlacedImport = RankedSource × ImportTree

-- the fault at a token of an import whose path is in this state
pub record IsFaultOfState (file token : ℕ) (state : ImportState) (f : Fault) : Type 0 where
  pub in_file : f.file ≡ file
  pub at_token : f.token ≡ token
  pub kind : import_fault state ≡ Some f.kind

-- the fault of the import i, by the state of its path
pub record IsFaultOfImport (state : List ℕ → ImportState) (i : PlacedImport) (f : Fault) : Type 0 where
  pub path : List ℕ
  pub has_path : HasLiteral i.0.1 i.1.path path
  pub of_state : IsFaultOfState i.0.0 i.1.path (state path) f

-- the import specs of a file
abbrev pub placed_imports : RankedSource → List PlacedImport
placed_imports r = map (λ i. (r, i)) (imports_in r.1.tree)

-- a fault of the imports of a package's files
abbrev pub IsImportFault : (List ℕ → ImportState) → List SourceFile → Fault → Type 0
IsImportFault state files = IsOfSomeItem (IsFaultOfImport state) (flat_map placed_imports (ranked_files files))
