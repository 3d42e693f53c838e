-- The faults of package clauses: a name that differs from that of the package's first file.
use Rattle.std.specs.Prelude.{ℕ, ◌≡◌, ◌≢◌, List}
use Rattle.base_files.specs.declared.fault_kind.FaultKind.TheVariants as kind
use Rattle.types_declared.specs.declared.fault.Fault.{Fault}
use Rattle.types_declared.specs.Listing.{IsOfSomeItem}
use Rattle.go_ast.specs.SourceFile.{SourceFile}
use Rattle.types_declared.specs.Files.{RankedSource, ranked_files, clause_name, package_name}

-- the fault at the file's package clause, whose name is another than this
pub record IsFaultOfClause (name : List ℕ) (r : RankedSource) (f : Fault) : Type 0 where
  pub at : f ≡ record { file = r.0; token = r.1.tree.name; kind = kind.Package }
  pub differs : clause_name r.1 ≢ name

-- a fault of the package clauses of a package's files
abbrev pub IsClauseFault : List SourceFile → Fault → Type 0
IsClauseFault files = IsOfSomeItem (IsFaultOfClause (package_name files)) (ranked_files files)
