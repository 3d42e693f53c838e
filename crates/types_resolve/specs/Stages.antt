-- The faults of a package in stages: package clauses, imports, scopes, members, types. A stage is reported only where the earlier ones have
-- no fault.
use Rattle.std.specs.Prelude.{ℕ, ◌⊎◌, Bool, List}
use Rattle.types_declared.specs.declared.fault.Fault.{Fault}
use Rattle.types_declared.specs.Stage.{FirstOf}
use Rattle.go_ast.specs.SourceFile.{SourceFile}
use Rattle.types_declared.specs.declared.states.ImportState.{ImportState}
use Rattle.types_resolve.specs.Clauses.{IsClauseFault}
use Rattle.types_resolve.specs.Imports.{IsImportFault}
use Rattle.types_resolve.specs.Scoping.{IsScopeFault, IsUnknownFault}
use Rattle.types_declared.specs.Laid.{Laid}
use Rattle.types_resolve.specs.StatementMarks.{IsMarkFault}

-- f is a fault of package clauses, or where there is none, of imports
abbrev pub IsOuterFault : (List ℕ → ImportState) → List SourceFile → Fault → Type 0
IsOuterFault state files = FirstOf (IsClauseFault files) (IsImportFault state files)

-- f is a fault of scopes or statements that needs no imported package
abbrev pub IsOwnFault : List SourceFile → Laid → Fault → Type 0
IsOwnFault files p f = IsScopeFault p f ⊎ IsMarkFault files p f

-- f is a fault of scopes, statements or qualified identifiers
abbrev pub IsInnerFault : List SourceFile → ((path name : List ℕ) → Bool) → Laid → Fault → Type 0
IsInnerFault files exports p f = IsOwnFault files p f ⊎ IsUnknownFault files exports p f

-- f is a fault of the first stage that has any; members and types are the faults of the last two stages
abbrev pub IsFaultIn : (List ℕ → ImportState) → List SourceFile → ((path name : List ℕ) → Bool) → Laid → (members types : Fault → Type 0) → Fault → Type 0
IsFaultIn state files exports p members types =
    FirstOf (IsClauseFault files) (FirstOf (IsImportFault state files) (FirstOf (IsInnerFault files exports p) (FirstOf members types)))
