-- Planned renames and moves beside packages with faults keep every byte outside their edits. An import without a name gains one.
use Rattle.std.specs.Prelude.{ℕ, ◌≡◌, ◌<◌, ◌≤◌, List, length, Some, Ok, slice_get}
use Rattle.std.specs.FinMap as files
use Rattle.go_ast.specs.SourceFile.{SourceFile}
use Rattle.go_scanner.specs.declared.piece.Piece.{Piece}
use Rattle.go_scanner.specs.CutText.{tokens_in}
use Rattle.base_edits.specs.Laws.{AreUntouched}
use Rattle.workspace_snapshot.specs.declared.snapshot.Snapshot.{Snapshot}
use Rattle.workspace_snapshot.specs.declared.change.Change.{Change}
use Rattle.refactor_plan.specs.Laws.{KeepsBytes, edits_in}
use Rattle.refactor_rename.specs.FileEdits.{IsLiteralAt}
use Rattle.refactor_rename.specs.RenameEdits.{IsSourceIn}
use Rattle.law_plans.specs.GainedNames.{GainsName}
use Rattle.law_plans.specs.MovedBytes.{KeepsBytesMoved}
use Rattle.refactor_affected.specs.Renames.{PlansAffectedRename, part_asked}
use Rattle.refactor_affected.specs.Moves.{PlansAffectedMove}

-- Where a rename is planned, each file stays at its path. Each byte range of it that no edit touches keeps its bytes.
abbrev pub AffectedRenamesKeepOtherBytes : Type 0
AffectedRenamesKeepOtherBytes = (snapshot : Snapshot) (path : List ℕ) (offset : ℕ) (name : List ℕ) (change : Change) →
    PlansAffectedRename snapshot path offset name (Ok change) →
    (file text : List ℕ) → files.get snapshot.files file ≡ Some text → (start end : ℕ) → start < end → end ≤ length text →
    AreUntouched (edits_in change file) start end → KeepsBytes change file text start end

-- Where a move is planned, each file has its path after the move. Each byte range of it that no edit touches keeps its bytes.
abbrev pub AffectedMovesKeepOtherBytes : Type 0
AffectedMovesKeepOtherBytes = (snapshot : Snapshot) (from to : List ℕ) (change : Change) → PlansAffectedMove snapshot from to (Ok change) →
    (file text : List ℕ) → files.get snapshot.files file ≡ Some text → (start end : ℕ) → start < end → end ≤ length text →
    AreUntouched (edits_in change file) start end → KeepsBytesMoved from to change file text start end

-- Where a rename is planned whose declaration is an import without a name, the import gains the name: the token is its string literal.
abbrev pub AffectedRenamesNameImports : Type 0
AffectedRenamesNameImports = (snapshot : Snapshot) (path : List ℕ) (offset : ℕ) (name : List ℕ) (change : Change) →
    (planned : PlansAffectedRename snapshot path offset name (Ok change)) →
    (f : SourceFile) → IsSourceIn (part_asked planned.0) planned.1.renaming.may.renamable.asked.known f → (i : ℕ) (token : Piece) →
    slice_get (tokens_in f.cut) i ≡ Some token → IsLiteralAt planned.1.renaming.edits.edits.renamed.literal f.path i → GainsName change f i token name
