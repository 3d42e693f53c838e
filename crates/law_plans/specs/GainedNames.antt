-- The law of planned renames of imports without a name: the import gains the name before its literal, and keeps the literal.
use Rattle.std.specs.Prelude.{ℕ, ◌≡◌, ◌⊎◌, ◌+◌, ◌-◌, ◌≤◌, List, ◌++◌, length, Some, Ok, slice_get, Contains}
use Rattle.std.specs.List.{slice_range}
use Rattle.std.specs.FinMap as files
use Rattle.go_ast.specs.SourceFile.{SourceFile}
use Rattle.go_scanner.specs.declared.piece.Piece.{Piece}
use Rattle.go_scanner.specs.CutText.{tokens_in}
use Rattle.base_edits.specs.Moved.{moved_offset}
use Rattle.base_edits.specs.declared.edit.Edit.{Edit}
use Rattle.workspace_snapshot.specs.declared.snapshot.Snapshot.{Snapshot}
use Rattle.workspace_snapshot.specs.declared.change.Change.{Change}
use Rattle.refactor_rename.specs.FileEdits.{IsLiteralAt}
use Rattle.refactor_rename.specs.RenameEdits.{IsSourceIn}
use Rattle.refactor_rename.specs.Replacements.{IsNameBefore}
use Rattle.refactor_plan.specs.Laws.{edits_in}
use Rattle.refactor_plan.specs.Plan.{PlansRename}

-- The edit that inserts bytes before a token.
abbrev pub insertion : Piece → List ℕ → Edit
insertion token put = record { span = record { start = token.span.start; end = token.span.start }; text = put }

-- The edit touches no byte of the token.
abbrev pub IsBeside : Piece → Edit → Type 0
IsBeside token e = (e.span.end ≤ token.span.start) ⊎ (token.span.end ≤ e.span.start)

-- The new text of the file has the bytes `put` directly before the moved token, and the token keeps its bytes. No other edit touches it.
pub record GainsName (change : Change) (f : SourceFile) (i : ℕ) (token : Piece) (name : List ℕ) : Type 0 where
  pub put : List ℕ
  pub is_put : IsNameBefore f i name put
  pub inserts : Contains (edits_in change f.path) (insertion token put)
  pub new : List ℕ
  pub there : files.get change.files f.path ≡ Some new
  pub front : List ℕ
  pub behind : List ℕ
  pub stands : new ≡ front ++ (put ++ behind)
  pub directly : length (front ++ put) ≡ moved_offset (edits_in change f.path) token.span.start
  pub kept : slice_range new (moved_offset (edits_in change f.path) token.span.start) (moved_offset (edits_in change f.path) token.span.start
      + (token.span.end - token.span.start)) ≡ slice_range f.cut.text token.span.start token.span.end
  pub only : (e : Edit) → Contains (edits_in change f.path) e → (e ≡ insertion token put) ⊎ IsBeside token e

-- Where a rename is planned whose declaration is an import without a name, the import gains the name: the token is its string literal.
abbrev pub RenamesNameImports : Type 0
RenamesNameImports = (snapshot : Snapshot) (path : List ℕ) (offset : ℕ) (name : List ℕ) (change : Change) →
    (planned : PlansRename snapshot path offset name (Ok change)) →
    (f : SourceFile) → IsSourceIn snapshot.files planned.1.renaming.may.renamable.asked.known f → (i : ℕ) (token : Piece) →
    slice_get (tokens_in f.cut) i ≡ Some token → IsLiteralAt planned.1.renaming.edits.edits.renamed.literal f.path i → GainsName change f i token name
