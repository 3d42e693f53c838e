-- The conflicts of a move, told by the scopes before it. Where the name of the package follows its path, each import of it without a name is
-- renamed. Each of these renames has its conflicts in the scopes of its package, and the move has no others.
use Rattle.std.specs.Prelude.{ℕ, ◌≡◌, ◌↔◌, List, Option, None}
use Rattle.base_files.specs.Workspace.{Workspace}
use Rattle.base_files.specs.declared.place.Place.{Place}
use Rattle.base_edits.specs.EditSet.{FileChanges}
use Rattle.base_edits.specs.Revisions.{Revision}
use Rattle.base_edits.specs.RevisionsOfEdits.{revision_of}
use Rattle.law_rename.specs.Renaming.{HasNoConflict, HasSameBindings}
use Rattle.types_declared.specs.Package.{Package}
use Rattle.workspace_check.specs.Verdicts.{Verdicts}
use Rattle.refs_binding.specs.Uses.{IsCheckedPackage}
use Rattle.refactor_conflict.specs.Conflicts.{IsConflictIn, IsFirstConflict}
use Rattle.refactor_conflict.specs.Staying.{NoneIsLost, StaysIn}
use Rattle.refactor_conflict.specs.declared.conflict.Conflict.{Conflict}
use Rattle.refactor_move.specs.declared.moved.Moved.{Moved}
use Rattle.law_agreement.specs.ScopeConflicts.{HasNoOwnConflict, IsFirstBy, IsOwnConflict}
use Rattle.law_moves.specs.Moves.{IsMove}
use Rattle.law_moves.specs.OneNewName.{RenamesImports}
use Rattle.law_moves.specs.ThereMoved.{IsFollowingImport, IsMovedWith, followed_name}

-- The statement holds of each move, and of each package of the workspace.
abbrev pub OfMoves : ((w : Workspace) → Verdicts → Moved → Revision → Package → Type 0) → Type 0
OfMoves K = (w : Workspace) (known : Verdicts) (from to : List ℕ) (s : FileChanges) → (h : IsMove w known from to s) → (p : Package) →
    IsCheckedPackage w known p → K w known h.edits.moved (revision_of w s) p

-- The imports of the package that get the new name are renamed at once.
abbrev pub MovesRenameImports : Type 0
MovesRenameImports = OfMoves (λ w known m r p. (q : Package) → IsMovedWith m r p q →
    RenamesImports p.layout p.names (IsFollowingImport m p) (followed_name m) q.names)

-- The rename of no such import has a conflict in the scopes of the package.
abbrev pub HasNoImportConflict : Moved → Package → Type 0
HasNoImportConflict m p = (d : ℕ) → IsFollowingImport m p d → HasNoConflict p.layout p.names d (followed_name m)

-- Exactly then are the bindings of the package the same after the move.
abbrev pub MovedBindingsAreSame : Type 0
MovedBindingsAreSame = OfMoves (λ w known m r p. (q : Package) → IsMovedWith m r p q →
    HasSameBindings p.layout p.names q.names ↔ HasNoImportConflict m p)

-- The rename of an import has this conflict in the scopes of its package, the old names tell.
abbrev pub IsImportConflict : (Known : Package → Type 0) → Moved → Package → Conflict → Type 0
IsImportConflict Known m p c = (d : ℕ) × (IsFollowingImport m p d × IsOwnConflict Known p d (followed_name m) c)

-- No identifier of the package that begins at the place has a conflict.
abbrev pub IsFreeOfImports : Moved → Package → Place → Type 0
IsFreeOfImports m p place = (d : ℕ) → IsFollowingImport m p d → HasNoOwnConflict p d (followed_name m) place

-- Each conflict of such a rename is one of the move.
abbrev pub ImportConflictsAreConflicts : Type 0
ImportConflictsAreConflicts = OfMoves (λ w known m r p. (c : Conflict) → IsImportConflict (IsCheckedPackage w known) m p c → IsConflictIn w known r p c)

-- The move has no other conflict.
abbrev pub MoveConflictsAreOfImports : Type 0
MoveConflictsAreOfImports = OfMoves (λ w known m r p. (c : Conflict) → IsConflictIn w known r p c →
    (IsImportConflict (IsCheckedPackage w known) m p c → ⊥) → ⊥)

-- All identifiers at a place stay bound exactly where none of them has such a conflict.
abbrev pub PlacesStayWithoutConflict : Type 0
PlacesStayWithoutConflict = OfMoves (λ w known m r p. (place : Place) → StaysIn w known r p place ↔ IsFreeOfImports m p place)

-- So a package that keeps its name has no conflict.
abbrev pub NamesThatStayHaveNoConflict : Type 0
NamesThatStayHaveNoConflict = (w : Workspace) (known : Verdicts) (from to : List ℕ) (s : FileChanges) → (h : IsMove w known from to s) →
    h.edits.moved.name ≡ None → NoneIsLost w known (revision_of w s)

-- Some package has this conflict.
abbrev pub IsMoveConflict : (Known : Package → Type 0) → Moved → Conflict → Type 0
IsMoveConflict Known m c = (p : Package) × (Known p × IsImportConflict Known m p c)

-- No identifier at the place has a conflict.
abbrev pub IsFreeOfMove : (Known : Package → Type 0) → Moved → Place → Type 0
IsFreeOfMove Known m place = (p : Package) → Known p → IsFreeOfImports m p place

-- The first conflict of the move by place, told by the scopes before it.
abbrev pub TellsFirstImportConflict : (Known : Package → Type 0) → Moved → Option Conflict → Type 0
TellsFirstImportConflict Known m told = IsFirstBy (IsMoveConflict Known m) (IsFreeOfMove Known m) told

-- It is the first conflict of the move.
abbrev pub FirstImportConflictsAreTold : Type 0
FirstImportConflictsAreTold = (w : Workspace) (known : Verdicts) (from to : List ℕ) (s : FileChanges) → (h : IsMove w known from to s) →
    (told : Option Conflict) → TellsFirstImportConflict (IsCheckedPackage w known) h.edits.moved told → IsFirstConflict w known (revision_of w s) told

-- A move loses and captures no identifier exactly where each package is bound as it was.
abbrev pub NoneLostIsSame : Type 0
NoneLostIsSame = (w : Workspace) (known : Verdicts) (from to : List ℕ) (s : FileChanges) → (h : IsMove w known from to s) →
    NoneIsLost w known (revision_of w s) ↔ ((p : Package) → IsCheckedPackage w known p → HasNoImportConflict h.edits.moved p)
