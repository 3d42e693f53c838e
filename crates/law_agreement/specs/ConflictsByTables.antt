-- Conflicts of a rename by what is kept of a workspace: its tables, the paths of its imports, its member uses, and what its definitions
-- have. No text is asked, and no token but those of identifiers.
use Rattle.std.specs.Prelude.{ℕ, ◌≡◌, ◌↔◌, List, Option, Some, None}
use Rattle.base_files.specs.Workspace.{Workspace}
use Rattle.base_files.specs.declared.place.Place.{Place}
use Rattle.base_edits.specs.EditSet.{FileChanges}
use Rattle.types_expr.specs.Types.{PlainType, Underlying}
use Rattle.types_expr.specs.Judge.{MemberUse}
use Rattle.law_rename.specs.Renaming.{WouldCapture, HasNoConflictAt}
use Rattle.types_declared.specs.Package.{Package, PlacedFunction}
use Rattle.types_declared.specs.Written.{DeclaresImport}
use Rattle.types_declared.specs.Definitions.{HasUnderlying, PlacedField, IsFieldOf, IsMethodOf}
use Rattle.types_info.specs.MemberUses.{AreMemberUses}
use Rattle.workspace_check.specs.Verdicts.{Verdicts}
use Rattle.refs_binding.specs.declared.declaration.Declaration.{Declaration}
use Rattle.refs_binding.specs.declared.declaration.Declaration.TheVariants.{Predeclared, Declared}
use Rattle.refs_binding.specs.Identifiers.{BeginsAt}
use Rattle.refs_binding.specs.Binding.{BindsByScope, IsPredeclaredNumber}
use Rattle.refs_binding.specs.Uses.{IsCheckedPackage}
use Rattle.refs_binding.specs.DeclaringPlaces.{IsDeclaredAt}
use Rattle.base_edits.specs.RevisionsOfEdits.{revision_of}
use Rattle.refactor_conflict.specs.BoundAfter.{HasBecome, IsBoundByScopes}
use Rattle.refactor_conflict.specs.Conflicts.{IsConflict, IsCapturer, IsFirstConflict, LostOrCaptured}
use Rattle.refactor_conflict.specs.declared.conflict.Conflict.{Conflict}
use Rattle.refactor_conflict.specs.declared.conflict.Capturer.{Capturer}
use Rattle.law_renamed_workspaces.specs.Renames.{IsRename, IsPlainRename}

-- a field or method of a definition of the package, by the name that it has and its rank
abbrev pub HasField : Package → (definition : ℕ) → List ℕ → (rank : ℕ) → Type 0
HasField p definition name rank = (f : PlacedField) × IsFieldOf p definition name rank f

abbrev pub HasMethod : Package → (definition : ℕ) → List ℕ → (rank : ℕ) → Type 0
HasMethod p definition name rank = (f : PlacedFunction) × IsMethodOf p definition name rank f

-- the same is kept of two packages
pub record HasSameTable (p q : Package) : Type 0 where
  pub path : q.path ≡ p.path
  pub size : q.size ≡ p.size
  pub layout : q.layout ≡ p.layout
  pub names : q.names ≡ p.names
  pub places : (u : ℕ) (place : Place) → BeginsAt p place.path place.offset u ↔ BeginsAt q place.path place.offset u
  pub declared : (d : Declaration) (place : Place) → IsDeclaredAt (λ x. x ≡ p) d place ↔ IsDeclaredAt (λ x. x ≡ q) d place
  pub imports : (d : ℕ) (path : List ℕ) → DeclaresImport p d path ↔ DeclaresImport q d path
  pub members : (lists : List (List MemberUse)) → AreMemberUses p lists ↔ AreMemberUses q lists
  pub underlying : (t : PlainType) (u : Underlying) → HasUnderlying p t u ↔ HasUnderlying q t u
  pub fields : (definition : ℕ) (name : List ℕ) (rank : ℕ) → HasField p definition name rank ↔ HasField q definition name rank
  pub methods : (definition : ℕ) (name : List ℕ) (rank : ℕ) → HasMethod p definition name rank ↔ HasMethod q definition name rank

-- the same is kept of two workspaces
pub record HaveSameTables (v : Workspace) (a : Verdicts) (w : Workspace) (b : Verdicts) : Type 0 where
  pub there : (p : Package) → IsCheckedPackage v a p → (q : Package) × (IsCheckedPackage w b q × HasSameTable p q)
  pub here : (q : Package) → IsCheckedPackage w b q → (p : Package) × (IsCheckedPackage v a p × HasSameTable p q)

-- What is kept tells all conflicts: workspaces of which the same is kept have the same, where the same is renamed.
abbrev pub ConflictsAreKept : Type 0
ConflictsAreKept = (v w : Workspace) (a b : Verdicts) → HaveSameTables v a w b → (d : Declaration) (name : List ℕ) (s t : FileChanges) →
    (h : IsRename v a d name s) (k : IsRename w b d name t) → h.set ≡ k.set → (c : Conflict) →
    IsConflict v a (revision_of v s) c ↔ IsConflict w b (revision_of w t) c

-- The first conflict of the rename of each workspace of which that is kept, for each edit set of it.
abbrev pub TellsConflictOf : Workspace → Verdicts → Declaration → (set : List Declaration) → List ℕ → Option Conflict → Type 0
TellsConflictOf v a d set name told = (w : Workspace) (b : Verdicts) → HaveSameTables v a w b → (s : FileChanges) → (h : IsRename w b d name s) → h.set ≡ set →
    IsFirstConflict w b (revision_of w s) told

-- there is one such answer at most
abbrev pub HasOneAnswer : Type 0
HasOneAnswer = (w : Workspace) (known : Verdicts) (d : Declaration) (name : List ℕ) (s : FileChanges) → IsRename w known d name s →
    (x y : Option Conflict) → IsFirstConflict w known (revision_of w s) x → IsFirstConflict w known (revision_of w s) y → x ≡ y

-- By the tables alone

-- the declaration that has a number in the scopes of a package
abbrev pub IsOwnNumber : Package → ℕ → Declaration → Type 0
IsOwnNumber p n (Predeclared m) = (m ≡ n) × IsPredeclaredNumber n
IsOwnNumber p n (Declared path m) = (path ≡ p.path) × (m ≡ n) × (IsPredeclaredNumber n → ⊥)
IsOwnNumber p n d = ⊥

-- What captures the identifier `u` in the declaring package, once the declaration has the name. Where it is lost, it doesn't stay bound, and
-- nothing captures it.
abbrev pub WouldTurn : Workspace → Verdicts → Package → (n : ℕ) → (name : List ℕ) → (u : ℕ) → Option Capturer → Type 0
WouldTurn w known p n name u None =
    (HasNoConflictAt p.layout p.names n name u → ⊥) × ((c : ℕ) → WouldCapture p.layout p.names n name u c → ⊥)
WouldTurn w known p n name u (Some by) =
    (c : ℕ) × (WouldCapture p.layout p.names n name u c × ((d : Declaration) × (IsOwnNumber p c d × IsCapturer (IsCheckedPackage w known) d by)))

-- what scopes bind in that package is told as its tables tell it
abbrev pub OwnConflictsAreTold : Type 0
OwnConflictsAreTold = (w : Workspace) (known : Verdicts) (p : Package) (n : ℕ) (name : List ℕ) (s : FileChanges) →
    IsPlainRename w known (Declared p.path n) name s → IsCheckedPackage w known p → (place : Place) (u : ℕ) → BeginsAt p place.path place.offset u →
    (old : Declaration) → BindsByScope p u old → (by : Option Capturer) →
    LostOrCaptured (HasBecome w known (revision_of w s)) (IsCheckedPackage w known) (IsBoundByScopes (revision_of w s) place) old by ↔
    WouldTurn w known p n name u by
