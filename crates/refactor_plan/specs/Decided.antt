-- A rename that the workspace before it decides.
use Rattle.std.specs.Prelude.{ℕ, ◌≡◌, ◌↔◌, true, false, Bool, List, Option, Some, None, option_map, slice_get}
use Rattle.base_files.specs.Workspace.{Workspace}
use Rattle.base_files.specs.declared.place.Place.{Place}
use Rattle.base_edits.specs.EditSet.{FileChanges, edited}
use Rattle.base_edits.specs.Fits.{Fits}
use Rattle.base_edits.specs.RevisionsOfEdits.{revision_of}
use Rattle.workspace_check.specs.declared.known.Known.{Known}
use Rattle.workspace_check.specs.declared.known.KnownVerdict.{KnownVerdict}
use Rattle.workspace_check.specs.Found.{HoldSameVerdicts, KnowsVerdicts}
use Rattle.workspace_check.specs.Verdicts.{Verdicts}
use Rattle.go_scope.specs.Bindings.{Counts}
use Rattle.types_declared.specs.Package.{Package}
use Rattle.refs_binding.specs.declared.declaration.Declaration.{Declaration}
use Rattle.refs_binding.specs.declared.declaration.Declaration.TheVariants.{Declared}
use Rattle.refs_binding.specs.Binding.{IsPredeclaredNumber}
use Rattle.refs_binding.specs.DeclaredNames.{HasDeclaredName}
use Rattle.refs_binding.specs.Uses.{IsCheckedPackage, IsUseOf}
use Rattle.refs_binding.specs.WorkspaceFindings.{WorkspaceFindings}
use Rattle.refs_binding.specs.Workspaces.{known_in}
use Rattle.refactor_conflict.specs.Staying.{NoneIsLost}
use Rattle.refactor_rename.specs.declared.renaming.Renaming.{Renaming}
use Rattle.refactor_rename.specs.Naming.{IsFixed, IsReservedFor}
use Rattle.refactor_rename.specs.NewName.{IsNewName}
use Rattle.refactor_coupled.specs.CoupledEdits.{AreCoupledEdits}
use Rattle.refactor_coupled.specs.FirstTurns.{TellsFirstTurn}
use Rattle.refactor_coupled.specs.Obstacles.{HasNoObstacle, IsFirstObstacle, PreservesAll}
use Rattle.refactor_coupled.specs.declared.obstacle.Obstacle.{Obstacle}
use Rattle.refactor_coupled.specs.declared.obstacle.Obstacle.TheVariants as obstacle
use Rattle.refactor_decide.specs.declared.decision.ScopeDecision.{ScopeDecision}
use Rattle.refactor_plan.specs.declared.decision.Decision.{Decision}
use Rattle.law_renamed_workspaces.specs.NamesAfterwards.{IsMember}
use Rattle.law_renamed_workspaces.specs.MemberRenames.{IsMemberRename}
use Rattle.law_renamed_workspaces.specs.KnownVerdicts.{HoldVerdictsBut, IsHomeNumber}

-- The declaration `n` of the package's own scopes counts.
pub record CountsInScopes (p : Package) (n : ℕ) : Type 0 where
  pub own : IsPredeclaredNumber n → ⊥
  pub counts : Counts p.layout p.names n

-- The name is legal for the declaration, which has another one. If it is a field or method, some identifier is bound to it. If it is one of
-- scopes, it counts.
pub record IsLegalFor (w : Workspace) (known : Verdicts) (d : Declaration) (name : List ℕ) : Type 0 where
  pub form : IsNewName name
  pub renamable : IsFixed (IsCheckedPackage w known) d → ⊥
  pub allowed : IsReservedFor (IsCheckedPackage w known) d name → ⊥
  pub other : HasDeclaredName (IsCheckedPackage w known) d name → ⊥
  pub used : IsMember d → (place : Place) × IsUseOf w known d place
  pub counts : (p : Package) (n : ℕ) → IsCheckedPackage w known p → d ≡ Declared p.path n → CountsInScopes p n

-- The verdict that is known of the package of this number, unless it is dropped.
abbrev pub IsVerdictBut : (Dropped : ℕ → Type 0) → List (Option KnownVerdict) → (number : ℕ) → Option KnownVerdict → Type 0
IsVerdictBut Dropped verdicts number found = (one : KnownVerdict) → found ≡ Some one → (Dropped number → ⊥) × (slice_get verdicts number ≡ Some (Some one))

-- The new verdicts are the old ones where the declarations are hidden, else the old ones but those on the packages of the declarations.
abbrev pub KeepsKnown : Workspace → (set : List Declaration) → (is_hidden : Bool) → (old new : Known) → Type 0
KeepsKnown w set true old new = HoldSameVerdicts old.verdicts.items new.verdicts.items
KeepsKnown w set false old new = HoldVerdictsBut (IsHomeNumber w set) old.verdicts.items new.verdicts.items

-- The first obstacle of the edits is told. They have none exactly where they preserve bindings and which types implement which interfaces.
-- Then what is known of packages stays right: all of it where the declarations are hidden, else all but the verdicts on their packages.
pub record IsDecided (w : Workspace) (known : Verdicts) (set : List Declaration) (is_hidden : Bool) (told : Option Obstacle) (s : FileChanges) : Type 0 where
  pub first : IsFirstObstacle w known (revision_of w s) told
  pub agrees : HasNoObstacle w known (revision_of w s) ↔ PreservesAll w (revision_of w s)
  pub keeps : HasNoObstacle w known (revision_of w s) → (old new : Known) → KnowsVerdicts w old → KeepsKnown w set is_hidden old new →
      KnowsVerdicts (edited s w) new

-- So is each edit set that renames the declaration `d` and the others of the set.
abbrev pub DecidesRename : Workspace → Verdicts → Declaration → (set : List Declaration) → (name : List ℕ) → (is_hidden : Bool) → (told : Option Obstacle) →
    Type 0
DecidesRename w known d set name is_hidden told = (s : FileChanges) → AreCoupledEdits w known d set name s → Fits s w → IsDecided w known set is_hidden told s

-- What is told of the rename of members, where it loses and captures nothing: the first interface whose implementing types it changes.
abbrev pub TellsImplementing : WorkspaceFindings → Renaming → Option Obstacle → Type 0
TellsImplementing w r told = (s : FileChanges) → IsMemberRename w.graph (known_in w.findings) r.declaration.now r.set.now r.name.now s →
    NoneIsLost w.graph (known_in w.findings) (revision_of w.graph s) → IsFirstObstacle w.graph (known_in w.findings) (revision_of w.graph s) told

-- What is told of the rename of members: the first obstacle.
abbrev pub TellsMembers : WorkspaceFindings → Renaming → Option Obstacle → Type 0
TellsMembers w r told = (s : FileChanges) → IsMemberRename w.graph (known_in w.findings) r.declaration.now r.set.now r.name.now s →
    IsFirstObstacle w.graph (known_in w.findings) (revision_of w.graph s) told

-- What a decision says of a rename.
abbrev pub DecidesRenames : Workspace → Verdicts → Declaration → (set : List Declaration) → (name : List ℕ) → Decision → Type 0
DecidesRenames w known d set name x = DecidesRename w known d set name x.is_hidden x.obstacle

-- the obstacle that an interface is
abbrev pub coupled_if : Option Place → Option Obstacle
coupled_if None = None
coupled_if (Some place) = Some (obstacle.Coupled place)

-- What is told of the rename of members that are called `old`: the first interface that lookups under the two names turn.
pub record TellsUnder (w : WorkspaceFindings) (r : Renaming) (old : List ℕ) (told : Option Obstacle) : Type 0 where
  pub found : Option Place
  pub first : TellsFirstTurn w (record { set = r.set.now; old = old; new = r.name.now }) found
  pub is_told : told ≡ coupled_if found

-- A decision by scopes, as one of obstacles.
abbrev pub obstacles_of : ScopeDecision → Decision
obstacles_of x = record { obstacle = option_map obstacle.Conflict x.conflict; is_hidden = x.is_hidden }
