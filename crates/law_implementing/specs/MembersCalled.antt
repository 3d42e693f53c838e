-- The rename of members, told by lookups under its two names.
use Rattle.std.specs.Prelude.{ℕ, ◌↔◌, List}
use Rattle.base_files.specs.Workspace.{Workspace}
use Rattle.base_files.specs.declared.place.Place.{Place}
use Rattle.base_edits.specs.EditSet.{FileChanges}
use Rattle.base_edits.specs.RevisionsOfEdits.{revision_of}
use Rattle.types_expr.specs.declared.symbol.Symbol.{Symbol}
use Rattle.types_expr.specs.World.{Definition}
use Rattle.workspace_check.specs.Verdicts.{Verdicts}
use Rattle.refs_binding.specs.declared.declaration.Declaration.{Declaration}
use Rattle.refs_binding.specs.DeclaredNames.{HasDeclaredName}
use Rattle.refs_binding.specs.Uses.{IsCheckedPackage}
use Rattle.refactor_conflict.specs.Staying.{NoneIsLost}
use Rattle.refactor_coupled.specs.FirstTurns.{NamesAreFree, TurnsBetween}
use Rattle.refactor_coupled.specs.Implementing.{AreAllDefinitions, AreDefinitionsAfter}
use Rattle.refactor_coupled.specs.Obstacles.{TurnsAt}
use Rattle.refactor_coupled.specs.RenamedTypes.{SetRename, renamed_definitions}
use Rattle.law_renamed_workspaces.specs.MemberRenames.{IsMemberRename}

-- The rename of the members of a set, all called `old`.
abbrev pub set_rename : (set : List Declaration) → (old new : List ℕ) → SetRename
set_rename set old new = record { set = set; old = old; new = new }

-- A statement on each rename of members called `old` that loses and captures no identifier: its names, and the type definitions.
abbrev pub OfKeptMembers : (Workspace → Verdicts → FileChanges → SetRename → (Symbol → Definition) → Type 0) → Type 0
OfKeptMembers P = (w : Workspace) (known : Verdicts) (d : Declaration) (set : List Declaration) (old new : List ℕ) (s : FileChanges) →
    IsMemberRename w known d set new s → HasDeclaredName (IsCheckedPackage w known) d old → NoneIsLost w known (revision_of w s) →
    (definition : Symbol → Definition) → AreAllDefinitions (IsCheckedPackage w known) definition → P w known s (set_rename set old new) definition

-- The definitions after it are found by lookups under the two names.
abbrev pub LookupsAreAfter : Type 0
LookupsAreAfter = OfKeptMembers (λ w known s r definition.
    AreDefinitionsAfter (IsCheckedPackage w known) (revision_of w s) (renamed_definitions r definition))

-- No definition of which it renames a member has one of the new name.
abbrev pub NamesAreFreed : Type 0
NamesAreFreed = OfKeptMembers (λ w known s r definition. NamesAreFree definition r)

-- So lookups tell at which places the types that implement an interface change.
abbrev pub TurnsAreTold : Type 0
TurnsAreTold = OfKeptMembers (λ w known s r definition. (place : Place) →
    TurnsAt w known (revision_of w s) place ↔ TurnsBetween (IsCheckedPackage w known) definition (renamed_definitions r definition) place)
