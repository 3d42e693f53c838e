-- The type definitions of a workspace without faults, before and after a rename, and what the types become.
use Rattle.std.specs.Prelude.{ℕ, ◌≡◌, List, []}
use Rattle.base_files.specs.Workspace.{Workspace}
use Rattle.base_edits.specs.EditSet.{FileChanges, edited}
use Rattle.base_edits.specs.RevisionsOfEdits.{revision_of}
use Rattle.types_expr.specs.declared.symbol.Symbol.{Symbol}
use Rattle.types_expr.specs.World.{Definition}
use Rattle.workspace_check.specs.FaultLists.{ListsFaults}
use Rattle.workspace_check.specs.Verdicts.{Verdicts, AreVerdicts}
use Rattle.refs_binding.specs.declared.declaration.Declaration.{Declaration}
use Rattle.refs_binding.specs.Uses.{IsCheckedPackage}
use Rattle.refactor_preserve.specs.Preserved.{KeepsBindings}
use Rattle.refactor_coupled.specs.Implementing.{AreAllDefinitions, AreDefinitionsAfter, IsTypeSymbol}
use Rattle.refactor_coupled.specs.Obstacles.{BecomesType}
use Rattle.law_renamed_workspaces.specs.Renames.{IsPlainRename}

-- A workspace without faults has type definitions, and one function gives them.
pub record HasOneOfEach (w : Workspace) (known : Verdicts) : Type 0 where
  pub definition : Symbol → Definition
  pub gives : AreAllDefinitions (IsCheckedPackage w known) definition
  pub only : (other : Symbol → Definition) → AreAllDefinitions (IsCheckedPackage w known) other → other ≡ definition

abbrev pub DefinitionsAreGiven : Type 0
DefinitionsAreGiven = (w : Workspace) (known : Verdicts) → AreVerdicts w known → ListsFaults w [] → HasOneOfEach w known

-- The statement holds of each plain rename that preserves bindings: the workspace, verdicts on it, verdicts on the edited one, the edits.
abbrev pub OfPreservingRenames : (Workspace → (known after : Verdicts) → FileChanges → Type 0) → Type 0
OfPreservingRenames P = (w : Workspace) (known after : Verdicts) (d : Declaration) (name : List ℕ) (s : FileChanges) → IsPlainRename w known d name s →
    AreVerdicts (edited s w) after → ListsFaults (edited s w) [] → KeepsBindings w known (revision_of w s) after → P w known after s

-- The type definitions of the edited workspace are then those of before, under the new names of their members.
abbrev pub EditedDefinitionsAreAfter : Type 0
EditedDefinitionsAreAfter = OfPreservingRenames (λ w known after s. (definition : Symbol → Definition) →
    AreAllDefinitions (IsCheckedPackage (edited s w) after) definition →
    AreDefinitionsAfter (IsCheckedPackage w known) (revision_of w s) definition)

-- Each type definition becomes the one of its own symbol, and no other one.
pub record KeepsTypeSymbols (w : Workspace) (known after : Verdicts) (s : FileChanges) : Type 0 where
  pub itself : (t : Symbol) → IsTypeSymbol (IsCheckedPackage w known) t →
      BecomesType (IsCheckedPackage w known) (IsCheckedPackage (edited s w) after) (revision_of w s).moved t t
  pub only : (t u : Symbol) → BecomesType (IsCheckedPackage w known) (IsCheckedPackage (edited s w) after) (revision_of w s).moved t u → u ≡ t

abbrev pub TypesBecomeThemselves : Type 0
TypesBecomeThemselves = OfPreservingRenames KeepsTypeSymbols
