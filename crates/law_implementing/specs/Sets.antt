-- What is renamed with a declaration.
use Rattle.std.specs.Prelude.{◌≡◌, List, [], Contains}
use Rattle.base_files.specs.Workspace.{Workspace}
use Rattle.types_expr.specs.declared.symbol.Symbol.{Symbol}
use Rattle.types_expr.specs.World.{Definition}
use Rattle.workspace_check.specs.FaultLists.{ListsFaults}
use Rattle.workspace_check.specs.Verdicts.{Verdicts, AreVerdicts}
use Rattle.refs_binding.specs.declared.declaration.Declaration.{Declaration}
use Rattle.refs_binding.specs.Uses.{IsCheckedPackage}
use Rattle.refactor_coupled.specs.Coupling.{IsAskedMethod, IsRenamedSet}
use Rattle.refactor_coupled.specs.Implementing.{AreAllDefinitions}
use Rattle.law_renamed_workspaces.specs.Renames.{IsSetWith}

-- A statement on what is renamed with each declaration in a workspace without faults.
abbrev pub OfRenamedSets : (Workspace → Verdicts → Declaration → (set : List Declaration) → Type 0) → Type 0
OfRenamedSets P = (w : Workspace) (known : Verdicts) (d : Declaration) (set : List Declaration) → AreVerdicts w known → ListsFaults w [] →
    IsRenamedSet (IsCheckedPackage w known) d set → P w known d set

-- What is renamed with a method is called alike.
abbrev pub SetsAreCalledAlike : Type 0
SetsAreCalledAlike = OfRenamedSets (λ w known d set. IsSetWith (IsCheckedPackage w known) d set)

-- A declaration for which no interface asks is renamed alone.
abbrev pub OthersAreAlone : Type 0
OthersAreAlone = OfRenamedSets (λ w known d set. (definition : Symbol → Definition) → AreAllDefinitions (IsCheckedPackage w known) definition →
    (IsAskedMethod definition d → ⊥) → (e : Declaration) → Contains set e → e ≡ d)
