-- The objects of packages where an import without a name gains one.
use Rattle.std.specs.Prelude.{ℕ, List, []}
use Rattle.base_edits.specs.EditSet.{FileChanges, edited}
use Rattle.base_edits.specs.RevisionsOfEdits.{revision_of}
use Rattle.base_files.specs.Workspace.{Workspace}
use Rattle.types_declared.specs.Package.{Package}
use Rattle.workspace_check.specs.FaultLists.{ListsFaults}
use Rattle.workspace_check.specs.Verdicts.{AreVerdicts, Verdicts}
use Rattle.refactor_preserve.specs.Preserved.{Preserves}
use Rattle.law_gained_names.specs.NamedWorkspace.{HasGainedName}
use Rattle.law_objects.specs.Objects.{HasObjectText}
use Rattle.law_gained_names.specs.UnnamedRenames.{IsUnnamedRename}

-- Each object of a package of w, by the verdicts `before`, is its object in x, by the verdicts `after`.
abbrev pub KeepObjects : (w : Workspace) (before : Verdicts) (x : Workspace) (after : Verdicts) → Type 0
KeepObjects w before x after = (path text : List ℕ) → HasObjectText w before path text → HasObjectText x after path text

-- Objects stay where an import of one package gained the name that it declared already.
abbrev pub GainedNamesKeepObjects : Type 0
GainedNamesKeepObjects = (w x : Workspace) → ListsFaults w [] → ListsFaults x [] → (known : Verdicts) → AreVerdicts w known → AreVerdicts x known →
    (number : ℕ) (p q : Package) → HasGainedName w x known number p q → KeepObjects w known x known

-- Objects stay where an import without a name is renamed, by which it gains one, and bindings are preserved.
abbrev pub UnnamedRenamesKeepObjects : Type 0
UnnamedRenamesKeepObjects = (w : Workspace) (before after : Verdicts) (p : Package) (n : ℕ) (name : List ℕ) (s : FileChanges) →
    IsUnnamedRename w before p n name s → AreVerdicts (edited s w) after → Preserves w (revision_of w s) → KeepObjects w before (edited s w) after
