-- An import without a name that gained, by inserted bytes, the name that it declares already.
use Rattle.std.specs.Prelude.{ℕ, List, [], ◌∷◌}
use Rattle.base_edits.specs.EditSet.{FileChanges}
use Rattle.base_edits.specs.RevisionsOfEdits.{revision_of}
use Rattle.base_files.specs.Workspace.{Workspace}
use Rattle.go_ast.specs.SourceFile.{SourceFile, offset_of}
use Rattle.types_declared.specs.Package.{Package}
use Rattle.workspace_check.specs.FaultLists.{ListsFaults}
use Rattle.refs_binding.specs.Uses.{IsCheckedPackage}
use Rattle.law_rename.specs.MayGain.{inserted}
use Rattle.law_renumbered.specs.TwoRevisions.{IsFirstStep}
use Rattle.law_gained_names.specs.FilesInTwoSteps.{EditsOneFile}
use Rattle.law_gained_names.specs.OwnName.{HasGainedBy, PutsOwnName}

-- In a workspace without faults the edit set is a first step: it keeps all bindings.
abbrev pub GainedNamesAreSteps : Type 0
GainedNamesAreSteps = (w : Workspace) (sound : ListsFaults w []) (s : FileChanges) (f : SourceFile) (number : ℕ) (put : List ℕ) (p q : Package) →
    HasGainedBy w sound.known s f number put p q → IsFirstStep w sound.known (revision_of w s) sound.known

-- So it is where it puts the name that an import without a name declares already.
abbrev pub OwnNamesAreSteps : Type 0
OwnNamesAreSteps = (w : Workspace) (sound : ListsFaults w []) (p : Package) → IsCheckedPackage w sound.known p → (d : ℕ) (f : SourceFile) (put : List ℕ) →
    PutsOwnName p d f put → (s : FileChanges) → EditsOneFile s f.path (inserted (offset_of f (p.layout.place d).index) put ∷ []) →
    IsFirstStep w sound.known (revision_of w s) sound.known
