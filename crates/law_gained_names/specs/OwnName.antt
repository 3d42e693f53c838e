-- An import without a name that gets, before its string literal, the name that it declares already.
use Rattle.std.specs.Prelude.{ℕ, ◌≡◌, ◌<◌, List, [], ◌∷◌, Some, slice_get}
use Rattle.base_edits.specs.EditSet.{FileChanges, edited}
use Rattle.base_files.specs.Workspace.{Workspace}
use Rattle.go_ast.specs.SourceFile.{SourceFile, offset_of, source_of}
use Rattle.go_scope.specs.Bindings.{IsImport}
use Rattle.types_declared.specs.Laid.{literal_of}
use Rattle.types_declared.specs.Package.{Package}
use Rattle.workspace_check.specs.FaultLists.{ListsFaults}
use Rattle.workspace_check.specs.Verdicts.{Verdicts}
use Rattle.refs_binding.specs.Uses.{IsCheckedPackage}
use Rattle.refactor_rename.specs.Replacements.{IsNameBefore}
use Rattle.law_rename.specs.MayGain.{inserted}
use Rattle.law_rename.specs.Named.{put_bytes}
use Rattle.law_gained_names.specs.FilesInTwoSteps.{EditsOneFile}
use Rattle.law_gained_names.specs.NamedWorkspace.{HasGainedName}

-- The declaration `d` of the package is an import without a name, in the file `f`. The bytes `put` give it, before its literal, the name that it
-- declares.
pub record PutsOwnName (p : Package) (d : ℕ) (f : SourceFile) (put : List ℕ) : Type 0 where
  pub within : d < p.size
  pub unnamed : IsImport p.layout d × (literal_of p.layout d ≡ d)
  pub of_rank : slice_get p.files (p.layout.place d).file ≡ Some f
  pub is_put : IsNameBefore f (p.layout.place d).index (p.names d) put

-- The edit set puts the bytes before the token of index `number` of the file `f`, and does nothing else. By these bytes an import of the package
-- p gained the name that it declared already, and p is q then.
pub record HasGainedBy (w : Workspace) (known : Verdicts) (s : FileChanges) (f : SourceFile) (number : ℕ) (put : List ℕ) (p q : Package) : Type 0 where
  pub edits : EditsOneFile s f.path (inserted (offset_of f number) put ∷ [])
  pub gained : HasGainedName w (edited s w) known number p q
  pub before : source_of gained.gains.before ≡ f
  pub path : gained.gains.after.path ≡ f.path
  pub bytes : put_bytes gained.gains.gains.put ≡ put

-- In a workspace without faults the package is parsed after the edit set, and has gained the name.
abbrev pub OwnNamesAreGained : Type 0
OwnNamesAreGained = (w : Workspace) (sound : ListsFaults w []) (p : Package) → IsCheckedPackage w sound.known p → (d : ℕ) (f : SourceFile) (put : List ℕ) →
    PutsOwnName p d f put → (s : FileChanges) → EditsOneFile s f.path (inserted (offset_of f (p.layout.place d).index) put ∷ []) →
    (q : Package) × HasGainedBy w sound.known s f (p.layout.place d).index put p q
