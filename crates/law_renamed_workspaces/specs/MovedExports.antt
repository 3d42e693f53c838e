-- What other packages see of a package, before and after a rename.
use Rattle.std.specs.Prelude.{ℕ, ◌≡◌, ◌≢◌, true, List, Option, None}
use Rattle.base_files.specs.Workspace.{Workspace}
use Rattle.types_declared.specs.Laid.{is_exported}
pub use Rattle.refactor_conflict.specs.NamesAfter.{field_called, method_called}
use Rattle.types_declared.specs.Package.{Export, ExportData}
use Rattle.workspace_check.specs.Verdicts.{Verdicts, BuildsOn}
use Rattle.law_renamed_workspaces.specs.Layouts.{AreSoundBelow}

-- Interfaces of a package before and after

-- What a map of names has for one name it has afterwards for another; under no other name it changes. What is not exported under one of
-- both names is not there under it.
pub record IsMovedTo {X : Type 0} (old new : List ℕ) (f g : List ℕ → Option X) : Type 0 where
  pub there : is_exported old ≡ true → is_exported new ≡ true → g new ≡ f old
  pub was_free : f new ≡ None
  pub is_free : g old ≡ None
  pub others : (name : List ℕ) → name ≢ old → name ≢ new → g name ≡ f name

-- What is seen of the exports of a package that has been relaid: in the place of one name at most, the name that it has afterwards.
pub data AreMovedExports (f g : List ℕ → Option Export) : Type 0 where
  stay : ((name : List ℕ) → g name ≡ f name) → AreMovedExports f g
  move : (old new : List ℕ) → IsMovedTo old new f g → AreMovedExports f g

pub record IsMovedExportData (i j : ExportData) : Type 0 where
  pub name : j.name ≡ i.name
  pub exported : AreMovedExports i.exported j.exported
  pub underlying : (rank : ℕ) → (j.definition rank).underlying ≡ (i.definition rank).underlying

-- of all that a package builds on the interface is so moved, and none has faults
pub record AreMovedBelow (w : Workspace) (before after : Verdicts) (path : List ℕ) : Type 0 where
  pub sound : AreSoundBelow w before after path
  pub moved : (q : List ℕ) → BuildsOn w path q → IsMovedExportData (before q).export_data (after q).export_data
