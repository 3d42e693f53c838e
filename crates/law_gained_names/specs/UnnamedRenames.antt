-- The rename of an import without a name, by which it gains one. It is told by the old names, by way of the workspace in which the import has
-- the name that it declares already.
use Rattle.std.specs.Prelude.{ℕ, ◌≡◌, ◌↔◌, List, [], ◌∷◌, Option, Some, slice_get}
use Rattle.base_files.specs.Packages.{package_paths}
use Rattle.base_files.specs.Workspace.{Workspace}
use Rattle.base_files.specs.declared.place.Place.{Place}
use Rattle.base_edits.specs.EditSet.{FileChanges, change_of, edited}
use Rattle.base_edits.specs.Moved.{edits_by, moved}
use Rattle.base_edits.specs.RevisionsOfEdits.{new_name_at, revision_of}
use Rattle.types_declared.specs.Package.{Package}
use Rattle.workspace_check.specs.declared.known.Known.{Known}
use Rattle.workspace_check.specs.Found.{KnowsVerdicts}
use Rattle.workspace_check.specs.Verdicts.{Verdicts}
use Rattle.refs_binding.specs.declared.declaration.Declaration.TheVariants.{Declared}
use Rattle.refs_binding.specs.Uses.{IsCheckedPackage}
use Rattle.refactor_rename.specs.Literals.{IsUnnamedImport}
use Rattle.refactor_preserve.specs.Preserved.{Preserves}
use Rattle.refactor_conflict.specs.Conflicts.{IsConflict, IsFirstConflict}
use Rattle.refactor_conflict.specs.Staying.{NoneIsLost}
use Rattle.refactor_conflict.specs.declared.conflict.Conflict.{Conflict}
use Rattle.law_gained_names.specs.PutTokens.{put_edit}
use Rattle.law_renamed_workspaces.specs.Renames.{IsRename}
use Rattle.law_agreement.specs.ScopeConflicts.{FirstConflictBehind, FirstOwnConflict, earlier_conflict}
use Rattle.law_agreement.specs.ScopeRenames.{IsRenameIn}
use Rattle.law_renamed_workspaces.specs.KnownVerdicts.{HoldVerdictsBut}
use Rattle.law_gained_names.specs.GainedName.{IsGainedAt, gained_by}
use Rattle.law_gained_names.specs.NamedWorkspace.{HasGainedName}

-- A rename of the declaration `n` of the package `p`, which is an import without a name: it gains one.
pub record IsUnnamedRename (w : Workspace) (known : Verdicts) (p : Package) (n : ℕ) (name : List ℕ) (s : FileChanges) : Type 0 where
  pub rename : IsRename w known (Declared p.path n) name s
  pub is_package : IsCheckedPackage w known p
  pub unnamed : IsUnnamedImport p n

-- The same rename in two steps. By the edits `naming` the import gets the name that it declares already: the package is then `inside`, which has
-- other numbers of tokens and identifiers. By the edits `renaming` the import, which has a name now, gets the new one.
pub record IsNamedFirst (w : Workspace) (known : Verdicts) (p : Package) (n : ℕ) (name : List ℕ) (s : FileChanges) : Type 0 where
  pub naming : FileChanges
  pub renaming : FileChanges
  pub inside : Package
  pub renames : IsRenameIn (edited naming w) known inside n name renaming
  -- both steps are the whole
  pub files : edited s w ≡ edited renaming (edited naming w)
  pub moves : (place : Place) → moved s place ≡ moved renaming (moved naming place)
  pub calls : (place : Place) (old : List ℕ) → new_name_at s place old ≡ new_name_at renaming (moved naming place) old
  -- the first step: it inserts the name before the literal, and does nothing more
  pub number : ℕ
  pub workspace : HasGainedName w (edited naming w) known number p inside
  pub gained : IsGainedAt (gained_by number p inside workspace.gains) n p inside
  pub same_path : workspace.gains.after.path ≡ workspace.gains.before.path
  pub puts : edits_by (change_of naming workspace.gains.before.path) ≡ put_edit workspace.gains.gains.put ∷ []
  pub no_more : (path : List ℕ) → (path ≡ workspace.gains.before.path → ⊥) → edits_by (change_of naming path) ≡ []
  pub stays : (place : Place) → (moved naming place).path ≡ place.path

-- The statement holds of each rename of an import without a name that can be done in these two steps.
abbrev pub OfUnnamedRenames : ((w : Workspace) → Verdicts → Package → ℕ → List ℕ → FileChanges → Type 0) → Type 0
OfUnnamedRenames K = (w : Workspace) (known : Verdicts) (p : Package) (n : ℕ) (name : List ℕ) (s : FileChanges) → IsUnnamedRename w known p n name s →
    IsNamedFirst w known p n name s → K w known p n name s

-- The earlier one of the first conflict of the scopes and the first behind the package's name is the first of the rename. Behind the package's
-- name there is none.
abbrev pub UnnamedConflictsAreTold : Type 0
UnnamedConflictsAreTold = OfUnnamedRenames (λ w known p n name s. (own behind : Option Conflict) → FirstOwnConflict (IsCheckedPackage w known) p n name own →
    FirstConflictBehind (IsCheckedPackage w known) p n name behind → IsFirstConflict w known (revision_of w s) (earlier_conflict own behind))

-- Both steps together preserve bindings exactly where the second one does.
abbrev pub StepsPreserve : (w : Workspace) → FileChanges → (naming renaming : FileChanges) → Type 0
StepsPreserve w s naming renaming =
    Preserves w (revision_of w s) ↔ Preserves (edited naming w) (revision_of (edited naming w) renaming)

-- Then the rename loses and captures no identifier exactly where it preserves bindings.
abbrev pub UnnamedRenamesAgree : Type 0
UnnamedRenamesAgree = (w : Workspace) (known : Verdicts) (p : Package) (n : ℕ) (name : List ℕ) (s : FileChanges) → IsUnnamedRename w known p n name s →
    (f : IsNamedFirst w known p n name s) → StepsPreserve w s f.naming f.renaming → NoneIsLost w known (revision_of w s) ↔ Preserves w (revision_of w s)

-- So a rename that has a conflict does not preserve bindings.
abbrev pub UnnamedConflictsRefuse : Type 0
UnnamedConflictsRefuse = (w : Workspace) (known : Verdicts) (p : Package) (n : ℕ) (name : List ℕ) (s : FileChanges) → IsUnnamedRename w known p n name s →
    (f : IsNamedFirst w known p n name s) → StepsPreserve w s f.naming f.renaming → (c : Conflict) → IsConflict w known (revision_of w s) c →
    Preserves w (revision_of w s) → ⊥

-- Where the rename loses and captures none, all known verdicts stay right but that on the package of the import, whose number is dropped.
abbrev pub UnnamedRenamesKeepOthers : Type 0
UnnamedRenamesKeepOthers = OfUnnamedRenames (λ w known p n name s. NoneIsLost w known (revision_of w s) → (number : ℕ) →
    slice_get (package_paths w) number ≡ Some p.path → (old rest : Known) → KnowsVerdicts w old →
    HoldVerdictsBut (λ k. k ≡ number) old.verdicts.items rest.verdicts.items → KnowsVerdicts (edited s w) rest)

-- What these laws take as premises: each such rename can be done in two steps, of which the first changes no binding.
abbrev pub UnnamedRenamesHaveSteps : Type 0
UnnamedRenamesHaveSteps = (w : Workspace) (known : Verdicts) (p : Package) (n : ℕ) (name : List ℕ) (s : FileChanges) → IsUnnamedRename w known p n name s →
    (f : IsNamedFirst w known p n name s) × StepsPreserve w s f.naming f.renaming
