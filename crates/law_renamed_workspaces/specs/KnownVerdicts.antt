-- What is known of packages before a plain rename: where the rename is harmless, most of it is right of the edited workspace
-- as it stands.
use Rattle.std.specs.Prelude.{ℕ, ◌≡◌, ◌⊎◌, false, List, Option, Some, slice_get, Contains}
use Rattle.base_edits.specs.EditSet.{FileChanges, edited}
use Rattle.base_edits.specs.RevisionsOfEdits.{revision_of}
use Rattle.base_files.specs.Packages.{package_paths}
use Rattle.base_files.specs.Workspace.{Workspace}
use Rattle.go_scope.specs.Bindings.{IsPackageLevel}
use Rattle.types_declared.specs.Laid.{is_exported}
use Rattle.types_declared.specs.Package.{Package}
use Rattle.workspace_check.specs.declared.finding.Finding.{Finding}
use Rattle.workspace_check.specs.declared.known.Known.{Known}
use Rattle.workspace_check.specs.declared.known.KnownVerdict.{KnownVerdict}
use Rattle.workspace_check.specs.Found.{KnowsVerdicts}
use Rattle.workspace_check.specs.KnownFindings.{IsFindingOf, IsKnownVerdict}
use Rattle.workspace_check.specs.Verdicts.{Verdicts, AreVerdicts}
use Rattle.refs_binding.specs.declared.declaration.Declaration.{Declaration}
use Rattle.refs_binding.specs.declared.declaration.Declaration.TheVariants.{Predeclared, Declared, Field, Method}
use Rattle.refs_binding.specs.Uses.{IsCheckedPackage}
use Rattle.refs_places.specs.Homes.{IsHomeOfSome}
use Rattle.law_renamed_workspaces.specs.Harmless.{IsHarmless}
use Rattle.law_renamed_workspaces.specs.Renames.{IsPlainRename}

-- A plain rename is harmless.
pub record IsKeptRename (w : Workspace) (before : Verdicts) (d : Declaration) (name : List ℕ) (s : FileChanges) : Type 0 where
  pub plain : IsPlainRename w before d name s
  pub kept : IsHarmless w before (revision_of w s)

-- Other packages see the declaration `n` of `p` neither under its name nor under the new one: it is not package-level, or both names are
-- not exported.
abbrev pub IsHiddenIn : Package → ℕ → (name : List ℕ) → Type 0
IsHiddenIn p n name = (IsPackageLevel p.layout n → ⊥) ⊎ ((is_exported (p.names n) ≡ false) × (is_exported name ≡ false))

-- The declaration is one of scopes, and other packages see it neither under its name nor under the new one.
abbrev pub IsHidden : Workspace → Verdicts → Declaration → (name : List ℕ) → Type 0
IsHidden w known (Predeclared n) name = ⊥
IsHidden w known (Declared path n) name = (p : Package) → IsCheckedPackage w known p → p.path ≡ path → IsHiddenIn p n name
IsHidden w known (Field s) name = ⊥
IsHidden w known (Method s) name = ⊥

-- The rename changes nothing that other packages see of the package at the path `q`: what is renamed is of other packages, or hidden.
abbrev pub IsUnseen : Workspace → Verdicts → Declaration → (set : List Declaration) → (name : List ℕ) → (q : List ℕ) → Type 0
IsUnseen w known d set name q = (IsHomeOfSome set q → ⊥) ⊎ IsHidden w known d name

-- The finding of each package is right of the edited workspace too, also that of the declaring package: its faults, its uses of members and
-- its qualified identifiers are lists of tokens, types and numbers.
abbrev pub FindingsStay : Type 0
FindingsStay = (w : Workspace) (before after : Verdicts) (d : Declaration) (name : List ℕ) (s : FileChanges) → IsKeptRename w before d name s →
    AreVerdicts (edited s w) after → (q : List ℕ) → Contains (package_paths w) q → (f : Finding) → IsFindingOf w q f → IsFindingOf (edited s w) q f

-- A package has the export data that it had, if the rename changes nothing that others see of it.
abbrev pub UnseenDataStay : Type 0
UnseenDataStay = (w : Workspace) (before after : Verdicts) (d : Declaration) (name : List ℕ) (s : FileChanges) (h : IsKeptRename w before d name s) →
    AreVerdicts (edited s w) after → (q : List ℕ) → Contains (package_paths w) q → IsUnseen w before d h.plain.rename.set name q →
    (after q).export_data ≡ (before q).export_data

-- So a known verdict on such a package is right of the edited workspace.
abbrev pub UnseenVerdictsStay : Type 0
UnseenVerdictsStay = (w : Workspace) (before after : Verdicts) (d : Declaration) (name : List ℕ) (s : FileChanges) (h : IsKeptRename w before d name s) →
    AreVerdicts (edited s w) after → (q : List ℕ) → Contains (package_paths w) q → IsUnseen w before d h.plain.rename.set name q → (one : KnownVerdict) →
    IsKnownVerdict w q one → IsKnownVerdict (edited s w) q one

-- Each package but the declaring ones has the export data that it had, and a known verdict on it is right of the edited workspace.
abbrev pub OtherVerdictsStay : Type 0
OtherVerdictsStay = (w : Workspace) (before after : Verdicts) (d : Declaration) (name : List ℕ) (s : FileChanges) (h : IsKeptRename w before d name s) →
    AreVerdicts (edited s w) after → (q : List ℕ) → Contains (package_paths w) q → (IsHomeOfSome h.plain.rename.set q → ⊥) →
    ((after q).export_data ≡ (before q).export_data) × ((one : KnownVerdict) → IsKnownVerdict w q one → IsKnownVerdict (edited s w) q one)

-- All known verdicts stay, if other packages see the declaration neither under its name nor under the new one.
abbrev pub HiddenRenamesKeepVerdicts : Type 0
HiddenRenamesKeepVerdicts = (w : Workspace) (before after : Verdicts) (d : Declaration) (name : List ℕ) (s : FileChanges) → IsKeptRename w before d name s →
    AreVerdicts (edited s w) after → IsHidden w before d name → (known : Known) → KnowsVerdicts w known → KnowsVerdicts (edited s w) known

-- The number is that of a package of one of the declarations.
pub record IsHomeNumber (w : Workspace) (set : List Declaration) (number : ℕ) : Type 0 where
  pub path : List ℕ
  pub has_number : slice_get (package_paths w) number ≡ Some path
  pub is_home : IsHomeOfSome set path

-- Each verdict of the new list stands under its number in the old one, and its number is not dropped.
abbrev pub HoldVerdictsBut : (Dropped : ℕ → Type 0) → (old new : List (Option KnownVerdict)) → Type 0
HoldVerdictsBut Dropped old new = (n : ℕ) (one : KnownVerdict) → slice_get new n ≡ Some (Some one) → (Dropped n → ⊥) × (slice_get old n ≡ Some (Some one))

-- All known verdicts stay but those of the declaring packages, whose numbers are dropped.
abbrev pub OtherKnownVerdictsStay : Type 0
OtherKnownVerdictsStay = (w : Workspace) (before after : Verdicts) (d : Declaration) (name : List ℕ) (s : FileChanges) (h : IsKeptRename w before d name s) →
    AreVerdicts (edited s w) after → (known rest : Known) → KnowsVerdicts w known →
    HoldVerdictsBut (IsHomeNumber w h.plain.rename.set) known.verdicts.items rest.verdicts.items → KnowsVerdicts (edited s w) rest
