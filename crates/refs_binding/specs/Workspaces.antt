-- What the steps of `uses` answer that go over the packages of a workspace.
use Rattle.std.specs.Prelude.{ℕ, ◌≡◌, ◌↔◌, ◌⊎◌, List, [], Contains, ⊤, Option, Some, None, Result, Ok, Err, Vec, MatchOption, slice_get}
use Rattle.std.specs.List.Sorted.{IsStrictlySortedBy}
use Rattle.base_files.specs.Packages.{package_paths}
use Rattle.base_files.specs.Workspace.{Workspace}
use Rattle.base_files.specs.declared.place.Place.{Place}
use Rattle.base_files.specs.declared.refusal.Refusal.{Refusal}
use Rattle.base_files.specs.declared.refusal.Refusal.TheVariants.{Memory, Faulty, NoIdentifier, NotRenamable}
use Rattle.types_declared.specs.Package.{Package}
use Rattle.types_check.specs.Exports.{DoesExport}
use Rattle.workspace_check.specs.declared.finding.Finding.{Finding}
use Rattle.workspace_check.specs.declared.findings.Findings.{Findings}
use Rattle.workspace_check.specs.Verdicts.{Verdicts}
use Rattle.workspace_check.specs.Found.{AreFindings}
use Rattle.workspace_check.specs.KnownFindings.{verdicts_by}
use Rattle.workspace_check.specs.FaultLists.{ListsFaults}
use Rattle.refs_binding.specs.declared.declaration.Declaration.{Declaration}
use Rattle.refs_binding.specs.declared.declaration.Declaration.TheVariants.{Predeclared, Declared, Field, Method}
use Rattle.refs_binding.specs.Identifiers.{HoldsByte}
use Rattle.refs_binding.specs.Binding.{BindsByMember, DeclaresMember}
use Rattle.refs_binding.specs.Steps.{UsesIn, BindsIn, IsExportedBy}
use Rattle.refs_binding.specs.Uses.{IsCheckedPackage, IsFilePackage, HasDeclaration, HasNoIdentifier}
use Rattle.refs_binding.specs.Uses.{HasNoDeclaration, BindsThroughLiteral, IsUseOf, ListsUses, HasFirstFault}
use Rattle.refs_binding.specs.Places.{place_cmp}
use Rattle.refs_binding.specs.WorkspaceFindings.{WorkspaceFindings}

-- The findings of a workspace, none of which has a fault.
pub record IsFaultless (w : Workspace) (found : Findings) : Type 0 where
  pub findings : AreFindings w found
  pub sound : (n : ℕ) (f : Finding) → slice_get found.packages.items n ≡ Some f → f.faults.items ≡ []

-- The verdicts on packages that follow from findings.
abbrev pub known_in : Findings → Verdicts
known_in found = verdicts_by found.export_table

-- `p` is the package of this number, as it is checked.
pub record IsPackageAt (w : Workspace) (known : Verdicts) (number : ℕ) (p : Package) : Type 0 where
  pub has_number : slice_get (package_paths w) number ≡ Some p.path
  pub is_package : IsCheckedPackage w known p

-- The path of the package of a declaration, or `None` if it is predeclared.
abbrev pub home_path : Declaration → Option (List ℕ)
home_path (Predeclared n) = None
home_path (Declared path d) = Some path
home_path (Field s) = Some s.package
home_path (Method s) = Some s.package

-- The number of the package of a declaration, or `None` if the workspace has no such package.
abbrev pub IsHome : Workspace → Declaration → Option ℕ → Type 0
IsHome w d home = MatchOption home ((path : List ℕ) → home_path d ≡ Some path → Contains (package_paths w) path → ⊥)
    (λ number. slice_get (package_paths w) number ≡ home_path d)

-- The package of this path exports the declaration under this name.
abbrev pub ExportsAs : Workspace → Verdicts → (path name : List ℕ) → Declaration → Type 0
ExportsAs w known path name (Predeclared n) = ⊥
ExportsAs w known path name (Declared other d) = (other ≡ path) ×
    ((p : Package) × (IsCheckedPackage w known p × ((p.path ≡ path) × (DoesExport p d × (p.names d ≡ name)))))
ExportsAs w known path name (Field s) = ⊥
ExportsAs w known path name (Method s) = ⊥

-- The name under which the package of a declaration exports it, or `None` if it does not.
abbrev pub IsExportedUnder : Workspace → Verdicts → Declaration → Option (List ℕ) → Type 0
IsExportedUnder w known (Predeclared n) name = name ≡ None
IsExportedUnder w known (Declared path d) name =
    MatchOption name ((p : Package) → IsCheckedPackage w known p → p.path ≡ path → DoesExport p d → ⊥)
    (λ n. (p : Package) × (IsCheckedPackage w known p × ((p.path ≡ path) × (DoesExport p d × (p.names d ≡ n)))))
IsExportedUnder w known (Field s) name = name ≡ None
IsExportedUnder w known (Method s) name = name ≡ None

-- The bytes of a name.
abbrev pub name_bytes : {Z : Type 0} → Vec ℕ Z → List ℕ
name_bytes name = name.items

-- The number of the declaration that the package `number` exports under a name, or `None` if there is none.
abbrev pub IsExportedNumber : Workspace → Verdicts → (number : ℕ) → (name : List ℕ) → Option ℕ → Type 0
IsExportedNumber w known number name found =
    (p : Package) × (IsPackageAt w known number p × MatchOption found ((d : ℕ) → DoesExport p d → p.names d ≡ name →
    ⊥) (λ d. DoesExport p d × (p.names d ≡ name)))

-- The name under which the package `number` exports its declaration `d`, or `None` if it does not.
abbrev pub IsExportedName : Workspace → Verdicts → (number d : ℕ) → Option (List ℕ) → Type 0
IsExportedName w known number d name = (p : Package) × (IsPackageAt w known number p × IsExportedBy p d name)

-- `u` is a use of a field or method, or the declaring identifier of it.
abbrev pub BindsMember : Package → ℕ → Declaration → Type 0
BindsMember p u d = BindsByMember p u d ⊎ DeclaresMember p u d

-- The answer for a byte of a file of the package `p`: the declaration of the identifier at the byte, or a refusal.
abbrev pub FindsDeclarationIn : Workspace → Verdicts → Package → List ℕ → ℕ → Result Declaration Refusal → Type 0
FindsDeclarationIn w known p path offset (Ok d) = (u : ℕ) × (HoldsByte p path offset u × BindsThroughLiteral w known p u d)
FindsDeclarationIn w known p path offset (Err NoIdentifier) = (u : ℕ) → HoldsByte p path offset u → ⊥
FindsDeclarationIn w known p path offset (Err NotRenamable) = (u : ℕ) × (HoldsByte p path offset u × ((d : Declaration) →
    BindsThroughLiteral w known p u d → ⊥))
FindsDeclarationIn w known p path offset (Err Memory) = ⊤
FindsDeclarationIn w known p path offset (Err refusal) = ⊥

-- The answer for a byte of a file of the package `number`: the declaration of the identifier at the byte, or a refusal.
abbrev pub FindsDeclarationAt : Workspace → Verdicts → ℕ → List ℕ → ℕ → Result Declaration Refusal → Type 0
FindsDeclarationAt w known number path offset (Err Memory) = ⊤
FindsDeclarationAt w known number path offset result = (p : Package) × (IsPackageAt w known number p × FindsDeclarationIn w known p path offset result)

-- The answer for a byte of a file: the declaration of the identifier at the byte, or a refusal.
abbrev pub FindsDeclaration : Workspace → Verdicts → List ℕ → ℕ → Result Declaration Refusal → Type 0
FindsDeclaration w known path offset (Ok d) = HasDeclaration w known path offset d
FindsDeclaration w known path offset (Err NoIdentifier) = (p : Package) → IsFilePackage w known path p → (u : ℕ) → HoldsByte p path offset u → ⊥
FindsDeclaration w known path offset (Err NotRenamable) =
    (p : Package) × (IsFilePackage w known path p × ((u : ℕ) × (HoldsByte p path offset u × ((d : Declaration) → BindsThroughLiteral w known p u d → ⊥))))
FindsDeclaration w known path offset (Err Memory) = ⊤
FindsDeclaration w known path offset (Err refusal) = ⊥

-- An identifier of the package `number` begins at the place and is bound to the declaration, which other packages see under `name`, if at
-- all.
pub record IsUseAt (w : Workspace) (known : Verdicts) (d : Declaration) (name : Option (List ℕ)) (number : ℕ) (place : Place) : Type 0 where
  pub used_in : Package
  pub is_package : IsPackageAt w known number used_in
  pub is_use : UsesIn used_in (BindsIn used_in d name) place

-- A workspace has no faults, or the refusal has its first one.
abbrev pub RefusesFirst : Workspace → Result (Unit {0}) Refusal → Type 0
RefusesFirst w (Ok done) = ListsFaults w []
RefusesFirst w (Err (Faulty place kind)) = HasFirstFault w place kind
RefusesFirst w (Err Memory) = ⊤
RefusesFirst w (Err refusal) = ⊥

-- The findings have no faults, and the answer is the workspace with them, or the refusal has the first fault of the workspace.
abbrev pub RefusesFaults : Workspace → Findings → Result WorkspaceFindings Refusal → Type 0
RefusesFaults w found (Ok workspace) = IsFaultless w found × (workspace ≡ record { graph = w; findings = found })
RefusesFaults w found (Err (Faulty place kind)) = HasFirstFault w place kind
RefusesFaults w found (Err Memory) = ⊤
RefusesFaults w found (Err refusal) = ⊥

-- The answer for a byte of an existing file: the uses of the identifier there, or a refusal.
abbrev pub AnswersUsesIn : Workspace → List ℕ → ℕ → Result (List Place) Refusal → Type 0
AnswersUsesIn w path offset (Ok places) = ListsFaults w [] × ListsUses w path offset places
AnswersUsesIn w path offset (Err (Faulty place kind)) = HasFirstFault w place kind
AnswersUsesIn w path offset (Err NoIdentifier) = ListsFaults w [] × HasNoIdentifier w path offset
AnswersUsesIn w path offset (Err NotRenamable) = ListsFaults w [] × HasNoDeclaration w path offset
AnswersUsesIn w path offset (Err Memory) = ⊤
AnswersUsesIn w path offset (Err refusal) = ⊥

-- `places` are the places of all identifiers bound to the declaration, sorted and without duplicates.
pub record ListsFound (w : Workspace) (known : Verdicts) (d : Declaration) (places : List Place) : Type 0 where
  pub in_order : IsStrictlySortedBy place_cmp places
  pub each : (place : Place) → Contains places place ↔ IsUseOf w known d place
