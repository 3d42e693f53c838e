-- Which identifiers of a workspace are bound to the declaration of the identifier at a byte.
use Rattle.std.specs.Prelude.{ℕ, ◌≡◌, ◌≢◌, ◌↔◌, List, [], ◌∷◌, Contains, ⊤, None, Result, Ok, Err}
use Rattle.std.specs.List.Sorted.{IsStrictlySortedBy}
use Rattle.std.specs.FinMap as files
use Rattle.base_files.specs.Packages.{package_paths}
use Rattle.base_files.specs.Path.{IsPath, folder}
use Rattle.base_files.specs.Workspace.{Workspace}
use Rattle.base_files.specs.declared.place.Place.{Place}
use Rattle.base_files.specs.declared.fault_kind.FaultKind.{FaultKind}
use Rattle.base_files.specs.declared.refusal.Refusal.{Refusal}
use Rattle.base_files.specs.declared.refusal.Refusal.TheVariants.{Memory, BadPath, NoFile, Faulty, NoIdentifier, NotRenamable}
use Rattle.types_declared.specs.Package.{Package}
use Rattle.workspace_check.specs.declared.fault.FileFault.{FileFault}
use Rattle.workspace_check.specs.Verdicts.{Verdicts, IsPackageIn, AreVerdicts}
use Rattle.workspace_check.specs.FaultLists.{ListsFaults}
use Rattle.refs_binding.specs.declared.declaration.Declaration.{Declaration}
use Rattle.refs_binding.specs.Identifiers.{BeginsAt, HoldsByte, named_by}
use Rattle.refs_binding.specs.Places.{place_cmp}
use Rattle.refs_binding.specs.Binding.{Binds}

-- `p` is a package of the workspace, as it is checked.
pub record IsCheckedPackage (w : Workspace) (known : Verdicts) (p : Package) : Type 0 where
  pub of_workspace : Contains (package_paths w) p.path
  pub is_checked : IsPackageIn w known p.path p

-- The identifier `u` of the package `p` is bound to the declaration.
abbrev pub IsBoundToDeclaration : Workspace → Verdicts → Package → ℕ → Declaration → Type 0
IsBoundToDeclaration w known p u d = Binds (IsCheckedPackage w known) p u d

-- The identifier that `u` stands for is bound to the declaration. The path literal of an import with a name stands for that name.
abbrev pub BindsThroughLiteral : Workspace → Verdicts → Package → ℕ → Declaration → Type 0
BindsThroughLiteral w known p u d = IsBoundToDeclaration w known p (named_by p.layout u) d

-- An identifier of some package begins at the place and is bound to the declaration. It is no import's path literal.
pub record IsUseOf (w : Workspace) (known : Verdicts) (d : Declaration) (place : Place) : Type 0 where
  pub used_in : Package
  pub is_package : IsCheckedPackage w known used_in
  pub user : ℕ
  pub begins : BeginsAt used_in place.path place.offset user
  pub bound : IsBoundToDeclaration w known used_in user d

-- `p` is the package of the folder of a file, as it is checked.
pub record IsFilePackage (w : Workspace) (known : Verdicts) (path : List ℕ) (p : Package) : Type 0 where
  pub is_package : IsCheckedPackage w known p
  pub of_folder : p.path ≡ folder path

-- The identifier or path literal at the byte is bound to the declaration.
pub record HasDeclaration (w : Workspace) (known : Verdicts) (path : List ℕ) (offset : ℕ) (d : Declaration) : Type 0 where
  pub asked_in : Package
  pub is_asked : IsFilePackage w known path asked_in
  pub number : ℕ
  pub at : HoldsByte asked_in path offset number
  pub bound : BindsThroughLiteral w known asked_in number d

-- `places` are the places of all identifiers that are bound to the declaration of the identifier at the byte, sorted and without
-- duplicates.
pub record ListsUses (w : Workspace) (path : List ℕ) (offset : ℕ) (places : List Place) : Type 0 where
  pub known : Verdicts
  pub right : AreVerdicts w known
  pub declaration : Declaration
  pub is_asked : HasDeclaration w known path offset declaration
  pub in_order : IsStrictlySortedBy place_cmp places
  pub each : (place : Place) → Contains places place ↔ IsUseOf w known declaration place

-- The byte is in no identifier and in no import's path literal.
pub record HasNoIdentifier (w : Workspace) (path : List ℕ) (offset : ℕ) : Type 0 where
  pub known : Verdicts
  pub right : AreVerdicts w known
  pub none : (p : Package) → IsFilePackage w known path p → (u : ℕ) → HoldsByte p path offset u → ⊥

-- The identifier at the byte is bound to no declaration.
pub record HasNoDeclaration (w : Workspace) (path : List ℕ) (offset : ℕ) : Type 0 where
  pub known : Verdicts
  pub right : AreVerdicts w known
  pub asked_in : Package
  pub is_asked : IsFilePackage w known path asked_in
  pub number : ℕ
  pub at : HoldsByte asked_in path offset number
  pub unbound : (d : Declaration) → BindsThroughLiteral w known asked_in number d → ⊥

-- `path` is a legal path of a file, and the workspace has a file there.
abbrev pub HasFileAt : Workspace → List ℕ → Type 0
HasFileAt w path = IsPath 2 path × (files.get w path ≢ None)

-- The first fault of the workspace's fault list.
pub record HasFirstFault (w : Workspace) (place : Place) (kind : FaultKind) : Type 0 where
  pub others : List FileFault
  pub listed : ListsFaults w (record { place = place; kind = kind } ∷ others)

-- The answer for a byte of a file of a workspace without faults: the uses of the identifier there, or a refusal.
abbrev pub AnswersUsesAt : Workspace → List ℕ → ℕ → Result (List Place) Refusal → Type 0
AnswersUsesAt w path offset (Ok places) = ListsUses w path offset places
AnswersUsesAt w path offset (Err NoIdentifier) = HasNoIdentifier w path offset
AnswersUsesAt w path offset (Err NotRenamable) = HasNoDeclaration w path offset
AnswersUsesAt w path offset (Err Memory) = ⊤
AnswersUsesAt w path offset (Err refusal) = ⊥

-- The answer of `uses`: the places of all identifiers bound to the declaration of the identifier at the byte, or a refusal. The refusals
-- are checked in this order: no legal path, no such file, the first fault, no identifier at the byte, no declaration.
abbrev pub AnswersUses : Workspace → List ℕ → ℕ → Result (List Place) Refusal → Type 0
AnswersUses w path offset (Ok places) = HasFileAt w path × ListsFaults w [] × ListsUses w path offset places
AnswersUses w path offset (Err BadPath) = ¬ (IsPath 2 path)
AnswersUses w path offset (Err NoFile) = IsPath 2 path × (files.get w path ≡ None)
AnswersUses w path offset (Err (Faulty place kind)) = HasFileAt w path × HasFirstFault w place kind
AnswersUses w path offset (Err NoIdentifier) = HasFileAt w path × ListsFaults w [] × HasNoIdentifier w path offset
AnswersUses w path offset (Err NotRenamable) = HasFileAt w path × ListsFaults w [] × HasNoDeclaration w path offset
AnswersUses w path offset (Err Memory) = ⊤
AnswersUses w path offset (Err refusal) = ⊥
