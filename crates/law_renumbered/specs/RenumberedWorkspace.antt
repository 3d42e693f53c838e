-- A revision of a workspace by which the tokens and identifiers of one package get other numbers.
use Rattle.std.specs.Prelude.{ℕ, ◌≡◌, ◌⊎◌, List}
use Rattle.base_files.specs.Path.{folder}
use Rattle.base_files.specs.Workspace.{Workspace}
use Rattle.base_files.specs.declared.place.Place.{Place}
use Rattle.base_edits.specs.Revisions.{Revision}
use Rattle.types_expr.specs.declared.symbol.Symbol.{Symbol}
use Rattle.types_expr.specs.Judge.{MemberUse}
use Rattle.types_declared.specs.Package.{Package}
use Rattle.types_info.specs.MemberUses.{AreUsesIn}
use Rattle.types_info.specs.QualifiedIdentifiers.{IsQualifiedByPath}
use Rattle.workspace_check.specs.Verdicts.{AreVerdicts, Verdicts}
use Rattle.refs_binding.specs.declared.declaration.Declaration.{Declaration}
use Rattle.refs_binding.specs.declared.declaration.Declaration.TheVariants.{Declared, Field, Method, Predeclared}
use Rattle.refs_binding.specs.Binding.{IsPredeclaredNumber}
use Rattle.refs_binding.specs.DeclaringPlaces.{IsDeclaredAt}
use Rattle.refs_binding.specs.Identifiers.{BeginsAt, IsInFiles}
use Rattle.refs_binding.specs.Uses.{IsCheckedPackage, IsUseOf}
use Rattle.refs_places.specs.Identified.{IsIdentifierAt}
use Rattle.refactor_preserve.specs.Preserved.{KeepsBindings}
use Rattle.law_renumbered.specs.TwoRevisions.{IsFirstStep}
use Rattle.law_renumbered.specs.Bindings.{IsFirstThere, IsJudgedTwice}
use Rattle.law_renumbered.specs.Findings.{KeepsNames}
use Rattle.law_changed_types.specs.RenumberedPackage.{IsRenumberedPackage, NewNumbers}

-- What a declaration is where the identifiers of the package at the path get other numbers.
pub data Renumbers (n : NewNumbers) (path : List ℕ) : Declaration → Declaration → Type 0 where
  predeclared : {k : ℕ} → Renumbers n path (Predeclared k) (Predeclared k)
  own : {k : ℕ} → Renumbers n path (Declared path k) (Declared path (n.identifier k))
  elsewhere : {other : List ℕ} {k : ℕ} → (other ≡ path → ⊥) → Renumbers n path (Declared other k) (Declared other k)
  field : {s : Symbol} → Renumbers n path (Field s) (Field s)
  method : {s : Symbol} → Renumbers n path (Method s) (Method s)

-- The declaration is declared at some place, or is predeclared.
abbrev pub HasDeclaringPlace : Workspace → Verdicts → Declaration → Type 0
HasDeclaringPlace w known (Predeclared k) = Unit {0}
HasDeclaringPlace w known d = (place : Place) × IsDeclaredAt (IsCheckedPackage w known) d place

-- The package p of w is q after the revision, with other numbers, at places that the revision moves. The other packages stay.
pub record IsRenumberedBy (w : Workspace) (known : Verdicts) (r : Revision) (n : NewNumbers) (p q : Package) : Type 0 where
  -- the package
  pub renumbered : IsRenumberedPackage n p q
  pub keeps : KeepsNames n p q
  pub was : IsCheckedPackage w known p
  pub is : IsCheckedPackage r.after known q
  pub predeclared : (k : ℕ) → IsPredeclaredNumber k → n.identifier k ≡ k
  pub own : (k : ℕ) → (IsPredeclaredNumber k → ⊥) → IsPredeclaredNumber (n.identifier k) → ⊥
  pub firsts : (u : ℕ) → IsInFiles p u → IsFirstThere p u
  pub firsts_too : (u : ℕ) → IsInFiles p u → IsFirstThere q (n.identifier u)
  pub judged : (file : ℕ) (uses : List MemberUse) → AreUsesIn p file uses → IsJudgedTwice n p q file uses
  pub no_round : (u : ℕ) (path : List ℕ) → IsQualifiedByPath p u path → path ≡ p.path → ⊥
  -- the other packages
  pub others : (y : Package) → IsCheckedPackage w known y → (y.path ≡ p.path → ⊥) → IsCheckedPackage r.after known y
  pub unmoved : (place : Place) → (folder place.path ≡ p.path → ⊥) → r.moved place ≡ place
  -- places
  pub begins : (u : ℕ) (place : Place) → BeginsAt p place.path place.offset u →
      BeginsAt q (r.moved place).path (r.moved place).offset (n.identifier u)
  pub become : (d e : Declaration) → Renumbers n p.path d e → (place : Place) → IsDeclaredAt (IsCheckedPackage w known) d place →
      IsDeclaredAt (IsCheckedPackage r.after known) e (r.moved place)
  pub places : (place : Place) (d : Declaration) → IsUseOf w known d place → HasDeclaringPlace w known d
  pub bound_or_not : (place : Place) → IsIdentifierAt w known place → ((d : Declaration) × IsUseOf w known d place) ⊎
      ((e : Declaration) → IsUseOf r.after known e (r.moved place) → ⊥)

-- Then bindings are kept.
abbrev pub RenumberedWorkspacesKeepBindings : Type 0
RenumberedWorkspacesKeepBindings = (w : Workspace) (known : Verdicts) (r : Revision) (n : NewNumbers) (p q : Package) → IsRenumberedBy w known r n p q →
    KeepsBindings w known r known

-- And the revision can be the first step of another one, if the verdicts are right before and after it.
abbrev pub RenumberedWorkspacesAreSteps : Type 0
RenumberedWorkspacesAreSteps = (w : Workspace) (known : Verdicts) (r : Revision) (n : NewNumbers) (p q : Package) → IsRenumberedBy w known r n p q →
    AreVerdicts w known → AreVerdicts r.after known → IsFirstStep w known r known
