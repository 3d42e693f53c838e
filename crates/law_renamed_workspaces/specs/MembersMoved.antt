-- The members of type definitions after a rename: those of before, each under its new name.
use Rattle.std.specs.Prelude.{ℕ, ◌≡◌, ◌↔◌, true, false, List, Some}
use Rattle.base_files.specs.Workspace.{Workspace}
use Rattle.base_edits.specs.Revisions.{Revision}
use Rattle.types_expr.specs.declared.symbol.Symbol.{Symbol}
use Rattle.types_expr.specs.Types.{Defined}
use Rattle.types_expr.specs.Types.{Struct as StructOf}
use Rattle.types_expr.specs.World.{Field, Method, Definition}
use Rattle.types_declared.specs.Laid.{is_exported}
use Rattle.types_declared.specs.Definitions.{HasUnderlying, PlacedField, IsCountingField, IsCountingMethod}
use Rattle.types_declared.specs.Package.{Package, ExportData, PlacedFunction, symbol_in}
use Rattle.types_check.specs.Exports.{IsExportData}
use Rattle.workspace_check.specs.Verdicts.{Verdicts, BuildsOn}
use Rattle.refs_binding.specs.DeclaringPlaces.{InPackage}
use Rattle.refs_binding.specs.Uses.{IsCheckedPackage}
use Rattle.refactor_conflict.specs.MembersAfter.{IsFirstField, IsFirstMethod}
use Rattle.refactor_conflict.specs.NamesAfter.{IsMethodAfter}
use Rattle.law_changed_types.specs.SameBindings.{IsBoundAlike}
use Rattle.law_renamed_workspaces.specs.Layouts.{IsRelaid}
use Rattle.law_renamed_workspaces.specs.MovedExports.{field_called, method_called}

-- In the package at the path before the change, the field of this rank counts after it for the type definition, under this name.
abbrev pub HasFirstField : (Known : Package → Type 0) → Revision → List ℕ → (definition : ℕ) → (name : List ℕ) → (rank : ℕ) → Type 0
HasFirstField Known r path definition name rank = InPackage Known path (λ p. IsFirstField r p definition name rank)

-- In the package at the path before the change, the method of this rank counts after it for the type definition, under this name.
abbrev pub HasFirstMethod : (Known : Package → Type 0) → Revision → List ℕ → (definition : ℕ) → (name : List ℕ) → (rank : ℕ) → Type 0
HasFirstMethod Known r path definition name rank = InPackage Known path (λ p. IsFirstMethod Known r p definition name rank)

-- In the package at the path before the change, the method of this rank is one of the type definition. It has this name after the change.
abbrev pub HasMethodNamed : (Known : Package → Type 0) → Revision → List ℕ → (definition : ℕ) → (name : List ℕ) → (rank : ℕ) → Type 0
HasMethodNamed Known r path definition name rank = InPackage Known path (λ p. IsMethodAfter r p definition name rank)

-- A field stands under the name that it has after the change, and is one of the package at the path.
pub record IsUnderNewName (Known : Package → Type 0) (r : Revision) (path : List ℕ) (definition : ℕ) (name : List ℕ) (f : Field) : Type 0 where
  pub of_package : f.symbol.package ≡ path
  pub exported : f.exported ≡ is_exported name
  pub counts : HasFirstField Known r path definition name f.symbol.rank

-- The type definition of this rank, of the package at the path, was `a` before the change and is `b` after it. Each field and method of `a`
-- that counts under its new name is there under that name. `b` has no field but those that count so, and no method that is not called so.
-- `Known`: the packages before the change.
pub record IsDefinitionAfter (Known : Package → Type 0) (r : Revision) (path : List ℕ) (rank : ℕ) (a b : Definition) : Type 0 where
  pub underlying : b.underlying ≡ a.underlying
  pub fields : (old new : List ℕ) (f : Field) → a.field old ≡ Some f → HasFirstField Known r path rank new f.symbol.rank →
      b.field new ≡ Some (field_called new f)
  pub methods : (old new : List ℕ) (m : Method) → a.method old ≡ Some m → HasFirstMethod Known r path rank new m.symbol.rank →
      b.method new ≡ Some (method_called new m)
  pub no_others : (name : List ℕ) (f : Field) → b.field name ≡ Some f → IsUnderNewName Known r path rank name f
  pub no_other_methods : (name : List ℕ) (m : Method) → b.method name ≡ Some m → HasMethodNamed Known r path rank name m.symbol.rank

-- What `q` sees of the definitions of other packages is what `p` saw of them before the change, with new names of members.
abbrev pub AreSeenAfter : (Known : Package → Type 0) → Revision → (p q : Package) → Type 0
AreSeenAfter Known r p q = (path : List ℕ) (rank : ℕ) → (path ≡ p.path → ⊥) →
    IsDefinitionAfter Known r path rank ((p.export_data_of path).definition rank) ((q.export_data_of path).definition rank)

-- Of each package that the package at the path builds on, the definitions are those of before, with new names of members.
abbrev pub AreDefinitionsAfterBelow : Workspace → (before after : Verdicts) → Revision → List ℕ → Type 0
AreDefinitionsAfterBelow w before after r path = (q : List ℕ) → BuildsOn w path q → (rank : ℕ) →
    IsDefinitionAfter (IsCheckedPackage w before) r q rank ((before q).export_data.definition rank) ((after q).export_data.definition rank)

-- A package after the change builds on the same packages as before, and these have no faults.
pub record BuildsOnTheSame (w x : Workspace) (after : Verdicts) (path : List ℕ) : Type 0 where
  pub same : (q : List ℕ) → BuildsOn w path q ↔ BuildsOn x path q
  pub sound : (q : List ℕ) → BuildsOn w path q → (after q).faulty ≡ false

-- So a package sees of the definitions of others what it saw, with new names of members.
abbrev pub SeenDefinitionsFollow : Type 0
SeenDefinitionsFollow = (w x : Workspace) (before after : Verdicts) (r : Revision) (p q : Package) → IsCheckedPackage w before p → IsCheckedPackage x after q →
    q.path ≡ p.path → ((o : List ℕ) → BuildsOn w p.path o → (before o).faulty ≡ false) → BuildsOnTheSame w x after p.path →
    AreDefinitionsAfterBelow w before after r p.path → AreSeenAfter (IsCheckedPackage w before) r p q

-- The fields that count in the package after the change are those that count by the new names.
abbrev pub FieldsFollow : Type 0
FieldsFollow = (w : Workspace) (known : Verdicts) (r : Revision) (p q : Package) → IsCheckedPackage w known p → IsRelaid r p q →
    (definition : ℕ) (name : List ℕ) (rank : ℕ) →
    IsFirstField r p definition name rank ↔ ((f : PlacedField) × IsCountingField q definition name rank f)

-- A method that counts by the new names counts in the package after the change.
abbrev pub MethodsFollow : Type 0
MethodsFollow = (w : Workspace) (known : Verdicts) (r : Revision) (p q : Package) → IsCheckedPackage w known p → IsRelaid r p q → IsBoundAlike p q →
    AreSeenAfter (IsCheckedPackage w known) r p q → (definition : ℕ) (name : List ℕ) (rank : ℕ) →
    IsFirstMethod (IsCheckedPackage w known) r p definition name rank → (f : PlacedFunction) × IsCountingMethod q definition name rank f

-- Where the underlying type of a type definition of `p` is a struct of another package, `q` sees its exported fields by their new names.
abbrev pub AreFieldsSeenAfter : (Known : Package → Type 0) → Revision → (p q : Package) → Type 0
AreFieldsSeenAfter Known r p q = (definition : ℕ) (s : Symbol) → HasUnderlying p (Defined (symbol_in p definition)) (StructOf s) →
    (s.package ≡ p.path → ⊥) → (name : List ℕ) → is_exported name ≡ true → (rank : ℕ) → HasFirstField Known r s.package s.rank name rank →
    (f : Field) × ((((q.export_data_of s.package).definition s.rank).field name ≡ Some f) × (f.exported ≡ true))

-- A method that counts in the package after the change counts by the new names.
abbrev pub CountingMethodsFollow : Type 0
CountingMethodsFollow = (w : Workspace) (known : Verdicts) (r : Revision) (p q : Package) → IsCheckedPackage w known p → IsRelaid r p q → IsBoundAlike p q →
    AreFieldsSeenAfter (IsCheckedPackage w known) r p q → (definition : ℕ) (name : List ℕ) (rank : ℕ) (f : PlacedFunction) →
    IsCountingMethod q definition name rank f → IsFirstMethod (IsCheckedPackage w known) r p definition name rank

-- The definitions that a package exports are those of before, with new names of members.
abbrev pub ExportedDefinitionsFollow : Type 0
ExportedDefinitionsFollow = (w : Workspace) (known : Verdicts) (r : Revision) (p q : Package) → IsCheckedPackage w known p → IsRelaid r p q → IsBoundAlike p q →
    AreSeenAfter (IsCheckedPackage w known) r p q → (i j : ExportData) → IsExportData p i → IsExportData q j → (rank : ℕ) →
    IsDefinitionAfter (IsCheckedPackage w known) r p.path rank (i.definition rank) (j.definition rank)
