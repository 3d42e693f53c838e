-- The fields and methods of definitions after a rename are those that count by the new names.
use Rattle.std.proofs.Common.{ℕ, ◌≡◌, inl, inr, List, [], ap, sym, subst, refl, ◌∙◌}
use Rattle.std.specs.Prelude.{Option, Some, None, slice_get}
use Rattle.std.proofs.lemmas.Option.{none-some}
use Rattle.base_files.specs.Workspace.{Workspace}
use Rattle.base_edits.specs.Revisions.{Revision}
use Rattle.types_expr.specs.declared.symbol.Symbol.{Symbol}
use Rattle.types_expr.specs.World.{Definition, Field, Method}
use Rattle.types_expr.specs.WorldView.{no_definition}
use Rattle.types_declared.proofs.ByteKeys.{cases_bytes}
use Rattle.types_declared.specs.Definitions.{PlacedField, IsCountingField, IsFoundField, IsDefinition, IsFoundMethod, AreDefinitions}
use Rattle.types_declared.specs.Laid.{is_exported}
use Rattle.types_declared.specs.Package.{Package, ExportData, PlacedType, package_types, symbol_in}
use Rattle.types_check.specs.Exports.{IsExportData}
use Rattle.workspace_check.specs.FaultLists.{ListsFaults}
use Rattle.workspace_check.specs.Verdicts.{Verdicts, AreVerdicts}
use Rattle.refs_binding.specs.Uses.{IsCheckedPackage}
use Rattle.refactor_conflict.specs.MembersAfter.{IsFirstField}
use Rattle.refactor_conflict.proofs.FieldsAfter.{of_one}
use Rattle.law_changed_types.proofs.Alike.{Alike}
use Rattle.law_renamed_workspaces.specs.Layouts.{IsRelaid}
use Rattle.law_renamed_workspaces.specs.MembersMoved.{HasFirstField, HasFirstMethod, AreFieldsSeenAfter}
use Rattle.law_renamed_workspaces.proofs.CountingMembers as counting
use Rattle.law_faultless.proofs.MembersWritten.{field_is_written}
use Rattle.law_renamed_workspaces.proofs.SeenStructs.{field_found}

-- A field is found under its name.
pub record IsThere (name : List ℕ) (o : Option Field) : Type 0 where
  pub field : Field
  pub found : o ≡ Some field
  pub exported : field.exported ≡ is_exported name

-- So is a field that counts, in a package of a workspace without faults.
field_there : (x : Workspace) → ListsFaults x [] → (after : Verdicts) → AreVerdicts x after → (q : Package) → IsCheckedPackage x after q → (definition : ℕ)
    (d : Definition) → IsDefinition q definition d → (name : List ℕ) (rank : ℕ) (f : PlacedField) → IsCountingField q definition name rank f →
    IsThere name (d.field name)
field_there x sound after right q also definition d is name rank f counts = by_field (d.field name) refl (is.fields name)
  where
    by_field : (o : Option Field) → d.field name ≡ o → IsFoundField q definition name o → IsThere name o
    by_field None e h = absurd (field_found x sound after right q also definition d is name rank f counts (λ g at exported path. none-some g (sym e ∙ at)))
    by_field (Some g) e h = record { field = g; found = refl; exported = h.1.3 }

-- The method is one of the package at the path, and counts under its new name.
pub record IsNewMethod (Known : Package → Type 0) (r : Revision) (path : List ℕ) (definition : ℕ) (name : List ℕ) (m : Method) : Type 0 where
  pub of_package : m.symbol.package ≡ path
  pub exported : m.exported ≡ is_exported name
  pub counts : HasFirstMethod Known r path definition name m.symbol.rank

-- `b` is the type definition of this rank after the change, in the package at the path. It has the fields that count by the new names, and
-- no methods but those that do.
pub record HasNewMembers (Known : Package → Type 0) (r : Revision) (path : List ℕ) (definition : ℕ) (b : Definition) : Type 0 where
  pub fields : (name : List ℕ) (rank : ℕ) → HasFirstField Known r path definition name rank → IsThere name (b.field name)
  pub methods : (name : List ℕ) (m : Method) → b.method name ≡ Some m → IsNewMethod Known r path definition name m

module _ (w : Workspace) (known : Verdicts) (r : Revision) (p q : Package) (is : IsCheckedPackage w known p) (relaid : IsRelaid r p q) (alike : Alike p q)
    (fields : AreFieldsSeenAfter (IsCheckedPackage w known) r p q)
    (x : Workspace) (sound : ListsFaults x []) (after : Verdicts) (right : AreVerdicts x after) (also : IsCheckedPackage x after q) where
  -- a definition of the package
  own_members : (definition : ℕ) (b : Definition) → IsDefinition q definition b → HasNewMembers (IsCheckedPackage w known) r p.path definition b
  own_members definition b h = record {
    fields = λ name rank first.
        let c = (counting.counting_field w known r p q is relaid definition name rank).0
        (of_one w known p is p.path refl (λ o. IsFirstField r o definition name rank) first) in
        field_there x sound after right q also definition b h name rank c.0 c.1;
    methods = λ name m e.
        let f = subst (IsFoundMethod q definition name) e (h.methods name) in
        record {
          of_package = ap (λ (z : Symbol). z.package) f.4 ∙ relaid.path;
          exported = f.5;
          counts = record {
            inside = p;
            is_package = is;
            of_path = refl;
            holds = counting.counts_before w known r p q is relaid alike fields definition name m.symbol.rank f.0 f.1;
          };
        };
  }

  -- what is no definition of the package has no member
  none_beyond : (definition : ℕ) (s : Symbol) → slice_get (package_types q) definition ≡ None →
      HasNewMembers (IsCheckedPackage w known) r p.path definition (no_definition s)
  none_beyond definition s at = record {
    fields = λ name rank first.
        let c = (counting.counting_field w known r p q is relaid definition name rank).0
        (of_one w known p is p.path refl (λ o. IsFirstField r o definition name rank) first) in
        let h = field_is_written q rank c.0 c.1.is_field.has_rank in
        absurd (none-some h.definition (sym at ∙ subst (λ n. slice_get (package_types q) n ≡ Some h.definition) c.1.is_field.of_struct h.has_rank));
    methods = λ name m e. absurd (none-some m e);
  }

  -- in its export data
  pub exported_members : (j : ExportData) → IsExportData q j → (definition : ℕ) →
      HasNewMembers (IsCheckedPackage w known) r p.path definition (j.definition definition)
  exported_members j h definition = by_rank (slice_get (package_types q) definition) refl
    where
      by_rank : (o : Option PlacedType) → slice_get (package_types q) definition ≡ o →
          HasNewMembers (IsCheckedPackage w known) r p.path definition (j.definition definition)
      by_rank None at =
          subst (HasNewMembers (IsCheckedPackage w known) r p.path definition) (sym (h.beyond definition at)) (none_beyond definition (symbol_in q
          definition) at)
      by_rank (Some d) at = own_members definition (j.definition definition) (h.definitions definition d at)

  -- by symbol
  own_symbol_members : (es : Symbol → Definition) → AreDefinitions q es → (rank : ℕ) (o : Option PlacedType) → slice_get (package_types q) rank ≡ o →
      HasNewMembers (IsCheckedPackage w known) r p.path rank (es (symbol_in q rank))
  own_symbol_members es are rank None at =
      subst (HasNewMembers (IsCheckedPackage w known) r p.path rank) (sym (are.beyond rank at)) (none_beyond rank (symbol_in q rank) at)
  own_symbol_members es are rank (Some d) at = own_members rank (es (symbol_in q rank)) (are.own rank d at)

  pub members_by_symbol : (es : Symbol → Definition) → AreDefinitions q es → (s : Symbol) →
      ((s.package ≡ p.path → ⊥) → HasNewMembers (IsCheckedPackage w known) r s.package s.rank ((q.export_data_of s.package).definition s.rank)) →
      HasNewMembers (IsCheckedPackage w known) r s.package s.rank (es s)
  members_by_symbol es are s seen = elim (cases_bytes s.package p.path) [
    | inl own ↦
        let here : symbol_in q s.rank ≡ s = ap (λ (path : List ℕ). record { «package» = path; rank = s.rank }) (relaid.path ∙ sym own) in
        subst (λ (z : Symbol). HasNewMembers (IsCheckedPackage w known) r s.package s.rank (es z)) here
        (subst (λ path. HasNewMembers (IsCheckedPackage w known) r path s.rank (es (symbol_in q s.rank))) (sym own)
        (own_symbol_members es are s.rank (slice_get (package_types q) s.rank) refl))
    | inr other ↦
        subst (HasNewMembers (IsCheckedPackage w known) r s.package s.rank) (sym (are.imported s.package s.rank (λ e. other (e ∙ relaid.path)))) (seen other)
  ]
