-- The laws of the export data of the declaring package after a plain rename.
use Rattle.std.specs.Prelude.{Contains}
use Rattle.std.proofs.Common.{ℕ, ◌≡◌, true, List, sym, refl, ◌∙◌, subst}
use Rattle.base_edits.specs.EditSet.{FileChanges, edited}
use Rattle.base_files.specs.Workspace.{Workspace}
use Rattle.go_scope.specs.Bindings.{IsPackageLevel}
use Rattle.go_scope.specs.WellFormed.{WellFormed}
use Rattle.types_expr.specs.declared.symbol.Symbol.{Symbol}
use Rattle.types_expr.specs.World.{Definition}
use Rattle.types_declared.specs.Definitions.{PlacedField, IsFieldOf, IsMethodOf, IsDefinition}
use Rattle.types_declared.specs.Files.{package_name}
use Rattle.types_declared.specs.Laid.{is_exported}
use Rattle.types_declared.specs.Package.{Package, PlacedFunction, ExportData, function_place, symbol_in}
use Rattle.types_check.specs.Exports.{IsExported, IsExportData}
use Rattle.workspace_check.specs.Verdicts.{Verdicts, AreVerdicts}
use Rattle.workspace_check.proofs.OnePackage.{layout_formed, files_in_order, one_export_data}
use Rattle.refs_binding.specs.Binding.{field_place}
use Rattle.refs_binding.specs.declared.declaration.Declaration.{Declaration}
use Rattle.refs_binding.specs.declared.declaration.Declaration.TheVariants.{Declared, Field, Method}
use Rattle.refs_binding.specs.Uses.{IsCheckedPackage}
use Rattle.law_changed_types.proofs.Alike.{Alike, of_bound}
use Rattle.law_renamed_workspaces.specs.VerdictsStay.{IsPackageAfter}
use Rattle.law_renamed_workspaces.specs.KnownVerdicts.{IsKeptRename}
use Rattle.law_renamed_workspaces.specs.RenamedData.{IsAlone, export_renamed, field_renamed, method_renamed, definition_changed}
use Rattle.law_renamed_workspaces.specs.RenamedData.{ExportsAreRenamed, FieldsAreRenamed, MethodsAreRenamed}
use Rattle.law_renamed_workspaces.proofs.Counting.{EachMemberCounts}
use Rattle.law_renamed_workspaces.proofs.PackagesAfter as moved
use Rattle.law_renamed_workspaces.proofs.Kept as kept
use Rattle.law_renamed_workspaces.proofs.KeptNames.{level_elsewhere}
use Rattle.law_renamed_workspaces.proofs.RenamedData as renamed
use Rattle.law_renamed_workspaces.proofs.RenamedExports.{exports_renamed}
use Rattle.law_renamed_workspaces.proofs.RenamedMembers as members
use Rattle.law_renamed_workspaces.specs.Renames.{IsMember}
use Rattle.law_renamed_workspaces.proofs.RenamedSets.{own_alone}

field_not_method : (d : Declaration) (s t : Symbol) → d ≡ Field s → d ≡ Method t → ⊥
field_not_method d s t a b = let z : Field s ≡ Method t = sym a ∙ b in cc

scope_not_field : (path : List ℕ) (n : ℕ) (s : Symbol) → Declared path n ≡ Field s → ⊥
scope_not_field path n s e = cc

scope_not_method : (path : List ℕ) (n : ℕ) (s : Symbol) → Declared path n ≡ Method s → ⊥
scope_not_method path n s e = cc

-- The package `p` before the rename is `q` after it.
module _ (w : Workspace) (before after : Verdicts) (d : Declaration) (name : List ℕ) (s : FileChanges) (h : IsKeptRename w before d name s)
    (right : AreVerdicts (edited s w) after) (p q : Package) (there : IsPackageAfter w before after s p q) where
  alike : Alike p q
  alike = of_bound p q there.bound

  clause : package_name q.files ≡ package_name p.files
  clause = moved.clause w before after d name s h right p q there

  counts : EachMemberCounts p
  counts = moved.counts w before after d name s h right p q there

  counts_after : EachMemberCounts q
  counts_after = moved.counts_after w before after d name s h right p q there

  abbrev old_data : ExportData
  old_data = (before p.path).export_data

  is_old : IsExportData p old_data
  is_old = moved.old_data w before after d name s h right p q there

  formed : WellFormed p.layout
  formed = layout_formed w before p.path p there.was.is_checked

  formed_after : WellFormed q.layout
  formed_after = layout_formed (edited s w) after q.path q there.is.is_checked

  -- export data of the package after the rename are those of its verdict
  is_data : (i : ExportData) → IsExportData q i → (after p.path).export_data ≡ i
  is_data i now =
      one_export_data q formed_after (files_in_order (edited s w) after q.path q there.is.is_checked) (after p.path).export_data i
      (moved.new_data w before after d name s h right p q there) now

  -- exports that stay
  exports_stay : ((n : ℕ) → d ≡ Declared p.path n → ⊥) → (n : List ℕ) → IsExported q n (old_data.exported n)
  exports_stay none n =
      kept.exported_there p q alike (level_elsewhere w before d name s h p q there.was there.relaid none) n (old_data.exported n) (is_old.exported n)

  -- fields and methods, where none of them is renamed

  abbrev HasNoField : Type 0
  HasNoField = (rank : ℕ) → Contains h.plain.rename.set (Field (symbol_in p rank)) → ⊥

  abbrev HasNoMethod : Type 0
  HasNoMethod = (rank : ℕ) → Contains h.plain.rename.set (Method (symbol_in p rank)) → ⊥

  -- where the declaration is renamed alone
  no_field_of : IsAlone d h.plain.rename.set → ((rank : ℕ) → d ≡ Field (symbol_in p rank) → ⊥) → HasNoField
  no_field_of alone none rank in_set = none rank (sym (alone (Field (symbol_in p rank)) in_set))

  no_method_of : IsAlone d h.plain.rename.set → ((rank : ℕ) → d ≡ Method (symbol_in p rank) → ⊥) → HasNoMethod
  no_method_of alone none rank in_set = none rank (sym (alone (Method (symbol_in p rank)) in_set))

  fields_there : HasNoField → (o : ℕ) (n : List ℕ) (k : ℕ) → members.fields_of p o n k → members.fields_of q o n k
  fields_there none o n k x = members.fields_there w before d name s h p q there.was there.relaid alike counts counts_after none o n k x

  fields_back : HasNoField → (o : ℕ) (n : List ℕ) (k : ℕ) → members.fields_of q o n k → members.fields_of p o n k
  fields_back none o n k x = members.fields_back w before d name s h p q there.was there.relaid alike counts counts_after none o n k x

  methods_there : HasNoMethod → (o : ℕ) (n : List ℕ) (k : ℕ) → members.methods_of p o n k → members.methods_of q o n k
  methods_there none o n k x = members.methods_there w before d name s h p q there.was there.relaid alike counts counts_after none o n k x

  methods_back : HasNoMethod → (o : ℕ) (n : List ℕ) (k : ℕ) → members.methods_of q o n k → members.methods_of p o n k
  methods_back none o n k x = members.methods_back w before d name s h p q there.was there.relaid alike counts counts_after none o n k x

  same_definition : HasNoField → HasNoMethod → (rank : ℕ) (x : Definition) → IsDefinition p rank x → IsDefinition q rank x
  same_definition no_field no_method rank x is =
      renamed.same_definition p q alike clause counts counts_after (fields_there no_field) (fields_back no_field) (methods_there no_method)
      (methods_back no_method) rank x is

  -- an exported declaration is renamed
  export_data_renamed : (n : ℕ) (e : d ≡ Declared p.path n) → IsKeptRename w before (Declared p.path n) name s → IsPackageLevel p.layout n →
      is_exported (p.names n) ≡ true → (after p.path).export_data ≡ export_renamed (p.names n) name old_data
  export_data_renamed n e own level was_exported =
      is_data (export_renamed (p.names n) name old_data)
      (renamed.other_exports p q alike clause old_data is_old (export_renamed (p.names n) name old_data).exported
      (exports_renamed w before p q n name s own there.was there.relaid alike level was_exported old_data.exported is_old.exported)
      (same_definition (no_field_of alone (λ rank f. scope_not_field p.path n (symbol_in p rank) (sym e ∙ f)))
      (no_method_of alone (λ rank f. scope_not_method p.path n (symbol_in p rank) (sym e ∙ f)))))
    where
      alone : IsAlone d h.plain.rename.set
      alone = own_alone (IsCheckedPackage w before) d h.plain.rename.set h.plain.rename.is_set (λ m. subst IsMember e m)

  -- a field is renamed
  field_data_renamed : IsAlone d h.plain.rename.set → (rank : ℕ) → d ≡ Field (symbol_in p rank) → (owner : ℕ) (old : List ℕ) (f : PlacedField) →
      IsFieldOf p owner old rank f →
      (old ≡ name → ⊥) → (after p.path).export_data ≡ definition_changed owner (field_renamed old name) old_data
  field_data_renamed alone rank e owner old f is apart =
      let one = members.one_field_renamed w before d name s h p q there.was there.relaid alike counts counts_after rank e alone owner old f is apart in
      let none : HasNoMethod = no_method_of alone (λ r same. field_not_method d (symbol_in p rank) (symbol_in p r) e same) in
      is_data (definition_changed owner (field_renamed old name) old_data)
      (renamed.changed_data p q alike clause owner (field_renamed old name) old_data is_old
      (exports_stay (λ n same. scope_not_field p.path n (symbol_in p rank) (sym same ∙ e))) (renamed.no_field_renamed old name)
      (renamed.with_field p q alike clause counts counts_after owner rank old name one (methods_there none) (methods_back none))
      (renamed.without_field p q alike clause counts counts_after owner rank old name one (methods_there none) (methods_back none)))

  -- a method is renamed
  method_data_renamed : IsAlone d h.plain.rename.set → (rank : ℕ) → d ≡ Method (symbol_in p rank) → (owner : ℕ) (old : List ℕ) (f : PlacedFunction) →
      IsMethodOf p owner old rank f →
      (old ≡ name → ⊥) → (after p.path).export_data ≡ definition_changed owner (method_renamed old name) old_data
  method_data_renamed alone rank e owner old f is apart =
      let one =
      members.one_method_renamed w before d name s h p q there.was there.relaid alike counts counts_after formed formed_after rank e alone owner old f is
      apart in
      let none : HasNoField = no_field_of alone (λ r same. field_not_method d (symbol_in p r) (symbol_in p rank) same e) in
      is_data (definition_changed owner (method_renamed old name) old_data)
      (renamed.changed_data p q alike clause owner (method_renamed old name) old_data is_old
      (exports_stay (λ n same. scope_not_method p.path n (symbol_in p rank) (sym same ∙ e))) (renamed.no_method_renamed old name)
      (renamed.with_method p q alike clause counts counts_after owner rank old name one (fields_there none) (fields_back none))
      (renamed.without_method p q alike clause counts counts_after owner rank old name one (fields_there none) (fields_back none)))

-- exports

pub exports_are_renamed : ExportsAreRenamed
exports_are_renamed w before after p n name s was h right level was_exported =
    let x = moved.package_after w before after (Declared p.path n) name s h right p was in
    export_data_renamed w before after (Declared p.path n) name s h right p x.0 x.1 n refl h level was_exported

-- fields

field_apart : (w : Workspace) (before : Verdicts) (p : Package) (rank : ℕ) (name : List ℕ) (s : FileChanges) → IsCheckedPackage w before p →
    IsKeptRename w before (Field (symbol_in p rank)) name s → EachMemberCounts p → (owner : ℕ) (old : List ℕ) (f : PlacedField) →
    IsFieldOf p owner old rank f → old ≡ name → ⊥
field_apart w before p rank name s is h counts owner old f x same =
    h.plain.rename.other (record {
      inside = p;
      is_package = is;
      of_path = refl;
      holds = record {
        at = field_place f;
        is_at = record { counts = record { definition = owner; name = old; field = f; counting = counts.fields owner rank old f x }; named_at = refl };
        called = x.named ∙ same;
      };
    })

pub fields_are_renamed : FieldsAreRenamed
fields_are_renamed w before after p rank name s was h alone right owner old f is =
    let d = Field (symbol_in p rank) in
    let x = moved.package_after w before after d name s h right p was in
    field_data_renamed w before after d name s h right p x.0 x.1 alone rank refl owner old f is
    (field_apart w before p rank name s was h (moved.counts w before after d name s h right p x.0 x.1) owner old f is)

-- methods

method_apart : (w : Workspace) (before : Verdicts) (p : Package) (rank : ℕ) (name : List ℕ) (s : FileChanges) → IsCheckedPackage w before p →
    IsKeptRename w before (Method (symbol_in p rank)) name s → EachMemberCounts p → (owner : ℕ) (old : List ℕ) (f : PlacedFunction) →
    IsMethodOf p owner old rank f → old ≡ name → ⊥
method_apart w before p rank name s is h counts owner old f x same =
    h.plain.rename.other (record {
      inside = p;
      is_package = is;
      of_path = refl;
      holds = record {
        at = function_place f;
        is_at = record { counts = record { definition = owner; name = old; method = f; counting = counts.methods owner rank old f x }; named_at = refl };
        called = x.named ∙ same;
      };
    })

pub methods_are_renamed : MethodsAreRenamed
methods_are_renamed w before after p rank name s was h alone right owner old f is =
    let d = Method (symbol_in p rank) in
    let x = moved.package_after w before after d name s h right p was in
    method_data_renamed w before after d name s h right p x.0 x.1 alone rank refl owner old f is
    (method_apart w before p rank name s was h (moved.counts w before after d name s h right p x.0 x.1) owner old f is)
