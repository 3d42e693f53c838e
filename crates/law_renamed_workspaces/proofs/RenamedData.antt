-- The export data of a package after the rename of one of its exports, fields or methods.
use Rattle.std.proofs.Common.{ℕ, ◌≡◌, ◌==◌, inl, inr, true, false, List, ap, sym, subst, refl, ◌∙◌, arith}
use Rattle.std.specs.Prelude.{Option, Some, None, slice_get, option_map, if◌then◌else◌}
use Rattle.std.proofs.Math.Path.{fun_ext}
use Rattle.std.proofs.lemmas.Bool.{cases_eq}
use Rattle.types_expr.specs.declared.symbol.Symbol.{Symbol}
use Rattle.types_expr.specs.World.{Definition}
use Rattle.types_expr.specs.WorldView.{no_definition}
use Rattle.types_declared.specs.Definitions.{IsFoundField, IsFoundMethod, IsDefinition}
use Rattle.types_declared.specs.Files.{package_name}
use Rattle.types_declared.specs.Package.{Package, PlacedType, Export, ExportData, package_types, symbol_in}
use Rattle.types_check.specs.Exports.{IsExported, IsExportData}
use Rattle.law_changed_types.proofs.Alike.{Alike, turned, symbols}
use Rattle.law_renamed_workspaces.specs.MovedExports.{field_called, method_called}
use Rattle.law_renamed_workspaces.specs.RenamedData.{renamed_entry, field_renamed, method_renamed, definition_changed}
use Rattle.law_renamed_workspaces.proofs.Counting.{EachMemberCounts}
use Rattle.law_renamed_workspaces.proofs.FoundMembers.{fields_listed, field_stays, field_moves, method_stays, method_moves}
use Rattle.law_renamed_workspaces.proofs.Kept.{underlying_there}
use Rattle.law_renamed_workspaces.proofs.OneRenamed as one
use Rattle.law_renamed_workspaces.proofs.RenamedEntries.{entry_holds}
use Rattle.law_renamed_workspaces.proofs.RenamedMembers.{fields_of, methods_of, fields_go, methods_go}

-- one rank or another

same_rank : (a b : ℕ) → a ≡ b → (a == b) ≡ true
same_rank a b e = grind (arith)

other_rank : (a b : ℕ) → (a ≡ b → ⊥) → (a == b) ≡ false
other_rank a b e = grind (arith)

-- What holds of the changed definition and of all others.
changed_holds : (P : ℕ → Definition → Type 0) (owner : ℕ) (change : Definition → Definition) (f : ℕ → Definition) (rank : ℕ) →
    (rank ≡ owner → P rank (change (f rank))) → ((rank ≡ owner → ⊥) → P rank (f rank)) → P rank (if rank == owner then change (f rank) else f rank)
changed_holds P owner change f rank here there = elim (cases_eq rank owner) [
  | inl same ↦ subst (λ b. P rank (if b then change (f rank) else f rank)) (sym (same_rank rank owner same)) (here same)
  | inr other ↦ subst (λ b. P rank (if b then change (f rank) else f rank)) (sym (other_rank rank owner other)) (there other)
]

-- a definition that is not there has no member to rename

no_entry : {X : Type 0} (old new : List ℕ) (entry : Option X) → entry ≡ None → renamed_entry old new entry (λ name. None) ≡ (λ name. None)
no_entry {X} old new entry none =
    fun_ext (λ name. entry_holds (λ n (o : Option X). o ≡ None) old new entry (λ m. None) none refl (λ m a b. refl) name)

pub no_field_renamed : (old new : List ℕ) (s : Symbol) → field_renamed old new (no_definition s) ≡ no_definition s
no_field_renamed old new s =
    ap (λ f. record { underlying = (no_definition s).underlying; field = f; method = (no_definition s).method }) (no_entry old new None refl)

pub no_method_renamed : (old new : List ℕ) (s : Symbol) → method_renamed old new (no_definition s) ≡ no_definition s
no_method_renamed old new s =
    ap (λ m. record { underlying = (no_definition s).underlying; field = (no_definition s).field; method = m }) (no_entry old new None refl)

module _ (p q : Package) (alike : Alike p q) (clause : package_name q.files ≡ package_name p.files) where
  type_before : (rank : ℕ) (o : Option PlacedType) → slice_get (package_types q) rank ≡ o → slice_get (package_types p) rank ≡ o
  type_before rank o at = ap (λ ts. slice_get ts rank) (sym alike.types) ∙ at

  -- Export data with other exports, where the definitions stay.
  pub other_exports : (i : ExportData) → IsExportData p i → (exported : List ℕ → Option Export) → ((name : List ℕ) → IsExported q name (exported name)) →
      ((rank : ℕ) (d : Definition) → IsDefinition p rank d → IsDefinition q rank d) →
      IsExportData q (record { name = i.name; exported = exported; definition = i.definition })
  other_exports i was exported are same = record {
    name = was.name ∙ sym clause;
    exported = are;
    definitions = λ rank d at. same rank (i.definition rank) (was.definitions rank d (type_before rank (Some d) at));
    beyond = λ rank none. was.beyond rank (type_before rank None none) ∙ ap no_definition (sym (symbols p q alike rank));
  }

  -- Export data with one definition changed, where the exports stay.
  pub changed_data : (owner : ℕ) (change : Definition → Definition) (i : ExportData) → IsExportData p i →
      ((name : List ℕ) → IsExported q name (i.exported name)) → ((s : Symbol) → change (no_definition s) ≡ no_definition s) →
      ((rank : ℕ) (d : Definition) → IsDefinition p rank d → rank ≡ owner → IsDefinition q rank (change d)) →
      ((rank : ℕ) (d : Definition) → IsDefinition p rank d → (rank ≡ owner → ⊥) → IsDefinition q rank d) → IsExportData q (definition_changed owner change i)
  changed_data owner change i was exported nothing here there = record {
    name = was.name ∙ sym clause;
    exported = exported;
    definitions = λ rank d at.
        let before = was.definitions rank d (type_before rank (Some d) at) in
        changed_holds (IsDefinition q) owner change i.definition rank (here rank (i.definition rank) before) (there rank (i.definition rank) before);
    beyond = λ rank none.
        let before = was.beyond rank (type_before rank None none) ∙ ap no_definition (sym (symbols p q alike rank)) in
        changed_holds (λ k x. x ≡ no_definition (symbol_in q rank)) owner change i.definition rank
        (λ same. ap change before ∙ nothing (symbol_in q rank)) (λ other. before);
  }

  module _ (counts : EachMemberCounts p) (counts_after : EachMemberCounts q) where
    abbrev back : Alike q p
    back = turned p q alike

    -- fields or methods of a definition that stay where they are

    same_fields : (d : Definition) (rank : ℕ) → ((n : List ℕ) (k : ℕ) → fields_of p rank n k → fields_of q rank n k) →
        ((n : List ℕ) (k : ℕ) → fields_of q rank n k → fields_of p rank n k) → ((n : List ℕ) → IsFoundField p rank n (d.field n)) →
        (n : List ℕ) → IsFoundField q rank n (d.field n)
    same_fields d rank there here found n =
        field_stays p q alike rank n (fields_go p q counts_after rank n n (there n) (fields_listed p q alike))
        (fields_go q p counts rank n n (here n) (fields_listed q p back)) (d.field n) (found n)

    same_methods : (d : Definition) (rank : ℕ) → ((n : List ℕ) (k : ℕ) → methods_of p rank n k → methods_of q rank n k) →
        ((n : List ℕ) (k : ℕ) → methods_of q rank n k → methods_of p rank n k) → ((n : List ℕ) → IsFoundMethod p rank n (d.method n)) →
        (n : List ℕ) → IsFoundMethod q rank n (d.method n)
    same_methods d rank there here found n =
        method_stays p q alike rank n (methods_go p q counts_after alike rank n n (there n)) (methods_go q p counts back rank n n (here n)) (d.method n)
        (found n)

    -- no member is renamed
    pub same_definition : ((d : ℕ) (n : List ℕ) (k : ℕ) → fields_of p d n k → fields_of q d n k) →
        ((d : ℕ) (n : List ℕ) (k : ℕ) → fields_of q d n k → fields_of p d n k) → ((d : ℕ) (n : List ℕ) (k : ℕ) → methods_of p d n k → methods_of q d n k) →
        ((d : ℕ) (n : List ℕ) (k : ℕ) → methods_of q d n k → methods_of p d n k) → (rank : ℕ) (d : Definition) → IsDefinition p rank d →
        IsDefinition q rank d
    same_definition fields_there fields_back methods_there methods_back rank d is = record {
      underlying = underlying_there p q alike rank d.underlying is.underlying;
      fields = same_fields d rank (fields_there rank) (fields_back rank) is.fields;
      methods = same_methods d rank (methods_there rank) (methods_back rank) is.methods;
    }

    -- a field is renamed
    module _ (owner renamed : ℕ) (old new : List ℕ) (h : one.IsOneRenamed (fields_of p) (fields_of q) owner renamed old new)
        (methods_there : (d : ℕ) (n : List ℕ) (k : ℕ) → methods_of p d n k → methods_of q d n k)
        (methods_back : (d : ℕ) (n : List ℕ) (k : ℕ) → methods_of q d n k → methods_of p d n k) where
      renamed_fields : (d : Definition) → ((n : List ℕ) → IsFoundField p owner n (d.field n)) → (n : List ℕ) →
          IsFoundField q owner n ((field_renamed old new d).field n)
      renamed_fields d found =
          entry_holds (IsFoundField q owner) old new (option_map (field_called new) (d.field old)) d.field
          (field_moves p q alike owner old new
          (fields_go p q counts_after owner old new (one.moved (fields_of p) (fields_of q) owner renamed old new h) (fields_listed p q alike))
          (fields_go q p counts owner new old (one.moved_back (fields_of p) (fields_of q) owner renamed old new h) (fields_listed q p back))
          (d.field old) (found old))
          (λ rank f t c typed. one.freed (fields_of p) (fields_of q) owner renamed old new h rank (f, c.is_field))
          (λ n not_old not_new.
          field_stays p q alike owner n
          (fields_go p q counts_after owner n n (one.kept (fields_of p) (fields_of q) owner renamed old new h n not_old) (fields_listed p q alike))
          (fields_go q p counts owner n n (one.kept_back (fields_of p) (fields_of q) owner renamed old new h n not_new) (fields_listed q p back))
          (d.field n) (found n))

      pub with_field : (rank : ℕ) (d : Definition) → IsDefinition p rank d → rank ≡ owner → IsDefinition q rank (field_renamed old new d)
      with_field rank d is same = record {
        underlying = underlying_there p q alike rank d.underlying is.underlying;
        fields = λ n.
            subst (λ k. IsFoundField q k n ((field_renamed old new d).field n)) (sym same)
            (renamed_fields d (λ m. subst (λ k. IsFoundField p k m (d.field m)) same (is.fields m)) n);
        methods = same_methods d rank (methods_there rank) (methods_back rank) is.methods;
      }

      pub without_field : (rank : ℕ) (d : Definition) → IsDefinition p rank d → (rank ≡ owner → ⊥) → IsDefinition q rank d
      without_field rank d is other = record {
        underlying = underlying_there p q alike rank d.underlying is.underlying;
        fields =
            same_fields d rank (one.elsewhere (fields_of p) (fields_of q) owner renamed old new h rank other)
            (one.elsewhere_back (fields_of p) (fields_of q) owner renamed old new h rank other) is.fields;
        methods = same_methods d rank (methods_there rank) (methods_back rank) is.methods;
      }

    -- a method is renamed
    module _ (owner renamed : ℕ) (old new : List ℕ) (h : one.IsOneRenamed (methods_of p) (methods_of q) owner renamed old new)
        (fields_there : (d : ℕ) (n : List ℕ) (k : ℕ) → fields_of p d n k → fields_of q d n k)
        (fields_back : (d : ℕ) (n : List ℕ) (k : ℕ) → fields_of q d n k → fields_of p d n k) where
      renamed_methods : (d : Definition) → ((n : List ℕ) → IsFoundMethod p owner n (d.method n)) → (n : List ℕ) →
          IsFoundMethod q owner n ((method_renamed old new d).method n)
      renamed_methods d found =
          entry_holds (IsFoundMethod q owner) old new (option_map (method_called new) (d.method old)) d.method
          (method_moves p q alike owner old new
          (methods_go p q counts_after alike owner old new (one.moved (methods_of p) (methods_of q) owner renamed old new h))
          (methods_go q p counts back owner new old (one.moved_back (methods_of p) (methods_of q) owner renamed old new h))
          (d.method old) (found old))
          (λ rank f c. one.freed (methods_of p) (methods_of q) owner renamed old new h rank (f, c.is_method))
          (λ n not_old not_new.
          method_stays p q alike owner n
          (methods_go p q counts_after alike owner n n (one.kept (methods_of p) (methods_of q) owner renamed old new h n not_old))
          (methods_go q p counts back owner n n (one.kept_back (methods_of p) (methods_of q) owner renamed old new h n not_new))
          (d.method n) (found n))

      pub with_method : (rank : ℕ) (d : Definition) → IsDefinition p rank d → rank ≡ owner → IsDefinition q rank (method_renamed old new d)
      with_method rank d is same = record {
        underlying = underlying_there p q alike rank d.underlying is.underlying;
        fields = same_fields d rank (fields_there rank) (fields_back rank) is.fields;
        methods = λ n.
            subst (λ k. IsFoundMethod q k n ((method_renamed old new d).method n)) (sym same)
            (renamed_methods d (λ m. subst (λ k. IsFoundMethod p k m (d.method m)) same (is.methods m)) n);
      }

      pub without_method : (rank : ℕ) (d : Definition) → IsDefinition p rank d → (rank ≡ owner → ⊥) → IsDefinition q rank d
      without_method rank d is other = record {
        underlying = underlying_there p q alike rank d.underlying is.underlying;
        fields = same_fields d rank (fields_there rank) (fields_back rank) is.fields;
        methods =
            same_methods d rank (one.elsewhere (methods_of p) (methods_of q) owner renamed old new h rank other)
            (one.elsewhere_back (methods_of p) (methods_of q) owner renamed old new h rank other) is.methods;
      }
