-- Members whose name is neither the old nor the new one of what a plain rename renames are those that had it.
use Rattle.std.proofs.Common.{ℕ, ◌≡◌, List, ap, sym, subst, refl, ◌∙◌, inl, inr}
use Rattle.std.specs.Prelude.{◌↔◌, Contains}
use Rattle.std.proofs.lemmas.Option.{same_Some}
use Rattle.base_files.specs.Workspace.{Workspace}
use Rattle.base_edits.specs.EditSet.{FileChanges}
use Rattle.base_edits.specs.RevisionsOfEdits.{revision_of}
use Rattle.types_declared.specs.Definitions.{PlacedField, IsFieldOf, IsMethodOf}
use Rattle.types_declared.specs.Package.{Package, PlacedFunction, symbol_in, spelled}
use Rattle.workspace_check.specs.Verdicts.{Verdicts}
use Rattle.refs_binding.specs.declared.declaration.Declaration.{Declaration}
use Rattle.refs_binding.specs.declared.declaration.Declaration.TheVariants.{Field, Method}
use Rattle.refs_binding.specs.DeclaredNames.{HasDeclaredName, HasDeclaredNameIn}
use Rattle.refs_binding.specs.Uses.{IsCheckedPackage}
use Rattle.refactor_conflict.specs.NamesAfter.{IsFieldAfter, IsMethodAfter}
use Rattle.refactor_conflict.proofs.FieldsAfter.{of_one}
use Rattle.law_renamed_workspaces.specs.Renames.{IsPlainRename}
use Rattle.law_renamed_workspaces.specs.NamesAfterwards.{IsCalledAfter, gets_name, keeps_name, OtherFieldNamesStay, OtherMethodNamesStay}
use Rattle.law_renamed_workspaces.proofs.Called.{fields, methods}

module _ (w : Workspace) (known : Verdicts) (d : Declaration) (name : List ℕ) (s : FileChanges) (h : IsPlainRename w known d name s) (old other : List ℕ)
    (has : HasDeclaredName (IsCheckedPackage w known) d old) (not_old : other ≡ old → ⊥) (not_new : other ≡ name → ⊥) (x : Package)
    (is : IsCheckedPackage w known x) (definition rank : ℕ) where
  was_called : (e : Declaration) (was : List ℕ) → IsCalledAfter h.rename.set name e was other → was ≡ other
  was_called e was (gets_name same new) = absurd (not_new new)
  was_called e was (keeps_name away kept) = sym kept

  -- what is renamed has the old name
  of_old_name : (e : Declaration) → Contains h.rename.set e → HasDeclaredName (IsCheckedPackage w known) e old
  of_old_name e in_set = elim (h.rename.is_set.others e in_set) [
    | inl same ↦ subst (λ k. HasDeclaredName (IsCheckedPackage w known) k old) (sym same) has
    | inr alike ↦ alike.called old has
  ]

  -- a field of the name is not renamed
  field_apart : (f : PlacedField) → IsFieldOf x definition other rank f → Contains h.rename.set (Field (symbol_in x rank)) → ⊥
  field_apart f own in_set =
      let e : Declaration = Field (symbol_in x rank) in
      let named : HasDeclaredNameIn x e old =
      of_one w known x is x.path refl (λ p. HasDeclaredNameIn p e old) (of_old_name e in_set) in
      let c = named.is_at.counts in
      let one : c.field ≡ f = same_Some c.field f (sym c.counting.is_field.has_rank ∙ own.has_rank) in
      let at : spelled x c.field.file c.field.name ≡ old =
      subst (λ p. spelled x p.file p.index ≡ old) (sym named.is_at.named_at) named.called in
      not_old (sym own.named ∙ ap (λ (g : PlacedField). spelled x g.file g.name) (sym one) ∙ at)

  method_apart : (f : PlacedFunction) → IsMethodOf x definition other rank f → Contains h.rename.set (Method (symbol_in x rank)) → ⊥
  method_apart f own in_set =
      let e : Declaration = Method (symbol_in x rank) in
      let named : HasDeclaredNameIn x e old =
      of_one w known x is x.path refl (λ p. HasDeclaredNameIn p e old) (of_old_name e in_set) in
      let c = named.is_at.counts in
      let one : c.method ≡ f = same_Some c.method f (sym c.counting.is_method.has_rank ∙ own.has_rank) in
      let at : spelled x c.method.file c.method.function.name ≡ old =
      subst (λ p. spelled x p.file p.index ≡ old) (sym named.is_at.named_at) named.called in
      not_old (sym own.named ∙ ap (λ (g : PlacedFunction). spelled x g.file g.function.name) (sym one) ∙ at)

  field_stays : IsFieldAfter (revision_of w s) x definition other rank ↔ ((f : PlacedField) × IsFieldOf x definition other rank f)
  field_stays = (
    (λ k.
        let c = (fields w known d name s h x is definition other rank).0 k in (
          c.field,
          record {
            has_rank = c.has_rank;
            of_struct = c.of_struct;
            named = was_called (Field (symbol_in x rank)) (spelled x c.field.file c.field.name) c.called;
          },
        )),
    (λ k. (fields w known d name s h x is definition other rank).1 (record {
      field = k.0;
      has_rank = k.1.has_rank;
      of_struct = k.1.of_struct;
      called = keeps_name (field_apart k.0 k.1) (sym k.1.named);
    })),
  )

  method_stays : IsMethodAfter (revision_of w s) x definition other rank ↔ ((f : PlacedFunction) × IsMethodOf x definition other rank f)
  method_stays = (
    (λ k.
        let c = (methods w known d name s h x is definition other rank).0 k in (
          c.method,
          record {
            has_rank = c.has_rank;
            receiver = c.of_type.receiver;
            received = c.of_type.received;
            declaration = c.of_type.declaration;
            binds = c.of_type.binds;
            of_type = c.of_type.of_type;
            named = was_called (Method (symbol_in x rank)) (spelled x c.method.file c.method.function.name) c.called;
          },
        )),
    (λ k. (methods w known d name s h x is definition other rank).1 (record {
      method = k.0;
      has_rank = k.1.has_rank;
      of_type = record {
        receiver = k.1.receiver;
        received = k.1.received;
        declaration = k.1.declaration;
        binds = k.1.binds;
        of_type = k.1.of_type;
      };
      called = keeps_name (method_apart k.0 k.1) (sym k.1.named);
    })),
  )

pub other_fields : OtherFieldNamesStay
other_fields w known d name s h old other has not_old not_new x is definition rank =
    field_stays w known d name s h old other has not_old not_new x is definition rank

pub other_methods : OtherMethodNamesStay
other_methods w known d name s h old other has not_old not_new x is definition rank =
    method_stays w known d name s h old other has not_old not_new x is definition rank
