-- How fields and methods are spelled in a package after a plain rename: the renamed ones have the new name, and each other one keeps its name.
use Rattle.std.proofs.Common.{ℕ, ◌≡◌, List, refl, sym, subst, ◌∙◌}
use Rattle.std.specs.Prelude.{Contains, Some, slice_get}
use Rattle.std.proofs.lemmas.Option.{same_Some}
use Rattle.base_edits.specs.EditSet.{FileChanges}
use Rattle.base_edits.specs.RevisionsOfEdits.{revision_of}
use Rattle.base_files.specs.Workspace.{Workspace}
use Rattle.types_declared.specs.Definitions.{PlacedField, package_fields}
use Rattle.types_declared.specs.Package.{Package, PlacedFunction, package_functions, symbol_in, spelled}
use Rattle.types_members.specs.MethodsView.{IsOwner}
use Rattle.workspace_check.specs.Verdicts.{Verdicts}
use Rattle.refs_binding.specs.declared.declaration.Declaration.{Declaration}
use Rattle.refs_binding.specs.declared.declaration.Declaration.TheVariants.{Field, Method}
use Rattle.refs_binding.specs.Uses.{IsCheckedPackage}
use Rattle.law_renamed_workspaces.specs.Layouts.{IsRelaid}
use Rattle.law_renamed_workspaces.specs.NamesAfterwards.{IsCalledAfter, gets_name, keeps_name}
use Rattle.law_renamed_workspaces.specs.Renames.{IsPlainRename}
use Rattle.law_renamed_workspaces.proofs.Called.{fields, methods}
use Rattle.law_renamed_workspaces.proofs.NewNames.{field_called_after, function_called_after}

-- a renamed member has the new name, and another one keeps its own
pub renamed_so : (set : List Declaration) (name : List ℕ) (e : Declaration) (old new : List ℕ) → IsCalledAfter set name e old new → Contains set e → new ≡ name
renamed_so set name e old new (gets_name in_set called) has = called
renamed_so set name e old new (keeps_name away kept) has = absurd (away has)

pub kept_so : (set : List Declaration) (name : List ℕ) (e : Declaration) (old new : List ℕ) → IsCalledAfter set name e old new →
    (Contains set e → ⊥) → new ≡ old
kept_so set name e old new (gets_name in_set called) none = absurd (none in_set)
kept_so set name e old new (keeps_name away kept) none = kept

module _ (w : Workspace) (known : Verdicts) (d : Declaration) (name : List ℕ) (s : FileChanges) (h : IsPlainRename w known d name s) (p q : Package)
    (is : IsCheckedPackage w known p) (relaid : IsRelaid (revision_of w s) p q) (rank : ℕ) where
  abbrev set : List Declaration
  set = h.rename.set

  pub field_now : (f : PlacedField) → slice_get (package_fields p) rank ≡ Some f →
      IsCalledAfter h.rename.set name (Field (symbol_in p rank)) (spelled p f.file f.name) (spelled q f.file f.name)
  field_now f at =
      let now = spelled q f.file f.name in
      let k = (fields w known d name s h p is f.definition now rank).0 (record {
        field = f;
        has_rank = at;
        of_struct = refl;
        called = (field_called_after w known p is (revision_of w s) q relaid rank f at now).1 refl;
      }) in
      subst (λ (g : PlacedField). IsCalledAfter set name (Field (symbol_in p rank)) (spelled p g.file g.name) now)
      (same_Some k.field f (sym k.has_rank ∙ at)) k.called

  pub method_now : (f : PlacedFunction) → slice_get (package_functions p) rank ≡ Some f → (definition : ℕ) → IsOwner p f definition →
      IsCalledAfter h.rename.set name (Method (symbol_in p rank)) (spelled p f.file f.function.name) (spelled q f.file f.function.name)
  method_now f at definition owner =
      let now = spelled q f.file f.function.name in
      let k = (methods w known d name s h p is definition now rank).0 (record {
        method = f;
        has_rank = at;
        of_type = owner;
        called = (function_called_after w known p is (revision_of w s) q relaid rank f at now).1 refl;
      }) in
      subst (λ (g : PlacedFunction). IsCalledAfter set name (Method (symbol_in p rank)) (spelled p g.file g.function.name) now)
      (same_Some k.method f (sym k.has_rank ∙ at)) k.called
