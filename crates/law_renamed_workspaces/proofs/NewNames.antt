-- The names of declared fields and methods in a renamed package are their names after the change.
use Rattle.std.proofs.Common.{ℕ, ◌≡◌, List, sym, subst, refl, ◌∙◌}
use Rattle.std.specs.Prelude.{◌↔◌, Some, slice_get}
use Rattle.base_files.specs.declared.place.Place.{Place}
use Rattle.base_files.specs.Workspace.{Workspace}
use Rattle.base_edits.specs.Revisions.{Revision}
use Rattle.go_ast.specs.SourceFile.{offset_of}
use Rattle.go_scope.specs.declared.model.Position.{Position}
use Rattle.types_declared.specs.Package.{Package, PlacedFunction, package_functions, function_place, spelled}
use Rattle.types_declared.specs.Definitions.{PlacedField, package_fields}
use Rattle.workspace_check.specs.Verdicts.{Verdicts}
use Rattle.refs_binding.specs.Binding.{field_place}
use Rattle.refs_binding.specs.DeclaringPlaces.{TokenBegins}
use Rattle.refs_binding.specs.Uses.{IsCheckedPackage}
use Rattle.refactor_conflict.specs.NamesAfter.{HasNameAfter}
use Rattle.law_faultless.proofs.LinksBound.{source_is}
use Rattle.law_renamed_workspaces.specs.Layouts.{IsToken, IsRelaid}
use Rattle.law_renamed_workspaces.proofs.RenamedMembersNameTokens.{IsNamedIn, named_token, field_name, function_name}

-- A name stands at the position, and begins at the place.
pub record StandsSomewhere (p : Package) (at : Position) : Type 0 where
  pub place : Place
  pub stands : IsToken p at place

module _ (w : Workspace) (known : Verdicts) (p : Package) (is : IsCheckedPackage w known p) where
  pub name_stands : (at : Position) → IsNamedIn p at.file at.index → StandsSomewhere p at
  name_stands at h =
      let place : Place = record { path = h.source.path; offset = offset_of h.source at.index } in
      record {
        place = place;
        stands = record {
          file = h.source;
          of_rank = h.in_file;
          is_name = named_token h.source (source_is w known p.path p is.is_checked at.file h.source h.in_file) at.index h.named;
          begins = subst (λ o. TokenBegins o at.index place) (sym h.in_file) (refl, refl);
        };
      }

  -- what is spelled there afterwards is the new name
  module _ (r : Revision) (q : Package) (relaid : IsRelaid r p q) where
    pub name_after : (at : Position) → IsNamedIn p at.file at.index → (name : List ℕ) → HasNameAfter r p at name ↔ (spelled q at.file at.index ≡ name)
    name_after at h name = (
      (λ k.
          let there = (name_stands at h).stands in
          relaid.tokens at k.place (record { file = there.file; of_rank = there.of_rank; is_name = there.is_name; begins = k.stands }) ∙ k.called),
      (λ e.
          let x = name_stands at h in record { place = x.place; stands = x.stands.begins; called = sym (relaid.tokens at x.place x.stands) ∙ e }),
    )

    pub field_called_after : (rank : ℕ) (f : PlacedField) → slice_get (package_fields p) rank ≡ Some f → (name : List ℕ) →
        HasNameAfter r p (field_place f) name ↔ (spelled q f.file f.name ≡ name)
    field_called_after rank f at name = name_after (field_place f) (field_name p rank f at) name

    pub function_called_after : (rank : ℕ) (f : PlacedFunction) → slice_get (package_functions p) rank ≡ Some f → (name : List ℕ) →
        HasNameAfter r p (function_place f) name ↔ (spelled q f.file f.function.name ≡ name)
    function_called_after rank f at name = name_after (function_place f) (function_name p rank f at) name
