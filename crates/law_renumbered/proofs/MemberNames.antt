-- The identifiers that declare fields and methods.
use Rattle.std.proofs.Common.{ℕ, ◌≡◌, List, Some, map, refl, sym, ap, ◌∙◌}
use Rattle.std.specs.Prelude.{slice_get}
use Rattle.std.specs.Option.{option_map}
use Rattle.std.proofs.lemmas.Option.{slice_get-map}
use Rattle.go_scope.specs.declared.model.Position.{Position}
use Rattle.go_scope.specs.Moves.{moved_place}
use Rattle.go_scope.specs.Table.{LiesAt}
use Rattle.types_declared.specs.Definitions.{IsCountingField, PlacedField, fields_from, package_fields}
use Rattle.types_declared.specs.Package.{Package, function_place, package_types}
use Rattle.refs_binding.specs.declared.declaration.Declaration.{Declaration}
use Rattle.refs_binding.specs.declared.declaration.Declaration.TheVariants.{Declared, Field, Method, Predeclared}
use Rattle.refs_binding.specs.Binding.{DeclaresMember, IsFieldAt, IsMethodAt}
use Rattle.law_changed_types.specs.RenumberedPackage.{IsRenumberedPackage, NewNumbers}
use Rattle.law_changed_types.proofs.RenumberedTypesAlike.{Half, Turned, TurnedIdentifiers}
use Rattle.law_changed_types.proofs.RenumberedTypesDefined.{field_named, is_field, is_method}
use Rattle.law_changed_types.proofs.RenumberedTypesListed.{fields_by, new_field, types_by}
use Rattle.law_changed_types.proofs.Numbered.{FollowsIdentifier, FollowsToken, back, there}
use Rattle.law_renumbered.specs.Bindings.{MemberNamesRenumber}

module _ (n : NewNumbers) (p q : Package) (a : IsRenumberedPackage n p q) where
  abbrev T : ℕ → ℕ → ℕ → Type 0
  T = FollowsToken n

  abbrev I : ℕ → ℕ → Type 0
  I = FollowsIdentifier n

  h : Half T I p q
  h = there n p q a

  k : Half (Turned T) (TurnedIdentifiers I) q p
  k = back n p q a

  -- fields

  fields_are : package_fields q ≡ map (new_field n.token) (package_fields p)
  fields_are = ap (fields_from 0) (types_by n.token p.files q.files a.files) ∙ fields_by n.token 0 (package_types p)

  field_there : (rank : ℕ) (f : PlacedField) → slice_get (package_fields p) rank ≡ Some f → slice_get (package_fields q) rank ≡ Some (new_field n.token f)
  field_there rank f at =
      ap (λ fs. slice_get fs rank) fields_are ∙ slice_get-map (new_field n.token) (package_fields p) rank ∙ ap (option_map (new_field n.token)) at

  counting_field : (definition : ℕ) (name : List ℕ) (rank : ℕ) (f : PlacedField) → IsCountingField p definition name rank f →
      IsCountingField q definition name rank (new_field n.token f)
  counting_field definition name rank f c = record {
    is_field = record {
      has_rank = field_there rank f c.is_field.has_rank;
      of_struct = c.is_field.of_struct;
      named = a.fields rank f c.is_field.has_rank ∙ c.is_field.named;
    };
    first = λ other g lt is. let old = is_field (Turned T) (TurnedIdentifiers I) q p k h definition name other g is in c.first other old.0 lt old.1;
  }

  field_at : (rank : ℕ) (at : Position) → IsFieldAt p rank at → IsFieldAt q rank (moved_place n.token at)
  field_at rank at x = record {
    counts = record {
      definition = x.counts.definition;
      name = x.counts.name;
      field = new_field n.token x.counts.field;
      counting = counting_field x.counts.definition x.counts.name rank x.counts.field x.counts.counting;
    };
    named_at = ap (moved_place n.token) x.named_at;
  }

  -- methods

  method_at : (rank : ℕ) (at : Position) → IsMethodAt p rank at → IsMethodAt q rank (moved_place n.token at)
  method_at rank at x =
      let c = x.counts.counting in
      let now = is_method T I p q h k x.counts.definition x.counts.name rank x.counts.method c.is_method in
      let place : function_place now.function ≡ moved_place n.token (function_place x.counts.method) =
      λ m. record { file = now.same.place.file m; index = now.same.place.index m } in
      record {
        counts = record {
          definition = x.counts.definition;
          name = x.counts.name;
          method = now.function;
          counting = record {
            is_method = now.is_method;
            no_field = λ has. c.no_field (field_named (Turned T) (TurnedIdentifiers I) q p k h x.counts.definition x.counts.name has);
            first = λ other g lt is.
                let old = is_method (Turned T) (TurnedIdentifiers I) q p k h x.counts.definition x.counts.name other g is in
                c.first other old.function lt old.is_method;
          };
        };
        named_at = place ∙ ap (moved_place n.token) x.named_at;
      }

  -- their names

  stands_there : (u : ℕ) (at : Position) → LiesAt p.layout at u → LiesAt q.layout (moved_place n.token at) (n.identifier u)
  stands_there u at is = h.lies at (moved_place n.token at) u (n.identifier u) (record { file = refl; index = refl }) refl is

  declared : (u : ℕ) (d : Declaration) → DeclaresMember p u d → DeclaresMember q (n.identifier u) d
  declared u (Predeclared d) x = x
  declared u (Declared path d) x = x
  declared u (Field s) x = (
    x.0 ∙ sym a.path,
    record { at = moved_place n.token x.1.at; is_at = field_at s.rank x.1.at x.1.is_at; stands = stands_there u x.1.at x.1.stands },
  )
  declared u (Method s) x = (
    x.0 ∙ sym a.path,
    record { at = moved_place n.token x.1.at; is_at = method_at s.rank x.1.at x.1.is_at; stands = stands_there u x.1.at x.1.stands },
  )

pub member_names_renumber : MemberNamesRenumber
member_names_renumber n p q a u d x = declared n p q a u d x
