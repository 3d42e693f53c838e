-- The fields and methods that have a name before a rename, as the old definitions have them.
use Rattle.std.proofs.Common.{ℕ, ◌≡◌, List, ap, sym, subst, refl, ◌∙◌}
use Rattle.std.specs.Prelude.{Option, Some, None, option_map, slice_get}
use Rattle.std.proofs.lemmas.Option.{none-some}
use Rattle.types_expr.specs.declared.world.Definition.{Definition}
use Rattle.types_expr.specs.Types.{WrittenAs}
use Rattle.types_expr.specs.World as plain
use Rattle.types_expr.specs.WorldView.{definition_or_none}
use Rattle.types_declared.specs.Package.{Package, PlacedType, PlacedFunction, package_types, symbol_in}
use Rattle.types_declared.specs.Definitions.{PlacedField, package_fields, IsFieldOf, IsCountingField, IsMethodOf, IsCountingMethod, IsFoundField, IsFoundMethod}
use Rattle.types_declared.specs.Definitions.{HasUnderlying, HasForm}
use Rattle.types_expr.specs.Types.{Defined}
use Rattle.types_declared.proofs.OneUnderlying.{none_beyond}
use Rattle.refs_binding.specs.Members.{AreOwnDefinitions}
use Rattle.refactor_conflict.proofs.Structs.{field_written}
use Rattle.refactor_members.specs.Naming.{HasField, HasMethod, IsFirstOld}

-- In a package without faults each field and each method counts, and each field has a type.
pub record AllCount (p : Package) : Type 0 where
  pub fields : (definition : ℕ) (name : List ℕ) (rank : ℕ) (f : PlacedField) → IsFieldOf p definition name rank f → IsCountingField p definition name rank f
  pub typed : (rank : ℕ) (f : PlacedField) → slice_get (package_fields p) rank ≡ Some f → ((t : WrittenAs) → HasForm p f.file f.form t → ⊥) → ⊥
  pub methods : (definition : ℕ) (name : List ℕ) (rank : ℕ) (f : PlacedFunction) → IsMethodOf p definition name rank f →
      IsCountingMethod p definition name rank f

abbrev pub rank_of_field : plain.Definition → List ℕ → Option ℕ
rank_of_field d name = option_map (λ f. f.symbol.rank) (d.field name)

abbrev pub rank_of_method : plain.Definition → List ℕ → Option ℕ
rank_of_method d name = option_map (λ x. x.symbol.rank) (d.method name)

-- A field of a definition beyond those of the package.
pub no_field_beyond : (p : Package) (definition : ℕ) → slice_get (package_types p) definition ≡ None → (rank : ℕ) (f : PlacedField) →
    slice_get (package_fields p) rank ≡ Some f → f.definition ≡ definition → ⊥
no_field_beyond p definition none rank f has of =
    let u = field_written p rank f has in none_beyond p definition none u.0 (subst (λ n. HasUnderlying p (Defined (symbol_in p n)) u.0) of u.1)

module _ (p : Package) (all : AllCount p) (name : List ℕ) (definition : ℕ) where
  field_found : (o : Option plain.Field) → IsFoundField p definition name o → IsFirstOld (HasField p definition name) (option_map (λ f. f.symbol.rank) o)
  field_found None none = λ rank h. all.typed rank h.0 h.1.has_rank (λ t is. none rank h.0 t (all.fields definition name rank h.0 h.1) is)
  field_found (Some x) h = record { has = (h.0, h.1.0.is_field); first = λ other lt g. h.1.0.first other g.0 lt g.1 }

  method_found : (o : Option plain.Method) → IsFoundMethod p definition name o → IsFirstOld (HasMethod p definition name) (option_map (λ x. x.symbol.rank) o)
  method_found None none = λ rank h. none rank h.0 (all.methods definition name rank h.0 h.1)
  method_found (Some x) h = record { has = (h.0, h.1.is_method); first = λ other lt g. h.1.first other g.0 lt g.1 }

  module _ (own : List Definition) (are : AreOwnDefinitions p own) where
    abbrev here : plain.Definition
    here = definition_or_none (symbol_in p definition) (slice_get own definition)

    pub old_field_found : IsFirstOld (HasField p definition name) (rank_of_field here name)
    old_field_found = by_rank (slice_get (package_types p) definition) refl
      where
        by_rank : (o : Option PlacedType) → slice_get (package_types p) definition ≡ o → IsFirstOld (HasField p definition name) (rank_of_field here name)
        by_rank (Some d) e = field_found (here.field name) ((are.each definition d e).fields name)
        by_rank None e =
            let none : rank_of_field here name ≡ None = ap (λ (x : plain.Definition). rank_of_field x name) (are.beyond definition e) in
            subst (IsFirstOld (HasField p definition name)) (sym none) (λ rank h. no_field_beyond p definition e rank h.0 h.1.has_rank h.1.of_struct)

    pub old_method_found : IsFirstOld (HasMethod p definition name) (rank_of_method here name)
    old_method_found = by_rank (slice_get (package_types p) definition) refl
      where
        by_rank : (o : Option PlacedType) → slice_get (package_types p) definition ≡ o → IsFirstOld (HasMethod p definition name) (rank_of_method here name)
        by_rank (Some d) e = method_found (here.method name) ((are.each definition d e).methods name)
        by_rank None e =
            let none : rank_of_method here name ≡ None = ap (λ (x : plain.Definition). rank_of_method x name) (are.beyond definition e) in
            subst (IsFirstOld (HasMethod p definition name)) (sym none) (λ rank h. none-some h.1.of_type.item (sym e ∙ h.1.of_type.has_rank))
