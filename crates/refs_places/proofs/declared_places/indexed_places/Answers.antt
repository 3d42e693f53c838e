-- The answers to the goals of `declared_places::indexed_places`.
use Rattle.std.proofs.Common.{refl}
use Rattle.std.specs.Prelude.{map}
use Rattle.go_ast.specs.SourceFile.{source_of}
use Rattle.types_declared.specs.PackageView.{package_of}
use Rattle.refs_binding.specs.Binding.{IsFieldAt, IsMethodAt}
use Rattle.refs_binding.proofs.NamedPlaces.{one_field_place, one_method_place}
use Rattle.refs_binding.specs.DeclaringPlaces.{IsScopeAt}
use Rattle.refs_places.proofs.Declared.{ranked, one_scope_place}
use Rattle.refs_places.proofs.declared_places.indexed_places.Goals as goal

pub returns : goal.returns
returns c =
    let p = package_of c.args.unit in
    let files = map source_of c.args.unit.files.now in
    record {
      names = ranked (IsScopeAt p) p files c.in_ok-names.names.items c.deref.result.now c.in_ok-places_of.field-0.items (one_scope_place p) refl
          c.deref.ensures.value c.in_ok-names.ensures c.in_ok-places_of.ensures;
      fields = ranked (IsFieldAt p) p files c.in_ok-fields.fields.items c.deref-2.result.now c.in_ok-places_of-2.field-0.items (one_field_place p) refl
          c.deref-2.ensures.value c.in_ok-fields.ensures c.in_ok-places_of-2.ensures;
      methods = ranked (IsMethodAt p) p files c.in_ok-methods.methods.items c.deref-3.result.now c.in_ok-places_of-3.field-0.items (one_method_place p) refl
          c.deref-3.ensures.value c.in_ok-methods.ensures c.in_ok-places_of-3.ensures;
    }
