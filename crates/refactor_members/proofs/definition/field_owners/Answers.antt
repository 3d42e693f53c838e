-- The answers to the goals of `definition::field_owners`.
use Rattle.std.proofs.Common.{ap, ◌∙◌, sym, map}
use Rattle.std.proofs.lemmas.Result.{IfOk-weaker}
use Rattle.std.proofs.lemmas.Simd.{map-map}
use Rattle.types_declared.specs.Definitions.{PlacedField}
use Rattle.types_members.specs.FieldsView.{field_of}
use Rattle.refactor_members.proofs.definition.field_owners.Goals as goal

pub returns : goal.returns
returns c =
    let fields = c.in_ok-fields.fields.items in
    IfOk-weaker c.definitions_of.result _ _
    (λ owners all. all ∙ sym (map-map (λ (f : PlacedField). f.definition) field_of fields) ∙
    ap (map (λ (f : PlacedField). f.definition)) c.in_ok-fields.ensures) c.definitions_of.ensures
