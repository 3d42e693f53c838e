-- The answers to the goals of `names::add_fields`.
use Rattle.std.proofs.Common.{◌≡◌, ◌-◌, ◌++◌, ◌∙◌, ap, arith, length}
use Rattle.go_ast.specs.FileView.{field_view}
use Rattle.build_object.specs.Names.{positions_from}
use Rattle.build_object.proofs.NameParts.{fields_within, fields_step, fields_end, struct_names}
use Rattle.build_object.proofs.names.add_fields.Goals as goal

pub loop-field-preserved : goal.loop-field-preserved
loop-field-preserved c = record {
  within = fields_within c.len-begin.result _ c.loop-field.positions.items c.add_field.new.positions.items (field_view c.field-item.result.value).names
      c.loop-field.invariant.within c.in_ok-add_field.ensures;
  rest = fields_step c.len-begin.result c.loop-field.positions.items c.add_field.new.positions.items _ c.args.fields.now c.loop-field.field-index
      c.field-item.result c.loop-field.invariant.within c.loop-field-test.true
      c.field-item.is c.loop-field.invariant.rest c.in_ok-add_field.ensures;
}

pub returns : goal.returns
returns c =
    let none : length c.args.positions.now.items - c.len-begin.result ≡ 0 = omega (arith, c.len-begin.ensures, c.args.positions.now.ok.0) in
    fields_end c.len-begin.result c.loop-field.positions.items _ c.args.fields.now c.loop-field.field-index c.loop-field-test.false c.loop-field.invariant.rest
    ∙ ap (λ k. c.args.positions.now.items ++ positions_from k (struct_names c.args.fields.now)) none
