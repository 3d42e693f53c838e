-- One field more, and all of them at the end.
use Rattle.std.proofs.Common.{◌≡◌, ◌-◌, sym, ◌∙◌, arith, length}
use Rattle.build_object.proofs.Walking.{field_names, named, walked_next, walked_all, field_here, fields_behind}
use Rattle.build_object.proofs.walks.position_in_fields.Goals as goal

pub loop-field-preserved : goal.loop-field-preserved
loop-field-preserved c =
    let f = c.field-item.result in
    let all : length (field_names f) ≡ c.len-count.result = named f ∙ sym (c.len-count.ensures ∙ f.value.names.ok.0) in
    walked_next field_names c.args.fields.now c.loop-field.field-index f c.args.rank c.loop-field.rest
    (c.loop-field.rest - c.len-count.result) (omega arith) c.field-item.is c.loop-field.invariant (omega (arith, all, c.if-rest-count.false))

pub returns-then-rest-count : goal.returns-then-rest-count
returns-then-rest-count c =
    field_here c.args.fields.now c.loop-field.field-index c.field-item.result c.args.rank c.loop-field.rest (omega arith) c.field-item.is
    c.loop-field.invariant (let all : c.len-count.result ≡ length c.field-item.result.value.names.items = c.len-count.ensures ∙
    c.field-item.result.value.names.ok.0 in
    omega (arith, all, c.if-rest-count.true))

pub returns : goal.returns
returns c = fields_behind c.args.fields.now c.args.rank c.loop-field.rest
    (walked_all field_names c.args.fields.now c.loop-field.field-index c.args.rank c.loop-field.rest (omega arith) c.loop-field.invariant)
