-- The answers to the goals of `struct_fields::add_names`.
use Rattle.std.proofs.Common.{arith}
use Rattle.types_members.specs.FieldsView.{placed_form, field_of}
use Rattle.types_declared.proofs.Appending.{appends_as, appends_all, appends_step, appends_one}
use Rattle.types_members.proofs.FieldParts.{name_part, names_from}
use Rattle.types_members.proofs.struct_fields.add_names.Goals as goal

pub loop-name-preserved : goal.loop-name-preserved
unfolding placed_form
loop-name-preserved c =
    appends_step field_of c.args.found.now.items c.loop-name.found.items c.push.new.self.items (name_part c.args.definition c.args.file c.args.field.now)
    c.deref-name-items.result.now c.loop-name.name-index _
    (omega arith) c.loop-name.invariant (appends_one field_of c.loop-name.found.items c.push.new.self.items _ c.in_ok-push.ensures.items)

pub returns : goal.returns
returns c =
    appends_as field_of c.args.found.now.items c.loop-name.found.items _ _
    (appends_all field_of c.args.found.now.items c.loop-name.found.items (name_part c.args.definition c.args.file c.args.field.now)
    c.deref-name-items.result.now c.loop-name.name-index (omega arith)
    c.loop-name.invariant)
    (names_from c.args.definition c.args.file c.args.field.now c.deref-name-items.result.now c.deref-name-items.ensures.value)
