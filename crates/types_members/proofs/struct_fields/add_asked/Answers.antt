-- The answers to the goals of `struct_fields::add_asked`.
use Rattle.std.proofs.Common.{arith}
use Rattle.go_ast.specs.FileView.{method_view}
use Rattle.types_members.specs.FieldsView.{placed_form, field_of}
use Rattle.types_declared.proofs.Appending.{appends_as, appends_all, appends_next, appends_one}
use Rattle.types_members.proofs.FieldParts.{asked_part, asked_from}
use Rattle.types_members.proofs.struct_fields.add_asked.Goals as goal

pub loop-item-preserved : goal.loop-item-preserved
unfolding method_view placed_form
loop-item-preserved c =
    appends_next field_of c.args.found.now.items c.loop-item.found.items c.push.new.self.items (asked_part c.args.definition c.args.file)
    c.args.methods.now c.loop-item.item-index c.item-item.result (omega arith) c.item-item.is c.loop-item.invariant
    (appends_one field_of c.loop-item.found.items c.push.new.self.items _ c.in_ok-push.ensures.items)

pub returns : goal.returns
returns c =
    appends_as field_of c.args.found.now.items c.loop-item.found.items _ _
    (appends_all field_of c.args.found.now.items c.loop-item.found.items (asked_part c.args.definition c.args.file) c.args.methods.now
    c.loop-item.item-index (omega arith) c.loop-item.invariant) (asked_from c.args.definition c.args.file c.args.methods.now)
