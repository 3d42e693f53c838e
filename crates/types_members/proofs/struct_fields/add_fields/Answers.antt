-- The answers to the goals of `struct_fields::add_fields`.
use Rattle.std.proofs.Common.{arith}
use Rattle.std.proofs.lemmas.Result.{on_ok_weaker}
use Rattle.types_members.specs.FieldsView.{field_of}
use Rattle.types_declared.proofs.Appending.{appends_none, appends_as, appends_all, appends_next}
use Rattle.types_members.proofs.FieldParts.{field_part, struct_from, none_from, interface_from}
use Rattle.types_members.proofs.struct_fields.add_fields.Goals as goal

pub returns-in-Type : goal.returns-in-Type
returns-in-Type c =
    appends_as field_of c.args.found.now.items c.args.found.now.items _ _ (appends_none field_of c.args.found.now.items)
    (none_from c.args.definition c.args.file c.args.spec.now.body c.in-Type.field-0 c.in-Type.is)

pub returns-in-Interface : goal.returns-in-Interface
returns-in-Interface c =
    on_ok_weaker c.add_asked.result
    (λ h. appends_as field_of c.args.found.now.items c.add_asked.new.found.items _ _ h
    (interface_from c.args.definition c.args.file c.args.spec.now.body c.in-Interface.at c.in-Interface.«open» c.in-Interface.methods c.in-Interface.close _
    c.in-Interface.is c.deref.ensures.value)) c.add_asked.ensures

pub loop-item-preserved : goal.loop-item-preserved
loop-item-preserved c =
    appends_next field_of c.args.found.now.items c.loop-item.found.items c.add_names.new.found.items (field_part c.args.definition c.args.file)
    c.deref-item-items.result.now c.loop-item.item-index
    c.item-item.result (omega arith) c.item-item.is c.loop-item.invariant c.in_ok-add_names-in-Struct.ensures

pub returns-after-loop-item : goal.returns-after-loop-item
returns-after-loop-item c =
    appends_as field_of c.args.found.now.items c.loop-item.found.items _ _
    (appends_all field_of c.args.found.now.items c.loop-item.found.items (field_part c.args.definition c.args.file) c.deref-item-items.result.now
    c.loop-item.item-index (omega arith) c.loop-item.invariant)
    (struct_from c.args.definition c.args.file c.args.spec.now.body c.in-Struct.at c.in-Struct.«open» c.in-Struct.fields c.in-Struct.close _ c.in-Struct.is
    c.deref-item-items.ensures.value)
