-- The answers to the goals of `declarations::add_body`.
use Rattle.std.proofs.Common.{ap, sym, arith}
use Rattle.go_scope.specs.IdentifierViews.{as_source}
use Rattle.go_scope.proofs.Adding.{adds_as, call_adds, each_step, each_all}
use Rattle.go_scope.specs.FileSites.{body_sites}
use Rattle.go_scope.proofs.FileParts.{field_part, struct_from, interface_from}
use Rattle.go_ast.specs.FileView.{body_view}
use Rattle.go_scope.proofs.declarations.add_body.Goals as goal

pub returns-in-Type : goal.returns-in-Type
unfolding body_sites body_view
returns-in-Type c = call_adds _ _ c.add_type.result c.add_type.ensures (ap (λ v. body_sites (as_source c.args.source.now) (body_view v)) (sym c.in-Type.is))

pub returns-after-loop-item : goal.returns-after-loop-item
returns-after-loop-item c =
    adds_as (each_all (field_part (as_source c.args.source.now)) c.deref-item-items.result.now c.loop-item.item-index (omega arith) c.loop-item.invariant)
    (struct_from _ c.args.body.now c.in-Struct.at c.in-Struct.«open» c.in-Struct.fields c.in-Struct.close _ c.in-Struct.is c.deref-item-items.ensures.value)

pub loop-item-preserved : goal.loop-item-preserved
loop-item-preserved c =
    each_step (field_part (as_source c.args.source.now)) c.deref-item-items.result.now c.loop-item.item-index c.item-item.result (omega arith)
    c.item-item.is c.loop-item.invariant c.in_ok-add_field-in-Struct.ensures

pub returns-in-Interface : goal.returns-in-Interface
returns-in-Interface c = call_adds _ _ c.add_methods.result c.add_methods.ensures
    (interface_from _ c.args.body.now c.in-Interface.at c.in-Interface.«open» c.in-Interface.methods c.in-Interface.close _ c.in-Interface.is
    c.deref.ensures.value)
