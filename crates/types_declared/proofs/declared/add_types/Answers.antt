-- The answers to the goals of `declared::add_types`.
use Rattle.std.proofs.Common.{arith, ap, sym}
use Rattle.std.specs.Prelude.{map}
use Rattle.go_ast.specs.View.{group_view}
use Rattle.go_ast.specs.FileView.{type_spec_view}
use Rattle.types_declared.specs.Files.{group_items}
use Rattle.types_declared.specs.Package.{placed_type}
use Rattle.types_declared.specs.DeclaredView.{type_of}
use Rattle.types_declared.proofs.Appending.{appends_as, appends_all, appends_next, call_appends}
use Rattle.types_declared.proofs.DeclaredParts.{type_part, types_from}
use Rattle.types_declared.proofs.declared.add_types.Goals as goal

pub returns-in-Single : goal.returns-in-Single
unfolding group_view
returns-in-Single c =
    call_appends type_of c.args.found.now.items c.add_type.new.found.items _ _ c.add_type.result c.add_type.ensures
    (ap (λ v. map (placed_type c.args.file) (group_items (group_view type_spec_view v))) (sym c.in-Single.is))

pub loop-item-preserved : goal.loop-item-preserved
loop-item-preserved c =
    appends_next type_of c.args.found.now.items c.loop-item.found.items c.add_type-in-loop-item.new.found.items (type_part c.args.file)
    c.deref-item-items.result.now c.loop-item.item-index
    c.item-item.result (omega arith) c.item-item.is c.loop-item.invariant c.in_ok-add_type-in-Several.ensures

pub returns-after-loop-item : goal.returns-after-loop-item
returns-after-loop-item c =
    appends_as type_of c.args.found.now.items c.loop-item.found.items _ _
    (appends_all type_of c.args.found.now.items c.loop-item.found.items (type_part c.args.file) c.deref-item-items.result.now c.loop-item.item-index
    (omega arith) c.loop-item.invariant)
    (types_from c.args.file c.args.group.now c.in-Several.«open» c.in-Several.items c.in-Several.close _ c.in-Several.is c.deref-item-items.ensures.value)
