-- The answers to the goals of `declared::add_variables`.
use Rattle.std.proofs.Common.{arith, ap, sym, ◌∙◌, append-nil}
use Rattle.std.specs.List.{flat_map}
use Rattle.go_ast.specs.View.{group_view}
use Rattle.go_ast.specs.FileView.{global_view}
use Rattle.types_declared.specs.Files.{group_items}
use Rattle.types_declared.specs.Package.{variables_of}
use Rattle.types_declared.specs.DeclaredView.{variable_of}
use Rattle.types_declared.proofs.Appending.{appends_as, appends_all, appends_next, call_appends}
use Rattle.types_declared.proofs.DeclaredParts.{spec_part, several_from}
use Rattle.types_declared.proofs.declared.add_variables.Goals as goal

pub returns-in-Single : goal.returns-in-Single
unfolding group_view
returns-in-Single c =
    call_appends variable_of c.args.found.now.items c.add_names.new.found.items _ _ c.add_names.result c.add_names.ensures
    (sym (append-nil _) ∙ ap (λ v. flat_map (variables_of c.args.file) (group_items (group_view global_view v))) (sym c.in-Single.is))

pub loop-item-preserved : goal.loop-item-preserved
loop-item-preserved c =
    appends_next variable_of c.args.found.now.items c.loop-item.found.items c.add_names-in-loop-item.new.found.items (spec_part c.args.file)
    c.deref-item-items.result.now c.loop-item.item-index
    c.item-item.result (omega arith) c.item-item.is c.loop-item.invariant c.in_ok-add_names-in-Several.ensures

pub returns-after-loop-item : goal.returns-after-loop-item
returns-after-loop-item c =
    appends_as variable_of c.args.found.now.items c.loop-item.found.items _ _
    (appends_all variable_of c.args.found.now.items c.loop-item.found.items (spec_part c.args.file) c.deref-item-items.result.now c.loop-item.item-index
    (omega arith) c.loop-item.invariant)
    (several_from (variables_of c.args.file) global_view c.args.group.now c.in-Several.«open» c.in-Several.items c.in-Several.close _ c.in-Several.is
    c.deref-item-items.ensures.value)
