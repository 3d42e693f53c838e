-- The answers to the goals of `declarations::add_type_specs`.
use Rattle.std.proofs.Common.{ap, sym, arith}
use Rattle.go_scope.specs.IdentifierViews.{as_source}
use Rattle.go_scope.proofs.Adding.{adds_as, call_adds, each_step, each_all}
use Rattle.go_scope.specs.StatementSites.{group_sites}
use Rattle.go_scope.specs.FileSites.{spec_sites, type_spec_sites}
use Rattle.go_scope.proofs.FileParts.{type_spec_part, spec_from}
use Rattle.go_ast.specs.View.{group_view}
use Rattle.go_ast.specs.FileView.{type_spec_view}
use Rattle.go_scope.proofs.declarations.add_type_specs.Goals as goal

pub returns-in-Single : goal.returns-in-Single
unfolding group_sites group_view
returns-in-Single c = call_adds _ _ c.add_type_spec.result c.add_type_spec.ensures
    (ap (λ v. spec_sites (type_spec_sites (as_source c.args.source.now)) (group_view type_spec_view v)) (sym c.in-Single.is))

pub returns-after-loop-item : goal.returns-after-loop-item
returns-after-loop-item c =
    adds_as (each_all (type_spec_part (as_source c.args.source.now)) c.deref-item-items.result.now c.loop-item.item-index (omega arith) c.loop-item.invariant)
    (spec_from (type_spec_sites (as_source c.args.source.now)) type_spec_view c.args.group.now c.in-Several.«open» c.in-Several.items c.in-Several.close _
    c.in-Several.is c.deref-item-items.ensures.value)

pub loop-item-preserved : goal.loop-item-preserved
loop-item-preserved c =
    each_step (type_spec_part (as_source c.args.source.now)) c.deref-item-items.result.now c.loop-item.item-index c.item-item.result (omega arith)
    c.item-item.is c.loop-item.invariant c.in_ok-add_type_spec-in-Several.ensures
