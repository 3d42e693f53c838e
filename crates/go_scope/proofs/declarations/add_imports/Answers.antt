-- The answers to the goals of `declarations::add_imports`.
use Rattle.std.proofs.Common.{ap, sym, arith}
use Rattle.go_scope.specs.IdentifierViews.{as_source}
use Rattle.go_scope.proofs.Adding.{adds_as, call_adds, each_all}
use Rattle.go_scope.specs.StatementSites.{group_sites}
use Rattle.go_scope.specs.FileSites.{spec_sites, import_sites, imports_sites}
use Rattle.go_scope.proofs.FileParts.{import_part, spec_from}
use Rattle.go_ast.specs.View.{group_view}
use Rattle.go_ast.specs.FileView.{import_view, imports_view}
use Rattle.go_scope.proofs.declarations.add_imports.Goals as goal

pub returns-in-Single : goal.returns-in-Single
unfolding group_sites group_view imports_sites imports_view
returns-in-Single c = call_adds _ _ c.add_import_spec.result c.add_import_spec.ensures
    (ap (λ v. spec_sites (import_sites (as_source c.args.source.now)) (group_view import_view v)) (sym c.in-Single.is))

pub returns-after-loop-item : goal.returns-after-loop-item
unfolding imports_sites imports_view
returns-after-loop-item c =
    adds_as (each_all (import_part (as_source c.args.source.now)) c.deref-item-items.result.now c.loop-item.item-index (omega arith) c.loop-item.invariant)
    (spec_from (import_sites (as_source c.args.source.now)) import_view c.args.decl.now.group c.in-Several.«open» c.in-Several.items c.in-Several.close _
    c.in-Several.is c.deref-item-items.ensures.value)
