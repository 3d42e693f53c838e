-- The answers to the goals of `simple::add_locals`.
use Rattle.std.proofs.Common.{ap, sym, arith}
use Rattle.go_scope.specs.IdentifierViews.{as_source}
use Rattle.go_scope.specs.StatementSites.{local_sites, group_sites}
use Rattle.go_scope.proofs.Adding.{adds_as, call_adds, each_step, each_all}
use Rattle.go_scope.proofs.StatementParts.{local_part, locals_from}
use Rattle.go_ast.specs.View.{group_view}
use Rattle.go_ast.specs.FileView.{local_view}
use Rattle.go_scope.proofs.simple.add_locals.Goals as goal

pub returns-in-Single : goal.returns-in-Single
unfolding group_sites group_view
returns-in-Single c = call_adds _ _ c.add_local.result c.add_local.ensures
    (ap (λ v. group_sites (local_sites (as_source c.args.source.now) c.args.block) c.args.following (group_view local_view v)) (sym c.in-Single.is))

pub returns-after-loop-item : goal.returns-after-loop-item
returns-after-loop-item c =
    adds_as (each_all (local_part (as_source c.args.source.now) c.args.block c.in-Several.close) c.deref-item-items.result.now c.loop-item.item-index
    (omega arith) c.loop-item.invariant)
    (locals_from _ c.args.block c.args.following c.args.group.now c.in-Several.«open» c.in-Several.items c.in-Several.close _ c.in-Several.is
    c.deref-item-items.ensures.value)

pub loop-item-preserved : goal.loop-item-preserved
loop-item-preserved c =
    each_step (local_part (as_source c.args.source.now) c.args.block c.in-Several.close) c.deref-item-items.result.now c.loop-item.item-index
    c.item-item.result (omega arith)
    c.item-item.is c.loop-item.invariant (adds_as c.in_ok-add_local-in-Several.ensures
    (ap (λ q. local_sites (as_source c.args.source.now) c.args.block q (local_view c.item-item.result.value)) c.unwrap_or-behind.ensures))
