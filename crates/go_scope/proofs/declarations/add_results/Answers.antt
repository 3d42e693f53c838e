-- The answers to the goals of `declarations::add_results`.
use Rattle.std.proofs.Common.{ap, sym, arith}
use Rattle.go_scope.specs.IdentifierViews.{as_source}
use Rattle.go_scope.proofs.Adding.{adds_none, adds_as, call_adds, each_step, each_all}
use Rattle.go_scope.specs.FileSites.{result_sites}
use Rattle.go_scope.proofs.FileParts.{type_part, results_from}
use Rattle.go_ast.specs.FileView.{results_view}
use Rattle.go_scope.proofs.declarations.add_results.Goals as goal

pub returns-in-None : goal.returns-in-None
unfolding result_sites results_view
returns-in-None c = adds_as (adds_none c.args.found.now.items) (ap (λ v. result_sites (as_source c.args.source.now) (results_view v)) (sym c.in-None.is))

pub returns-in-Single : goal.returns-in-Single
unfolding result_sites results_view
returns-in-Single c = call_adds _ _ c.add_type.result c.add_type.ensures
    (ap (λ v. result_sites (as_source c.args.source.now) (results_view v)) (sym c.in-Single.is))

pub returns-after-loop-item : goal.returns-after-loop-item
returns-after-loop-item c =
    adds_as (each_all (type_part (as_source c.args.source.now)) c.deref-item-items.result.now c.loop-item.item-index (omega arith) c.loop-item.invariant)
    (results_from _ c.args.results.now c.in-Several.«open» c.in-Several.types c.in-Several.close _ c.in-Several.is c.deref-item-items.ensures.value)

pub loop-item-preserved : goal.loop-item-preserved
loop-item-preserved c =
    each_step (type_part (as_source c.args.source.now)) c.deref-item-items.result.now c.loop-item.item-index c.item-item.result (omega arith)
    c.item-item.is c.loop-item.invariant c.in_ok-add_type-in-Several.ensures
