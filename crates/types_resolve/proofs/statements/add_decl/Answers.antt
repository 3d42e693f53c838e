-- The answers to the goals of `statements::add_decl`.
use Rattle.std.proofs.Common.{[], ap, sym, false}
use Rattle.types_declared.proofs.ItemFaults.{each_none, each_as, call_each}
use Rattle.go_ast.specs.FileView.{block_view, func_view, decl_view}
use Rattle.types_declared.specs.Laid.{laid_in}
use Rattle.types_resolve.specs.StatementMarks.{IsFaultOfMark, block_marks, decl_marks}
use Rattle.types_resolve.proofs.statements.add_decl.Goals as goal

pub returns-in-Var : goal.returns-in-Var
unfolding decl_marks decl_view
returns-in-Var c = each_as (IsFaultOfMark (laid_in c.args.scope.table.now) c.args.scope.rank) c.args.found.now.items c.args.found.now.items [] _
    (each_none (IsFaultOfMark (laid_in c.args.scope.table.now) c.args.scope.rank) c.args.found.now.items) (ap (λ v. decl_marks (decl_view v)) (sym c.in-Var.is))

pub returns-in-Type : goal.returns-in-Type
unfolding decl_marks decl_view
returns-in-Type c = each_as (IsFaultOfMark (laid_in c.args.scope.table.now) c.args.scope.rank) c.args.found.now.items c.args.found.now.items [] _
    (each_none (IsFaultOfMark (laid_in c.args.scope.table.now) c.args.scope.rank) c.args.found.now.items)
    (ap (λ v. decl_marks (decl_view v)) (sym c.in-Type.is))

pub returns-in-Func : goal.returns-in-Func
unfolding decl_marks decl_view func_view
returns-in-Func c =
    call_each (IsFaultOfMark (laid_in c.args.scope.table.now) c.args.scope.rank) c.args.found.now.items c.add_block.new.found.items
    (block_marks false (block_view c.in-Func.func.body)) _ c.add_block.result c.add_block.ensures (ap (λ v. decl_marks (decl_view v)) (sym c.in-Func.is))
