-- The answers to the goals of `statements::add_header`.
use Rattle.std.proofs.Common.{[], ap, sym}
use Rattle.types_declared.proofs.ItemFaults.{each_none, each_as, then_each}
use Rattle.go_ast.specs.View.{option_view}
use Rattle.go_ast.specs.FileView.{simple_view, for_view}
use Rattle.types_declared.specs.Laid.{laid_in}
use Rattle.types_resolve.specs.StatementMarks.{IsFaultOfMark, optional_marks, for_marks}
use Rattle.types_resolve.proofs.statements.add_header.Goals as goal

pub returns-in_ok-add_optional-in-Clauses : goal.returns-in_ok-add_optional-in-Clauses
unfolding for_marks for_view
returns-in_ok-add_optional-in-Clauses c =
    then_each (IsFaultOfMark (laid_in c.args.scope.table.now) c.args.scope.rank) c.args.found.now.items c.add_optional.new.found.items
    c.add_optional-in-Clauses.new.found.items
    (optional_marks (option_view simple_view c.in-Clauses.init)) (optional_marks (option_view simple_view c.in-Clauses.post))
    (for_marks (for_view c.args.header.now)) c.add_optional-in-Clauses.result
    c.in_ok-add_optional-in-Clauses.ensures c.add_optional-in-Clauses.ensures (ap (λ v. for_marks (for_view v)) (sym c.in-Clauses.is))

pub returns-in-Forever : goal.returns-in-Forever
unfolding for_marks for_view
returns-in-Forever c =
    each_as (IsFaultOfMark (laid_in c.args.scope.table.now) c.args.scope.rank) c.args.found.now.items c.args.found.now.items [] _
    (each_none (IsFaultOfMark (laid_in c.args.scope.table.now) c.args.scope.rank) c.args.found.now.items)
    (ap (λ v. for_marks (for_view v)) (sym c.in-Forever.is))

pub returns-in-While : goal.returns-in-While
unfolding for_marks for_view
returns-in-While c =
    each_as (IsFaultOfMark (laid_in c.args.scope.table.now) c.args.scope.rank) c.args.found.now.items c.args.found.now.items [] _
    (each_none (IsFaultOfMark (laid_in c.args.scope.table.now) c.args.scope.rank) c.args.found.now.items)
    (ap (λ v. for_marks (for_view v)) (sym c.in-While.is))
