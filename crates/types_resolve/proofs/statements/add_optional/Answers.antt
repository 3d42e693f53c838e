-- The answers to the goals of `statements::add_optional`.
use Rattle.std.proofs.Common.{ap, sym}
use Rattle.types_declared.proofs.ItemFaults.{call_each}
use Rattle.go_ast.specs.View.{option_view}
use Rattle.go_ast.specs.FileView.{simple_view}
use Rattle.types_declared.specs.Laid.{laid_in}
use Rattle.types_resolve.specs.StatementMarks.{IsFaultOfMark, simple_marks, optional_marks}
use Rattle.types_resolve.proofs.statements.add_optional.Goals as goal

pub returns-in-Some : goal.returns-in-Some
returns-in-Some c =
    call_each (IsFaultOfMark (laid_in c.args.scope.table.now) c.args.scope.rank) c.args.found.now.items c.add_simple.new.found.items
    (simple_marks (simple_view c.in-Some.simple)) (optional_marks (option_view simple_view c.args.statement.now)) c.add_simple.result c.add_simple.ensures
    (ap (λ v. optional_marks (option_view simple_view v)) (sym c.in-Some.is))
