-- The answers to the goals of `statements::add_init`.
use Rattle.std.proofs.Common.{ap, sym}
use Rattle.types_declared.proofs.ItemFaults.{call_each}
use Rattle.go_ast.specs.View.{option_view}
use Rattle.go_ast.specs.FileView.{simple_view, init_view}
use Rattle.types_declared.specs.Laid.{laid_in}
use Rattle.types_resolve.specs.StatementMarks.{IsFaultOfMark, optional_marks, init_marks}
use Rattle.types_resolve.proofs.statements.add_init.Goals as goal

pub returns-in-Some : goal.returns-in-Some
unfolding init_view
returns-in-Some c =
    call_each (IsFaultOfMark (laid_in c.args.scope.table.now) c.args.scope.rank) c.args.found.now.items c.add_optional.new.found.items
    (optional_marks (option_view simple_view c.in-Some.init.statement)) (init_marks (option_view init_view c.args.init.now)) c.add_optional.result
    c.add_optional.ensures
    (ap (λ v. init_marks (option_view init_view v)) (sym c.in-Some.is))
