-- The answers to the goals of `packages::function_walked`.
use Rattle.std.proofs.Common.{map, ap, sym, ◌∙◌, Some}
use Rattle.go_ast.specs.SourceFile.{source_of}
use Rattle.types_declared.specs.DeclaredView.{function_of as placed_function}
use Rattle.types_declared.specs.Package.{declared_functions}
use Rattle.build_object.specs.LineView.{function_of}
use Rattle.build_object.proofs.Walking.{unnamed_at, initializer_found, called_found}
use Rattle.build_object.proofs.packages.function_walked.Goals as goal

pub returns-in-None : goal.returns-in-None
returns-in-None c = let files = map source_of c.args.files.now in unnamed_at c.args.path.now files (declared_functions files) c.args.rank c.in-None.ensures

pub returns-then-is_initializer : goal.returns-then-is_initializer
unfolding function_of
returns-then-is_initializer c =
    let files = map source_of c.args.files.now in
    initializer_found c.args.path.now files (declared_functions files) c.args.rank (placed_function c.in-Some.function) (sym c.in-Some.ensures)
    c.initializers_below-number.result
    (sym c.is_initializer.ensures ∙ c.if-is_initializer.true) c.initializers_below-number.ensures

pub returns-else-is_initializer : goal.returns-else-is_initializer
returns-else-is_initializer c =
    let files = map source_of c.args.files.now in
    ap Some c.function_called.ensures
    ∙ called_found c.args.path.now files (declared_functions files) c.args.rank (placed_function c.in-Some.function) (sym c.in-Some.ensures)
    (sym c.is_initializer.ensures ∙ c.if-is_initializer.false)
