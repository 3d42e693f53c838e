-- The answers to the goals of `meanings::universe_bound`.
use Rattle.std.proofs.Common.{◌∙◌, sym, ap}
use Rattle.std.specs.Prelude.{option_map}
use Rattle.types_expr.specs.WorldView.{bound_of}
use Rattle.go_scope.specs.Bindings.{is_implied}
use Rattle.types_declared.specs.PackageView.{package_of}
use Rattle.types_info.proofs.DeclaredMeanings.{universe_meaning, no_universe_meaning}
use Rattle.types_info.proofs.meanings.universe_bound.Goals as goal

pub returns-then-is_implied : goal.returns-then-is_implied
returns-then-is_implied c =
    universe_meaning (package_of c.args.pkg) c.args.d c.name.result.now (option_map bound_of c.predeclared.result) c.requires.universe
    (ap is_implied (sym c.role.ensures) ∙ sym c.is_implied.ensures ∙ c.if-is_implied.true) c.name.ensures c.predeclared.ensures

pub returns-else-is_implied : goal.returns-else-is_implied
returns-else-is_implied c =
    no_universe_meaning (package_of c.args.pkg) c.args.d c.requires.universe
    (ap is_implied (sym c.role.ensures) ∙ sym c.is_implied.ensures ∙ c.if-is_implied.false)
