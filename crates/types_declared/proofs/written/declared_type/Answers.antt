-- The answers to the goals of `written::declared_type`.
use Rattle.std.proofs.Common.{sym, subst}
use Rattle.types_expr.specs.View.{type_of}
use Rattle.types_declared.specs.PackageView.{package_of}
use Rattle.types_declared.specs.WrittenView.{DeclaresPlain, predeclared, defined}
use Rattle.types_declared.proofs.WrittenTypes.{declares_none}
use Rattle.types_declared.proofs.written.declared_type.Goals as goal

pub returns-in-Some : goal.returns-in-Some
unfolding type_of
returns-in-Some c = predeclared c.in-Some.basic c.in-Some.ensures

pub returns-in-None : goal.returns-in-None
returns-in-None c = declares_none (package_of c.args.pkg) c.args.d c.in_default.ensures c.in-None.ensures

pub returns-in_ok-defined_type-in-Some-definition : goal.returns-in_ok-defined_type-in-Some-definition
returns-in_ok-defined_type-in-Some-definition c =
    subst (DeclaresPlain (package_of c.args.pkg) c.args.d) (sym c.in_ok-defined_type-in-Some-definition.ensures)
    (defined {rank = c.in-Some-definition.rank} c.in-Some-definition.ensures)
