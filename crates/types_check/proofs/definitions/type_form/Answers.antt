-- The answers to the goals of `definitions::type_form`.
use Rattle.std.proofs.Common.{subst}
use Rattle.std.specs.Prelude.{None, Some, option_map}
use Rattle.go_ast.specs.View.{type_view}
use Rattle.types_expr.specs.View.{form_of, type_of}
use Rattle.types_declared.specs.PackageView.{package_of}
use Rattle.types_declared.specs.WrittenView.{IsTypeFound}
use Rattle.types_check.proofs.Building.{type_written}
use Rattle.types_check.proofs.definitions.type_form.Goals as goal

pub returns-in-None : goal.returns-in-None
returns-in-None c =
    let p = package_of c.args.of.now.pkg in
    let x = type_view c.args.written.now in
    type_written p c.args.file x None (subst (λ o. IsTypeFound p c.args.file x (option_map type_of o)) c.in-None.is c.in_ok-valid_type.ensures)

pub returns-in-Some : goal.returns-in-Some
unfolding form_of
returns-in-Some c =
    let p = package_of c.args.of.now.pkg in
    let x = type_view c.args.written.now in
    type_written p c.args.file x (Some (type_of c.in-Some.own))
    (subst (λ o. IsTypeFound p c.args.file x (option_map type_of o)) c.in-Some.is c.in_ok-valid_type.ensures)
