-- The answers to the goals of `own_name::declaration_by_name`.
use Rattle.std.proofs.Common.{ap, sym, subst, ◌∙◌}
use Rattle.std.proofs.lemmas.Result.{IfOk-weaker}
use Rattle.go_scope.specs.Bindings.{is_implied}
use Rattle.types_declared.specs.PackageView.{package_of}
use Rattle.refs_binding.specs.Steps.{IsDeclarationResult, DeclaresField}
use Rattle.refs_binding.proofs.NamedPlaces.{unnamed, found_name, as_field}
use Rattle.refs_lookup.proofs.own_name.declaration_by_name.Goals as goal

pub own_field-requires-clause-stands : goal.own_field-requires-clause-stands
own_field-requires-clause-stands c = ap is_implied (sym c.role.ensures) ∙ sym c.is_implied.ensures ∙ c.if-is_implied.false

pub own_method-requires-clause-stands : goal.own_method-requires-clause-stands
own_method-requires-clause-stands c = ap is_implied (sym c.role.ensures) ∙ sym c.is_implied.ensures ∙ c.if-is_implied.false

pub returns-then-is_implied : goal.returns-then-is_implied
returns-then-is_implied c = unnamed (package_of c.args.unit) c.args.u (ap is_implied (sym c.role.ensures) ∙ sym c.is_implied.ensures ∙ c.if-is_implied.true)

pub returns-in-None : goal.returns-in-None
returns-in-None c =
    let p = package_of c.args.unit in
    IfOk-weaker c.own_method.result _ _
    (λ o h. found_name p c.args.u o (subst (IsDeclarationResult (DeclaresField p c.args.u)) c.in-None.is c.in_ok-own_field.ensures) h) c.own_method.ensures

pub returns-in-Some : goal.returns-in-Some
returns-in-Some c =
    let p = package_of c.args.unit in
    as_field p c.args.u c.in-Some.declaration (subst (IsDeclarationResult (DeclaresField p c.args.u)) c.in-Some.is c.in_ok-own_field.ensures)
