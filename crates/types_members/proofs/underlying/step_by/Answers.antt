-- The answers to the goals of `underlying::step_by`.
use Rattle.std.proofs.Common.{subst}
use Rattle.std.specs.Prelude.{Some, option_map}
use Rattle.std.proofs.lemmas.Result.{IfOk-weaker}
use Rattle.go_ast.specs.View.{type_view}
use Rattle.types_expr.specs.View.{type_of}
use Rattle.types_declared.specs.PackageView.{package_of}
use Rattle.types_declared.specs.WrittenView.{IsNamedBy}
use Rattle.types_members.proofs.Steps.{by_nothing, by_type}
use Rattle.types_members.proofs.underlying.step_by.Goals as goal

pub returns-in-None : goal.returns-in-None
returns-in-None c =
    let p = package_of c.args.pkg in
    let tree = type_view c.args.written.now in
    by_nothing p c.args.file tree (subst (λ o. IsNamedBy p c.args.file tree (option_map type_of o)) c.in-None.is c.in_ok-named_type.ensures)

pub returns-in-Some : goal.returns-in-Some
returns-in-Some c =
    let p = package_of c.args.pkg in
    let tree = type_view c.args.written.now in
    let names : IsNamedBy p c.args.file tree (Some (type_of c.in-Some.named)) =
    subst (λ o. IsNamedBy p c.args.file tree (option_map type_of o)) c.in-Some.is c.in_ok-named_type.ensures in
    IfOk-weaker c.step_from.result _ _ (λ s h. by_type p c.is_well_formed.ensures c.args.file tree (type_of c.in-Some.named) names s h) c.step_from.ensures
