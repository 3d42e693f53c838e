-- The answers to the goals of `signatures::valid_types`.
use Rattle.std.proofs.Common.{subst, arith}
use Rattle.std.specs.Prelude.{Some, None, option_map}
use Rattle.go_ast.specs.View.{type_view}
use Rattle.types_expr.specs.View.{type_of}
use Rattle.types_declared.specs.PackageView.{package_of}
use Rattle.types_declared.specs.Written.{IsTypeOf}
use Rattle.types_declared.specs.WrittenView.{IsTypeFound}
use Rattle.types_info.specs.SignatureView.{tree_of}
use Rattle.types_info.proofs.TypeLists.{next_type, no_type_for}
use Rattle.types_info.proofs.signatures.valid_types.Goals as goal

pub returns-in-None : goal.returns-in-None
returns-in-None c =
    let p = package_of c.args.pkg in
    let none : IsTypeFound p c.args.file (type_view c.one-item.result.now) None =
    subst (λ o. IsTypeFound p c.args.file (type_view c.one-item.result.now) (option_map type_of o)) c.in-None.is c.in_ok-valid_type.ensures in
    no_type_for p c.args.file tree_of c.args.written.now c.loop-one.one-index c.one-item.result (omega arith)
    (subst (λ z. IsTypeFound p c.args.file (tree_of z) None) c.one-item.is none)

pub loop-one-preserved : goal.loop-one-preserved
loop-one-preserved c =
    let p = package_of c.args.pkg in
    let some : IsTypeFound p c.args.file (type_view c.one-item.result.now) (Some (type_of c.in-Some.own)) =
    subst (λ o. IsTypeFound p c.args.file (type_view c.one-item.result.now) (option_map type_of o)) c.in-Some.is c.in_ok-valid_type.ensures in
    next_type p c.args.file tree_of type_of c.args.written.now c.loop-one.types.items c.push.new.self.items c.loop-one.one-index c.one-item.result
    c.in-Some.own (omega arith)
    c.in_ok-push-in-Some.ensures.items (subst (λ z. IsTypeOf p c.args.file (tree_of z) (type_of c.in-Some.own)) c.one-item.is some) c.loop-one.invariant
