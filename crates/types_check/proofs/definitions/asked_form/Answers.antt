-- The answers to the goals of `definitions::asked_form`.
use Rattle.std.proofs.Common.{subst}
use Rattle.std.specs.Prelude.{None, Some, option_map}
use Rattle.go_ast.specs.View.{list_view}
use Rattle.go_ast.specs.FileView.{method_view, param_view, results_view}
use Rattle.types_expr.specs.View.{form_of, signature_of}
use Rattle.types_declared.specs.Definitions.{IsSignatureFound}
use Rattle.types_declared.specs.PackageView.{package_of}
use Rattle.types_check.proofs.Building.{signature_written}
use Rattle.types_check.proofs.definitions.asked_form.Goals as goal

pub returns-in-None : goal.returns-in-None
unfolding method_view
returns-in-None c =
    let p = package_of c.args.of.now.pkg in
    let m = c.args.method.now in
    let found = subst (λ ps. IsSignatureFound p c.args.file (list_view param_view ps) (results_view m.results) (option_map signature_of c.in_ok-found.found))
    c.deref.ensures.value c.in_ok-found.ensures in
    signature_written p c.args.file (list_view param_view m.params.items) (results_view m.results) None
    (subst (λ o. IsSignatureFound p c.args.file (list_view param_view m.params.items) (results_view m.results) (option_map signature_of o)) c.in-None.is found)

pub returns-in-Some : goal.returns-in-Some
unfolding form_of method_view
returns-in-Some c =
    let p = package_of c.args.of.now.pkg in
    let m = c.args.method.now in
    let found = subst (λ ps. IsSignatureFound p c.args.file (list_view param_view ps) (results_view m.results) (option_map signature_of c.in_ok-found.found))
    c.deref.ensures.value c.in_ok-found.ensures in
    signature_written p c.args.file (list_view param_view m.params.items) (results_view m.results) (Some (signature_of c.in-Some.signature))
    (subst (λ o. IsSignatureFound p c.args.file (list_view param_view m.params.items) (results_view m.results) (option_map signature_of o)) c.in-Some.is found)
