-- The answers to the goals of `signatures::signature`.
use Rattle.std.proofs.Common.{subst}
use Rattle.std.specs.Prelude.{IfOk, option_map}
use Rattle.go_ast.specs.View.{list_view}
use Rattle.go_ast.specs.FileView.{func_view, param_view, results_view}
use Rattle.types_expr.specs.View.{signature_of}
use Rattle.types_declared.specs.Definitions.{IsSignatureFound}
use Rattle.types_declared.specs.PackageView.{package_of}
use Rattle.types_info.proofs.signatures.signature.Goals as goal

pub returns : goal.returns
unfolding func_view
returns c =
    let p = package_of c.args.pkg in
    let f = c.args.function in
    subst (λ ps. IfOk c.written_signature.result (λ s. IsSignatureFound p f.file (list_view param_view ps) (results_view f.func.now.results)
    (option_map signature_of s))) c.deref.ensures.value c.written_signature.ensures
