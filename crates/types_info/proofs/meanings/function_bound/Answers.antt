-- The answers to the goals of `meanings::function_bound`.
use Rattle.std.proofs.Common.{subst, arith}
use Rattle.std.specs.Prelude.{Some, None, option_map}
use Rattle.types_expr.specs.View.{signature_of}
use Rattle.types_expr.specs.WorldView.{bound_of}
use Rattle.types_declared.specs.Package.{package_functions}
use Rattle.types_declared.specs.DeclaredView.{function_of}
use Rattle.types_declared.specs.Definitions.{IsFoundSignature}
use Rattle.types_declared.specs.PackageView.{package_of}
use Rattle.types_info.proofs.DeclaredMeanings.{rank_within, function_found}
use Rattle.types_info.proofs.meanings.function_bound.Goals as goal

pub index-function-requires : goal.index-function-requires
index-function-requires c =
    omega (
      arith,
      rank_within function_of c.args.index.now.declared.functions.items (package_functions (package_of c.args.pkg)) c.args.rank
          c.requires.function.item c.requires.index.functions c.requires.function.has_rank,
    )

pub returns-in-None : goal.returns-in-None
unfolding bound_of
returns-in-None c =
    let p = package_of c.args.pkg in
    let x = c.index-function.result.now in
    function_found p c.args.index.now.declared.functions.items c.args.d c.args.rank x None c.requires.index.functions c.requires.level c.requires.function
    c.index-function.ensures
    (subst (λ o. IsFoundSignature p (function_of x) (option_map signature_of o)) c.in-None.is c.in_ok-signature.ensures)

pub returns-in-Some : goal.returns-in-Some
unfolding bound_of
returns-in-Some c =
    let p = package_of c.args.pkg in
    let x = c.index-function.result.now in
    function_found p c.args.index.now.declared.functions.items c.args.d c.args.rank x (Some (signature_of c.in-Some.own)) c.requires.index.functions
    c.requires.level c.requires.function c.index-function.ensures
    (subst (λ o. IsFoundSignature p (function_of x) (option_map signature_of o)) c.in-Some.is c.in_ok-signature.ensures)
