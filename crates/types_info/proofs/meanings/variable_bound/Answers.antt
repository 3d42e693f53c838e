-- The answers to the goals of `meanings::variable_bound`.
use Rattle.std.proofs.Common.{subst, arith}
use Rattle.std.specs.Prelude.{Some, None, option_map}
use Rattle.go_ast.specs.View.{type_view}
use Rattle.types_expr.specs.View.{type_of}
use Rattle.types_expr.specs.WorldView.{bound_of}
use Rattle.types_declared.specs.Package.{package_variables}
use Rattle.types_declared.specs.DeclaredView.{variable_of}
use Rattle.types_declared.specs.WrittenView.{IsTypeFound}
use Rattle.types_declared.specs.PackageView.{package_of}
use Rattle.types_info.proofs.DeclaredMeanings.{rank_within, variable_found}
use Rattle.types_info.proofs.meanings.variable_bound.Goals as goal

pub index-variable-requires : goal.index-variable-requires
index-variable-requires c =
    omega (
      arith,
      rank_within variable_of c.args.index.now.declared.variables.items (package_variables (package_of c.args.pkg)) c.args.rank
          c.requires.variable.item c.requires.index.variables c.requires.variable.has_rank,
    )

pub returns-in-None : goal.returns-in-None
unfolding bound_of
returns-in-None c =
    let p = package_of c.args.pkg in
    let x = c.index-variable.result.now in
    variable_found p c.args.index.now.declared.variables.items c.args.d c.args.rank x None c.requires.index.variables c.requires.level c.requires.variable
    c.index-variable.ensures
    (subst (λ o. IsTypeFound p x.file (type_view x.var_type.now) (option_map type_of o)) c.in-None.is c.in_ok-valid_type.ensures)

pub returns-in-Some : goal.returns-in-Some
unfolding bound_of
returns-in-Some c =
    let p = package_of c.args.pkg in
    let x = c.index-variable.result.now in
    variable_found p c.args.index.now.declared.variables.items c.args.d c.args.rank x (Some (type_of c.in-Some.own)) c.requires.index.variables
    c.requires.level c.requires.variable c.index-variable.ensures
    (subst (λ o. IsTypeFound p x.file (type_view x.var_type.now) (option_map type_of o)) c.in-Some.is c.in_ok-valid_type.ensures)
