-- The answers to the goals of `declarations::add_decl`.
use Rattle.std.proofs.Common.{ap, sym}
use Rattle.go_scope.specs.IdentifierViews.{as_source}
use Rattle.go_scope.proofs.Adding.{call_adds}
use Rattle.go_scope.specs.FileSites.{decl_sites}
use Rattle.go_ast.specs.FileView.{decl_view}
use Rattle.go_scope.proofs.declarations.add_decl.Goals as goal

pub returns-in-Var : goal.returns-in-Var
unfolding decl_sites decl_view
returns-in-Var c = call_adds _ _ c.add_var_specs.result c.add_var_specs.ensures
    (ap (λ v. decl_sites (as_source c.args.source.now) (decl_view v)) (sym c.in-Var.is))

pub returns-in-Type : goal.returns-in-Type
unfolding decl_sites decl_view
returns-in-Type c = call_adds _ _ c.add_type_specs.result c.add_type_specs.ensures
    (ap (λ v. decl_sites (as_source c.args.source.now) (decl_view v)) (sym c.in-Type.is))

pub returns-in-Func : goal.returns-in-Func
unfolding decl_sites decl_view
returns-in-Func c = call_adds _ _ c.add_func.result c.add_func.ensures (ap (λ v. decl_sites (as_source c.args.source.now) (decl_view v)) (sym c.in-Func.is))
