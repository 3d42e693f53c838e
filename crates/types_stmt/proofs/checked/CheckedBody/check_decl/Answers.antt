-- The answers to the goals of `checked::CheckedBody::check_decl`.
use Rattle.std.proofs.Common.{ap, sym, ◌∙◌}
use Rattle.std.proofs.lemmas.Result.{on_ok_weaker}
use Rattle.go_ast.specs.FileView.{decl_view, func_view}
use Rattle.types_expr.specs.WorldView.{world_of}
use Rattle.types_stmt.specs.Headers.{check_function}
use Rattle.types_stmt.specs.Declarations.{check_decl}
use Rattle.types_stmt.specs.View.{checked_of, is_init_in}
use Rattle.types_stmt.proofs.checked.CheckedBody.check_decl.Goals as goal

pub returns-in-Var : goal.returns-in-Var
unfolding check_decl decl_view
returns-in-Var c =
    on_ok_weaker c.check_globals.result (λ q. q ∙ ap (λ v.
    check_decl (world_of c.args.world.now) (is_init_in c.args.world.now) (checked_of c.args.self.now) (decl_view v)) (sym c.in-Var.is))
    c.check_globals.ensures

pub returns-in-Type : goal.returns-in-Type
unfolding check_decl decl_view
returns-in-Type c =
    on_ok_weaker c.check_types.result (λ q. q ∙ ap (λ v.
    check_decl (world_of c.args.world.now) (is_init_in c.args.world.now) (checked_of c.args.self.now) (decl_view v)) (sym c.in-Type.is))
    c.check_types.ensures

pub returns-in-Func : goal.returns-in-Func
unfolding check_decl decl_view func_view
returns-in-Func c =
    on_ok_weaker c.check_function.result (λ q. q ∙ (ap
    (λ b. check_function (world_of c.args.world.now) b (checked_of c.args.self.now) (func_view c.in-Func.func)) c.is_init-named_init.ensures
    ∙ ap (λ v. check_decl (world_of c.args.world.now) (is_init_in c.args.world.now) (checked_of c.args.self.now) (decl_view v)) (sym c.in-Func.is)))
    c.check_function.ensures
