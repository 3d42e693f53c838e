-- The answers to the goals of `checked::CheckedBody::check_param`.
use Rattle.std.proofs.Common.{ap, ◌∙◌, option_map}
use Rattle.std.proofs.lemmas.Result.{on_ok_weaker}
use Rattle.go_ast.specs.View.{list_view, ident_view, type_view}
use Rattle.go_ast.specs.FileView.{param_view}
use Rattle.types_expr.specs.Judge.{judge_type}
use Rattle.types_expr.specs.View.{type_of}
use Rattle.types_expr.specs.WorldView.{world_of}
use Rattle.types_expr.specs.Found.{locals_of}
use Rattle.types_stmt.specs.Simple.{written_locals}
use Rattle.types_stmt.specs.Headers.{check_param}
use Rattle.types_stmt.specs.View.{checked_with}
use Rattle.types_stmt.proofs.CheckedSums.{declared_then}
use Rattle.types_stmt.proofs.checked.CheckedBody.check_param.Goals as goal

pub returns : goal.returns
unfolding check_param param_view
returns c =
    on_ok_weaker c.declare_written.result (λ q. ap (λ ks. checked_with ks c.judge_type.new.self)
    (q ∙ (ap (λ ns. written_locals (locals_of c.args.self.now.locals) (list_view ident_view ns) (option_map type_of c.in_ok-own.own)) c.deref.ensures.value
    ∙ ap (λ t. written_locals (locals_of c.args.self.now.locals) (list_view ident_view c.args.param.now.names.items) t) c.in_ok-own.ensures.found))
    ∙ declared_then (locals_of c.args.self.now.locals) c.in_ok-own.ensures
    (written_locals (locals_of c.args.self.now.locals) (list_view ident_view c.args.param.now.names.items)
    (judge_type (world_of c.args.world.now) (type_view c.args.param.now.param_type)).type_of)) c.declare_written.ensures
