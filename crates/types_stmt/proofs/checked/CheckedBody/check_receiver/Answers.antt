-- The answers to the goals of `checked::CheckedBody::check_receiver`.
use Rattle.std.proofs.Common.{ap, ◌∙◌, option_map}
use Rattle.std.proofs.lemmas.Result.{on_ok_weaker}
use Rattle.go_ast.specs.View.{ident_view}
use Rattle.go_ast.specs.FileView.{receiver_view}
use Rattle.types_expr.specs.View.{type_of}
use Rattle.types_expr.specs.WorldView.{world_of}
use Rattle.types_expr.specs.Found.{locals_of}
use Rattle.types_stmt.specs.Sides.{declared_if, named, with_locals}
use Rattle.types_stmt.specs.Headers.{judge_receiver, check_receiver}
use Rattle.types_stmt.specs.View.{checked_with}
use Rattle.types_stmt.proofs.CheckedSums.{declared_then}
use Rattle.types_stmt.proofs.checked.CheckedBody.check_receiver.Goals as goal

pub returns : goal.returns
unfolding check_receiver with_locals receiver_view
returns c =
    on_ok_weaker c.declare_if.result (λ q. ap (λ ks. checked_with ks c.receiver_type.new.found)
    (q ∙ (ap (λ n. declared_if (locals_of c.args.self.now.locals) n (option_map type_of c.in_ok-own.own)) c.named.ensures
    ∙ ap (λ t. declared_if (locals_of c.args.self.now.locals) (named (ident_view c.args.receiver.now.ident)) t) c.in_ok-own.ensures.found))
    ∙ declared_then (locals_of c.args.self.now.locals) c.in_ok-own.ensures
    (declared_if (locals_of c.args.self.now.locals) (named (ident_view c.args.receiver.now.ident))
    (judge_receiver (world_of c.args.world.now) (receiver_view c.args.receiver.now)).type_of)) c.declare_if.ensures
