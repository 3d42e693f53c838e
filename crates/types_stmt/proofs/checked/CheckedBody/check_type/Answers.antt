-- The answers to the goals of `checked::CheckedBody::check_type`.
use Rattle.std.proofs.lemmas.Result.{on_ok_weaker}
use Rattle.go_ast.specs.FileView.{type_spec_view}
use Rattle.types_expr.specs.Found.{locals_of}
use Rattle.types_stmt.proofs.CheckedSums.{noted}
use Rattle.types_stmt.proofs.checked.CheckedBody.check_type.Goals as goal

pub returns : goal.returns
unfolding type_spec_view
returns c = on_ok_weaker c.note_body_faults.result (noted (locals_of c.args.self.now.locals)) c.note_body_faults.ensures
