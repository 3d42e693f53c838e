-- The answers to the goals of `checked::CheckedBody::check_global`.
use Rattle.std.proofs.lemmas.Result.{on_ok_weaker}
use Rattle.types_expr.specs.Found.{locals_of}
use Rattle.types_stmt.proofs.CheckedSums.{noted_given}
use Rattle.types_stmt.proofs.checked.CheckedBody.check_global.Goals as goal

pub returns : goal.returns
returns c = on_ok_weaker c.note_global_faults.result (noted_given (locals_of c.args.self.now.locals)) c.note_global_faults.ensures
