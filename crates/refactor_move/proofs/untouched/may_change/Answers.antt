-- The answers to the goals of `untouched::may_change`.
use Rattle.std.proofs.lemmas.Result.{IfOk-weaker}
use Rattle.std.specs.Prelude.{◌≡◌, false}
use Rattle.go_ast.specs.SourceFile.{source_of}
use Rattle.refactor_move.specs.Untouched.{HasNoMovedImport, HasNoMarkedEdit}
use Rattle.refactor_move.proofs.NoEdits.{no_edits}
use Rattle.refactor_move.proofs.untouched.may_change.Goals as goal

pub returns : goal.returns
returns c =
    let of = c.args.of.now in
    let f = source_of of.file.now in
    IfOk-weaker c.imports_moved.result (λ some. some ≡ false → HasNoMovedImport f of.moved.now)
    (λ may. may ≡ false → HasNoMarkedEdit of.path.now of.rank f of.moved.now of.rows.now)
    (λ some h e. no_edits of.path.now of.rank f of.moved.now of.rows.now (h e) (c.may_rename.ensures c.if-may_rename.false)) c.imports_moved.ensures
