-- The answers to the goals of `tables::row_by_table`.
use Rattle.std.proofs.Common.{◌≡◌, length, ap, subst, ◌∙◌, arith}
use Rattle.go_scanner.specs.CutText.{tokens_in}
use Rattle.go_ast.specs.SourceFile.{source_of}
use Rattle.types_declared.specs.PackageView.{package_of}
use Rattle.refactor_move.specs.FileEdits.{IsImportUse}
use Rattle.refactor_move.specs.Steps.{AreMarksOf}
use Rattle.refactor_follow.specs.MoveReadings.{move_from}
use Rattle.refactor_follow.proofs.MarkedRows.{no_row, one_row_more}
use Rattle.refactor_follow.proofs.tables.row_by_table.Goals as goal

pub loop-token-init : goal.loop-token-init
loop-token-init c = no_row (IsImportUse (package_of c.args.unit) c.args.rank (move_from c.args.path.now)) c.new-row.result.items c.new-row.ensures.items

pub loop-token-preserved : goal.loop-token-preserved
loop-token-preserved c =
    one_row_more (IsImportUse (package_of c.args.unit) c.args.rank (move_from c.args.path.now)) c.loop-token.token c.loop-token.row.items
    c.push.new.self.items c.is_import_use.result c.loop-token.invariant c.in_ok-push.ensures.items c.is_import_use.ensures

pub returns : goal.returns
returns c =
    let size : length c.tokens-tokens.result.now ≡ length (tokens_in (source_of c.args.file.now).cut) =
    ap length (c.tokens-tokens.ensures.tokens ∙ ap tokens_in c.pieces.ensures) in
    subst (λ n. AreMarksOf (IsImportUse (package_of c.args.unit) c.args.rank (move_from c.args.path.now)) n c.loop-token.row.items)
    (let z : c.loop-token.token ≡ length c.tokens-tokens.result.now = omega arith in z ∙ size) c.loop-token.invariant
