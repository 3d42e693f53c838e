-- The answers to the goals of `marks::import_marks`.
use Rattle.std.proofs.Common.{◌≡◌, length, ap, subst, ◌∙◌}
use Rattle.std.specs.Prelude.{Contains}
use Rattle.go_scanner.specs.CutText.{tokens_in}
use Rattle.go_ast.specs.SourceFile.{source_of}
use Rattle.workspace_graph.specs.FileImports.{import_literals}
use Rattle.refactor_move.specs.Steps.{NewMarks, IsLiteralAmong, AreMarksOf}
use Rattle.refactor_move.proofs.Marking.{all_marked}
use Rattle.refactor_move.proofs.marks.import_marks.Goals as goal

pub returns : goal.returns
returns c =
    let f = source_of c.args.file.now in
    let old = c.in_ok-marks.marks.items in
    let new = c.mark_all.new.marks.items in
    let imports = c.in_ok-imports.imports.items in
    let size : length c.tokens-tokens.result.now ≡ length (tokens_in f.cut) = ap length (c.tokens-tokens.ensures.tokens ∙ ap tokens_in c.pieces.ensures) in
    let marked : NewMarks old new (IsLiteralAmong imports) = subst (λ es. NewMarks old new (IsLiteralAmong es)) c.deref.ensures.value c.mark_all.ensures in
    subst (λ n. AreMarksOf (Contains (import_literals f.tree)) n new) size
    (all_marked f imports (length c.tokens-tokens.result.now) old new c.in_ok-imports.ensures c.in_ok-marks.ensures marked)
