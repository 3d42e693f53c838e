-- The answers to the goals of `file_edits::add_path`.
use Rattle.std.proofs.Common.{◌≡◌, ◌++◌}
use Rattle.std.proofs.lemmas.Result.{on_ok_weaker}
use Rattle.go_ast.specs.SourceFile.{source_of}
use Rattle.refactor_move.specs.Steps.{edits_with}
use Rattle.refactor_move.proofs.TokenEdits.{end_with, path_adds}
use Rattle.refactor_move.proofs.file_edits.add_path.Goals as goal

pub returns-clause-order : goal.returns-clause-order
returns-clause-order c =
    let a = c.args.edits.now.items in
    let b = c.push_some.new.edits.items in
    let more = λ (e : b ≡ a ++ edits_with c.args.token.span c.in_ok-text.text). end_with a b c.args.token.span c.in_ok-text.text e c.requires.order
    c.requires.span in
    on_ok_weaker c.push_some.result more c.push_some.ensures

pub returns-clause-adds : goal.returns-clause-adds
returns-clause-adds c =
    let a = c.args.edits.now.items in
    let b = c.push_some.new.edits.items in
    let f = source_of c.args.file.now in
    let m = c.args.moved.now in
    let more = λ (e : b ≡ a ++ edits_with c.args.token.span c.in_ok-text.text).
    path_adds f m c.args.number c.args.token c.in_ok-text.text c.requires.at c.requires.is_import c.in_ok-text.ensures a b e in
    on_ok_weaker c.push_some.result more c.push_some.ensures
