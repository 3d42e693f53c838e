-- The answers to the goals of `file_edits::add_edit`.
use Rattle.std.proofs.Common.{◌≡◌, rules}
use Rattle.std.proofs.lemmas.Result.{on_ok_weaker}
use Rattle.go_scanner.specs.declared.piece.Class.TheVariants.{Name}
use Rattle.go_ast.specs.SourceFile.{source_of}
use Rattle.refs_binding.specs.Bindings.{AddsAll}
use Rattle.refactor_move.specs.Uses.{ReplacesMarkedName}
use Rattle.refactor_move.proofs.TokenEdits.{no_path_at_name, names_are_edits}
use Rattle.refactor_move.proofs.file_edits.add_edit.Goals as goal

pub returns-then-eq-clause-adds : goal.returns-then-eq-clause-adds
returns-then-eq-clause-adds c =
    let of = c.args.of.now in
    let f = source_of of.file.now in
    let m = of.moved.now in
    let i = c.args.number in
    let a = c.args.edits.now.items in
    let b = c.add_name.new.edits.items in
    let name : c.args.token.class ≡ Name = search rules in
    let more = λ (k : AddsAll a b (ReplacesMarkedName of.path.now of.rank f m of.rows.now i)). names_are_edits of.path.now of.rank f m of.rows.now i a b
    (λ e h. no_path_at_name f m i c.args.token e c.requires.at name h) k in
    on_ok_weaker c.add_name.result more c.add_name.ensures.adds
