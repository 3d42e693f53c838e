-- The answers to the goals of `untouched::may_rename`.
use Rattle.std.proofs.Common.{sym, ◌∙◌}
use Rattle.std.proofs.lemmas.Bool.{true≢false}
use Rattle.go_ast.specs.SourceFile.{source_of}
use Rattle.refactor_move.proofs.NoEdits.{none_named, no_new_name}
use Rattle.refactor_move.proofs.untouched.may_rename.Goals as goal

pub returns-then-own : goal.returns-then-own
returns-then-own c = λ e. absurd (true≢false (sym c.if-own.true ∙ e))

pub returns-else-own : goal.returns-else-own
returns-else-own c = λ e.
    let of = c.args.of.now in
    none_named of.path.now of.rank (source_of of.file.now) of.moved.now of.rows.now c.is_of_moved-own.result c.is_of_moved-own.ensures c.if-own.false
    (sym c.has_mark-marked.ensures ∙ e)

pub returns-else-named : goal.returns-else-named
returns-else-named c = λ e.
    let of = c.args.of.now in
    no_new_name of.path.now of.rank (source_of of.file.now) of.moved.now of.rows.now (sym c.is_some-named.ensures ∙ e)
