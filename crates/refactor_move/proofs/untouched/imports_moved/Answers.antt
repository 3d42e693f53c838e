-- The answers to the goals of `untouched::imports_moved`.
use Rattle.std.proofs.Common.{sym, subst, ◌∙◌, arith}
use Rattle.std.proofs.lemmas.List.{take_all}
use Rattle.go_ast.specs.SourceFile.{source_of}
use Rattle.refactor_move.proofs.NoEdits.{NoneMoves, none_first, none_next, none_moves}
use Rattle.refactor_move.proofs.untouched.imports_moved.Goals as goal

pub loop-import-init : goal.loop-import-init
loop-import-init c = none_first (source_of c.args.file.now) c.args.moved.now c.deref-import-items.result.now

pub loop-import-preserved : goal.loop-import-preserved
loop-import-preserved c =
    none_next (source_of c.args.file.now) c.args.moved.now c.deref-import-items.result.now c.loop-import.import-index c.import-item.result
    c.in_ok-text.text c.loop-import-test.true c.import-item.is (sym c.is_some.ensures ∙ c.if-is_some.false) c.in_ok-text.ensures c.loop-import.invariant

pub returns : goal.returns
returns c = λ e.
    let f = source_of c.args.file.now in
    let m = c.args.moved.now in
    none_moves f m c.in_ok-imports.imports.items c.in_ok-imports.ensures
    (subst (NoneMoves f m) (take_all c.loop-import.import-index c.deref-import-items.result.now (omega (arith, c.loop-import-test.false)) ∙
    c.deref-import-items.ensures.value) c.loop-import.invariant)
