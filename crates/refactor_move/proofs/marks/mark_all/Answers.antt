-- The answers to the goals of `marks::mark_all`.
use Rattle.std.proofs.Common.{subst, arith}
use Rattle.std.proofs.lemmas.List.{take_all}
use Rattle.refactor_move.specs.Steps.{NewMarks, IsLiteralAmong}
use Rattle.refactor_move.proofs.Marking.{none_marked, next_marked}
use Rattle.refactor_move.proofs.marks.mark_all.Goals as goal

pub loop-import-init : goal.loop-import-init
loop-import-init c = none_marked c.args.imports.now c.args.marks.now.items

pub loop-import-preserved : goal.loop-import-preserved
loop-import-preserved c =
    next_marked c.args.imports.now c.loop-import.import-index c.import-item.result c.args.marks.now.items c.loop-import.marks.items c.mark.new.marks.items
    c.loop-import-test.true c.import-item.is c.loop-import.invariant c.mark.ensures

pub returns : goal.returns
returns c =
    subst (λ es. NewMarks c.args.marks.now.items c.loop-import.marks.items (IsLiteralAmong es))
    (take_all c.loop-import.import-index c.args.imports.now (omega (arith, c.loop-import-test.false))) c.loop-import.invariant
