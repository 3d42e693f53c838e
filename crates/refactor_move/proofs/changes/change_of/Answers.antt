-- The answers to the goals of `changes::change_of`.
use Rattle.std.proofs.Common.{sym, subst}
use Rattle.std.specs.Prelude.{Option, Ok}
use Rattle.base_edits.specs.declared.change.FileChange.{FileChange}
use Rattle.refactor_move.specs.Steps.{FindsChange}
use Rattle.refactor_move.proofs.Changing.{told_change, change_refused}
use Rattle.refactor_move.proofs.changes.change_of.Goals as goal

pub returns-in-Err : goal.returns-in-Err
returns-in-Err c = change_refused c.args.moved.now c.args.path.now c.args.edits.now c.in-Err.refusal c.in-Err.ensures

pub returns-in_ok-change_to-in-Ok : goal.returns-in_ok-change_to-in-Ok
returns-in_ok-change_to-in-Ok c =
    let m = c.args.moved.now in
    subst (λ (o : Option FileChange). FindsChange m c.args.path.now c.args.edits.now (Ok o)) (sym c.in_ok-change_to-in-Ok.ensures)
    (told_change m c.args.path.now c.args.edits.now c.in-Ok.new c.in-Ok.ensures)
